-- What a call writes to the caller's buffer.
use Rattle.std.specs.Prelude.{◌≡◌, ℕ, ◌++◌, List, length, take, drop}

-- the bytes are at the front of the buffer, cut off at its end, and the remaining bytes are as before; needed is the full length
abbrev pub IsTruncatedCopyToBuffer : List ℕ → List ℕ → List ℕ → ℕ → Type 0
IsTruncatedCopyToBuffer bytes old new needed = (needed ≡ length bytes) × (new ≡ take (length old) bytes ++ drop (length bytes) old)
