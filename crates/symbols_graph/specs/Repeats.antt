-- Repeated entries of a list.
use Rattle.std.specs.Prelude.{◌≡◌, ℕ, ◌<◌, List, Some, slice_get}

-- Entry i is x, and an earlier entry is x too.
abbrev pub IsRepeatedEntryAt : {A : Type 0} → List A → ℕ → A → Type 0
IsRepeatedEntryAt xs i x = (slice_get xs i ≡ Some x) × ((j : ℕ) × (j < i) × (slice_get xs j ≡ Some x))
