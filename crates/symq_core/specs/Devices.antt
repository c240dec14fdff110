-- What counts as a failure of an input or an output.
use Rattle.std.specs.Prelude.{ℕ, zero, suc, ◌-◌, ◌^◌, Result, Ok, Err}

-- the highest count of failures
abbrev pub COUNT_LIMIT : ℕ
COUNT_LIMIT = 2 ^ 64 - 1

abbrev pub failures_in_read : {E : Type 0} → Result ℕ E → ℕ
failures_in_read (Ok n) = 0
failures_in_read (Err e) = 1

-- a write that accepts nothing is a failure too
abbrev pub failures_in_write : {E : Type 0} → Result ℕ E → ℕ
failures_in_write (Ok zero) = 1
failures_in_write (Ok (suc n)) = 0
failures_in_write (Err e) = 1
