-- The result of a reading function, beside what its argument describes, which is None if it lacks the form.
use Rattle.std.specs.Prelude.{◌≡◌, ⊤, Option, Some, None, Result, Ok, Err}
use Rattle.symq_reader.specs.declared.faults.FormatFault.{FormatFault}
use Rattle.symq_reader.specs.declared.faults.FormatFault.TheVariants.{OutOfMemory, NotJson, BadForm}

-- `BadForm` says that the form is wrong; a failed allocation is possible for any value
abbrev pub IsReadFault : {B : Type 0} → Option B → FormatFault → Type 0
IsReadFault there OutOfMemory = ⊤
IsReadFault there NotJson = ⊥
IsReadFault there BadForm = there ≡ None

-- a returned value is the described one, as seen by view; a fault is right about it
abbrev pub IsReadResult : {A B : Type 0} → (A → B) → Result A FormatFault → Option B → Type 0
IsReadResult view (Ok x) there = there ≡ Some (view x)
IsReadResult view (Err fault) there = IsReadFault there fault
