-- The entries of the map of a root. Public contracts see only their specifiers.
use Rattle.std.specs.Prelude.{ℕ, List, map}
use Rattle.std.specs.Borrow.{Bor}
use Rattle.symbols_table.specs.declared.info.module_info.ModuleInfo.{ModuleInfo}

-- a stored module, by its own specifier
abbrev pub StoredModule : Type 0
StoredModule = Bor (List ℕ) × ModuleInfo

abbrev pub stored_specifiers : List StoredModule → List (List ℕ)
stored_specifiers entries = map (λ entry. entry.0.now) entries
