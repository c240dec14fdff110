-- What holds before and after a call on a root.
use Rattle.std.specs.Prelude.{◌≡◌, ◌<◌, ◌⊎◌, ℕ, List, length, Result, IfErr}
use Rattle.symbols_ast.specs.declared.ids.ModuleId.{ModuleId}
use Rattle.symbols_table.specs.declared.info.fault.SymbolsFault.{SymbolsFault}
use Rattle.symbols_table.specs.declared.info.fault.SymbolsFault.TheVariants.{OutOfMemory}
use Rattle.symbols_root.specs.TypesChains.{resolved_module_specifier, HasTypesDependency}
use Rattle.symbols_root.specs.Roots.{RootView, widest_limits, IsNeededAndNotStored}
use Rattle.symbols_root.specs.Growing.{HasGrown}

-- a module of this number is stored
abbrev pub IsStored : RootView → ModuleId → Type 0
IsStored root module_id = module_id.0 < length root.stored

-- by the widest limits a call fails only with `OutOfMemory`
abbrev pub IsOnlyOutOfMemoryByWidestLimits : {A : Type 0} → RootView → Result A SymbolsFault → Type 0
IsOnlyOutOfMemoryByWidestLimits root result = root.limits ≡ widest_limits → IfErr result (λ fault. fault ≡ OutOfMemory)

-- resolving the specifier can fail only then: its module isn't stored, or the module that it names has a types dependency to follow
abbrev pub IsUnstoredOrHasTypesDependency : RootView → List ℕ → Type 0
IsUnstoredOrHasTypesDependency root specifier =
    ((needed : List ℕ) × IsNeededAndNotStored root (resolved_module_specifier root.graph specifier) needed) ⊎ HasTypesDependency root.graph specifier

-- after a call: stored modules stay, a fault has one of these reasons, and by the widest limits it is `OutOfMemory`
pub record HasGrownAndFailsOnlyFor {A : Type 0} (old new : RootView) (reasons : SymbolsFault → Type 0) (result : Result A SymbolsFault) : Type 0 where
  pub grown : HasGrown old new
  pub refused : IfErr result reasons
  pub enough : IsOnlyOutOfMemoryByWidestLimits old result
