-- What each call on a builder leaves unchanged.
use Rattle.std.specs.Prelude.{◌≡◌, ◌≤◌, length, OnOk, Result}
use Rattle.symbols_table.specs.declared.builder.table.ModuleBuilder.{ModuleBuilder}
use Rattle.symbols_table.specs.declared.builder.table.BuildFault.{BuildFault}
use Rattle.symbols_table.specs.inner.Tables.{HasValidTable}

-- The settings are unchanged. If the call succeeds, the builder still has a valid table, with no fewer symbols.
pub record LeavesValidTableWithNoFewerSymbols {A : Type 0} (result : Result A BuildFault) (old new : ModuleBuilder) : Type 0 where
  pub setting : new.setting ≡ old.setting
  pub filled : OnOk result (HasValidTable new)
  pub longer : OnOk result (length old.symbols.items ≤ length new.symbols.items)

-- The settings are unchanged. If the call succeeds, the number of symbols is unchanged.
pub record LeavesSymbolCountUnchanged {A : Type 0} (result : Result A BuildFault) (old new : ModuleBuilder) : Type 0 where
  pub setting : new.setting ≡ old.setting
  pub count : OnOk result (length new.symbols.items ≡ length old.symbols.items)
