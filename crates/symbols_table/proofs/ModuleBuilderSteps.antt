-- What a call on a builder leaves unchanged.
use Rattle.std.proofs.Common.{refl, arith}
use Rattle.std.specs.Prelude.{Ok}
use Rattle.symbols_table.specs.declared.builder.table.ModuleBuilder.{ModuleBuilder}
use Rattle.symbols_table.specs.inner.Tables.{HasValidTable}
use Rattle.symbols_table.specs.inner.ModuleBuilderSteps.{LeavesValidTableWithNoFewerSymbols}

-- A call that changes nothing keeps the table.
pub keeps_same : {A : Type 0} (x : A) (b : ModuleBuilder) → HasValidTable b → LeavesValidTableWithNoFewerSymbols (Ok x) b b
keeps_same x b filled = record { setting = refl; filled = filled; longer = omega arith }
