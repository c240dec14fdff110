use Rattle.std.proofs.Common.{subst}
use Rattle.symbols_table.proofs.NamePaths.{part_greater}
use Rattle.symbols_table.specs.inner.NamePaths.{IsNameOfPathSuffixIfAny}
use Rattle.symbols_table.specs.SymbolViews.{symbol_view}
use Rattle.std.specs.Cow.{cow_str_bytes}
use Rattle.symbols_table.proofs.info.qualified_name.name_from.Goals as goal

pub returns-in_ok-name_with_outer-in-Some : goal.returns-in_ok-name_with_outer-in-Some
returns-in_ok-name_with_outer-in-Some c path viewed has_name =
    part_greater (symbol_view c.args.symbol.now) path c.in-Some.inner c.in_ok-name_with_outer-in-Some.field-0 (cow_str_bytes c.args.name)
    (subst (λ o. IsNameOfPathSuffixIfAny o path) c.in-Some.is viewed) has_name c.in_ok-name_with_outer-in-Some.ensures.number
    c.in_ok-name_with_outer-in-Some.ensures.text
