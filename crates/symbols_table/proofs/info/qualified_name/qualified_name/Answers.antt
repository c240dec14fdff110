use Rattle.std.proofs.Common.{sym, ap, ◌∙◌, arith}
use Rattle.std.specs.Option.{option_map, option_and_then}
use Rattle.std.specs.Cow.{cow_str_bytes}
use Rattle.symbols_table.specs.QualifiedNames.{text_unless_empty}
use Rattle.symbols_table.proofs.NamePaths.{module_name, lone_name}
use Rattle.symbols_table.proofs.info.qualified_name.qualified_name.Goals as goal

pub returns-in_default : goal.returns-in_default
returns-in_default c = module_name c.args.symbols.now c.args.symbol_id c.index-symbols-symbol_id.result c.requires.stored c.index-symbols-symbol_id.is
    c.in_default.is

pub returns-in_ok-lone_name-in-Some-2 : goal.returns-in_ok-lone_name-in-Some-2
returns-in_ok-lone_name-in-Some-2 c =
    let named = sym c.in_ok-name.ensures ∙ ap (option_map cow_str_bytes) c.in-Some-2.is in
    c.in_ok-lone_name-in-Some-2.ensures ∙ (ap text_unless_empty c.as_str.ensures.value ∙ (sym (ap (option_and_then text_unless_empty) named)
    ∙ lone_name c.args.symbols.now c.requires.lawful.0 c.args.symbol_id c.in-Some.parent c.index-symbols-symbol_id.result c.requires.lawful.1
    c.requires.stored c.index-symbols-symbol_id.is c.in-Some.is (omega arith)))

pub returns-in-None : goal.returns-in-None
returns-in-None c =
    let named = sym c.in_ok-name.ensures ∙ ap (option_map cow_str_bytes) c.in-None.is in
    sym (ap (option_and_then text_unless_empty) named) ∙ lone_name c.args.symbols.now c.requires.lawful.0 c.args.symbol_id c.in-Some.parent
    c.index-symbols-symbol_id.result c.requires.lawful.1 c.requires.stored c.index-symbols-symbol_id.is c.in-Some.is (omega arith)
