use Rattle.std.proofs.Common.{Some, sym, ap, ◌∙◌}
use Rattle.std.specs.Option.{option_map}
use Rattle.std.specs.Cow.{cow_str_bytes}
use Rattle.symbols_table.proofs.NamePaths.{falls, one_more, unnamed, whole_name, no_path}
use Rattle.symbols_table.proofs.info.qualified_name.name_along.Goals as goal

pub loop-number-smaller : goal.loop-number-smaller
loop-number-smaller c = falls c.args.symbols.now c.requires.lawful.0 c.loop-number.number c.in-Some.parent _ c.requires.lawful.1 c.loop-number.invariant.2
    c.in-Some.is

pub loop-number-preserved : goal.loop-number-preserved
loop-number-preserved c =
    let named = sym c.in_ok-name.ensures ∙ ap (option_map cow_str_bytes) c.in-Some-2.is in
    one_more c.args.symbols.now c.requires.lawful.0 c.args.symbol_id c.loop-number.number c.in-Some.parent c.index-symbols-number.result _ c.loop-number.inner
    c.in_ok-inner.inner (cow_str_bytes c.in-Some-2.name) c.requires.lawful.1 c.index-symbols-number.is c.in-Some.is named c.in_ok-inner.ensures
    c.loop-number.invariant

pub returns-in_default-2 : goal.returns-in_default-2
returns-in_default-2 c =
    let none = sym c.in_ok-name.ensures ∙ ap (option_map cow_str_bytes) c.in_default-2.is in
    unnamed c.args.symbols.now c.args.symbol_id c.loop-number.number c.in-Some.parent c.index-symbols-number.result _ c.loop-number.inner
    c.index-symbols-number.is c.in-Some.is none c.loop-number.invariant

pub returns-in_ok-whole_text-in-Some-inner : goal.returns-in_ok-whole_text-in-Some-inner
returns-in_ok-whole_text-in-Some-inner c = ap Some c.in_ok-whole_text-in-Some-inner.ensures ∙ whole_name c.args.symbols.now c.args.symbol_id
    c.loop-number.number _ c.loop-number.inner c.in-Some-inner.named c.in_default.is c.loop-number.invariant c.in-Some-inner.is

pub returns-in-None : goal.returns-in-None
returns-in-None c = no_path c.args.symbols.now c.args.symbol_id c.loop-number.number _ c.loop-number.inner c.in_default.is c.loop-number.invariant c.in-None.is
