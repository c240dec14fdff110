use Rattle.std.proofs.Common.{◌≡◌, ◌<◌, length, option_copied, sym, ap, ◌∙◌, arith}
use Rattle.std.proofs.lemmas.Option.{slice_get_within}
use Rattle.symbols_answers.specs.Questions.{append_types_dependency}
use Rattle.symbols_queries.proofs.TypesWalks.{walking_first, walking_next, walking_over, types_found, no_types, no_module}
use Rattle.symbols_queries.proofs.inputs.add_types_dependencies.Goals as goal
use Rattle.symbols_queries.proofs.inputs.add_types_dependencies.Goals.{in-Some-get+in-Some-types_dependency+in_ok-add}
use Rattle.symbols_queries.proofs.inputs.add_types_dependencies.Goals.{in-Some-get+in_default-types_dependency, in_default-get}

pub loop-specifier-init : goal.loop-specifier-init
loop-specifier-init c = walking_first c.args.graph.now c.args.list.now

pub overflow_add-index : goal.overflow_add-index
overflow_add-index c =
    let within : c.loop-specifier.index < length c.loop-specifier.list = slice_get_within c.loop-specifier.list c.loop-specifier.index
    c.in-Some.specifier.now (sym c.in-Some.ensures.at) in
    omega (arith, within, c.in-Some.ensures.few)

pub loop-specifier-smaller : goal.loop-specifier-smaller
loop-specifier-smaller c =
    let within : c.loop-specifier.index < length c.loop-specifier.list = slice_get_within c.loop-specifier.list c.loop-specifier.index
    c.in-Some.specifier.now (sym c.in-Some.ensures.at) in
    omega (arith, within, c.in-Some.ensures.few)

pub loop-specifier-preserved : goal.loop-specifier-preserved
loop-specifier-preserved c =
    let graph = c.args.graph.now in
    let key = c.in-Some.specifier.now in
    let list = c.loop-specifier.list in
    let found = c.get-in-Some.ensures.found in
    let Adds = c.match-get-2.list ≡ append_types_dependency graph key list in
    let added : Adds = elim c.match-get-2.branch [
      | in-Some-get+in-Some-types_dependency+in_ok-add w ↦ types_found graph list c.match-get-2.list key w.in-Some-types_dependency.types.now
          w.in-Some-get.graph_module.now (sym found ∙ ap option_copied w.in-Some-get.is)
          (sym w.types_dependency.ensures ∙ ap option_copied w.in-Some-types_dependency.is) (w.list-is ∙ w.in_ok-add.ensures)
      | in-Some-get+in_default-types_dependency w ↦ no_types graph list c.match-get-2.list key w.in-Some-get.graph_module.now
          (sym found ∙ ap option_copied w.in-Some-get.is) (sym w.types_dependency.ensures ∙ ap option_copied w.in_default-types_dependency.is) w.list-is
      | in_default-get w ↦ no_module graph list c.match-get-2.list key (sym found ∙ ap option_copied w.in_default-get.is) w.list-is
    ] in
    walking_next graph c.args.list.now list c.match-get-2.list c.loop-specifier.index key c.loop-specifier.invariant c.in-Some.ensures.few
    (sym c.in-Some.ensures.at) added

pub returns-clause-listed : goal.returns-clause-listed
returns-clause-listed c = walking_over c.args.graph.now c.args.list.now c.loop-specifier.list c.loop-specifier.index c.loop-specifier.invariant
    (sym c.in_default.ensures.at)
