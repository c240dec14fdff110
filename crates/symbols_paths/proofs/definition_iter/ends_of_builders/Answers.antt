use Rattle.std.proofs.Common.{◌++◌, map, sym, ap, subst, ◌∙◌}
use Rattle.symbols_paths.specs.PathTrees.{leaves_of_forest}
use Rattle.symbols_paths.specs.Views.{path_leaf_of_end, module_of_end, AreModulesStored}
use Rattle.symbols_paths.specs.inner.PathBuilders.{built_paths}
use Rattle.symbols_paths.proofs.BuilderLemmas.{none_stored}
use Rattle.symbols_paths.proofs.definition_iter.ends_of_builders.Goals as goal

pub returns-clause-view : goal.returns-clause-view
returns-clause-view c = λ root. c.in_ok-add_builder_ends.ensures.view root
    ∙ ap (λ xs. map (path_leaf_of_end root) xs ++ leaves_of_forest (built_paths root c.args.builders.items)) c.new-left.ensures.items

pub returns-clause-stored : goal.returns-clause-stored
returns-clause-stored c = λ root a. c.in_ok-add_builder_ends.ensures.stored root
    (subst (λ ends. AreModulesStored root (map module_of_end ends)) (sym c.new-left.ensures.items) (none_stored root)) a
