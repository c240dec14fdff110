use Rattle.std.proofs.Common.{◌++◌, ◌∷◌, [], map, ap, ◌∙◌, append-nil}
use Rattle.symbols_paths.specs.PathTrees.{leaves_of_tree, leaves_of_forest}
use Rattle.symbols_paths.specs.Views.{path_by_specifier, paths_by_specifier, path_leaf_of_end}
use Rattle.symbols_paths.proofs.definition_path.DefinitionPathNode.into_definitions_or_unresolveds.Goals as goal

pub returns : goal.returns
returns c = λ root. c.in_ok-add_ends.ensures root
    ∙ ((λ i. map (path_leaf_of_end root) (c.new-left.ensures.items i) ++ leaves_of_forest (paths_by_specifier root
    ((c.in_ok-push.ensures.items ∙ ap (λ paths. paths ++ c.args.self ∷ []) c.new-paths.ensures.items) i)))
    ∙ append-nil (leaves_of_tree (path_by_specifier root c.args.self)))
