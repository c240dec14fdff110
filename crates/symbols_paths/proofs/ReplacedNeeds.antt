-- The definitions that replaced paths have at their ends are needed, if those of the replacements are.
use Rattle.std.proofs.Common.{◌≡◌, List, [], ◌∷◌, ◌++◌, map, Option, None, Some}
use Rattle.std.proofs.Common.{refl, sym, ap, subst, arith, option_to_list}
use Rattle.std.specs.Prelude.{Contains}
use Rattle.std.proofs.lemmas.List.Elements.{Contains-append_left, Contains-append_right}
use Rattle.symbols_root.specs.Roots.{RootView}
use Rattle.symbols_root.specs.Growing.{HasGrown}
use Rattle.symbols_paths.specs.declared.path_builder.PathBuilder.{PathBuilder}
use Rattle.symbols_paths.specs.PathTrees.{QualifiedNameParts, definition, unresolved, PathTree, PathForest}
use Rattle.symbols_paths.specs.PathTrees.{leaf, link, no_trees, more_trees, joined_forests}
use Rattle.symbols_paths.specs.Derived.{link_head_with_parts_replaced}
use Rattle.symbols_paths.specs.Views.{AreModulesStored}
use Rattle.symbols_paths.specs.inner.PathBuilders.{built_paths, built_path, built_paths_of_option, concat_forests, modules_of_builders}
use Rattle.symbols_paths.specs.inner.PathBuilders.{builders_among}
use Rattle.symbols_paths.specs.inner.ReplacedDefinitions.{definitions_of_forest, first_forest, forests_after_first, tree_with_definitions_replaced}
use Rattle.symbols_paths.specs.inner.ReplacedDefinitions.{forest_with_definitions_replaced}
use Rattle.symbols_paths.specs.inner.SearchInvariants.{SearchStart, AreDefinitionsOfNeededModules, ArePathsOfNeededModules}
use Rattle.symbols_paths.proofs.BuilderLemmas.{defined_join, stored_with_option}
use Rattle.symbols_paths.proofs.NextDecls.{built_with_option, needed_joined, needed_linked}

module _ {start : SearchStart} {root : RootView} (ps : QualifiedNameParts) where
  first_needed : (gs : List PathForest) → AreDefinitionsOfNeededModules start root (definitions_of_forest (concat_forests gs))
      → AreDefinitionsOfNeededModules start root (definitions_of_forest (first_forest gs))
      × AreDefinitionsOfNeededModules start root (definitions_of_forest (concat_forests (forests_after_first gs)))
  first_needed [] needed = (needed, needed)
  first_needed (g ∷ gs) needed = (
    λ x has. needed x (subst (λ xs. Contains xs x) (sym (defined_join g (concat_forests gs)))
        (Contains-append_left (definitions_of_forest g) (definitions_of_forest (concat_forests gs)) x has)),
    λ x has. needed x (subst (λ xs. Contains xs x) (sym (defined_join g (concat_forests gs)))
        (Contains-append_right (definitions_of_forest g) (definitions_of_forest (concat_forests gs)) x has)),
  )

  mutual
    rebuilt_tree_needed : (t : PathTree) (gs : List PathForest) → AreDefinitionsOfNeededModules start root (definitions_of_forest (concat_forests gs))
        → AreDefinitionsOfNeededModules start root (definitions_of_forest (tree_with_definitions_replaced ps t gs).0)
        × AreDefinitionsOfNeededModules start root (definitions_of_forest (concat_forests (tree_with_definitions_replaced ps t gs).1))
    rebuilt_tree_needed (leaf (definition x)) gs needed = first_needed gs needed
    rebuilt_tree_needed (leaf (unresolved m)) gs needed = (λ x has. absurd (omega (arith, has.1)), needed)
    rebuilt_tree_needed (link head next) gs needed =
        let h = rebuilt_needed next gs needed in
        (needed_linked (link_head_with_parts_replaced head ps) (forest_with_definitions_replaced ps next gs).0 h.0, h.1)

    pub rebuilt_needed : (f : PathForest) (gs : List PathForest) → AreDefinitionsOfNeededModules start root (definitions_of_forest (concat_forests gs))
        → AreDefinitionsOfNeededModules start root (definitions_of_forest (forest_with_definitions_replaced ps f gs).0)
        × AreDefinitionsOfNeededModules start root (definitions_of_forest (concat_forests (forest_with_definitions_replaced ps f gs).1))
    rebuilt_needed no_trees gs needed = (λ x has. absurd (omega (arith, has.1)), needed)
    rebuilt_needed (more_trees t f) gs needed =
        let h = rebuilt_tree_needed t gs needed in
        let k = rebuilt_needed f (tree_with_definitions_replaced ps t gs).1 h.1 in (
          needed_joined (tree_with_definitions_replaced ps t gs).0 (forest_with_definitions_replaced ps f (tree_with_definitions_replaced ps t gs).1).0 h.0 k.0,
          k.1,
        )

-- the replacements are the builders among them
pub replacements_built : (root : RootView) (xs : List (Option PathBuilder)) → concat_forests (map (built_paths_of_option root) xs) ≡ built_paths root
    (builders_among xs)
replacements_built root [] = refl
replacements_built root (None ∷ xs) = replacements_built root xs
replacements_built root (Some x ∷ xs) = ap (joined_forests (built_path root x)) (replacements_built root xs)

pub builders_with : (xs : List (Option PathBuilder)) (x : Option PathBuilder) → builders_among (xs ++ x ∷ []) ≡ builders_among xs ++ option_to_list x
builders_with [] None = refl
builders_with [] (Some x) = refl
builders_with (None ∷ xs) x = builders_with xs x
builders_with (Some y ∷ xs) x = ap (λ ys. y ∷ ys) (builders_with xs x)

-- one replacement more
pub replaced_valid : (start : SearchStart) (root : RootView) (xs : List (Option PathBuilder)) (x : Option PathBuilder)
    → ArePathsOfNeededModules start root (builders_among xs) → AreModulesStored root (modules_of_builders (option_to_list x))
    → ((later : RootView) → HasGrown root later → AreDefinitionsOfNeededModules start later (definitions_of_forest (built_paths_of_option later x)))
    → ArePathsOfNeededModules start root (builders_among (xs ++ x ∷ []))
replaced_valid start root xs x valid stored needed = subst (ArePathsOfNeededModules start root) (sym (builders_with xs x)) (record {
  stored = stored_with_option root (builders_among xs) x valid.stored stored;
  needed = λ later on. subst (λ f. AreDefinitionsOfNeededModules start later (definitions_of_forest f)) (sym (built_with_option later (builders_among xs) x))
      (needed_joined (built_paths later (builders_among xs)) (built_paths_of_option later x) (valid.needed later on) (needed later on));
})
