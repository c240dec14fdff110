-- A symbol at its next declaration, with one path more or none.
use Rattle.std.proofs.Common.{◌≡◌, ◌+◌, List, ◌++◌, Option, None, Some, option_to_list, sym, ap, subst, ◌∙◌, append-nil, inl, inr}
use Rattle.std.specs.Prelude.{Contains}
use Rattle.std.proofs.lemmas.List.Elements.{Contains-append_cases}
use Rattle.symbols_root.specs.Roots.{RootView}
use Rattle.symbols_root.specs.Growing.{HasGrown}
use Rattle.symbols_paths.specs.declared.path_builder.PathBuilder.{PathBuilder}
use Rattle.symbols_paths.specs.declared.search_step.Expansion.{Expansion}
use Rattle.symbols_paths.specs.PathTrees.{LinkHead, PathForest, joined_forests, forest_below_link_unless_empty}
use Rattle.symbols_paths.specs.Views.{AreModulesStored}
use Rattle.symbols_paths.specs.inner.PathBuilders.{built_paths, built_paths_of_option, modules_of_builders}
use Rattle.symbols_paths.specs.inner.ReplacedDefinitions.{definitions_of_forest}
use Rattle.symbols_paths.specs.inner.SearchInvariants.{SearchStart, AreDefinitionsOfNeededModules, IsExpansionOfNeededModule, IsExpansionAtNextDecl}
use Rattle.symbols_paths.proofs.BuilderLemmas.{named_with_builder, stored_with_option, defined_join, defined_link_to}
use Rattle.symbols_paths.proofs.LoopInvariants.{join_none}

pub built_with_option : (root : RootView) (paths : List PathBuilder) (path : Option PathBuilder)
    → built_paths root (paths ++ option_to_list path) ≡ joined_forests (built_paths root paths) (built_paths_of_option root path)
built_with_option root paths None = ap (built_paths root) (append-nil paths) ∙ sym (join_none (built_paths root paths))
built_with_option root paths (Some path) = named_with_builder root paths path

module _ (here next : Expansion) (path : Option PathBuilder) (more : RootView → PathForest) (symbol : next.symbol ≡ here.symbol)
    (index : next.index ≡ here.index + 1) (paths : next.paths.items ≡ here.paths.items ++ option_to_list path) where
  pub next_with : ((root : RootView) → built_paths_of_option root path ≡ more root) → IsExpansionAtNextDecl here next more
  next_with view = record {
    symbol = symbol;
    index = index;
    paths = λ root. ap (built_paths root) paths
        ∙ (built_with_option root here.paths.items path ∙ ap (joined_forests (built_paths root here.paths.items)) (view root));
  }

  pub next_stored : (root : RootView) → AreModulesStored root (modules_of_builders here.paths.items)
      → AreModulesStored root (modules_of_builders (option_to_list path)) → AreModulesStored root (modules_of_builders next.paths.items)
  next_stored root before added = subst (λ ps. AreModulesStored root (modules_of_builders ps)) (sym paths)
      (stored_with_option root here.paths.items path before added)

-- ---- the definitions needed

pub needed_joined : {start : SearchStart} {root : RootView} (f g : PathForest) → AreDefinitionsOfNeededModules start root (definitions_of_forest f)
    → AreDefinitionsOfNeededModules start root (definitions_of_forest g) → AreDefinitionsOfNeededModules start root (definitions_of_forest (joined_forests f g))
needed_joined f g first second x has =
    elim (Contains-append_cases (definitions_of_forest f) (definitions_of_forest g) x (subst (λ xs. Contains xs x) (defined_join f g) has)) [
      | inl a ↦ first x a
      | inr b ↦ second x b
    ]

pub needed_linked : {start : SearchStart} {root : RootView} (head : LinkHead) (f : PathForest) → AreDefinitionsOfNeededModules start root
    (definitions_of_forest f)
    → AreDefinitionsOfNeededModules start root (definitions_of_forest (forest_below_link_unless_empty head f))
needed_linked {start = start} {root = root} head f needed = subst (AreDefinitionsOfNeededModules start root) (sym (defined_link_to head f)) needed

-- the next declaration is as valid, if the paths that it adds are
pub next_valid : {start : SearchStart} {root : RootView} {here next : Expansion} {more : RootView → PathForest} → IsExpansionOfNeededModule start root here
    → IsExpansionAtNextDecl here next more → AreModulesStored root (modules_of_builders next.paths.items)
    → ((later : RootView) → HasGrown root later → AreDefinitionsOfNeededModules start later (definitions_of_forest (more later)))
    → IsExpansionOfNeededModule start root next
next_valid {start = start} {root = root} {here = here} {next = next} {more = more} valid is stored needed = record {
  stored = rw is.symbol valid.stored;
  needed = rw is.symbol valid.needed;
  paths = record {
    stored = stored;
    needed = λ later grown. subst (λ f. AreDefinitionsOfNeededModules start later (definitions_of_forest f)) (sym (is.paths later))
        (needed_joined (built_paths later here.paths.items) (more later) (valid.paths.needed later grown) (needed later grown));
  };
}
