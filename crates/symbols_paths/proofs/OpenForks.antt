-- Paths that are built from builders, with the forks whose branches are being built as a list, the innermost first.
use Rattle.std.proofs.Common.{◌≡◌, ℕ, ◌+◌, ◌<◌, List, [], ◌∷◌, ◌++◌, reverse, Vec, Box, refl, sym, ◌∙◌, ap, subst, arith}
use Rattle.std.specs.Global.{Global}
use Rattle.std.proofs.lemmas.List.{reverse-reverse}
use Rattle.symbols_root.specs.Roots.{RootView}
use Rattle.symbols_paths.specs.declared.build_paths.OpenFork.{OpenFork}
use Rattle.symbols_paths.specs.declared.definition_path.DefinitionPathNode.{DefinitionPathNode}
use Rattle.symbols_paths.specs.declared.path_builder.Segment.{Segment}
use Rattle.symbols_paths.specs.declared.path_builder.PathBuilder.{PathBuilder}
use Rattle.symbols_paths.specs.declared.path_builder.PathBuilder.TheVariants as builder
use Rattle.symbols_paths.specs.PathTrees.{PathForest, joined_forests}
use Rattle.symbols_paths.specs.Views.{paths_by_specifier, modules_of_paths, AreModulesStored}
use Rattle.symbols_paths.specs.inner.PathBuilders.{reversed_link_heads_of_segments, forest_below_reversed_links, built_path, built_paths}
use Rattle.symbols_paths.specs.inner.PathBuilders.{modules_of_segments, modules_of_builder, modules_of_builders}
use Rattle.symbols_paths.proofs.LoopInvariants.{join_none, join_assoc}
use Rattle.symbols_paths.proofs.NamedPathLemmas.{stored_both}
use Rattle.symbols_paths.proofs.BuilderLemmas.{named_fork, modules_fork, named_with_builder, stored_apart, none_stored, stored_one}
use Rattle.symbols_paths.proofs.BuiltPaths.{forest_on, paths_stored}
use Rattle.symbols_paths.proofs.VisitedBuilders.{builders_join}
use Rattle.symbols_paths.proofs.DropOrder.{whole, popped_first}
use Rattle.symbols_paths.proofs.DropBuilders.{weight_of_builder, all_branches, fork_lighter}

-- the paths, if the forks are closed one after another above the paths at hand
abbrev pub closed_forks : RootView → List OpenFork → PathForest → PathForest
closed_forks root [] f = f
closed_forks root (fork ∷ forks) f = closed_forks root forks (joined_forests (paths_by_specifier root fork.before.items)
    (joined_forests (forest_below_reversed_links (reversed_link_heads_of_segments root fork.segments.items) f) (built_paths root (reverse fork.rest.items))))

abbrev pub AreForksStored : RootView → List OpenFork → Type 0
AreForksStored root [] = Unit {0}
AreForksStored root (fork ∷ forks) = (AreModulesStored root (modules_of_segments fork.segments.items)
    × (AreModulesStored root (modules_of_paths fork.before.items) × AreModulesStored root (modules_of_builders (reverse fork.rest.items))))
    × AreForksStored root forks

-- the invariant: the paths so far, and `rest` of the builders left below the innermost fork
pub record AreBuilding (paths : List DefinitionPathNode) (rest : List PathBuilder) (forks : List OpenFork) (all : List PathBuilder) : Type 0 where
  pub view : (root : RootView) → closed_forks root forks (joined_forests (paths_by_specifier root paths) (built_paths root rest)) ≡ built_paths root all
  pub stored : (root : RootView) → AreModulesStored root (modules_of_builders all) → AreModulesStored root (modules_of_paths paths)
      × (AreModulesStored root (modules_of_builders rest) × AreForksStored root forks)

pub building_first : (all : List PathBuilder) → AreBuilding [] all [] all
building_first all = record { view = λ root. refl; stored = λ root a. (none_stored root, (a, tt)) }

-- a builder is built
pub building_next : {paths : List DefinitionPathNode} {rest all : List PathBuilder} {forks : List OpenFork} (x : PathBuilder) (more : List DefinitionPathNode)
    → AreBuilding paths (x ∷ rest) forks all → ((root : RootView) → paths_by_specifier root more ≡ built_path root x)
    → ((root : RootView) → AreModulesStored root (modules_of_builder x) → AreModulesStored root (modules_of_paths more))
    → AreBuilding (paths ++ more) rest forks all
building_next {paths = paths} {rest = rest} {forks = forks} x more is view stored = record {
  view = λ root.
      ap (closed_forks root forks)
      (ap (λ f. joined_forests f (built_paths root rest)) (forest_on root paths more)
      ∙ (join_assoc (paths_by_specifier root paths) (paths_by_specifier root more) (built_paths root rest)
      ∙ ap (λ f. joined_forests (paths_by_specifier root paths) (joined_forests f (built_paths root rest))) (view root)))
      ∙ is.view root;
  stored = λ root a.
      let h = is.stored root a in
      let split = stored_apart root (modules_of_builder x) (modules_of_builders rest) h.1.0 in
      (paths_stored root paths more h.0 (stored root split.0), (split.1, h.1.1));
}

-- a fork is opened
pub building_opened : {paths : List DefinitionPathNode} {rest all : List PathBuilder} {forks : List OpenFork} (xs : Vec Segment Global)
    (branches : Vec PathBuilder Global) (last : Box PathBuilder Global) (x : PathBuilder) (fork : OpenFork) → x ≡ builder.Fork xs branches last
    → fork.segments.items ≡ xs.items → fork.before.items ≡ paths → reverse fork.rest.items ≡ rest
    → AreBuilding paths (x ∷ rest) forks all → AreBuilding [] (all_branches branches last) (fork ∷ forks) all
building_opened {paths = paths} {rest = rest} {all = all} {forks = forks} xs branches last x fork x_is xs_is before_is rest_is so =
    let is = subst (λ y. AreBuilding paths (y ∷ rest) forks all) x_is so in
    record {
      view = λ root.
          let next = joined_forests (built_paths root branches.items) (built_path root last.value) in
          (λ i. closed_forks root forks (joined_forests (paths_by_specifier root (before_is i))
          (joined_forests (forest_below_reversed_links (reversed_link_heads_of_segments root (xs_is i)) (named_with_builder root branches.items last.value i))
          (built_paths root (rest_is i)))))
          ∙ (ap (λ f. closed_forks root forks (joined_forests (paths_by_specifier root paths) (joined_forests f (built_paths root rest))))
          (sym (named_fork root xs branches last)) ∙ is.view root);
      stored = λ root a.
          let h = is.stored root a in
          let both = stored_apart root (modules_of_builder (builder.Fork xs branches last)) (modules_of_builders rest) h.1.0 in
          let split = stored_apart root (modules_of_segments xs.items) (modules_of_builders branches.items ++ modules_of_builder last.value)
          (subst (AreModulesStored root) (modules_fork xs branches last) both.0) in
          let next = stored_apart root (modules_of_builders branches.items) (modules_of_builder last.value) split.1 in (
            none_stored root,
            (
              subst (AreModulesStored root) (sym (builders_join branches.items (last.value ∷ [])))
                  (stored_both root (modules_of_builders branches.items) (modules_of_builders (last.value ∷ [])) next.0 (stored_one root last.value next.1)),
              (
                (
                  subst (λ ys. AreModulesStored root (modules_of_segments ys)) (sym xs_is) split.0,
                  (
                    subst (λ ys. AreModulesStored root (modules_of_paths ys)) (sym before_is) h.0,
                    subst (λ ys. AreModulesStored root (modules_of_builders ys)) (sym rest_is) both.1,
                  ),
                ),
                h.1.1,
              ),
            ),
          );
    }

-- the innermost fork is closed
pub building_closed : {paths : List DefinitionPathNode} {rest all : List PathBuilder} {forks : List OpenFork} (fork : OpenFork) (more : List DefinitionPathNode)
    → AreBuilding paths rest (fork ∷ forks) all → rest ≡ []
    → ((root : RootView) → paths_by_specifier root more ≡ forest_below_reversed_links (reversed_link_heads_of_segments root fork.segments.items)
    (paths_by_specifier root paths))
    → ((root : RootView) → AreModulesStored root (modules_of_segments fork.segments.items) → AreModulesStored root (modules_of_paths paths)
    → AreModulesStored root (modules_of_paths more))
    → AreBuilding (fork.before.items ++ more) (reverse fork.rest.items) forks all
building_closed {paths = paths} {rest = rest} {forks = forks} fork more is over view stored = record {
  view = λ root.
      let before = paths_by_specifier root fork.before.items in
      let after = built_paths root (reverse fork.rest.items) in
      let heads = reversed_link_heads_of_segments root fork.segments.items in
      ap (closed_forks root forks)
      (ap (λ f. joined_forests f after) (forest_on root fork.before.items more)
      ∙ (join_assoc before (paths_by_specifier root more) after
      ∙ ap (λ f. joined_forests before (joined_forests f after))
      (view root ∙ ap (forest_below_reversed_links heads) (sym (join_none (paths_by_specifier root paths))
      ∙ ap (λ ys. joined_forests (paths_by_specifier root paths) (built_paths root ys)) (sym over)))))
      ∙ is.view root;
  stored = λ root a.
      let h = is.stored root a in
      let here = h.1.1.0 in
      (paths_stored root fork.before.items more here.1.0 (stored root here.0 h.0), (here.1.1, h.1.1.1));
}

pub building_last : {paths : List DefinitionPathNode} {rest all : List PathBuilder} {forks : List OpenFork} → AreBuilding paths rest forks all → rest ≡ []
    → forks ≡ [] → (root : RootView) → paths_by_specifier root paths ≡ built_paths root all
building_last {paths = paths} {rest = rest} {forks = forks} is over closed root =
    sym (join_none (paths_by_specifier root paths))
    ∙ ((λ i. closed_forks root (sym closed i) (joined_forests (paths_by_specifier root paths) (built_paths root (sym over i)))) ∙ is.view root)

-- ---- the measure: the builders left, those of the forks included

abbrev pub forks_weight : List OpenFork → ℕ
forks_weight [] = 0
forks_weight (fork ∷ forks) = 1 + whole weight_of_builder fork.rest.items + forks_weight forks

-- ---- the turns of the loop, whose stacks have the next item last

pub building_begun : (paths : List DefinitionPathNode) (rest all : List PathBuilder) (forks : List OpenFork) → paths ≡ [] → rest ≡ reverse all → forks ≡ []
    → AreBuilding paths (reverse rest) (reverse forks) all
building_begun paths rest all forks paths_are rest_is forks_are =
    let reversed_twice : all ≡ reverse rest = sym (ap reverse rest_is ∙ reverse-reverse all) in
    subst (λ xs. AreBuilding xs (reverse rest) (reverse forks) all) (sym paths_are) (subst (λ xs. AreBuilding [] xs (reverse forks) all) reversed_twice
    (subst (λ xs. AreBuilding [] all (reverse xs) all) (sym forks_are) (building_first all)))

pub building_end : {paths now : List DefinitionPathNode} {all : List PathBuilder} {forks : List OpenFork} (rest new : List PathBuilder) (x : PathBuilder)
    (more : List DefinitionPathNode) → rest ≡ new ++ x ∷ [] → now ≡ paths ++ more → AreBuilding paths (reverse rest) forks all
    → ((root : RootView) → paths_by_specifier root more ≡ built_path root x)
    → ((root : RootView) → AreModulesStored root (modules_of_builder x) → AreModulesStored root (modules_of_paths more))
    → AreBuilding now (reverse new) forks all
building_end {paths = paths} {all = all} {forks = forks} rest new x more rest_is now_is is view stored =
    subst (λ ys. AreBuilding ys (reverse new) forks all) (sym now_is)
    (building_next x more (subst (λ ys. AreBuilding paths ys forks all) (popped_first rest new x rest_is) is) view stored)

pub building_fork : {paths now : List DefinitionPathNode} {all : List PathBuilder} (rest new next : List PathBuilder) (forks more : List OpenFork)
    (xs : Vec Segment Global) (branches : Vec PathBuilder Global) (last : Box PathBuilder Global) (x : PathBuilder) (fork : OpenFork) → rest ≡ new ++ x ∷ []
    → x ≡ builder.Fork xs branches last → next ≡ reverse (all_branches branches last) → more ≡ forks ++ fork ∷ [] → fork.segments.items ≡ xs.items
    → fork.before.items ≡ paths → fork.rest.items ≡ new → now ≡ [] → AreBuilding paths (reverse rest) (reverse forks) all
    → AreBuilding now (reverse next) (reverse more) all
building_fork {paths = paths} {all = all} rest new next forks more xs branches last x fork rest_is x_is next_is more_is xs_is before_is after_is now_is is =
    subst (λ ys. AreBuilding ys (reverse next) (reverse more) all) (sym now_is)
    (subst (λ ys. AreBuilding [] ys (reverse more) all) (sym (ap reverse next_is ∙ reverse-reverse (all_branches branches last)))
    (subst (λ fs. AreBuilding [] (all_branches branches last) fs all) (sym (popped_first more forks fork more_is))
    (building_opened xs branches last x fork x_is xs_is before_is (ap reverse after_is)
    (subst (λ ys. AreBuilding paths ys (reverse forks) all) (popped_first rest new x rest_is) is))))

pub building_close : {paths now : List DefinitionPathNode} {all : List PathBuilder} (rest : List PathBuilder) (forks new : List OpenFork) (fork : OpenFork)
    (more : List DefinitionPathNode) → rest ≡ [] → forks ≡ new ++ fork ∷ [] → now ≡ fork.before.items ++ more
    → AreBuilding paths (reverse rest) (reverse forks) all
    → ((root : RootView) → paths_by_specifier root more ≡ forest_below_reversed_links (reversed_link_heads_of_segments root fork.segments.items)
    (paths_by_specifier root paths))
    → ((root : RootView) → AreModulesStored root (modules_of_segments fork.segments.items) → AreModulesStored root (modules_of_paths paths)
    → AreModulesStored root (modules_of_paths more))
    → AreBuilding now (reverse fork.rest.items) (reverse new) all
building_close {paths = paths} {all = all} rest forks new fork more over forks_are now_is is view stored =
    subst (λ ys. AreBuilding ys (reverse fork.rest.items) (reverse new) all) (sym now_is)
    (building_closed fork more (subst (λ fs. AreBuilding paths (reverse rest) fs all) (popped_first forks new fork forks_are) is) (ap reverse over) view stored)

pub fork_smaller : (rest new next : List PathBuilder) (forks more : List OpenFork) (xs : Vec Segment Global) (branches : Vec PathBuilder Global)
    (last : Box PathBuilder Global) (x : PathBuilder) (fork : OpenFork) → rest ≡ new ++ x ∷ [] → x ≡ builder.Fork xs branches last
    → next ≡ reverse (all_branches branches last) → more ≡ forks ++ fork ∷ [] → fork.rest.items ≡ new
    → whole weight_of_builder next + forks_weight (reverse more) < whole weight_of_builder rest + forks_weight (reverse forks)
fork_smaller rest new next forks more xs branches last x fork rest_is x_is next_is more_is after_is =
    omega (
      arith,
      fork_lighter rest new next xs branches last x (forks_weight (reverse forks)) rest_is x_is next_is,
      ap forks_weight (popped_first more forks fork more_is),
      ap (whole weight_of_builder) after_is,
    )

pub close_smaller : (rest : List PathBuilder) (forks new : List OpenFork) (fork : OpenFork) → forks ≡ new ++ fork ∷ []
    → whole weight_of_builder fork.rest.items + forks_weight (reverse new) < whole weight_of_builder rest + forks_weight (reverse forks)
close_smaller rest forks new fork forks_are = omega (arith, ap forks_weight (popped_first forks new fork forks_are))
