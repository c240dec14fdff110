-- Builders whose definitions are replaced, with the forks whose branches are being replaced as a list, the innermost first.
use Rattle.std.proofs.Common.{◌≡◌, ℕ, ◌+◌, ◌<◌, List, [], ◌∷◌, ◌++◌, map, reverse, Option, option_to_list, Vec, Box, refl, sym, ◌∙◌, ap, subst, arith}
use Rattle.std.specs.Global.{Global}
use Rattle.std.proofs.lemmas.List.{reverse-reverse}
use Rattle.symbols_root.specs.Roots.{RootView}
use Rattle.symbols_paths.specs.declared.replace_definitions.OpenFork.{OpenFork}
use Rattle.symbols_paths.specs.declared.path_builder.Segment.{Segment}
use Rattle.symbols_paths.specs.declared.path_builder.PathBuilder.{PathBuilder}
use Rattle.symbols_paths.specs.declared.path_builder.PathBuilder.TheVariants as builder
use Rattle.symbols_paths.specs.PathTrees.{QualifiedNameParts, PathForest, no_trees, joined_forests}
use Rattle.symbols_paths.specs.Views.{AreModulesStored}
use Rattle.symbols_paths.specs.inner.ReplacedDefinitions.{forest_with_definitions_replaced}
use Rattle.symbols_paths.specs.inner.PathBuilders.{reversed_link_heads_of_segments, link_heads_with_parts_replaced, forest_below_reversed_links, built_path}
use Rattle.symbols_paths.specs.inner.PathBuilders.{built_paths, built_paths_of_option, modules_of_segments, modules_of_builder, modules_of_builders}
use Rattle.symbols_paths.specs.inner.PathBuilders.{builders_among}
use Rattle.symbols_paths.proofs.LoopInvariants.{join_none, join_assoc}
use Rattle.symbols_paths.proofs.NamedPathLemmas.{stored_both}
use Rattle.symbols_paths.proofs.BuilderLemmas.{modules_fork, named_with_builder, named_with_option, stored_apart, none_stored, stored_one}
use Rattle.symbols_paths.proofs.BuilderLemmas.{stored_with_option, rebuilt_join}
use Rattle.symbols_paths.proofs.BuilderDefinitions.{rebuilt_fork}
use Rattle.symbols_paths.proofs.VisitedBuilders.{builders_join}
use Rattle.symbols_paths.proofs.DropOrder.{whole, popped_first}
use Rattle.symbols_paths.proofs.DropBuilders.{weight_of_builder, all_branches, fork_lighter}

-- paths, and the replacements left
abbrev pub Replaced : Type 0
Replaced = PathForest × List PathForest

-- the paths after these, with their definitions replaced
abbrev pub followed : QualifiedNameParts → PathForest → Replaced → PathForest → Replaced
followed ps before r after = let q = forest_with_definitions_replaced ps after r.1 in (joined_forests before (joined_forests r.0 q.0), q.1)

-- the paths, if the forks are closed one after another above the paths at hand
abbrev pub closed_forks : RootView → QualifiedNameParts → List OpenFork → Replaced → Replaced
closed_forks root ps [] r = r
closed_forks root ps (fork ∷ forks) r = closed_forks root ps forks (followed ps (built_paths root fork.before.items)
    (forest_below_reversed_links (link_heads_with_parts_replaced ps (reversed_link_heads_of_segments root fork.segments.items)) r.0, r.1)
    (built_paths root (reverse fork.rest.items)))

abbrev pub AreForksStored : RootView → List OpenFork → Type 0
AreForksStored root [] = Unit {0}
AreForksStored root (fork ∷ forks) = (AreModulesStored root (modules_of_segments fork.segments.items)
    × (AreModulesStored root (modules_of_builders fork.before.items) × AreModulesStored root (modules_of_builders (reverse fork.rest.items))))
    × AreForksStored root forks

-- the invariant: the builders found so far, `rest` of the builders left below the innermost fork, `ready` the replacements left
pub record AreReplacing (ps : QualifiedNameParts) (found rest : List PathBuilder) (forks : List OpenFork) (ready : List (Option PathBuilder))
    (all : List PathBuilder) (at_search_start : List (Option PathBuilder)) : Type 0 where
  pub view : (root : RootView) → closed_forks root ps forks
      (followed ps (built_paths root found) (no_trees, map (built_paths_of_option root) ready) (built_paths root rest))
      ≡ forest_with_definitions_replaced ps (built_paths root all) (map (built_paths_of_option root) at_search_start)
  pub stored : (root : RootView) → AreModulesStored root (modules_of_builders all) → AreModulesStored root
      (modules_of_builders (builders_among at_search_start))
      → AreModulesStored root (modules_of_builders found)
      × (AreModulesStored root (modules_of_builders rest) × (AreModulesStored root (modules_of_builders (builders_among ready)) × AreForksStored root forks))

pub replacing_first : (ps : QualifiedNameParts) (all : List PathBuilder) (at_search_start : List (Option PathBuilder))
    → AreReplacing ps [] all [] at_search_start all at_search_start
replacing_first ps all at_search_start = record { view = λ root. refl; stored = λ root a b. (none_stored root, (a, (b, tt))) }

-- a builder is replaced
pub replacing_next : {ps : QualifiedNameParts} {found rest all : List PathBuilder} {forks : List OpenFork}
    {ready later at_search_start : List (Option PathBuilder)}
    (x : PathBuilder) (put : Option PathBuilder) → AreReplacing ps found (x ∷ rest) forks ready all at_search_start
    → ((root : RootView) → built_paths_of_option root put ≡ (forest_with_definitions_replaced ps (built_path root x)
    (map (built_paths_of_option root) ready)).0)
    → ((root : RootView) → map (built_paths_of_option root) later
    ≡ (forest_with_definitions_replaced ps (built_path root x) (map (built_paths_of_option root) ready)).1)
    → ((root : RootView) → AreModulesStored root (modules_of_builder x) → AreModulesStored root (modules_of_builders (builders_among ready))
    → AreModulesStored root (modules_of_builders (option_to_list put)) × AreModulesStored root (modules_of_builders (builders_among later)))
    → AreReplacing ps (found ++ option_to_list put) rest forks later all at_search_start
replacing_next {ps = ps} {found = found} {rest = rest} {forks = forks} {ready = ready} {later = later} x put is put_is left_is stored = record {
  view = λ root.
      let before = built_paths root found in
      let after = built_paths root rest in
      let gs = map (built_paths_of_option root) ready in
      let r = forest_with_definitions_replaced ps (built_path root x) gs in
      ap (closed_forks root ps forks)
      ((λ i. (
        joined_forests (named_with_option root found put i) (forest_with_definitions_replaced ps after (left_is root i)).0,
        (forest_with_definitions_replaced ps after (left_is root i)).1,
      ))
      ∙ ((λ i. (join_assoc before (put_is root i) (forest_with_definitions_replaced ps after r.1).0 i, (forest_with_definitions_replaced ps after r.1).1))
      ∙ ap (λ (q : Replaced). (joined_forests before q.0, q.1)) (sym (rebuilt_join ps (built_path root x) after gs))))
      ∙ is.view root;
  stored = λ root a b.
      let h = is.stored root a b in
      let split = stored_apart root (modules_of_builder x) (modules_of_builders rest) h.1.0 in
      let p = stored root split.0 h.1.1.0 in
      (stored_with_option root found put h.0 p.0, (split.1, (p.1, h.1.1.1)));
}

-- a fork is opened
pub replacing_opened : {ps : QualifiedNameParts} {found rest all : List PathBuilder} {forks : List OpenFork} {ready at_search_start : List (Option PathBuilder)}
    (xs : Vec Segment Global) (branches : Vec PathBuilder Global) (last : Box PathBuilder Global) (x : PathBuilder) (fork : OpenFork)
    → x ≡ builder.Fork xs branches last → fork.segments.items ≡ xs.items → fork.before.items ≡ found → reverse fork.rest.items ≡ rest
    → AreReplacing ps found (x ∷ rest) forks ready all at_search_start → AreReplacing ps [] (all_branches branches last)
    (fork ∷ forks) ready all at_search_start
replacing_opened {ps = ps} {found = found} {rest = rest} {all = all} {forks = forks} {ready = ready}
    {at_search_start = at_search_start} xs branches last x fork x_is xs_is before_is
    rest_is so =
    let is = subst (λ y. AreReplacing ps found (y ∷ rest) forks ready all at_search_start) x_is so in
    record {
      view = λ root.
          let before = built_paths root found in
          let after = built_paths root rest in
          let gs = map (built_paths_of_option root) ready in
          let fork_is = rebuilt_fork root ps xs branches last gs in
          (λ i. closed_forks root ps forks (followed ps (built_paths root (before_is i)) (
            forest_below_reversed_links (link_heads_with_parts_replaced ps (reversed_link_heads_of_segments root (xs_is i)))
                (forest_with_definitions_replaced ps (named_with_builder root branches.items last.value i) gs).0,
            (forest_with_definitions_replaced ps (named_with_builder root branches.items last.value i) gs).1,
          )
          (built_paths root (rest_is i))))
          ∙ (ap (λ (r : Replaced). closed_forks root ps forks (followed ps before r after)) (sym fork_is)
          ∙ (ap (λ (q : Replaced). closed_forks root ps forks (joined_forests before q.0, q.1))
          (sym (rebuilt_join ps (built_path root (builder.Fork xs branches last)) after gs))
          ∙ is.view root));
      stored = λ root a b.
          let h = is.stored root a b in
          let both = stored_apart root (modules_of_builder (builder.Fork xs branches last)) (modules_of_builders rest) h.1.0 in
          let split = stored_apart root (modules_of_segments xs.items) (modules_of_builders branches.items ++ modules_of_builder last.value)
          (subst (AreModulesStored root) (modules_fork xs branches last) both.0) in
          let next = stored_apart root (modules_of_builders branches.items) (modules_of_builder last.value) split.1 in (
            none_stored root,
            (
              subst (AreModulesStored root) (sym (builders_join branches.items (last.value ∷ [])))
                  (stored_both root (modules_of_builders branches.items) (modules_of_builders (last.value ∷ [])) next.0 (stored_one root last.value next.1)),
              (
                h.1.1.0,
                (
                  (
                    subst (λ ys. AreModulesStored root (modules_of_segments ys)) (sym xs_is) split.0,
                    (
                      subst (λ ys. AreModulesStored root (modules_of_builders ys)) (sym before_is) h.0,
                      subst (λ ys. AreModulesStored root (modules_of_builders ys)) (sym rest_is) both.1,
                    ),
                  ),
                  h.1.1.1,
                ),
              ),
            ),
          );
    }

-- the innermost fork is closed
pub replacing_closed : {ps : QualifiedNameParts} {found rest all : List PathBuilder} {forks : List OpenFork} {ready at_search_start : List (Option PathBuilder)}
    (fork : OpenFork) (put : Option PathBuilder) → AreReplacing ps found rest (fork ∷ forks) ready all at_search_start → rest ≡ []
    → ((root : RootView) → built_paths_of_option root put
    ≡ forest_below_reversed_links (link_heads_with_parts_replaced ps (reversed_link_heads_of_segments root fork.segments.items)) (built_paths root found))
    → ((root : RootView) → AreModulesStored root (modules_of_segments fork.segments.items) → AreModulesStored root (modules_of_builders found)
    → AreModulesStored root (modules_of_builders (option_to_list put)))
    → AreReplacing ps (fork.before.items ++ option_to_list put) (reverse fork.rest.items) forks ready all at_search_start
replacing_closed {ps = ps} {found = found} {rest = rest} {all = all} {forks = forks} {ready = ready}
    {at_search_start = at_search_start} fork put so over put_is stored =
    let is = subst (λ ys. AreReplacing ps found ys (fork ∷ forks) ready all at_search_start) over so in
    record {
      view = λ root.
          let before = built_paths root fork.before.items in
          let after = built_paths root (reverse fork.rest.items) in
          let gs = map (built_paths_of_option root) ready in
          let heads = link_heads_with_parts_replaced ps (reversed_link_heads_of_segments root fork.segments.items) in
          ap (λ f. closed_forks root ps forks (
            joined_forests f (forest_with_definitions_replaced ps after gs).0,
            (forest_with_definitions_replaced ps after gs).1,
          )) (named_with_option root fork.before.items put)
          ∙ ((λ i. closed_forks root ps forks (
            join_assoc before
                ((put_is root ∙ ap (forest_below_reversed_links heads) (sym (join_none (built_paths root found)))) i)
                (forest_with_definitions_replaced ps after gs).0 i,
            (forest_with_definitions_replaced ps after gs).1,
          ))
          ∙ is.view root);
      stored = λ root a b.
          let h = is.stored root a b in
          let here = h.1.1.1.0 in
          (stored_with_option root fork.before.items put here.1.0 (stored root here.0 h.0), (here.1.1, (h.1.1.0, h.1.1.1.1)));
    }

pub replacing_last : {ps : QualifiedNameParts} {found rest all : List PathBuilder} {forks : List OpenFork} {ready at_search_start : List (Option PathBuilder)}
    → AreReplacing ps found rest forks ready all at_search_start → rest ≡ [] → forks ≡ [] → (root : RootView)
    → (built_paths root found, map (built_paths_of_option root) ready) ≡ forest_with_definitions_replaced ps (built_paths root all)
    (map (built_paths_of_option root) at_search_start)
replacing_last {ps = ps} {found = found} {ready = ready} is over closed root =
    (λ i. (sym (join_none (built_paths root found)) i, map (built_paths_of_option root) ready))
    ∙ ((λ i. closed_forks root ps (sym closed i)
    (followed ps (built_paths root found) (no_trees, map (built_paths_of_option root) ready) (built_paths root (sym over i)))) ∙ is.view root)

-- ---- the measure: the builders left, those of the forks included

abbrev pub forks_weight : List OpenFork → ℕ
forks_weight [] = 0
forks_weight (fork ∷ forks) = 1 + whole weight_of_builder fork.rest.items + forks_weight forks

-- ---- the turns of the loop, whose stacks have the next item last

pub replacing_begun : (ps : QualifiedNameParts) (found rest all : List PathBuilder) (forks : List OpenFork) (at_search_start : List (Option PathBuilder))
    → found ≡ []
    → rest ≡ reverse all → forks ≡ [] → AreReplacing ps found (reverse rest) (reverse forks) at_search_start all at_search_start
replacing_begun ps found rest all forks at_search_start found_is rest_is forks_are =
    let reversed_twice : all ≡ reverse rest = sym (ap reverse rest_is ∙ reverse-reverse all) in
    subst (λ xs. AreReplacing ps xs (reverse rest) (reverse forks) at_search_start all at_search_start) (sym found_is)
    (subst (λ xs. AreReplacing ps [] xs (reverse forks) at_search_start all at_search_start) reversed_twice
    (subst (λ xs. AreReplacing ps [] all (reverse xs) at_search_start all at_search_start) (sym forks_are) (replacing_first ps all at_search_start)))

pub replacing_end : {ps : QualifiedNameParts} {found now all : List PathBuilder} {forks : List OpenFork}
    {ready later at_search_start : List (Option PathBuilder)}
    (rest new : List PathBuilder) (x : PathBuilder) (put : Option PathBuilder) → rest ≡ new ++ x ∷ [] → now ≡ found ++ option_to_list put
    → AreReplacing ps found (reverse rest) forks ready all at_search_start
    → ((root : RootView) → built_paths_of_option root put ≡ (forest_with_definitions_replaced ps (built_path root x)
    (map (built_paths_of_option root) ready)).0)
    → ((root : RootView) → map (built_paths_of_option root) later
    ≡ (forest_with_definitions_replaced ps (built_path root x) (map (built_paths_of_option root) ready)).1)
    → ((root : RootView) → AreModulesStored root (modules_of_builder x) → AreModulesStored root (modules_of_builders (builders_among ready))
    → AreModulesStored root (modules_of_builders (option_to_list put)) × AreModulesStored root (modules_of_builders (builders_among later)))
    → AreReplacing ps now (reverse new) forks later all at_search_start
replacing_end {ps = ps} {found = found} {all = all} {forks = forks} {ready = ready} {later = later}
    {at_search_start = at_search_start} rest new x put rest_is now_is is put_is left_is stored =
    subst (λ ys. AreReplacing ps ys (reverse new) forks later all at_search_start) (sym now_is)
    (replacing_next x put (subst (λ ys. AreReplacing ps found ys forks ready all at_search_start) (popped_first rest new x rest_is) is) put_is left_is stored)

pub replacing_fork : {ps : QualifiedNameParts} {found now all : List PathBuilder} {ready at_search_start : List (Option PathBuilder)}
    (rest new next : List PathBuilder) (forks more : List OpenFork) (xs : Vec Segment Global) (branches : Vec PathBuilder Global)
    (last : Box PathBuilder Global) (x : PathBuilder) (fork : OpenFork)
    → rest ≡ new ++ x ∷ [] → x ≡ builder.Fork xs branches last → next ≡ reverse (all_branches branches last) → more ≡ forks ++ fork ∷ []
    → fork.segments.items ≡ xs.items → fork.before.items ≡ found → fork.rest.items ≡ new → now ≡ []
    → AreReplacing ps found (reverse rest) (reverse forks) ready all at_search_start → AreReplacing ps now (reverse next)
    (reverse more) ready all at_search_start
replacing_fork {ps = ps} {found = found} {all = all} {ready = ready} {at_search_start = at_search_start} rest new next forks more xs branches last x fork
    rest_is x_is next_is more_is xs_is before_is after_is now_is is =
    subst (λ ys. AreReplacing ps ys (reverse next) (reverse more) ready all at_search_start) (sym now_is)
    (subst (λ ys. AreReplacing ps [] ys (reverse more) ready all at_search_start) (sym (ap reverse next_is ∙ reverse-reverse (all_branches branches last)))
    (subst (λ fs. AreReplacing ps [] (all_branches branches last) fs ready all at_search_start) (sym (popped_first more forks fork more_is))
    (replacing_opened xs branches last x fork x_is xs_is before_is (ap reverse after_is)
    (subst (λ ys. AreReplacing ps found ys (reverse forks) ready all at_search_start) (popped_first rest new x rest_is) is))))

pub replacing_close : {ps : QualifiedNameParts} {found now all : List PathBuilder} {ready at_search_start : List (Option PathBuilder)} (rest : List PathBuilder)
    (forks new : List OpenFork) (fork : OpenFork) (put : Option PathBuilder)
    → rest ≡ [] → forks ≡ new ++ fork ∷ [] → now ≡ fork.before.items ++ option_to_list put
    → AreReplacing ps found (reverse rest) (reverse forks) ready all at_search_start
    → ((root : RootView) → built_paths_of_option root put
    ≡ forest_below_reversed_links (link_heads_with_parts_replaced ps (reversed_link_heads_of_segments root fork.segments.items)) (built_paths root found))
    → ((root : RootView) → AreModulesStored root (modules_of_segments fork.segments.items) → AreModulesStored root (modules_of_builders found)
    → AreModulesStored root (modules_of_builders (option_to_list put)))
    → AreReplacing ps now (reverse fork.rest.items) (reverse new) ready all at_search_start
replacing_close {ps = ps} {found = found} {all = all} {ready = ready} {at_search_start = at_search_start} rest forks new fork put over forks_are now_is is
    put_is stored =
    subst (λ ys. AreReplacing ps ys (reverse fork.rest.items) (reverse new) ready all at_search_start) (sym now_is)
    (replacing_closed fork put (subst (λ fs. AreReplacing ps found (reverse rest) fs ready all at_search_start) (popped_first forks new fork forks_are) is)
    (ap reverse over) put_is stored)

pub fork_smaller : (rest new next : List PathBuilder) (forks more : List OpenFork) (xs : Vec Segment Global) (branches : Vec PathBuilder Global)
    (last : Box PathBuilder Global) (x : PathBuilder) (fork : OpenFork) → rest ≡ new ++ x ∷ [] → x ≡ builder.Fork xs branches last
    → next ≡ reverse (all_branches branches last) → more ≡ forks ++ fork ∷ [] → fork.rest.items ≡ new
    → whole weight_of_builder next + forks_weight (reverse more) < whole weight_of_builder rest + forks_weight (reverse forks)
fork_smaller rest new next forks more xs branches last x fork rest_is x_is next_is more_is after_is =
    omega (
      arith,
      fork_lighter rest new next xs branches last x (forks_weight (reverse forks)) rest_is x_is next_is,
      ap forks_weight (popped_first more forks fork more_is),
      ap (whole weight_of_builder) after_is,
    )

pub close_smaller : (rest : List PathBuilder) (forks new : List OpenFork) (fork : OpenFork) → forks ≡ new ++ fork ∷ []
    → whole weight_of_builder fork.rest.items + forks_weight (reverse new) < whole weight_of_builder rest + forks_weight (reverse forks)
close_smaller rest forks new fork forks_are = omega (arith, ap forks_weight (popped_first forks new fork forks_are))
