-- Building paths from builders.
use Rattle.std.proofs.Common.{◌≡◌, List, [], ◌∷◌, ◌++◌, map, Option, None, Some, refl, sym, ◌∙◌, ap, subst}
use Rattle.std.proofs.lemmas.List.{map-append}
use Rattle.symbols_root.specs.Roots.{RootView}
use Rattle.symbols_paths.specs.declared.definition_path.DefinitionPathNode.{DefinitionPathNode}
use Rattle.symbols_paths.specs.declared.path_builder.Segment.{Segment}
use Rattle.symbols_paths.specs.declared.path_builder.PathBuilder.{PathBuilder}
use Rattle.symbols_paths.specs.PathTrees.{QualifiedNameParts, LinkHead, more_trees, joined_forests}
use Rattle.symbols_paths.specs.Derived.{link_head_with_parts_replaced}
use Rattle.symbols_paths.specs.Views.{path_by_specifier, paths_by_specifier, concat_module_ids, modules_of_path, modules_of_paths, AreModulesStored}
use Rattle.symbols_paths.specs.inner.PathBuilders.{link_heads_with_parts_replaced, reversed_link_heads_of_segment, reversed_link_heads_of_segments}
use Rattle.symbols_paths.specs.inner.PathBuilders.{forest_below_reversed_links, built_path, built_paths, modules_of_segment, modules_of_segments}
use Rattle.symbols_paths.specs.inner.PathBuilders.{modules_of_builder, modules_of_builders}
use Rattle.symbols_paths.proofs.NamedPathLemmas.{stored_both}
use Rattle.symbols_paths.proofs.LoopInvariants.{join_none, join_assoc}
use Rattle.symbols_paths.proofs.BuilderLemmas.{linked_on, stored_apart, none_stored, joined_on}

-- ---- the loop that puts the links of segments in front of paths: `rest` of the segments left, `over` the parts for all links, if any

abbrev pub heads_as : Option QualifiedNameParts → List LinkHead → List LinkHead
heads_as None heads = heads
heads_as (Some ps) heads = link_heads_with_parts_replaced ps heads

pub heads_as_on : (over : Option QualifiedNameParts) (xs ys : List LinkHead) → heads_as over (xs ++ ys) ≡ heads_as over xs ++ heads_as over ys
heads_as_on None xs ys = refl
heads_as_on (Some ps) xs ys = map-append (λ head. link_head_with_parts_replaced head ps) xs ys

pub record AreLaid (over : Option QualifiedNameParts) (now : List DefinitionPathNode) (rest all : List Segment) (next : List DefinitionPathNode) : Type 0 where
  pub view : (root : RootView) → forest_below_reversed_links (heads_as over (reversed_link_heads_of_segments root rest)) (paths_by_specifier root now)
      ≡ forest_below_reversed_links (heads_as over (reversed_link_heads_of_segments root all)) (paths_by_specifier root next)
  pub stored : (root : RootView) → AreModulesStored root (modules_of_segments all) → AreModulesStored root (modules_of_paths next)
      → AreModulesStored root (modules_of_segments rest) × AreModulesStored root (modules_of_paths now)

pub laid_first : (over : Option QualifiedNameParts) (all : List Segment) (next : List DefinitionPathNode) → AreLaid over next all all next
laid_first over all next = record { view = λ root. refl; stored = λ root a b. (a, b) }

pub laid_next : {over : Option QualifiedNameParts} {now next : List DefinitionPathNode} {rest all : List Segment} (x : Segment)
    (later : List DefinitionPathNode)
    → AreLaid over now (x ∷ rest) all next
    → ((root : RootView) → paths_by_specifier root later ≡ forest_below_reversed_links (heads_as over (reversed_link_heads_of_segment root x))
    (paths_by_specifier root now))
    → ((root : RootView) → AreModulesStored root (modules_of_segment x) → AreModulesStored root (modules_of_paths now)
    → AreModulesStored root (modules_of_paths later))
    → AreLaid over later rest all next
laid_next {over = over} {now = now} {rest = rest} x later is view stored = record {
  view = λ root.
      let here = heads_as over (reversed_link_heads_of_segment root x) in
      let following = heads_as over (reversed_link_heads_of_segments root rest) in
      ap (forest_below_reversed_links following) (view root)
      ∙ (sym (linked_on here following (paths_by_specifier root now))
      ∙ (ap (λ heads. forest_below_reversed_links heads (paths_by_specifier root now))
      (sym (heads_as_on over (reversed_link_heads_of_segment root x) (reversed_link_heads_of_segments root rest))) ∙ is.view root));
  stored = λ root a b.
      let h = is.stored root a b in
      let split = stored_apart root (modules_of_segment x) (modules_of_segments rest) h.0 in
      (split.1, stored root split.0 h.1);
}

pub laid_last : {over : Option QualifiedNameParts} {now next : List DefinitionPathNode} {rest all : List Segment} → AreLaid over now rest all next → rest ≡ []
    → (root : RootView) → paths_by_specifier root now ≡ forest_below_reversed_links (heads_as over (reversed_link_heads_of_segments root all))
    (paths_by_specifier root next)
laid_last {over = over} {now = now} {rest = rest} is over_now root = by over ∙ is.view root
  where
    by : (o : Option QualifiedNameParts)
        → paths_by_specifier root now ≡ forest_below_reversed_links (heads_as o (reversed_link_heads_of_segments root rest)) (paths_by_specifier root now)
    by None = ap (λ xs. forest_below_reversed_links (reversed_link_heads_of_segments root xs) (paths_by_specifier root now)) (sym over_now)
    by (Some ps) = ap (λ xs. forest_below_reversed_links (link_heads_with_parts_replaced ps (reversed_link_heads_of_segments root xs))
        (paths_by_specifier root now)) (sym over_now)

-- ---- paths of two lists

pub forest_on : (root : RootView) (xs ys : List DefinitionPathNode)
    → paths_by_specifier root (xs ++ ys) ≡ joined_forests (paths_by_specifier root xs) (paths_by_specifier root ys)
forest_on root [] ys = refl
forest_on root (x ∷ xs) ys = ap (more_trees (path_by_specifier root x)) (forest_on root xs ys)

pub paths_stored : (root : RootView) (xs ys : List DefinitionPathNode) → AreModulesStored root (modules_of_paths xs)
    → AreModulesStored root (modules_of_paths ys)
    → AreModulesStored root (modules_of_paths (xs ++ ys))
paths_stored root xs ys a b =
    let same : modules_of_paths (xs ++ ys) ≡ modules_of_paths xs ++ modules_of_paths ys =
    ap (λ ms. concat_module_ids ms) (map-append modules_of_path xs ys) ∙ joined_on (map modules_of_path xs) (map modules_of_path ys) in
    subst (AreModulesStored root) (sym same) (stored_both root (modules_of_paths xs) (modules_of_paths ys) a b)

-- ---- the loop over builders: `rest` of them left

pub record AreUnrolled (now : List DefinitionPathNode) (rest all : List PathBuilder) : Type 0 where
  pub view : (root : RootView) → joined_forests (paths_by_specifier root now) (built_paths root rest) ≡ built_paths root all
  pub stored : (root : RootView) → AreModulesStored root (modules_of_builders all) → AreModulesStored root (modules_of_paths now)
      × AreModulesStored root (modules_of_builders rest)

pub unrolled_first : (all : List PathBuilder) → AreUnrolled [] all all
unrolled_first all = record { view = λ root. refl; stored = λ root a. (none_stored root, a) }

pub unrolled_next : {now : List DefinitionPathNode} {rest all : List PathBuilder} (x : PathBuilder) (paths : List DefinitionPathNode)
    → AreUnrolled now (x ∷ rest) all → ((root : RootView) → paths_by_specifier root paths ≡ built_path root x)
    → ((root : RootView) → AreModulesStored root (modules_of_builder x) → AreModulesStored root (modules_of_paths paths)) → AreUnrolled (now ++ paths) rest all
unrolled_next {now = now} {rest = rest} x paths is view stored = record {
  view = λ root.
      ap (λ f. joined_forests f (built_paths root rest)) (forest_on root now paths)
      ∙ (join_assoc (paths_by_specifier root now) (paths_by_specifier root paths) (built_paths root rest)
      ∙ (ap (λ f. joined_forests (paths_by_specifier root now) (joined_forests f (built_paths root rest))) (view root) ∙ is.view root));
  stored = λ root a.
      let h = is.stored root a in
      let split = stored_apart root (modules_of_builder x) (modules_of_builders rest) h.1 in
      (paths_stored root now paths h.0 (stored root split.0), split.1);
}

pub unrolled_last : {now : List DefinitionPathNode} {rest all : List PathBuilder} → AreUnrolled now rest all → rest ≡ [] → (root : RootView)
    → paths_by_specifier root now ≡ built_paths root all
unrolled_last {now = now} is over root =
    sym (join_none (paths_by_specifier root now)) ∙ (ap (λ xs. joined_forests (paths_by_specifier root now) (built_paths root xs)) (sym over) ∙ is.view root)
