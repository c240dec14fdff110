-- The definitions of builders in order, and builders with their definitions replaced.
use Rattle.std.proofs.Common.{◌≡◌, ℕ, suc, ◌+◌, ◌<◌, List, [], ◌∷◌, ◌++◌, length, map, reverse, drop, get_or, add-one, Option}
use Rattle.std.proofs.Common.{None, Some, option_to_list, Vec, Box, sym, ap, subst, ◌∙◌, append_assoc, append-nil, arith}
use Rattle.std.proofs.Math.Seq.{drop-cons}
use Rattle.std.specs.Borrow.{Bor}
use Rattle.std.specs.Global.{Global}
use Rattle.std.proofs.lemmas.List.{map-append, reverse-append, drop_all}
use Rattle.std.specs.Option.{option_flatten}
use Rattle.symbols_root.specs.Roots.{RootView}
use Rattle.symbols_paths.specs.declared.definition.Definition.{Definition}
use Rattle.symbols_paths.specs.declared.definition_iter.DefinitionOrUnresolved.{DefinitionOrUnresolved}
use Rattle.symbols_paths.specs.declared.path_builder.Segment.{Segment}
use Rattle.symbols_paths.specs.declared.path_builder.PathBuilder.{PathBuilder}
use Rattle.symbols_paths.specs.declared.path_builder.PathBuilder.TheVariants as builder
use Rattle.symbols_paths.specs.PathTrees.{QualifiedNameParts, PathForest, leaf, forest_of_tree, joined_forests}
use Rattle.symbols_paths.specs.inner.ReplacedDefinitions.{definitions_of_tree, definitions_of_forest, tree_with_definitions_replaced}
use Rattle.symbols_paths.specs.inner.ReplacedDefinitions.{forest_with_definitions_replaced}
use Rattle.symbols_paths.specs.Views.{definition_by_specifier, path_leaf_of_end, module_of_definition, AreModulesStored}
use Rattle.symbols_paths.specs.inner.PathBuilders.{reversed_link_heads_of_segments, link_heads_with_parts_replaced, forest_below_reversed_links, built_path}
use Rattle.symbols_paths.specs.inner.PathBuilders.{built_paths, built_paths_of_option, modules_of_builder, modules_of_builders, builders_among}
use Rattle.symbols_paths.proofs.LoopInvariants.{join_none, join_assoc}
use Rattle.symbols_paths.proofs.BuilderLemmas.{named_to, named_fork, named_with_option, stored_apart, none_stored, stored_with_option}
use Rattle.symbols_paths.proofs.BuilderLemmas.{stored_one, rebuilt_linked, rebuilt_join, rebuilt_one, defined_linked, defined_join}

-- ---- the loop that lists definitions: `found` so far, `rest` of the builders left

pub drop_read : {A : Type 0} (xs : List A) (i : ℕ) (x : A) → i < length xs → x ≡ get_or xs i x → drop i xs ≡ x ∷ drop (i + 1) xs
drop_read xs i x lt e = rw (add-one, drop-cons xs i x) (ap (λ y. y ∷ drop (suc i) xs) (sym e))

-- borrowed builders
abbrev pub builders_now : List (Bor PathBuilder) → List PathBuilder
builders_now borrowed = map (λ (b : Bor PathBuilder). b.now) borrowed

-- the last one is taken off a stack
pub popped_now : (stack new : List (Bor PathBuilder)) (builder : Bor PathBuilder) → stack ≡ new ++ builder ∷ []
    → builders_now stack ≡ builders_now new ++ builder.now ∷ []
popped_now stack new builder is = ap builders_now is ∙ map-append (λ (b : Bor PathBuilder). b.now) new (builder ∷ [])

-- the last branch is put on a stack, and then another one
pub pushed_last : (old new : List (Bor PathBuilder)) (branches : List PathBuilder) (n : ℕ) (last : Bor PathBuilder) → new ≡ old ++ last ∷ []
    → n ≡ length branches → reverse (builders_now new) ≡ drop n branches ++ last.now ∷ reverse (builders_now old)
pushed_last old new branches n last put len = ap (λ bs. reverse (builders_now bs)) put
    ∙ (ap reverse (map-append (λ (b : Bor PathBuilder). b.now) old (last ∷ []))
    ∙ (reverse-append (builders_now old) (last.now ∷ [])
    ∙ ap (λ bs. bs ++ last.now ∷ reverse (builders_now old)) (sym (drop_all n branches (omega (arith, len))))))

pub pushed_more : (old new : List (Bor PathBuilder)) (branches rest : List PathBuilder) (left i : ℕ) (branch : Bor PathBuilder) → new ≡ old ++ branch ∷ []
    → left ≡ i + 1 → i < length branches → branch.now ≡ get_or branches i branch.now → reverse (builders_now old) ≡ drop left branches ++ rest
    → reverse (builders_now new) ≡ drop i branches ++ rest
pushed_more old new branches rest left i branch put next within read so = ap (λ bs. reverse (builders_now bs)) put
    ∙ (ap reverse (map-append (λ (b : Bor PathBuilder). b.now) old (branch ∷ []))
    ∙ (reverse-append (builders_now old) (branch.now ∷ [])
    ∙ (ap (λ bs. branch.now ∷ bs) (so ∙ ap (λ n. drop n branches ++ rest) next)
    ∙ ap (λ bs. bs ++ rest) (sym (drop_read branches i branch.now within read)))))

pub record IsListedSoFar (found : List Definition) (rest : List PathBuilder) (at_search_start : List Definition) (builders : List PathBuilder) : Type 0 where
  pub view : (root : RootView) → map (definition_by_specifier root) found ++ definitions_of_forest (built_paths root rest)
      ≡ map (definition_by_specifier root) at_search_start ++ definitions_of_forest (built_paths root builders)
  pub stored : (root : RootView) → AreModulesStored root (map module_of_definition at_search_start) → AreModulesStored root (modules_of_builders builders)
      → AreModulesStored root (map module_of_definition found) × AreModulesStored root (modules_of_builders rest)

pub listed_next : {found more_found at_search_start : List Definition} {rest builders : List PathBuilder} (builder : PathBuilder)
    → IsListedSoFar found (builder ∷ rest) at_search_start builders
    → ((root : RootView) → map (definition_by_specifier root) more_found ≡ map (definition_by_specifier root) found
    ++ definitions_of_forest (built_path root builder)) → ((root : RootView) → AreModulesStored root (map module_of_definition found)
    → AreModulesStored root (modules_of_builder builder) → AreModulesStored root (map module_of_definition more_found))
    → IsListedSoFar more_found rest at_search_start builders
listed_next {found = found} {rest = rest} builder is view stored = record {
  view = λ root.
      ap (λ xs. xs ++ definitions_of_forest (built_paths root rest)) (view root)
      ∙ (append_assoc (map (definition_by_specifier root) found) (definitions_of_forest (built_path root builder))
      (definitions_of_forest (built_paths root rest))
      ∙ (ap (λ xs. map (definition_by_specifier root) found ++ xs) (sym (defined_join (built_path root builder) (built_paths root rest))) ∙ is.view root));
  stored = λ root a b. let h = is.stored root a b in let q = stored_apart root (modules_of_builder builder) (modules_of_builders rest) h.1 in
      (stored root h.0 q.0, q.1);
}

pub listed_last : {found at_search_start : List Definition} {rest builders : List PathBuilder} → IsListedSoFar found rest at_search_start builders → rest ≡ [] →
    (root : RootView)
    → map (definition_by_specifier root) found ≡ map (definition_by_specifier root) at_search_start ++ definitions_of_forest (built_paths root builders)
listed_last {found = found} is over root = sym (append-nil (map (definition_by_specifier root) found))
    ∙ (ap (λ xs. map (definition_by_specifier root) found ++ definitions_of_forest (built_paths root xs)) (sym over) ∙ is.view root)

-- the definitions of a builder with an end, and of one with branches
pub defined_to : (root : RootView) (xs : Vec Segment Global) (end : DefinitionOrUnresolved)
    → definitions_of_forest (built_path root (builder.End xs end)) ≡ definitions_of_tree (leaf (path_leaf_of_end root end))
defined_to root xs end =
    let path_of_end = forest_of_tree (leaf (path_leaf_of_end root end)) in
    ap definitions_of_forest (named_to root xs end)
    ∙ (defined_linked (reversed_link_heads_of_segments root xs.items) path_of_end ∙ append-nil (definitions_of_tree (leaf (path_leaf_of_end root end))))

pub defined_fork : (root : RootView) (xs : Vec Segment Global) (branches : Vec PathBuilder Global) (last : Box PathBuilder Global)
    → definitions_of_forest (built_path root (builder.Fork xs branches last))
    ≡ definitions_of_forest (built_paths root branches.items) ++ definitions_of_forest (built_path root last.value)
defined_fork root xs branches last =
    let next = joined_forests (built_paths root branches.items) (built_path root last.value) in
    ap definitions_of_forest (named_fork root xs branches last)
    ∙ (defined_linked (reversed_link_heads_of_segments root xs.items) next ∙ defined_join (built_paths root branches.items) (built_path root last.value))

-- ---- the loop that replaces definitions: `found` so far, `rest` of the builders left, `ready` the replacements left

pub record AreRebuilt (parts : QualifiedNameParts) (found rest : List PathBuilder) (ready : List (Option PathBuilder)) (builders : List PathBuilder)
    (at_search_start : List
    (Option PathBuilder)) : Type 0 where
  pub view : (root : RootView) → joined_forests (built_paths root found)
      (forest_with_definitions_replaced parts (built_paths root rest) (map (built_paths_of_option root) ready)).0
      ≡ (forest_with_definitions_replaced parts (built_paths root builders) (map (built_paths_of_option root) at_search_start)).0
  pub left : (root : RootView) → (forest_with_definitions_replaced parts (built_paths root rest) (map (built_paths_of_option root) ready)).1
      ≡ (forest_with_definitions_replaced parts (built_paths root builders) (map (built_paths_of_option root) at_search_start)).1
  pub stored : (root : RootView) → AreModulesStored root (modules_of_builders builders) → AreModulesStored root
      (modules_of_builders (builders_among at_search_start))
      → AreModulesStored root (modules_of_builders found)
      × (AreModulesStored root (modules_of_builders rest) × AreModulesStored root (modules_of_builders (builders_among ready)))

pub rebuilt_next : {parts : QualifiedNameParts} {found rest : List PathBuilder} {ready branches : List (Option PathBuilder)} {builders : List PathBuilder}
    {at_search_start : List
    (Option PathBuilder)} (builder : PathBuilder) (put : Option PathBuilder) → AreRebuilt parts found (builder ∷ rest) ready builders at_search_start
    → ((root : RootView) → built_paths_of_option root put ≡ (forest_with_definitions_replaced parts (built_path root builder)
    (map (built_paths_of_option root) ready)).0)
    → ((root : RootView) → map (built_paths_of_option root) branches
    ≡ (forest_with_definitions_replaced parts (built_path root builder) (map (built_paths_of_option root) ready)).1)
    → ((root : RootView) → AreModulesStored root (modules_of_builder builder) → AreModulesStored root (modules_of_builders (builders_among ready))
    → AreModulesStored root (modules_of_builders (option_to_list put)) × AreModulesStored root (modules_of_builders (builders_among branches)))
    → AreRebuilt parts (found ++ option_to_list put) rest branches builders at_search_start
rebuilt_next {parts = parts} {found = found} {rest = rest} {ready = ready} {branches = branches} builder put is put_is left_is stored = record {
  view = λ root.
      let r = forest_with_definitions_replaced parts (built_path root builder) (map (built_paths_of_option root) ready) in
      (λ i. joined_forests (named_with_option root found put i) (forest_with_definitions_replaced parts (built_paths root rest) (left_is root i)).0)
      ∙ (join_assoc (built_paths root found) (built_paths_of_option root put) (forest_with_definitions_replaced parts (built_paths root rest) r.1).0
      ∙ (ap (λ g. joined_forests (built_paths root found) (joined_forests g (forest_with_definitions_replaced parts (built_paths root rest) r.1).0))
      (put_is root)
      ∙ (ap (λ (p : PathForest × List PathForest). joined_forests (built_paths root found) p.0) (sym
      (rebuilt_join parts (built_path root builder) (built_paths root rest) (map (built_paths_of_option root) ready))) ∙ is.view root)));
  left = λ root.
      ap (λ gs. (forest_with_definitions_replaced parts (built_paths root rest) gs).1) (left_is root)
      ∙ (ap (λ (p : PathForest × List PathForest).
      p.1) (sym (rebuilt_join parts (built_path root builder) (built_paths root rest) (map (built_paths_of_option root) ready))) ∙ is.left root);
  stored = λ root a b.
      let h = is.stored root a b in
      let q = stored_apart root (modules_of_builder builder) (modules_of_builders rest) h.1.0 in
      let p = stored root q.0 h.1.1 in
      (stored_with_option root found put h.0 p.0, (q.1, p.1));
}

pub rebuilt_last : {parts : QualifiedNameParts} {found rest : List PathBuilder} {ready : List (Option PathBuilder)} {builders : List PathBuilder}
    {at_search_start : List
    (Option PathBuilder)} → AreRebuilt parts found rest ready builders at_search_start → rest ≡ [] → (root : RootView)
    → (built_paths root found ≡ (forest_with_definitions_replaced parts (built_paths root builders) (map (built_paths_of_option root) at_search_start)).0)
    × (map (built_paths_of_option root) ready ≡ (forest_with_definitions_replaced parts (built_paths root builders)
    (map (built_paths_of_option root) at_search_start)).1)
rebuilt_last {parts = parts} {found = found} {ready = ready} is over root = (
  sym (join_none (built_paths root found)) ∙ (ap (λ xs.
      joined_forests (built_paths root found) (forest_with_definitions_replaced parts (built_paths root xs) (map (built_paths_of_option root) ready)).0)
      (sym over) ∙ is.view root),
  ap (λ xs. (forest_with_definitions_replaced parts (built_paths root xs) (map (built_paths_of_option root) ready)).1) (sym over) ∙ is.left root,
)

-- a builder with an end, and one with branches, with their definitions replaced
pub rebuilt_to : (root : RootView) (parts : QualifiedNameParts) (xs : Vec Segment Global) (end : DefinitionOrUnresolved) (ready : List PathForest)
    → forest_with_definitions_replaced parts (built_path root (builder.End xs end)) ready ≡ (
      forest_below_reversed_links (link_heads_with_parts_replaced parts (reversed_link_heads_of_segments root xs.items))
          (tree_with_definitions_replaced parts (leaf (path_leaf_of_end root end)) ready).0,
      (tree_with_definitions_replaced parts (leaf (path_leaf_of_end root end)) ready).1,
    )
rebuilt_to root parts xs end ready =
    let heads = link_heads_with_parts_replaced parts (reversed_link_heads_of_segments root xs.items) in
    let here = leaf (path_leaf_of_end root end) in
    ap (λ f. forest_with_definitions_replaced parts f ready) (named_to root xs end)
    ∙ (rebuilt_linked parts (reversed_link_heads_of_segments root xs.items) (forest_of_tree here) ready
    ∙ (λ i. (forest_below_reversed_links heads (rebuilt_one parts here ready i).0, (rebuilt_one parts here ready i).1)))

pub rebuilt_fork : (root : RootView) (parts : QualifiedNameParts) (xs : Vec Segment Global) (branches : Vec PathBuilder Global) (last : Box PathBuilder Global)
    (ready : List
    PathForest) → forest_with_definitions_replaced parts (built_path root (builder.Fork xs branches last)) ready
    ≡ (
      forest_below_reversed_links (link_heads_with_parts_replaced parts (reversed_link_heads_of_segments root xs.items))
          (forest_with_definitions_replaced parts (joined_forests (built_paths root branches.items) (built_path root last.value))
          ready).0,
      (forest_with_definitions_replaced parts (joined_forests (built_paths root branches.items) (built_path root last.value)) ready).1,
    )
rebuilt_fork root parts xs branches last ready =
    ap (λ f. forest_with_definitions_replaced parts f ready) (named_fork root xs branches last)
    ∙ rebuilt_linked parts (reversed_link_heads_of_segments root xs.items) (joined_forests (built_paths root branches.items) (built_path root last.value)) ready

-- the branches and the last one, with their definitions replaced
pub both_rebuilt : (parts : QualifiedNameParts) (f g : PathForest) (ready mid : List PathForest) (a b : PathForest) → a
    ≡ (forest_with_definitions_replaced parts f ready).0
    → mid ≡ (forest_with_definitions_replaced parts f ready).1
    → b ≡ (forest_with_definitions_replaced parts g mid).0 → joined_forests a b ≡ (forest_with_definitions_replaced parts (joined_forests f g) ready).0
both_rebuilt parts f g ready mid a b a_is mid_is b_is =
    (λ i. joined_forests (a_is i) (b_is i))
    ∙ (ap (λ m. joined_forests (forest_with_definitions_replaced parts f ready).0 (forest_with_definitions_replaced parts g m).0) mid_is
    ∙ ap (λ (p : PathForest × List PathForest). p.0) (sym (rebuilt_join parts f g ready)))

pub left_of_both : (parts : QualifiedNameParts) (f g : PathForest) (ready mid rest : List PathForest) → mid ≡ (forest_with_definitions_replaced parts f ready).1
    → rest ≡ (forest_with_definitions_replaced parts g mid).1
    → rest ≡ (forest_with_definitions_replaced parts (joined_forests f g) ready).1
left_of_both parts f g ready mid rest mid_is rest_is =
    rest_is ∙ (ap (λ m. (forest_with_definitions_replaced parts g m).1) mid_is ∙ ap (λ (p : PathForest × List PathForest). p.1)
    (sym (rebuilt_join parts f g ready)))

-- the replacements without the first are of stored modules, and so is the first
pub popped_stored : (root : RootView) (popped : Option (Option PathBuilder)) (rest at_search_start : List (Option PathBuilder)) → at_search_start
    ≡ option_to_list popped ++ rest
    → AreModulesStored root (modules_of_builders (builders_among at_search_start))
    → AreModulesStored root (modules_of_builders (option_to_list (option_flatten popped))) × AreModulesStored root (modules_of_builders (builders_among rest))
popped_stored root None rest at_search_start e h = (none_stored root, subst (λ xs. AreModulesStored root (modules_of_builders (builders_among xs))) e h)
popped_stored root (Some None) rest at_search_start e h = (none_stored root, subst (λ xs. AreModulesStored root (modules_of_builders (builders_among xs))) e h)
popped_stored root (Some (Some builder)) rest at_search_start e h =
    let q = stored_apart root (modules_of_builder builder) (modules_of_builders (builders_among rest))
    (subst (λ xs. AreModulesStored root (modules_of_builders (builders_among xs))) e h) in
    (stored_one root builder q.0, q.1)
