-- Segments and builders that are visited by means of a stack: what is in a segment or a fork comes in its place.
use Rattle.std.proofs.Common.{◌≡◌, List, [], ◌∷◌, ◌++◌, map, reverse, Some, Vec, Box, refl, sym, ◌∙◌, ap, subst, append_assoc, rules}
use Rattle.std.proofs.lemmas.List.{map-append}
use Rattle.std.specs.Global.{Global}
use Rattle.symbols_root.specs.Roots.{RootView}
use Rattle.symbols_paths.specs.declared.definition.Definition.{Definition}
use Rattle.symbols_paths.specs.declared.definition_iter.DefinitionOrUnresolved.{DefinitionOrUnresolved}
use Rattle.symbols_paths.specs.declared.definition_path.DefinitionPathLink.{DefinitionPathLink}
use Rattle.symbols_paths.specs.declared.definition_path.DefinitionPathNode.{DefinitionPathNode, the_lemmas}
use Rattle.symbols_paths.specs.declared.definition_path.DefinitionPathNode.TheVariants as node
use Rattle.symbols_paths.specs.declared.definition_path.DefinitionPathNodeResolved.TheVariants as resolved
use Rattle.symbols_paths.specs.declared.definition_unresolved.DefinitionUnresolved.{DefinitionUnresolved}
use Rattle.symbols_paths.specs.declared.shared_parts.SharedParts.{SharedParts}
use Rattle.symbols_paths.specs.declared.path_builder.Segment.{Segment}
use Rattle.symbols_paths.specs.declared.path_builder.Segment.TheVariants as segment
use Rattle.symbols_paths.specs.declared.path_builder.PathBuilder.{PathBuilder}
use Rattle.symbols_paths.specs.declared.path_builder.PathBuilder.TheVariants as builder
use Rattle.symbols_paths.specs.PathTrees.{QualifiedNameParts, LinkHead, PathForest, joined_forests, definition, unresolved, leaves_of_tree, leaves_of_forest}
use Rattle.symbols_paths.specs.Views.{definition_by_specifier, unresolved_entry_view, path_leaf_of_end, module_of_end, path_by_specifier, paths_by_specifier}
use Rattle.symbols_paths.specs.Views.{AreModulesStored}
use Rattle.symbols_paths.specs.inner.ReplacedDefinitions.{definitions_of_forest}
use Rattle.symbols_paths.specs.inner.PathBuilders.{remaining_parts, link_heads_with_parts_replaced, reversed_link_heads_of_segment}
use Rattle.symbols_paths.specs.inner.PathBuilders.{reversed_link_heads_of_segments, forest_below_reversed_links, built_path, built_paths, modules_of_segment}
use Rattle.symbols_paths.specs.inner.PathBuilders.{modules_of_segments, modules_of_builder, modules_of_builders}
use Rattle.symbols_paths.proofs.Leaves.{leaves_of_forest-join}
use Rattle.symbols_paths.proofs.NamedPathLemmas.{stored_both}
use Rattle.symbols_paths.proofs.LoopInvariants.{join_assoc}
use Rattle.symbols_paths.proofs.BuilderLemmas.{named_fork, modules_to, modules_fork, heads_of_under, modules_of_under, under_twice, stored_apart}
use Rattle.symbols_paths.proofs.BuilderLemmas.{defined_linked, defined_join}
use Rattle.symbols_paths.proofs.BuilderDefinitions.{IsListedSoFar}
use Rattle.symbols_paths.proofs.BuiltPaths.{AreLaid, heads_as_on, forest_on}
use Rattle.symbols_paths.proofs.PathEnds.{AreEndsSo, AreBuilderEndsSo, leaves_linked, leaves_of_link, leaves_to, ends_next, builder_ends_next, end_stored}
use Rattle.symbols_paths.proofs.DropOrder.{popped_first, put_first}

-- ---- lists that are joined

pub heads_join : (root : RootView) (xs ys : List Segment)
    → reversed_link_heads_of_segments root (xs ++ ys) ≡ reversed_link_heads_of_segments root xs ++ reversed_link_heads_of_segments root ys
heads_join root [] ys = refl
heads_join root (x ∷ xs) ys = ap (λ z. reversed_link_heads_of_segment root x ++ z) (heads_join root xs ys)
    ∙ sym (append_assoc (reversed_link_heads_of_segment root x) (reversed_link_heads_of_segments root xs) (reversed_link_heads_of_segments root ys))

pub segments_join : (xs ys : List Segment) → modules_of_segments (xs ++ ys) ≡ modules_of_segments xs ++ modules_of_segments ys
segments_join [] ys = refl
segments_join (x ∷ xs) ys = ap (λ z. modules_of_segment x ++ z) (segments_join xs ys)
    ∙ sym (append_assoc (modules_of_segment x) (modules_of_segments xs) (modules_of_segments ys))

pub built_join : (root : RootView) (xs ys : List PathBuilder) → built_paths root (xs ++ ys) ≡ joined_forests (built_paths root xs) (built_paths root ys)
built_join root [] ys = refl
built_join root (x ∷ xs) ys = ap (joined_forests (built_path root x)) (built_join root xs ys)
    ∙ sym (join_assoc (built_path root x) (built_paths root xs) (built_paths root ys))

pub builders_join : (xs ys : List PathBuilder) → modules_of_builders (xs ++ ys) ≡ modules_of_builders xs ++ modules_of_builders ys
builders_join [] ys = refl
builders_join (x ∷ xs) ys = ap (λ z. modules_of_builder x ++ z) (builders_join xs ys)
    ∙ sym (append_assoc (modules_of_builder x) (modules_of_builders xs) (modules_of_builders ys))

-- ---- segments

pub laid_under : {ps : QualifiedNameParts} {now next : List DefinitionPathNode} {rest all : List Segment} (parts : SharedParts) (inner : Vec Segment Global)
    (x : Segment) → x ≡ segment.WithParts parts inner → AreLaid (Some ps) now (x ∷ rest) all next → AreLaid (Some ps) now (inner.items ++ rest) all next
laid_under {ps = ps} {now = now} {rest = rest} parts inner x x_is is = record {
  view = λ root.
      let heads = reversed_link_heads_of_segments root inner.items in
      let following = reversed_link_heads_of_segments root rest in
      let same : link_heads_with_parts_replaced ps (reversed_link_heads_of_segment root x) ≡ link_heads_with_parts_replaced ps heads =
      ap (λ s. link_heads_with_parts_replaced ps (reversed_link_heads_of_segment root s)) x_is
      ∙ (ap (link_heads_with_parts_replaced ps) (heads_of_under root parts inner) ∙ under_twice ps (remaining_parts parts) heads) in
      ap (λ hs. forest_below_reversed_links hs (paths_by_specifier root now))
      (ap (link_heads_with_parts_replaced ps) (heads_join root inner.items rest)
      ∙ (heads_as_on (Some ps) heads following
      ∙ (ap (λ hs. hs ++ link_heads_with_parts_replaced ps following) (sym same)
      ∙ sym (heads_as_on (Some ps) (reversed_link_heads_of_segment root x) following))))
      ∙ is.view root;
  stored = λ root a b.
      let h = is.stored root a b in (
        subst (AreModulesStored root) (ap (λ z. z ++ modules_of_segments rest) (ap modules_of_segment x_is ∙ modules_of_under parts inner)
            ∙ sym (segments_join inner.items rest)) h.0,
        h.1,
      );
}

-- ---- forks

-- what is read of paths from left to right, whatever links are in front of them
opened_fork : {X : Type 0} (read : PathForest → List X) → ((f g : PathForest) → read (joined_forests f g) ≡ read f ++ read g)
    → ((heads : List LinkHead) (f : PathForest) → read (forest_below_reversed_links heads f) ≡ read f) → (root : RootView) (xs : Vec Segment Global)
    (branches : Vec PathBuilder Global) (last : Box PathBuilder Global) (rest : List PathBuilder)
    → read (built_paths root (branches.items ++ last.value ∷ rest)) ≡ read (built_paths root (builder.Fork xs branches last ∷ rest))
opened_fork read join linked root xs branches last rest =
    let a = built_paths root branches.items in
    let b = built_path root last.value in
    let c = built_paths root rest in
    ap read (built_join root branches.items (last.value ∷ rest))
    ∙ (ap read (sym (join_assoc a b c))
    ∙ (join (joined_forests a b) c
    ∙ (ap (λ ys. ys ++ read c) (sym (linked (reversed_link_heads_of_segments root xs.items) (joined_forests a b)))
    ∙ (ap (λ f. read f ++ read c) (sym (named_fork root xs branches last))
    ∙ sym (join (built_path root (builder.Fork xs branches last)) c)))))

pub fork_stored : (root : RootView) (xs : Vec Segment Global) (branches : Vec PathBuilder Global) (last : Box PathBuilder Global) (rest : List PathBuilder)
    → AreModulesStored root (modules_of_builders (builder.Fork xs branches last ∷ rest))
    → AreModulesStored root (modules_of_builders (branches.items ++ last.value ∷ rest))
fork_stored root xs branches last rest h =
    let both = stored_apart root (modules_of_builder (builder.Fork xs branches last)) (modules_of_builders rest) h in
    let split = stored_apart root (modules_of_segments xs.items) (modules_of_builders branches.items ++ modules_of_builder last.value)
    (subst (AreModulesStored root) (modules_fork xs branches last) both.0) in
    let next = stored_apart root (modules_of_builders branches.items) (modules_of_builder last.value) split.1 in
    subst (AreModulesStored root) (sym (builders_join branches.items (last.value ∷ rest)))
    (stored_both root (modules_of_builders branches.items) (modules_of_builders (last.value ∷ rest)) next.0
    (stored_both root (modules_of_builder last.value) (modules_of_builders rest) next.1 both.1))

pub ends_in_fork : {left at_search_start : List DefinitionOrUnresolved} {rest builders : List PathBuilder} (xs : Vec Segment Global)
    (branches : Vec PathBuilder Global)
    (last : Box PathBuilder Global) (x : PathBuilder) → x ≡ builder.Fork xs branches last → AreBuilderEndsSo left (x ∷ rest) at_search_start builders
    → AreBuilderEndsSo left (branches.items ++ last.value ∷ rest) at_search_start builders
ends_in_fork {left = left} {at_search_start = at_search_start} {rest = rest} {builders = builders} xs branches last x x_is so =
    let is = subst (λ y. AreBuilderEndsSo left (y ∷ rest) at_search_start builders) x_is so in
    record {
      view = λ root. ap (λ ys. map (path_leaf_of_end root) left ++ ys)
          (opened_fork leaves_of_forest leaves_of_forest-join leaves_linked root xs branches last rest) ∙ is.view root;
      stored = λ root a b. let h = is.stored root a b in (h.0, fork_stored root xs branches last rest h.1);
    }

pub definitions_in_fork : {found at_search_start : List Definition} {rest builders : List PathBuilder} (xs : Vec Segment Global)
    (branches : Vec PathBuilder Global)
    (last : Box PathBuilder Global) (x : PathBuilder) → x ≡ builder.Fork xs branches last → IsListedSoFar found (x ∷ rest) at_search_start builders
    → IsListedSoFar found (branches.items ++ last.value ∷ rest) at_search_start builders
definitions_in_fork {found = found} {at_search_start = at_search_start} {rest = rest} {builders = builders} xs branches last x x_is so =
    let is = subst (λ y. IsListedSoFar found (y ∷ rest) at_search_start builders) x_is so in
    record {
      view = λ root. ap (λ ys. map (definition_by_specifier root) found ++ ys)
          (opened_fork definitions_of_forest defined_join defined_linked root xs branches last rest) ∙ is.view root;
      stored = λ root a b. let h = is.stored root a b in (h.0, fork_stored root xs branches last rest h.1);
    }

pub ends_in_end : {left now at_search_start : List DefinitionOrUnresolved} {builders : List PathBuilder} (rest new : List PathBuilder) (xs : Vec Segment Global)
    (end : DefinitionOrUnresolved) (x : PathBuilder) → rest ≡ new ++ x ∷ [] → x ≡ builder.End xs end → now ≡ left ++ end ∷ [] → AreBuilderEndsSo left
    (reverse rest) at_search_start builders
    → AreBuilderEndsSo now (reverse new) at_search_start builders
ends_in_end {left = left} {now = now} {at_search_start = at_search_start} {builders = builders} rest new xs end x rest_is x_is now_is so =
    builder_ends_next left now at_search_start x (reverse new) builders
    (subst (λ ys. AreBuilderEndsSo left ys at_search_start builders) (popped_first rest new x rest_is) so)
    (λ root. ap (map (path_leaf_of_end root)) now_is ∙ (map-append (path_leaf_of_end root) left (end ∷ [])
    ∙ ap (λ ys. map (path_leaf_of_end root) left ++ ys) (sym (ap (λ b. leaves_of_forest (built_path root b)) x_is ∙ leaves_to root xs end))))
    (λ root a b. subst (λ ends. AreModulesStored root (map module_of_end ends)) (sym now_is) (end_stored root left end a
    (stored_apart root (modules_of_segments xs.items) (module_of_end end ∷ []) (subst (AreModulesStored root) (ap modules_of_builder x_is ∙ modules_to xs end)
    b)).1))

-- ---- paths

pub ends_in_leaf : (left now at_search_start : List DefinitionOrUnresolved) (rest new paths : List DefinitionPathNode) (x : DefinitionPathNode)
    (end : DefinitionOrUnresolved) → rest ≡ new ++ x ∷ [] → ((root : RootView) → leaves_of_tree (path_by_specifier root x) ≡ path_leaf_of_end root end ∷ [])
    → now ≡ left ++ end ∷ [] → AreEndsSo left (reverse rest) at_search_start paths → AreEndsSo now (reverse new) at_search_start paths
ends_in_leaf left now at_search_start rest new paths x end rest_is leaf_is now_is so =
    ends_next left now at_search_start x (reverse new) paths (subst (λ ys. AreEndsSo left ys at_search_start paths) (popped_first rest new x rest_is) so)
    (λ root. ap (map (path_leaf_of_end root)) now_is ∙ (map-append (path_leaf_of_end root) left (end ∷ [])
    ∙ ap (λ ys. map (path_leaf_of_end root) left ++ ys) (sym (leaf_is root))))

pub ends_in_link : (left at_search_start : List DefinitionOrUnresolved) (rest new more paths : List DefinitionPathNode) (x : DefinitionPathNode)
    (l : DefinitionPathLink) → rest ≡ new ++ x ∷ [] → x ≡ node.Resolved (resolved.Link l) → more ≡ new ++ reverse l.next.items
    → AreEndsSo left (reverse rest) at_search_start paths → AreEndsSo left (reverse more) at_search_start paths
ends_in_link left at_search_start rest new more paths x l rest_is x_is more_is so =
    let is = subst (λ ys. AreEndsSo left ys at_search_start paths) (popped_first rest new x rest_is) so in
    subst (λ ys. AreEndsSo left ys at_search_start paths) (sym (put_first new l.next.items more more_is)) (λ root.
    let after = leaves_of_forest (paths_by_specifier root (reverse new)) in
    ap (λ ys. map (path_leaf_of_end root) left ++ ys) (ap leaves_of_forest (forest_on root l.next.items (reverse new))
    ∙ (leaves_of_forest-join (paths_by_specifier root l.next.items) (paths_by_specifier root (reverse new))
    ∙ ap (λ ys. ys ++ after) (sym (ap (λ n. leaves_of_tree (path_by_specifier root n)) x_is ∙ leaves_of_link root l))))
    ∙ is root)

pub unresolved_leaf : (root : RootView) (x : DefinitionUnresolved)
    → leaves_of_tree (path_by_specifier root (node.Unresolved x)) ≡ unresolved (unresolved_entry_view root x) ∷ []
unresolved_leaf root x = search (rules, the_lemmas)

pub definition_leaf : (root : RootView) (x : Definition)
    → leaves_of_tree (path_by_specifier root (node.Resolved (resolved.Definition x))) ≡ definition (definition_by_specifier root x) ∷ []
definition_leaf root x = search (rules, the_lemmas)
