-- The paths of builders and their modules, by the form of a builder.
use Rattle.std.proofs.Common.{◌≡◌, zero, suc, ◌<◌, List, [], ◌∷◌, ◌++◌, length, map, Option, None, Some, option_to_list}
use Rattle.std.proofs.Common.{Vec, Box, true, refl, sym, ◌∙◌, ap, subst, arith, append_assoc, append-nil}
use Rattle.std.specs.Prelude.{vec_len, ◌==◌}
use Rattle.std.specs.Global.{Global}
use Rattle.std.proofs.lemmas.List.{map-append}
use Rattle.symbols_ast.specs.declared.ids.ModuleId.{ModuleId}
use Rattle.symbols_root.specs.Roots.{RootView}
use Rattle.symbols_paths.specs.declared.definition_iter.DefinitionOrUnresolved.{DefinitionOrUnresolved}
use Rattle.symbols_paths.specs.declared.shared_parts.SharedParts.{SharedParts}
use Rattle.symbols_paths.specs.declared.path_builder.LinkStep.{LinkStep}
use Rattle.symbols_paths.specs.declared.path_builder.Segment.{Segment}
use Rattle.symbols_paths.specs.declared.path_builder.Segment.TheFolds.{fold-roll-Segment}
use Rattle.symbols_paths.specs.declared.path_builder.Segment.TheOpen as open_segment
use Rattle.symbols_paths.specs.declared.path_builder.Segment.TheVariants as segment
use Rattle.symbols_paths.specs.declared.path_builder.PathBuilder.{PathBuilder}
use Rattle.symbols_paths.specs.declared.path_builder.PathBuilder.TheFolds.{fold-roll-PathBuilder, ind-PathBuilder, map-PathBuilder}
use Rattle.symbols_paths.specs.declared.path_builder.PathBuilder.TheOpen as open_builder
use Rattle.symbols_paths.specs.declared.path_builder.PathBuilder.TheVariants as builder
use Rattle.symbols_paths.specs.declared.path_builder.PathBuilder.TheViews.{roll-PathBuilder}
use Rattle.symbols_paths.specs.PathTrees.{QualifiedNameParts, LinkHead, PathTree, PathForest, leaf, link, no_trees, more_trees, forest_of_tree, joined_forests}
use Rattle.symbols_paths.specs.PathTrees.{forest_below_link_unless_empty}
use Rattle.symbols_paths.specs.Derived.{link_head_with_parts_replaced}
use Rattle.symbols_paths.specs.inner.ReplacedDefinitions.{definitions_of_tree, definitions_of_forest, tree_with_definitions_replaced}
use Rattle.symbols_paths.specs.inner.ReplacedDefinitions.{forest_with_definitions_replaced}
use Rattle.symbols_paths.specs.Views.{path_leaf_of_end, module_of_end, concat_module_ids, AreModulesStored}
use Rattle.symbols_paths.specs.inner.PathBuilders.{remaining_parts, link_head_of_step, link_heads_with_parts_replaced, concat_link_heads}
use Rattle.symbols_paths.specs.inner.PathBuilders.{fold_segment_to_reversed_link_heads, reversed_link_heads_of_segment, reversed_link_heads_of_segments}
use Rattle.symbols_paths.specs.inner.PathBuilders.{forest_below_reversed_links, concat_forests, fold_builder_to_forest, built_path, built_paths}
use Rattle.symbols_paths.specs.inner.PathBuilders.{built_paths_of_option, fold_segment_to_modules, modules_of_segment, modules_of_segments}
use Rattle.symbols_paths.specs.inner.PathBuilders.{fold_builder_to_modules, modules_of_builder, modules_of_builders}
use Rattle.symbols_paths.proofs.NamedPathLemmas.{none_at, stored_both, Ids}
use Rattle.symbols_paths.proofs.LoopInvariants.{join_none, join_assoc}

abbrev Heads : Type 0
Heads = List LinkHead

-- ---- the paths and the modules of each form

pub named_to : (root : RootView) (xs : Vec Segment Global) (end : DefinitionOrUnresolved)
    → built_path root (builder.End xs end) ≡ forest_below_reversed_links (reversed_link_heads_of_segments root xs.items)
    (forest_of_tree (leaf (path_leaf_of_end root end)))
named_to root xs end = ap (built_path root) (sym (builder.rolls-End xs end))
    ∙ fold-roll-PathBuilder PathForest (fold_builder_to_forest root) (open_builder.End xs end)

pub named_fork : (root : RootView) (xs : Vec Segment Global) (branches : Vec PathBuilder Global) (last : Box PathBuilder Global)
    → built_path root (builder.Fork xs branches last)
    ≡ forest_below_reversed_links (reversed_link_heads_of_segments root xs.items)
    (joined_forests (built_paths root branches.items) (built_path root last.value))
named_fork root xs branches last = ap (built_path root) (sym (builder.rolls-Fork xs branches last))
    ∙ fold-roll-PathBuilder PathForest (fold_builder_to_forest root) (open_builder.Fork xs branches last)

pub modules_to : (xs : Vec Segment Global) (end : DefinitionOrUnresolved)
    → modules_of_builder (builder.End xs end) ≡ modules_of_segments xs.items ++ module_of_end end ∷ []
modules_to xs end = ap modules_of_builder (sym (builder.rolls-End xs end)) ∙ fold-roll-PathBuilder Ids fold_builder_to_modules (open_builder.End xs end)

pub modules_fork : (xs : Vec Segment Global) (branches : Vec PathBuilder Global) (last : Box PathBuilder Global)
    → modules_of_builder (builder.Fork xs branches last) ≡ modules_of_segments xs.items ++ (modules_of_builders branches.items ++ modules_of_builder last.value)
modules_fork xs branches last = ap modules_of_builder (sym (builder.rolls-Fork xs branches last))
    ∙ fold-roll-PathBuilder Ids fold_builder_to_modules (open_builder.Fork xs branches last)

pub heads_of_step : (root : RootView) (step : LinkStep) → reversed_link_heads_of_segment root (segment.LinkStep step) ≡ link_head_of_step root step ∷ []
heads_of_step root step = ap (reversed_link_heads_of_segment root) (sym (segment.rolls-LinkStep step))
    ∙ fold-roll-Segment Heads (fold_segment_to_reversed_link_heads root) (open_segment.LinkStep step)

pub heads_of_under : (root : RootView) (parts : SharedParts) (inner : Vec Segment Global)
    → reversed_link_heads_of_segment root (segment.WithParts parts inner) ≡ link_heads_with_parts_replaced (remaining_parts parts)
    (reversed_link_heads_of_segments root inner.items)
heads_of_under root parts inner = ap (reversed_link_heads_of_segment root) (sym (segment.rolls-WithParts parts inner))
    ∙ fold-roll-Segment Heads (fold_segment_to_reversed_link_heads root) (open_segment.WithParts parts inner)

pub modules_of_one_step : (step : LinkStep) → modules_of_segment (segment.LinkStep step) ≡ step.symbol.module_id ∷ []
modules_of_one_step step = ap modules_of_segment (sym (segment.rolls-LinkStep step))
    ∙ fold-roll-Segment Ids fold_segment_to_modules (open_segment.LinkStep step)

pub modules_of_under : (parts : SharedParts) (inner : Vec Segment Global) → modules_of_segment (segment.WithParts parts inner) ≡ modules_of_segments inner.items
modules_of_under parts inner = ap modules_of_segment (sym (segment.rolls-WithParts parts inner))
    ∙ fold-roll-Segment Ids fold_segment_to_modules (open_segment.WithParts parts inner)

-- ---- links

pub linked_on : (xs ys : List LinkHead) (f : PathForest) → forest_below_reversed_links (xs ++ ys) f
    ≡ forest_below_reversed_links ys (forest_below_reversed_links xs f)
linked_on [] ys f = refl
linked_on (x ∷ xs) ys f = linked_on xs ys (forest_below_link_unless_empty x f)

all_heads_on : (xs ys : List (List LinkHead)) → concat_link_heads (xs ++ ys) ≡ concat_link_heads xs ++ concat_link_heads ys
all_heads_on [] ys = refl
all_heads_on (x ∷ xs) ys = ap (λ z. x ++ z) (all_heads_on xs ys) ∙ sym (append_assoc x (concat_link_heads xs) (concat_link_heads ys))

-- the links of segments with one more at the end of the list
pub heads_with : (root : RootView) (xs : List Segment) (x : Segment) → reversed_link_heads_of_segments root (xs ++ x ∷ [])
    ≡ reversed_link_heads_of_segments root xs
    ++ reversed_link_heads_of_segment root x
heads_with root xs x = ap concat_link_heads (map-append (reversed_link_heads_of_segment root) xs (x ∷ []))
    ∙ (all_heads_on (map (reversed_link_heads_of_segment root) xs) (reversed_link_heads_of_segment root x ∷ [])
    ∙ ap (λ z. reversed_link_heads_of_segments root xs ++ z) (append-nil (reversed_link_heads_of_segment root x)))

pub linked_with : (root : RootView) (xs ys : List Segment) (x : Segment) (f : PathForest) → ys ≡ xs ++ x ∷ []
    → forest_below_reversed_links (reversed_link_heads_of_segments root ys) f ≡ forest_below_reversed_links (reversed_link_heads_of_segment root x)
    (forest_below_reversed_links (reversed_link_heads_of_segments root xs) f)
linked_with root xs ys x f e = ap (λ zs. forest_below_reversed_links (reversed_link_heads_of_segments root zs) f) e
    ∙ (ap (λ hs. forest_below_reversed_links hs f) (heads_with root xs x) ∙ linked_on (reversed_link_heads_of_segments root xs)
    (reversed_link_heads_of_segment root x) f)

-- if parts are laid over links twice, the outer parts remain
pub under_twice : (outer inner : QualifiedNameParts) (heads : List LinkHead)
    → link_heads_with_parts_replaced outer (link_heads_with_parts_replaced inner heads) ≡ link_heads_with_parts_replaced outer heads
under_twice outer inner [] = refl
under_twice outer inner (head ∷ heads) = ap (λ hs. link_head_with_parts_replaced head outer ∷ hs) (under_twice outer inner heads)

pub linked_none : (heads : List LinkHead) → forest_below_reversed_links heads no_trees ≡ no_trees
linked_none [] = refl
linked_none (head ∷ heads) = linked_none heads

-- ---- several builders

all_joined_on : (xs ys : List PathForest) → concat_forests (xs ++ ys) ≡ joined_forests (concat_forests xs) (concat_forests ys)
all_joined_on [] ys = refl
all_joined_on (x ∷ xs) ys = ap (joined_forests x) (all_joined_on xs ys) ∙ sym (join_assoc x (concat_forests xs) (concat_forests ys))

pub named_with_builder : (root : RootView) (xs : List PathBuilder) (x : PathBuilder)
    → built_paths root (xs ++ x ∷ []) ≡ joined_forests (built_paths root xs) (built_path root x)
named_with_builder root xs x = ap concat_forests (map-append (built_path root) xs (x ∷ []))
    ∙ (all_joined_on (map (built_path root) xs) (built_path root x ∷ []) ∙ ap (joined_forests (built_paths root xs)) (join_none (built_path root x)))

pub named_with_option : (root : RootView) (xs : List PathBuilder) (x : Option PathBuilder)
    → built_paths root (xs ++ option_to_list x) ≡ joined_forests (built_paths root xs) (built_paths_of_option root x)
named_with_option root xs None = ap (built_paths root) (append-nil xs) ∙ sym (join_none (built_paths root xs))
named_with_option root xs (Some x) = named_with_builder root xs x

pub named_alone : (root : RootView) (xs : List PathBuilder) (x : PathBuilder) → length xs ≡ 0 → built_path root x ≡ built_paths root (xs ++ x ∷ [])
named_alone root [] x e = sym (join_none (built_path root x))
named_alone root (y ∷ ys) x e = absurd (omega (arith, e))

-- ---- modules that are stored

pub stored_apart : (root : RootView) (xs ys : List ModuleId) → AreModulesStored root (xs ++ ys) → AreModulesStored root xs × AreModulesStored root ys
stored_apart root [] ys h = (λ k d w. absurd (omega (arith, w)), h)
stored_apart root (x ∷ xs) ys h =
    let rest = stored_apart root xs ys (λ k d w. h (suc k) d (omega (arith, w))) in
    (first rest.0, rest.1)
  where
    first : AreModulesStored root xs → AreModulesStored root (x ∷ xs)
    first branches zero d w = h 0 d (omega arith)
    first branches (suc k) d w = branches k d (omega (arith, w))

pub none_stored : (root : RootView) → AreModulesStored root []
none_stored root k d w = absurd (omega (arith, w))

pub one_stored : (root : RootView) (id : ModuleId) → id.0 < length root.stored → AreModulesStored root (id ∷ [])
one_stored root id within zero d w = within
one_stored root id within (suc k) d w = absurd (omega (arith, w))

pub joined_on : (xs ys : List (List ModuleId)) → concat_module_ids (xs ++ ys) ≡ concat_module_ids xs ++ concat_module_ids ys
joined_on [] ys = refl
joined_on (x ∷ xs) ys = ap (λ z. x ++ z) (joined_on xs ys) ∙ sym (append_assoc x (concat_module_ids xs) (concat_module_ids ys))

modules_with_segment : (xs : List Segment) (x : Segment) → modules_of_segments (xs ++ x ∷ []) ≡ modules_of_segments xs ++ modules_of_segment x
modules_with_segment xs x = ap concat_module_ids (map-append modules_of_segment xs (x ∷ []))
    ∙ (joined_on (map modules_of_segment xs) (modules_of_segment x ∷ []) ∙ ap (λ z. modules_of_segments xs ++ z) (append-nil (modules_of_segment x)))

pub modules_with_builder : (xs : List PathBuilder) (x : PathBuilder) → modules_of_builders (xs ++ x ∷ []) ≡ modules_of_builders xs ++ modules_of_builder x
modules_with_builder xs x = ap concat_module_ids (map-append modules_of_builder xs (x ∷ []))
    ∙ (joined_on (map modules_of_builder xs) (modules_of_builder x ∷ []) ∙ ap (λ z. modules_of_builders xs ++ z) (append-nil (modules_of_builder x)))

pub stored_one : (root : RootView) (x : PathBuilder) → AreModulesStored root (modules_of_builder x) → AreModulesStored root (modules_of_builders (x ∷ []))
stored_one root x h = subst (AreModulesStored root) (sym (append-nil (modules_of_builder x))) h

pub stored_alone : (root : RootView) (x : PathBuilder) → AreModulesStored root (modules_of_builders (x ∷ [])) → AreModulesStored root (modules_of_builder x)
stored_alone root x h = subst (AreModulesStored root) (append-nil (modules_of_builder x)) h

pub stored_with_option : (root : RootView) (xs : List PathBuilder) (x : Option PathBuilder) → AreModulesStored root (modules_of_builders xs)
    → AreModulesStored root (modules_of_builders (option_to_list x)) → AreModulesStored root (modules_of_builders (xs ++ option_to_list x))
stored_with_option root xs None a b = subst (λ ts. AreModulesStored root (modules_of_builders ts)) (sym (append-nil xs)) a
stored_with_option root xs (Some x) a b =
    subst (AreModulesStored root) (sym (modules_with_builder xs x)) (stored_both root (modules_of_builders xs) (modules_of_builder x) a (stored_alone root x b))

pub stored_segment : (root : RootView) (xs ys : List Segment) (x : Segment) (rest : List ModuleId) → ys ≡ xs ++ x ∷ []
    → AreModulesStored root (modules_of_segment x)
    → AreModulesStored root (modules_of_segments xs ++ rest) → AreModulesStored root (modules_of_segments ys ++ rest)
stored_segment root xs ys x rest e a b =
    let split = stored_apart root (modules_of_segments xs) rest b in
    let here = stored_both root (modules_of_segments xs) (modules_of_segment x) split.0 a in
    stored_both root (modules_of_segments ys) rest (subst (AreModulesStored root) (sym (modules_with_segment xs x) ∙ ap modules_of_segments (sym e)) here)
    split.1

-- ---- builders with their definitions replaced

rebuilt_link_to : (ps : QualifiedNameParts) (head : LinkHead) (f : PathForest) (gs : List PathForest)
    → forest_with_definitions_replaced ps (forest_below_link_unless_empty head f) gs ≡ (
      forest_below_link_unless_empty (link_head_with_parts_replaced head ps)
          (forest_with_definitions_replaced ps f gs).0,
      (forest_with_definitions_replaced ps f gs).1,
    )
rebuilt_link_to ps head no_trees gs = refl
rebuilt_link_to ps head (more_trees t f) gs =
    (λ i. (
      join_none (forest_below_link_unless_empty (link_head_with_parts_replaced head ps) (forest_with_definitions_replaced ps (more_trees t f) gs).0) i,
      (forest_with_definitions_replaced ps (more_trees t f) gs).1,
    ))

pub rebuilt_linked : (ps : QualifiedNameParts) (heads : List LinkHead) (f : PathForest) (gs : List PathForest)
    → forest_with_definitions_replaced ps (forest_below_reversed_links heads f) gs ≡ (
      forest_below_reversed_links (link_heads_with_parts_replaced ps heads)
          (forest_with_definitions_replaced ps f gs).0,
      (forest_with_definitions_replaced ps f gs).1,
    )
rebuilt_linked ps [] f gs = refl
rebuilt_linked ps (head ∷ heads) f gs = rebuilt_linked ps heads (forest_below_link_unless_empty head f) gs
    ∙ (λ i. (forest_below_reversed_links (link_heads_with_parts_replaced ps heads) (rebuilt_link_to ps head f gs i).0, (rebuilt_link_to ps head f gs i).1))

pub rebuilt_join : (ps : QualifiedNameParts) (f g : PathForest) (gs : List PathForest)
    → forest_with_definitions_replaced ps (joined_forests f g) gs ≡ (
      joined_forests (forest_with_definitions_replaced ps f gs).0
          (forest_with_definitions_replaced ps g (forest_with_definitions_replaced ps f gs).1).0,
      (forest_with_definitions_replaced ps g (forest_with_definitions_replaced ps f gs).1).1,
    )
rebuilt_join ps no_trees g gs = refl
rebuilt_join ps (more_trees t f) g gs =
    let r = tree_with_definitions_replaced ps t gs in
    let q = forest_with_definitions_replaced ps f r.1 in
    (λ i. (joined_forests r.0 (rebuilt_join ps f g r.1 i).0, (rebuilt_join ps f g r.1 i).1))
    ∙ (λ i. (sym (join_assoc r.0 q.0 (forest_with_definitions_replaced ps g q.1).0) i, (forest_with_definitions_replaced ps g q.1).1))

pub rebuilt_one : (ps : QualifiedNameParts) (t : PathTree) (gs : List PathForest) → forest_with_definitions_replaced ps (forest_of_tree t) gs
    ≡ tree_with_definitions_replaced ps t gs
rebuilt_one ps t gs = (λ i. (join_none (tree_with_definitions_replaced ps t gs).0 i, (tree_with_definitions_replaced ps t gs).1))

-- ---- the definitions of builders

pub defined_link_to : (head : LinkHead) (f : PathForest) → definitions_of_forest (forest_below_link_unless_empty head f) ≡ definitions_of_forest f
defined_link_to head no_trees = refl
defined_link_to head (more_trees t f) = append-nil (definitions_of_forest (more_trees t f))

pub defined_linked : (heads : List LinkHead) (f : PathForest) → definitions_of_forest (forest_below_reversed_links heads f) ≡ definitions_of_forest f
defined_linked [] f = refl
defined_linked (head ∷ heads) f = defined_linked heads (forest_below_link_unless_empty head f) ∙ defined_link_to head f

pub defined_join : (f g : PathForest) → definitions_of_forest (joined_forests f g) ≡ definitions_of_forest f ++ definitions_of_forest g
defined_join no_trees g = refl
defined_join (more_trees t f) g = ap (λ xs. definitions_of_tree t ++ xs) (defined_join f g)
    ∙ sym (append_assoc (definitions_of_tree t) (definitions_of_forest f) (definitions_of_forest g))

-- ---- a builder has a path

abbrev pub IsSome : PathBuilder → Type 0
IsSome t = (root : RootView) → built_path root t ≡ no_trees → ⊥

linked_some : (heads : List LinkHead) (f : PathForest) → (f ≡ no_trees → ⊥) → forest_below_reversed_links heads f ≡ no_trees → ⊥
linked_some [] f some e = some e
linked_some (head ∷ heads) no_trees some e = absurd (some refl)
linked_some (head ∷ heads) (more_trees t f) some e =
    linked_some heads (forest_of_tree (link head (more_trees t f))) (λ (q : forest_of_tree (link head (more_trees t f)) ≡ no_trees). cc) e

join_some : (f g : PathForest) → (g ≡ no_trees → ⊥) → joined_forests f g ≡ no_trees → ⊥
join_some no_trees g some e = some e
join_some (more_trees t f) g some e = cc

pub builder_some : (t : PathBuilder) → IsSome t
builder_some = ind-PathBuilder IsSome (λ x y is. subst (λ z. IsSome (roll-PathBuilder z)) is (by y))
  where
    by : (y : open_builder.PathBuilder-F ((t : PathBuilder) × IsSome t))
        → IsSome (roll-PathBuilder (map-PathBuilder ((t : PathBuilder) × IsSome t) PathBuilder (λ e. e.0) y))
    by (open_builder.End xs end) root e = linked_some (reversed_link_heads_of_segments root xs.items) (forest_of_tree (leaf (path_leaf_of_end root end)))
        (λ (q : forest_of_tree (leaf (path_leaf_of_end root end)) ≡ no_trees). cc)
        (sym (fold-roll-PathBuilder PathForest (fold_builder_to_forest root) (open_builder.End xs end)) ∙ e)
    by (open_builder.Fork xs branches last) root e =
        let here : open_builder.PathBuilder-F PathBuilder =
        map-PathBuilder ((t : PathBuilder) × IsSome t) PathBuilder (λ e. e.0) (open_builder.Fork xs branches last) in
        linked_some (reversed_link_heads_of_segments root xs.items)
        (joined_forests (concat_forests (map (built_path root) (map (λ (e : (t : PathBuilder) × IsSome t). e.0)
        branches.items))) (built_path root last.value.0)) (join_some (concat_forests (map (built_path root) (map (λ (e : (t : PathBuilder) × IsSome t). e.0)
        branches.items))) (built_path root last.value.0) (last.value.1 root)) (sym (fold-roll-PathBuilder PathForest (fold_builder_to_forest root) here) ∙ e)

-- `is_empty` of builders: they have no paths
pub is_none : (root : RootView) (builders : Vec PathBuilder Global) → true ≡ (vec_len builders == 0) → built_paths root builders.items ≡ no_trees
is_none root builders said = by builders.items (sym builders.ok.0 ∙ none_at (vec_len builders) said)
  where
    by : (xs : List PathBuilder) → length xs ≡ 0 → built_paths root xs ≡ no_trees
    by [] e = refl
    by (x ∷ xs) e = absurd (omega (arith, e))

pub not_none : (root : RootView) (builders : List PathBuilder) → (length builders ≡ 0 → ⊥) → built_paths root builders ≡ no_trees → ⊥
not_none root [] some e = some refl
not_none root (x ∷ xs) some e = first (built_path root x) (built_paths root xs) (builder_some x root) e
  where
    first : (f g : PathForest) → (f ≡ no_trees → ⊥) → joined_forests f g ≡ no_trees → ⊥
    first no_trees g some e = some refl
    first (more_trees t f) g some e = cc
