-- Path builders as paths, and their modules, in a root.
use Rattle.std.specs.Prelude.{List, [], ◌∷◌, ◌++◌, map, drop, Option, Some, None}
use Rattle.std.specs.Option.{option_map_or}
use Rattle.std.specs.Rc.{rc_slice_items}
use Rattle.symbols_ast.specs.declared.ids.ModuleId.{ModuleId}
use Rattle.symbols_root.specs.Roots.{RootView}
use Rattle.symbols_paths.specs.declared.shared_parts.SharedParts.{SharedParts}
use Rattle.symbols_paths.specs.declared.path_builder.LinkStep.{LinkStep}
use Rattle.symbols_paths.specs.declared.path_builder.Segment.{Segment}
use Rattle.symbols_paths.specs.declared.path_builder.Segment.TheFolds.{fold-Segment}
use Rattle.symbols_paths.specs.declared.path_builder.Segment.TheOpen as segment
use Rattle.symbols_paths.specs.declared.path_builder.Segment.TheVariants as whole_segment
use Rattle.symbols_paths.specs.declared.path_builder.OpenedSegment.{OpenedSegment}
use Rattle.symbols_paths.specs.declared.path_builder.OpenedSegment.TheVariants as opened_segment
use Rattle.symbols_paths.specs.declared.path_builder.PathBuilder.{PathBuilder}
use Rattle.symbols_paths.specs.declared.path_builder.PathBuilder.TheFolds.{fold-PathBuilder}
use Rattle.symbols_paths.specs.declared.path_builder.PathBuilder.TheOpen as builder
use Rattle.symbols_paths.specs.declared.path_builder.PathBuilder.TheVariants as whole_builder
use Rattle.symbols_paths.specs.declared.path_builder.OpenedBuilder.{OpenedBuilder}
use Rattle.symbols_paths.specs.declared.path_builder.OpenedBuilder.TheVariants as opened_builder
use Rattle.symbols_paths.specs.PathTrees.{QualifiedNameParts, LinkHead, PathForest, leaf, no_trees, forest_of_tree, joined_forests}
use Rattle.symbols_paths.specs.PathTrees.{forest_below_link_unless_empty}
use Rattle.symbols_paths.specs.Derived.{link_head_with_parts_replaced}
use Rattle.symbols_paths.specs.Views.{decl_by_specifier, strings_view, path_leaf_of_end, module_of_end, concat_module_ids}
use Rattle.symbols_paths.specs.inner.Views.{symbol_of_unique_id}

-- the remaining parts: those of the list from `first` on
abbrev pub remaining_parts : SharedParts → QualifiedNameParts
remaining_parts parts = drop parts.first (strings_view (rc_slice_items parts.list))

-- the segment or the builder that was taken apart
abbrev pub segment_of_opened : OpenedSegment → Segment
segment_of_opened (opened_segment.LinkStep step) = whole_segment.LinkStep step
segment_of_opened (opened_segment.WithParts parts inner) = whole_segment.WithParts parts inner

abbrev pub builder_of_opened : OpenedBuilder → PathBuilder
builder_of_opened (opened_builder.End segments end) = whole_builder.End segments end
builder_of_opened (opened_builder.Fork segments branches last) = whole_builder.Fork segments branches last

-- the head of a step's link
abbrev pub link_head_of_step : RootView → LinkStep → LinkHead
link_head_of_step root step = record {
  symbol = symbol_of_unique_id root step.symbol;
  decl = decl_by_specifier root step.symbol.module_id step.symbol_decl;
  parts = option_map_or remaining_parts step.parts [];
}

-- the same links, with these parts instead of their own
abbrev pub link_heads_with_parts_replaced : QualifiedNameParts → List LinkHead → List LinkHead
link_heads_with_parts_replaced ps heads = map (λ head. link_head_with_parts_replaced head ps) heads

-- the links of segments, in the reverse order that segments are in
abbrev pub concat_link_heads : List (List LinkHead) → List LinkHead
concat_link_heads [] = []
concat_link_heads (heads ∷ rest) = heads ++ concat_link_heads rest

abbrev pub fold_segment_to_reversed_link_heads : RootView → segment.Segment-F (List LinkHead) → List LinkHead
fold_segment_to_reversed_link_heads root (segment.LinkStep step) = link_head_of_step root step ∷ []
fold_segment_to_reversed_link_heads root (segment.WithParts parts inner) = link_heads_with_parts_replaced (remaining_parts parts)
    (concat_link_heads inner.items)

abbrev pub reversed_link_heads_of_segment : RootView → Segment → List LinkHead
reversed_link_heads_of_segment root = fold-Segment (List LinkHead) (fold_segment_to_reversed_link_heads root)

abbrev pub reversed_link_heads_of_segments : RootView → List Segment → List LinkHead
reversed_link_heads_of_segments root segments = concat_link_heads (map (reversed_link_heads_of_segment root) segments)

-- paths, with these links in front; the first link is next to the paths
abbrev pub forest_below_reversed_links : List LinkHead → PathForest → PathForest
forest_below_reversed_links [] f = f
forest_below_reversed_links (head ∷ heads) f = forest_below_reversed_links heads (forest_below_link_unless_empty head f)

abbrev pub concat_forests : List PathForest → PathForest
concat_forests [] = no_trees
concat_forests (f ∷ rest) = joined_forests f (concat_forests rest)

-- the paths of a builder
abbrev pub fold_builder_to_forest : RootView → builder.PathBuilder-F PathForest → PathForest
fold_builder_to_forest root (builder.End segments end) =
    forest_below_reversed_links (reversed_link_heads_of_segments root segments.items) (forest_of_tree (leaf (path_leaf_of_end root end)))
fold_builder_to_forest root (builder.Fork segments branches last) =
    forest_below_reversed_links (reversed_link_heads_of_segments root segments.items) (joined_forests (concat_forests branches.items) last.value)

abbrev pub built_path : RootView → PathBuilder → PathForest
built_path root = fold-PathBuilder PathForest (fold_builder_to_forest root)

abbrev pub built_paths : RootView → List PathBuilder → PathForest
built_paths root builders = concat_forests (map (built_path root) builders)

abbrev pub built_paths_of_option : RootView → Option PathBuilder → PathForest
built_paths_of_option root None = no_trees
built_paths_of_option root (Some builder) = built_path root builder

-- the modules of a builder
abbrev pub fold_segment_to_modules : segment.Segment-F (List ModuleId) → List ModuleId
fold_segment_to_modules (segment.LinkStep step) = step.symbol.module_id ∷ []
fold_segment_to_modules (segment.WithParts parts inner) = concat_module_ids inner.items

abbrev pub modules_of_segment : Segment → List ModuleId
modules_of_segment = fold-Segment (List ModuleId) fold_segment_to_modules

abbrev pub modules_of_segments : List Segment → List ModuleId
modules_of_segments segments = concat_module_ids (map modules_of_segment segments)

abbrev pub fold_builder_to_modules : builder.PathBuilder-F (List ModuleId) → List ModuleId
fold_builder_to_modules (builder.End segments end) = modules_of_segments segments.items ++ module_of_end end ∷ []
fold_builder_to_modules (builder.Fork segments branches last) = modules_of_segments segments.items ++ (concat_module_ids branches.items ++ last.value)

abbrev pub modules_of_builder : PathBuilder → List ModuleId
modules_of_builder = fold-PathBuilder (List ModuleId) fold_builder_to_modules

abbrev pub modules_of_builders : List PathBuilder → List ModuleId
modules_of_builders builders = concat_module_ids (map modules_of_builder builders)

-- the builders among these options
abbrev pub builders_among : List (Option PathBuilder) → List PathBuilder
builders_among [] = []
builders_among (None ∷ rest) = builders_among rest
builders_among (Some builder ∷ rest) = builder ∷ builders_among rest
