-- The weights of segments and of builders, for the loops that drop them and those that visit them.
use Rattle.std.proofs.Common.{◌≡◌, ℕ, ◌+◌, ◌<◌, List, [], ◌∷◌, ◌++◌, length, reverse, Vec, Box, refl, sym, ◌∙◌, ap, arith}
use Rattle.std.specs.Prelude.{slice_set, slice_index_or}
use Rattle.std.specs.Global.{Global}
use Rattle.std.proofs.lemmas.List.{map-append, reverse-append}
use Rattle.symbols_paths.specs.declared.shared_parts.SharedParts.{SharedParts}
use Rattle.symbols_paths.specs.declared.path_builder.Segment.{Segment}
use Rattle.symbols_paths.specs.declared.path_builder.Segment.TheFolds.{fold-Segment, fold-roll-Segment}
use Rattle.symbols_paths.specs.declared.path_builder.Segment.TheOpen as open_segment
use Rattle.symbols_paths.specs.declared.path_builder.Segment.TheVariants as segment
use Rattle.symbols_paths.specs.declared.path_builder.PathBuilder.{PathBuilder}
use Rattle.symbols_paths.specs.declared.path_builder.PathBuilder.TheFolds.{fold-PathBuilder, fold-roll-PathBuilder}
use Rattle.symbols_paths.specs.declared.path_builder.PathBuilder.TheOpen as open_builder
use Rattle.symbols_paths.specs.declared.path_builder.PathBuilder.TheVariants as builder
use Rattle.symbols_paths.proofs.DropOrder.{whole_in, ahead_in, whole, left, whole_more, left_more, whole_append, whole_reverse, put_first}

abbrev pub fold_segment_to_weight : open_segment.Segment-F (ℕ × ℕ) → ℕ × ℕ
fold_segment_to_weight (open_segment.LinkStep step) = (1, 1)
fold_segment_to_weight (open_segment.WithParts parts inner) = (1 + ahead_in inner.items, 1 + whole_in inner.items)

abbrev pub weight_of_segment : Segment → ℕ × ℕ
weight_of_segment = fold-Segment (ℕ × ℕ) fold_segment_to_weight

pub weight_of_under : (parts : SharedParts) (inner : Vec Segment Global)
    → weight_of_segment (segment.WithParts parts inner) ≡ (1 + left weight_of_segment inner.items, 1 + whole weight_of_segment inner.items)
weight_of_under parts inner = ap weight_of_segment (sym (segment.rolls-WithParts parts inner))
    ∙ fold-roll-Segment (ℕ × ℕ) fold_segment_to_weight (open_segment.WithParts parts inner)

abbrev pub fold_builder_to_weight : open_builder.PathBuilder-F (ℕ × ℕ) → ℕ × ℕ
fold_builder_to_weight (open_builder.End segments end) = (1, 1)
fold_builder_to_weight (open_builder.Fork segments branches last) =
    (1 + ahead_in (branches.items ++ last.value ∷ []), 1 + whole_in (branches.items ++ last.value ∷ []))

abbrev pub weight_of_builder : PathBuilder → ℕ × ℕ
weight_of_builder = fold-PathBuilder (ℕ × ℕ) fold_builder_to_weight

-- the branches of a fork, the last one included
abbrev pub all_branches : Vec PathBuilder Global → Box PathBuilder Global → List PathBuilder
all_branches branches last = branches.items ++ last.value ∷ []

pub weight_of_fork : (xs : Vec Segment Global) (branches : Vec PathBuilder Global) (last : Box PathBuilder Global)
    → weight_of_builder (builder.Fork xs branches last)
    ≡ (1 + left weight_of_builder (all_branches branches last), 1 + whole weight_of_builder (all_branches branches last))
weight_of_fork xs branches last = ap weight_of_builder (sym (builder.rolls-Fork xs branches last))
    ∙ (fold-roll-PathBuilder (ℕ × ℕ) fold_builder_to_weight (open_builder.Fork xs branches last)
    ∙ ap (λ ws. (1 + ahead_in ws, 1 + whole_in ws)) (sym (map-append weight_of_builder branches.items (last.value ∷ []))))

-- the last branch of a fork without others comes instead of the fork
pub narrowed : (work branches : List PathBuilder) (last self : PathBuilder) → (length work ≡ 0 → ⊥)
    → (weight_of_builder self).1 ≡ 1 + whole weight_of_builder (branches ++ last ∷ [])
    → left weight_of_builder (work ++ last ∷ []) < left weight_of_builder (work ++ self ∷ [])
narrowed [] branches last self some _ = absurd (some refl)
narrowed (m ∷ ms) branches last self _ here =
    omega (arith, left_more weight_of_builder m ms last, left_more weight_of_builder m ms self, here, whole_more weight_of_builder branches last)

-- the branches of a fork come instead of the fork, and a fork above the others and the last branch takes the place of the first of them
pub spliced_fork : (work branches : List PathBuilder) (first last self spliced_in : PathBuilder) → (length work ≡ 0 → ⊥) → (length branches ≡ 0 → ⊥)
    → (weight_of_builder self).1 ≡ 1 + whole weight_of_builder (branches ++ last ∷ [])
    → (weight_of_builder spliced_in).0 ≡ 1 + left weight_of_builder (work ++ last ∷ []) → first ≡ slice_index_or branches 0 first
    → left weight_of_builder (slice_set branches 0 spliced_in ++ first ∷ []) < left weight_of_builder (work ++ self ∷ [])
spliced_fork [] branches first last self spliced_in some _ _ _ _ = absurd (some refl)
spliced_fork (m ∷ ms) [] first last self spliced_in _ some _ _ _ = absurd (some refl)
spliced_fork (m ∷ ms) (b ∷ bs) first last self spliced_in _ _ here ahead is =
    omega (
      arith,
      left_more weight_of_builder spliced_in bs first,
      left_more weight_of_builder m ms self,
      left_more weight_of_builder m ms last,
      here,
      ahead,
      whole_more weight_of_builder (b ∷ bs) last,
      ap (λ x. (weight_of_builder x).1) is,
    )

-- a fork is opened: its branches are left, and the builders after it are those of the open fork
pub fork_lighter : (rest new more : List PathBuilder) (xs : Vec Segment Global) (branches : Vec PathBuilder Global) (last : Box PathBuilder Global)
    (x : PathBuilder) (further : ℕ) → rest ≡ new ++ x ∷ [] → x ≡ builder.Fork xs branches last → more ≡ reverse (all_branches branches last)
    → whole weight_of_builder more + (1 + whole weight_of_builder new + further) < whole weight_of_builder rest + further
fork_lighter rest new more xs branches last x further rest_is x_is more_is =
    omega (
      arith,
      ap (whole weight_of_builder) rest_is,
      whole_append weight_of_builder new (x ∷ []),
      ap (λ y. (weight_of_builder y).1) x_is,
      ap (λ w. w.1) (weight_of_fork xs branches last),
      ap (whole weight_of_builder) more_is,
      whole_reverse weight_of_builder (all_branches branches last),
    )

-- a fork is taken off a stack, and its branches are put on, the last one first
pub fork_visited : (stack new more : List PathBuilder) (xs : Vec Segment Global) (branches : Vec PathBuilder Global) (last : Box PathBuilder Global)
    (x : PathBuilder) → stack ≡ new ++ x ∷ [] → x ≡ builder.Fork xs branches last → reverse more ≡ branches.items ++ last.value ∷ reverse new
    → whole weight_of_builder more < whole weight_of_builder stack
fork_visited stack new more xs branches last x stack_is x_is more_is =
    omega (
      arith,
      ap (whole weight_of_builder) stack_is,
      whole_append weight_of_builder new (x ∷ []),
      ap (λ y. (weight_of_builder y).1) x_is,
      ap (λ w. w.1) (weight_of_fork xs branches last),
      whole_more weight_of_builder branches.items last.value,
      whole_reverse weight_of_builder more,
      ap (whole weight_of_builder) more_is,
      whole_append weight_of_builder branches.items (last.value ∷ reverse new),
      whole_reverse weight_of_builder new,
    )

pub put_fork : (new bs more : List PathBuilder) (last : PathBuilder) → more ≡ (new ++ last ∷ []) ++ reverse bs → reverse more ≡ bs ++ last ∷ reverse new
put_fork new bs more last put = put_first (new ++ last ∷ []) bs more put ∙ ap (λ ys. bs ++ ys) (reverse-append new (last ∷ []))
