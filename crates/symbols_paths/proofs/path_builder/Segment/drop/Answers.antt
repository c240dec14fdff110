use Rattle.std.proofs.Common.{◌≡◌, ◌<◌, ◌++◌, [], ◌∷◌, sym, subst, ◌∙◌, ap}
use Rattle.std.specs.Prelude.{slice_set, slice_index_or}
use Rattle.symbols_paths.proofs.DropOrder.{left, dropped, opened, spliced, is_none, is_some}
use Rattle.symbols_paths.proofs.DropBuilders.{weight_of_segment, weight_of_under}
use Rattle.symbols_paths.proofs.path_builder.Segment.drop.Goals as goal
use Rattle.symbols_paths.proofs.path_builder.Segment.drop.Goals.{in-Some-into_inner, then-is_empty, else-is_empty+then-is_empty-2, in_default-into_inner}

pub loop-parts-smaller-else-is_empty-2 : goal.loop-parts-smaller-else-is_empty-2
loop-parts-smaller-else-is_empty-2 c =
    let x = c.in-Some-into_inner in
    let work = c.loop-parts.work in
    subst (λ spliced_in. left weight_of_segment (slice_set x.inner.items 0 spliced_in ++ c.replace-self.result ∷ [])
    < left weight_of_segment (work.items ++ c.loop-parts.self ∷ []))
    (sym c.replace-self.ensures.after)
    (spliced weight_of_segment work.items x.inner.items c.replace-self.result c.loop-parts.self _
    (is_some work (sym c.if-is_empty-2.false ∙ c.is_empty-else-is_empty.ensures))
    (is_some x.inner (sym c.if-is_empty.false ∙ c.is_empty.ensures))
    (ap (λ segment. (weight_of_segment segment).1) x.ensures ∙ ap (λ w. w.1) (weight_of_under x.parts x.inner))
    (ap (λ w. w.0) (weight_of_under x.parts work))
    (subst (λ segment. segment ≡ slice_index_or x.inner.items 0 segment) (sym c.replace-self.ensures.value) c.index_mut.ensures.value))

pub loop-parts-smaller : goal.loop-parts-smaller
loop-parts-smaller c =
    let gone = dropped weight_of_segment c.loop-parts.work.items c.pop-in-loop-parts.new.self.items c.in-Some-pop-2.segment c.loop-parts.self in
    elim c.match-into_inner-2.branch [
      | in-Some-into_inner w ↦
          let x = w.in-Some-into_inner in
          elim w.if-is_empty.branch [
            | then-is_empty v ↦ gone (sym (ap (λ ys. ys.items) (w.work-is ∙ v.work-is)) ∙ c.in-Some-pop-2.ensures.items)
            | else-is_empty+then-is_empty-2 v ↦
                subst (λ ns. left weight_of_segment ns < left weight_of_segment (c.loop-parts.work.items ++ c.loop-parts.self ∷ []))
                (sym (ap (λ ys. ys.items) (w.work-is ∙ v.work-is)) ∙ c.in-Some-pop-2.ensures.items)
                (opened weight_of_segment c.loop-parts.work.items x.inner.items c.loop-parts.self
                (is_none c.loop-parts.work (sym v.if-is_empty-2.true ∙ v.is_empty-else-is_empty.ensures))
                (ap (λ segment. (weight_of_segment segment).0) x.ensures ∙ ap (λ w. w.0) (weight_of_under x.parts x.inner)))
          ]
      | in_default-into_inner w ↦ gone (sym (ap (λ ys. ys.items) w.work-is) ∙ c.in-Some-pop-2.ensures.items)
    ]
