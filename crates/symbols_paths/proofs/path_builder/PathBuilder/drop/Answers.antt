use Rattle.std.proofs.Common.{◌≡◌, ◌<◌, ◌++◌, [], ◌∷◌, sym, subst, ◌∙◌, ap}
use Rattle.std.specs.Prelude.{slice_set, slice_index_or}
use Rattle.symbols_paths.proofs.DropOrder.{left, dropped, opened, is_none, is_some}
use Rattle.symbols_paths.proofs.DropBuilders.{weight_of_builder, weight_of_fork, all_branches, narrowed, spliced_fork}
use Rattle.symbols_paths.proofs.path_builder.PathBuilder.drop.Goals as goal

pub loop-segments-smaller : goal.loop-segments-smaller
loop-segments-smaller c =
    dropped weight_of_builder c.loop-segments.work.items c.pop.new.self.items c.in-Some-pop.builder c.loop-segments.self c.in-Some-pop.ensures.items

pub loop-segments-smaller-then-is_empty : goal.loop-segments-smaller-then-is_empty
loop-segments-smaller-then-is_empty c =
    let x = c.in-Some-into_fork in
    subst (λ last. left weight_of_builder (x.branches.items ++ last ∷ []) < left weight_of_builder (c.loop-segments.work.items ++ c.loop-segments.self ∷ []))
    (sym c.into_inner-self-then-is_empty.ensures)
    (opened weight_of_builder c.loop-segments.work.items (all_branches x.branches x.last) c.loop-segments.self
    (is_none c.loop-segments.work (sym c.if-is_empty.true ∙ c.is_empty.ensures))
    (ap (λ b. (weight_of_builder b).0) x.ensures ∙ ap (λ w. w.0) (weight_of_fork x.segments x.branches x.last)))

pub loop-segments-smaller-then-is_empty-2 : goal.loop-segments-smaller-then-is_empty-2
loop-segments-smaller-then-is_empty-2 c =
    let x = c.in-Some-into_fork in
    subst (λ last. left weight_of_builder (c.loop-segments.work.items ++ last ∷ []) < left weight_of_builder (c.loop-segments.work.items
    ++ c.loop-segments.self ∷ [])) (sym c.into_inner-self-then-is_empty-2.ensures)
    (narrowed c.loop-segments.work.items x.branches.items x.last.value c.loop-segments.self
    (is_some c.loop-segments.work (sym c.if-is_empty.false ∙ c.is_empty.ensures))
    (ap (λ b. (weight_of_builder b).1) x.ensures ∙ ap (λ w. w.1) (weight_of_fork x.segments x.branches x.last)))

pub loop-segments-smaller-else-is_empty-2 : goal.loop-segments-smaller-else-is_empty-2
loop-segments-smaller-else-is_empty-2 c =
    let x = c.in-Some-into_fork in
    let work = c.loop-segments.work in
    subst (λ spliced_in. left weight_of_builder (slice_set x.branches.items 0 spliced_in ++ c.replace-self.result ∷ [])
    < left weight_of_builder (work.items ++ c.loop-segments.self ∷ []))
    (sym c.replace-self.ensures.after)
    (spliced_fork work.items x.branches.items c.replace-self.result x.last.value c.loop-segments.self _
    (is_some work (sym c.if-is_empty.false ∙ c.is_empty.ensures))
    (is_some x.branches (sym c.if-is_empty-2.false ∙ c.is_empty-else-is_empty.ensures))
    (ap (λ b. (weight_of_builder b).1) x.ensures ∙ ap (λ w. w.1) (weight_of_fork x.segments x.branches x.last))
    (ap (λ w. w.0) (weight_of_fork x.segments work x.last))
    (subst (λ b. b ≡ slice_index_or x.branches.items 0 b) (sym c.replace-self.ensures.value) c.index_mut.ensures.value))
