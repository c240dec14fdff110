use Rattle.std.proofs.Common.{◌≡◌, ◌<◌, ◌++◌, [], ◌∷◌, sym, subst, ◌∙◌, ap}
use Rattle.std.specs.Prelude.{slice_set, slice_index_or}
use Rattle.symbols_paths.proofs.DropOrder.{left, dropped, opened, spliced, is_none, is_some}
use Rattle.symbols_paths.proofs.DropPaths.{weight_of_path, weight_of_step}
use Rattle.symbols_paths.proofs.definition_path.DefinitionPathNode.drop.Goals as goal
use Rattle.symbols_paths.proofs.definition_path.DefinitionPathNode.drop.Goals.{in-Some-into_link, then-is_empty, else-is_empty+then-is_empty-2}
use Rattle.symbols_paths.proofs.definition_path.DefinitionPathNode.drop.Goals.{in_default-into_link}

pub loop-link-smaller-else-is_empty-2 : goal.loop-link-smaller-else-is_empty-2
loop-link-smaller-else-is_empty-2 c =
    let l = c.in-Some-into_link.link in
    let work = c.loop-link.work in
    subst (λ spliced_in. left weight_of_path (slice_set l.next.items 0 spliced_in ++ c.replace-self.result ∷ [])
    < left weight_of_path (work.items ++ c.loop-link.self ∷ []))
    (sym c.replace-self.ensures.after)
    (spliced weight_of_path work.items l.next.items c.replace-self.result c.loop-link.self _
    (is_some work (sym c.if-is_empty-2.false ∙ c.is_empty-else-is_empty.ensures))
    (is_some l.next (sym c.if-is_empty.false ∙ c.is_empty.ensures))
    (ap (λ path. (weight_of_path path).1) c.in-Some-into_link.ensures ∙ ap (λ w. w.1) (weight_of_step l.«module» l.symbol l.symbol_decl l.parts l.next))
    (ap (λ w. w.0) (weight_of_step l.«module» l.symbol l.symbol_decl l.parts work))
    (subst (λ x. x ≡ slice_index_or l.next.items 0 x) (sym c.replace-self.ensures.value) c.index_mut.ensures.value))

pub loop-link-smaller : goal.loop-link-smaller
loop-link-smaller c =
    let gone = dropped weight_of_path c.loop-link.work.items c.pop-in-loop-link.new.self.items c.in-Some-pop-2.node c.loop-link.self in
    elim c.match-into_link-2.branch [
      | in-Some-into_link w ↦
          let l = w.in-Some-into_link.link in
          elim w.if-is_empty.branch [
            | then-is_empty v ↦ gone (sym (ap (λ x. x.items) (w.work-is ∙ v.work-is)) ∙ c.in-Some-pop-2.ensures.items)
            | else-is_empty+then-is_empty-2 v ↦
                subst (λ ns. left weight_of_path ns < left weight_of_path (c.loop-link.work.items ++ c.loop-link.self ∷ []))
                (sym (ap (λ x. x.items) (w.work-is ∙ v.work-is)) ∙ c.in-Some-pop-2.ensures.items)
                (opened weight_of_path c.loop-link.work.items l.next.items c.loop-link.self
                (is_none c.loop-link.work (sym v.if-is_empty-2.true ∙ v.is_empty-else-is_empty.ensures))
                (ap (λ path. (weight_of_path path).0) w.in-Some-into_link.ensures
                ∙ ap (λ w. w.0) (weight_of_step l.«module» l.symbol l.symbol_decl l.parts l.next)))
          ]
      | in_default-into_link w ↦ gone (sym (ap (λ x. x.items) w.work-is) ∙ c.in-Some-pop-2.ensures.items)
    ]
