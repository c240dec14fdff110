use Rattle.std.proofs.Common.{◌∙◌, ◌∷◌, [], sym, ap, map, arith, is_some, refl, ◌≡◌, ◌&&◌, false}
use Rattle.std.specs.Global.{Global}
use Rattle.std.specs.Prelude.{Vec}
use Rattle.std.proofs.lemmas.List.{length-map}
use Rattle.symbols_exports.specs.CollectedNames.{resolved_chain_view, unresolved_star_view}
use Rattle.symbols_exports.specs.inner.Collecting.{ExportChain, is_along_stars, frame_view, chain_lists_view, walk_with_exports_of_module}
use Rattle.symbols_exports.proofs.CollectedNamesInMap.{with_other_trace, without_other_trace, with_first_trace}
use Rattle.symbols_exports.proofs.collected_exports.CollectedExports.add_collected_name.Goals as goal
use Rattle.symbols_exports.proofs.collected_exports.CollectedExports.add_collected_name.Goals.{else-self-via-then-self+else-is_re_exported}
use Rattle.symbols_exports.proofs.collected_exports.CollectedExports.add_collected_name.Goals.{else-self-via-else-self}

pub returns-in_ok-push_later_chain : goal.returns-in_ok-push_later_chain
returns-in_ok-push_later_chain c =
    with_other_trace (map frame_view c.args.stack.now) c.args.export c.self.inside.resolved.entries c.self.inside.collects_shared
    (chain_lists_view c.self.inside.shadowed.items) (chain_lists_view c.push_later_chain.new.shadowed.items)
    (map unresolved_star_view c.self.inside.unresolved.items)
    c.args.name.now c.in-Some.index c.in-Some.first.now c.in_ok-chain-2.chain
    (sym c.is_excluded_default.ensures ∙ c.if-is_excluded_default.false) c.if-self.true
    c.in-Some.ensures.index (sym c.in-Some.ensures.chain) (sym (c.is_re_exported.ensures c.args.name.now) ∙ c.if-is_re_exported.true)
    c.in_ok-push_later_chain.ensures.put c.in_ok-chain-2.ensures.statements c.in_ok-chain-2.ensures.end
    ∙ ap (walk_with_exports_of_module (map frame_view c.args.stack.now) c.args.export.«module» ((c.args.name.now, c.args.export.symbol_id) ∷ [])) c.self.view_is

-- shared names aren't collected, or the queried module exports the name
not_shared : (c : goal.Joined-else-self) → (c.self.inside.collects_shared && is_along_stars (resolved_chain_view c.args.name.now c.in-Some.first.now)) ≡ false
not_shared c = elim c.else-self.branch [
  | else-self-via-then-self+else-is_re_exported w ↦
      rw w.if-self.true (sym (w.is_re_exported.ensures c.args.name.now) ∙ w.if-is_re_exported.false)
  | else-self-via-else-self w ↦ rw w.if-self.false refl
]

pub returns-else-self : goal.returns-else-self
returns-else-self c =
    sym c.self.view_is
    ∙ (without_other_trace (map frame_view c.args.stack.now) c.args.export c.self.inside.resolved.entries c.self.inside.collects_shared
    (chain_lists_view c.self.inside.shadowed.items) (map unresolved_star_view c.self.inside.unresolved.items) c.args.name.now c.in-Some.first.now
    (sym c.is_excluded_default.ensures ∙ c.if-is_excluded_default.false) (sym c.in-Some.ensures.chain) (not_shared c)
    ∙ ap (walk_with_exports_of_module (map frame_view c.args.stack.now) c.args.export.«module» ((c.args.name.now, c.args.export.symbol_id) ∷ []))
    c.self.view_is)

pub returns-in_default : goal.returns-in_default
returns-in_default c =
    with_first_trace (map frame_view c.args.stack.now) c.args.export c.self.inside.resolved.entries c.insert.new.self.entries c.self.inside.collects_shared
    (chain_lists_view c.self.inside.shadowed.items) (map unresolved_star_view c.self.inside.unresolved.items) c.args.name.now c.in_ok-from_str.field-0
    c.in_ok-chain.chain (sym c.is_excluded_default.ensures ∙ c.if-is_excluded_default.false) (ap is_some (sym c.in_default.ensures.chain))
    (omega (arith, c.self.invariant, length-map c.self.inside.shadowed.items (λ (traces : Vec ExportChain Global). traces.items)))
    c.in_ok-insert.ensures.entries c.in_ok-from_str.ensures.ok c.in_ok-chain.ensures.statements c.in_ok-chain.ensures.end
    ∙ ap (walk_with_exports_of_module (map frame_view c.args.stack.now) c.args.export.«module» ((c.args.name.now, c.args.export.symbol_id) ∷ [])) c.self.view_is
