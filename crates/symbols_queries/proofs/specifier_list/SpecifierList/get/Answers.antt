use Rattle.std.proofs.Common.{ℕ, List, ◌-◌, slice_get, option_map, option_copied, sym, ap, ◌∙◌, arith}
use Rattle.std.specs.Borrow.{Bor}
use Rattle.symbols_queries.proofs.SpecifierKeys.{later_at}
use Rattle.symbols_queries.proofs.specifier_list.SpecifierList.get.Goals as goal

pub returns-in-Some-clause-at : goal.returns-in-Some-clause-at
returns-in-Some-clause-at c =
    ap (option_map (λ (key : Bor (List ℕ)). key.now)) (sym (ap option_copied c.in-Some.is) ∙ c.get_index.ensures.key)
    ∙ (sym (later_at c.self.inside.first.now c.self.inside.added.keys c.args.index (c.args.index - 1) (omega (arith, c.if-index-eq0.false)))
    ∙ ap (λ list. slice_get list c.args.index) c.self.view_is)
