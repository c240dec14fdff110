use Rattle.std.proofs.Common.{option_map, refl, sym, ap, ◌∙◌}
use Rattle.std.proofs.lemmas.Result.{on_ok_weaker}
use Rattle.symbols_root.specs.Roots.{maybe_specifier}
use Rattle.symbols_queries.specs.Queries.{query_view}
use Rattle.symbols_queries.proofs.Requesting.{requests_found, nothing_requested}
use Rattle.symbols_queries.proofs.inputs.add_requests.Goals as goal

pub returns-in-Some : goal.returns-in-Some
returns-in-Some c = λ key gives. on_ok_weaker c.add_followed_targets.result (λ added.
    requests_found c.args.root.now (query_view c.args.query.now).question c.in-Some.module_id key c.args.list.now c.add_followed_targets.new.list
    (sym (ap (option_map (maybe_specifier c.args.root.now)) c.in-Some.is) ∙ gives) added) c.add_followed_targets.ensures

pub returns-in-None : goal.returns-in-None
returns-in-None c = λ key gives. nothing_requested c.args.root.now (query_view c.args.query.now).question key c.args.list.now c.args.list.now
    (sym (ap (option_map (maybe_specifier c.args.root.now)) c.in-None.is) ∙ gives) refl
