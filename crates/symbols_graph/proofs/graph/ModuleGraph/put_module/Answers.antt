use Rattle.std.proofs.Common.{rules, ◌≡◌, List, map, length, sym, ap, subst, ◌∙◌, String, string_bytes, arith}
use Rattle.std.specs.Global.{Global}
use Rattle.std.specs.String.{string_eq}
use Rattle.std.proofs.lemmas.List.{length-map}
use Rattle.std.proofs.lemmas.Result.{err_from_is_err_and, IfOk-at_ok}
use Rattle.indexmap.specs.IndexMap.{insert_entry, values}
use Rattle.symbols_ast.specs.Graph.{ModuleView, module_view, redirect_view}
use Rattle.symbols_graph.specs.PutModules.{IsFaultlessPut}
use Rattle.symbols_graph.specs.inner.PutSteps.{IsRefusedPut}
use Rattle.symbols_graph.specs.inner.Tables.{AreKeyedBySpecifier}
use Rattle.symbols_graph.specs.Tables.{string_pairs_bytes}
use Rattle.symbols_graph.proofs.PutModules.{put_among, put_resolves}
use Rattle.symbols_graph.proofs.graph.ModuleGraph.put_module.Goals as goal

pub returns-in_err-check_put-clause-refused : goal.returns-in_err-check_put-clause-refused
returns-in_err-check_put-clause-refused c =
    let gives = err_from_is_err_and c.from_residual.result c.from_residual.ensures.1 in
    let refused = subst (λ (rows : List (String Global × String Global)). IsRefusedPut (values c.self.inside.modules) (module_view c.args.raw)
    (map redirect_view rows) c.in_err-check_put.field-0.0) c.deref.ensures.value c.in_err-check_put.ensures.refused in
    rw (← c.self.view_is, gives.1, gives.2) refused

-- The entries after the insertion.
abbrev inserted : (c : goal.Joined-unwrap) → c.insert-2.new.self.entries
    ≡ insert_entry string_eq c.self.inside.modules.entries c.in_ok-key.key (module_view c.args.raw)
inserted c =
    IfOk-at_ok (λ _. c.insert-2.new.self.entries ≡ insert_entry string_eq c.reserve.new.self.entries c.in_ok-key.key c.from_raw-checked.result)
    c.unwrap.ensures c.insert-2.ensures.entries
    ∙ (λ i. insert_entry string_eq (c.reserve.ensures.entries i) c.in_ok-key.key (c.from_raw-checked.ensures i))

pub invariant_of-self-2 : goal.invariant_of-self-2
invariant_of-self-2 c =
    let named : string_bytes c.in_ok-key.key ≡ string_bytes c.args.raw.specifier = search rules in
    let both = put_among c.self.inside.modules.entries c.in_ok-key.key (module_view c.args.raw) named c.self.invariant.0 in
    let modules = ap (map (λ (e : String Global × ModuleView). e.1)) (inserted c) ∙ both.1 in
    let count = ap (λ (ms : List ModuleView). length ms) modules in (
      subst AreKeyedBySpecifier (sym (inserted c)) both.0,
      c.in_ok-insert.ensures.unique,
      omega (arith, c.in_ok-check_put.ensures.few, count, length-map c.insert-2.new.self.entries (λ e. e.1)),
    )

pub returns-clause-faultless : goal.returns-clause-faultless
returns-clause-faultless c =
    let accepted = subst (λ (rows : List (String Global × String Global)). IsFaultlessPut (values c.self.inside.modules) (module_view c.args.raw)
    (map redirect_view rows)) c.deref.ensures.value c.in_ok-check_put.ensures.accepted in
    rw (← c.self.view_is) accepted

pub returns-clause-modules : goal.returns-clause-modules
returns-clause-modules c =
    let named : string_bytes c.in_ok-key.key ≡ string_bytes c.args.raw.specifier = search rules in
    let both = put_among c.self.inside.modules.entries c.in_ok-key.key (module_view c.args.raw) named c.self.invariant.0 in
    rw (← c.self.view_is) (ap (map (λ (e : String Global × ModuleView). e.1)) (inserted c) ∙ both.1)

pub returns-clause-resolutions : goal.returns-clause-resolutions
returns-clause-resolutions c = λ r t.
    let named : string_bytes c.in_ok-referrer.referrer ≡ string_bytes c.args.raw.specifier = search rules in
    rw (← c.self.view_is) (put_resolves c.self.inside.resolutions c.insert.new.self c.in_ok-referrer.referrer c.in_ok-resolved.resolved
    (string_pairs_bytes c.args.resolutions.items) (string_bytes c.args.raw.specifier) named c.in_ok-resolved.ensures c.self.invariant.1
    c.in_ok-insert.ensures.unique c.in_ok-insert.ensures.updates r t)
