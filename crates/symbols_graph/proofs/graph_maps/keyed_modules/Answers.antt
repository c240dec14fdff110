use Rattle.std.proofs.Common.{◌≡◌, refl, ap, ◌∙◌, rules, length, List, ℕ, string_bytes}
use Rattle.std.proofs.lemmas.Iterator.Adapters.{YieldsList-from_vec}
use Rattle.std.proofs.lemmas.Iterator.Consumers.{YieldsList-turn, YieldsList-end}
use Rattle.symbols_ast.specs.Graph.{ModuleView}
use Rattle.symbols_graph.proofs.FilledMaps.{inserted_more, filled_all}
use Rattle.symbols_graph.proofs.ModuleMaps.{entry_read, entry_of, distinct_entries, modules_filled, keyed_filled}
use Rattle.symbols_graph.proofs.graph_maps.keyed_modules.Goals as goal

pub loop-raw-preserved : goal.loop-raw-preserved
loop-raw-preserved c =
    let all = c.args.modules.items in
    let given = c.into_iter-raw-iterator.ensures.into_iter_gives in
    let rank = YieldsList-turn (YieldsList-from_vec all given.0 (search rules)) c.loop-raw.yielded c.loop-raw.raw-iterator c.loop-raw.yielded_by c.next.result
    c.next.new.self c.in-Some.raw c.in-Some.is c.next.ensures.steps in
    let key : string_bytes c.in_ok-key.key ≡ string_bytes c.in-Some.raw.specifier = search rules in
    let reads : entry_read (c.in_ok-key.key, c.from_raw.result) ≡ entry_of c.in-Some.raw =
    ap {B = List ℕ × ModuleView} (λ (k : List ℕ). (k, c.from_raw.result)) key
    ∙ ap {B = List ℕ × ModuleView} (λ (m : ModuleView). (string_bytes c.in-Some.raw.specifier, m)) c.from_raw.ensures in
    inserted_more entry_read entry_of (λ p. p.0) (λ _. refl) c.loop-raw.keyed all (length c.loop-raw.yielded) (distinct_entries all c.requires.distinct)
    c.loop-raw.invariant c.in_ok-key.key c.from_raw.result c.in-Some.raw rank.0 rank.1 reads _ c.in_ok-put.ensures.entries c.loop-raw.yielded _ refl

pub returns-clause-modules : goal.returns-clause-modules
returns-clause-modules c =
    let all = c.args.modules.items in
    let given = c.into_iter-raw-iterator.ensures.into_iter_gives in
    let end = YieldsList-end (YieldsList-from_vec all given.0 (search rules)) c.loop-raw.yielded c.loop-raw.raw-iterator c.loop-raw.yielded_by c.next.result
    c.next.new.self c.in-None.is c.next.ensures.steps in
    modules_filled c.loop-raw.keyed.entries all
    (filled_all entry_read entry_of c.loop-raw.keyed.entries all (length c.loop-raw.yielded) c.loop-raw.invariant end.1)

pub returns-clause-keyed : goal.returns-clause-keyed
returns-clause-keyed c =
    let all = c.args.modules.items in
    let given = c.into_iter-raw-iterator.ensures.into_iter_gives in
    let end = YieldsList-end (YieldsList-from_vec all given.0 (search rules)) c.loop-raw.yielded c.loop-raw.raw-iterator c.loop-raw.yielded_by c.next.result
    c.next.new.self c.in-None.is c.next.ensures.steps in
    keyed_filled c.loop-raw.keyed.entries all
    (filled_all entry_read entry_of c.loop-raw.keyed.entries all (length c.loop-raw.yielded) c.loop-raw.invariant end.1)
