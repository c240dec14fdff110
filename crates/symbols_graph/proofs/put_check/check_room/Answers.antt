use Rattle.std.proofs.Common.{◌∙◌, sym, ap, refl, List, ℕ, is_some, string_bytes, arith}
use Rattle.std.specs.Map.{lookup}
use Rattle.std.specs.Str.{bytes_eq}
use Rattle.std.proofs.lemmas.List.{length-map}
use Rattle.indexmap.specs.IndexMap.{values}
use Rattle.symbols_ast.specs.Graph.{module_view}
use Rattle.symbols_graph.proofs.PutModules.{at_most_one_more, count_with}
use Rattle.symbols_graph.proofs.put_check.check_room.Goals as goal

pub returns-then-len-clause-accepted : goal.returns-then-len-clause-accepted
returns-then-len-clause-accepted c =
    omega (
      arith,
      at_most_one_more (module_view c.args.raw.now) (values c.args.modules.now),
      length-map c.args.modules.now.entries (λ e. e.1),
      c.if-len.true,
      c.len.ensures.len,
    )

pub returns-then-contains_key-clause-accepted : goal.returns-then-contains_key-clause-accepted
returns-then-contains_key-clause-accepted c =
    let entries = c.args.modules.now.entries in
    let is = sym c.if-contains_key.true ∙ c.contains_key.ensures
    ∙ ap (λ (s : List ℕ). is_some (lookup (λ k. bytes_eq s (string_bytes k)) entries)) c.as_str.ensures.value in
    omega (arith, count_with entries (module_view c.args.raw.now) _ c.requires.keyed is, c.requires.few)

pub returns-clause-refused : goal.returns-clause-refused
returns-clause-refused c =
    let entries = c.args.modules.now.entries in
    let is = sym c.if-contains_key.false ∙ c.contains_key.ensures
    ∙ ap (λ (s : List ℕ). is_some (lookup (λ k. bytes_eq s (string_bytes k)) entries)) c.as_str.ensures.value in
    (refl, omega (arith, count_with entries (module_view c.args.raw.now) _ c.requires.keyed is, c.if-len.false, c.len.ensures.len))
