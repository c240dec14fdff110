use Rattle.std.proofs.Common.{◌≡◌, List, [], Bool, false, Some, codes, sym, ap, subst, ◌∙◌, rules}
use Rattle.symbols_ast.specs.declared.graph.raw.RawModule.{RawModule}
use Rattle.json.proofs.Trees.{view-Object}
use Rattle.json.specs.Token.{Token}
use Rattle.json.specs.Lex.{tokens}
use Rattle.json.specs.Json.{Members, object}
use Rattle.json.specs.Value.{members_view}
use Rattle.symq_reader.specs.GraphText.{require_object, graph_of_json_fields, raw_graph_view}
use Rattle.symq_reader.specs.inner.Pieces.{ReadsPieces, ReadsModulesToEnd}
use Rattle.symq_reader.specs.JsonData.{json_data}
use Rattle.symq_reader.specs.inner.Streams.{SkipsToKey}
use Rattle.symq_reader.proofs.Pieces.{pieces_outcome}
use Rattle.symq_reader.proofs.stream.pieces.graph.Goals as goal

pub returns : goal.returns
returns c =
    let h = c.in_ok-pass_until.ensures in
    let rest = c.in_ok-rest.rest.now in
    let read = raw_graph_view c.in_ok-graph.graph in
    let pieces : ReadsPieces c.args.list.now rest [] c.pieces.new.found.items = search rules in
    let start : c.in_ok-reader.reader ≡ tokens rest = c.in_ok-reader.ensures.ok ∙ ap tokens c.in-Ok.ensures.cases.0 in
    let more : ReadsModulesToEnd c.in_ok-reader.reader c.more_modules.new.reader c.pieces.new.found.items c.more_modules.new.found.items = search rules in
    let found : List RawModule = c.shrink_to_fit.new.self.items in
    let last : ReadsModulesToEnd (tokens rest) c.more_modules.new.reader c.pieces.new.found.items found =
    subst (λ (ms : List RawModule). ReadsModulesToEnd (tokens rest) c.more_modules.new.reader c.pieces.new.found.items ms) (sym c.shrink_to_fit.ensures.items)
    (subst (λ (ts : List Token). ReadsModulesToEnd ts c.more_modules.new.reader c.pieces.new.found.items c.more_modules.new.found.items) start more) in
    let retained : members_view c.pass_until.new.retained.items ≡ h.0 = search rules in
    let members : require_object graph_of_json_fields (json_data (object h.0)) ≡ Some read =
    ap (λ (ms : Members). require_object graph_of_json_fields (json_data (object ms))) (sym retained)
    ∙ ap (λ j. require_object graph_of_json_fields (json_data j)) (sym (view-Object c.pass_until.new.retained)) ∙ c.in_ok-graph.ensures in
    let not_found : c.in_ok-pass_until.field-0 ≡ false = search rules in
    let passed : SkipsToKey 126 c.more_modules.new.reader (codes "modules") false c.pass_until.new.reader h.0 =
    subst (λ (b : Bool). SkipsToKey 126 c.more_modules.new.reader (codes "modules") b c.pass_until.new.reader h.0) not_found h.1 in
    let over : c.pass_until.new.reader ≡ [] = search rules in
    pieces_outcome c.args.list.now rest c.more_modules.new.reader c.pass_until.new.reader h.0 c.pieces.new.found.items found read pieces c.in-Ok.ensures.cases.1
    last passed members over
