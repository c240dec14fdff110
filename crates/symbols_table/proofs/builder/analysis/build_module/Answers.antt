use Rattle.std.proofs.Common.{arith}
use Rattle.symbols_table.specs.Modules.{parsed, json_text}
use Rattle.symbols_table.proofs.Bounds.{few_parsed, few_json}
use Rattle.symbols_table.proofs.Built.{err_if}
use Rattle.symbols_table.proofs.Sources.{tree_source, json_source}
use Rattle.symbols_table.proofs.builder.analysis.build_module.Goals as goal

pub returns-in_err-esm-clause-too_many : goal.returns-in_err-esm-clause-too_many
returns-in_err-esm-clause-too_many c =
    let content = c.args.graph_module.now.content in
    let source = tree_source content c.text-text.result.now c.in-Some.tree.now c.text-text.ensures c.in-Some.ensures.value in
    err_if c.from_residual.result c.in_err-esm.field-0.0 c.from_residual.ensures.1
    (λ many. (parsed c.text-text.result.now c.in-Some.tree.now, source, c.in_err-esm.ensures.too_many many))

pub returns-in_err-json-clause-too_many : goal.returns-in_err-json-clause-too_many
returns-in_err-json-clause-too_many c =
    let content = c.args.graph_module.now.content in
    let source = json_source content c.text-text.result.now c.text-text.ensures (rw (← c.is_json.ensures) c.if-is_json.true) in
    err_if c.from_residual-in_err-json.result c.in_err-json.field-0.0 c.from_residual-in_err-json.ensures.1
    (λ many. (json_text c.text-text.result.now, source, c.in_err-json.ensures.too_many many))

pub returns-in_err-esm-clause-enough : goal.returns-in_err-esm-clause-enough
returns-in_err-esm-clause-enough c =
    let few = few_parsed c.text-text.result.now c.in-Some.tree.now (rw c.text-text.ensures c.in-Some.ensures.faultless) c.in-Some.ensures.checked in
    err_if c.from_residual.result c.in_err-esm.field-0.0 c.from_residual.ensures.1 (λ many. omega (arith, few, c.in_err-esm.ensures.too_many many))

pub returns-in_err-json-clause-enough : goal.returns-in_err-json-clause-enough
returns-in_err-json-clause-enough c =
    let few = few_json c.text-text.result.now in
    err_if c.from_residual-in_err-json.result c.in_err-json.field-0.0 c.from_residual-in_err-json.ensures.1
    (λ many. omega (arith, few, c.in_err-json.ensures.too_many many))
