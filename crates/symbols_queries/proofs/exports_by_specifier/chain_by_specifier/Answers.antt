use Rattle.std.proofs.Common.{ℕ, List, subst}
use Rattle.symbols_ast.specs.declared.ids.ModuleId.{ModuleId}
use Rattle.std.specs.Prelude.{filter_map}
use Rattle.symbols_exports.specs.ExportChains.{statements_of_chain, remaining_chain_suffixes}
use Rattle.symbols_exports.specs.ExportViews.{star_statement_by_specifier}
use Rattle.symbols_queries.specs.Queries.{star_statement_by_specifier_view}
use Rattle.symbols_queries.proofs.Naming.{AreNamed, named_next, first_statement}
use Rattle.symbols_queries.proofs.Known.{chain_first, chain_left, chain_rest}
use Rattle.symbols_queries.proofs.exports_by_specifier.chain_by_specifier.Goals as goal

pub star_statement_by_specifier-requires : goal.star_statement_by_specifier-requires
star_statement_by_specifier-requires c = chain_first c.args.root.now (remaining_chain_suffixes c.loop-rest.rest-iterator) c.in-Some.rest.now
    (remaining_chain_suffixes c.next.new.self)
    c.in-ReExportAllPath.re_export c.in-Some.ensures.steps c.in-ReExportAllPath.is c.loop-rest.invariant.known

pub loop-rest-preserved-in-Continue-branch-2 : goal.loop-rest-preserved-in-Continue-branch-2
loop-rest-preserved-in-Continue-branch-2 c =
    let root = c.args.root.now in
    let at = c.in-ReExportAllPath.re_export in
    let left = remaining_chain_suffixes c.loop-rest.rest-iterator in
    let later = filter_map first_statement (remaining_chain_suffixes c.next.new.self) in
    let so = subst (λ (xs : List (ModuleId × List ℕ)). AreNamed star_statement_by_specifier_view (star_statement_by_specifier root) c.loop-rest.statements.items
    xs
    (statements_of_chain c.args.chain.now)) (chain_left root left c.in-Some.rest.now (remaining_chain_suffixes c.next.new.self) at c.in-Some.ensures.steps
    c.in-ReExportAllPath.is) c.loop-rest.invariant.named in
    record {
      named = named_next star_statement_by_specifier_view (star_statement_by_specifier root) c.loop-rest.statements.items c.push.new.self.items
          c.star_statement_by_specifier.result
          (at.referrer_module, at.specifier.now) later (statements_of_chain c.args.chain.now) so c.in_ok-push.ensures.items
          c.star_statement_by_specifier.ensures;
      known = chain_rest root left c.in-Some.rest.now (remaining_chain_suffixes c.next.new.self) c.in-Some.ensures.steps c.loop-rest.invariant.known;
    }
