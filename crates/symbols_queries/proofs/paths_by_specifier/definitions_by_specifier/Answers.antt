use Rattle.std.proofs.Common.{subst}
use Rattle.symbols_paths.specs.Views.{definition_by_specifier, remaining_definitions, module_of_definition}
use Rattle.symbols_queries.specs.Queries.{definition_by_specifier_view}
use Rattle.symbols_queries.proofs.Naming.{AreNamed, named_next}
use Rattle.symbols_queries.proofs.Known.{IsKnown, mapped_first, mapped_rest}
use Rattle.symbols_queries.proofs.paths_by_specifier.definitions_by_specifier.Goals as goal

pub definition_by_specifier-requires : goal.definition_by_specifier-requires
definition_by_specifier-requires c = mapped_first (IsKnown c.args.root.now) module_of_definition (remaining_definitions c.loop-definition.definition-iterator)
    c.in-Some.definition (remaining_definitions c.next.new.self) c.in-Some.ensures.steps c.loop-definition.invariant.known

pub loop-definition-preserved : goal.loop-definition-preserved
loop-definition-preserved c =
    let root = c.args.root.now in
    let so = subst
    (λ left. AreNamed definition_by_specifier_view (definition_by_specifier root) c.loop-definition.named.items left
    (remaining_definitions c.args.definitions))
    c.in-Some.ensures.steps c.loop-definition.invariant.named in
    record {
      named = named_next definition_by_specifier_view (definition_by_specifier root) c.loop-definition.named.items c.push.new.self.items
          c.definition_by_specifier.result c.in-Some.definition
          (remaining_definitions c.next.new.self) (remaining_definitions c.args.definitions) so c.in_ok-push.ensures.items c.definition_by_specifier.ensures;
      known = mapped_rest (IsKnown root) module_of_definition (remaining_definitions c.loop-definition.definition-iterator) c.in-Some.definition
          (remaining_definitions c.next.new.self) c.in-Some.ensures.steps c.loop-definition.invariant.known;
    }
