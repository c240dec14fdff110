use Rattle.std.proofs.Common.{◌≡◌, List, ℕ, Option, Some, true, rules, reverse, option_copied, option_map, sym, ap, subst, ◌∙◌}
use Rattle.symbols_ast.specs.declared.ids.ModuleId.{ModuleId}
use Rattle.symbols_ast.specs.Graph.{GraphView}
use Rattle.symbols_root.specs.Specifiers.{contains_specifier}
use Rattle.symbols_root.specs.TypesChains.{is_analyzable, types_chain, resolved_module_specifier}
use Rattle.symbols_root.specs.Roots.{root_with_stored_module, IsNeededAndNotStored, IsModuleWithinLimits}
use Rattle.symbols_root.specs.inner.StoredModules.{ResolvesToStored}
use Rattle.symbols_root.specs.laws.Growing.{has_grown_refl}
use Rattle.symbols_root.specs.laws.Specifiers.{found_element_satisfies_predicate, contains_specifier_at_index}
use Rattle.symbols_root.specs.laws.TypesChains.{types_chain_is_unique}
use Rattle.symbols_root.proofs.Storing.{with_old, none_missing}
use Rattle.symbols_root.proofs.root_symbol.RootSymbol.module_from_specifier.Goals as goal

-- ---- the specifier was requested last

-- the specifier of the module that it resolves to
occurs_of : {graph : GraphView} {stored : List (List ℕ)} {module_id : ModuleId} {specifier : List ℕ}
    → (is : ResolvesToStored graph stored module_id specifier)
    → resolved_module_specifier graph specifier ≡ Some is.graph_module.specifier
occurs_of is = ap (option_map (λ m. m.specifier)) is.resolves

pub returns-in-Some-clause-stored : goal.returns-in-Some-clause-stored
returns-in-Some-clause-stored c =
    let root = c.args.self.now in
    let is = c.in-Some.ensures in
    let q = is.graph_module.specifier in
    let old : contains_specifier root.stored q ≡ true = contains_specifier_at_index root.stored c.in-Some.module_id.0 q is.at in
    subst (λ (o : Option (List ℕ)). root ≡ root_with_stored_module root o) (sym (occurs_of is)) (with_old root q old)

pub returns-in-Some-clause-allowed : goal.returns-in-Some-clause-allowed
returns-in-Some-clause-allowed c =
    let root = c.args.self.now in
    let is = c.in-Some.ensures in
    let q = is.graph_module.specifier in
    let old : contains_specifier root.stored q ≡ true = contains_specifier_at_index root.stored c.in-Some.module_id.0 q is.at in
    subst (λ (o : Option (List ℕ)). (s : List ℕ) → IsNeededAndNotStored root o s → IsModuleWithinLimits root s) (sym (occurs_of is))
    (λ s. none_missing root q s old)

pub returns-in-Some-clause-keeps : goal.returns-in-Some-clause-keeps
returns-in-Some-clause-keeps c = record { grown = has_grown_refl c.args.self.now; refused = tt; enough = λ _. tt }

pub returns-in-Some-clause-chain : goal.returns-in-Some-clause-chain
returns-in-Some-clause-chain c = types_chain_is_unique c.args.self.now.graph c.args.specifier.now

-- ---- the module is looked up

pub store-requires-clause-analyzable : goal.store-requires-clause-analyzable
store-requires-clause-analyzable c = found_element_satisfies_predicate is_analyzable (reverse (types_chain c.self.inside.graph.now c.args.specifier.now))
    c.in-Some-2.graph_module.now (sym c.in_ok-graph_module.ensures.resolved ∙ ap option_copied c.in-Some-2.is)

pub returns-in_err-graph_module-clause-chain : goal.returns-in_err-graph_module-clause-chain
returns-in_err-graph_module-clause-chain c = types_chain_is_unique c.args.self.now.graph c.args.specifier.now

pub returns-in_err-module_id-clause-chain : goal.returns-in_err-module_id-clause-chain
returns-in_err-module_id-clause-chain c = types_chain_is_unique c.args.self.now.graph c.args.specifier.now

pub returns-in_default-2-clause-chain : goal.returns-in_default-2-clause-chain
returns-in_default-2-clause-chain c = types_chain_is_unique c.args.self.now.graph c.args.specifier.now

pub returns-clause-chain : goal.returns-clause-chain
returns-clause-chain c = types_chain_is_unique c.args.self.now.graph c.args.specifier.now

pub returns-in_err-graph_module-clause-keeps : goal.returns-in_err-graph_module-clause-keeps
returns-in_err-graph_module-clause-keeps c = record { grown = has_grown_refl c.args.self.now; refused = search rules; enough = search rules }

pub returns-in_default-2-clause-keeps : goal.returns-in_default-2-clause-keeps
returns-in_default-2-clause-keeps c = record { grown = has_grown_refl c.args.self.now; refused = tt; enough = λ _. tt }
