use Rattle.std.proofs.Common.{[], ◌∷◌, map, sym, subst}
use Rattle.symbols_paths.specs.Views.{module_of_definition, module_of_end, AreModulesStored}
use Rattle.symbols_paths.proofs.PathEnds.{definition_stored}
use Rattle.symbols_paths.proofs.definition_iter.add_definition.Goals as goal

pub returns-clause-stored : goal.returns-clause-stored
returns-clause-stored c = λ root a b.
    let x = c.in-Definition.definition in
    subst (λ xs. AreModulesStored root (map module_of_definition xs)) (sym c.in_ok-push_back.ensures.items)
    (definition_stored root c.args.left.now.items x a (subst (λ end. AreModulesStored root (module_of_end end ∷ [])) c.in-Definition.is b))
