use Rattle.std.proofs.Common.{option_to_list, subst, sym}
use Rattle.symbols_paths.specs.Views.{AreModulesStored}
use Rattle.symbols_paths.specs.inner.PathBuilders.{modules_of_builders}
use Rattle.symbols_paths.proofs.BuilderDefinitions.{popped_stored}
use Rattle.symbols_paths.proofs.replace_definitions.replace_end.Goals as goal

pub returns-in-Definition-clause-stored : goal.returns-in-Definition-clause-stored
returns-in-Definition-clause-stored c = λ root a b.
    let h = popped_stored root c.pop_front.result c.pop_front.new.self.items c.args.changed.now.items c.pop_front.ensures.items b in
    (subst (λ builder. AreModulesStored root (modules_of_builders (option_to_list builder))) (sym c.flatten.ensures) h.0, h.1)
