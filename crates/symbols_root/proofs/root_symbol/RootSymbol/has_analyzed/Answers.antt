use Rattle.std.proofs.Common.{ap, ◌∙◌}
use Rattle.symbols_root.specs.Specifiers.{contains_specifier}
use Rattle.symbols_root.specs.Roots.{RootView}
use Rattle.symbols_root.proofs.Storing.{lookup_among}
use Rattle.symbols_root.proofs.root_symbol.RootSymbol.has_analyzed.Goals as goal

pub returns : goal.returns
returns c = c.contains_key.ensures ∙ (lookup_among c.self.inside.modules.entries c.args.specifier.now
    ∙ ap (λ (r : RootView). contains_specifier r.stored c.args.specifier.now) c.self.view_is)
