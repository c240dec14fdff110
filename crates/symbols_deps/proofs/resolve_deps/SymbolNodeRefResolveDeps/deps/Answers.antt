use Rattle.std.proofs.Common.{◌∙◌, ap, List, map}
use Rattle.symbols_nodes.specs.References.{NamespacedReference}
use Rattle.symbols_deps.proofs.StepLemmas.{first_parts_view}
use Rattle.symbols_deps.proofs.resolve_deps.SymbolNodeRefResolveDeps.deps.Goals as goal

pub returns : goal.returns
returns c =
    rw c.in_ok-list.ensures (first_parts_view c.in_ok-all.all.items)
    ∙ ap (λ (ds : List NamespacedReference). map (λ (d : NamespacedReference). d.reference) ds) c.in_ok-all.ensures.value
