use Rattle.std.proofs.Common.{◌≡◌, slice_get, option_map, Some, sym, ap, subst, ◌∙◌}
use Rattle.std.specs.Map.Iter.{deref_pair}
use Rattle.std.proofs.lemmas.Option.{slice_get-map}
use Rattle.symbols_table.specs.Modules.{symbol_table_of_ref}
use Rattle.symbols_root.specs.Roots.{RootView, IsTableOfStoredModule, IsTableOfModule}
use Rattle.symbols_root.specs.StoredModules.{StoredModule}
use Rattle.symbols_root.proofs.root_symbol.RootSymbol.module_from_id.Goals as goal

pub returns-in-Some-clause-table : goal.returns-in-Some-clause-table
returns-in-Some-clause-table c =
    let id = c.args.module_id in
    let entry : StoredModule = (c.in-Some.field-0-0.now, c.in-Some.info.now) in
    let at : slice_get c.self.inside.modules.entries id.0 ≡ Some entry = sym c.get_index.ensures.entry ∙ ap (option_map deref_pair) c.in-Some.is in
    let named = slice_get-map (λ (e : StoredModule). e.0.now) c.self.inside.modules.entries id.0 ∙ ap (option_map (λ (e : StoredModule). e.0.now)) at in
    let whole = subst (IsTableOfModule c.self.inside.graph.now c.self.inside.limits.symbols id entry.0.now) (sym c.as_ref.ensures.table)
    (c.self.invariant.0 id.0 entry at) in
    subst (λ (r : RootView). IsTableOfStoredModule r id (symbol_table_of_ref c.as_ref.result)) c.self.view_is (entry.0.now, named, whole)
