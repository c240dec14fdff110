-- Resolved specifiers and names along `export *`, in a root that stores their modules.
use Rattle.std.proofs.Common.{◌≡◌, ℕ, ◌<◌, inl, inr, List, [], ◌∷◌, length, map, get_or, Option, None, Some}
use Rattle.std.proofs.Common.{option_map, option_to_list, refl, sym, ap, subst, ◌∙◌, arith, slice_get}
use Rattle.std.proofs.lemmas.Option.{slice_get-map, get_or_from_slice_get}
use Rattle.symbols_ast.specs.declared.ids.ModuleId.{ModuleId}
use Rattle.symbols_ast.specs.declared.ids.UniqueSymbolId.{UniqueSymbolId}
use Rattle.symbols_ast.specs.Graph.{GraphView}
use Rattle.symbols_table.specs.declared.info.fault.SymbolsFault.{SymbolsFault}
use Rattle.symbols_root.specs.Roots.{RootView, specifier_in}
use Rattle.symbols_root.specs.Growing.{HasGrown}
use Rattle.symbols_root.specs.laws.Numbers.{IsIdOfFoundModule}
use Rattle.symbols_exports.specs.declared.export_chain.ResolvedExportOrReExportAllPath.{ResolvedExportOrReExportAllPath}
use Rattle.symbols_exports.specs.Exports.{ExportEntry}
use Rattle.symbols_exports.specs.OneName.{find_export, IsExportOfCallResult, IsExportOfCallFault}
use Rattle.symbols_exports.specs.ExportChains.{resolved_export}
use Rattle.symbols_exports.specs.StarStatements.{star_specifiers, resolve_specifier}
use Rattle.symbols_exports.specs.CollectedNames.{resolved_chain_view}
use Rattle.symbols_exports.specs.ExportViews.{ExportView, export_view_of_entry, export_by_specifier}
use Rattle.symbols_paths.specs.PathTrees.{SymbolBySpecifier}
use Rattle.symbols_paths.specs.DeclTargets.{re_exported_symbol}
use Rattle.symbols_paths.specs.inner.Views.{symbol_of_unique_id}
use Rattle.symbols_paths.specs.NeededModules.{IsModuleSearchedForExport, IsModuleSearchedAlongStars, IsFaultOfStoringOneOf}
use Rattle.symbols_paths.proofs.SearchedExports.{searched_itself, searched_by_statement}

at_map : {A B : Type 0} (f : A → B) (d : B) (xs : List A) (i : ℕ) (x : A) → slice_get xs i ≡ Some x → get_or (map f xs) i d ≡ f x
at_map f d xs i x e = get_or_from_slice_get (map f xs) i (f x) d (slice_get-map f xs i ∙ ap (option_map f) e)

-- ---- the modules that a search comes to

-- a specifier at a position among those of the `export *` statements
abbrev pub OccursAmongStars : GraphView → List ℕ → List ℕ → Type 0
OccursAmongStars graph m specifier_text = (position : ℕ) × (slice_get (star_specifiers graph m) position ≡ Some specifier_text)

-- the search along `export *` statements comes to what the search in the module of a statement comes to
pub then_searched : (graph : GraphView) (m specifier_text name v u : List ℕ) → OccursAmongStars graph m specifier_text
    → resolve_specifier graph m specifier_text ≡ Some v → IsModuleSearchedForExport graph v name u → IsModuleSearchedAlongStars graph m name u
then_searched graph m specifier_text name v u occurs target searched = (
  occurs.0,
  v,
  at_map (resolve_specifier graph m) None (star_specifiers graph m) occurs.0 specifier_text occurs.1 ∙ target,
  searched,
)

-- and to the module of a statement
pub there_searched : (graph : GraphView) (m specifier_text name v : List ℕ) → OccursAmongStars graph m specifier_text
    → resolve_specifier graph m specifier_text ≡ Some v → IsModuleSearchedAlongStars graph m name v
there_searched graph m specifier_text name v occurs target = then_searched graph m specifier_text name v v occurs target (searched_itself graph v name)

-- ---- a name along an `export *` statement

pub refused_along : (old mid new : RootView) (m specifier_text name : List ℕ) (id : ModuleId) (fault : SymbolsFault) (lookups : ℕ) → HasGrown old mid
    → OccursAmongStars old.graph m specifier_text
    → IsIdOfFoundModule mid id (resolve_specifier old.graph m specifier_text) → IsExportOfCallFault mid new id name fault lookups
    → IsFaultOfStoringOneOf new (IsModuleSearchedAlongStars old.graph m name) fault
refused_along old mid new m specifier_text name id fault lookups grown occurs decl_targets (inl is) =
    absurd (omega (arith, is.unknown, decl_targets.within))
refused_along old mid new m specifier_text name id fault lookups grown occurs decl_targets (inr is) =
    record { needed = is.needed; is_needed = needed; refused = is.refused }
  where
    needed : (v : List ℕ) → is.needed ≡ Some v → IsModuleSearchedAlongStars old.graph m name v
    needed v e =
        let at = is.is_needed v e in
        then_searched old.graph m specifier_text name (specifier_in mid id) v occurs decl_targets.is
        (subst (λ (g : GraphView). IsModuleSearchedForExport g (specifier_in mid id) name v) grown.graph
        (searched_by_statement mid.graph (specifier_in mid id) name at.0 v (is.are_looked_up_stars at.0 at.1) at.2))

abbrev pub symbol_of_export_entry : ExportEntry → SymbolBySpecifier
symbol_of_export_entry entry = record { specifier = entry.exporter; number = entry.symbol }

-- the result of looking a name up, as a list
abbrev one_named : RootView → List ℕ → Option ResolvedExportOrReExportAllPath → List ExportView
one_named root name path = map (export_by_specifier root) (option_to_list (option_map (resolved_chain_view name) path))

pub none_along : (old mid new : RootView) (m specifier_text name : List ℕ) (id : ModuleId) (lookups : ℕ) → HasGrown old mid
    → IsIdOfFoundModule mid id (resolve_specifier old.graph m specifier_text) → IsExportOfCallResult mid new id name [] lookups
    → None ≡ re_exported_symbol old.graph name (resolve_specifier old.graph m specifier_text)
none_along old mid new m specifier_text name id lookups grown decl_targets is =
    sym (ap (re_exported_symbol old.graph name) decl_targets.is ∙ (ap (λ g. re_exported_symbol g name (Some (specifier_in mid id))) (sym grown.graph)
    ∙ by (find_export mid.graph (specifier_in mid id) name) is.is_found_export))
  where
    by : (found : Option ExportEntry) → [] ≡ option_to_list (option_map (export_view_of_entry mid.graph (specifier_in mid id)) found)
        → option_map symbol_of_export_entry found ≡ None
    by None e = refl
    by (Some entry) e = absurd cc

pub some_along : (old mid new : RootView) (m specifier_text name : List ℕ) (id : ModuleId) (path : ResolvedExportOrReExportAllPath) (s : UniqueSymbolId)
    (lookups : ℕ) → HasGrown old mid → IsIdOfFoundModule mid id (resolve_specifier old.graph m specifier_text)
    → IsExportOfCallResult mid new id name (resolved_chain_view name path
    ∷ []) lookups → s.module_id ≡ (resolved_export path).«module» → s.symbol_id ≡ (resolved_export path).symbol_id
    → Some (symbol_of_unique_id new s) ≡ re_exported_symbol old.graph name (resolve_specifier old.graph m specifier_text)
some_along old mid new m specifier_text name id path s lookups grown decl_targets is in_module number =
    by (find_export mid.graph (specifier_in mid id) name) is.is_found_export
    ∙ sym (ap (re_exported_symbol old.graph name) decl_targets.is ∙ ap (λ g. re_exported_symbol g name (Some (specifier_in mid id))) (sym grown.graph))
  where
    first : (x y : ExportView) (xs ys : List ExportView) → x ∷ xs ≡ y ∷ ys → x ≡ y
    first x y xs ys e = cc

    by : (found : Option ExportEntry) → export_by_specifier new (resolved_chain_view name path) ∷ []
        ≡ option_to_list (option_map (export_view_of_entry mid.graph (specifier_in mid id)) found)
        → Some (symbol_of_unique_id new s) ≡ option_map symbol_of_export_entry found
    by None e = absurd cc
    by (Some entry) e =
        let same = first (export_by_specifier new (resolved_chain_view name path)) (export_view_of_entry mid.graph (specifier_in mid id) entry) [] [] e in
        let exporter : specifier_in new s.module_id ≡ entry.exporter = ap (specifier_in new) in_module ∙ ap (λ (x : ExportView). x.exporter) same in
        let symbol : s.symbol_id ≡ entry.symbol = number ∙ ap (λ (x : ExportView). x.symbol) same in
        λ i. Some (record { specifier = exporter i; number = symbol i })

pub some_stored : (old new : RootView) (name : List ℕ) (id : ModuleId) (path : ResolvedExportOrReExportAllPath) (lookups : ℕ)
    → IsExportOfCallResult old new id name (resolved_chain_view name path ∷ []) lookups → (resolved_export path).«module».0 < length new.stored
some_stored old new name id path lookups is = (is.are_modules_of_exports_stored 0 (resolved_chain_view name path) (omega arith)).export_is_stored

-- ---- a name of a stored module

pub refused_export : (old new : RootView) (name : List ℕ) (id : ModuleId) (fault : SymbolsFault) (lookups : ℕ) → id.0 < length old.stored
    → IsExportOfCallFault old new id name fault lookups → IsFaultOfStoringOneOf new (IsModuleSearchedForExport old.graph (specifier_in old id) name) fault
refused_export old new name id fault lookups known (inl is) = absurd (omega (arith, is.unknown, known))
refused_export old new name id fault lookups known (inr is) = record {
  needed = is.needed;
  is_needed = λ v e. let at = is.is_needed v e in
      searched_by_statement old.graph (specifier_in old id) name at.0 v (is.are_looked_up_stars at.0 at.1) at.2;
  refused = is.refused;
}

pub none_exported : (old new : RootView) (id : ModuleId) (name : List ℕ) (lookups : ℕ) → IsExportOfCallResult old new id name [] lookups
    → find_export old.graph (specifier_in old id) name ≡ None
none_exported old new id name lookups is = by (find_export old.graph (specifier_in old id) name) is.is_found_export
  where
    by : (found : Option ExportEntry) → [] ≡ option_to_list (option_map (export_view_of_entry old.graph (specifier_in old id)) found) → found ≡ None
    by None e = refl
    by (Some entry) e = absurd cc
