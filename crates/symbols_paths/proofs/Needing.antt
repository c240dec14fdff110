-- Modules needed from a needed module.
use Rattle.std.proofs.Common.{◌≡◌, ℕ, List, [], Option, None, Some, option_map, refl, sym, subst}
use Rattle.std.proofs.lemmas.Option.{same_Some}
use Rattle.symbols_ast.specs.Graph.{GraphView}
use Rattle.symbols_table.specs.declared.info.fault.SymbolsFault.{SymbolsFault}
use Rattle.symbols_root.specs.declared.rules.Rules.{Rules}
use Rattle.symbols_root.specs.Growing.{HasGrown}
use Rattle.symbols_root.specs.Roots.{RootView, IsStoringFault}
use Rattle.symbols_exports.specs.Exports.{ExportEntry}
use Rattle.symbols_exports.specs.OneName.{find_export}
use Rattle.symbols_exports.specs.StarStatements.{resolve_specifier}
use Rattle.symbols_paths.specs.PathTrees.{SymbolBySpecifier, QualifiedNameParts}
use Rattle.symbols_paths.specs.DeclTargets.{re_exported_symbol}
use Rattle.symbols_paths.specs.NeededModules.{IsModuleSearchedAlongStars, IsModuleSearchedForImport, IsModuleNeededBySearch, at_search_start, module_of_import}
use Rattle.symbols_paths.specs.NeededModules.{IsFaultOfStoringOneOf}
use Rattle.symbols_paths.specs.inner.SearchSteps.{IsImportDeclared}
use Rattle.symbols_paths.proofs.SearchedExports.{exporter_searched}
use Rattle.symbols_paths.proofs.ResolvedSpecifiers.{OccursAmongStars, then_searched, symbol_of_export_entry}

-- ---- in roots that have grown

pub needed_in_older : {a b : RootView} {start v : List ℕ} {parts : QualifiedNameParts} → HasGrown a b → IsModuleNeededBySearch b.rules b.graph start parts v
    → IsModuleNeededBySearch a.rules a.graph start parts v
needed_in_older {a = a} {b = b} {start = start} {v = v} {parts = parts} grown is =
    subst (λ (g : GraphView). IsModuleNeededBySearch a.rules g start parts v) grown.graph
    (subst (λ (r : Rules). IsModuleNeededBySearch r b.graph start parts v) grown.rules is)

pub needed_in_newer : {a b : RootView} {start v : List ℕ} {parts : QualifiedNameParts} → HasGrown a b → IsModuleNeededBySearch a.rules a.graph start parts v
    → IsModuleNeededBySearch b.rules b.graph start parts v
needed_in_newer {a = a} {b = b} {start = start} {v = v} {parts = parts} grown is =
    subst (λ (g : GraphView). IsModuleNeededBySearch b.rules g start parts v) (sym grown.graph)
    (subst (λ (r : Rules). IsModuleNeededBySearch r a.graph start parts v) (sym grown.rules) is)

-- ---- a specifier

-- a fault of storing the module that a specifier resolves to
pub refused_target : {these : List ℕ → Type 0} (old new : RootView) (target : Option (List ℕ)) (fault : SymbolsFault)
    → ((v : List ℕ) → target ≡ Some v → these v)
    → new ≡ old → IsStoringFault old target fault → IsFaultOfStoringOneOf new these fault
refused_target {these = these} old new target fault leads same refusal =
    subst (λ root. IsFaultOfStoringOneOf root these fault) (sym same) (record { needed = target; is_needed = leads; refused = refusal })

-- what the search for an imported name comes to is needed
pub needed_import : (rules : Rules) (graph : GraphView) (s : SymbolBySpecifier) (name specifier_text m v : List ℕ)
    → IsImportDeclared graph s name specifier_text
    → resolve_specifier graph s.specifier specifier_text ≡ Some m → IsModuleSearchedForImport rules graph m name v
    → IsModuleNeededBySearch rules graph s.specifier [] v
needed_import rules graph s name specifier_text m v is target searched =
    module_of_import s is.decl name specifier_text m at_search_start is.occurs is.imports target searched

-- the search along `export *` statements comes to the module of a candidate
pub candidate_searched : (graph : GraphView) (m specifier_text name : List ℕ) (c : SymbolBySpecifier) → OccursAmongStars graph m specifier_text
    → Some c ≡ re_exported_symbol graph name (resolve_specifier graph m specifier_text) → IsModuleSearchedAlongStars graph m name c.specifier
candidate_searched graph m specifier_text name c occurs is = by (resolve_specifier graph m specifier_text) refl is
  where
    entered : (v : List ℕ) → resolve_specifier graph m specifier_text ≡ Some v → (found : Option ExportEntry) → find_export graph v name ≡ found
        → Some c ≡ option_map symbol_of_export_entry found → IsModuleSearchedAlongStars graph m name c.specifier
    entered v target None e h = absurd cc
    entered v target (Some entry) e h =
        subst (λ (s : SymbolBySpecifier). IsModuleSearchedAlongStars graph m name s.specifier) (sym (same_Some c (symbol_of_export_entry entry) h))
        (then_searched graph m specifier_text name v entry.exporter occurs target (exporter_searched graph v name entry e))

    by : (found : Option (List ℕ)) → resolve_specifier graph m specifier_text ≡ found → Some c ≡ re_exported_symbol graph name found
        → IsModuleSearchedAlongStars graph m name c.specifier
    by None target h = absurd cc
    by (Some v) target h = entered v target (find_export graph v name) refl h
