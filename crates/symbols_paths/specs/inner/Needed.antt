-- Definitions of inner functions and proofs, beside those of `NeededModules`.
use Rattle.std.specs.Prelude.{◌≡◌, ℕ, List, [], Option, Some, Contains, Result}
use Rattle.symbols_ast.specs.declared.ids.ModuleId.{ModuleId}
use Rattle.symbols_ast.specs.declared.ids.UniqueSymbolId.{UniqueSymbolId}
use Rattle.symbols_ast.specs.Graph.{GraphView}
use Rattle.symbols_table.specs.DeclViews.{all_names, FileDepView, Declaration, file_ref}
use Rattle.symbols_table.specs.declared.info.fault.SymbolsFault.{SymbolsFault}
use Rattle.symbols_root.specs.Calls.{HasGrownAndFailsOnlyFor}
use Rattle.symbols_root.specs.Roots.{RootView, specifier_in}
use Rattle.symbols_exports.specs.StarStatements.{resolve_specifier}
use Rattle.symbols_paths.specs.PathTrees.{DefinitionView, QualifiedNameParts}
use Rattle.symbols_paths.specs.DeclTargets.{declarations_of}
use Rattle.symbols_paths.specs.NeededModules.{IsModuleSearchedForExport, IsModuleSearchedAlongStars, IsModuleNeededBySearch, IsFaultOfStoringOneOf}
use Rattle.symbols_paths.specs.NeededModules.{AreNewlyStoredAmong}

-- the modules that a search from a module of a root may need, under parts
abbrev pub IsNeededFrom : RootView → ModuleId → QualifiedNameParts → List ℕ → Type 0
IsNeededFrom root module_id parts v = IsModuleNeededBySearch root.rules root.graph (specifier_in root module_id) parts v

-- the modules that the search for an export of a module comes to
abbrev pub IsSearchedForExportOf : RootView → ModuleId → List ℕ → List ℕ → Type 0
IsSearchedForExportOf root module_id name v = IsModuleSearchedForExport root.graph (specifier_in root module_id) name v

-- the modules that the search for a name comes to along the `export *` statements of a module
abbrev pub IsSearchedAlongStarsOf : RootView → ModuleId → List ℕ → List ℕ → Type 0
IsSearchedAlongStarsOf root module_id name v = IsModuleSearchedAlongStars root.graph (specifier_in root module_id) name v

-- the modules that the search for a name along the `export *` statements of a module, and from there on, may need
abbrev pub IsNeededAlongStarsOf : RootView → ModuleId → List ℕ → List ℕ → Type 0
IsNeededAlongStarsOf root module_id name v = (exporter : List ℕ) × IsSearchedAlongStarsOf root module_id name exporter
    × IsModuleNeededBySearch root.rules root.graph exporter [] v

-- the modules that the search of a candidate may need, if there is one
abbrev pub IsNeededFromCandidate : RootView → Option UniqueSymbolId → List ℕ → Type 0
IsNeededFromCandidate root candidate v = (symbol : UniqueSymbolId) × (candidate ≡ Some symbol) × IsNeededFrom root symbol.module_id [] v

-- the modules that the search for an export of the module that a specifier resolves to comes to
abbrev pub IsSearchedInImport : RootView → ModuleId → List ℕ → List ℕ → List ℕ → Type 0
IsSearchedInImport root module_id specifier_text name v = (m : List ℕ)
    × (resolve_specifier root.graph (specifier_in root module_id) specifier_text ≡ Some m) × IsModuleSearchedForExport root.graph m name v

-- after a call: stored modules stay, and a fault is of one of these modules or of a failed allocation
abbrev pub HasGrownAndFailsOnlyStoringOneOf : {A : Type 0} → RootView → RootView → (List ℕ → Type 0) → Result A SymbolsFault → Type 0
HasGrownAndFailsOnlyStoringOneOf old new these result = HasGrownAndFailsOnlyFor old new (IsFaultOfStoringOneOf new these) result

-- a star import is a declaration of its symbol
abbrev pub IsStarImportDeclared : GraphView → DefinitionView → Type 0
IsStarImportDeclared graph x = (dep : FileDepView) → x.star ≡ Some dep
    → (decl : Declaration) × Contains (declarations_of graph x.decl.symbol) decl × (decl.kind ≡ file_ref all_names dep.specifier)

-- a call stores no module but the one that a specifier resolves to
abbrev pub StoresOnlyResolvedModule : RootView → RootView → ModuleId → List ℕ → Type 0
StoresOnlyResolvedModule old new module_id specifier_text =
    AreNewlyStoredAmong old new (λ v. resolve_specifier old.graph (specifier_in old module_id) specifier_text ≡ Some v)
