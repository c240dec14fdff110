-- The modules that a search may need, which alone it stores, and the faults of storing them.
use Rattle.std.specs.Prelude.{◌≡◌, ◌⊎◌, ℕ, true, List, [], ◌∷◌, Option, Some, None, Contains}
use Rattle.symbols_ast.specs.Graph.{GraphView}
use Rattle.symbols_ast.specs.Ids.{IdView}
use Rattle.symbols_nodes.specs.References.{SymbolReference, id, qualified_id, import_type}
use Rattle.symbols_table.specs.DeclViews.{all_names, one_name, Declaration, qualified_target, file_ref}
use Rattle.symbols_table.specs.declared.info.fault.SymbolsFault.{SymbolsFault}
use Rattle.symbols_root.specs.declared.rules.Rules.{Rules}
use Rattle.symbols_root.specs.Roots.{RootView, IsStoringFault}
use Rattle.symbols_exports.specs.Chains.{star_target_at, chain_end_module}
use Rattle.symbols_exports.specs.OneName.{find_export, last_searched_chain, IsChainNotAfterLastSearched}
use Rattle.symbols_exports.specs.StarStatements.{resolve_specifier, star_targets_of}
use Rattle.symbols_paths.specs.PathTrees.{SymbolBySpecifier, QualifiedNameParts}
use Rattle.symbols_paths.specs.DeclTargets.{declarations_of, explicit_export, searches_stars_for}

-- a module that the search for an export of `m` comes to: it is at the end of a chain from `m` that isn't after the last chain searched
abbrev pub IsModuleSearchedForExport : GraphView → List ℕ → List ℕ → List ℕ → Type 0
IsModuleSearchedForExport graph m name v = (chain : List ℕ) × (chain_end_module (star_targets_of graph) m chain ≡ Some v)
    × IsChainNotAfterLastSearched (last_searched_chain name (find_export graph m name)) chain

-- a module that the search for a name comes to along the `export *` statements of `m`: it looks for an export of the module of each
abbrev pub IsModuleSearchedAlongStars : GraphView → List ℕ → List ℕ → List ℕ → Type 0
IsModuleSearchedAlongStars graph m name v = (position : ℕ) × (next : List ℕ) × (star_target_at (star_targets_of graph) m position ≡ Some next)
    × IsModuleSearchedForExport graph next name v

-- a module that the search for a name imported from `m` comes to: `m` itself; and along the `export *` statements of `m`, if it doesn't
-- export the name locally and the rules let the search go on to these
pub data IsModuleSearchedForImport (rules : Rules) (graph : GraphView) (m name : List ℕ) : List ℕ → Type 0 where
  imported_module : IsModuleSearchedForImport rules graph m name m
  searched_along_stars : {v : List ℕ} → explicit_export graph m name ≡ None → searches_stars_for rules name ≡ true → IsModuleSearchedAlongStars graph m name v
      → IsModuleSearchedForImport rules graph m name v

mutual
  -- a module that a search from `start` under parts may need: `start` itself; and what the search for a name comes to that a needed module
  -- imports. Of a namespace import these names are the parts that the search may resolve
  pub data IsModuleNeededBySearch (rules : Rules) (graph : GraphView) (start : List ℕ) (parts : QualifiedNameParts) : List ℕ → Type 0 where
    at_search_start : IsModuleNeededBySearch rules graph start parts start
    module_of_import : {v : List ℕ} (s : SymbolBySpecifier) (decl : Declaration) (name specifier_text m : List ℕ)
        → IsModuleNeededBySearch rules graph start parts s.specifier → Contains (declarations_of graph s) decl
        → decl.kind ≡ file_ref (one_name name) specifier_text → resolve_specifier graph s.specifier specifier_text ≡ Some m
        → IsModuleSearchedForImport rules graph m name v → IsModuleNeededBySearch rules graph start parts v
    module_of_namespace_import_part : {v : List ℕ} (s : SymbolBySpecifier) (decl : Declaration) (specifier_text m part : List ℕ)
        → IsModuleNeededBySearch rules graph start parts s.specifier → Contains (declarations_of graph s) decl
        → decl.kind ≡ file_ref all_names specifier_text → resolve_specifier graph s.specifier specifier_text ≡ Some m
        → IsPartResolvedBySearch rules graph start parts part → IsModuleSearchedForExport graph m part v → IsModuleNeededBySearch rules graph start parts v

  -- a part that the search may resolve: one of the parts, or one of a qualified name that a needed module declares an alias of
  pub data IsPartResolvedBySearch (rules : Rules) (graph : GraphView) (start : List ℕ) (parts : QualifiedNameParts) : List ℕ → Type 0 where
    part_of_query : {part : List ℕ} → Contains parts part → IsPartResolvedBySearch rules graph start parts part
    part_of_declared_alias : {part : List ℕ} (s : SymbolBySpecifier) (decl : Declaration) (name : IdView) (qualifiers : QualifiedNameParts)
        → IsModuleNeededBySearch rules graph start parts s.specifier → Contains (declarations_of graph s) decl → decl.kind ≡ qualified_target name qualifiers
        → Contains qualifiers part → IsPartResolvedBySearch rules graph start parts part

-- the modules that an import type may need: its module; and from there what the search for its first part comes to, and what the search of
-- its symbol under the other parts may need
abbrev pub IsNeededByImportType : Rules → GraphView → List ℕ → QualifiedNameParts → List ℕ → Type 0
IsNeededByImportType rules graph m [] v = v ≡ m
IsNeededByImportType rules graph m (part ∷ remaining) v = (exporter : List ℕ) × IsModuleSearchedForExport graph m part exporter
    × IsModuleNeededBySearch rules graph exporter remaining v

-- the modules that a reference in a module may need
abbrev pub IsNeededByReference : Rules → GraphView → List ℕ → SymbolReference → List ℕ → Type 0
IsNeededByReference rules graph specifier (id name) v = IsModuleNeededBySearch rules graph specifier [] v
IsNeededByReference rules graph specifier (qualified_id name parts) v = IsModuleNeededBySearch rules graph specifier parts v
IsNeededByReference rules graph specifier (import_type specifier_text parts) v =
    (m : List ℕ) × (resolve_specifier graph specifier specifier_text ≡ Some m) × IsNeededByImportType rules graph m parts v

-- the fault of storing one of these modules, or of a failed allocation
pub record IsFaultOfStoringOneOf (root : RootView) (these : List ℕ → Type 0) (fault : SymbolsFault) : Type 0 where
  pub needed : Option (List ℕ)
  pub is_needed : (specifier : List ℕ) → needed ≡ Some specifier → these specifier
  pub refused : IsStoringFault root needed fault

-- the fault of storing a module needed from `start`, or of a failed allocation
abbrev pub IsFaultOfStoringNeededBySearch : RootView → List ℕ → SymbolsFault → Type 0
IsFaultOfStoringNeededBySearch root start fault = IsFaultOfStoringOneOf root (IsModuleNeededBySearch root.rules root.graph start []) fault

-- a call stores no module but these: each that is stored after it was stored before, or is one of them
pub record AreNewlyStoredAmong (old new : RootView) (these : List ℕ → Type 0) : Type 0 where
  pub each : (v : List ℕ) → Contains new.stored v → Contains old.stored v ⊎ these v

-- a call stores no module but those needed from `start`
abbrev pub AreNewlyStoredNeededBySearch : RootView → RootView → List ℕ → Type 0
AreNewlyStoredNeededBySearch old new start = AreNewlyStoredAmong old new (IsModuleNeededBySearch old.rules old.graph start [])
