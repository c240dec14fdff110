-- The definitions of a symbol are of modules needed from its own, and a star import is a declaration of its symbol.
use Rattle.std.proofs.Common.{◌≡◌, ℕ, zero, suc, ◌<◌, Bool, true, false, List, [], ◌∷◌, length, map, Option}
use Rattle.std.proofs.Common.{None, Some, refl, sym, ap, subst, ◌∙◌, slice_get, arith}
use Rattle.std.specs.Prelude.{Contains, if◌then◌else◌, ◌&&◌}
use Rattle.std.specs.Str.{bytes_eq}
use Rattle.std.proofs.lemmas.Option.{same_Some, none-some}
use Rattle.symbols_ast.specs.declared.ids.SymbolId.{SymbolId}
use Rattle.symbols_ast.specs.declared.tree.arena.SourceRange.{SourceRange}
use Rattle.symbols_ast.specs.Graph.{GraphView}
use Rattle.symbols_table.specs.DeclViews.{FileDepView, DeclKindView, target, qualified_target, file_ref, definition as defines_node, all_names, one_name}
use Rattle.symbols_table.specs.DeclViews.{Declaration}
use Rattle.symbols_root.specs.declared.rules.Rules.{Rules}
use Rattle.symbols_exports.specs.Exports.{ExportEntry}
use Rattle.symbols_exports.specs.OneName.{find_export}
use Rattle.symbols_exports.specs.StarStatements.{resolve_specifier}
use Rattle.symbols_paths.specs.PathTrees.{SymbolBySpecifier, DeclBySpecifier, QualifiedNameParts, DefinitionView, UnresolvedEntry, no_part}
use Rattle.symbols_paths.specs.DeclTargets.{ForwardTarget, DeclTargetView, defines, forwards, alias, IsTargetOfNthDecl, symbol_of_id}
use Rattle.symbols_paths.specs.DeclTargets.{forward_target_within_module}
use Rattle.symbols_paths.specs.DeclTargets.{alias_target, forward_target_of_import, declarations_of, target_of_decl, decl_targets_of}
use Rattle.symbols_paths.specs.PartTargets.{part_is_symbol, itself, part_is_unresolved, export_of_symbol, exported_part_target, module_part_target}
use Rattle.symbols_paths.specs.PartTargets.{import_part_target}
use Rattle.symbols_paths.specs.PartTargets.{definition_part_target, part_target_of, is_class_decl_at, prototype_name}
use Rattle.symbols_paths.specs.Derived.{definition_of_decl}
use Rattle.symbols_paths.specs.NeededModules.{IsModuleSearchedForExport}
use Rattle.symbols_paths.specs.NeededModules.{IsModuleNeededBySearch, at_search_start, module_of_import, module_of_namespace_import_part}
use Rattle.symbols_paths.specs.NeededModules.{IsPartResolvedBySearch, part_of_query, part_of_declared_alias}
use Rattle.symbols_paths.specs.inner.Views.{first_part, later_parts}
use Rattle.symbols_paths.specs.inner.Needed.{IsStarImportDeclared}
use Rattle.symbols_paths.proofs.SearchedExports.{exporter_searched}
use Rattle.symbols_paths.specs.laws.OneOutcome.{symbols_of_same_part_target}
use Rattle.symbols_paths.proofs.Leaves.{none_in}

-- what is needed from a needed module, under parts that the search may resolve
module _ {rules : Rules} {graph : GraphView} {a b : List ℕ} {parts more : QualifiedNameParts} (needed : IsModuleNeededBySearch rules graph a parts b)
    (are : (part : List ℕ) → Contains more part → IsPartResolvedBySearch rules graph a parts part) where
  mutual
    pub needed_from : {c : List ℕ} → IsModuleNeededBySearch rules graph b more c → IsModuleNeededBySearch rules graph a parts c
    needed_from at_search_start = needed
    needed_from (module_of_import s decl name specifier_text m is has kind leads searched) =
        module_of_import s decl name specifier_text m (needed_from is) has kind leads searched
    needed_from (module_of_namespace_import_part s decl specifier_text m part is has kind leads resolved searched) =
        module_of_namespace_import_part s decl specifier_text m part (needed_from is) has kind leads (part_from resolved) searched

    part_from : {part : List ℕ} → IsPartResolvedBySearch rules graph b more part → IsPartResolvedBySearch rules graph a parts part
    part_from (part_of_query {part = part} has) = are part has
    part_from (part_of_declared_alias s decl name qualifiers is has kind among) = part_of_declared_alias s decl name qualifiers (needed_from is) has kind among

-- the same without parts
pub needed_on : {rules : Rules} {graph : GraphView} {a b c : List ℕ} {parts : QualifiedNameParts} → IsModuleNeededBySearch rules graph a parts b
    → IsModuleNeededBySearch rules graph b [] c → IsModuleNeededBySearch rules graph a parts c
needed_on needed is = needed_from needed (λ part has. absurd (none_in part has)) is

-- the same under all or the later of the parts
pub later_among : (p part : List ℕ) (parts : QualifiedNameParts) → Contains parts part → Contains (p ∷ parts) part
later_among p part parts (k, within, at) = (suc k, omega (arith, within), at)

pub needed_later : {rules : Rules} {graph : GraphView} {a b c : List ℕ} (p : List ℕ) {parts : QualifiedNameParts} → IsModuleNeededBySearch rules graph a
    (p ∷ parts) b
    → IsModuleNeededBySearch rules graph b parts c → IsModuleNeededBySearch rules graph a (p ∷ parts) c
needed_later p {parts} needed is = needed_from needed (λ part has. part_of_query (later_among p part parts has)) is

-- ---- the declaration of a target

record IsDeclAt (rules : Rules) (graph : GraphView) (s : SymbolBySpecifier) (decl_target : DeclTargetView) : Type 0 where
  decl : Declaration
  occurs : Contains (declarations_of graph s) decl
  targets_so : target_of_decl rules graph s decl.range decl.kind ≡ decl_target

decl_there : (rules : Rules) (graph : GraphView) (s : SymbolBySpecifier) (i : ℕ) (decl_target : DeclTargetView)
    → IsTargetOfNthDecl (decl_targets_of rules graph) s i decl_target → IsDeclAt rules graph s decl_target
decl_there rules graph s i decl_target st = by (declarations_of graph s) i (λ d h. h) st
  where
    by : (decls : List Declaration) (k : ℕ) → ((d : Declaration) → Contains decls d → Contains (declarations_of graph s) d)
        → slice_get (map (λ (decl : Declaration). target_of_decl rules graph s decl.range decl.kind) decls) k ≡ Some decl_target
        → IsDeclAt rules graph s decl_target
    by [] k among e = absurd cc
    by (d ∷ decls) zero among e =
        record { decl = d; occurs = among d (0, omega arith, refl); targets_so = same_Some (target_of_decl rules graph s d.range d.kind) decl_target e }
    by (d ∷ decls) (suc k) among e = by decls k (λ x h. among x (suc h.0, omega (arith, h.1), h.2)) e

-- ---- a star import

abbrev IsStarKind : DeclKindView → Option FileDepView → Type 0
IsStarKind kind star = (dep : FileDepView) → star ≡ Some dep → kind ≡ file_ref all_names dep.specifier

same_star : (a b : SourceRange) (x y : Option FileDepView) → defines a x ≡ defines b y → x ≡ y
same_star a b x y e = cc

no_definition : (forward : ForwardTarget) (range : SourceRange) (star : Option FileDepView) → forwards forward ≡ defines range star → ⊥
no_definition forward range star e = cc

no_alias_definition : (t : SymbolBySpecifier) (ps : QualifiedNameParts) (range : SourceRange) (star : Option FileDepView) → alias t ps ≡ defines range star → ⊥
no_alias_definition t ps range star e = cc

star_kind : (rules : Rules) (graph : GraphView) (s : SymbolBySpecifier) (r range : SourceRange) (star : Option FileDepView) (kind : DeclKindView)
    → target_of_decl rules graph s r kind ≡ defines range star → IsStarKind kind star
star_kind rules graph s r range star (defines_node x) e = λ dep is. absurd (none-some dep (same_star r range None star e ∙ is))
star_kind rules graph s r range star (file_ref all_names specifier_text) e = λ dep is.
    let same : record { name = all_names; specifier = specifier_text } ≡ dep = same_Some (record { name = all_names; specifier = specifier_text }) dep
    (same_star r range (Some (record { name = all_names; specifier = specifier_text })) star e ∙ is) in
    ap (λ (d : FileDepView). file_ref all_names d.specifier) same
star_kind rules graph s r range star (file_ref (one_name name) specifier_text) e =
    absurd (no_definition (forward_target_of_import rules graph s name specifier_text (resolve_specifier graph s.specifier specifier_text)) range star e)
star_kind rules graph s r range star (target id) e = absurd (no_definition (forward_target_within_module s (symbol_of_id graph s.specifier id)) range star e)
star_kind rules graph s r range star (qualified_target id parts) e = absurd (by (symbol_of_id graph s.specifier id) e)
  where
    by : (t : Option SymbolId) → alias_target s id parts t ≡ defines range star → ⊥
    by None q = no_definition _ range star q
    by (Some t) q = no_alias_definition _ parts range star q

pub star_declared : (rules : Rules) (graph : GraphView) (s : SymbolBySpecifier) (i : ℕ) (range : SourceRange) (star : Option FileDepView)
    → IsTargetOfNthDecl (decl_targets_of rules graph) s i (defines range star) → IsStarImportDeclared graph (definition_of_decl s i range star)
star_declared rules graph s i range star st dep is =
    let there = decl_there rules graph s i (defines range star) st in
    (there.decl, there.occurs, star_kind rules graph s there.decl.range range star there.decl.kind there.targets_so dep is)

-- ---- the symbols of parts

lacks_to : (m : UnresolvedEntry) (t : SymbolBySpecifier) → part_is_unresolved m ≡ part_is_symbol t → ⊥
lacks_to m t e = cc

itself_to : (t : SymbolBySpecifier) → itself ≡ part_is_symbol t → ⊥
itself_to t e = cc

module_part_searched : (graph : GraphView) (m p : List ℕ) (ps : QualifiedNameParts) (found : Option ExportEntry) (t : SymbolBySpecifier)
    → find_export graph m p ≡ found
    → module_part_target m p ps found ≡ part_is_symbol t → IsModuleSearchedForExport graph m p t.specifier
module_part_searched graph m p ps None t named e = absurd (lacks_to _ t e)
module_part_searched graph m p ps (Some entry) t named e = subst (λ (x : SymbolBySpecifier). IsModuleSearchedForExport graph m p x.specifier)
    (symbols_of_same_part_target (record { specifier = entry.exporter; number = entry.symbol }) t e) (exporter_searched graph m p entry named)

pub part_of_import_searched : (graph : GraphView) (m specifier_text p : List ℕ) (ps : QualifiedNameParts) (t : SymbolBySpecifier)
    → import_part_target graph m specifier_text p ps (resolve_specifier graph m specifier_text) ≡ part_is_symbol t
    → (v : List ℕ) × (resolve_specifier graph m specifier_text ≡ Some v) × IsModuleSearchedForExport graph v p t.specifier
part_of_import_searched graph m specifier_text p ps t e = by (resolve_specifier graph m specifier_text) refl e
  where
    by : (found : Option (List ℕ)) → resolve_specifier graph m specifier_text ≡ found → import_part_target graph m specifier_text p ps found ≡ part_is_symbol t
        → (v : List ℕ) × (resolve_specifier graph m specifier_text ≡ Some v) × IsModuleSearchedForExport graph v p t.specifier
    by None is q = absurd (lacks_to _ t q)
    by (Some v) is q = (v, is, module_part_searched graph v p ps (find_export graph v p) t refl q)

neither : (b : Bool) (m : UnresolvedEntry) (t : SymbolBySpecifier) → (if b then itself else part_is_unresolved m) ≡ part_is_symbol t → ⊥
neither true m t q = itself_to t q
neither false m t q = lacks_to m t q

explicit_part_needed : (graph : GraphView) (d : DeclBySpecifier) (p : List ℕ) (ps : QualifiedNameParts) (u : Option SymbolId) (t : SymbolBySpecifier)
    → exported_part_target graph d p ps u ≡ part_is_symbol t → t.specifier ≡ d.symbol.specifier
explicit_part_needed graph d p ps (Some u) t e =
    sym (ap (λ (x : SymbolBySpecifier). x.specifier) (symbols_of_same_part_target (record { specifier = d.symbol.specifier; number = u }) t e))
explicit_part_needed graph d p ps None t e =
    absurd (neither (bytes_eq prototype_name p && is_class_decl_at graph d) (record { specifier = d.symbol.specifier; reason = no_part p; parts = p ∷ ps }) t e)

pub part_needed : (rules : Rules) (graph : GraphView) (y : DefinitionView) (p : List ℕ) (ps : QualifiedNameParts) (t : SymbolBySpecifier)
    → IsStarImportDeclared graph y → part_target_of graph y p ps ≡ part_is_symbol t
    → IsModuleNeededBySearch rules graph y.decl.symbol.specifier (p ∷ ps) t.specifier
part_needed rules graph y p ps t declared e = by y.star refl e
  where
    by : (star : Option FileDepView) → y.star ≡ star → definition_part_target graph y.decl p ps star ≡ part_is_symbol t
        → IsModuleNeededBySearch rules graph y.decl.symbol.specifier (p ∷ ps) t.specifier
    by None is q =
        subst (IsModuleNeededBySearch rules graph y.decl.symbol.specifier (p ∷ ps))
        (sym (explicit_part_needed graph y.decl p ps (export_of_symbol graph y.decl.symbol p) t q)) at_search_start
    by (Some dep) is q =
        let d = declared dep is in
        let h = part_of_import_searched graph y.decl.symbol.specifier dep.specifier p ps t q in
        module_of_namespace_import_part y.decl.symbol d.0 dep.specifier h.0 p at_search_start d.1 d.2 h.1 (part_of_query (0, omega arith, refl)) h.2

-- what the search of a part's symbol under the other parts needs
pub part_needs : (rules : Rules) (graph : GraphView) (y : DefinitionView) (parts : QualifiedNameParts) (t : SymbolBySpecifier) → IsStarImportDeclared graph y
    → 0 < length parts → part_is_symbol t ≡ part_target_of graph y (first_part parts) (later_parts parts) → (v : List ℕ)
    → IsModuleNeededBySearch rules graph t.specifier (later_parts parts) v → IsModuleNeededBySearch rules graph y.decl.symbol.specifier parts v
part_needs rules graph y [] t declared some e v needed = absurd (omega (arith, some))
part_needs rules graph y (p ∷ ps) t declared some e v needed = needed_later p (part_needed rules graph y p ps t declared (sym e)) needed
