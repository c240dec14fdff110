-- Visited symbols, and aliases being resolved: ids in the code, specifiers and numbers in the specs.
use Rattle.std.proofs.Common.{◌≡◌, zero, suc, ◌<◌, Bool, true, false, ◌&&◌, ◌||◌, List, [], ◌∷◌, ◌++◌, length, get_or, refl, ◌∙◌, arith, nat_eq}
use Rattle.std.specs.List.{IsDistinct, list_any}
use Rattle.std.specs.Str.{bytes_eq}
use Rattle.std.proofs.lemmas.List.{map-append}
use Rattle.symbols_ast.specs.declared.ids.UniqueSymbolId.{UniqueSymbolId}
use Rattle.symbols_root.specs.Roots.{RootView}
use Rattle.symbols_root.specs.Growing.{HasGrown}
use Rattle.symbols_root.specs.laws.Growing.{stored_id_remains_stored}
use Rattle.symbols_paths.specs.declared.alias_decl.AliasDecl.{AliasDecl}
use Rattle.symbols_paths.specs.Choice.{is_visited, is_alias_being_resolved}
use Rattle.symbols_paths.specs.inner.Views.{symbol_of_unique_id}
use Rattle.symbols_paths.specs.inner.SearchSteps.{AreModulesOfSymbolsStored, AreModulesOfAliasesStored, symbols_of_unique_ids, decls_of_aliases, decl_of_alias}
use Rattle.symbols_paths.proofs.GrownRoots.{same_number}

-- whether two ids are of one symbol, as the set of visited symbols compares them
abbrev pub is_symbol : UniqueSymbolId → UniqueSymbolId → Bool
is_symbol x y = nat_eq x.module_id.0 y.module_id.0 && nat_eq x.symbol_id.0 y.symbol_id.0

-- a symbol is visited by ids if and only if it is by specifiers
pub visited_by_name : (root : RootView) → IsDistinct bytes_eq root.stored → (visited : List UniqueSymbolId) (s : UniqueSymbolId)
    → AreModulesOfSymbolsStored root visited → s.module_id.0 < length root.stored
    → list_any (is_symbol s) visited ≡ is_visited (symbols_of_unique_ids root visited) (symbol_of_unique_id root s)
visited_by_name root once [] s numbered within = refl
visited_by_name root once (m ∷ visited) s numbered within =
    let first = same_number root once s.module_id m.module_id within (numbered 0 m (omega arith)) in
    let rest = visited_by_name root once visited s (λ k d h. numbered (suc k) d (omega (arith, h))) within in
    λ i. (first i && nat_eq s.symbol_id.0 m.symbol_id.0) || rest i

pub named_with : (root : RootView) (visited : List UniqueSymbolId) (s : UniqueSymbolId)
    → symbols_of_unique_ids root (visited ++ s ∷ []) ≡ symbols_of_unique_ids root visited ++ symbol_of_unique_id root s ∷ []
named_with root visited s = map-append (symbol_of_unique_id root) visited (s ∷ [])

pub numbered_with : (root : RootView) (visited : List UniqueSymbolId) (s : UniqueSymbolId) → AreModulesOfSymbolsStored root visited
    → s.module_id.0 < length root.stored → AreModulesOfSymbolsStored root (visited ++ s ∷ [])
numbered_with root [] s numbered within zero d h = within
numbered_with root [] s numbered within (suc k) d h = absurd (omega (arith, h))
numbered_with root (m ∷ visited) s numbered within zero d h = numbered 0 d (omega arith)
numbered_with root (m ∷ visited) s numbered within (suc k) d h =
    numbered_with root visited s (λ j e g. numbered (suc j) e (omega (arith, g))) within k d (omega (arith, h))

-- ---- aliases being resolved, by ids and by specifiers

abbrev pub is_alias_decl : AliasDecl → AliasDecl → Bool
is_alias_decl x y = nat_eq x.«module».0 y.«module».0 && (nat_eq x.decl.symbol.0 y.decl.symbol.0 && nat_eq x.decl.index y.decl.index)

and_assoc : (a b c : Bool) → (a && (b && c)) ≡ ((a && b) && c)
and_assoc true b c = refl
and_assoc false b c = refl

pub running_by_name : (root : RootView) → IsDistinct bytes_eq root.stored → (running : List AliasDecl) (d : AliasDecl) → AreModulesOfAliasesStored root running
    → d.«module».0 < length root.stored → list_any (is_alias_decl d) running ≡ is_alias_being_resolved (decls_of_aliases root running) (decl_of_alias root d)
running_by_name root once [] d numbered within = refl
running_by_name root once (m ∷ running) d numbered within =
    let first = same_number root once d.«module» m.«module» within (numbered 0 m (omega arith)) in
    let rest = running_by_name root once running d (λ k e h. numbered (suc k) e (omega (arith, h))) within in
    let here = and_assoc (nat_eq d.«module».0 m.«module».0) (nat_eq d.decl.symbol.0 m.decl.symbol.0) (nat_eq d.decl.index m.decl.index) in
    (λ i. here i || list_any (is_alias_decl d) running)
    ∙ (λ i. (first i && nat_eq d.decl.symbol.0 m.decl.symbol.0 && nat_eq d.decl.index m.decl.index) || rest i)

pub running_with : (root : RootView) (running : List AliasDecl) (d : AliasDecl)
    → decls_of_aliases root (running ++ d ∷ []) ≡ decls_of_aliases root running ++ decl_of_alias root d ∷ []
running_with root running d = map-append (decl_of_alias root) running (d ∷ [])

pub aliases_with : (root : RootView) (running : List AliasDecl) (d : AliasDecl) → AreModulesOfAliasesStored root running → d.«module».0 < length root.stored
    → AreModulesOfAliasesStored root (running ++ d ∷ [])
aliases_with root [] d numbered within zero e h = within
aliases_with root [] d numbered within (suc k) e h = absurd (omega (arith, h))
aliases_with root (m ∷ running) d numbered within zero e h = numbered 0 e (omega arith)
aliases_with root (m ∷ running) d numbered within (suc k) e h =
    aliases_with root running d (λ j q g. numbered (suc j) q (omega (arith, g))) within k e (omega (arith, h))

pub still_aliases : {root more : RootView} → HasGrown root more → (running : List AliasDecl) → AreModulesOfAliasesStored root running
    → AreModulesOfAliasesStored more running
still_aliases grown running numbered = λ k e within. stored_id_remains_stored grown (get_or running k e).«module».0 (numbered k e within)
