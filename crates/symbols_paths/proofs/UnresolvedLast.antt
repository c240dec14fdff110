-- An unresolved entry, unless after an alias, occurs only if all candidates of its declaration are visited.
use Rattle.std.proofs.Common.{◌≡◌, ℕ, zero, suc, ◌⊎◌, inl, inr, true, false, List, [], ◌∷◌, ◌++◌, map}
use Rattle.std.proofs.Common.{Option, None, Some, refl, sym, ◌∙◌, ap, subst, arith, append_assoc, append-nil}
use Rattle.std.specs.Prelude.{Contains, slice_get}
use Rattle.std.specs.Option.{option_map_or}
use Rattle.std.proofs.lemmas.List.Elements.{Contains-append_cases}
use Rattle.std.proofs.lemmas.Option.{same_Some}
use Rattle.symbols_ast.specs.declared.ids.SymbolId.{SymbolId}
use Rattle.symbols_ast.specs.declared.tree.arena.SourceRange.{SourceRange}
use Rattle.symbols_ast.specs.Graph.{GraphView}
use Rattle.symbols_ast.specs.Ids.{IdView}
use Rattle.symbols_table.specs.DeclViews.{DeclKindView, target, qualified_target, file_ref, definition as defines_node, all_names, one_name, Declaration}
use Rattle.symbols_root.specs.declared.rules.Rules.{Rules}
use Rattle.symbols_exports.specs.StarStatements.{resolve_specifier}
use Rattle.symbols_paths.specs.PathTrees.{SymbolBySpecifier, DeclBySpecifier, DefinitionView, UnresolvedEntry, no_symbol, no_module, no_part, LinkHead}
use Rattle.symbols_paths.specs.PathTrees.{PathForest, definition, unresolved, no_trees, more_trees, joined_forests, forest_below_link_unless_empty}
use Rattle.symbols_paths.specs.PathTrees.{leaves_of_forest}
use Rattle.symbols_paths.specs.DeclTargets.{ForwardTarget, DeclTargetView, DeclTargets, defines, forwards, alias, IsTargetOfNthDecl, symbol_of_id}
use Rattle.symbols_paths.specs.DeclTargets.{explicit_export, re_exported_symbols_by_rules, forward_target_to_unresolved, forward_target_within_module}
use Rattle.symbols_paths.specs.DeclTargets.{alias_target, forward_target_of_import, forward_target_into_module, declarations_of, target_of_decl}
use Rattle.symbols_paths.specs.PartTargets.{SearchTargets, search_targets_of}
use Rattle.symbols_paths.specs.Derived.{decl_of_symbol_at_index, definition_of_decl, link_head_of_forward, alias_link_head}
use Rattle.symbols_paths.specs.FirstReach.{is_alias_target, is_alias_decl_at, leaves_outside_aliases, HasCandidateLeavesIfPartUnresolved}
use Rattle.symbols_paths.specs.Choice.{is_visited, IsOutcomeOfSymbolSearch, already_visited, is_new, IsOutcomeOfDeclListSearch, no_decl_left, step}
use Rattle.symbols_paths.specs.Choice.{IsOutcomeOfDeclSearch, decl_is_definition}
use Rattle.symbols_paths.specs.Choice.{decl_forwards, by_alias_being_resolved, via_alias, IsOutcomeOfCandidateSearch, no_candidate_left}
use Rattle.symbols_paths.specs.Choice.{first_candidate_with_paths, candidate_has_no_path, forest_of_unresolved}
use Rattle.symbols_paths.proofs.Leaves.{IsTail, later, here, whole, none_in, decl_targets_same}
use Rattle.symbols_paths.proofs.FirstReachCovered.{finds_covers, expands_covers, tries_covers, visited_given}

-- ---- leaves that are not after an alias

outer-join : (table : DeclTargets) (f g : PathForest) → leaves_outside_aliases table (joined_forests f g) ≡ leaves_outside_aliases table f
    ++ leaves_outside_aliases table g
outer-join table no_trees g = refl
outer-join table (more_trees t f) g = rw (outer-join table f g, append_assoc) refl

outer-link_unless_empty : (table : DeclTargets) (head : LinkHead) (f : PathForest) → is_alias_decl_at table head.decl ≡ false
    → leaves_outside_aliases table (forest_below_link_unless_empty head f) ≡ leaves_outside_aliases table f
outer-link_unless_empty table head no_trees e = refl
outer-link_unless_empty table head (more_trees t f) e = rw e (append-nil (leaves_outside_aliases table (more_trees t f)))

outer-alias : (table : DeclTargets) (head : LinkHead) (f : PathForest) → is_alias_decl_at table head.decl ≡ true
    → leaves_outside_aliases table (forest_below_link_unless_empty head f) ≡ []
outer-alias table head no_trees e = refl
outer-alias table head (more_trees t f) e = rw e refl

alias_there : (table : DeclTargets) (s : SymbolBySpecifier) (i : ℕ) (decl_target : DeclTargetView) → IsTargetOfNthDecl table s i decl_target
    → is_alias_decl_at table (decl_of_symbol_at_index s i) ≡ is_alias_target decl_target
alias_there table s i decl_target st = ap (λ o. option_map_or is_alias_target o false) st

-- a declaration has the unresolved entry, and all its candidates are visited
record IsNamedBy (routes : SearchTargets) (m : UnresolvedEntry) (after : List SymbolBySpecifier) : Type 0 where
  symbol : SymbolBySpecifier
  index : ℕ
  forward : ForwardTarget
  occurs : IsTargetOfNthDecl routes.decl_targets symbol index (forwards forward)
  otherwise : forward.otherwise ≡ Some m
  visited : (c : SymbolBySpecifier) → Contains forward.candidates c → is_visited after c ≡ true

record AreNamed (routes : SearchTargets) (f : PathForest) (after : List SymbolBySpecifier) : Type 0 where
  all : (m : UnresolvedEntry) → Contains (leaves_outside_aliases routes.decl_targets f) (unresolved m) → IsNamedBy routes m after

-- the same, or it is the entry of the declaration whose candidates are being tried, and these are visited
record AreTried (routes : SearchTargets) (cs : List SymbolBySpecifier) (otherwise : Option UnresolvedEntry) (f : PathForest)
    (after : List SymbolBySpecifier) : Type 0 where
  all : (m : UnresolvedEntry) → Contains (leaves_outside_aliases routes.decl_targets f) (unresolved m)
      → ((otherwise ≡ Some m) × ((c : SymbolBySpecifier) → Contains cs c → is_visited after c ≡ true)) ⊎ IsNamedBy routes m after

no_definition : (x : DefinitionView) (m : UnresolvedEntry) → Contains (definition x ∷ []) (unresolved m) → ⊥
no_definition x m (zero, lt, e) = cc
no_definition x m (suc n, lt, e) = omega (arith, lt)

only_missing : (x m : UnresolvedEntry) → Contains (unresolved x ∷ []) (unresolved m) → x ≡ m
only_missing x m (zero, lt, e) = let a : x ≡ m = cc in a
only_missing x m (suc n, lt, e) = absurd (omega (arith, lt))

nothing : (routes : SearchTargets) (after : List SymbolBySpecifier) → AreNamed routes no_trees after
nothing routes after = record { all = λ m h. absurd (none_in (unresolved m) h) }

retained_named : {routes : SearchTargets} {m : UnresolvedEntry} {mid after : List SymbolBySpecifier} → IsNamedBy routes m mid
    → ((u : SymbolBySpecifier) → is_visited mid u ≡ true → is_visited after u ≡ true) → IsNamedBy routes m after
retained_named is retained = record {
  symbol = is.symbol;
  index = is.index;
  forward = is.forward;
  occurs = is.occurs;
  otherwise = is.otherwise;
  visited = λ c h. retained c (is.visited c h);
}

both : {routes : SearchTargets} {mid after : List SymbolBySpecifier} (f g : PathForest) → AreNamed routes f mid → AreNamed routes g after
    → ((u : SymbolBySpecifier) → is_visited mid u ≡ true → is_visited after u ≡ true) → AreNamed routes (joined_forests f g) after
both {routes = routes} f g x y retained = record {
  all = λ m h. elim (Contains-append_cases (leaves_outside_aliases routes.decl_targets f) (leaves_outside_aliases routes.decl_targets g) (unresolved m)
      (rw (outer-join routes.decl_targets f g) at h)) [
        | inl a ↦ retained_named (x.all m a) retained
        | inr a ↦ y.all m a
      ];
}

left_over : (routes : SearchTargets) (visited : List SymbolBySpecifier) (otherwise : Option UnresolvedEntry)
    → AreTried routes [] otherwise (forest_of_unresolved otherwise) visited
left_over routes visited None = record { all = λ m h. absurd (none_in (unresolved m) h) }
left_over routes visited (Some x) = record { all = λ m h. inl (ap Some (only_missing x m h), λ c q. absurd (omega (arith, q.1))) }

-- the candidates tried are those of the declaration
settled : {routes : SearchTargets} {f : PathForest} {after : List SymbolBySpecifier} (s : SymbolBySpecifier) (i : ℕ) (forward : ForwardTarget)
    → IsTargetOfNthDecl routes.decl_targets s i (forwards forward) → AreTried routes forward.candidates forward.otherwise f after
    → AreNamed routes (forest_below_link_unless_empty (link_head_of_forward s i forward) f) after
settled {routes = routes} {f = f} s i forward st x = record {
  all = λ m h. elim
      (x.all m (rw (outer-link_unless_empty routes.decl_targets (link_head_of_forward s i forward) f
      (alias_there routes.decl_targets s i (forwards forward) st)) at h)) [
        | inl p ↦ record { symbol = s; index = i; forward = forward; occurs = st; otherwise = p.0; visited = p.1 }
        | inr p ↦ p
      ];
}

-- after an alias there is nothing to prove
aliased : {routes : SearchTargets} {after : List SymbolBySpecifier} (s t : SymbolBySpecifier) (i : ℕ) (ps : List (List ℕ)) (f : PathForest)
    → IsTargetOfNthDecl routes.decl_targets s i (alias t ps) → AreNamed routes (forest_below_link_unless_empty (alias_link_head s i ps) f) after
aliased {routes = routes} s t i ps f st = record {
  all = λ m h.
      absurd (none_in (unresolved m)
      (rw (outer-alias routes.decl_targets (alias_link_head s i ps) f (alias_there routes.decl_targets s i (alias t ps) st)) at h));
}

module _ (routes : SearchTargets) (limit : ℕ) where
  mutual
    finds_named : {running : List DeclBySpecifier} {visited after : List SymbolBySpecifier} {s : SymbolBySpecifier} {f : PathForest}
        → IsOutcomeOfSymbolSearch routes limit running visited s f after → AreNamed routes f after
    finds_named (already_visited {visited = visited} e) = nothing routes visited
    finds_named (is_new {s = s} e x) = expands_named (whole routes s) x

    expands_named : {running : List DeclBySpecifier} {visited after : List SymbolBySpecifier} {s : SymbolBySpecifier} {i : ℕ} {xs : List DeclTargetView}
        {f : PathForest}
        → IsTail routes s i xs → IsOutcomeOfDeclListSearch routes limit running visited s i xs f after → AreNamed routes f after
    expands_named st (no_decl_left {visited = visited}) = nothing routes visited
    expands_named st (step {f = f} {rest = g} x y) =
        both f g (follows_named (here st) x) (expands_named (later st) y) (expands_covers routes limit y).0.retained

    follows_named : {running : List DeclBySpecifier} {visited after : List SymbolBySpecifier} {s : SymbolBySpecifier} {i : ℕ} {decl_target : DeclTargetView}
        {f : PathForest}
        → IsTargetOfNthDecl routes.decl_targets s i decl_target → IsOutcomeOfDeclSearch routes limit running visited s i decl_target f after
        → AreNamed routes f after
    follows_named st (decl_is_definition {s = s} {i = i} {range = range} {star = star}) =
        record { all = λ m h. absurd (no_definition (definition_of_decl s i range star) m h) }
    follows_named st (decl_forwards {s = s} {i = i} {forward = forward} x) = settled s i forward st (tries_named x)
    follows_named st (by_alias_being_resolved {visited = visited} e) = nothing routes visited
    follows_named st (via_alias {s = s} {t = t} {i = i} {ps = ps} {f = f} e few fits x) = aliased s t i ps f st

    tries_named : {running : List DeclBySpecifier} {visited after : List SymbolBySpecifier} {cs : List SymbolBySpecifier} {otherwise : Option UnresolvedEntry}
        {f : PathForest}
        → IsOutcomeOfCandidateSearch routes limit running visited cs otherwise f after → AreTried routes cs otherwise f after
    tries_named (no_candidate_left {visited = visited} {otherwise = otherwise}) = left_over routes visited otherwise
    tries_named (first_candidate_with_paths x) = record { all = λ m h. inr ((finds_named x).all m h) }
    tries_named (candidate_has_no_path {after = after} {c = c} {cs = cs} x y) = record {
      all = λ m h. elim ((tries_named y).all m h) [
        | inl p ↦ inl (p.0, tried p.1 ((tries_covers routes limit y).0.retained c (finds_covers routes limit x).1))
        | inr p ↦ inr p
      ];
    }
      where
        tried : ((d : SymbolBySpecifier) → Contains cs d → is_visited after d ≡ true) → is_visited after c ≡ true → (d : SymbolBySpecifier)
            → Contains (c ∷ cs) d
            → is_visited after d ≡ true
        tried h m d (zero, lt, e) = subst (λ z. is_visited after z ≡ true) e m
        tried h m d (suc k, lt, e) = h d (k, omega (arith, lt), e)

-- ---- in a graph an unresolved part is that of an import, whose candidates are those along `export *`

abbrev IsOfPart : Rules → GraphView → DeclTargetView → Type 0
IsOfPart rules graph decl_target = (forward : ForwardTarget) (specifier name : List ℕ) (parts : List (List ℕ)) → decl_target ≡ forwards forward
    → forward.otherwise
    ≡ Some (record { specifier = specifier; reason = no_part name; parts = parts })
    → forward.candidates ≡ re_exported_symbols_by_rules rules graph specifier name

defined_part : (rules : Rules) (graph : GraphView) (range : SourceRange) (star : _) → IsOfPart rules graph (defines range star)
defined_part rules graph range star forward specifier name parts e o = absurd cc

led_part : (rules : Rules) (graph : GraphView) (forward : ForwardTarget) → ((specifier name : List ℕ) (parts : List (List ℕ)) → forward.otherwise
    ≡ Some (record { specifier = specifier; reason = no_part name; parts = parts })
    → forward.candidates ≡ re_exported_symbols_by_rules rules graph specifier name) → IsOfPart rules graph (forwards forward)
led_part rules graph forward h other specifier name parts e o =
    let same : forward ≡ other = decl_targets_same forward other e in
    subst (λ (w : ForwardTarget). w.candidates ≡ re_exported_symbols_by_rules rules graph specifier name) same
    (h specifier name parts (ap (λ (w : ForwardTarget). w.otherwise) same ∙ o))

-- the unresolved entry of a part
abbrev entry : List ℕ → List ℕ → List (List ℕ) → UnresolvedEntry
entry specifier name parts = record { specifier = specifier; reason = no_part name; parts = parts }

same_reason : (a b : UnresolvedEntry) → Some a ≡ Some b → a.reason ≡ b.reason
same_reason a b e = ap (λ (m : UnresolvedEntry). m.reason) (same_Some a b e)

no_id : (id : IdView) (name : List ℕ) → no_symbol id ≡ no_part name → ⊥
no_id id name e = cc

no_text : (specifier_text name : List ℕ) → no_module specifier_text ≡ no_part name → ⊥
no_text specifier_text name e = cc

same_name : (a b : List ℕ) → no_part a ≡ no_part b → a ≡ b
same_name a b e = cc

target_part : (rules : Rules) (graph : GraphView) (s : SymbolBySpecifier) (t : Option SymbolId)
    → IsOfPart rules graph (forwards (forward_target_within_module s t))
target_part rules graph s None = led_part rules graph (forward_target_within_module s None) (λ specifier name parts o. absurd cc)
target_part rules graph s (Some t) = led_part rules graph (forward_target_within_module s (Some t)) (λ specifier name parts o. absurd cc)

aliased_part : (rules : Rules) (graph : GraphView) (t : SymbolBySpecifier) (ps : List (List ℕ)) → IsOfPart rules graph (alias t ps)
aliased_part rules graph t ps forward specifier name parts e o = absurd cc

alias_part : (rules : Rules) (graph : GraphView) (s : SymbolBySpecifier) (id : IdView) (ps : List (List ℕ)) (t : Option SymbolId)
    → IsOfPart rules graph (alias_target s id ps t)
alias_part rules graph s id ps None = led_part rules graph (forward_target_to_unresolved s ps
    (record { specifier = s.specifier; reason = no_symbol id; parts = ps })) (λ specifier name parts o. absurd (no_id id name
    (same_reason (record { specifier = s.specifier; reason = no_symbol id; parts = ps }) (entry specifier name parts) o)))
alias_part rules graph s id ps (Some t) = aliased_part rules graph (record { specifier = s.specifier; number = t }) ps

into_part : (rules : Rules) (graph : GraphView) (s : SymbolBySpecifier) (n k : List ℕ) (explicit : Option SymbolId)
    → IsOfPart rules graph (forwards (forward_target_into_module rules graph s n k explicit))
into_part rules graph s n k (Some u) = led_part rules graph (forward_target_into_module rules graph s n k (Some u)) (λ specifier name parts o. absurd cc)
into_part rules graph s n k None = led_part rules graph (forward_target_into_module rules graph s n k None) (λ specifier name parts o.
    let same = same_Some (entry k n []) (entry specifier name parts) o in
    let at : k ≡ specifier = ap (λ (m : UnresolvedEntry). m.specifier) same in
    let called : n ≡ name = same_name n name (ap (λ (m : UnresolvedEntry). m.reason) same) in
    λ i. re_exported_symbols_by_rules rules graph (at i) (called i))

import_part : (rules : Rules) (graph : GraphView) (s : SymbolBySpecifier) (n specifier_text : List ℕ) (k : Option (List ℕ))
    → IsOfPart rules graph (forwards (forward_target_of_import rules graph s n specifier_text k))
import_part rules graph s n specifier_text None = led_part rules graph (forward_target_of_import rules graph s n specifier_text None) (λ specifier name parts o.
    absurd (no_text specifier_text name (same_reason (record { specifier = s.specifier; reason = no_module specifier_text; parts = [] })
    (entry specifier name parts) o)))
import_part rules graph s n specifier_text (Some k) = into_part rules graph s n k (explicit_export graph k n)

decl_target_part : (rules : Rules) (graph : GraphView) (s : SymbolBySpecifier) (range : SourceRange) (kind : DeclKindView)
    → IsOfPart rules graph (target_of_decl rules graph s range kind)
decl_target_part rules graph s range (defines_node x) = defined_part rules graph range None
decl_target_part rules graph s range (file_ref all_names specifier_text) =
    defined_part rules graph range (Some (record { name = all_names; specifier = specifier_text }))
decl_target_part rules graph s range (file_ref (one_name name) specifier_text) =
    import_part rules graph s name specifier_text (resolve_specifier graph s.specifier specifier_text)
decl_target_part rules graph s range (target id) = target_part rules graph s (symbol_of_id graph s.specifier id)
decl_target_part rules graph s range (qualified_target id parts) = alias_part rules graph s id parts (symbol_of_id graph s.specifier id)

at_index : (rules : Rules) (graph : GraphView) (s : SymbolBySpecifier) (decls : List Declaration) (i : ℕ) (decl_target : DeclTargetView)
    → slice_get (map (λ (decl : Declaration). target_of_decl rules graph s decl.range decl.kind) decls) i ≡ Some decl_target → IsOfPart rules graph decl_target
at_index rules graph s [] i decl_target e = absurd cc
at_index rules graph s (decl ∷ decls) zero decl_target e = subst (IsOfPart rules graph)
    (same_Some (target_of_decl rules graph s decl.range decl.kind) decl_target e) (decl_target_part rules graph s decl.range decl.kind)
at_index rules graph s (decl ∷ decls) (suc i) decl_target e = at_index rules graph s decls i decl_target e

pub part_last : (rules : Rules) (graph : GraphView) (limit : ℕ) {running : List DeclBySpecifier} {after : List SymbolBySpecifier} {start : SymbolBySpecifier}
    {f : PathForest}
    → IsOutcomeOfSymbolSearch (search_targets_of rules graph) limit running [] start f after → HasCandidateLeavesIfPartUnresolved rules graph f
    (leaves_of_forest f)
part_last rules graph limit {after = after} x specifier name parts h c has y near =
    let view = (finds_named (search_targets_of rules graph) limit x).all (record { specifier = specifier; reason = no_part name; parts = parts }) h in
    let same = at_index rules graph view.symbol (declarations_of graph view.symbol) view.index (forwards view.forward) view.occurs view.forward specifier name
    parts refl view.otherwise in
    visited_given x c (view.visited c (subst (λ cs. Contains cs c) (sym same) has)) y near
