-- The changes of a tree's events concern nodes of the tree, and so do the resulting declarations and `export *` statements.
use Rattle.std.proofs.Common.{ℕ, Bool, true, false, if◌then◌else◌, List, [], ◌∷◌, ◌++◌, All, Option, Some, None, sym, subst}
use Rattle.std.specs.Prelude.{fold}
use Rattle.std.specs.List.{filter_map, cons_option}
use Rattle.std.proofs.lemmas.List.Elements.{All-nil, All-cons, All-append}
use Rattle.symbols_ast.specs.declared.tree.arena.Tree.{Tree}
use Rattle.symbols_ast.specs.declared.ids.SymbolId.{SymbolId}
use Rattle.symbols_table.specs.DeclViews.{Declaration, is_definition, decl_name, append_decl_with_overload_flag, last_decl, gets_overload_flag_after_decl}
use Rattle.symbols_table.specs.Changes.{Change, adds_symbol, adds_decl, exports, adds_child, adds_member, maps, re_exports_all, some_if, is_same_symbol_id}
use Rattle.symbols_table.specs.Changes.{decl_added_by, export_star_added_by, decls_after_changes, export_stars_after_changes, symbol_of_ident_after_changes}
use Rattle.symbols_table.specs.Changes.{exported_symbol_after_changes, has_function_decl}
use Rattle.symbols_table.specs.Events.{DeclarationEvent, begins, declare, declare_alias, declare_unnamed, default, binds, member, expando, export, child, star}
use Rattle.symbols_table.specs.Events.{EventEffect, empty_effect, next_symbol_id, new_symbol_effect, effect_of_redeclaring_or, effect_of_existing_symbol_or}
use Rattle.symbols_table.specs.Events.{effect_if_symbol, new_member_changes, find_member_symbol, member_effect, declare_effect}
use Rattle.symbols_table.specs.Events.{declare_alias_unless_bound_effect, default_export_effect, default_export_name, expando_effect, effect_of_event}
use Rattle.symbols_table.specs.Events.{changes_of_effects, symbol_of_event_at, effects_after_events, changes_of_events}
use Rattle.symbols_table.specs.Laws.{IsDeclaredInTree, IsExportStarInTree}
use Rattle.symbols_table.proofs.Inside.{All-head, All-tail}
use Rattle.symbols_table.proofs.Rows.{changes_of_effects-push}
use Rattle.symbols_table.proofs.EventsOfTree.{IsEventOf, AreInTree}

-- A declaration or an `export *` of a change is of the tree.
abbrev pub IsChangeOf : Tree → Change → Type 0
IsChangeOf tree (adds_decl _ decl) = IsDeclaredInTree tree decl
IsChangeOf tree (re_exports_all statement) = IsExportStarInTree tree statement
IsChangeOf tree (adds_symbol _) = Unit {0}
IsChangeOf tree (exports _ _ _) = Unit {0}
IsChangeOf tree (adds_child _ _) = Unit {0}
IsChangeOf tree (adds_member _ _) = Unit {0}
IsChangeOf tree (maps _ _) = Unit {0}

module _ (tree : Tree) where
  abbrev AreChangesOf : List Change → Type 0
  AreChangesOf changes = All (IsChangeOf tree) changes

  none_of : AreChangesOf []
  none_of = All-nil (IsChangeOf tree)

  first_of : (change : Change) (changes : List Change) → IsChangeOf tree change → AreChangesOf changes → AreChangesOf (change ∷ changes)
  first_of change changes is rest = All-cons (IsChangeOf tree) change changes is rest

  one_of : (change : Change) → IsChangeOf tree change → AreChangesOf (change ∷ [])
  one_of change is = first_of change [] is none_of

  -- ---- the row of an event

  new_of : (before : List Change) (parent : Option SymbolId) (decl : Declaration) (more : SymbolId → List Change) → IsDeclaredInTree tree decl
      → ((s : SymbolId) → AreChangesOf (more s)) → AreChangesOf (new_symbol_effect before parent decl more).changes
  new_of before parent decl more is rest =
      let s = next_symbol_id before in
      first_of (adds_symbol parent) (adds_decl s decl ∷ more s) tt (first_of (adds_decl s decl) (more s) is (rest s))

  found_of : (found : Option SymbolId) (decl : Declaration) (row : EventEffect) → IsDeclaredInTree tree decl → AreChangesOf row.changes
      → AreChangesOf (effect_of_redeclaring_or found decl row).changes
  found_of None decl row is rest = rest
  found_of (Some s) decl row is rest = one_of (adds_decl s decl) is

  known_of : (found : Option SymbolId) (row : EventEffect) → AreChangesOf row.changes → AreChangesOf (effect_of_existing_symbol_or found row).changes
  known_of None row rest = rest
  known_of (Some s) row rest = none_of

  with_of : (found : Option SymbolId) (row : SymbolId → EventEffect) → ((s : SymbolId) → AreChangesOf (row s).changes)
      → AreChangesOf (effect_if_symbol found row).changes
  with_of None row rest = none_of
  with_of (Some s) row rest = rest s

  export_of : (holder s : SymbolId) (is_child : Bool)
      → AreChangesOf (exports holder default_export_name s ∷ (if is_child then adds_child holder s ∷ [] else []))
  export_of holder s true = first_of (exports holder default_export_name s) (adds_child holder s ∷ []) tt (one_of (adds_child holder s) tt)
  export_of holder s false = one_of (exports holder default_export_name s) tt

  index_of : (holder : SymbolId) (is_static : Bool) (name : Option (List ℕ)) (s : SymbolId) → AreChangesOf (new_member_changes holder is_static name s)
  index_of holder true None s = one_of (adds_child holder s) tt
  index_of holder true (Some name) s = first_of (exports holder name s) (adds_child holder s ∷ []) tt (one_of (adds_child holder s) tt)
  index_of holder false name s = one_of (adds_member holder s) tt

  module _ (before : List Change) where
    member_of : (holder : SymbolId) (decl : Declaration) (is_static : Bool) → IsDeclaredInTree tree decl
        → AreChangesOf (member_effect before holder decl is_static).changes
    member_of holder decl is_static is =
        let name = decl_name decl in
        found_of (find_member_symbol before holder is_static name) decl (new_symbol_effect before (Some holder) decl (new_member_changes holder is_static name))
        is
        (new_of before (Some holder) decl (new_member_changes holder is_static name) is (index_of holder is_static name))

    default_of : (holder : SymbolId) (decl : Declaration) → IsDeclaredInTree tree decl → AreChangesOf (default_export_effect before holder decl).changes
    default_of holder decl is =
        let more : SymbolId → List Change = λ s. exports holder default_export_name s ∷ (if is_definition decl.kind then adds_child holder s ∷ [] else []) in
        found_of (exported_symbol_after_changes before holder default_export_name) decl (new_symbol_effect before (Some holder) decl more) is
        (new_of before (Some holder) decl more is (λ s. export_of holder s (is_definition decl.kind)))

    expando_of : (found : Option SymbolId) (decl : Declaration) → IsDeclaredInTree tree decl → AreChangesOf (expando_effect before found decl).changes
    expando_of None decl is = none_of
    expando_of (Some s) decl is = by (has_function_decl before s)
      where
        by : (is_function : Bool) → AreChangesOf (if is_function then member_effect before s decl true else empty_effect).changes
        by true = member_of s decl true is
        by false = none_of

    row_is_of : (at : ℕ → Option SymbolId) (event : DeclarationEvent) → IsEventOf tree event → AreChangesOf (effect_of_event before at event).changes
    row_is_of at (begins decl) is = new_of before None decl (λ _. []) is (λ s. none_of)
    row_is_of at (declare holder id decl) is = with_of (at holder) (λ h. declare_effect before h id decl) (λ h.
        found_of (symbol_of_ident_after_changes before id) decl (new_symbol_effect before (Some h) decl (λ s. maps id s ∷ [])) is
        (new_of before (Some h) decl (λ s. maps id s ∷ []) is (λ s. one_of (maps id s) tt)))
    row_is_of at (declare_alias holder id decl) is = with_of (at holder) (λ h. declare_alias_unless_bound_effect before h id decl) (λ h.
        known_of (symbol_of_ident_after_changes before id) (new_symbol_effect before (Some h) decl (λ s. maps id s ∷ []))
        (new_of before (Some h) decl (λ s. maps id s ∷ []) is (λ s. one_of (maps id s) tt)))
    row_is_of at (declare_unnamed holder decl) is =
        with_of (at holder) (λ h. new_symbol_effect before (Some h) decl (λ _. [])) (λ h. new_of before (Some h) decl (λ _. []) is (λ s. none_of))
    row_is_of at (default holder decl) is = with_of (at holder) (λ h. default_export_effect before h decl) (λ h. default_of h decl is)
    row_is_of at (binds id of) is = with_of (at of) _ (λ s. one_of (maps id s) tt)
    row_is_of at (member holder decl is_static) is = with_of (at holder) (λ h. member_effect before h decl is_static) (λ h. member_of h decl is_static is)
    row_is_of at (expando id decl) is = expando_of (symbol_of_ident_after_changes before id) decl is
    row_is_of at (export holder name of) is = with_of (at holder) _ (λ h. with_of (at of) _ (λ s. one_of (exports h name s) tt))
    row_is_of at (child holder of) is = with_of (at holder) _ (λ h. with_of (at of) _ (λ s. one_of (adds_child h s) tt))
    row_is_of at (star statement) is = one_of (re_exports_all statement) is

  -- ---- all rows

  rows_are_of : (rows : List EventEffect) (events : List DeclarationEvent) → AreChangesOf (changes_of_effects rows) → AreInTree tree events
      → AreChangesOf (changes_of_effects (effects_after_events rows events))
  unfolding effects_after_events
  rows_are_of rows [] before local_name_bytes = before
  rows_are_of rows (e ∷ es) before local_name_bytes =
      let row = effect_of_event (changes_of_effects rows) (symbol_of_event_at rows) e in
      let here : AreChangesOf row.changes = row_is_of (changes_of_effects rows) (symbol_of_event_at rows) e (All-head (IsEventOf tree) e es local_name_bytes) in
      let all : AreChangesOf (changes_of_effects (rows ++ row ∷ [])) =
      subst (All (IsChangeOf tree)) (sym (changes_of_effects-push rows row)) (All-append (IsChangeOf tree) (changes_of_effects rows) row.changes before here) in
      rows_are_of (rows ++ row ∷ []) es all (All-tail (IsEventOf tree) e es local_name_bytes)

  pub changes_are_of : (events : List DeclarationEvent) → AreInTree tree events → AreChangesOf (changes_of_events events)
  unfolding changes_of_effects
  changes_are_of events local_name_bytes = rows_are_of [] events none_of local_name_bytes

  -- ---- the resulting declarations and `export *` statements

  decls_are_of : (s : SymbolId) (decls : List Declaration) (changes : List Change) → All (IsDeclaredInTree tree) decls → AreChangesOf changes
      → All (IsDeclaredInTree tree) (fold append_decl_with_overload_flag decls (filter_map (decl_added_by s) changes))
  decls_are_of s decls [] before of_tree = before
  decls_are_of s decls (change ∷ changes) before of_tree = by change (All-head (IsChangeOf tree) change changes of_tree)
      (λ more local_name_bytes. decls_are_of s more changes local_name_bytes (All-tail (IsChangeOf tree) change changes of_tree))
    where
      consumed : (b : Bool) (decl : Declaration) → IsDeclaredInTree tree decl
          → ((more : List Declaration) → All (IsDeclaredInTree tree) more
          → All (IsDeclaredInTree tree) (fold append_decl_with_overload_flag more (filter_map (decl_added_by s) changes)))
          → All (IsDeclaredInTree tree) (fold append_decl_with_overload_flag decls (cons_option (some_if b decl) (filter_map (decl_added_by s) changes)))
      consumed true decl is rest =
          let flagged : Declaration = record decl { has_overloads = gets_overload_flag_after_decl (last_decl decls) decl } in
          rest (decls ++ flagged ∷ []) (All-append (IsDeclaredInTree tree) decls (flagged ∷ []) before
          (All-cons (IsDeclaredInTree tree) flagged [] is (All-nil (IsDeclaredInTree tree))))
      consumed false decl is rest = rest decls before

      by : (change : Change) → IsChangeOf tree change
          → ((more : List Declaration) → All (IsDeclaredInTree tree) more
          → All (IsDeclaredInTree tree) (fold append_decl_with_overload_flag more (filter_map (decl_added_by s) changes)))
          → All (IsDeclaredInTree tree) (fold append_decl_with_overload_flag decls (filter_map (decl_added_by s) (change ∷ changes)))
      by (adds_decl t decl) is rest = consumed (is_same_symbol_id t s) decl is rest
      by (adds_symbol _) is rest = rest decls before
      by (exports _ _ _) is rest = rest decls before
      by (adds_child _ _) is rest = rest decls before
      by (adds_member _ _) is rest = rest decls before
      by (maps _ _) is rest = rest decls before
      by (re_exports_all _) is rest = rest decls before

  pub decls_after-of : (changes : List Change) (s : SymbolId) → AreChangesOf changes → All (IsDeclaredInTree tree) (decls_after_changes changes s)
  unfolding decls_after_changes
  decls_after-of changes s of_tree = decls_are_of s [] changes (All-nil (IsDeclaredInTree tree)) of_tree

  pub export_stars_after-of : (changes : List Change) → AreChangesOf changes → All (IsExportStarInTree tree) (export_stars_after_changes changes)
  unfolding export_stars_after_changes
  export_stars_after-of [] of_tree = All-nil (IsExportStarInTree tree)
  export_stars_after-of (change ∷ changes) of_tree =
      by change (All-head (IsChangeOf tree) change changes of_tree) (export_stars_after-of changes (All-tail (IsChangeOf tree) change changes of_tree))
    where
      by : (change : Change) → IsChangeOf tree change → All (IsExportStarInTree tree) (filter_map export_star_added_by changes)
          → All (IsExportStarInTree tree) (filter_map export_star_added_by (change ∷ changes))
      by (re_exports_all statement) is rest = All-cons (IsExportStarInTree tree) statement (filter_map export_star_added_by changes) is rest
      by (adds_symbol _) is rest = rest
      by (adds_decl _ _) is rest = rest
      by (exports _ _ _) is rest = rest
      by (adds_child _ _) is rest = rest
      by (adds_member _ _) is rest = rest
      by (maps _ _) is rest = rest
