-- The contents of the tables after one more change.
use Rattle.std.proofs.Common.{◌≡◌, ℕ, Bool, true, false, cond, List, [], ◌∷◌, ◌++◌, Option, None, Some, refl, ◌∙◌, arith}
use Rattle.std.specs.Prelude.{◌==◌, ◌≢◌}
use Rattle.std.specs.List.{filter_map, last_or}
use Rattle.std.specs.Str.{bytes_eq}
use Rattle.std.proofs.lemmas.Bool.Decides.{nat_tests}
use Rattle.std.proofs.lemmas.List.{append-nil}
use Rattle.std.proofs.lemmas.List.Elements.{filter_map-append}
use Rattle.std.proofs.lemmas.List.Sums.{fold-append}
use Rattle.indexmap.specs.IndexMap.{insert_entry}
use Rattle.symbols_ast.specs.declared.ids.SymbolId.{SymbolId}
use Rattle.symbols_ast.specs.Ids.{IdView}
use Rattle.symbols_table.specs.DeclViews.{Declaration, append_decl_with_overload_flag}
use Rattle.symbols_table.specs.Changes.{Change, ExportStarStatement, is_same_symbol_id, some_if, parent_of_symbol_made_by, decl_added_by, export_inserted_by}
use Rattle.symbols_table.specs.Changes.{child_added_by, member_added_by, symbol_bound_to_ident_by, export_star_added_by, append_if_absent}
use Rattle.symbols_table.specs.Changes.{parents_after_changes, decls_after_changes, exports_after_changes, children_after_changes, members_after_changes}
use Rattle.symbols_table.specs.Changes.{export_stars_after_changes, symbol_of_ident_after_changes}

-- An element that the filter drops adds nothing.
pub filter_map-out : {X Y : Type 0} (h : X → Option Y) (xs : List X) (x : X) → h x ≡ None → filter_map h (xs ++ x ∷ []) ≡ filter_map h xs
filter_map-out h xs x e = filter_map-append h xs (x ∷ []) ∙ rw e (append-nil (filter_map h xs))

-- An element that the filter takes comes last.
pub filter_map-in : {X Y : Type 0} (h : X → Option Y) (xs : List X) (x : X) (y : Y) → h x ≡ Some y → filter_map h (xs ++ x ∷ []) ≡ filter_map h xs ++ y ∷ []
filter_map-in h xs x y e = filter_map-append h xs (x ∷ []) ∙ rw e refl

-- A test for a symbol takes that symbol, and no other.
pub only_same : {A : Type 0} (s : SymbolId) (x : A) → some_if (is_same_symbol_id s s) x ≡ Some x
only_same s x = let e : (s.0 == s.0) ≡ true = grind (arith, nat_tests) in rw e refl

pub only_other : {A : Type 0} (t s : SymbolId) (x : A) → s.0 ≢ t.0 → some_if (is_same_symbol_id t s) x ≡ None
only_other t s x other = let e : (t.0 == s.0) ≡ false = grind (arith, nat_tests) in rw e refl

module _ (changes : List Change) (change : Change) where
  pub parents_after-out : parent_of_symbol_made_by change ≡ None → parents_after_changes (changes ++ change ∷ []) ≡ parents_after_changes changes
  unfolding parents_after_changes
  parents_after-out out = filter_map-out parent_of_symbol_made_by changes change out

  pub parents_after-in : (parent : Option SymbolId) → parent_of_symbol_made_by change ≡ Some parent
      → parents_after_changes (changes ++ change ∷ []) ≡ parents_after_changes changes ++ parent ∷ []
  unfolding parents_after_changes
  parents_after-in parent is = filter_map-in parent_of_symbol_made_by changes change parent is

  pub decls_after-out : (s : SymbolId) → decl_added_by s change ≡ None → decls_after_changes (changes ++ change ∷ []) s ≡ decls_after_changes changes s
  unfolding decls_after_changes
  decls_after-out s out = rw (filter_map-out (decl_added_by s) changes change out) refl

  pub decls_after-in : (s : SymbolId) (decl : Declaration) → decl_added_by s change ≡ Some decl
      → decls_after_changes (changes ++ change ∷ []) s ≡ append_decl_with_overload_flag (decls_after_changes changes s) decl
  unfolding decls_after_changes
  decls_after-in s decl is =
      rw (filter_map-in (decl_added_by s) changes change decl is) (fold-append append_decl_with_overload_flag [] (filter_map (decl_added_by s) changes)
      (decl ∷ []))

  pub exports_after-out : (s : SymbolId) → export_inserted_by s change ≡ None → exports_after_changes (changes ++ change ∷ []) s
      ≡ exports_after_changes changes s
  unfolding exports_after_changes
  exports_after-out s out = rw (filter_map-out (export_inserted_by s) changes change out) refl

  pub exports_after-in : (s : SymbolId) (name : List ℕ) (x : SymbolId) → export_inserted_by s change ≡ Some (name, x)
      → exports_after_changes (changes ++ change ∷ []) s ≡ insert_entry bytes_eq (exports_after_changes changes s) name x
  unfolding exports_after_changes
  exports_after-in s name x is =
      rw (filter_map-in (export_inserted_by s) changes change (name, x) is)
      (fold-append (λ (done : List (List ℕ × SymbolId)) (entry : List ℕ × SymbolId). insert_entry bytes_eq done entry.0 entry.1) []
      (filter_map (export_inserted_by s) changes) ((name, x) ∷ []))

  pub children_after-out : (s : SymbolId) → child_added_by s change ≡ None → children_after_changes (changes ++ change ∷ []) s
      ≡ children_after_changes changes s
  unfolding children_after_changes
  children_after-out s out = rw (filter_map-out (child_added_by s) changes change out) refl

  pub children_after-in : (s x : SymbolId) → child_added_by s change ≡ Some x
      → children_after_changes (changes ++ change ∷ []) s ≡ append_if_absent (children_after_changes changes s) x
  unfolding children_after_changes
  children_after-in s x is =
      rw (filter_map-in (child_added_by s) changes change x is) (fold-append append_if_absent [] (filter_map (child_added_by s) changes) (x ∷ []))

  pub members_after-out : (s : SymbolId) → member_added_by s change ≡ None → members_after_changes (changes ++ change ∷ []) s ≡ members_after_changes changes s
  unfolding members_after_changes
  members_after-out s out = rw (filter_map-out (member_added_by s) changes change out) refl

  pub members_after-in : (s x : SymbolId) → member_added_by s change ≡ Some x
      → members_after_changes (changes ++ change ∷ []) s ≡ append_if_absent (members_after_changes changes s) x
  unfolding members_after_changes
  members_after-in s x is =
      rw (filter_map-in (member_added_by s) changes change x is) (fold-append append_if_absent [] (filter_map (member_added_by s) changes) (x ∷ []))

  pub export_stars_after-out : export_star_added_by change ≡ None → export_stars_after_changes (changes ++ change ∷ []) ≡ export_stars_after_changes changes
  unfolding export_stars_after_changes
  export_stars_after-out out = filter_map-out export_star_added_by changes change out

  pub export_stars_after-in : (star : ExportStarStatement) → export_star_added_by change ≡ Some star → export_stars_after_changes (changes ++ change ∷ [])
      ≡ export_stars_after_changes changes
      ++ star ∷ []
  unfolding export_stars_after_changes
  export_stars_after-in star is = filter_map-in export_star_added_by changes change star is

  pub symbol_of_ident_after_changes-out : (id : IdView) → symbol_bound_to_ident_by id change ≡ None
      → symbol_of_ident_after_changes (changes ++ change ∷ []) id ≡ symbol_of_ident_after_changes changes id
  unfolding symbol_of_ident_after_changes
  symbol_of_ident_after_changes-out id out = rw (filter_map-out (symbol_bound_to_ident_by id) changes change out) refl

last_or-push : {A : Type 0} (o : Option A) (xs : List A) (x : A) → last_or o (xs ++ x ∷ []) ≡ Some x
last_or-push o [] x = refl
last_or-push o (y ∷ ys) x = last_or-push (Some y) ys x

-- After a binding, that identifier is bound to its symbol, and others are bound as before.
pub symbol_of_ident_after_changes-maps : (changes : List Change) (change : Change) (id : IdView) (same : Bool) (x : SymbolId)
    → symbol_bound_to_ident_by id change ≡ some_if same x
    → symbol_of_ident_after_changes (changes ++ change ∷ []) id ≡ cond same (Some x) (symbol_of_ident_after_changes changes id)
unfolding symbol_of_ident_after_changes
symbol_of_ident_after_changes-maps changes change id true x is =
    rw (filter_map-in (symbol_bound_to_ident_by id) changes change x is) (last_or-push None (filter_map (symbol_bound_to_ident_by id) changes) x)
symbol_of_ident_after_changes-maps changes change id false x is = rw (filter_map-out (symbol_bound_to_ident_by id) changes change is) refl
