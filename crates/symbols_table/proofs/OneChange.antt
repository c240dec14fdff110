-- A builder whose table has one more change.
use Rattle.std.proofs.Common.{◌≡◌, ℕ, ◌<◌, ◌+◌, ◌≤◌, ◌⊎◌, inl, inr, cond, List, [], ◌∷◌, ◌++◌, length}
use Rattle.std.proofs.Common.{get_or, set, map, Option, None, Some, refl, sym, ◌∙◌, ap, subst, arith}
use Rattle.std.specs.Prelude.{◌≢◌, All, slice_get}
use Rattle.std.specs.Borrow.{Bor}
use Rattle.std.specs.Map.{lookup}
use Rattle.std.specs.Str.{bytes_eq}
use Rattle.std.specs.Cow.{cow_str_bytes}
use Rattle.std.specs.Option.{option_or}
use Rattle.std.proofs.lemmas.Bool.{cases_eq, cases_lt}
use Rattle.std.proofs.lemmas.List.{map-append, length-append, length-set, length_push, get_or-set_same}
use Rattle.std.proofs.lemmas.List.{get_or-set_other, get_or_append_left, get_or_push, get_or_default}
use Rattle.std.proofs.lemmas.List.Elements.{All-push}
use Rattle.std.proofs.lemmas.Option.{slice_get-get_or, slice_get_within, get_or_from_slice_get}
use Rattle.indexmap.specs.IndexMap.{insert_entry}
use Rattle.symbols_ast.specs.declared.tree.arena.Id.{Id}
use Rattle.symbols_ast.specs.declared.ids.ModuleId.{ModuleId}
use Rattle.symbols_ast.specs.declared.ids.SymbolId.{SymbolId}
use Rattle.symbols_ast.specs.Ids.{IdView, is_same_id}
use Rattle.symbols_table.specs.declared.decl.symbol.Symbol.{Symbol}
use Rattle.symbols_table.specs.declared.builder.names.LocalName.{LocalName}
use Rattle.symbols_table.specs.declared.builder.table.ModuleBuilder.{ModuleBuilder}
use Rattle.symbols_table.specs.DeclViews.{Declaration, decl_view, append_decl_with_overload_flag, gets_overload_flag_after_decl, last_decl}
use Rattle.symbols_table.specs.TableViews.{SymbolMapsView, empty_symbol_maps}
use Rattle.symbols_table.specs.Changes.{Change, ExportStarStatement, adds_symbol, adds_decl, exports, adds_child, adds_member, maps, re_exports_all}
use Rattle.symbols_table.specs.Changes.{is_same_symbol_id, export_star_added_by, export_stars_after_changes, first_child_named, first_member_named}
use Rattle.symbols_table.specs.Changes.{parent_of_symbol_made_by, decl_added_by, export_inserted_by, child_added_by, member_added_by, symbol_bound_to_ident_by}
use Rattle.symbols_table.specs.Changes.{parents_after_changes, decls_after_changes, exports_after_changes, children_after_changes, members_after_changes}
use Rattle.symbols_table.specs.Changes.{symbol_of_ident_after_changes, append_if_absent}
use Rattle.symbols_table.specs.declared.info.re_exports.StarStatement.{StarStatement}
use Rattle.symbols_table.specs.ModuleViews.{identifier_bindings_view, export_star_view}
use Rattle.symbols_table.specs.inner.Symbols.{IsSymbolOfChanges}
use Rattle.symbols_table.specs.Laws.{IsLawfulParent}
use Rattle.symbols_table.specs.inner.Tables.{NamesSymbolsBelow, DoesNotBindOrExportModuleSymbol, HasNoChanges, HasAppliedChanges, is_same_local_name}
use Rattle.symbols_table.specs.inner.Tables.{symbol_by_local_name}
use Rattle.symbols_table.proofs.Named.{IsQuiet, quiet, quiet_decl, child_quiet, member_quiet, retained_named}
use Rattle.symbols_table.proofs.Named.{name_out, if_named, child_added, member_added, child_made, member_made}
use Rattle.symbols_table.proofs.OneMore.{only_same, only_other, parents_after-out, parents_after-in, decls_after-out, decls_after-in}
use Rattle.symbols_table.proofs.OneMore.{exports_after-out, exports_after-in, children_after-out, children_after-in, members_after-out}
use Rattle.symbols_table.proofs.OneMore.{members_after-in, export_stars_after-out, export_stars_after-in, symbol_of_ident_after_changes-out}
use Rattle.symbols_table.proofs.OneMore.{symbol_of_ident_after_changes-maps}

-- Pushing an element leaves the others at their indices.
slice_get-push : {X : Type 0} (xs : List X) (y : X) (i : ℕ) (x : X) → slice_get xs i ≡ Some x → slice_get (xs ++ y ∷ []) i ≡ Some x
slice_get-push xs y i x at =
    let within = slice_get_within xs i x at in
    let longer : i < length (xs ++ y ∷ []) = omega (arith, length_push xs y) in
    slice_get-get_or (xs ++ y ∷ []) i x longer ∙ ap Some (get_or_append_left xs (y ∷ []) x i within ∙ get_or_from_slice_get xs i x x at)

slice_get-push_last : {X : Type 0} (xs : List X) (y : X) (i : ℕ) → length xs ≡ i → slice_get (xs ++ y ∷ []) i ≡ Some y
slice_get-push_last xs y i last =
    let within : i < length (xs ++ y ∷ []) = omega (arith, length_push xs y) in
    slice_get-get_or (xs ++ y ∷ []) i y within ∙ ap Some (get_or_push xs y y i last)

pub read_back : {X : Type 0} (xs : List X) (i : ℕ) (x d : X) → i < length xs → x ≡ get_or xs i x → get_or xs i d ≡ x
read_back xs i x d lt e = get_or_default xs i d x lt ∙ sym e

fits_one_more : (count : ℕ) (change : Change) → NamesSymbolsBelow count change → NamesSymbolsBelow (count + 1) change
fits_one_more count (adds_symbol _) h = tt
fits_one_more count (adds_decl _ _) h = omega (arith, h)
fits_one_more count (exports _ _ _) h = (omega (arith, h.0), omega (arith, h.1))
fits_one_more count (adds_child _ _) h = (omega (arith, h.0), omega (arith, h.1))
fits_one_more count (adds_member _ _) h = (omega (arith, h.0), omega (arith, h.1))
fits_one_more count (maps _ _) h = omega (arith, h)
fits_one_more count (re_exports_all _) h = tt

fits_more : (count : ℕ) (changes : List Change) → All (NamesSymbolsBelow count) changes → All (NamesSymbolsBelow (count + 1)) changes
fits_more count changes all = λ k d lt. fits_one_more count (get_or changes k d) (all k d lt)

-- The change concerns nothing of the symbol.
pub record Spares (change : Change) (s : SymbolId) : Type 0 where
  pub decl : decl_added_by s change ≡ None
  pub setting : export_inserted_by s change ≡ None
  pub child : child_added_by s change ≡ None
  pub member : member_added_by s change ≡ None

symbol_retained : (module_id : ModuleId) (changes : List Change) (change : Change) (s : SymbolId) (symbol : Symbol) → parent_of_symbol_made_by change ≡ None
    → Spares change s
    → IsSymbolOfChanges module_id changes s symbol → IsSymbolOfChanges module_id (changes ++ change ∷ []) s symbol
symbol_retained module_id changes change s symbol silent spares is = record {
  number = is.number;
  of_module = is.of_module;
  parent = rw (parents_after-out changes change silent) is.parent;
  decls = rw (decls_after-out changes change s spares.decl) is.decls;
  exports = rw (exports_after-out changes change s spares.setting) is.exports;
  children = rw (children_after-out changes change s spares.child) is.children;
  members = rw (members_after-out changes change s spares.member) is.members;
}

bare_retained : (changes : List Change) (change : Change) (s : SymbolId) → Spares change s → HasNoChanges changes s → HasNoChanges (changes ++ change ∷ []) s
bare_retained changes change s spares is = record {
  decls = rw (decls_after-out changes change s spares.decl) is.decls;
  exports = rw (exports_after-out changes change s spares.setting) is.exports;
  children = rw (children_after-out changes change s spares.child) is.children;
  members = rw (members_after-out changes change s spares.member) is.members;
}

-- A change never removes declarations.
decls_after-grow : (changes : List Change) (s : SymbolId) (change : Change) → length (decls_after_changes changes s)
    ≤ length (decls_after_changes (changes ++ change ∷ []) s)
decls_after-grow changes s change = by (decl_added_by s change) refl
  where
    by : (o : Option Declaration) → decl_added_by s change ≡ o → length (decls_after_changes changes s)
        ≤ length (decls_after_changes (changes ++ change ∷ []) s)
    by None is = rw (decls_after-out changes change s is) (omega arith)
    by (Some decl) is = rw (
      decls_after-in changes change s decl is,
      length-append (decls_after_changes changes s)
          ((record decl { has_overloads = gets_overload_flag_after_decl (last_decl (decls_after_changes changes s)) decl }) ∷ []),
    ) (omega arith)

-- Only the symbol t of the builder is written.
pub record Writes (b after : ModuleBuilder) (t : SymbolId) (old new : Symbol) : Type 0 where
  pub below : t.0 < length b.symbols.items
  pub read : old ≡ get_or b.symbols.items t.0 old
  pub set_to : after.symbols.items ≡ set b.symbols.items t.0 new
  pub ids : after.ids ≡ b.ids
  pub stars : after.stars ≡ b.stars
  pub setting : after.setting ≡ b.setting
  pub number : new.symbol_id ≡ old.symbol_id
  pub module_number : new.module_id ≡ old.module_id
  pub parent : new.parent_id ≡ old.parent_id

module _ {b after : ModuleBuilder} {t : SymbolId} {old new : Symbol} (w : Writes b after t old new) (changes : List Change)
    (is : HasAppliedChanges b changes) where
  was : IsSymbolOfChanges b.setting.module_id changes t (get_or b.symbols.items t.0 new) → IsSymbolOfChanges b.setting.module_id changes t old
  was h = subst (IsSymbolOfChanges b.setting.module_id changes t) (read_back b.symbols.items t.0 old new w.below w.read) h

  -- A builder in which only symbol t is written has the table with a change of t.
  written : (change : Change) → parent_of_symbol_made_by change ≡ None → ((id : IdView) → symbol_bound_to_ident_by id change ≡ None)
      → ((s : SymbolId) → s.0 ≢ t.0 → Spares change s)
      → NamesSymbolsBelow (length b.symbols.items) change → DoesNotBindOrExportModuleSymbol change → export_star_added_by change ≡ None
      → ((q : LocalName) → 0 < q.holder.0 → symbol_by_local_name after.child_names q ≡ first_child_named (changes ++ change ∷ []) q.holder
      (cow_str_bytes q.name))
      → ((q : LocalName) → symbol_by_local_name after.member_names q ≡ first_member_named (changes ++ change ∷ []) q.holder (cow_str_bytes q.name))
      → (IsSymbolOfChanges b.setting.module_id changes t old → IsSymbolOfChanges b.setting.module_id (changes ++ change ∷ []) t new)
      → HasAppliedChanges after (changes ++ change ∷ [])
  written change silent unmapped spares fits apart no_star children_named members_named changed = record {
    count = rw (parents_after-out changes change silent) (len ∙ is.count);
    symbols = rw w.setting (λ s d lt. by s d (rw len at lt) (cases_eq s.0 t.0));
    has_no_changes_beyond_count = λ s le. let past : length b.symbols.items ≤ s.0 = omega (arith, len) in
        bare_retained changes change s (spares s (λ same. absurd (omega (arith, w.below)))) (is.has_no_changes_beyond_count s past);
    ids = λ id. rw (w.ids, symbol_of_ident_after_changes-out changes change id (unmapped id)) (is.ids id);
    child_names = children_named;
    member_names = members_named;
    stars = rw (w.stars, export_stars_after-out changes change no_star) is.stars;
    few = rw (w.setting, len) is.few;
    sound = rw len (All-push (NamesSymbolsBelow (length b.symbols.items)) changes change is.sound fits);
    apart = All-push DoesNotBindOrExportModuleSymbol changes change is.apart apart;
    has_lawful_parents = rw (parents_after-out changes change silent) is.has_lawful_parents;
    declared = λ s lt. let short : s.0 < length b.symbols.items = omega (arith, len) in omega (arith, is.declared s short, decls_after-grow changes s change);
  }
    where
      len : length after.symbols.items ≡ length b.symbols.items
      len = rw w.set_to (length-set b.symbols.items t.0 new)

      by : (s : SymbolId) (d : Symbol) → s.0 < length b.symbols.items → (s.0 ≡ t.0) ⊎ (s.0 ≢ t.0)
          → IsSymbolOfChanges b.setting.module_id (changes ++ change ∷ []) s (get_or after.symbols.items s.0 d)
      by s d lt (inl same) =
          let at : get_or after.symbols.items t.0 d ≡ new = rw w.set_to (get_or-set_same b.symbols.items t.0 new d w.below) in
          let here : IsSymbolOfChanges b.setting.module_id (changes ++ change ∷ []) t (get_or after.symbols.items t.0 d) =
          rw at (changed (was (is.symbols t new w.below))) in
          let P : ℕ → Type 0 = λ n. IsSymbolOfChanges b.setting.module_id (changes ++ change ∷ []) (record { 0 = n }) (get_or after.symbols.items n d) in
          subst P (sym same) here
      by s d lt (inr other) =
          let at : get_or after.symbols.items s.0 d ≡ get_or b.symbols.items s.0 d = rw w.set_to (get_or-set_other b.symbols.items t.0 s.0 new d other) in
          rw at (symbol_retained b.setting.module_id changes change s (get_or b.symbols.items s.0 d) silent (spares s other) (is.symbols s d lt))

  same_parent : (change : Change) → parent_of_symbol_made_by change ≡ None → IsSymbolOfChanges b.setting.module_id changes t old
      → slice_get (parents_after_changes (changes ++ change ∷ [])) t.0 ≡ Some new.parent_id
  same_parent change silent h = rw (parents_after-out changes change silent, w.parent) h.parent

  pub only_exports : (name : List ℕ) (x : SymbolId) → x.0 < length b.symbols.items → 0 < x.0
      → new.tables.exports ≡ insert_entry bytes_eq old.tables.exports name x
      → new.decls ≡ old.decls → new.tables.children ≡ old.tables.children → new.tables.members ≡ old.tables.members → after.child_names ≡ b.child_names
      → after.member_names ≡ b.member_names
      → HasAppliedChanges after (changes ++ exports t name x ∷ [])
  only_exports name x lt inner e d c m cn mn =
      let still = quiet changes (exports t name x) (λ s. refl) (λ s. refl) (λ s. refl) in
      written (exports t name x) refl (λ id. refl) (λ s other. record { decl = refl; setting = only_other t s (name, x) other; child = refl; member = refl })
      (w.below, lt) inner refl
      (λ q below. rw cn (is.child_names q below ∙ sym (child_quiet changes (exports t name x) still q.holder (cow_str_bytes q.name))))
      (λ q. rw mn (is.member_names q ∙ sym (member_quiet changes (exports t name x) still q.holder (cow_str_bytes q.name)))) by
    where
      by : IsSymbolOfChanges b.setting.module_id changes t old → IsSymbolOfChanges b.setting.module_id (changes ++ exports t name x ∷ []) t new
      by h = record {
        number = w.number ∙ h.number;
        of_module = w.module_number ∙ h.of_module;
        parent = same_parent (exports t name x) refl h;
        decls = rw (d, decls_after-out changes (exports t name x) t refl) h.decls;
        exports = e ∙ (ap (λ es. insert_entry bytes_eq es name x) h.exports
            ∙ sym (exports_after-in changes (exports t name x) t name x (only_same t (name, x))));
        children = rw (c, children_after-out changes (exports t name x) t refl) h.children;
        members = rw (m, members_after-out changes (exports t name x) t refl) h.members;
      }

  pub only_child : (x : SymbolId) → x.0 < length b.symbols.items → new.tables.children ≡ append_if_absent old.tables.children x
      → new.decls ≡ old.decls → new.tables.exports ≡ old.tables.exports → new.tables.members ≡ old.tables.members → after.member_names ≡ b.member_names
      → ((q : LocalName) → 0 < q.holder.0
      → symbol_by_local_name after.child_names q ≡ option_or (symbol_by_local_name b.child_names q)
      (if_named changes (cow_str_bytes q.name) (is_same_symbol_id t q.holder) x))
      → HasAppliedChanges after (changes ++ adds_child t x ∷ [])
  only_child x lt e d c m on named = written (adds_child t x) refl (λ id. refl)
      (λ s other. record { decl = refl; setting = refl; child = only_other t s x other; member = refl }) (w.below, lt) tt refl
      (λ q below. named q below ∙ (ap (λ (o : Option SymbolId). option_or o (if_named changes (cow_str_bytes q.name) (is_same_symbol_id t q.holder) x))
      (is.child_names q below) ∙ sym (child_added changes t x q.holder (cow_str_bytes q.name))))
      (λ q. rw on (is.member_names q ∙ sym (member_still q.holder (cow_str_bytes q.name)))) by
    where
      member_still : (h : SymbolId) (name : List ℕ) → first_member_named (changes ++ adds_child t x ∷ []) h name ≡ first_member_named changes h name
      member_still h name = rw (members_after-out changes (adds_child t x) h refl) (retained_named changes (changes ++ adds_child t x ∷ []) name
          (members_after_changes changes h) (λ k d lt. name_out changes (adds_child t x) (get_or (members_after_changes changes h) k d) refl))

      by : IsSymbolOfChanges b.setting.module_id changes t old → IsSymbolOfChanges b.setting.module_id (changes ++ adds_child t x ∷ []) t new
      by h = record {
        number = w.number ∙ h.number;
        of_module = w.module_number ∙ h.of_module;
        parent = same_parent (adds_child t x) refl h;
        decls = rw (d, decls_after-out changes (adds_child t x) t refl) h.decls;
        exports = rw (c, exports_after-out changes (adds_child t x) t refl) h.exports;
        children = e ∙ (ap (λ es. append_if_absent es x) h.children ∙ sym (children_after-in changes (adds_child t x) t x (only_same t x)));
        members = rw (m, members_after-out changes (adds_child t x) t refl) h.members;
      }

  pub only_member : (x : SymbolId) → x.0 < length b.symbols.items → new.tables.members ≡ append_if_absent old.tables.members x
      → new.decls ≡ old.decls → new.tables.exports ≡ old.tables.exports → new.tables.children ≡ old.tables.children → after.child_names ≡ b.child_names
      → ((q : LocalName) → symbol_by_local_name after.member_names q
      ≡ option_or (symbol_by_local_name b.member_names q) (if_named changes (cow_str_bytes q.name) (is_same_symbol_id t q.holder) x))
      → HasAppliedChanges after (changes ++ adds_member t x ∷ [])
  only_member x lt e d c m on named = written (adds_member t x) refl (λ id. refl)
      (λ s other. record { decl = refl; setting = refl; child = refl; member = only_other t s x other }) (w.below, lt) tt refl
      (λ q below. rw on (is.child_names q below ∙ sym (child_still q.holder (cow_str_bytes q.name))))
      (λ q. named q ∙ (ap (λ (o : Option SymbolId). option_or o (if_named changes (cow_str_bytes q.name) (is_same_symbol_id t q.holder) x)) (is.member_names q)
      ∙ sym (member_added changes t x q.holder (cow_str_bytes q.name)))) by
    where
      child_still : (h : SymbolId) (name : List ℕ) → first_child_named (changes ++ adds_member t x ∷ []) h name ≡ first_child_named changes h name
      child_still h name = rw (children_after-out changes (adds_member t x) h refl) (retained_named changes (changes ++ adds_member t x ∷ []) name
          (children_after_changes changes h) (λ k d lt. name_out changes (adds_member t x) (get_or (children_after_changes changes h) k d) refl))

      by : IsSymbolOfChanges b.setting.module_id changes t old → IsSymbolOfChanges b.setting.module_id (changes ++ adds_member t x ∷ []) t new
      by h = record {
        number = w.number ∙ h.number;
        of_module = w.module_number ∙ h.of_module;
        parent = same_parent (adds_member t x) refl h;
        decls = rw (d, decls_after-out changes (adds_member t x) t refl) h.decls;
        exports = rw (c, exports_after-out changes (adds_member t x) t refl) h.exports;
        children = rw (m, children_after-out changes (adds_member t x) t refl) h.children;
        members = e ∙ (ap (λ es. append_if_absent es x) h.members ∙ sym (members_after-in changes (adds_member t x) t x (only_same t x)));
      }

  pub only_decl : (x : Declaration) → map decl_view new.decls.items ≡ append_decl_with_overload_flag (map decl_view old.decls.items) x
      → new.tables.exports ≡ old.tables.exports → new.tables.children ≡ old.tables.children → new.tables.members ≡ old.tables.members
      → after.child_names ≡ b.child_names → after.member_names ≡ b.member_names
      → HasAppliedChanges after (changes ++ adds_decl t x ∷ [])
  only_decl x e d c m cn mn =
      let still = quiet_decl changes t x (is.declared t w.below) in
      written (adds_decl t x) refl (λ id. refl) (λ s other. record { decl = only_other t s x other; setting = refl; child = refl; member = refl }) w.below tt
      refl
      (λ q below. rw cn (is.child_names q below ∙ sym (child_quiet changes (adds_decl t x) still q.holder (cow_str_bytes q.name))))
      (λ q. rw mn (is.member_names q ∙ sym (member_quiet changes (adds_decl t x) still q.holder (cow_str_bytes q.name)))) by
    where
      by : IsSymbolOfChanges b.setting.module_id changes t old → IsSymbolOfChanges b.setting.module_id (changes ++ adds_decl t x ∷ []) t new
      by h = record {
        number = w.number ∙ h.number;
        of_module = w.module_number ∙ h.of_module;
        parent = same_parent (adds_decl t x) refl h;
        decls = e ∙ (ap (λ ds. append_decl_with_overload_flag ds x) h.decls ∙ sym (decls_after-in changes (adds_decl t x) t x (only_same t x)));
        exports = rw (d, exports_after-out changes (adds_decl t x) t refl) h.exports;
        children = rw (c, children_after-out changes (adds_decl t x) t refl) h.children;
        members = rw (m, members_after-out changes (adds_decl t x) t refl) h.members;
      }

silent_spares : (id : IdView) (x s : SymbolId) → Spares (maps id x) s
silent_spares id x s = record { decl = refl; setting = refl; child = refl; member = refl }

pub only_maps : (b after : ModuleBuilder) (changes : List Change) (id : IdView) (x : SymbolId) → x.0 < length b.symbols.items → 0 < x.0
    → after.symbols ≡ b.symbols → after.setting ≡ b.setting → after.child_names ≡ b.child_names → after.member_names ≡ b.member_names → after.stars ≡ b.stars
    → ((q : IdView) → lookup (is_same_id q) (identifier_bindings_view after.ids.entries) ≡ cond (is_same_id id q) (Some x)
    (lookup (is_same_id q) (identifier_bindings_view b.ids.entries)))
    → HasAppliedChanges b changes → HasAppliedChanges after (changes ++ maps id x ∷ [])
only_maps b after changes id x lt inner same setting_same cn mn stars_same updated is = record {
  count = rw (same, parents_after-out changes (maps id x) refl) is.count;
  symbols = rw (same, setting_same) (λ s d below.
      symbol_retained b.setting.module_id changes (maps id x) s (get_or b.symbols.items s.0 d) refl (silent_spares id x s) (is.symbols s d below));
  has_no_changes_beyond_count = λ s le. bare_retained changes (maps id x) s (silent_spares id x s) (is.has_no_changes_beyond_count s (rw same at le));
  ids = λ q. updated q
      ∙ (ap (λ o. cond (is_same_id id q) (Some x) o) (is.ids q) ∙ sym (symbol_of_ident_after_changes-maps changes (maps id x) q (is_same_id id q) x refl));
  child_names = λ q below. rw cn (is.child_names q below ∙ sym (child_quiet changes (maps id x) still q.holder (cow_str_bytes q.name)));
  member_names = λ q. rw mn (is.member_names q ∙ sym (member_quiet changes (maps id x) still q.holder (cow_str_bytes q.name)));
  stars = rw (stars_same, export_stars_after-out changes (maps id x) refl) is.stars;
  few = rw (same, setting_same) is.few;
  sound = rw same (All-push (NamesSymbolsBelow (length b.symbols.items)) changes (maps id x) is.sound lt);
  apart = All-push DoesNotBindOrExportModuleSymbol changes (maps id x) is.apart inner;
  has_lawful_parents = rw (parents_after-out changes (maps id x) refl) is.has_lawful_parents;
  declared = rw same (λ s below. rw (decls_after-out changes (maps id x) s refl) (is.declared s below));
}
  where
    still : IsQuiet changes (maps id x)
    still = quiet changes (maps id x) (λ s. refl) (λ s. refl) (λ s. refl)

-- A builder with one more `export *` has the table with that change.
pub only_star : (b after : ModuleBuilder) (changes : List Change) (star : StarStatement) → after.symbols ≡ b.symbols → after.setting ≡ b.setting
    → after.ids ≡ b.ids → after.child_names ≡ b.child_names → after.member_names ≡ b.member_names
    → after.stars.items ≡ b.stars.items ++ star ∷ [] → HasAppliedChanges b changes
    → HasAppliedChanges after (changes ++ re_exports_all (export_star_view star) ∷ [])
only_star b after changes star same setting_same ids_same cn mn pushed is = record {
  count = rw (same, parents_after-out changes (re_exports_all (export_star_view star)) refl) is.count;
  symbols = rw (same, setting_same) (λ s d below.
      symbol_retained b.setting.module_id changes (re_exports_all (export_star_view star)) s (get_or b.symbols.items s.0 d) refl spares (is.symbols s d below));
  has_no_changes_beyond_count =
      λ s le. bare_retained changes (re_exports_all (export_star_view star)) s spares (is.has_no_changes_beyond_count s (rw same at le));
  ids = λ id. rw (ids_same, symbol_of_ident_after_changes-out changes (re_exports_all (export_star_view star)) id refl) (is.ids id);
  child_names =
      λ q below. rw cn (is.child_names q below ∙ sym (child_quiet changes (re_exports_all (export_star_view star)) still q.holder (cow_str_bytes q.name)));
  member_names = λ q. rw mn (is.member_names q ∙ sym (member_quiet changes (re_exports_all (export_star_view star)) still q.holder (cow_str_bytes q.name)));
  stars = ap (map export_star_view) pushed ∙ (map-append export_star_view b.stars.items (star ∷ [])
      ∙ (ap (λ (stars : List ExportStarStatement). stars ++ export_star_view star ∷ []) is.stars
      ∙ sym (export_stars_after-in changes (re_exports_all (export_star_view star)) (export_star_view star) refl)));
  few = rw (same, setting_same) is.few;
  sound = rw same (All-push (NamesSymbolsBelow (length b.symbols.items)) changes (re_exports_all (export_star_view star)) is.sound tt);
  apart = All-push DoesNotBindOrExportModuleSymbol changes (re_exports_all (export_star_view star)) is.apart tt;
  has_lawful_parents = rw (parents_after-out changes (re_exports_all (export_star_view star)) refl) is.has_lawful_parents;
  declared = rw same (λ s below. rw (decls_after-out changes (re_exports_all (export_star_view star)) s refl) (is.declared s below));
}
  where
    spares : {s : SymbolId} → Spares (re_exports_all (export_star_view star)) s
    spares {s} = record { decl = refl; setting = refl; child = refl; member = refl }

    still : IsQuiet changes (re_exports_all (export_star_view star))
    still = quiet changes (re_exports_all (export_star_view star)) (λ s. refl) (λ s. refl) (λ s. refl)

-- A builder with a new symbol and its first declaration.
module _ (b after : ModuleBuilder) (changes : List Change) (parent : Option SymbolId) (x : Declaration) (t : SymbolId) (new : Symbol) where
  retained_twice : (s : SymbolId) (symbol : Symbol) → s.0 ≢ t.0 → IsSymbolOfChanges b.setting.module_id changes s symbol
      → IsSymbolOfChanges b.setting.module_id ((changes ++ adds_symbol parent ∷ []) ++ adds_decl t x ∷ []) s symbol
  retained_twice s symbol other is = symbol_retained b.setting.module_id (changes ++ adds_symbol parent ∷ []) (adds_decl t x) s symbol refl
      (record { decl = only_other t s x other; setting = refl; child = refl; member = refl })
      (record {
        number = is.number;
        of_module = is.of_module;
        parent = rw (parents_after-in changes (adds_symbol parent) parent refl)
            (slice_get-push (parents_after_changes changes) parent s.0 symbol.parent_id is.parent);
        decls = rw (decls_after-out changes (adds_symbol parent) s refl) is.decls;
        exports = rw (exports_after-out changes (adds_symbol parent) s refl) is.exports;
        children = rw (children_after-out changes (adds_symbol parent) s refl) is.children;
        members = rw (members_after-out changes (adds_symbol parent) s refl) is.members;
      })

  bare_first : (s : SymbolId) → HasNoChanges changes s → HasNoChanges (changes ++ adds_symbol parent ∷ []) s
  bare_first s is = bare_retained changes (adds_symbol parent) s (record { decl = refl; setting = refl; child = refl; member = refl }) is

  pub made : HasAppliedChanges b changes → after.symbols.items ≡ b.symbols.items ++ new ∷ [] → t.0 ≡ length b.symbols.items → after.ids ≡ b.ids
      → after.child_names
      ≡ b.child_names → after.member_names ≡ b.member_names → after.stars ≡ b.stars → after.setting ≡ b.setting → length b.symbols.items < b.setting.limit
      → IsLawfulParent t.0 parent → new.symbol_id ≡ t → new.module_id ≡ b.setting.module_id → new.parent_id ≡ parent
      → map decl_view new.decls.items ≡ append_decl_with_overload_flag [] x → new.tables ≡ empty_symbol_maps
      → HasAppliedChanges after ((changes ++ adds_symbol parent ∷ []) ++ adds_decl t x ∷ [])
  made is pushed number ids_same cn mn stars_same setting_same room lower number_is of_module_is parent_is decls_is tables_are = record {
    count = rw (
      pushed,
      parents_after-out (changes ++ adds_symbol parent ∷ []) (adds_decl t x) refl,
      parents_after-in changes (adds_symbol parent) parent refl,
      length_push b.symbols.items new,
      length_push (parents_after_changes changes) parent,
    ) (ap (λ n. n + 1) is.count);
    symbols = rw setting_same (λ s d lt. by s d lt (cases_eq s.0 t.0));
    has_no_changes_beyond_count = λ s le. bare_retained (changes ++ adds_symbol parent ∷ []) (adds_decl t x) s (record {
      decl = only_other t s x (λ e. absurd (omega (arith, len)));
      setting = refl;
      child = refl;
      member = refl;
    }) (bare_first s (is.has_no_changes_beyond_count s (omega (arith, len))));
    ids = λ id. rw (
      ids_same,
      symbol_of_ident_after_changes-out (changes ++ adds_symbol parent ∷ []) (adds_decl t x) id refl,
      symbol_of_ident_after_changes-out changes
          (adds_symbol parent) id refl,
    )
        (is.ids id);
    child_names = λ q below. rw cn (is.child_names q below
        ∙ sym (child_made changes (length b.symbols.items) is.sound parent t x number q.holder (cow_str_bytes q.name)));
    member_names = λ q. rw mn (is.member_names q
        ∙ sym (member_made changes (length b.symbols.items) is.sound parent t x number q.holder (cow_str_bytes q.name)));
    stars = rw (
      stars_same,
      export_stars_after-out (changes ++ adds_symbol parent ∷ []) (adds_decl t x) refl,
      export_stars_after-out changes
          (adds_symbol parent) refl,
    ) is.stars;
    few = rw setting_same (omega (arith, len));
    sound = rw len (All-push (NamesSymbolsBelow (length b.symbols.items + 1)) (changes ++ adds_symbol parent ∷ []) (adds_decl t x)
        (All-push (NamesSymbolsBelow (length b.symbols.items + 1)) changes (adds_symbol parent) (fits_more (length b.symbols.items) changes is.sound) tt)
        (omega (arith, number)));
    apart = All-push DoesNotBindOrExportModuleSymbol (changes ++ adds_symbol parent ∷ []) (adds_decl t x)
        (All-push DoesNotBindOrExportModuleSymbol changes (adds_symbol parent) is.apart tt) tt;
    has_lawful_parents =
        rw (parents_after-out (changes ++ adds_symbol parent ∷ []) (adds_decl t x) refl, parents_after-in changes (adds_symbol parent) parent refl)
        (λ n q at. parent_of_symbol_made_by n q (cases_lt n (length (parents_after_changes changes))) at);
    declared = λ s below. declared_by s (cases_eq s.0 t.0) below;
  }
    where
      len : length after.symbols.items ≡ length b.symbols.items + 1
      len = rw pushed (length_push b.symbols.items new)

      here : IsSymbolOfChanges b.setting.module_id ((changes ++ adds_symbol parent ∷ []) ++ adds_decl t x ∷ []) t new
      here =
          let bare = bare_first t (is.has_no_changes_beyond_count t (omega (arith, number))) in
          record {
            number = number_is;
            of_module = of_module_is;
            parent = rw (
              parents_after-out (changes ++ adds_symbol parent ∷ []) (adds_decl t x) refl,
              parents_after-in changes (adds_symbol parent) parent
                  refl,
              parent_is,
            )
                (slice_get-push_last (parents_after_changes changes) parent t.0 (sym is.count ∙ sym number));
            decls = decls_is ∙ (ap (λ ds. append_decl_with_overload_flag ds x) (sym bare.decls)
                ∙ sym (decls_after-in (changes ++ adds_symbol parent ∷ []) (adds_decl t x) t x (only_same t x)));
            exports = ap (λ (tables : SymbolMapsView). tables.exports) tables_are
                ∙ (sym bare.exports ∙ sym (exports_after-out (changes ++ adds_symbol parent ∷ []) (adds_decl t x) t refl));
            children = ap (λ (tables : SymbolMapsView). tables.children) tables_are
                ∙ (sym bare.children ∙ sym (children_after-out (changes ++ adds_symbol parent ∷ []) (adds_decl t x) t refl));
            members = ap (λ (tables : SymbolMapsView). tables.members) tables_are
                ∙ (sym bare.members ∙ sym (members_after-out (changes ++ adds_symbol parent ∷ []) (adds_decl t x) t refl));
          }

      by : (s : SymbolId) (d : Symbol) → s.0 < length after.symbols.items → (s.0 ≡ t.0) ⊎ (s.0 ≢ t.0)
          → IsSymbolOfChanges b.setting.module_id ((changes ++ adds_symbol parent ∷ []) ++ adds_decl t x ∷ []) s (get_or after.symbols.items s.0 d)
      by s d lt (inl same) =
          let at : get_or after.symbols.items t.0 d ≡ new = rw pushed (get_or_push b.symbols.items new d t.0 (sym number)) in
          let P : ℕ → Type 0 = λ n. IsSymbolOfChanges b.setting.module_id ((changes ++ adds_symbol parent ∷ []) ++ adds_decl t x
          ∷ []) (record { 0 = n }) (get_or after.symbols.items n d) in
          subst P (sym same) (rw at here)
      by s d lt (inr other) =
          let short : s.0 < length b.symbols.items = omega (arith, len, number, other) in
          let at : get_or after.symbols.items s.0 d ≡ get_or b.symbols.items s.0 d = rw pushed (get_or_append_left b.symbols.items (new ∷ []) d s.0 short) in
          rw at (retained_twice s (get_or b.symbols.items s.0 d) other (is.symbols s d short))

      parent_of_symbol_made_by : (n : ℕ) (q : Option SymbolId) → (n < length (parents_after_changes changes)) ⊎ (length (parents_after_changes changes) ≤ n)
          → slice_get (parents_after_changes changes ++ parent ∷ []) n ≡ Some q → IsLawfulParent n q
      parent_of_symbol_made_by n q (inl lt) at =
          let read : get_or (parents_after_changes changes) n q ≡ q =
          sym (get_or_append_left (parents_after_changes changes) (parent ∷ []) q n lt) ∙ get_or_from_slice_get (parents_after_changes changes ++ parent ∷ []) n
          q q at in
          is.has_lawful_parents n q (slice_get-get_or (parents_after_changes changes) n q lt ∙ ap Some read)
      parent_of_symbol_made_by n q (inr le) at =
          let within = slice_get_within (parents_after_changes changes ++ parent ∷ []) n q at in
          let last : length (parents_after_changes changes) ≡ n = omega (arith, within, length_push (parents_after_changes changes) parent) in
          let same : t.0 ≡ n = omega (arith, last, number, is.count) in
          let read : parent ≡ q = sym (get_or_push (parents_after_changes changes) parent q n last)
          ∙ get_or_from_slice_get (parents_after_changes changes ++ parent ∷ []) n q q at in
          let P : ℕ → Type 0 = λ m. IsLawfulParent m q in
          subst P same (subst (IsLawfulParent t.0) read lower)

      declared_by : (s : SymbolId) → (s.0 ≡ t.0) ⊎ (s.0 ≢ t.0) → s.0 < length after.symbols.items
          → 0 < length (decls_after_changes ((changes ++ adds_symbol parent ∷ []) ++ adds_decl t x ∷ []) s)
      declared_by s (inl same) below =
          let P : ℕ → Type 0 = λ m. 0 < length (decls_after_changes ((changes ++ adds_symbol parent ∷ []) ++ adds_decl t x ∷ []) (record { 0 = m })) in
          let before = decls_after_changes (changes ++ adds_symbol parent ∷ []) t in
          let more = decls_after-in (changes ++ adds_symbol parent ∷ []) (adds_decl t x) t x (only_same t x) in
          subst P (sym same) (rw more (rw (length-append before ((record x { has_overloads = gets_overload_flag_after_decl (last_decl before) x }) ∷ []))
          (omega arith)))
      declared_by s (inr other) below = rw (
        decls_after-out (changes ++ adds_symbol parent ∷ []) (adds_decl t x) s (only_other t s x other),
        decls_after-out changes (adds_symbol parent) s refl,
      ) (is.declared s (omega (arith, len, number, other)))

-- An empty builder has the table of no changes.
pub empty_table : (b : ModuleBuilder) → b.symbols.items ≡ [] → b.ids.entries ≡ [] → b.child_names.entries ≡ [] → b.member_names.entries ≡ []
    → b.stars.items ≡ [] → HasAppliedChanges b []
unfolding parents_after_changes decls_after_changes exports_after_changes children_after_changes members_after_changes export_stars_after_changes
    symbol_of_ident_after_changes
empty_table b no_symbols no_ids no_children no_members no_stars = record {
  count = ap length no_symbols;
  symbols = λ s d lt. absurd (omega (arith, lt, ap length no_symbols));
  has_no_changes_beyond_count = λ s le. record { decls = refl; exports = refl; children = refl; members = refl };
  ids = λ id. ap (λ (es : List (Bor Id × SymbolId)). lookup (is_same_id id) (identifier_bindings_view es)) no_ids;
  child_names = λ q below. ap (λ (es : List (LocalName × SymbolId)). lookup (is_same_local_name q) es) no_children;
  member_names = λ q. ap (λ (es : List (LocalName × SymbolId)). lookup (is_same_local_name q) es) no_members;
  stars = ap (map export_star_view) no_stars;
  few = omega (arith, ap length no_symbols);
  sound = λ k d lt. absurd (omega (arith, lt));
  apart = λ k d lt. absurd (omega (arith, lt));
  has_lawful_parents = λ n parent at. absurd (omega (arith, slice_get_within [] n parent at));
  declared = λ s lt. absurd (omega (arith, lt, ap length no_symbols));
}
