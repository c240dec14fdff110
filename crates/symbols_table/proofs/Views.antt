-- Lemmas about the views of stored exports, declarations and identifiers.
use Rattle.std.proofs.Common.{◌≡◌, ◌==◌, ℕ, Bool, true, false, cond, List, [], ◌∷◌, ◌++◌, map, Option, Some, None, refl, sym, ap, ◌∙◌}
use Rattle.std.specs.Prelude.{string_bytes, String}
use Rattle.std.specs.Borrow.{Bor}
use Rattle.std.specs.Str.{bytes_eq}
use Rattle.std.specs.Map.{lookup}
use Rattle.std.specs.Global.{Global}
use Rattle.std.proofs.lemmas.List.{map-append}
use Rattle.std.proofs.lemmas.Bool.{false≢true}
use Rattle.std.proofs.lemmas.Bool.Decides.{Decides-and, Decides-like, Decides-eqb}
use Rattle.std.proofs.lemmas.Slice.Eq.{bytes_eq-Decides}
use Rattle.std.specs.Bool.{Decides}
use Rattle.indexmap.specs.IndexMap.{insert_entry}
use Rattle.symbols_ast.specs.declared.ids.SymbolId.{SymbolId}
use Rattle.symbols_ast.specs.declared.tree.arena.Id.{Id}
use Rattle.symbols_ast.specs.Ids.{IdView, id_view, is_same_id}
use Rattle.symbols_table.specs.ModuleViews.{identifier_bindings_view}
use Rattle.symbols_table.specs.declared.decl.symbol_decl.SymbolDecl.{SymbolDecl}
use Rattle.symbols_table.specs.DeclViews.{Declaration, decl_view, exports_view, append_decl_with_overload_flag, last_decl, gets_overload_flag_after_decl}

-- Setting an export sets it in the view, by the bytes of its name.
pub exports_view-insert : (name : String Global) (s : SymbolId) (entries : List (String Global × SymbolId))
    → exports_view (insert_entry (λ a b. bytes_eq (string_bytes a) (string_bytes b)) entries name s)
    ≡ insert_entry bytes_eq (exports_view entries) (string_bytes name) s
exports_view-insert name s [] = refl
exports_view-insert name s (e ∷ es) = by (exports_view-insert name s es) (bytes_eq (string_bytes name) (string_bytes e.0))
  where
    by : exports_view (insert_entry (λ a b. bytes_eq (string_bytes a) (string_bytes b)) es name s)
        ≡ insert_entry bytes_eq (exports_view es) (string_bytes name) s
        → (same : Bool) → exports_view (cond same ((e.0, s) ∷ es) (e ∷ insert_entry (λ a b. bytes_eq (string_bytes a) (string_bytes b)) es name s))
        ≡ cond same ((string_bytes e.0, s) ∷ exports_view es) ((string_bytes e.0, e.1) ∷ insert_entry bytes_eq (exports_view es) (string_bytes name) s)
    by rest true = refl
    by rest false = ap (λ xs. (string_bytes e.0, e.1) ∷ xs) rest

-- Looking up an export is a lookup in the view, by the bytes of its name.
pub lookup-exports_view : (name : List ℕ) (entries : List (String Global × SymbolId))
    → lookup (λ key. bytes_eq name (string_bytes key)) entries ≡ lookup (λ key. bytes_eq name key) (exports_view entries)
lookup-exports_view name [] = refl
lookup-exports_view name (e ∷ es) = ap (λ (o : Option SymbolId). cond (bytes_eq name (string_bytes e.0)) (Some e.1) o) (lookup-exports_view name es)

-- Pushing a declaration with its overload flag adds it to the view.
pub pushed_decl : (before after : List SymbolDecl) (decl flagged : SymbolDecl) (flag : Bool) → after ≡ before ++ flagged ∷ []
    → decl_view flagged ≡ record (decl_view decl) { has_overloads = flag } → flag ≡ gets_overload_flag_after_decl (last_decl (map decl_view before))
    (decl_view decl)
    → map decl_view after ≡ append_decl_with_overload_flag (map decl_view before) (decl_view decl)
pushed_decl before after decl flagged flag pushed seen is =
    ap (map decl_view) pushed ∙ map-append decl_view before (flagged ∷ [])
    ∙ ap (λ (x : Declaration). map decl_view before ++ x ∷ []) (seen
    ∙ ap (λ (b : Bool). let x : Declaration = record (decl_view decl) { has_overloads = b } in x) is)

-- Looking up an identifier is a lookup in the view.
pub lookup-identifier_bindings_view : (id : IdView) (entries : List (Bor Id × SymbolId))
    → lookup (λ (key : Bor Id). is_same_id id (id_view key.now)) entries ≡ lookup (is_same_id id) (identifier_bindings_view entries)
lookup-identifier_bindings_view id [] = refl
lookup-identifier_bindings_view id (e ∷ es) =
    ap (λ (o : Option SymbolId). cond (is_same_id id (id_view e.0.now)) (Some e.1) o) (lookup-identifier_bindings_view id es)

-- Binding an identifier inserts it into the view.
pub identifier_bindings_view-insert : (id : Bor Id) (s : SymbolId) (entries : List (Bor Id × SymbolId))
    → identifier_bindings_view (insert_entry (λ (a b : Bor Id). is_same_id (id_view a.now) (id_view b.now)) entries id s)
    ≡ insert_entry is_same_id (identifier_bindings_view entries) (id_view id.now) s
identifier_bindings_view-insert id s [] = refl
identifier_bindings_view-insert id s (e ∷ es) = by (identifier_bindings_view-insert id s es) (is_same_id (id_view id.now) (id_view e.0.now))
  where
    by : identifier_bindings_view (insert_entry (λ (a b : Bor Id). is_same_id (id_view a.now) (id_view b.now)) es id s) ≡ insert_entry is_same_id
        (identifier_bindings_view es) (id_view id.now) s
        → (same : Bool)
        → identifier_bindings_view (cond same ((e.0, s) ∷ es) (e ∷ insert_entry (λ (a b : Bor Id). is_same_id (id_view a.now) (id_view b.now)) es id s))
        ≡ cond same ((id_view e.0.now, s) ∷ identifier_bindings_view es) ((id_view e.0.now, e.1)
        ∷ insert_entry is_same_id (identifier_bindings_view es) (id_view id.now) s)
    by rest true = refl
    by rest false = ap (λ xs. (id_view e.0.now, e.1) ∷ xs) rest

-- The test for the same identifier decides equality.
pub is_same_id-Decides : (a b : IdView) → Decides (is_same_id a b) (a ≡ b)
is_same_id-Decides a b =
    Decides-like (is_same_id a b) (λ (both : (a.name ≡ b.name) × (a.scope ≡ b.scope)). let join : a ≡ b = rw (both.0, both.1) refl in join)
    (λ e. (ap (λ (x : IdView). x.name) e, ap (λ (x : IdView). x.scope) e))
    (Decides-and (bytes_eq a.name b.name) (a.scope == b.scope) (bytes_eq-Decides a.name b.name) (Decides-eqb a.scope b.scope))

-- ---- entries whose keys are compared by a test

module _ {K : Type 0} (eq : K → K → Bool) (decides : (a b : K) → Decides (eq a b) (a ≡ b)) where
  pub eq-sym : (a b : K) → eq a b ≡ eq b a
  eq-sym a b = by (eq a b) (eq b a) refl refl
    where
      by : (x y : Bool) → eq a b ≡ x → eq b a ≡ y → x ≡ y
      by true true p q = refl
      by false false p q = refl
      by true false p q = sym ((decides b a).1 (sym ((decides a b).0 p))) ∙ q
      by false true p q = sym p ∙ (decides a b).1 (sym ((decides b a).0 q))

  -- After an insertion the key has its value, and any other key what it had.
  pub lookup-insert : (es : List (K × SymbolId)) (k q : K) (x : SymbolId) → lookup (eq q) (insert_entry eq es k x) ≡ cond (eq k q) (Some x) (lookup (eq q) es)
  lookup-insert [] k q x = ap (λ (b : Bool). cond b (Some x) None) (eq-sym q k)
  lookup-insert (e ∷ es) k q x = by (eq k e.0) refl (lookup-insert es k q x)
    where
      found : (b c : Bool) → b ≡ c → cond b (Some x) (lookup (eq q) es) ≡ cond c (Some x) (cond b (Some e.1) (lookup (eq q) es))
      found true true p = refl
      found false false p = refl
      found true false p = absurd (false≢true (sym p))
      found false true p = absurd (false≢true p)

      retained : (b c : Bool) → (b ≡ true → c ≡ false)
          → cond b (Some e.1) (cond c (Some x) (lookup (eq q) es)) ≡ cond c (Some x) (cond b (Some e.1) (lookup (eq q) es))
      retained true true apart = absurd (false≢true (sym (apart refl)))
      retained true false apart = refl
      retained false c apart = refl

      other : eq k e.0 ≡ false → eq q e.0 ≡ true → eq k q ≡ false
      other apart same = by (eq k q) refl
        where
          by : (b : Bool) → eq k q ≡ b → b ≡ false
          by false p = refl
          by true p = absurd (false≢true (sym apart ∙ (decides k e.0).1 ((decides k q).0 p ∙ (decides q e.0).0 same)))

      by : (same : Bool) → eq k e.0 ≡ same → lookup (eq q) (insert_entry eq es k x) ≡ cond (eq k q) (Some x) (lookup (eq q) es)
          → lookup (eq q) (cond same ((e.0, x) ∷ es) (e ∷ insert_entry eq es k x)) ≡ cond (eq k q) (Some x) (cond (eq q e.0) (Some e.1) (lookup (eq q) es))
      by true p rest = found (eq q e.0) (eq k q) (ap (eq q) (sym ((decides k e.0).0 p)) ∙ eq-sym q k)
      by false p rest = ap (λ (o : Option SymbolId). cond (eq q e.0) (Some e.1) o) rest ∙ retained (eq q e.0) (eq k q) (other p)
