-- Children and members by local name, after one more change.
use Rattle.std.proofs.Common.{◌≡◌, ℕ, ◌<◌, ◌⊎◌, inl, inr, Bool, true, false, ◌&&◌, List, [], ◌∷◌, ◌++◌}
use Rattle.std.proofs.Common.{suc, length, get_or, Option, None, Some, refl, sym, ◌∙◌, ap, subst, arith}
use Rattle.std.specs.Prelude.{◌≢◌, ◌==◌, All, slice_get}
use Rattle.std.specs.List.{find, list_any}
use Rattle.std.specs.Option.{option_or, option_map_or, option_and_then}
use Rattle.std.specs.Str.{bytes_eq}
use Rattle.std.proofs.lemmas.Bool.{cases_eq}
use Rattle.std.proofs.lemmas.Bool.Decides.{nat_tests}
use Rattle.std.proofs.lemmas.List.Folds.{find-append}
use Rattle.symbols_ast.specs.declared.ids.SymbolId.{SymbolId}
use Rattle.symbols_table.specs.DeclViews.{Declaration, decl_name, gets_overload_flag_after_decl, last_decl}
use Rattle.symbols_table.specs.Changes.{Change, adds_symbol, adds_decl, adds_child, adds_member, is_same_symbol_id, some_if, decl_added_by, child_added_by}
use Rattle.symbols_table.specs.Changes.{member_added_by, append_if_absent, decls_after_changes, children_after_changes, members_after_changes}
use Rattle.symbols_table.specs.Changes.{local_name_after_changes, is_symbol_named, first_child_named, first_member_named}
use Rattle.symbols_table.specs.inner.Tables.{NamesSymbolsBelow}
use Rattle.symbols_table.proofs.OneMore.{only_same, only_other, decls_after-out, decls_after-in, children_after-out}
use Rattle.symbols_table.proofs.OneMore.{children_after-in, members_after-out, members_after-in}
use Rattle.symbols_table.proofs.Inside.{children_inside, members_inside}

-- Two tests that agree on a list find the same element.
pub find_same : (p q : SymbolId → Bool) (xs : List SymbolId) → All (λ x. p x ≡ q x) xs → find p xs ≡ find q xs
find_same p q [] agree = refl
find_same p q (x ∷ xs) agree =
    let rest : find p xs ≡ find q xs = find_same p q xs (λ k d lt. agree (suc k) d (omega arith)) in
    let here : p x ≡ q x = agree 0 x (omega arith) in
    rw (here, rest) refl

-- A test that holds of an element of the list finds an element.
found_in : (p : SymbolId → Bool) (xs : List SymbolId) (x : SymbolId) → p x ≡ true → list_any (is_same_symbol_id x) xs ≡ true
    → option_or (find p xs) (Some x) ≡ find p xs
found_in p [] x holds is = absurd (no is)
  where
    no : false ≡ true → ⊥
    no e = cc
found_in p (y ∷ ys) x holds is = by (λ e. found_in p ys x holds e) (p y) refl (x.0 == y.0) refl
  where
    no : true ≡ false → ⊥
    no g = cc

    by : (list_any (is_same_symbol_id x) ys ≡ true → option_or (find p ys) (Some x) ≡ find p ys) → (b : Bool) → p y ≡ b → (same : Bool) → (x.0 == y.0) ≡ same
        → option_or (find p (y ∷ ys)) (Some x) ≡ find p (y ∷ ys)
    by rest true e same f = rw e refl
    by rest false e true f =
        let equal : x.0 ≡ y.0 = grind (arith, nat_tests) in
        let P : ℕ → Type 0 = λ n. p (record { 0 = n }) ≡ true in
        let holds_here : p y ≡ true = subst P equal holds in
        absurd (no (sym holds_here ∙ e))
    by rest false e false f = rw e (rest (rw f at is))

-- The first match in a list to which x is added: an earlier match, else x if it matches.
pub find_with_first : (p : SymbolId → Bool) (xs : List SymbolId) (x : SymbolId) → find p (append_if_absent xs x) ≡ option_or (find p xs) (some_if (p x) x)
find_with_first p xs x = by (list_any (is_same_symbol_id x) xs) refl (p x) refl
  where
    by : (there : Bool) → list_any (is_same_symbol_id x) xs ≡ there → (holds : Bool) → p x ≡ holds
        → find p (append_if_absent xs x) ≡ option_or (find p xs) (some_if (p x) x)
    by true e true f = rw (e, f) (sym (found_in p xs x f e))
    by true e false f = rw (e, f) (none_else (find p xs))
      where
        none_else : (o : Option SymbolId) → o ≡ option_or o None
        none_else None = refl
        none_else (Some y) = refl
    by false e true f = rw (e, find-append p xs (x ∷ []), f) refl
    by false e false f = rw (e, find-append p xs (x ∷ []), f) refl

-- Local names are unchanged by a change that adds no declaration.
pub name_out : (changes : List Change) (change : Change) (s : SymbolId) → decl_added_by s change ≡ None
    → local_name_after_changes (changes ++ change ∷ []) s ≡ local_name_after_changes changes s
name_out changes change s out = rw (decls_after-out changes change s out) refl

-- Local names are unchanged by a declaration that is not the symbol's first.
name_more : (changes : List Change) (t s : SymbolId) (x : Declaration) → 0 < length (decls_after_changes changes t)
    → local_name_after_changes (changes ++ adds_decl t x ∷ []) s ≡ local_name_after_changes changes s
name_more changes t s x some = by (cases_eq s.0 t.0)
  where
    first_retained : (ds : List Declaration) (d : Declaration) → 0 < length ds → slice_get (ds ++ d ∷ []) 0 ≡ slice_get ds 0
    first_retained [] d lt = absurd (omega (arith, lt))
    first_retained (y ∷ ys) d lt = refl

    by : (s.0 ≡ t.0) ⊎ (s.0 ≢ t.0) → local_name_after_changes (changes ++ adds_decl t x ∷ []) s ≡ local_name_after_changes changes s
    by (inl same) =
        let P : ℕ → Type 0 = λ n. local_name_after_changes (changes ++ adds_decl t x ∷ []) (record { 0 = n })
        ≡ local_name_after_changes changes (record { 0 = n }) in
        subst P (sym same) (rw (decls_after-in changes (adds_decl t x) t x (only_same t x)) (ap (option_and_then decl_name)
        (first_retained (decls_after_changes changes t) (record x {
          has_overloads = gets_overload_flag_after_decl (last_decl (decls_after_changes changes t)) x;
        }) some)))
    by (inr other) = name_out changes (adds_decl t x) s (only_other t s x other)

-- A search by name finds the same after changes that leave these names unchanged.
pub retained_named : (before after : List Change) (name : List ℕ) (xs : List SymbolId)
    → All (λ x. local_name_after_changes after x ≡ local_name_after_changes before x) xs
    → find (is_symbol_named after name) xs ≡ find (is_symbol_named before name) xs
retained_named before after name xs retained =
    find_same (is_symbol_named after name) (is_symbol_named before name) xs
    (λ k d lt. ap (λ (o : Option (List ℕ)). option_map_or (λ (local_name_bytes : List ℕ). bytes_eq local_name_bytes name) o false) (retained k d lt))

-- The change leaves children, members and first declarations as they are.
pub record IsQuiet (changes : List Change) (change : Change) : Type 0 where
  pub names : (s : SymbolId) → local_name_after_changes (changes ++ change ∷ []) s ≡ local_name_after_changes changes s
  pub child : (s : SymbolId) → child_added_by s change ≡ None
  pub member : (s : SymbolId) → member_added_by s change ≡ None

pub child_quiet : (changes : List Change) (change : Change) → IsQuiet changes change → (h : SymbolId) (name : List ℕ)
    → first_child_named (changes ++ change ∷ []) h name ≡ first_child_named changes h name
child_quiet changes change quiet h name =
    rw (children_after-out changes change h (quiet.child h))
    (retained_named changes (changes ++ change ∷ []) name (children_after_changes changes h)
    (λ k d lt. quiet.names (get_or (children_after_changes changes h) k d)))

pub member_quiet : (changes : List Change) (change : Change) → IsQuiet changes change → (h : SymbolId) (name : List ℕ)
    → first_member_named (changes ++ change ∷ []) h name ≡ first_member_named changes h name
member_quiet changes change quiet h name =
    rw (members_after-out changes change h (quiet.member h))
    (retained_named changes (changes ++ change ∷ []) name (members_after_changes changes h)
    (λ k d lt. quiet.names (get_or (members_after_changes changes h) k d)))

-- A change that adds no declaration, child or member is quiet.
pub quiet : (changes : List Change) (change : Change) → ((s : SymbolId) → decl_added_by s change ≡ None) → ((s : SymbolId) → child_added_by s change ≡ None)
    → ((s : SymbolId) → member_added_by s change ≡ None) → IsQuiet changes change
quiet changes change no_decl no_child no_member = record { names = λ s. name_out changes change s (no_decl s); child = no_child; member = no_member }

pub quiet_decl : (changes : List Change) (t : SymbolId) (x : Declaration) → 0 < length (decls_after_changes changes t) → IsQuiet changes (adds_decl t x)
quiet_decl changes t x some = record { names = λ s. name_more changes t s x some; child = λ s. refl; member = λ s. refl }

abbrev pub if_named : List Change → List ℕ → Bool → SymbolId → Option SymbolId
if_named changes name same x = some_if (same && is_symbol_named changes name x) x

none_else : (o : Option SymbolId) → o ≡ option_or o None
none_else None = refl
none_else (Some y) = refl

-- An added child is found by its name if no other was found before.
pub child_added : (changes : List Change) (t x h : SymbolId) (name : List ℕ)
    → first_child_named (changes ++ adds_child t x ∷ []) h name ≡ option_or (first_child_named changes h name) (if_named changes name (is_same_symbol_id t h) x)
child_added changes t x h name = by (cases_eq h.0 t.0)
  where
    names : (xs : List SymbolId) → find (is_symbol_named (changes ++ adds_child t x ∷ []) name) xs ≡ find (is_symbol_named changes name) xs
    names xs = retained_named changes (changes ++ adds_child t x ∷ []) name xs (λ k d lt. name_out changes (adds_child t x) (get_or xs k d) refl)

    by : (h.0 ≡ t.0) ⊎ (h.0 ≢ t.0) → first_child_named (changes ++ adds_child t x ∷ []) h name
        ≡ option_or (first_child_named changes h name) (if_named changes name (is_same_symbol_id t h) x)
    by (inl same) =
        let test : (t.0 == h.0) ≡ true = grind (arith, nat_tests) in
        let P : ℕ → Type 0 = λ n. children_after_changes (changes ++ adds_child t x ∷ []) (record { 0 = n })
        ≡ append_if_absent (children_after_changes changes (record { 0 = n })) x in
        let more : children_after_changes (changes ++ adds_child t x ∷ []) h ≡ append_if_absent (children_after_changes changes h) x =
        subst P (sym same) (children_after-in changes (adds_child t x) t x (only_same t x)) in
        rw (test, more) (names (append_if_absent (children_after_changes changes h) x) ∙ find_with_first (is_symbol_named changes name)
        (children_after_changes changes h) x)
    by (inr other) =
        let test : (t.0 == h.0) ≡ false = grind (arith, nat_tests) in
        rw (test, children_after-out changes (adds_child t x) h (only_other t h x other)) (names (children_after_changes changes h)
        ∙ none_else (find (is_symbol_named changes name) (children_after_changes changes h)))

-- An added member is found by its name if no other was found before.
pub member_added : (changes : List Change) (t x h : SymbolId) (name : List ℕ)
    → first_member_named (changes ++ adds_member t x ∷ []) h name ≡ option_or (first_member_named changes h name)
    (if_named changes name (is_same_symbol_id t h) x)
member_added changes t x h name = by (cases_eq h.0 t.0)
  where
    names : (xs : List SymbolId) → find (is_symbol_named (changes ++ adds_member t x ∷ []) name) xs ≡ find (is_symbol_named changes name) xs
    names xs = retained_named changes (changes ++ adds_member t x ∷ []) name xs (λ k d lt. name_out changes (adds_member t x) (get_or xs k d) refl)

    by : (h.0 ≡ t.0) ⊎ (h.0 ≢ t.0) → first_member_named (changes ++ adds_member t x ∷ []) h name
        ≡ option_or (first_member_named changes h name) (if_named changes name (is_same_symbol_id t h) x)
    by (inl same) =
        let test : (t.0 == h.0) ≡ true = grind (arith, nat_tests) in
        let P : ℕ → Type 0 = λ n. members_after_changes (changes ++ adds_member t x ∷ []) (record { 0 = n }) ≡ append_if_absent
        (members_after_changes changes (record { 0 = n })) x in
        let more : members_after_changes (changes ++ adds_member t x ∷ []) h ≡ append_if_absent (members_after_changes changes h) x =
        subst P (sym same) (members_after-in changes (adds_member t x) t x (only_same t x)) in
        rw (test, more) (names (append_if_absent (members_after_changes changes h) x) ∙ find_with_first (is_symbol_named changes name)
        (members_after_changes changes h) x)
    by (inr other) =
        let test : (t.0 == h.0) ≡ false = grind (arith, nat_tests) in
        rw (test, members_after-out changes (adds_member t x) h (only_other t h x other)) (names (members_after_changes changes h)
        ∙ none_else (find (is_symbol_named changes name) (members_after_changes changes h)))

-- A new symbol is not yet a child or a member.
module _ (changes : List Change) (count : ℕ) (sound : All (NamesSymbolsBelow count) changes) (parent : Option SymbolId) (t : SymbolId) (x : Declaration)
    (number : t.0
    ≡ count) where
  abbrev after : List Change
  after = (changes ++ adds_symbol parent ∷ []) ++ adds_decl t x ∷ []

  below_retained : (s : SymbolId) → s.0 < count → local_name_after_changes after s ≡ local_name_after_changes changes s
  below_retained s lt = name_out (changes ++ adds_symbol parent ∷ []) (adds_decl t x) s (only_other t s x (λ e. absurd (omega (arith, e, lt, number))))
      ∙ name_out changes (adds_symbol parent) s refl

  pub child_made : (h : SymbolId) (name : List ℕ) → first_child_named after h name ≡ first_child_named changes h name
  child_made h name =
      let same : children_after_changes after h ≡ children_after_changes changes h =
      children_after-out (changes ++ adds_symbol parent ∷ []) (adds_decl t x) h refl ∙ children_after-out changes (adds_symbol parent) h refl in
      rw same (retained_named changes after name (children_after_changes changes h)
      (λ k d lt. below_retained (get_or (children_after_changes changes h) k d) (children_inside count changes h sound k d lt)))

  pub member_made : (h : SymbolId) (name : List ℕ) → first_member_named after h name ≡ first_member_named changes h name
  member_made h name =
      let same : members_after_changes after h ≡ members_after_changes changes h =
      members_after-out (changes ++ adds_symbol parent ∷ []) (adds_decl t x) h refl ∙ members_after-out changes (adds_symbol parent) h refl in
      rw same (retained_named changes after name (members_after_changes changes h)
      (λ k d lt. below_retained (get_or (members_after_changes changes h) k d) (members_inside count changes h sound k d lt)))
