-- Finding a redirect whose target is redirected, by the set of sources.
use Rattle.std.proofs.Common.{◌≡◌, ℕ, ◌+◌, ◌<◌, ◌≤◌, Bool, true, false, true≢false, cond, ◌||◌, List, Some}
use Rattle.std.proofs.Common.{length, get_or, take, take_all, map, slice_get, refl, sym, ap, ◌∙◌, arith}
use Rattle.std.specs.Prelude.{String, string_bytes}
use Rattle.std.specs.Global.{Global}
use Rattle.std.specs.List.{list_any}
use Rattle.std.specs.Option.{option_map}
use Rattle.std.specs.Str.{bytes_eq}
use Rattle.std.proofs.lemmas.List.{length-map, get_or-map}
use Rattle.std.proofs.lemmas.List.Folds.{list_any_more}
use Rattle.std.proofs.lemmas.Option.{slice_get_read, slice_get_within, slice_get-map, same_Some}
use Rattle.symbols_ast.specs.Graph.{redirect_view}
use Rattle.symbols_graph.specs.GraphFaults.{redirect_sources, IsRedirectToRedirect}
use Rattle.symbols_graph.proofs.RepeatLemmas.{NoneBelow, none_below_more, occurs-Decides}

-- A test of the first i + 1 mapped entries is one of the first i or of entry i.
pub any_read_more : {A B : Type 0} (f : A → B) (p : B → Bool) (xs : List A) (i : ℕ) (x : A) → i < length xs → x ≡ get_or xs i x
    → list_any p (take (i + 1) (map f xs)) ≡ (list_any p (take i (map f xs)) || p (f x))
any_read_more f p xs i x inside is =
    list_any_more p (map f xs) i (f x) (rw length-map inside)
    ∙ ap (λ z. list_any p (take i (map f xs)) || p z) (get_or-map f xs i x (f x) inside ∙ ap f (sym is))

module _ (redirects : List (String Global × String Global)) where
  abbrev views : List (List ℕ × List ℕ)
  views = map redirect_view redirects

  -- The view of redirect i.
  pub redirect_at : (i : ℕ) (r : String Global × String Global) → i < length redirects → r ≡ get_or redirects i r → slice_get views i ≡ Some (redirect_view r)
  redirect_at i r inside is = slice_get-map redirect_view redirects i
      ∙ ap (option_map redirect_view) (slice_get_read redirects (length redirects) i r refl inside is)

  -- A test of the first i + 1 sources is one of the first i or of source i.
  pub source_more : (p : List ℕ → Bool) (i : ℕ) (r : String Global × String Global) → i < length redirects → r ≡ get_or redirects i r
      → list_any p (take (i + 1) (redirect_sources views)) ≡ (list_any p (take i (redirect_sources views)) || p (string_bytes r.0))
  source_more p i r inside is =
      any_read_more (λ v. v.0) p views i (redirect_view r) (rw length-map inside) (ap redirect_view is
      ∙ sym (get_or-map redirect_view redirects i r (redirect_view r) inside))

  -- The sources of all redirects are those of the first n, if there are no more than n.
  all_viewed : (p : List ℕ → Bool) (n : ℕ) → length redirects ≤ n → list_any p (take n (redirect_sources views)) ≡ list_any p (redirect_sources views)
  all_viewed p n past = ap (list_any p) (take_all n (redirect_sources views) (rw (length-map, length-map) past))

  -- The set contains a target if and only if it is a source.
  pub target_viewed : (n : ℕ) → length redirects ≤ n → (t target : List ℕ) → t ≡ target → (found has : Bool) → found ≡ has
      → has ≡ list_any (λ y. bytes_eq y t) (take n (redirect_sources views)) → found ≡ list_any (λ y. bytes_eq y target) (redirect_sources views)
  target_viewed n past t target is found has same viewed =
      same ∙ viewed ∙ all_viewed (λ y. bytes_eq y t) n past ∙ ap (λ u. list_any (λ y. bytes_eq y u) (redirect_sources views)) is

  module _ (i : ℕ) (r : String Global × String Global) (inside : i < length redirects) (is : r ≡ get_or redirects i r) (found : Bool) (depth_of_each : found
      ≡ list_any (λ y. bytes_eq y (string_bytes r.1)) (redirect_sources views)) where
    -- If the set contains the target, the redirect is one to a redirect.
    pub chained_at : found ≡ true → IsRedirectToRedirect views i (string_bytes r.0)
    chained_at viewed =
        (string_bytes r.1, redirect_at i r inside is, (occurs-Decides (redirect_sources views) (string_bytes r.1)).0 (sym depth_of_each ∙ viewed))

    -- If the set doesn't contain the target, none of the first i + 1 redirects is one to a redirect.
    pub unchained_more : found ≡ false → NoneBelow (IsRedirectToRedirect views) i → NoneBelow (IsRedirectToRedirect views) (i + 1)
    unchained_more viewed none = none_below_more (IsRedirectToRedirect views) i none here
      where
        here : (y : List ℕ) → IsRedirectToRedirect views i y → ⊥
        here y chained =
            let same : ◌≡◌ {A = List ℕ × List ℕ} (y, chained.0) (redirect_view r) = same_Some _ _ (sym chained.1 ∙ redirect_at i r inside is) in
            let target : chained.0 ≡ string_bytes r.1 = ap (λ (p : List ℕ × List ℕ). p.1) same in
            true≢false (sym ((occurs-Decides (redirect_sources views) (string_bytes r.1)).1 (chained.2.0, chained.2.1 ∙ ap Some target)) ∙ sym depth_of_each
            ∙ viewed)

  -- If no redirect was found among all, there is none to a redirect.
  pub unchained_all : (n : ℕ) → length redirects ≤ n → NoneBelow (IsRedirectToRedirect views) n → (i : ℕ) (y : List ℕ) → IsRedirectToRedirect views i y → ⊥
  unchained_all n past none i y chained =
      let within = slice_get_within views i (y, chained.0) chained.1 in
      none i y (omega (arith, rw length-map at within)) chained

-- A set to which a text is added has the elements of the list to which it is appended.
pub gained : (key old new rest : Bool) {before : Bool} → new ≡ cond key true old → old ≡ rest → before ≡ (rest || key) → new ≡ before
gained true old new rest updates same more = updates ∙ sym (more ∙ or_right rest)
  where
    or_right : (b : Bool) → (b || true) ≡ true
    or_right true = refl
    or_right false = refl
gained false old new rest updates same more = updates ∙ same ∙ sym (more ∙ or_left rest)
  where
    or_left : (b : Bool) → (b || false) ≡ b
    or_left true = refl
    or_left false = refl
