-- Maps of resolutions by referrer and specifier text, compared to lists of resolutions.
use Rattle.std.proofs.Common.{◌≡◌, ℕ, suc, ◌+◌, ◌<◌, Bool, true, false, cond, ◌&&◌, List, [], ◌∷◌, ◌++◌, Option}
use Rattle.std.proofs.Common.{None, Some, length, get_or, take, map, slice_get, find, refl, sym, ap, ◌∙◌}
use Rattle.std.specs.Prelude.{String, string_bytes, option_and_then}
use Rattle.std.specs.Global.{Global}
use Rattle.std.specs.Cmp.Lexicographic.{nat_list_eq_equiv}
use Rattle.std.specs.Map.{lookup, update}
use Rattle.std.specs.Option.{option_map, option_or}
use Rattle.std.specs.Str.{bytes_eq}
use Rattle.std.proofs.lemmas.List.Folds.{find-append}
use Rattle.std.proofs.lemmas.List.{length-map, get_or-map, take_more}
use Rattle.std.proofs.lemmas.Option.{slice_get-map, slice_get_read}
use Rattle.std.proofs.lemmas.Slice.Eq.{bytes_eq-Decides}
use Rattle.std.specs.String.{string_eq}
use Rattle.std.proofs.lemmas.Map.Text.{hash_map_updates_text}
use Rattle.indexmap.specs.IndexMap.{get_by_text, UpdatesBy}
use Rattle.symbols_ast.specs.declared.graph.raw.RawResolution.{RawResolution}
use Rattle.symbols_ast.specs.Graph.{Resolution, find_resolved_specifier, resolution_view}
use Rattle.symbols_graph.specs.GraphFaults.{resolution_keys}
use Rattle.symbols_graph.specs.Tables.{StringMap}
use Rattle.symbols_graph.specs.inner.CheckSteps.{HasNoRepeat, resolved_specifier_in_maps}
use Rattle.symbols_graph.proofs.FilledMaps.{occurs_in_take}
use Rattle.symbols_graph.proofs.RepeatLemmas.{pair_eq-Decides}

bytes_eq_symm : (xs ys : List ℕ) → bytes_eq xs ys ≡ bytes_eq ys xs
bytes_eq_symm xs ys = nat_list_eq_equiv.symm xs ys

-- The lookups after one more resolution is added to the referrer's map, or to a new one.
pub resolved_specifier_in_maps-more : (old new : StringMap (StringMap (String Global))) (referrer specifier_text : List ℕ) (specifier : String Global)
    (o : Option (StringMap (String Global))) (table : StringMap (String Global))
    → get_by_text old referrer ≡ o
    → ((r : List ℕ) → get_by_text new r ≡ update bytes_eq (get_by_text old) referrer (Some table) r)
    → ((t : List ℕ) → get_by_text table t ≡ cond (bytes_eq specifier_text t) (Some specifier) (option_and_then (λ before. get_by_text before t) o))
    → (r t : List ℕ) → resolved_specifier_in_maps new r t ≡ cond (bytes_eq r referrer && bytes_eq t specifier_text) (Some (string_bytes specifier))
    (resolved_specifier_in_maps old r t)
resolved_specifier_in_maps-more old new referrer specifier_text specifier o table before outer inner r t =
    ap (λ x. option_map string_bytes (option_and_then (λ found. get_by_text found t) x)) (outer r)
    ∙ by (bytes_eq referrer r) refl (bytes_eq specifier_text t) refl
    ∙ ap (λ b. cond (b && bytes_eq specifier_text t) (Some (string_bytes specifier)) (resolved_specifier_in_maps old r t)) (bytes_eq_symm referrer r)
    ∙ ap (λ b. cond (bytes_eq r referrer && b) (Some (string_bytes specifier)) (resolved_specifier_in_maps old r t)) (bytes_eq_symm specifier_text t)
  where
    by : (b : Bool) → bytes_eq referrer r ≡ b → (d : Bool) → bytes_eq specifier_text t ≡ d
        → option_map string_bytes (option_and_then (λ found. get_by_text found t) (cond b (Some table) (get_by_text old r)))
        ≡ cond (b && d) (Some (string_bytes specifier)) (resolved_specifier_in_maps old r t)
    by false is d viewed = refl
    by true is true viewed = ap (option_map string_bytes) (inner t
        ∙ ap (λ d. cond d (Some specifier) (option_and_then (λ found. get_by_text found t) o)) viewed)
    by true is false viewed =
        ap (option_map string_bytes) (inner t ∙ ap (λ d. cond d (Some specifier) (option_and_then (λ found. get_by_text found t) o)) viewed
        ∙ ap (option_and_then (λ found. get_by_text found t)) (sym before ∙ ap (get_by_text old) ((bytes_eq-Decides referrer r).0 is)))

module _ (old : StringMap (StringMap (String Global))) (viewed : List ℕ) (referrer specifier_text specifier : String Global)
    (is : viewed ≡ string_bytes referrer)
  where
    -- The resolution is added to the existing map of its referrer.
    pub resolved_specifier_in_maps-into : (new : StringMap (StringMap (String Global))) (before after : StringMap (String Global))
        → get_by_text old viewed ≡ Some before
        → UpdatesBy string_eq (λ k. bytes_eq viewed (string_bytes k)) old new (Some after)
        → UpdatesBy string_eq (string_eq specifier_text) before after (Some specifier)
        → (r t : List ℕ) → resolved_specifier_in_maps new r t
        ≡ cond (bytes_eq r (string_bytes referrer) && bytes_eq t (string_bytes specifier_text)) (Some (string_bytes specifier))
        (resolved_specifier_in_maps old r t)
    resolved_specifier_in_maps-into new before after found outer inner =
        let by_viewed = hash_map_updates_text viewed old new (Some after) outer in
        resolved_specifier_in_maps-more old new (string_bytes referrer) (string_bytes specifier_text) specifier (Some before) after
        (ap (get_by_text old) (sym is)
        ∙ found) (λ r. by_viewed r ∙ ap (λ x. update bytes_eq (get_by_text old) x (Some after) r) is)
        (hash_map_updates_text (string_bytes specifier_text) before after (Some specifier) inner)

    -- The referrer is added with a new map that has the resolution.
    pub resolved_specifier_in_maps-first : (mid new : StringMap (StringMap (String Global))) (before after : StringMap (String Global)) → mid ≡ old
        → get_by_text old viewed ≡ None
        → before.entries ≡ [] → UpdatesBy string_eq (string_eq referrer) mid new (Some after)
        → UpdatesBy string_eq (string_eq specifier_text) before after (Some specifier)
        → (r t : List ℕ) → resolved_specifier_in_maps new r t
        ≡ cond (bytes_eq r (string_bytes referrer) && bytes_eq t (string_bytes specifier_text)) (Some (string_bytes specifier))
        (resolved_specifier_in_maps old r t)
    resolved_specifier_in_maps-first mid new before after same absent empty outer inner =
        resolved_specifier_in_maps-more old new (string_bytes referrer) (string_bytes specifier_text) specifier None after (ap (get_by_text old) (sym is)
        ∙ absent)
        (λ r. hash_map_updates_text (string_bytes referrer) mid new (Some after) outer r
        ∙ ap (λ m. update bytes_eq (get_by_text m) (string_bytes referrer) (Some after) r) same)
        (λ t. hash_map_updates_text (string_bytes specifier_text) before after (Some specifier) inner t
        ∙ ap (λ es. cond (bytes_eq (string_bytes specifier_text) t) (Some specifier) (lookup (λ k. bytes_eq t (string_bytes k)) es)) empty)

-- A test that fails for every entry finds none.
find_none : {A : Type 0} (p : A → Bool) (xs : List A) → ((j : ℕ) (y : A) → slice_get xs j ≡ Some y → p y ≡ true → ⊥) → find p xs ≡ None
find_none p [] none = refl
find_none {A} p (x ∷ xs) none = by (p x) refl (find_none p xs (λ j y at passes. none (suc j) y at passes))
  where
    by : (b : Bool) → p x ≡ b → find p xs ≡ None → find p (x ∷ xs) ≡ None
    by true is rest = absurd (none 0 x refl is)
    by false is rest = ap (λ b. cond b (Some x) (find p xs)) is ∙ rest

-- The search in a list with one more resolution, whose key is new.
pub found_more : (views : List Resolution) (n : ℕ) (x : Resolution) → HasNoRepeat (resolution_keys views) → slice_get views n ≡ Some x → (r t : List ℕ)
    → find_resolved_specifier (take n views ++ x ∷ []) r t
    ≡ cond (bytes_eq r x.referrer && bytes_eq t x.specifier_text) (Some x.specifier) (find_resolved_specifier (take n views) r t)
found_more views n x distinct at r t =
    ap (option_map (λ z. z.specifier)) (find-append test (take n views) (x ∷ [])) ∙ by (test x) refl
  where
    test : Resolution → Bool
    test z = bytes_eq r z.referrer && bytes_eq t z.specifier_text

    checked_at : (i : ℕ) (z : Resolution) → slice_get views i ≡ Some z → slice_get (resolution_keys views) i ≡ Some (z.referrer, z.specifier_text)
    checked_at i z here = slice_get-map (λ w. (w.referrer, w.specifier_text)) views i
        ∙ ap (option_map (λ (w : Resolution). (w.referrer, w.specifier_text))) here

    or_none : {A : Type 0} (o : Option A) → option_or o None ≡ o
    or_none None = refl
    or_none (Some a) = refl

    by : (b : Bool) → test x ≡ b → option_map (λ (z : Resolution). z.specifier) (option_or (find test (take n views)) (cond b (Some x) None))
        ≡ cond b (Some x.specifier) (option_map (λ (z : Resolution). z.specifier) (find test (take n views)))
    by true is =
        ap (λ o. option_map (λ (z : Resolution). z.specifier) (option_or o (Some x))) (find_none test (take n views) earlier)
      where
        earlier : (j : ℕ) (y : Resolution) → slice_get (take n views) j ≡ Some y → test y ≡ true → ⊥
        earlier j y there passes =
            let before = occurs_in_take n views j y there in
            let same = sym ((pair_eq-Decides r t y.referrer y.specifier_text).0 passes) ∙ (pair_eq-Decides r t x.referrer x.specifier_text).0 is in
            distinct n (x.referrer, x.specifier_text) (checked_at n x at, (j, before.0, checked_at j y before.1 ∙ ap Some same))
    by false is = ap (option_map (λ z. z.specifier)) (or_none (find test (take n views)))

-- The search after the next raw resolution is added.
pub found_next : (all : List RawResolution) (n : ℕ) (x : RawResolution) → HasNoRepeat (resolution_keys (map resolution_view all)) → n < length all
    → x ≡ get_or all n x → (r t : List ℕ)
    → find_resolved_specifier (take (n + 1) (map resolution_view all)) r t ≡ cond (bytes_eq r (string_bytes x.referrer)
    && bytes_eq t (string_bytes x.specifier_text)) (Some (string_bytes x.specifier)) (find_resolved_specifier (take n (map resolution_view all)) r t)
found_next all n x distinct inside is r t =
    let here = slice_get-map resolution_view all n ∙ ap (option_map resolution_view) (slice_get_read all (length all) n x refl inside is) in
    ap (λ xs. find_resolved_specifier xs r t) (take_more (map resolution_view all) n (resolution_view x) (rw length-map inside)
    ∙ ap (λ z. take n (map resolution_view all) ++ z ∷ []) (get_or-map resolution_view all n x (resolution_view x) inside ∙ ap resolution_view (sym is)))
    ∙ found_more (map resolution_view all) n (resolution_view x) distinct here r t
