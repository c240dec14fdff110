-- A faultless graph with a put module has the faults of what is put, and no other.
use Rattle.std.proofs.Common.{◌≡◌, ℕ, zero, suc, ◌+◌, ◌<◌, Bool, true, false, true≢false, not, ◌⊎◌, inl, inr, ⊎_elim, cond, List, [], ◌∷◌, ◌++◌}
use Rattle.std.proofs.Common.{Some, length, map, slice_get, refl, sym, ap, subst, ◌∙◌, arith}
use Rattle.std.specs.Prelude.{filter, if◌then◌else◌, string_bytes}
use Rattle.std.specs.Map.{lookup}
use Rattle.std.specs.Str.{bytes_eq}
use Rattle.std.proofs.lemmas.List.{map-append}
use Rattle.std.proofs.lemmas.Option.{none-some, same_Some}
use Rattle.std.proofs.lemmas.Slice.Eq.{bytes_eq-Decides}
use Rattle.symbols_ast.specs.declared.graph.faults.GraphFault.{GraphFault}
use Rattle.symbols_ast.specs.declared.graph.faults.GraphFault.TheVariants as fault
use Rattle.symbols_ast.specs.Graph.{GraphView, ModuleView, Resolution}
use Rattle.symbols_graph.specs.GraphFaults.{IsFaultAt, IsFaultTriedBefore, IsFaultlessGraph, IsFirstGraphFault, graph_fault_rank}
use Rattle.symbols_graph.specs.GraphFaults.{module_specifiers, resolution_keys}
use Rattle.symbols_graph.specs.PutModules.{modules_with_put_module, resolution_with_referrer, is_resolution_of_other_referrer, graph_with_put_module}
use Rattle.symbols_graph.specs.PutModules.{IsPutFaultAt, IsFaultlessPut, IsFirstPutFault}
use Rattle.symbols_graph.specs.PutModules.{IsSameGraph}
use Rattle.symbols_graph.specs.Repeats.{IsRepeatedEntryAt}
use Rattle.symbols_graph.proofs.PutModules.{resolved_with}

-- ---- lists in which an entry isn't repeated

-- The list has the entry.
abbrev Occurs : {A : Type 0} → List A → A → Type 0
Occurs xs x = (j : ℕ) × (slice_get xs j ≡ Some x)

-- No entry that is x repeats an earlier one.
abbrev HasNoRepeatOf : {A : Type 0} → List A → A → Type 0
HasNoRepeatOf xs x = (i : ℕ) → IsRepeatedEntryAt xs i x → ⊥

none_in_tail : {A : Type 0} (y : A) (xs : List A) (x : A) → HasNoRepeatOf (y ∷ xs) x → HasNoRepeatOf xs x
none_in_tail y xs x none i repeat = none (suc i) (repeat.0, (suc repeat.1.0, omega (arith, repeat.1.1), repeat.1.2))

not_later : {A : Type 0} (y : A) (xs : List A) (x : A) → HasNoRepeatOf (y ∷ xs) x → y ≡ x → Occurs xs x → ⊥
not_later y xs x none is at = none (suc at.0) (at.1, (0, omega arith, ap Some is))

none_with_head : {A : Type 0} (y : A) (xs : List A) (x : A) → (y ≡ x → Occurs xs x → ⊥) → HasNoRepeatOf xs x → HasNoRepeatOf (y ∷ xs) x
none_with_head y xs x new none zero repeat = absurd (omega (arith, repeat.1.1))
none_with_head y xs x new none (suc i) repeat = by repeat.1.0 repeat.1.1 repeat.1.2
  where
    by : (j : ℕ) → j < suc i → slice_get (y ∷ xs) j ≡ Some x → ⊥
    by zero below at = new (same_Some y x at) (i, repeat.0)
    by (suc j) below at = none i (repeat.0, (j, omega (arith, below), at))

-- An entry of joined lists is one of the first or of the second.
occurs_in_either : {A : Type 0} (xs ys : List A) (x : A) → Occurs (xs ++ ys) x → Occurs xs x ⊎ Occurs ys x
occurs_in_either [] ys x at = inr at
occurs_in_either (y ∷ xs) ys x (zero, is) = inl (0, is)
occurs_in_either (y ∷ xs) ys x (suc j, is) = elim (occurs_in_either xs ys x (j, is)) [
  | inl a ↦ inl (suc a.0, a.1)
  | inr b ↦ inr b
]

-- If the first list has no repeat of an entry, and not both have it, a repeat is one in the second.
repeat_in_second : {A : Type 0} (xs ys : List A) (x : A) → HasNoRepeatOf xs x → (Occurs xs x → Occurs ys x → ⊥) → (i : ℕ) → IsRepeatedEntryAt (xs ++ ys) i x
    → (k : ℕ) × (i ≡ length xs + k) × IsRepeatedEntryAt ys k x
repeat_in_second [] ys x none apart i repeat = (i, omega arith, repeat)
repeat_in_second (y ∷ xs) ys x none apart zero repeat = absurd (omega (arith, repeat.1.1))
repeat_in_second {A} (y ∷ xs) ys x none apart (suc i) repeat =
    by repeat.1.0 repeat.1.1 repeat.1.2
    (λ later. repeat_in_second xs ys x (none_in_tail y xs x none) (λ a b. apart (suc a.0, a.1) b) i later)
  where
    by : (j : ℕ) → j < suc i → slice_get (y ∷ xs ++ ys) j ≡ Some x
        → (IsRepeatedEntryAt (xs ++ ys) i x → (k : ℕ) × (i ≡ length xs + k) × IsRepeatedEntryAt ys k x)
        → (k : ℕ) × (suc i ≡ length (y ∷ xs) + k) × IsRepeatedEntryAt ys k x
    by zero below at further = elim (occurs_in_either xs ys x (i, repeat.0)) [
      | inl a ↦ absurd (not_later y xs x none (same_Some y x at) a)
      | inr b ↦ absurd (apart (0, at) b)
    ]
    by (suc j) below at further =
        let later = further (repeat.0, (j, omega (arith, below), at)) in
        (later.0, omega (arith, later.1), later.2)

-- An entry of the second list is one of the joined lists, that many further on.
entry_after : {A : Type 0} (xs ys : List A) (i : ℕ) (x : A) → slice_get ys i ≡ Some x → (k : ℕ) × (k ≡ length xs + i) × (slice_get (xs ++ ys) k ≡ Some x)
entry_after [] ys i x at = (i, omega arith, at)
entry_after (y ∷ xs) ys i x at = let later = entry_after xs ys i x at in (suc later.0, omega (arith, later.1), later.2)

repeat_after : {A : Type 0} (xs ys : List A) (i : ℕ) (x : A) → IsRepeatedEntryAt ys i x → (k : ℕ) × (k ≡ length xs + i) × IsRepeatedEntryAt (xs ++ ys) k x
repeat_after xs ys i x repeat =
    let here = entry_after xs ys i x repeat.0 in
    let earlier = entry_after xs ys repeat.1.0 x repeat.1.2 in
    (here.0, here.1, (here.2, (earlier.0, omega (arith, here.1, earlier.1, repeat.1.1), earlier.2)))

-- ---- modules

-- A module of the new ones is the put one or an old one.
module_with : (m : ModuleView) (xs : List ModuleView) (x : ModuleView) → Occurs (modules_with_put_module m xs) x → (m ≡ x) ⊎ Occurs xs x
module_with m [] x (zero, is) = inl (same_Some m x is)
module_with m [] x (suc j, is) = absurd (none-some x is)
module_with m (y ∷ xs) x at = by (bytes_eq m.specifier y.specifier) (λ later. module_with m xs x later) at
  where
    by : (b : Bool) → (Occurs (modules_with_put_module m xs) x → (m ≡ x) ⊎ Occurs xs x) → Occurs (if b then m ∷ xs else y ∷ modules_with_put_module m xs) x
        → (m ≡ x) ⊎ Occurs (y ∷ xs) x
    by true further (zero, is) = inl (same_Some m x is)
    by true further (suc j, is) = inr (suc j, is)
    by false further (zero, is) = inr (0, is)
    by false further (suc j, is) = elim (further (j, is)) [
      | inl e ↦ inl e
      | inr a ↦ inr (suc a.0, a.1)
    ]

-- The put module is among the new ones, and those before it are old ones.
abbrev IsIndexOfPut : ModuleView → List ModuleView → List ModuleView → ℕ → Type 0
IsIndexOfPut m olds news k = (slice_get news k ≡ Some m) × ((i : ℕ) (x : ModuleView) → i < k → slice_get news i ≡ Some x → Occurs olds x)

index_of_put : (m : ModuleView) (xs : List ModuleView) → (k : ℕ) × IsIndexOfPut m xs (modules_with_put_module m xs) k
index_of_put m [] = (0, (refl, λ i x below at. absurd (omega (arith, below))))
index_of_put m (y ∷ xs) = by (bytes_eq m.specifier y.specifier) (index_of_put m xs)
  where
    by : (b : Bool) → (k : ℕ) × IsIndexOfPut m xs (modules_with_put_module m xs) k
        → (k : ℕ) × IsIndexOfPut m (y ∷ xs) (if b then m ∷ xs else y ∷ modules_with_put_module m xs) k
    by true further = (0, (refl, λ i x below at. absurd (omega (arith, below))))
    by false further = (suc further.0, (further.1.0, before))
      where
        before : (i : ℕ) (x : ModuleView) → i < suc further.0 → slice_get (y ∷ modules_with_put_module m xs) i ≡ Some x → Occurs (y ∷ xs) x
        before zero x below at = (0, at)
        before (suc i) x below at = let old = further.1.1 i x (omega (arith, below)) at in (suc old.0, old.1)

specifier_with : (m : ModuleView) (xs : List ModuleView) (s : List ℕ) → Occurs (module_specifiers (modules_with_put_module m xs)) s
    → (m.specifier ≡ s) ⊎ Occurs (module_specifiers xs) s
specifier_with m [] s (zero, is) = inl (same_Some m.specifier s is)
specifier_with m [] s (suc j, is) = absurd (none-some s is)
specifier_with m (y ∷ xs) s at = by (bytes_eq m.specifier y.specifier) (λ later. specifier_with m xs s later) at
  where
    by : (b : Bool) → (Occurs (module_specifiers (modules_with_put_module m xs)) s → (m.specifier ≡ s) ⊎ Occurs (module_specifiers xs) s)
        → Occurs (module_specifiers (if b then m ∷ xs else y ∷ modules_with_put_module m xs)) s → (m.specifier ≡ s) ⊎ Occurs (module_specifiers (y ∷ xs)) s
    by true further (zero, is) = inl (same_Some m.specifier s is)
    by true further (suc j, is) = inr (suc j, is)
    by false further (zero, is) = inr (0, is)
    by false further (suc j, is) = elim (further (j, is)) [
      | inl e ↦ inl e
      | inr a ↦ inr (suc a.0, a.1)
    ]

-- The put module repeats no specifier.
specifiers_with : (m : ModuleView) (xs : List ModuleView) (s : List ℕ) → HasNoRepeatOf (module_specifiers xs) s
    → HasNoRepeatOf (module_specifiers (modules_with_put_module m xs)) s
specifiers_with m [] s none = none_with_head m.specifier [] s (λ is at. none-some s at.1) none
specifiers_with m (y ∷ xs) s none = by (bytes_eq m.specifier y.specifier) refl (specifiers_with m xs s (none_in_tail y.specifier (module_specifiers xs) s none))
  where
    by : (b : Bool) → bytes_eq m.specifier y.specifier ≡ b → HasNoRepeatOf (module_specifiers (modules_with_put_module m xs)) s
        → HasNoRepeatOf (module_specifiers (if b then m ∷ xs else y ∷ modules_with_put_module m xs)) s
    by true is later = none_with_head m.specifier (module_specifiers xs) s
        (λ e at. not_later y.specifier (module_specifiers xs) s none (sym ((bytes_eq-Decides m.specifier y.specifier).0 is) ∙ e) at)
        (none_in_tail y.specifier (module_specifiers xs) s none)
    by false is later = none_with_head y.specifier (module_specifiers (modules_with_put_module m xs)) s new later
      where
        new : y.specifier ≡ s → Occurs (module_specifiers (modules_with_put_module m xs)) s → ⊥
        new e at = elim (specifier_with m xs s at) [
          | inl same ↦ true≢false (sym ((bytes_eq-Decides m.specifier y.specifier).1 (same ∙ sym e)) ∙ is)
          | inr old ↦ not_later y.specifier (module_specifiers xs) s none e old
        ]

-- ---- resolutions

module _ (specifier : List ℕ) where
  abbrev remaining : List Resolution → List Resolution
  remaining olds = filter (is_resolution_of_other_referrer specifier) olds

  other_occurs : (olds : List Resolution) (k : List ℕ × List ℕ) → Occurs (resolution_keys (remaining olds)) k → Occurs (resolution_keys olds) k
  other_occurs [] k at = at
  other_occurs (x ∷ xs) k at = by (bytes_eq specifier x.referrer) (λ later. other_occurs xs k later) at
    where
      by : (b : Bool) → (Occurs (resolution_keys (remaining xs)) k → Occurs (resolution_keys xs) k)
          → Occurs (resolution_keys (if not b then x ∷ remaining xs else remaining xs)) k → Occurs (resolution_keys (x ∷ xs)) k
      by true further at = let later = further at in (suc later.0, later.1)
      by false further (zero, is) = (0, is)
      by false further (suc j, is) = let later = further (j, is) in (suc later.0, later.1)

  remaining_without_repeat : (olds : List Resolution) (k : List ℕ × List ℕ) → HasNoRepeatOf (resolution_keys olds) k
      → HasNoRepeatOf (resolution_keys (remaining olds)) k
  remaining_without_repeat [] k none = none
  remaining_without_repeat (x ∷ xs) k none = by (bytes_eq specifier x.referrer)
      (remaining_without_repeat xs k (none_in_tail (x.referrer, x.specifier_text) (resolution_keys xs) k none))
    where
      by : (b : Bool) → HasNoRepeatOf (resolution_keys (remaining xs)) k → HasNoRepeatOf (resolution_keys (if not b then x ∷ remaining xs else remaining xs)) k
      by true later = later
      by false later = none_with_head (x.referrer, x.specifier_text) (resolution_keys (remaining xs)) k
          (λ e at. not_later (x.referrer, x.specifier_text) (resolution_keys xs) k none e (other_occurs xs k at)) later

  -- The referrer of a former resolution that stays is another.
  other_referrer : (olds : List Resolution) (k : List ℕ × List ℕ) → Occurs (resolution_keys (remaining olds)) k → bytes_eq specifier k.0 ≡ false
  other_referrer [] k at = absurd (none-some k at.1)
  other_referrer (x ∷ xs) k at = by (bytes_eq specifier x.referrer) refl (λ later. other_referrer xs k later) at
    where
      by : (b : Bool) → bytes_eq specifier x.referrer ≡ b → (Occurs (resolution_keys (remaining xs)) k → bytes_eq specifier k.0 ≡ false)
          → Occurs (resolution_keys (if not b then x ∷ remaining xs else remaining xs)) k → bytes_eq specifier k.0 ≡ false
      by true other further at = further at
      by false other further (zero, is) = sym (ap (λ (p : List ℕ × List ℕ). bytes_eq specifier p.0) (same_Some (x.referrer, x.specifier_text) k is)) ∙ other
      by false other further (suc j, is) = further (j, is)

  abbrev news : List (List ℕ × List ℕ) → List Resolution
  news resolved = map (resolution_with_referrer specifier) resolved

  -- A new resolution has this referrer, and one of the specifier texts.
  new_key : (resolved : List (List ℕ × List ℕ)) (i : ℕ) (k : List ℕ × List ℕ) → slice_get (resolution_keys (news resolved)) i ≡ Some k
      → (specifier ≡ k.0) × (slice_get (map (λ (r : List ℕ × List ℕ). r.0) resolved) i ≡ Some k.1)
  new_key [] i k at = absurd (none-some k at)
  new_key (x ∷ xs) zero k at =
      let same : ◌≡◌ {A = List ℕ × List ℕ} (specifier, x.0) k = same_Some (specifier, x.0) k at in
      (ap (λ (p : List ℕ × List ℕ). p.0) same, ap Some (ap (λ (p : List ℕ × List ℕ). p.1) same))
  new_key (x ∷ xs) (suc i) k at = new_key xs i k at

  key_of_new : (resolved : List (List ℕ × List ℕ)) (i : ℕ) (t : List ℕ) → slice_get (map (λ (r : List ℕ × List ℕ). r.0) resolved) i ≡ Some t
      → slice_get (resolution_keys (news resolved)) i ≡ Some (specifier, t)
  key_of_new [] i t at = absurd (none-some t at)
  key_of_new (x ∷ xs) zero t at = ap Some (ap {B = List ℕ × List ℕ} (λ (u : List ℕ). (specifier, u)) (same_Some x.0 t at))
  key_of_new (x ∷ xs) (suc i) t at = key_of_new xs i t at

  -- A repeated key is that of a new resolution, if the former ones have no repeat of it.
  repeated_key : (olds : List Resolution) (resolved : List (List ℕ × List ℕ)) (k : List ℕ × List ℕ) → HasNoRepeatOf (resolution_keys olds) k → (i : ℕ)
      → IsRepeatedEntryAt (resolution_keys (remaining olds ++ news resolved)) i k
      → (n : ℕ) × (i ≡ length (resolution_keys (remaining olds)) + n) × (specifier ≡ k.0) × IsRepeatedEntryAt
      (map (λ (r : List ℕ × List ℕ). r.0) resolved) n k.1
  repeated_key olds resolved k none i repeat =
      let keys = map-append (λ (r : Resolution). (r.referrer, r.specifier_text)) (remaining olds) (news resolved) in
      let joined = repeat_in_second (resolution_keys (remaining olds)) (resolution_keys (news resolved)) k (remaining_without_repeat olds k none) apart i
      (subst (λ (ks : List (List ℕ × List ℕ)). IsRepeatedEntryAt ks i k) keys repeat) in
      let here = new_key resolved joined.0 k joined.2.0 in
      let earlier = new_key resolved joined.2.1.0 k joined.2.1.2 in
      (joined.0, joined.1, here.0, (here.1, (joined.2.1.0, joined.2.1.1, earlier.1)))
    where
      apart : Occurs (resolution_keys (remaining olds)) k → Occurs (resolution_keys (news resolved)) k → ⊥
      apart a b = true≢false (sym ((bytes_eq-Decides specifier k.0).1 (new_key resolved b.0 k b.1).0) ∙ other_referrer olds k a)

  -- A repeated specifier text is a repeated key.
  repeated_text : (olds : List Resolution) (resolved : List (List ℕ × List ℕ)) (n : ℕ) (t : List ℕ)
      → IsRepeatedEntryAt (map (λ (r : List ℕ × List ℕ). r.0) resolved) n t
      → (i : ℕ) × (i ≡ length (resolution_keys (remaining olds)) + n) × IsRepeatedEntryAt (resolution_keys (remaining olds ++ news resolved)) i (specifier, t)
  repeated_text olds resolved n t repeat =
      let keys = map-append (λ (r : Resolution). (r.referrer, r.specifier_text)) (remaining olds) (news resolved) in
      let joined = repeat_after (resolution_keys (remaining olds)) (resolution_keys (news resolved)) n (specifier, t)
      (key_of_new resolved n t repeat.0, (repeat.1.0, repeat.1.1, key_of_new resolved repeat.1.0 t repeat.1.2)) in
      (joined.0, joined.1, subst (λ (ks : List (List ℕ × List ℕ)). IsRepeatedEntryAt ks joined.0 (specifier, t)) (sym keys) joined.2)

-- ---- faults

module _ (graph : GraphView) (m : ModuleView) (resolved : List (List ℕ × List ℕ)) (none : IsFaultlessGraph graph) where
  -- A fault of the graph with the module is one of what is put.
  put_fault : (i : ℕ) (f : GraphFault) → IsFaultAt (graph_with_put_module graph m resolved) i f → (n : ℕ) × IsPutFaultAt graph.modules m resolved n f
  put_fault i fault.OutOfMemory occurs = absurd occurs
  put_fault i fault.TooManyModules occurs = (i, occurs)
  put_fault i (fault.DuplicateSpecifier s) occurs =
      absurd (specifiers_with m graph.modules (string_bytes s) (λ j repeat. none j (fault.DuplicateSpecifier s) repeat) i occurs)
  put_fault i (fault.DuplicateRedirect s) occurs = absurd (none i (fault.DuplicateRedirect s) occurs)
  put_fault i (fault.RedirectToRedirect s) occurs = absurd (none i (fault.RedirectToRedirect s) occurs)
  put_fault i (fault.DuplicateResolution r t) occurs =
      let found = repeated_key m.specifier graph.resolutions resolved (string_bytes r, string_bytes t)
      (λ j repeat. none j (fault.DuplicateResolution r t) repeat) i occurs in
      (found.0, (found.2, found.3))
  put_fault i (fault.Tree s found) occurs = elim (module_with m graph.modules occurs.0 (i, occurs.1)) [
    | inl same ↦ (0, subst (λ (x : ModuleView). IsPutFaultAt graph.modules x resolved 0 (fault.Tree s found)) (sym same) (occurs.2, occurs.3))
    | inr old ↦ absurd (none old.0 (fault.Tree s found) (occurs.0, old.1, occurs.2, occurs.3))
  ]

  pub faultless_with : IsFaultlessPut graph.modules m resolved → IsFaultlessGraph (graph_with_put_module graph m resolved)
  faultless_with put i f occurs = let found = put_fault i f occurs in put found.0 f found.1

  pub refused_with : (g : GraphFault) → IsFirstPutFault graph.modules m resolved g → IsFirstGraphFault (graph_with_put_module graph m resolved) g
  refused_with fault.OutOfMemory first = absurd first.1
  refused_with fault.TooManyModules first = (first.0, first.1, before)
    where
      before : (i : ℕ) (f : GraphFault) → IsFaultTriedBefore i f first.0 fault.TooManyModules → IsFaultAt (graph_with_put_module graph m resolved) i f → ⊥
      before i fault.TooManyModules earlier occurs = first.2 i fault.TooManyModules earlier occurs
      before i fault.OutOfMemory earlier occurs = occurs
      before i (fault.DuplicateSpecifier s) earlier occurs = ⊎_elim (λ lower. omega (arith, lower)) (λ same. omega (arith, same.0)) earlier
      before i (fault.DuplicateRedirect s) earlier occurs = ⊎_elim (λ lower. omega (arith, lower)) (λ same. omega (arith, same.0)) earlier
      before i (fault.RedirectToRedirect s) earlier occurs = ⊎_elim (λ lower. omega (arith, lower)) (λ same. omega (arith, same.0)) earlier
      before i (fault.DuplicateResolution r t) earlier occurs = ⊎_elim (λ lower. omega (arith, lower)) (λ same. omega (arith, same.0)) earlier
      before i (fault.Tree s found) earlier occurs = ⊎_elim (λ lower. omega (arith, lower)) (λ same. omega (arith, same.0)) earlier
  refused_with (fault.DuplicateSpecifier s) first = absurd first.1
  refused_with (fault.DuplicateRedirect s) first = absurd first.1
  refused_with (fault.RedirectToRedirect s) first = absurd first.1
  refused_with (fault.DuplicateResolution r t) first =
      let at = repeated_text m.specifier graph.resolutions resolved first.0 (string_bytes t) first.1.1 in (
        at.0,
        subst (λ (q : List ℕ). IsRepeatedEntryAt (resolution_keys (graph_with_put_module graph m resolved).resolutions) at.0
            (q, string_bytes t)) first.1.0 at.2,
        λ i f earlier occurs. ⊎_elim (λ lower. let found = put_fault i f occurs in first.2 found.0 f (inl lower) found.1)
            (λ same. before at.0 at.1 i f same.0 same.1 occurs) earlier,
      )
    where
      before : (k : ℕ) → k ≡ length (resolution_keys (remaining m.specifier graph.resolutions)) + first.0 → (i : ℕ) (f : GraphFault)
          → graph_fault_rank f ≡ 4 → i < k → IsFaultAt (graph_with_put_module graph m resolved) i f → ⊥
      before k is i fault.OutOfMemory rank below occurs = occurs
      before k is i fault.TooManyModules rank below occurs = omega (arith, rank)
      before k is i (fault.DuplicateSpecifier s) rank below occurs = omega (arith, rank)
      before k is i (fault.DuplicateRedirect s) rank below occurs = omega (arith, rank)
      before k is i (fault.RedirectToRedirect s) rank below occurs = omega (arith, rank)
      before k is i (fault.DuplicateResolution q u) rank below occurs =
          let found = repeated_key m.specifier graph.resolutions resolved (string_bytes q, string_bytes u)
          (λ j repeat. none j (fault.DuplicateResolution q u) repeat) i occurs in
          first.2 found.0 (fault.DuplicateResolution q u) (inr (refl, omega (arith, is, below, found.1))) (found.2, found.3)
      before k is i (fault.Tree s found) rank below occurs = omega (arith, rank)
  refused_with (fault.Tree s found) first =
      let at = index_of_put m graph.modules in (
        at.0,
        (m, at.1.0, first.1.0, first.1.1),
        λ i f earlier occurs. ⊎_elim (λ lower. let other = put_fault i f occurs in first.2 other.0 f (inl lower) other.1)
            (λ same. before at.0 at.1.1 i f same.0 same.1 occurs) earlier,
      )
    where
      before : (k : ℕ) → ((i : ℕ) (x : ModuleView) → i < k → slice_get (modules_with_put_module m graph.modules) i ≡ Some x → Occurs graph.modules x)
          → (i : ℕ) (f : GraphFault) → graph_fault_rank f ≡ 5 → i < k → IsFaultAt (graph_with_put_module graph m resolved) i f → ⊥
      before k olds i fault.OutOfMemory rank below occurs = occurs
      before k olds i fault.TooManyModules rank below occurs = omega (arith, rank)
      before k olds i (fault.DuplicateSpecifier x) rank below occurs = omega (arith, rank)
      before k olds i (fault.DuplicateRedirect x) rank below occurs = omega (arith, rank)
      before k olds i (fault.RedirectToRedirect x) rank below occurs = omega (arith, rank)
      before k olds i (fault.DuplicateResolution q u) rank below occurs = omega (arith, rank)
      before k olds i (fault.Tree x y) rank below occurs =
          let old = olds i occurs.0 below occurs.1 in
          none old.0 (fault.Tree x y) (occurs.0, old.1, occurs.2, occurs.3)

-- ---- views

pub same_with : (raw graph : GraphView) (m : ModuleView) (resolved : List (List ℕ × List ℕ)) → IsSameGraph raw graph
    → IsSameGraph (graph_with_put_module raw m resolved) (graph_with_put_module graph m resolved)
same_with raw graph m resolved same = (
  ap (modules_with_put_module m) same.0,
  same.1,
  λ r t. resolved_with m.specifier r t graph.resolutions resolved
      ∙ ap (cond (bytes_eq r m.specifier) (lookup (bytes_eq t) resolved)) (same.2 r t)
      ∙ sym (resolved_with m.specifier r t raw.resolutions resolved),
)
