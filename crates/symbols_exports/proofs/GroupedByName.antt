-- Candidates grouped by name: what the groups hold, their order, and how they are made one by one.
use Rattle.std.proofs.Common.{◌≡◌, ℕ, ◌⊎◌, inl, inr, Bool, true, false, not, List, [], ◌∷◌, ◌++◌}
use Rattle.std.proofs.Common.{map, append-nil, append_assoc, refl, sym, ap, subst, ◌∙◌, true≢false}
use Rattle.std.specs.Prelude.{Contains, filter, fold, if◌then◌else◌}
use Rattle.std.specs.Str.{bytes_eq}
use Rattle.std.proofs.lemmas.Cmp.{nat_list_eq_equiv}
use Rattle.std.proofs.lemmas.List.Elements.{filter-append}
use Rattle.std.proofs.lemmas.Slice.Eq.{bytes_eq-Decides}
use Rattle.std.proofs.lemmas.Bool.{not-true}
use Rattle.symbols_exports.specs.SharedNames.{NameWithExporters}
use Rattle.symbols_exports.specs.SharedNameLists.{grouped_by_name, has_several_exporters_first_along_star, groups_of_several_first_along_star}
use Rattle.symbols_exports.specs.SharedNameLists.{shared_names_among}
use Rattle.symbols_exports.specs.inner.Collecting.{groups_with_exporter, exporters_with_later_exporter}
use Rattle.symbols_exports.proofs.SortedLists.{IsSorted, first_or_later, contains_first, contains_later}
use Rattle.symbols_exports.proofs.SortedLists.{contains_nothing, filtered_from, contains_filtered, sorted_filter}

same_name : (p q : List ℕ) → bytes_eq p q ≡ true → p ≡ q
same_name p q is = (bytes_eq-Decides p q).0 is

is_same : (p q : List ℕ) → p ≡ q → bytes_eq p q ≡ true
is_same p q same = (bytes_eq-Decides p q).1 same

-- byte inequality is symmetric
other_name : (p q : List ℕ) → bytes_eq p q ≡ false → bytes_eq q p ≡ false
other_name p q other = by (bytes_eq q p) refl
  where
    by : (b : Bool) → bytes_eq q p ≡ b → b ≡ false
    by true is = absurd (true≢false (sym (is_same p q (sym (same_name q p is))) ∙ other))
    by false is = refl

retained_first : {A : Type 0} (p : A → Bool) (x : A) (xs : List A) → p x ≡ true → filter p (x ∷ xs) ≡ x ∷ filter p xs
retained_first p x xs is = rw is refl

left_out : {A : Type 0} (p : A → Bool) (x : A) (xs : List A) → p x ≡ false → filter p (x ∷ xs) ≡ filter p xs
left_out p x xs is = rw is refl

-- x is the first of the list
abbrev pub IsFirst : {A : Type 0} → A → List A → Type 0
IsFirst {A} x xs = (rest : List A) × (xs ≡ x ∷ rest)

-- the groups with one more element, after all those of its name
abbrev pub with_member : {A : Type 0} → (A → List ℕ) → List (NameWithExporters A) → A → List (NameWithExporters A)
with_member name [] x = record { name = name x; exporters = x ∷ [] } ∷ []
with_member name (group ∷ groups) x = if bytes_eq (name x) group.name then record { name = group.name; exporters = group.exporters ++ x ∷ [] } ∷ groups
    else group ∷ with_member name groups x

module _ {A : Type 0} (name : A → List ℕ) where
  -- the exporters of a group are all that have its name, in order
  pub exporters_are : (xs : List A) (group : NameWithExporters A) → Contains (grouped_by_name name xs) group
      → group.exporters ≡ filter (λ y. bytes_eq group.name (name y)) xs
  exporters_are [] group has = absurd (contains_nothing group has)
  exporters_are (x ∷ xs) group has = by (first_or_later (record { name = name x; exporters = x ∷ filter (λ y. bytes_eq (name x) (name y)) xs })
      (filter (λ (g : NameWithExporters A). not (bytes_eq (name x) g.name)) (grouped_by_name name xs)) group has) (exporters_are xs group)
    where
      first : NameWithExporters A
      first = record { name = name x; exporters = x ∷ filter (λ y. bytes_eq (name x) (name y)) xs }

      by : (first ≡ group) ⊎ Contains (filter (λ (g : NameWithExporters A). not (bytes_eq (name x) g.name)) (grouped_by_name name xs)) group
          → (Contains (grouped_by_name name xs) group → group.exporters ≡ filter (λ y. bytes_eq group.name (name y)) xs)
          → group.exporters ≡ filter (λ y. bytes_eq group.name (name y)) (x ∷ xs)
      by (inl same) rest = subst (λ (g : NameWithExporters A). g.exporters ≡ filter (λ y. bytes_eq g.name (name y)) (x ∷ xs)) same
          (sym (retained_first (λ y. bytes_eq (name x) (name y)) x xs (nat_list_eq_equiv.refl (name x))))
      by (inr later) rest =
          let from = filtered_from (λ (g : NameWithExporters A). not (bytes_eq (name x) g.name)) (grouped_by_name name xs) group later in
          rest from.0 ∙ sym (left_out (λ y. bytes_eq group.name (name y)) x xs
          (other_name (name x) group.name (not-true (bytes_eq (name x) group.name) from.1)))

  -- each name has a group
  pub has_group : (xs : List A) (x : A) → Contains xs x → (group : NameWithExporters A) × Contains (grouped_by_name name xs) group × (group.name ≡ name x)
  has_group [] x has = absurd (contains_nothing x has)
  has_group (w ∷ xs) x has = by (first_or_later w xs x has) (has_group xs x)
    where
      first : NameWithExporters A
      first = record { name = name w; exporters = w ∷ filter (λ y. bytes_eq (name w) (name y)) xs }

      shadowed : List (NameWithExporters A)
      shadowed = filter (λ (g : NameWithExporters A). not (bytes_eq (name w) g.name)) (grouped_by_name name xs)

      by : (w ≡ x) ⊎ Contains xs x → (Contains xs x → (group : NameWithExporters A) × Contains (grouped_by_name name xs) group × (group.name ≡ name x))
          → (group : NameWithExporters A) × Contains (grouped_by_name name (w ∷ xs)) group × (group.name ≡ name x)
      by (inl same) rest = (first, contains_first first shadowed, ap name same)
      by (inr later) rest = retained (rest later) (bytes_eq (name w) (rest later).0.name) refl
        where
          retained : (found : (group : NameWithExporters A) × Contains (grouped_by_name name xs) group × (group.name ≡ name x)) → (b : Bool)
              → bytes_eq (name w) found.0.name ≡ b → (group : NameWithExporters A) × Contains (grouped_by_name name (w ∷ xs)) group × (group.name ≡ name x)
          retained found true is = (first, contains_first first shadowed, same_name (name w) found.0.name is ∙ found.2)
          retained found false is = (
            found.0,
            contains_later first shadowed found.0
                (contains_filtered (λ (g : NameWithExporters A). not (bytes_eq (name w) g.name)) (grouped_by_name name xs) found.0 found.1 (ap not is)),
            found.2,
          )

  -- the groups are in the order of their first elements
  abbrev pub FirstsInOrder : (A → A → Type 0) → NameWithExporters A → NameWithExporters A → Type 0
  FirstsInOrder R g h = (x y : A) → IsFirst x g.exporters → IsFirst y h.exporters → R x y

  pub groups_sorted : (R : A → A → Type 0) (xs : List A) → IsSorted R xs → IsSorted (FirstsInOrder R) (grouped_by_name name xs)
  groups_sorted R [] sorted = tt
  groups_sorted R (w ∷ xs) sorted = (
    following,
    sorted_filter (FirstsInOrder R) (λ (g : NameWithExporters A). not (bytes_eq (name w) g.name)) (grouped_by_name name xs)
        (groups_sorted R xs sorted.1),
  )
    where
      same_first : (x : A) (rest all : List A) → w ∷ all ≡ x ∷ rest → w ≡ x
      same_first x rest all same = cc

      following : (h : NameWithExporters A) → Contains (filter (λ (g : NameWithExporters A). not (bytes_eq (name w) g.name)) (grouped_by_name name xs)) h
          → FirstsInOrder R (record { name = name w; exporters = w ∷ filter (λ y. bytes_eq (name w) (name y)) xs }) h
      following h has = λ x y first_x first_y.
          let in_groups = (filtered_from (λ (g : NameWithExporters A). not (bytes_eq (name w) g.name)) (grouped_by_name name xs) h has).0 in
          let in_exporters : Contains (filter (λ z. bytes_eq h.name (name z)) xs) y =
          subst (λ zs. Contains zs y) (sym first_y.1 ∙ exporters_are xs h in_groups) (contains_first y first_y.0) in
          subst (λ z. R z y) (same_first x first_x.0 (filter (λ z. bytes_eq (name w) (name z)) xs) first_x.1)
          (sorted.0 y (filtered_from (λ z. bytes_eq h.name (name z)) xs y in_exporters).0)

  -- ---- one more candidate

  abbrev shadowed_than : List ℕ → List (NameWithExporters A) → List (NameWithExporters A)
  shadowed_than q groups = filter (λ (g : NameWithExporters A). not (bytes_eq q g.name)) groups

  -- it is added to the group of its name, which is left out as a whole
  left_out_too : (q : List ℕ) (groups : List (NameWithExporters A)) (x : A) → bytes_eq q (name x) ≡ true
      → shadowed_than q (with_member name groups x) ≡ shadowed_than q groups
  left_out_too q [] x is = left_out (λ (g : NameWithExporters A). not (bytes_eq q g.name)) (record { name = name x; exporters = x ∷ [] }) [] (ap not is)
  left_out_too q (g ∷ groups) x is = by (bytes_eq (name x) g.name) refl (left_out_too q groups x is)
    where
      by : (b : Bool) → bytes_eq (name x) g.name ≡ b → shadowed_than q (with_member name groups x) ≡ shadowed_than q groups → shadowed_than q (if b
          then record { name = g.name; exporters = g.exporters ++ x ∷ [] } ∷ groups else g ∷ with_member name groups x) ≡ shadowed_than q (g ∷ groups)
      by true same rest =
          let gone : bytes_eq q g.name ≡ true = is_same q g.name (same_name q (name x) is ∙ same_name (name x) g.name same) in
          left_out (λ (h : NameWithExporters A). not (bytes_eq q h.name)) (record { name = g.name; exporters = g.exporters ++ x ∷ [] }) groups (ap not gone)
          ∙ sym (left_out (λ (h : NameWithExporters A). not (bytes_eq q h.name)) g groups (ap not gone))
      by false other rest = on (not (bytes_eq q g.name)) rest
        where
          on : (c : Bool) → shadowed_than q (with_member name groups x) ≡ shadowed_than q groups
              → (if c then g ∷ shadowed_than q (with_member name groups x) else shadowed_than q (with_member name groups x))
              ≡ (if c then g ∷ shadowed_than q groups else shadowed_than q groups)
          on true same = ap (λ gs. g ∷ gs) same
          on false same = same

  -- it stays if another name's group is left out
  still_there : (q : List ℕ) (groups : List (NameWithExporters A)) (x : A) → bytes_eq q (name x) ≡ false
      → shadowed_than q (with_member name groups x) ≡ with_member name (shadowed_than q groups) x
  still_there q [] x is = retained_first (λ (g : NameWithExporters A). not (bytes_eq q g.name)) (record { name = name x; exporters = x ∷ [] }) [] (ap not is)
  still_there q (g ∷ groups) x is = by (bytes_eq (name x) g.name) refl (still_there q groups x is)
    where
      by : (b : Bool) → bytes_eq (name x) g.name ≡ b → shadowed_than q (with_member name groups x) ≡ with_member name (shadowed_than q groups) x
          → shadowed_than q (if b then record { name = g.name; exporters = g.exporters ++ x ∷ [] } ∷ groups else g ∷ with_member name groups x)
          ≡ with_member name (shadowed_than q (g ∷ groups)) x
      by true same rest =
          let stays : bytes_eq q g.name ≡ false = subst (λ n. bytes_eq q n ≡ false) (same_name (name x) g.name same) is in
          retained_first (λ (h : NameWithExporters A). not (bytes_eq q h.name)) (record { name = g.name; exporters = g.exporters ++ x ∷ [] }) groups
          (ap not stays)
          ∙ (sym (found_first (shadowed_than q groups) same)
          ∙ ap (λ gs. with_member name gs x) (sym (retained_first (λ (h : NameWithExporters A). not (bytes_eq q h.name)) g groups (ap not stays))))
        where
          found_first : (rest : List (NameWithExporters A)) → bytes_eq (name x) g.name ≡ true
              → with_member name (g ∷ rest) x ≡ record { name = g.name; exporters = g.exporters ++ x ∷ [] } ∷ rest
          found_first rest found = rw found refl
      by false other rest = on (bytes_eq q g.name) refl rest
        where
          found_later : (rest : List (NameWithExporters A)) → bytes_eq (name x) g.name ≡ false → with_member name (g ∷ rest) x ≡ g ∷ with_member name rest x
          found_later rest unresolved = rw unresolved refl

          on : (c : Bool) → bytes_eq q g.name ≡ c → shadowed_than q (with_member name groups x) ≡ with_member name (shadowed_than q groups) x
              → shadowed_than q (g ∷ with_member name groups x) ≡ with_member name (shadowed_than q (g ∷ groups)) x
          on true gone same =
              left_out (λ (h : NameWithExporters A). not (bytes_eq q h.name)) g (with_member name groups x) (ap not gone)
              ∙ (same ∙ ap (λ gs. with_member name gs x) (sym (left_out (λ (h : NameWithExporters A). not (bytes_eq q h.name)) g groups (ap not gone))))
          on false stays same =
              retained_first (λ (h : NameWithExporters A). not (bytes_eq q h.name)) g (with_member name groups x) (ap not stays)
              ∙ (ap (λ gs. g ∷ gs) same ∙ (sym (found_later (shadowed_than q groups) other)
              ∙ ap (λ gs. with_member name gs x) (sym (retained_first (λ (h : NameWithExporters A). not (bytes_eq q h.name)) g groups (ap not stays)))))

  one_more : (xs : List A) (x : A) → grouped_by_name name (xs ++ x ∷ []) ≡ with_member name (grouped_by_name name xs) x
  one_more [] x = refl
  one_more (w ∷ xs) x = by (bytes_eq (name w) (name x)) refl (one_more xs x)
    where
      q : List ℕ
      q = name w

      exporters : List A
      exporters = filter (λ y. bytes_eq q (name y)) xs

      longer : filter (λ y. bytes_eq q (name y)) (xs ++ x ∷ []) ≡ exporters ++ filter (λ y. bytes_eq q (name y)) (x ∷ [])
      longer = filter-append (λ y. bytes_eq q (name y)) xs (x ∷ [])

      found_here : bytes_eq (name x) q ≡ true → (rest : List (NameWithExporters A))
          → with_member name (record { name = q; exporters = w ∷ exporters } ∷ rest) x ≡ record { name = q; exporters = w ∷ exporters ++ x ∷ [] } ∷ rest
      found_here is rest = rw is refl

      found_later : bytes_eq (name x) q ≡ false → (rest : List (NameWithExporters A))
          → with_member name (record { name = q; exporters = w ∷ exporters } ∷ rest) x
          ≡ record { name = q; exporters = w ∷ exporters } ∷ with_member name rest x
      found_later is rest = rw is refl

      by : (b : Bool) → bytes_eq q (name x) ≡ b → grouped_by_name name (xs ++ x ∷ []) ≡ with_member name (grouped_by_name name xs) x
          → grouped_by_name name (w ∷ (xs ++ x ∷ [])) ≡ with_member name (grouped_by_name name (w ∷ xs)) x
      by true is rest =
          let more : filter (λ y. bytes_eq q (name y)) (xs ++ x ∷ []) ≡ exporters ++ x ∷ [] =
          longer ∙ ap (λ ys. exporters ++ ys) (retained_first (λ y. bytes_eq q (name y)) x [] is) in
          let groups : shadowed_than q (grouped_by_name name (xs ++ x ∷ [])) ≡ shadowed_than q (grouped_by_name name xs) =
          ap (shadowed_than q) rest ∙ left_out_too q (grouped_by_name name xs) x is in
          (λ i. record { name = q; exporters = w ∷ more i } ∷ groups i)
          ∙ sym (found_here (is_same (name x) q (sym (same_name q (name x) is))) (shadowed_than q (grouped_by_name name xs)))
      by false is rest =
          let more : filter (λ y. bytes_eq q (name y)) (xs ++ x ∷ []) ≡ exporters =
          longer ∙ (ap (λ ys. exporters ++ ys) (left_out (λ y. bytes_eq q (name y)) x [] is) ∙ append-nil exporters) in
          let groups : shadowed_than q (grouped_by_name name (xs ++ x ∷ [])) ≡ with_member name (shadowed_than q (grouped_by_name name xs)) x =
          ap (shadowed_than q) rest ∙ still_there q (grouped_by_name name xs) x is in
          (λ i. record { name = q; exporters = w ∷ more i } ∷ groups i)
          ∙ sym (found_later (other_name q (name x) is) (shadowed_than q (grouped_by_name name xs)))

  -- candidates added one by one are grouped like the whole list
  all_together : (done xs : List A) → fold (with_member name) (grouped_by_name name done) xs ≡ grouped_by_name name (done ++ xs)
  all_together done [] = ap (grouped_by_name name) (sym (append-nil done))
  all_together done (x ∷ xs) = ap (λ groups. fold (with_member name) groups xs) (sym (one_more done x))
      ∙ (all_together (done ++ x ∷ []) xs ∙ ap (grouped_by_name name) (append_assoc done (x ∷ []) xs))

-- ---- groups of mapped elements

filter_mapped : {A B : Type 0} (f : A → B) (p : B → Bool) (xs : List A) → filter p (map f xs) ≡ map f (filter (λ x. p (f x)) xs)
filter_mapped f p [] = refl
filter_mapped f p (x ∷ xs) = by (p (f x)) (filter_mapped f p xs)
  where
    by : (b : Bool) → filter p (map f xs) ≡ map f (filter (λ y. p (f y)) xs)
        → (if b then f x ∷ filter p (map f xs) else filter p (map f xs)) ≡ map f (if b then x ∷ filter (λ y. p (f y)) xs else filter (λ y. p (f y)) xs)
    by true same = ap (λ ys. f x ∷ ys) same
    by false same = same

module _ {A B : Type 0} (f : A → B) (name : B → List ℕ) (is_along : B → Bool) where
  abbrev pub on_exporters : NameWithExporters A → NameWithExporters B
  on_exporters group = record { name = group.name; exporters = map f group.exporters }

  together_mapped : (xs : List A) → grouped_by_name name (map f xs) ≡ map on_exporters (grouped_by_name (λ x. name (f x)) xs)
  together_mapped [] = refl
  together_mapped (x ∷ xs) =
      let exporters = filter_mapped f (λ y. bytes_eq (name (f x)) (name y)) xs in
      let rest = ap (filter (λ (g : NameWithExporters B). not (bytes_eq (name (f x)) g.name))) (together_mapped xs)
      ∙ filter_mapped on_exporters (λ (g : NameWithExporters B). not (bytes_eq (name (f x)) g.name)) (grouped_by_name (λ y. name (f y)) xs) in
      λ i. record { name = name (f x); exporters = f x ∷ exporters i } ∷ rest i

  shared_alike : (exporters : List A) → has_several_exporters_first_along_star is_along (map f exporters)
      ≡ has_several_exporters_first_along_star (λ x. is_along (f x)) exporters
  shared_alike [] = refl
  shared_alike (x ∷ []) = refl
  shared_alike (x ∷ y ∷ rest) = refl

  pub shared_mapped : (xs : List A) → shared_names_among name is_along (map f xs) ≡ map on_exporters
      (shared_names_among (λ x. name (f x)) (λ x. is_along (f x)) xs)
  shared_mapped xs =
      ap (groups_of_several_first_along_star is_along) (together_mapped xs)
      ∙ (filter_mapped on_exporters (λ (g : NameWithExporters B). has_several_exporters_first_along_star is_along g.exporters)
      (grouped_by_name (λ x. name (f x)) xs)
      ∙ ap (λ (p : NameWithExporters A → Bool). map on_exporters (filter p (grouped_by_name (λ x. name (f x)) xs))) (λ i g. shared_alike g.exporters i))

-- ---- groups without later elements, where the first isn't along an `export *`

module _ {A : Type 0} (name : A → List ℕ) (is_along : A → Bool) where
  abbrev shareable : List A → List A
  shareable [] = []
  shareable (x ∷ xs) = if is_along x then x ∷ xs else x ∷ []

  abbrev shareable_group : NameWithExporters A → NameWithExporters A
  shareable_group group = record { name = group.name; exporters = shareable group.exporters }

  one_alone : (x : A) → shareable (x ∷ []) ≡ x ∷ []
  one_alone x = by (is_along x)
    where
      by : (b : Bool) → (if b then x ∷ [] else x ∷ []) ≡ x ∷ []
      by true = refl
      by false = refl

  later_shareable : (xs : List A) (x : A) → exporters_with_later_exporter is_along (shareable xs) x ≡ shareable (xs ++ x ∷ [])
  later_shareable [] x = sym (one_alone x)
  later_shareable (first ∷ xs) x = by (is_along first) refl
    where
      by : (b : Bool) → is_along first ≡ b
          → exporters_with_later_exporter is_along (if b then first ∷ xs else first ∷ []) x ≡ (if b then first ∷ (xs ++ x ∷ []) else first ∷ [])
      by true is = rw is refl
      by false is = rw is refl

  exporter_shareable : (groups : List (NameWithExporters A)) (x : A)
      → groups_with_exporter name is_along (map shareable_group groups) x ≡ map shareable_group (with_member name groups x)
  exporter_shareable [] x = λ i. record { name = name x; exporters = sym (one_alone x) i } ∷ []
  exporter_shareable (group ∷ groups) x = by (bytes_eq (name x) group.name) (exporter_shareable groups x)
    where
      by : (b : Bool) → groups_with_exporter name is_along (map shareable_group groups) x ≡ map shareable_group (with_member name groups x)
          → (if b then record { name = group.name; exporters = exporters_with_later_exporter is_along (shareable group.exporters) x }
          ∷ map shareable_group groups
          else shareable_group group ∷ groups_with_exporter name is_along (map shareable_group groups) x)
          ≡ map shareable_group (if b then record { name = group.name; exporters = group.exporters ++ x ∷ [] } ∷ groups
          else group ∷ with_member name groups x)
      by true rest = λ i. record { name = group.name; exporters = later_shareable group.exporters x i } ∷ map shareable_group groups
      by false rest = ap (λ more. shareable_group group ∷ more) rest

  exporters_shareable : (groups : List (NameWithExporters A)) (xs : List A)
      → fold (groups_with_exporter name is_along) (map shareable_group groups) xs ≡ map shareable_group (fold (with_member name) groups xs)
  exporters_shareable groups [] = refl
  exporters_shareable groups (x ∷ xs) = ap (λ more. fold (groups_with_exporter name is_along) more xs) (exporter_shareable groups x)
      ∙ exporters_shareable (with_member name groups x) xs

  -- these groups have the same shared names
  same_shared : (groups : List (NameWithExporters A)) → groups_of_several_first_along_star is_along (map shareable_group groups)
      ≡ groups_of_several_first_along_star is_along groups
  same_shared [] = refl
  same_shared (group ∷ groups) = by group.name group.exporters ∙ ap (λ more. if has_several_exporters_first_along_star is_along group.exporters then group
      ∷ more else more) (same_shared groups)
    where
      shared_after : List (NameWithExporters A)
      shared_after = groups_of_several_first_along_star is_along (map shareable_group groups)

      by : (called : List ℕ) (exporters : List A) → (if has_several_exporters_first_along_star is_along (shareable exporters)
          then record { name = called; exporters = shareable exporters } ∷ shared_after else shared_after)
          ≡ (if has_several_exporters_first_along_star is_along exporters then record { name = called; exporters = exporters } ∷ shared_after else shared_after)
      by called [] = refl
      by called (x ∷ []) = on (is_along x)
        where
          on : (b : Bool) → (if has_several_exporters_first_along_star is_along (if b then x ∷ [] else x ∷ [])
              then record { name = called; exporters = if b then x ∷ [] else x ∷ [] } ∷ shared_after else shared_after) ≡ shared_after
          on true = refl
          on false = refl
      by called (x ∷ y ∷ xs) = on (is_along x) refl
        where
          on : (b : Bool) → is_along x ≡ b → (if has_several_exporters_first_along_star is_along (if b then x ∷ y ∷ xs else x ∷ [])
              then record { name = called; exporters = if b then x ∷ y ∷ xs else x ∷ [] } ∷ shared_after else shared_after)
              ≡ (if is_along x then record { name = called; exporters = x ∷ y ∷ xs } ∷ shared_after else shared_after)
          on true is = refl
          on false is = rw is refl

  -- exporters added one by one have the shared names of the whole list
  pub all_shared : (xs : List A) → groups_of_several_first_along_star is_along (fold (groups_with_exporter name is_along) [] xs)
      ≡ shared_names_among name is_along xs
  all_shared xs = ap (groups_of_several_first_along_star is_along) (exporters_shareable [] xs)
      ∙ (same_shared (fold (with_member name) [] xs) ∙ ap (groups_of_several_first_along_star is_along) (all_together name [] xs))
