-- How the list of dependencies grows with each step.
use Rattle.std.proofs.Common.{◌≡◌, ℕ, suc, zero, ◌+◌, ◌<◌, ◌≤◌, true, false, inl, inr, List, [], ◌∷◌, ◌++◌}
use Rattle.std.proofs.Common.{map, length, Option, None, Some, refl, sym, ◌∙◌, subst, arith, unwrap_or}
use Rattle.std.specs.Prelude.{Contains, slice_get, ◌⊎◌}
use Rattle.std.proofs.lemmas.List.Elements.{Contains-append_left, Contains-append_right, Contains-append_cases}
use Rattle.std.proofs.lemmas.Option.{slice_get_within}
use Rattle.std.proofs.lemmas.Bool.{cases_lt}
use Rattle.symbols_nodes.specs.declared.deps.dep.ReferenceNamespace.{ReferenceNamespace}
use Rattle.symbols_nodes.specs.declared.deps.dep.ResolveDepsMode.{ResolveDepsMode}
use Rattle.symbols_nodes.specs.References.{SymbolReference, NamespacedReference}
use Rattle.symbols_deps.specs.inner.References.{dependency_in_namespace}
use Rattle.symbols_deps.specs.DepPaths.{ReferenceGraphVertex, ReferenceGraphStep, is_step_followed_in_mode, ReferenceGraph, IsReferencePathFollowedInMode, ends}
use Rattle.symbols_deps.specs.DepPaths.{first_step_followed_by_path}
use Rattle.symbols_deps.specs.DepPaths.{last_marked_namespace, IsDependencyAtPath, IsPathBefore, continues}
use Rattle.symbols_deps.specs.DepPaths.{lower_step, same_step, DependencyOccurrence, AreInPathOrder, no_path, first_path, AreAllDependencyOccurrencesInOrder}
use Rattle.symbols_deps.specs.DepPaths.{occurrences_at_vertex}
use Rattle.symbols_deps.specs.DepPaths.{prepend_step}

-- ---- the contents of a list

pub contains_head : {A : Type 0} (x : A) (xs : List A) → Contains (x ∷ xs) x
contains_head x xs = (0, omega arith, refl)

pub contains_tail : {A : Type 0} (y x : A) (xs : List A) → Contains xs x → Contains (y ∷ xs) x
contains_tail y x xs has = Contains-append_right (y ∷ []) xs x has

pub head_or_tail : {A : Type 0} (y x : A) (xs : List A) → Contains (y ∷ xs) x → (y ≡ x) ⊎ Contains xs x
head_or_tail y x xs (zero, low, is) = inl is
head_or_tail y x xs (suc k, low, is) = inr (k, omega arith, is)

pub contains_nothing : {A : Type 0} (x : A) → Contains [] x → ⊥
contains_nothing x has = omega (arith, has.1)

contains_one : {A : Type 0} (x y : A) → Contains (x ∷ []) y → x ≡ y
contains_one x y has = elim (head_or_tail x y [] has) [ inl e ↦ e | inr h ↦ absurd (contains_nothing y h) ]

contains_image : {A B : Type 0} (f : A → B) (xs : List A) (x : A) → Contains xs x → Contains (map f xs) (f x)
contains_image f [] x has = absurd (contains_nothing x has)
contains_image f (y ∷ xs) x has = elim (head_or_tail y x xs has) [
  | inl e ↦ subst (λ z. Contains (f y ∷ map f xs) (f z)) e (contains_head (f y) (map f xs))
  | inr h ↦ contains_tail (f y) (f x) (map f xs) (contains_image f xs x h)
]

record IsImage {A B : Type 0} (f : A → B) (xs : List A) (y : B) : Type 0 where
  source : A
  among : Contains xs source
  gives : f source ≡ y

image_from : {A B : Type 0} (f : A → B) (xs : List A) (y : B) → Contains (map f xs) y → IsImage f xs y
image_from f [] y has = absurd (contains_nothing y has)
image_from f (x ∷ xs) y has = elim (head_or_tail (f x) y (map f xs) has) [
  | inl e ↦ record { source = x; among = contains_head x xs; gives = e }
  | inr h ↦ let rest = image_from f xs y h in record { source = rest.source; among = contains_tail x rest.source xs rest.among; gives = rest.gives }
]

-- ---- lists in path order

order_append : (xs ys : List DependencyOccurrence) → AreInPathOrder xs → AreInPathOrder ys
    → ((x y : DependencyOccurrence) → Contains xs x → Contains ys y → IsPathBefore x.path y.path) → AreInPathOrder (xs ++ ys)
order_append [] ys before after apart = after
order_append (x ∷ xs) ys (first_path first rest) after apart =
    first_path
    (λ other has. elim (Contains-append_cases xs ys other has) [
      | inl h ↦ first other h
      | inr h ↦ apart x other (contains_head x xs) h
    ])
    (order_append xs ys rest after (λ a b in_xs in_ys. apart a b (contains_tail x a xs in_xs) in_ys))

order_after_step : (i : ℕ) (xs : List DependencyOccurrence) → AreInPathOrder xs → AreInPathOrder (map (prepend_step i) xs)
order_after_step i [] ordered = no_path
order_after_step i (x ∷ xs) (first_path first rest) =
    first_path
    (λ other has.
    let from = image_from (prepend_step i) xs other has in
    subst (λ (f : DependencyOccurrence). IsPathBefore (i ∷ x.path) f.path) from.gives (same_step (first from.source from.among)))
    (order_after_step i xs rest)

abbrev at_path : List ℕ → NamespacedReference → DependencyOccurrence
at_path path dependency = record { path = path; dependency = dependency }

pub some_injective : {A : Type 0} (x y : A) → Some x ≡ Some y → x ≡ y
some_injective x y e = cc

-- ---- dependencies at and below a vertex: its own, and those after its steps

record IsDirect (graph : ReferenceGraph) (namespace : ReferenceNamespace) (vertex : ReferenceGraphVertex) (dependency : NamespacedReference) : Type 0 where
  refers : graph.reference vertex ≡ Some dependency.reference
  unmarked : dependency.namespace ≡ namespace

abbrev IsAt : ReferenceGraph → ResolveDepsMode → ReferenceNamespace → ReferenceGraphVertex → List ℕ → NamespacedReference → Type 0
IsAt graph mode namespace vertex [] dependency = IsDirect graph namespace vertex dependency
IsAt graph mode namespace vertex (i ∷ path) dependency = IsDependencyAtPath graph mode namespace (graph.steps vertex) (i ∷ path) dependency

-- The list has exactly the dependencies at and below a vertex, in the order of their paths.
pub record AreAt (graph : ReferenceGraph) (mode : ResolveDepsMode) (namespace : ReferenceNamespace) (vertex : ReferenceGraphVertex)
    (all : List DependencyOccurrence) : Type 0 where
  are_all_dependencies : (found : DependencyOccurrence) → Contains all found → IsAt graph mode namespace vertex found.path found.dependency
  has_every_dependency : (path : List ℕ) (dependency : NamespacedReference) → IsAt graph mode namespace vertex path dependency → Contains all
      (at_path path dependency)
  in_order : AreInPathOrder all

-- A dependency whose path begins with step i.
record BeginsAt (graph : ReferenceGraph) (mode : ResolveDepsMode) (namespace : ReferenceNamespace) (steps : List ReferenceGraphStep) (i : ℕ) (path : List
    ℕ) (dependency : NamespacedReference) : Type 0 where
  step : ReferenceGraphStep
  occurs : slice_get steps i ≡ Some step
  opens : is_step_followed_in_mode mode step ≡ true
  rest : IsAt graph mode (unwrap_or step.mark namespace) step.to path dependency

module _ (graph : ReferenceGraph) (mode : ResolveDepsMode) where
  no_empty_path : (steps : List ReferenceGraphStep) (marks : List (Option ReferenceNamespace)) (end : ReferenceGraphVertex)
      → IsReferencePathFollowedInMode graph mode steps [] marks end → ⊥
  no_empty_path steps marks end reaches = elim reaches [ ]

  never_empty : (namespace : ReferenceNamespace) (steps : List ReferenceGraphStep) (dependency : NamespacedReference)
      → IsDependencyAtPath graph mode namespace steps [] dependency → ⊥
  never_empty namespace steps dependency d = no_empty_path steps d.marks d.end d.reaches

  split_path : (namespace : ReferenceNamespace) (steps : List ReferenceGraphStep) (i : ℕ) (path : List ℕ) (marks : List (Option ReferenceNamespace))
      (end : ReferenceGraphVertex)
      (dependency : NamespacedReference)
      → IsReferencePathFollowedInMode graph mode steps (i ∷ path) marks end → graph.reference end ≡ Some dependency.reference
      → dependency.namespace ≡ last_marked_namespace namespace marks
      → BeginsAt graph mode namespace steps i path dependency
  split_path namespace steps i path [] end dependency reaches refers marked = elim reaches [ ]
  split_path namespace steps i [] (mark ∷ marks) end dependency (ends step occurs opens) refers marked =
      record { step = step; occurs = occurs; opens = opens; rest = record { refers = refers; unmarked = marked } }
  split_path namespace steps i [] (mark ∷ marks) end dependency (first_step_followed_by_path step occurs opens reaches) refers marked =
      absurd (no_empty_path (graph.steps step.to) marks end reaches)
  split_path namespace steps i (j ∷ path) (mark ∷ marks) end dependency (first_step_followed_by_path step occurs opens reaches) refers marked =
      record { step = step; occurs = occurs; opens = opens; rest = record { end = end; marks = marks; reaches = reaches; refers = refers; marked = marked } }

  split_first : (namespace : ReferenceNamespace) (steps : List ReferenceGraphStep) (i : ℕ) (path : List ℕ) (dependency : NamespacedReference)
      → IsDependencyAtPath graph mode namespace steps (i ∷ path) dependency → BeginsAt graph mode namespace steps i path dependency
  split_first namespace steps i path dependency d = split_path namespace steps i path d.marks d.end dependency d.reaches d.refers d.marked

  join_first : (namespace : ReferenceNamespace) (steps : List ReferenceGraphStep) (i : ℕ) (path : List ℕ) (dependency : NamespacedReference)
      → BeginsAt graph mode namespace steps i path dependency → IsDependencyAtPath graph mode namespace steps (i ∷ path) dependency
  join_first namespace steps i [] dependency b =
      record { end = b.step.to; marks = b.step.mark ∷ []; reaches = ends b.step b.occurs b.opens; refers = b.rest.refers; marked = b.rest.unmarked }
  join_first namespace steps i (j ∷ path) dependency b =
      record {
        end = b.rest.end;
        marks = b.step.mark ∷ b.rest.marks;
        reaches = first_step_followed_by_path b.step b.occurs b.opens b.rest.reaches;
        refers = b.rest.refers;
        marked = b.rest.marked;
      }

  -- ---- the list of a vertex

  at_is : (namespace : ReferenceNamespace) (vertex : ReferenceGraphVertex) (path : List ℕ) (dependency : NamespacedReference)
      → IsDependencyAtPath graph mode namespace (graph.steps vertex) path dependency → IsAt graph mode namespace vertex path dependency
  at_is namespace vertex [] dependency d = absurd (never_empty namespace (graph.steps vertex) dependency d)
  at_is namespace vertex (i ∷ path) dependency d = d

  begins_any : (namespace : ReferenceNamespace) (steps : List ReferenceGraphStep) (path : List ℕ) (dependency : NamespacedReference)
      → IsDependencyAtPath graph mode namespace steps path dependency → IsPathBefore [] path
  begins_any namespace steps [] dependency d = absurd (never_empty namespace steps dependency d)
  begins_any namespace steps (i ∷ path) dependency d = continues

  same_parts : (d : NamespacedReference) (reference : SymbolReference) (namespace : ReferenceNamespace) → d.reference ≡ reference → d.namespace ≡ namespace
      → dependency_in_namespace namespace reference ≡ d
  same_parts d reference namespace r n = rw (← r, ← n) refl

  direct_is_at : (namespace : ReferenceNamespace) (vertex : ReferenceGraphVertex) (reference : SymbolReference) → graph.reference vertex ≡ Some reference
      → (found : DependencyOccurrence)
      → at_path [] (dependency_in_namespace namespace reference) ≡ found → IsAt graph mode namespace vertex found.path found.dependency
  direct_is_at namespace vertex reference is found e =
      subst (λ (f : DependencyOccurrence). IsAt graph mode namespace vertex f.path f.dependency) e (record { refers = is; unmarked = refl })

  direct_among : (namespace : ReferenceNamespace) (vertex : ReferenceGraphVertex) (reference : SymbolReference) (rest : List DependencyOccurrence)
      → graph.reference vertex ≡ Some reference
      → (dependency : NamespacedReference) → IsDirect graph namespace vertex dependency
      → Contains (occurrences_at_vertex namespace (Some reference) ++ rest) (at_path [] dependency)
  direct_among namespace vertex reference rest is dependency direct =
      let r : dependency.reference ≡ reference = some_injective dependency.reference reference (sym direct.refers ∙ is) in
      let e : dependency_in_namespace namespace reference ≡ dependency = same_parts dependency reference namespace r direct.unmarked in
      subst (λ (x : NamespacedReference). Contains (occurrences_at_vertex namespace (Some reference) ++ rest) (at_path [] x)) e
      (contains_head (at_path [] (dependency_in_namespace namespace reference)) rest)

  none_missing_alone : (namespace : ReferenceNamespace) (vertex : ReferenceGraphVertex) (rest : List DependencyOccurrence) → graph.reference vertex ≡ None
      → AreAllDependencyOccurrencesInOrder graph mode namespace (graph.steps vertex) rest
      → (path : List ℕ) (dependency : NamespacedReference) → IsAt graph mode namespace vertex path dependency → Contains rest (at_path path dependency)
  none_missing_alone namespace vertex rest is are [] dependency direct = let e = direct.refers in absurd (let no : ⊥ = cc in no)
  none_missing_alone namespace vertex rest is are (i ∷ path) dependency d = are.has_every_dependency (i ∷ path) dependency d

  none_missing_with_direct : (namespace : ReferenceNamespace) (vertex : ReferenceGraphVertex) (reference : SymbolReference) (rest : List DependencyOccurrence)
      → graph.reference vertex ≡ Some reference → AreAllDependencyOccurrencesInOrder graph mode namespace (graph.steps vertex) rest
      → (path : List ℕ) (dependency : NamespacedReference) → IsAt graph mode namespace vertex path dependency
      → Contains (occurrences_at_vertex namespace (Some reference) ++ rest) (at_path path dependency)
  none_missing_with_direct namespace vertex reference rest is are [] dependency direct = direct_among namespace vertex reference rest is dependency direct
  none_missing_with_direct namespace vertex reference rest is are (i ∷ path) dependency d =
      contains_tail (at_path [] (dependency_in_namespace namespace reference)) (at_path (i ∷ path) dependency) rest
      (are.has_every_dependency (i ∷ path) dependency d)

  at_vertex_with : (namespace : ReferenceNamespace) (vertex : ReferenceGraphVertex) (rest : List DependencyOccurrence) (reference : Option SymbolReference)
      → graph.reference vertex ≡ reference → AreAllDependencyOccurrencesInOrder graph mode namespace (graph.steps vertex) rest
      → AreAt graph mode namespace vertex (occurrences_at_vertex namespace reference ++ rest)
  at_vertex_with namespace vertex rest None is are = record {
    are_all_dependencies = λ found has. at_is namespace vertex found.path found.dependency (are.are_all_dependencies found has);
    has_every_dependency = none_missing_alone namespace vertex rest is are;
    in_order = are.in_order;
  }
  at_vertex_with namespace vertex rest (Some reference) is are = record {
    are_all_dependencies = λ found has. elim (head_or_tail (at_path [] (dependency_in_namespace namespace reference)) found rest has) [
      | inl e ↦ direct_is_at namespace vertex reference is found e
      | inr h ↦ at_is namespace vertex found.path found.dependency (are.are_all_dependencies found h)
    ];
    has_every_dependency = none_missing_with_direct namespace vertex reference rest is are;
    in_order = first_path (λ other has. begins_any namespace (graph.steps vertex) other.path other.dependency
        (are.are_all_dependencies other has)) are.in_order;
  }

  pub at_vertex : (namespace : ReferenceNamespace) (vertex : ReferenceGraphVertex) (rest : List DependencyOccurrence)
      → AreAllDependencyOccurrencesInOrder graph mode namespace (graph.steps vertex) rest
      → AreAt graph mode namespace vertex (occurrences_at_vertex namespace (graph.reference vertex) ++ rest)
  at_vertex namespace vertex rest are = at_vertex_with namespace vertex rest (graph.reference vertex) refl are

-- ---- after some of the steps

abbrev BeginsBelow : ℕ → List ℕ → Type 0
BeginsBelow n [] = Unit {0}
BeginsBelow n (i ∷ path) = i < n

-- The list has exactly the dependencies whose paths begin with one of the first n steps.
pub record AreAfter (graph : ReferenceGraph) (mode : ResolveDepsMode) (namespace : ReferenceNamespace) (steps : List ReferenceGraphStep) (n : ℕ) (all : List
    DependencyOccurrence) : Type 0 where
  are_all_dependencies : (found : DependencyOccurrence) → Contains all found → IsDependencyAtPath graph mode namespace steps found.path found.dependency
      × BeginsBelow n found.path
  has_every_dependency : (path : List ℕ) (dependency : NamespacedReference) → IsDependencyAtPath graph mode namespace steps path dependency → BeginsBelow n path
      → Contains all (at_path path dependency)
  in_order : AreInPathOrder all

below_or_equal : (i n : ℕ) → i < n + 1 → (i < n) ⊎ (n ≡ i)
below_or_equal i n low = elim (cases_lt i n) [ inl h ↦ inl h | inr h ↦ inr (omega arith) ]

before_later : (n : ℕ) (path other : List ℕ) → BeginsBelow n path → IsPathBefore path (n ∷ other)
before_later n [] other low = continues
before_later n (i ∷ path) other low = lower_step low

begins_below_more : (n : ℕ) (path : List ℕ) → BeginsBelow n path → BeginsBelow (n + 1) path
begins_below_more n [] low = tt
begins_below_more n (i ∷ path) low = omega arith

module _ (graph : ReferenceGraph) (mode : ResolveDepsMode) (namespace : ReferenceNamespace) (steps : List ReferenceGraphStep) where
  none_missing_at_first : (path : List ℕ) (dependency : NamespacedReference) → IsDependencyAtPath graph mode namespace steps path dependency
      → BeginsBelow 0 path
      → Contains [] (at_path path dependency)
  none_missing_at_first [] dependency d low = absurd (never_empty graph mode namespace steps dependency d)
  none_missing_at_first (i ∷ path) dependency d low = absurd (omega arith)

  pub before_any : AreAfter graph mode namespace steps 0 []
  before_any = record {
    are_all_dependencies = λ found has. absurd (contains_nothing found has);
    has_every_dependency = none_missing_at_first;
    in_order = no_path;
  }

  still_among : (n : ℕ) (found : DependencyOccurrence) → IsDependencyAtPath graph mode namespace steps found.path found.dependency × BeginsBelow n found.path
      → IsDependencyAtPath graph mode namespace steps found.path found.dependency × BeginsBelow (n + 1) found.path
  still_among n found known = (known.0, begins_below_more n found.path known.1)

  -- An index has only one step.
  same_vertex : (i n : ℕ) (step other : ReferenceGraphStep) → slice_get steps n ≡ Some step → slice_get steps i ≡ Some other → n ≡ i → other ≡ step
  same_vertex i n step other occurs there e =
      let here = subst (λ (k : ℕ). slice_get steps k ≡ Some other) (sym e) there in
      some_injective other step (sym here ∙ occurs)

  none_missing_closed : (n : ℕ) (step : ReferenceGraphStep) (all : List DependencyOccurrence) → slice_get steps n ≡ Some step
      → is_step_followed_in_mode mode step ≡ false
      → AreAfter graph mode namespace steps n all
      → (path : List ℕ) (dependency : NamespacedReference) → IsDependencyAtPath graph mode namespace steps path dependency → BeginsBelow (n + 1) path
      → Contains all (at_path path dependency)
  none_missing_closed n step all occurs closed so_far [] dependency d low = so_far.has_every_dependency [] dependency d tt
  none_missing_closed n step all occurs closed so_far (i ∷ path) dependency d low =
      elim (below_or_equal i n low) [
        | inl smaller ↦ so_far.has_every_dependency (i ∷ path) dependency d smaller
        | inr e ↦
            let b = split_first graph mode namespace steps i path dependency d in
            let opens : is_step_followed_in_mode mode step ≡ true =
            subst (λ (s : ReferenceGraphStep). is_step_followed_in_mode mode s ≡ true) (same_vertex i n step b.step occurs b.occurs e) b.opens in
            absurd (let never : ⊥ = cc in never)
      ]

  pub after_closed : (n : ℕ) (step : ReferenceGraphStep) (all : List DependencyOccurrence) → slice_get steps n ≡ Some step
      → is_step_followed_in_mode mode step ≡ false
      → AreAfter graph mode namespace steps n all → AreAfter graph mode namespace steps (n + 1) all
  after_closed n step all occurs closed so_far = record {
    are_all_dependencies = λ found has. still_among n found (so_far.are_all_dependencies found has);
    has_every_dependency = none_missing_closed n step all occurs closed so_far;
    in_order = so_far.in_order;
  }

  none_missing_open : (n : ℕ) (step : ReferenceGraphStep) (all rest : List DependencyOccurrence) → slice_get steps n ≡ Some step
      → AreAfter graph mode namespace steps n all
      → AreAt graph mode (unwrap_or step.mark namespace) step.to rest
      → (path : List ℕ) (dependency : NamespacedReference) → IsDependencyAtPath graph mode namespace steps path dependency → BeginsBelow (n + 1) path
      → Contains (all ++ map (prepend_step n) rest) (at_path path dependency)
  none_missing_open n step all rest occurs so_far are [] dependency d low =
      Contains-append_left all (map (prepend_step n) rest) (at_path [] dependency) (so_far.has_every_dependency [] dependency d tt)
  none_missing_open n step all rest occurs so_far are (i ∷ path) dependency d low =
      elim (below_or_equal i n low) [
        | inl smaller ↦ Contains-append_left all (map (prepend_step n) rest) (at_path (i ∷ path) dependency)
            (so_far.has_every_dependency (i ∷ path) dependency d smaller)
        | inr e ↦
            let b = split_first graph mode namespace steps i path dependency d in
            let deeper : IsAt graph mode (unwrap_or step.mark namespace) step.to path dependency =
            subst (λ (s : ReferenceGraphStep). IsAt graph mode (unwrap_or s.mark namespace) s.to path dependency)
            (same_vertex i n step b.step occurs b.occurs e) b.rest in
            let has = contains_image (prepend_step n) rest (at_path path dependency) (are.has_every_dependency path dependency deeper) in
            Contains-append_right all (map (prepend_step n) rest) (at_path (i ∷ path) dependency)
            (subst (λ (k : ℕ). Contains (map (prepend_step n) rest) (at_path (k ∷ path) dependency)) e has)
      ]

  occurs_after_step : (n : ℕ) (step : ReferenceGraphStep) (rest : List DependencyOccurrence) → slice_get steps n ≡ Some step
      → is_step_followed_in_mode mode step ≡ true
      → AreAt graph mode (unwrap_or step.mark namespace) step.to rest
      → (found : DependencyOccurrence) → IsImage (prepend_step n) rest found
      → IsDependencyAtPath graph mode namespace steps found.path found.dependency × BeginsBelow (n + 1) found.path
  occurs_after_step n step rest occurs opens are found from =
      let deeper = are.are_all_dependencies from.source from.among in
      subst (λ (f : DependencyOccurrence). IsDependencyAtPath graph mode namespace steps f.path f.dependency × BeginsBelow (n + 1) f.path) from.gives (
        join_first graph mode namespace steps n from.source.path from.source.dependency (record { step = step; occurs = occurs; opens = opens; rest = deeper }),
        omega arith,
      )

  pub after_open : (n : ℕ) (step : ReferenceGraphStep) (all rest : List DependencyOccurrence) → slice_get steps n ≡ Some step
      → is_step_followed_in_mode mode step ≡ true
      → AreAfter graph mode namespace steps n all → AreAt graph mode (unwrap_or step.mark namespace) step.to rest
      → AreAfter graph mode namespace steps (n + 1) (all ++ map (prepend_step n) rest)
  after_open n step all rest occurs opens so_far are = record {
    are_all_dependencies = λ found has. elim (Contains-append_cases all (map (prepend_step n) rest) found has) [
      | inl h ↦ still_among n found (so_far.are_all_dependencies found h)
      | inr h ↦ occurs_after_step n step rest occurs opens are found (image_from (prepend_step n) rest found h)
    ];
    has_every_dependency = none_missing_open n step all rest occurs so_far are;
    in_order = order_append all (map (prepend_step n) rest) so_far.in_order (order_after_step n rest are.in_order)
        (λ x y occurs_with_expressions in_rest. let from = image_from (prepend_step n) rest y in_rest in
        subst (λ (f : DependencyOccurrence). IsPathBefore x.path f.path) from.gives
        (before_later n x.path from.source.path (so_far.are_all_dependencies x occurs_with_expressions).1));
  }

  none_missing_at_last : (n : ℕ) (all : List DependencyOccurrence) → length steps ≤ n → AreAfter graph mode namespace steps n all
      → (path : List ℕ) (dependency : NamespacedReference) → IsDependencyAtPath graph mode namespace steps path dependency → Contains all
      (at_path path dependency)
  none_missing_at_last n all whole so_far [] dependency d = so_far.has_every_dependency [] dependency d tt
  none_missing_at_last n all whole so_far (i ∷ path) dependency d =
      let b = split_first graph mode namespace steps i path dependency d in
      let inside = slice_get_within steps i b.step b.occurs in
      so_far.has_every_dependency (i ∷ path) dependency d (omega arith)

  pub after_all : (n : ℕ) (all : List DependencyOccurrence) → length steps ≤ n → AreAfter graph mode namespace steps n all
      → AreAllDependencyOccurrencesInOrder graph mode namespace steps all
  after_all n all whole so_far = record {
    are_all_dependencies = λ found has. (so_far.are_all_dependencies found has).0;
    has_every_dependency = none_missing_at_last n all whole so_far;
    in_order = so_far.in_order;
  }
