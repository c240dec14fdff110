-- The weight of the modules of a graph that a walk hasn't visited.
use Rattle.std.proofs.Common.{◌≡◌, ℕ, ◌+◌, ◌≤◌, Bool, true, false, ◌||◌, List, [], ◌∷◌, ◌++◌, find, Some, refl, subst, sum_by, arith}
use Rattle.std.specs.Prelude.{if◌then◌else◌}
use Rattle.std.specs.Str.{bytes_eq}
use Rattle.std.proofs.lemmas.Cmp.{nat_list_eq_equiv}
use Rattle.std.proofs.lemmas.List.Folds.{list_any-append}
use Rattle.std.proofs.lemmas.List.Sums.{sum_by-cons}
use Rattle.std.proofs.lemmas.Option.{none-some}
use Rattle.std.proofs.lemmas.Slice.Eq.{bytes_eq-Decides}
use Rattle.symbols_ast.specs.Graph.{ModuleView}
use Rattle.symbols_root.specs.Specifiers.{contains_specifier}

-- the weight of a module, and 0 if it was visited
abbrev pub weighed : (List ℕ → ℕ) → List (List ℕ) → ModuleView → ℕ
weighed weight visited m = if contains_specifier visited m.specifier then 0 else weight m.specifier

abbrev pub unvisited : (List ℕ → ℕ) → List (List ℕ) → List ModuleView → ℕ
unvisited weight visited modules = sum_by (weighed weight visited) modules

-- with one more visited module
pub among_more : (visited : List (List ℕ)) (v q : List ℕ) → contains_specifier (visited ++ v ∷ []) q ≡ (contains_specifier visited q || (bytes_eq q v || false))
among_more visited v q = list_any-append (bytes_eq q) visited (v ∷ [])

module _ (weight : List ℕ → ℕ) (visited : List (List ℕ)) (v : List ℕ) where
  weighed_no_more : (m : ModuleView) → weighed weight (visited ++ v ∷ []) m ≤ weighed weight visited m
  weighed_no_more m = rw (among_more visited v m.specifier) (by (contains_specifier visited m.specifier) (bytes_eq m.specifier v))
    where
      by : (was is : Bool) → (if was || (is || false) then 0 else weight m.specifier) ≤ (if was then 0 else weight m.specifier)
      by true is = omega arith
      by false true = omega arith
      by false false = omega arith

  pub unvisited_no_more : (modules : List ModuleView) → unvisited weight (visited ++ v ∷ []) modules ≤ unvisited weight visited modules
  unvisited_no_more [] = omega arith
  unvisited_no_more (m ∷ modules) = rw (sum_by-cons (weighed weight (visited ++ v ∷ [])) m modules, sum_by-cons (weighed weight visited) m modules)
      (omega (arith, weighed_no_more m, unvisited_no_more modules))

  module _ (fresh : contains_specifier visited v ≡ false) where
    -- the module itself has the weight 0 then
    weighed_nothing : (m : ModuleView) → v ≡ m.specifier → (weighed weight (visited ++ v ∷ []) m ≡ 0) × (weighed weight visited m ≡ weight v)
    weighed_nothing m same = (gone, was)
      where
        last : (b : Bool) → (if b || (true || false) then 0 else weight v) ≡ 0
        last true = refl
        last false = refl

        gone : weighed weight (visited ++ v ∷ []) m ≡ 0
        gone = subst (λ q. (if contains_specifier (visited ++ v ∷ []) q then 0 else weight q) ≡ 0) same
            (rw (among_more visited v v, nat_list_eq_equiv.refl v) (last (contains_specifier visited v)))

        was : weighed weight visited m ≡ weight v
        was = subst (λ q. (if contains_specifier visited q then 0 else weight q) ≡ weight v) same (rw fresh refl)

    pub unvisited_entered : (modules : List ModuleView) (m : ModuleView) → find (λ x. bytes_eq v x.specifier) modules ≡ Some m
        → unvisited weight (visited ++ v ∷ []) modules + weight v ≤ unvisited weight visited modules
    unvisited_entered [] m found = absurd (none-some m found)
    unvisited_entered (x ∷ modules) m found = by (bytes_eq v x.specifier) refl (λ later. unvisited_entered modules m later)
      where
        sums : (unvisited weight (visited ++ v ∷ []) (x ∷ modules) ≡ weighed weight (visited ++ v ∷ []) x + unvisited weight (visited ++ v ∷ []) modules)
            × (unvisited weight visited (x ∷ modules) ≡ weighed weight visited x + unvisited weight visited modules)
        sums = (sum_by-cons (weighed weight (visited ++ v ∷ [])) x modules, sum_by-cons (weighed weight visited) x modules)

        by : (b : Bool) → bytes_eq v x.specifier ≡ b → (find (λ y. bytes_eq v y.specifier) modules ≡ Some m → unvisited weight (visited ++ v ∷ []) modules
            + weight v ≤ unvisited weight visited modules)
            → unvisited weight (visited ++ v ∷ []) (x ∷ modules) + weight v ≤ unvisited weight visited (x ∷ modules)
        by true is rest =
            let nothing = weighed_nothing x ((bytes_eq-Decides v x.specifier).0 is) in
            rw (sums.0, sums.1, nothing.0, nothing.1) (omega (arith, unvisited_no_more modules))
        by false is rest = rw (sums.0, sums.1) (omega (arith, weighed_no_more x, rest (rw is at found)))
