-- Simple chains, step by step: no module is visited again.
use Rattle.std.proofs.Common.{◌≡◌, ℕ, zero, suc, ◌+◌, ◌<◌, ◌≤◌, Bool, true, false, ◌||◌, List, [], ◌∷◌, ◌++◌, length, take}
use Rattle.std.proofs.Common.{map, get_or, Option, None, Some, option_and_then, refl, sym, ap, subst, ◌∙◌, arith, true≢false}
use Rattle.std.specs.Prelude.{if◌then◌else◌}
use Rattle.std.specs.Str.{bytes_eq}
use Rattle.std.proofs.lemmas.Cmp.{nat_list_eq_equiv}
use Rattle.std.proofs.lemmas.List.Sums.{sum_by-le}
use Rattle.std.proofs.lemmas.Option.{none-some, same_Some}
use Rattle.std.proofs.lemmas.Slice.Eq.{bytes_eq-Decides}
use Rattle.symbols_ast.specs.Graph.{GraphView, ModuleView}
use Rattle.symbols_root.specs.Specifiers.{module_with_specifier, contains_specifier}
use Rattle.symbols_exports.specs.Chains.{StarTargets, star_target_at, chain_end_module, IsSimpleChain}
use Rattle.symbols_exports.specs.StarStatements.{star_targets_of, star_specifiers, resolve_specifier}
use Rattle.symbols_exports.proofs.ResolvedModulesExist.{target_known}
use Rattle.symbols_exports.proofs.UnvisitedWeight.{unvisited, weighed, unvisited_entered, among_more}

-- a chain from one module to another that visits no module again, and none of those before
abbrev pub Goes : StarTargets → List (List ℕ) → List ℕ → List ℕ → List ℕ → Type 0
Goes statements before here [] end = (contains_specifier before here ≡ false) × (here ≡ end)
Goes statements before here (k ∷ chain) end =
    (contains_specifier before here ≡ false)
    × ((next : List ℕ) × (star_target_at statements here k ≡ Some next) × Goes statements (before ++ here ∷ []) next chain end)

pub starts_fresh : (statements : StarTargets) (before : List (List ℕ)) (here chain end : List ℕ) → Goes statements before here chain end
    → contains_specifier before here ≡ false
starts_fresh statements before here [] end goes = goes.0
starts_fresh statements before here (k ∷ chain) end goes = goes.0

-- ---- membership in modules and one more

among_itself : (before : List (List ℕ)) (here : List ℕ) → contains_specifier (before ++ here ∷ []) here ≡ true
among_itself before here = rw (among_more before here here, nat_list_eq_equiv.refl here) (last (contains_specifier before here))
  where
    last : (b : Bool) → (b || (true || false)) ≡ true
    last true = refl
    last false = refl

fewer_among : (before : List (List ℕ)) (here q : List ℕ) → contains_specifier (before ++ here ∷ []) q ≡ false → contains_specifier before q ≡ false
fewer_among before here q none = by (contains_specifier before q) (bytes_eq q here) (sym (among_more before here q) ∙ none)
  where
    by : (b c : Bool) → (b || (c || false)) ≡ false → b ≡ false
    by true c is = absurd (true≢false is)
    by false c is = refl

not_among_more : (before : List (List ℕ)) (here q : List ℕ) → contains_specifier before q ≡ false → (q ≡ here → ⊥)
    → contains_specifier (before ++ here ∷ []) q ≡ false
not_among_more before here q none other = rw (among_more before here q, none) (by (bytes_eq q here) refl)
  where
    by : (b : Bool) → bytes_eq q here ≡ b → (b || false) ≡ false
    by true is = absurd (other ((bytes_eq-Decides q here).0 is))
    by false is = refl

-- ---- such a chain is a simple one

step_ends : (statements : StarTargets) (here next : List ℕ) (k : ℕ) (chain : List ℕ) → star_target_at statements here k ≡ Some next
    → chain_end_module statements here (k ∷ chain) ≡ chain_end_module statements next chain
step_ends statements here next k chain ends_at = ap (option_and_then (λ u. chain_end_module statements u chain)) ends_at

pub goes_ends : (statements : StarTargets) (before : List (List ℕ)) (here chain end : List ℕ) → Goes statements before here chain end
    → chain_end_module statements here chain ≡ Some end
goes_ends statements before here [] end goes = ap (λ u. Some u) goes.1
goes_ends statements before here (k ∷ chain) end goes =
    step_ends statements here goes.1.0 k chain goes.1.1 ∙ goes_ends statements (before ++ here ∷ []) goes.1.0 chain end goes.1.2

goes_apart : (statements : StarTargets) (before : List (List ℕ)) (here chain end : List ℕ) → Goes statements before here chain end → (j : ℕ) (w : List ℕ)
    → chain_end_module statements here (take j chain) ≡ Some w → contains_specifier before w ≡ false
goes_apart statements before here [] end goes zero w at = subst (λ u. contains_specifier before u ≡ false) (same_Some here w at) goes.0
goes_apart statements before here [] end goes (suc j) w at = subst (λ u. contains_specifier before u ≡ false) (same_Some here w at) goes.0
goes_apart statements before here (k ∷ chain) end goes zero w at = subst (λ u. contains_specifier before u ≡ false) (same_Some here w at) goes.0
goes_apart statements before here (k ∷ chain) end goes (suc j) w at = fewer_among before here w
    (goes_apart statements (before ++ here ∷ []) goes.1.0 chain end goes.1.2 j w (sym (step_ends statements here goes.1.0 k (take j chain) goes.1.1) ∙ at))

goes_once : (statements : StarTargets) (before : List (List ℕ)) (here chain end : List ℕ) → Goes statements before here chain end → (i j : ℕ) → i ≤ length chain
    → j ≤ length chain → chain_end_module statements here (take i chain) ≡ chain_end_module statements here (take j chain) → i ≡ j
goes_once statements before here chain end goes zero zero i_in j_in same = refl
goes_once statements before here [] end goes zero (suc j) i_in j_in same = absurd (omega (arith, j_in))
goes_once statements before here [] end goes (suc i) j i_in j_in same = absurd (omega (arith, i_in))
goes_once statements before here (k ∷ chain) end goes zero (suc j) i_in j_in same =
    let later : chain_end_module statements goes.1.0 (take j chain) ≡ Some here = sym (step_ends statements here goes.1.0 k (take j chain) goes.1.1)
    ∙ sym same in
    absurd (true≢false (sym (among_itself before here) ∙ goes_apart statements (before ++ here ∷ []) goes.1.0 chain end goes.1.2 j here later))
goes_once statements before here (k ∷ chain) end goes (suc i) zero i_in j_in same =
    let later : chain_end_module statements goes.1.0 (take i chain) ≡ Some here = sym (step_ends statements here goes.1.0 k (take i chain) goes.1.1) ∙ same in
    absurd (true≢false (sym (among_itself before here) ∙ goes_apart statements (before ++ here ∷ []) goes.1.0 chain end goes.1.2 i here later))
goes_once statements before here (k ∷ chain) end goes (suc i) (suc j) i_in j_in same =
    ap suc (goes_once statements (before ++ here ∷ []) goes.1.0 chain end goes.1.2 i j (omega (arith, i_in)) (omega (arith, j_in))
    (sym (step_ends statements here goes.1.0 k (take i chain) goes.1.1) ∙ (same ∙ step_ends statements here goes.1.0 k (take j chain) goes.1.1)))

pub goes_simple : (statements : StarTargets) (start chain end : List ℕ) → Goes statements [] start chain end → IsSimpleChain statements start chain end
goes_simple statements start chain end goes =
    record { ends_at = goes_ends statements [] start chain end goes; has_no_duplicates = goes_once statements [] start chain end goes }

-- ---- and each simple chain is such a one

goes_from : (statements : StarTargets) (before : List (List ℕ)) (here chain end : List ℕ) → chain_end_module statements here chain ≡ Some end
    → ((j : ℕ) (w : List ℕ)
    → j ≤ length chain → chain_end_module statements here (take j chain) ≡ Some w → contains_specifier before w ≡ false)
    → ((i j : ℕ) → i ≤ length chain → j ≤ length chain
    → chain_end_module statements here (take i chain) ≡ chain_end_module statements here (take j chain) → i ≡ j) → Goes statements before here chain end
goes_from statements before here [] end ends_at apart once = (apart 0 here (omega arith) refl, same_Some here end ends_at)
goes_from statements before here (k ∷ chain) end ends_at apart once = by (star_target_at statements here k) refl ends_at
    (λ v at later. goes_from statements (before ++ here ∷ []) v chain end later (further_apart v at) (further_once v at))
  where
    further_apart : (v : List ℕ) → star_target_at statements here k ≡ Some v → (j : ℕ) (w : List ℕ) → j ≤ length chain
        → chain_end_module statements v (take j chain) ≡ Some w → contains_specifier (before ++ here ∷ []) w ≡ false
    further_apart v at j w within ends =
        let from_here : chain_end_module statements here (k ∷ take j chain) ≡ Some w = step_ends statements here v k (take j chain) at ∙ ends in
        not_among_more before here w (apart (suc j) w (omega (arith, within)) from_here)
        (λ same. absurd (again (once zero (suc j) (omega arith) (omega (arith, within)) (ap (λ u. Some u) (sym same) ∙ sym from_here))))
      where
        again : zero ≡ suc j → ⊥
        again equal = omega (arith, equal)

    further_once : (v : List ℕ) → star_target_at statements here k ≡ Some v → (i j : ℕ) → i ≤ length chain → j ≤ length chain
        → chain_end_module statements v (take i chain) ≡ chain_end_module statements v (take j chain) → i ≡ j
    further_once v at i j i_in j_in same =
        let equal : suc i ≡ suc j = once (suc i) (suc j) (omega (arith, i_in)) (omega (arith, j_in)) (step_ends statements here v k (take i chain) at
        ∙ (same ∙ sym (step_ends statements here v k (take j chain) at))) in
        omega (arith, equal)

    by : (next : Option (List ℕ)) → star_target_at statements here k ≡ next → option_and_then (λ u. chain_end_module statements u chain) next ≡ Some end
        → ((v : List ℕ) → star_target_at statements here k ≡ Some v → chain_end_module statements v chain ≡ Some end
        → Goes statements (before ++ here ∷ []) v chain end) → Goes statements before here (k ∷ chain) end
    by None at none rest = absurd (none-some end none)
    by (Some v) at later rest = (apart 0 here (omega arith) refl, (v, at, rest v at later))

pub simple_goes : (statements : StarTargets) (start chain end : List ℕ) → IsSimpleChain statements start chain end → Goes statements [] start chain end
simple_goes statements start chain end simple = goes_from statements [] start chain end simple.ends_at (λ j w within at. refl) simple.has_no_duplicates

-- ---- it has no more statements than the graph has modules

module _ (graph : GraphView) where
  abbrev one : List ℕ → ℕ
  one specifier = 1

  target_at : (texts : List (List ℕ)) (specifier : List ℕ) (i : ℕ) (v : List ℕ) → get_or (map (resolve_specifier graph specifier) texts) i None ≡ Some v
      → (m : ModuleView) × (module_with_specifier graph v ≡ Some m)
  target_at [] specifier i v at = absurd (none-some v at)
  target_at (specifier_text ∷ texts) specifier zero v at = target_known graph specifier specifier_text v at
  target_at (specifier_text ∷ texts) specifier (suc i) v at = target_at texts specifier i v at

  few_unvisited : (before : List (List ℕ)) → unvisited one before graph.modules ≤ length graph.modules
  few_unvisited before = omega (arith, sum_by-le (weighed one before) 1 graph.modules (λ k d within. at_most (get_or graph.modules k d)))
    where
      at_most : (m : ModuleView) → weighed one before m ≤ 1
      at_most m = by (contains_specifier before m.specifier)
        where
          by : (b : Bool) → (if b then 0 else 1) ≤ 1
          by true = omega arith
          by false = omega arith

  goes_short : (before : List (List ℕ)) (here chain end : List ℕ) → Goes (star_targets_of graph) before here chain end
      → length chain ≤ unvisited one (before ++ here ∷ []) graph.modules
  goes_short before here [] end goes = omega arith
  goes_short before here (k ∷ chain) end goes =
      let v = goes.1.0 in
      let known = target_at (star_specifiers graph here) here k v goes.1.1 in
      let fewer = unvisited_entered one (before ++ here ∷ []) v (starts_fresh (star_targets_of graph) (before ++ here ∷ []) v chain end goes.1.2) graph.modules
      known.0 known.1 in
      omega (arith, fewer, goes_short (before ++ here ∷ []) v chain end goes.1.2)

  pub goes_enough : (start chain end : List ℕ) → Goes (star_targets_of graph) [] start chain end → length chain < length graph.modules + 1
  goes_enough start chain end goes = omega (arith, goes_short [] start chain end goes, few_unvisited (start ∷ []))
