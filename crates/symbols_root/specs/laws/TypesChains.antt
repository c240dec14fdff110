-- Laws of types chains: the computed chain is the types chain of a specifier, and no other list is. They are proved.
use Rattle.std.proofs.Common.{◌≡◌, ℕ, zero, suc, ◌+◌, ◌≤◌, Bool, true, false, List, [], ◌∷◌, ◌++◌, length}
use Rattle.std.proofs.Common.{Option, None, Some, refl, sym, ap, subst, ◌∙◌, arith, append_assoc, append-nil}
use Rattle.std.specs.Prelude.{if◌then◌else◌}
use Rattle.std.specs.List.{IsDistinct}
use Rattle.std.specs.Str.{bytes_eq}
use Rattle.std.proofs.lemmas.List.{length_push}
use Rattle.std.proofs.lemmas.Map.Keys.{IsDistinct-push}
use Rattle.std.proofs.lemmas.Option.{same_Some}
use Rattle.symbols_ast.specs.Graph.{GraphView, ModuleView, module_after_redirect, content_types_dependency}
use Rattle.symbols_graph.specs.GraphFaults.{module_specifiers}
use Rattle.symbols_root.specs.Specifiers.{module_with_specifier, contains_specifier}
use Rattle.symbols_root.specs.TypesChains.{types_module, types_chain_from, types_chain, AreTypesModulesFrom, IsTypesChain, IsUniqueTypesChain}
use Rattle.symbols_root.specs.laws.Specifiers.{bytes_eq_is_equivalence, empty_list_is_distinct, AreSpecifiersOfModulesIn, empty_list_is_of_modules_in_graph}
use Rattle.symbols_root.specs.laws.Specifiers.{pushed_specifiers_are_in_graph, distinct_specifiers_are_at_most_modules, distinct_element_is_not_before_itself}
use Rattle.symbols_root.specs.laws.Specifiers.{redirected_module_has_its_specifier, types_module_has_its_specifier}

module _ (graph : GraphView) where
  -- ---- one step of the chain

  pub types_chain_from_no_module : (n : ℕ) (before : List (List ℕ)) → types_chain_from graph n before None ≡ []
  unfolding types_chain_from
  types_chain_from_no_module zero before = refl
  types_chain_from_no_module (suc n) before = refl

  pub types_chain_from_visited_module : (n : ℕ) (before : List (List ℕ)) (m : ModuleView) → contains_specifier before m.specifier ≡ true
      → types_chain_from graph n before (Some m) ≡ []
  unfolding types_chain_from
  types_chain_from_visited_module zero before m is = refl
  types_chain_from_visited_module (suc n) before m is = ap (λ b. if b then [] else m ∷ types_chain_from graph n (before ++ m.specifier ∷ [])
      (types_module graph m)) is

  pub types_chain_from_new_module : (n : ℕ) (before : List (List ℕ)) (m : ModuleView) → contains_specifier before m.specifier ≡ false
      → types_chain_from graph (suc n) before (Some m) ≡ m ∷ types_chain_from graph n (before ++ m.specifier ∷ []) (types_module graph m)
  unfolding types_chain_from
  types_chain_from_new_module n before m is = ap (λ b. if b then [] else m ∷ types_chain_from graph n (before ++ m.specifier ∷ []) (types_module graph m)) is

  -- a new module of the graph is one of the modules not counted before
  pub new_module_fits_in_module_count : (before : List (List ℕ)) (m : ModuleView) → IsDistinct bytes_eq before → AreSpecifiersOfModulesIn graph before
      → module_with_specifier graph m.specifier ≡ Some m
      → contains_specifier before m.specifier ≡ false → length before + 1 ≤ length graph.modules
  new_module_fits_in_module_count before m once inside under new =
      let more = distinct_specifiers_are_at_most_modules graph (before ++ m.specifier ∷ [])
      (IsDistinct-push bytes_eq_is_equivalence before m.specifier once new)
      (pushed_specifiers_are_in_graph graph before m inside under) in
      omega (arith, more, length_push before m.specifier)

  -- ---- each is the types module of the one before, and they are different

  pub follows_types_dependencies : (n : ℕ) (before : List (List ℕ)) (found : Option ModuleView) → AreTypesModulesFrom graph found
      (types_chain_from graph n before found)
  unfolding types_chain_from
  follows_types_dependencies zero before found = tt
  follows_types_dependencies (suc n) before None = tt
  follows_types_dependencies (suc n) before (Some m) = by (contains_specifier before m.specifier) (follows_types_dependencies n (before ++ m.specifier ∷ [])
      (types_module graph m))
    where
      by : (b : Bool) → AreTypesModulesFrom graph (types_module graph m) (types_chain_from graph n (before ++ m.specifier ∷ []) (types_module graph m))
          → AreTypesModulesFrom graph (Some m) (if b then [] else m ∷ types_chain_from graph n (before ++ m.specifier ∷ []) (types_module graph m))
      by true rest = tt
      by false rest = (refl, rest)

  pub types_chain_from_is_distinct : (n : ℕ) (before : List (List ℕ)) (found : Option ModuleView) → IsDistinct bytes_eq before
      → IsDistinct bytes_eq (before ++ module_specifiers (types_chain_from graph n before found))
  unfolding types_chain_from
  types_chain_from_is_distinct zero before found once = subst (IsDistinct bytes_eq) (sym (append-nil before)) once
  types_chain_from_is_distinct (suc n) before None once = subst (IsDistinct bytes_eq) (sym (append-nil before)) once
  types_chain_from_is_distinct (suc n) before (Some m) once = by (contains_specifier before m.specifier) refl
      (types_chain_from_is_distinct n (before ++ m.specifier ∷ []) (types_module graph m))
    where
      by : (b : Bool) → contains_specifier before m.specifier ≡ b
          → (IsDistinct bytes_eq (before ++ m.specifier ∷ []) → IsDistinct bytes_eq ((before ++ m.specifier ∷ [])
          ++ module_specifiers (types_chain_from graph n (before ++ m.specifier ∷ []) (types_module graph m))))
          → IsDistinct bytes_eq
          (before ++ module_specifiers (if b then [] else m ∷ types_chain_from graph n (before ++ m.specifier ∷ []) (types_module graph m)))
      by true is rest = subst (IsDistinct bytes_eq) (sym (append-nil before)) once
      by false is rest = rw append_assoc at (rest (IsDistinct-push bytes_eq_is_equivalence before m.specifier once is))

  -- ---- no such list is longer

  pub no_types_path_is_longer : (n : ℕ) (before : List (List ℕ)) (found : Option ModuleView) (other : List ModuleView) → length graph.modules
      ≤ n + length before
      → IsDistinct bytes_eq before → AreSpecifiersOfModulesIn graph before
      → ((m : ModuleView) → found ≡ Some m → module_with_specifier graph m.specifier ≡ Some m) → AreTypesModulesFrom graph found other
      → IsDistinct bytes_eq (before ++ module_specifiers other) → length other ≤ length (types_chain_from graph n before found)
  no_types_path_is_longer n before found [] enough once inside there are distinct = omega arith
  no_types_path_is_longer zero before found (m ∷ rest) enough once inside there are distinct =
      let r = new_module_fits_in_module_count before m once inside (there m are.0)
      (distinct_element_is_not_before_itself before (module_specifiers rest) m.specifier distinct) in
      absurd (omega (arith, r, enough))
  no_types_path_is_longer (suc n) before found (m ∷ rest) enough once inside there are distinct =
      let new = distinct_element_is_not_before_itself before (module_specifiers rest) m.specifier distinct in
      let push = IsDistinct-push bytes_eq_is_equivalence before m.specifier once new in
      let more = no_types_path_is_longer n (before ++ m.specifier ∷ []) (types_module graph m) rest (omega (arith, enough, length_push before m.specifier)) push
      (pushed_specifiers_are_in_graph graph before m inside (there m are.0))
      (types_module_has_its_specifier graph (content_types_dependency m.content)) are.1
      (subst (IsDistinct bytes_eq) (sym (append_assoc before (m.specifier ∷ []) (module_specifiers rest))) distinct) in
      rw (are.0, types_chain_from_new_module n before m new) (omega (arith, more))

  -- ---- the types chain

  pub types_chain_satisfies_its_definition : (specifier : List ℕ) → IsTypesChain graph specifier (types_chain graph specifier)
  types_chain_satisfies_its_definition specifier = record {
    is_types_dependency_path = record {
      in_order = follows_types_dependencies (length graph.modules) [] (module_after_redirect graph specifier);
      has_no_duplicates = types_chain_from_is_distinct (length graph.modules) [] (module_after_redirect graph specifier) empty_list_is_distinct;
    };
    is_longest = λ other follows. no_types_path_is_longer (length graph.modules) [] (module_after_redirect graph specifier) other
        (omega arith) empty_list_is_distinct (empty_list_is_of_modules_in_graph graph)
        (redirected_module_has_its_specifier graph specifier) follows.in_order follows.has_no_duplicates;
  }

  same_linked : (found : Option ModuleView) (a b : List ModuleView) → AreTypesModulesFrom graph found a → AreTypesModulesFrom graph found b
      → length a ≡ length b → a ≡ b
  same_linked found [] [] one other long = refl
  same_linked found [] (y ∷ b) one other long = absurd (omega (arith, long))
  same_linked found (x ∷ a) [] one other long = absurd (omega (arith, long))
  same_linked found (x ∷ a) (y ∷ b) one other long =
      let head : x ≡ y = same_Some x y (sym one.0 ∙ other.0) in
      let rest : a ≡ b = same_linked (types_module graph x) a b one.1 (subst (λ m. AreTypesModulesFrom graph (types_module graph m) b) (sym head)
      other.1) (omega (arith, long)) in
      cc

  pub types_chain_is_unique : (specifier : List ℕ) → IsUniqueTypesChain graph specifier (types_chain graph specifier)
  types_chain_is_unique specifier =
      let stored_specifier = types_chain_satisfies_its_definition specifier in
      record {
        is_chain = stored_specifier;
        only = λ other is.
            let up = stored_specifier.is_longest other is.is_types_dependency_path in
            let down = is.is_longest (types_chain graph specifier) stored_specifier.is_types_dependency_path in
            same_linked (module_after_redirect graph specifier) other
            (types_chain graph specifier) is.is_types_dependency_path.in_order stored_specifier.is_types_dependency_path.in_order
            (omega (arith, up, down));
      }
