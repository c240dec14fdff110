-- The loop that follows a types chain.
use Rattle.std.proofs.Common.{◌≡◌, ℕ, zero, suc, ◌+◌, ◌≤◌, ◌⊎◌, inl, inr, Bool, true, false, ◌||◌, List, [], ◌∷◌, ◌++◌, length, map, reverse, find, IfSome}
use Rattle.std.proofs.Common.{option_copied, option_and_then, Option, None, Some, refl, sym, ap, subst, ◌∙◌, arith, append_assoc, append-nil}
use Rattle.std.specs.Prelude.{if◌then◌else◌}
use Rattle.std.specs.Borrow.{Bor}
use Rattle.std.specs.List.{IsDistinct, list_any}
use Rattle.std.specs.Str.{bytes_eq}
use Rattle.std.proofs.lemmas.List.{length_push, map-append, reverse-append}
use Rattle.std.proofs.lemmas.Map.Keys.{IsDistinct-push}
use Rattle.std.proofs.lemmas.Option.{none-some, same_Some}
use Rattle.indexmap.specs.IndexSet.{insert_key}
use Rattle.symbols_ast.specs.Graph.{GraphView, ModuleView, module_after_redirect, content_types_dependency, IsCheckedContent}
use Rattle.symbols_root.specs.Specifiers.{module_with_specifier, contains_specifier}
use Rattle.symbols_root.specs.TypesChains.{is_analyzable, types_module, types_chain_from, types_chain, get_prefer_types, HasTypesDependency}
use Rattle.symbols_root.specs.laws.Specifiers.{bytes_eq_is_equivalence, empty_list_is_distinct, AreSpecifiersOfModulesIn, empty_list_is_of_modules_in_graph}
use Rattle.symbols_root.specs.laws.Specifiers.{pushed_specifiers_are_in_graph, redirected_module_has_its_specifier, types_module_has_its_specifier}
use Rattle.symbols_root.specs.laws.TypesChains.{types_chain_from_no_module, types_chain_from_visited_module, types_chain_from_new_module}
use Rattle.symbols_root.specs.laws.TypesChains.{new_module_fits_in_module_count}

-- a module that was found: it has its own specifier in the graph, and its content is checked
pub record IsKnown (graph : GraphView) (m : ModuleView) : Type 0 where
  pub under : module_with_specifier graph m.specifier ≡ Some m
  pub checked : IsCheckedContent m.content

-- the state of the loop: the modules passed so far, the last of them with symbols, and the module that was looked up
pub record IsFollowing (graph : GraphView) (specifier : List ℕ) (before : List (List ℕ)) (resolved_to found : Option ModuleView) : Type 0 where
  pub passed : List ModuleView
  pub more : ℕ
  pub enough : length graph.modules ≤ more + length before
  pub has_no_duplicates : IsDistinct bytes_eq before
  pub inside : AreSpecifiersOfModulesIn graph before
  pub chain : types_chain graph specifier ≡ passed ++ types_chain_from graph more before found
  pub last : resolved_to ≡ find is_analyzable (reverse passed)
  pub known : (m : ModuleView) → resolved_to ≡ Some m → IsKnown graph m
  pub under : (m : ModuleView) → found ≡ Some m → module_with_specifier graph m.specifier ≡ Some m
  pub named : (m : ModuleView) → found ≡ Some m → (module_after_redirect graph specifier ≡ Some m) ⊎ HasTypesDependency graph specifier

pub following_first : (graph : GraphView) (specifier : List ℕ) → IsFollowing graph specifier [] None (module_after_redirect graph specifier)
following_first graph specifier = record {
  passed = [];
  more = length graph.modules;
  enough = omega arith;
  has_no_duplicates = empty_list_is_distinct;
  inside = empty_list_is_of_modules_in_graph graph;
  chain = refl;
  last = refl;
  known = λ m e. absurd (none-some m e);
  under = redirected_module_has_its_specifier graph specifier;
  named = λ m e. inl e;
}

-- a types dependency of the module that was looked up: the first module of the chain has one
pub types_followed : (graph : GraphView) (specifier types : List ℕ) (m : ModuleView) → content_types_dependency m.content ≡ Some types
    → (module_after_redirect graph specifier ≡ Some m) ⊎ HasTypesDependency graph specifier → HasTypesDependency graph specifier
types_followed graph specifier types m is (inl at) = (m, types, at, is)
types_followed graph specifier types m is (inr earlier) = earlier

-- the chain ends here
occurs_at_end : (graph : GraphView) (specifier : List ℕ) (passed rest : List ModuleView) (resolved_to : Option ModuleView) → types_chain graph specifier
    ≡ passed ++ rest → rest ≡ [] → resolved_to ≡ find is_analyzable (reverse passed) → resolved_to ≡ get_prefer_types graph specifier
occurs_at_end graph specifier passed rest resolved_to chain none last =
    last ∙ ap (λ modules. find is_analyzable (reverse modules)) (sym (chain ∙ (ap (λ r. passed ++ r) none ∙ append-nil passed)))

last_of : (resolved_to : Option ModuleView) (passed : List ModuleView) (m : ModuleView) → resolved_to ≡ find is_analyzable (reverse passed)
    → (if is_analyzable m then Some m else resolved_to) ≡ find is_analyzable (reverse (passed ++ m ∷ []))
last_of resolved_to passed m last = ap (λ o. if is_analyzable m then Some m else o) last ∙ ap (find is_analyzable) (sym (reverse-append passed (m ∷ [])))

module _ {graph : GraphView} {specifier : List ℕ} {before : List (List ℕ)} {resolved_to : Option ModuleView} where
  pub following_over : IsFollowing graph specifier before resolved_to None → resolved_to ≡ get_prefer_types graph specifier
  following_over w = occurs_at_end graph specifier w.passed _ resolved_to w.chain (types_chain_from_no_module graph w.more before) w.last

  pub following_back : (m : ModuleView) → IsFollowing graph specifier before resolved_to (Some m) → contains_specifier before m.specifier ≡ true
      → resolved_to ≡ get_prefer_types graph specifier
  following_back m w is = occurs_at_end graph specifier w.passed _ resolved_to w.chain (types_chain_from_visited_module graph w.more before m is) w.last

  pub following_room : (m : ModuleView) → IsFollowing graph specifier before resolved_to (Some m) → contains_specifier before m.specifier ≡ false
      → length before + 1 ≤ length graph.modules
  following_room m w new = new_module_fits_in_module_count graph before m w.has_no_duplicates w.inside (w.under m refl) new

  -- the state after a new module
  pub following_next : (m : ModuleView) → IsFollowing graph specifier before resolved_to (Some m) → contains_specifier before m.specifier ≡ false
      → IsCheckedContent m.content
      → IsFollowing graph specifier (before ++ m.specifier ∷ []) (if is_analyzable m then Some m else resolved_to) (types_module graph m)
  following_next m w new checked = by w.more w.enough w.chain
    where
      known_later : (b : Bool) (x : ModuleView) → (if b then Some m else resolved_to) ≡ Some x → IsKnown graph x
      known_later true x e = subst (IsKnown graph) (same_Some m x e) (record { under = w.under m refl; checked = checked })
      known_later false x e = w.known x e

      named_later : (types : Option (List ℕ)) → content_types_dependency m.content ≡ types → (x : ModuleView)
          → option_and_then (module_after_redirect graph) types ≡ Some x
          → (module_after_redirect graph specifier ≡ Some x) ⊎ HasTypesDependency graph specifier
      named_later None is x e = absurd (none-some x e)
      named_later (Some types) is x e = inr (types_followed graph specifier types m is (w.named m refl))

      by : (more : ℕ) → length graph.modules ≤ more + length before → types_chain graph specifier ≡ w.passed ++ types_chain_from graph more before (Some m)
          → IsFollowing graph specifier (before ++ m.specifier ∷ []) (if is_analyzable m then Some m else resolved_to) (types_module graph m)
      by zero enough chain = absurd (omega (arith, following_room m w new, enough))
      by (suc more) enough chain = record {
        passed = w.passed ++ m ∷ [];
        more = more;
        enough = omega (arith, enough, length_push before m.specifier);
        has_no_duplicates = IsDistinct-push bytes_eq_is_equivalence before m.specifier w.has_no_duplicates new;
        inside = pushed_specifiers_are_in_graph graph before m w.inside (w.under m refl);
        chain = chain ∙ (ap (λ rest. w.passed ++ rest) (types_chain_from_new_module graph more before m new)
            ∙ sym (append_assoc w.passed (m ∷ []) (types_chain_from graph more (before ++ m.specifier ∷ []) (types_module graph m))));
        last = last_of resolved_to w.passed m w.last;
        known = known_later (is_analyzable m);
        under = types_module_has_its_specifier graph (content_types_dependency m.content);
        named = named_later (content_types_dependency m.content) refl;
      }

  -- a new module without a types dependency ends the chain
  pub following_last : (m : ModuleView) → IsFollowing graph specifier before resolved_to (Some m) → contains_specifier before m.specifier ≡ false
      → IsCheckedContent m.content
      → content_types_dependency m.content ≡ None → (if is_analyzable m then Some m else resolved_to) ≡ get_prefer_types graph specifier
  following_last m w new checked none =
      let next = following_next m w new checked in
      occurs_at_end graph specifier next.passed _ (if is_analyzable m then Some m else resolved_to) next.chain (ap (λ t. types_chain_from graph next.more
      (before ++ m.specifier ∷ []) (option_and_then (module_after_redirect graph) t)) none ∙ types_chain_from_no_module graph next.more (before ++ m.specifier
      ∷ [])) next.last

-- the same at the values of a step
pub following_step : {graph : GraphView} {specifier : List ℕ} {before : List (List ℕ)} {resolved_to found : Option ModuleView} (m : ModuleView) (types : List
    ℕ) (new_before : List (List ℕ)) (new_resolved new_found : Option ModuleView) → IsFollowing graph specifier before resolved_to found
    → found ≡ Some m → contains_specifier before m.specifier ≡ false → IsCheckedContent m.content → content_types_dependency m.content ≡ Some types
    → new_before ≡ before ++ m.specifier ∷ []
    → new_resolved ≡ (if is_analyzable m then Some m else resolved_to) → new_found ≡ module_after_redirect graph types
    → IsFollowing graph specifier new_before new_resolved new_found
following_step {graph} {specifier} {before} {resolved_to} m types new_before new_resolved new_found w is new checked has e f g =
    let next = following_next m (subst (IsFollowing graph specifier before resolved_to) is w) new checked in
    rw (e, f, g) (subst (λ o. IsFollowing graph specifier (before ++ m.specifier ∷ []) (if is_analyzable m then Some m
    else resolved_to) (option_and_then (module_after_redirect graph) o)) has next)

-- ---- borrowed values

pub if_some : (P : ModuleView → Type 0) (o : Option (Bor ModuleView)) → ((m : ModuleView) → option_copied o ≡ Some m → P m) → IfSome o (λ m. P m.now)
if_some P None holds = tt
if_some P (Some m) holds = holds m.now refl

abbrev pub borrowed_specifiers : List (Bor (List ℕ)) → List (List ℕ)
borrowed_specifiers keys = map (λ (key : Bor (List ℕ)). key.now) keys

pub borrowed_among : (keys : List (Bor (List ℕ))) (q : List ℕ)
    → list_any (λ (key : Bor (List ℕ)). bytes_eq q key.now) keys ≡ contains_specifier (borrowed_specifiers keys) q
borrowed_among [] q = refl
borrowed_among (key ∷ keys) q = ap (λ b. bytes_eq q key.now || b) (borrowed_among keys q)

-- a module is among those before if and only if the set has its specifier
pub visited_is : (keys : List (Bor (List ℕ))) (s q : List ℕ) (b : Bool) → b ≡ list_any (λ (key : Bor (List ℕ)). bytes_eq s key.now) keys → s ≡ q
    → contains_specifier (borrowed_specifiers keys) q ≡ b
visited_is keys s q b is same = subst (λ x. contains_specifier (borrowed_specifiers keys) x ≡ b) same (sym (borrowed_among keys s) ∙ sym is)

-- the specifiers after a new one was added
pub visited_push : (keys new : List (Bor (List ℕ))) (key : Bor (List ℕ)) (q : List ℕ) → new ≡ insert_key (λ (x y : Bor (List ℕ)). bytes_eq x.now y.now) keys key
    → key.now ≡ q → contains_specifier (borrowed_specifiers keys) q ≡ false → borrowed_specifiers new ≡ borrowed_specifiers keys ++ q ∷ []
visited_push keys new key q is same fresh =
    let none : list_any (λ (x : Bor (List ℕ)). bytes_eq key.now x.now) keys ≡ false =
    borrowed_among keys key.now ∙ (ap (contains_specifier (borrowed_specifiers keys)) same ∙ fresh) in
    ap borrowed_specifiers is ∙ (ap (λ b. borrowed_specifiers (if b then keys else keys ++ key ∷ [])) none
    ∙ (map-append (λ (x : Bor (List ℕ)). x.now) keys (key ∷ []) ∙ ap (λ x. borrowed_specifiers keys ++ x ∷ []) same))
