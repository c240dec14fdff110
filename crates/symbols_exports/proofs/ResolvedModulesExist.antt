-- A specifier that resolves resolves to a module of the graph.
use Rattle.std.proofs.Common.{◌≡◌, ℕ, zero, suc, Bool, true, false, List, [], ◌∷◌, ◌++◌, length, find}
use Rattle.std.proofs.Common.{reverse, Option, None, Some, option_and_then, refl, sym, ap, subst, ◌∙◌}
use Rattle.std.specs.Prelude.{if◌then◌else◌}
use Rattle.std.specs.Option.{option_map, option_or}
use Rattle.std.specs.Str.{bytes_eq}
use Rattle.std.proofs.lemmas.List.{reverse-append}
use Rattle.std.proofs.lemmas.List.Folds.{find-append}
use Rattle.std.proofs.lemmas.Option.{none-some, same_Some, cond_some}
use Rattle.std.proofs.lemmas.Slice.Eq.{bytes_eq-Decides}
use Rattle.symbols_ast.specs.Graph.{GraphView, ModuleView, module_after_redirect, content_types_dependency, specifier_after_redirect, resolved_dependency}
use Rattle.symbols_root.specs.Specifiers.{module_with_specifier, contains_specifier}
use Rattle.symbols_root.specs.TypesChains.{is_analyzable, types_module, types_chain_from, types_chain, get_prefer_types, resolved_module_specifier}
use Rattle.symbols_exports.specs.StarStatements.{resolve_specifier}
use Rattle.symbols_exports.proofs.SortedLists.{found_there}

abbrev IsUnder : GraphView → ModuleView → Type 0
IsUnder graph m = module_with_specifier graph m.specifier ≡ Some m

-- a module that is looked up has its own specifier in the graph
looked_up : (graph : GraphView) (specifier : List ℕ) (m : ModuleView) → module_after_redirect graph specifier ≡ Some m → IsUnder graph m
looked_up graph specifier m found =
    let same : specifier_after_redirect graph specifier ≡ m.specifier = (bytes_eq-Decides (specifier_after_redirect graph specifier) m.specifier).0 (found_there
    (λ (x : ModuleView). bytes_eq (specifier_after_redirect graph specifier) x.specifier) graph.modules m found).1 in
    subst (λ q. module_with_specifier graph q ≡ Some m) same found

types_known : (graph : GraphView) (m next : ModuleView) → types_module graph m ≡ Some next → IsUnder graph next
types_known graph m next found = by (content_types_dependency m.content) found
  where
    by : (types : Option (List ℕ)) → option_and_then (module_after_redirect graph) types ≡ Some next → IsUnder graph next
    by None none = absurd (none-some next none)
    by (Some specifier) at = looked_up graph specifier next at

-- so have all modules of a types chain, and the ones found from its end
abbrev AllUnder : GraphView → List ModuleView → Type 0
AllUnder graph [] = Unit {0}
AllUnder graph (m ∷ rest) = IsUnder graph m × AllUnder graph rest

chain_known : (graph : GraphView) (n : ℕ) (before : List (List ℕ)) (found : Option ModuleView) → ((m : ModuleView) → found ≡ Some m → IsUnder graph m)
    → AllUnder graph (types_chain_from graph n before found)
unfolding types_chain_from
chain_known graph zero before found known = tt
chain_known graph (suc n) before None known = tt
chain_known graph (suc n) before (Some m) known =
    by (contains_specifier before m.specifier)
    (chain_known graph n (before ++ m.specifier ∷ []) (types_module graph m) (λ next at. types_known graph m next at))
  where
    by : (b : Bool) → AllUnder graph (types_chain_from graph n (before ++ m.specifier ∷ []) (types_module graph m))
        → AllUnder graph (if b then [] else m ∷ types_chain_from graph n (before ++ m.specifier ∷ []) (types_module graph m))
    by true rest = tt
    by false rest = (known m refl, rest)

last_known : (graph : GraphView) (p : ModuleView → Bool) (xs : List ModuleView) (m : ModuleView) → AllUnder graph xs → find p (reverse xs) ≡ Some m
    → IsUnder graph m
last_known graph p [] m known found = absurd (none-some m found)
last_known graph p (x ∷ xs) m known found = by (find p (reverse xs)) refl (sym (find-append p (reverse xs) (x ∷ []))
    ∙ (ap (find p) (sym (reverse-append (x ∷ []) xs)) ∙ found)) (last_known graph p xs m known.1)
  where
    by : (r : Option ModuleView) → find p (reverse xs) ≡ r → option_or r (find p (x ∷ [])) ≡ Some m → (find p (reverse xs) ≡ Some m → IsUnder graph m)
        → IsUnder graph m
    by None is same rest = subst (IsUnder graph) (cond_some (p x) x m same).1 known.0
    by (Some y) is same rest = rest (is ∙ same)

pub target_known : (graph : GraphView) (referrer specifier_text v : List ℕ) → resolve_specifier graph referrer specifier_text ≡ Some v
    → (m : ModuleView) × (module_with_specifier graph v ≡ Some m)
target_known graph referrer specifier_text v ends_at = by (resolved_dependency graph referrer specifier_text) ends_at
  where
    resolved_to : (found : Option ModuleView) → ((m : ModuleView) → found ≡ Some m → IsUnder graph m)
        → option_map (λ (m : ModuleView). m.specifier) found ≡ Some v → (m : ModuleView) × (module_with_specifier graph v ≡ Some m)
    resolved_to None known same = absurd (none-some v same)
    resolved_to (Some m) known same = (m, subst (λ q. module_with_specifier graph q ≡ Some m) (same_Some m.specifier v same) (known m refl))

    by : (resolved : Option (List ℕ)) → option_and_then (resolved_module_specifier graph) resolved ≡ Some v → (m : ModuleView)
        × (module_with_specifier graph v ≡ Some m)
    by None none = absurd (none-some v none)
    by (Some specifier) same = resolved_to (get_prefer_types graph specifier) (λ m found. last_known graph is_analyzable (types_chain graph specifier) m
        (chain_known graph (length graph.modules) [] (module_after_redirect graph specifier) (λ x at. looked_up graph specifier x at)) found) same
