-- Graphs that differ in one module agree on what a query looks up if it doesn't look up that module.
use Rattle.std.proofs.Common.{◌≡◌, ℕ, Bool, true, false, not, ◌&&◌, cond, List, [], ◌∷◌, ◌++◌, map, find, Option, None, Some, option_map, refl, sym, ap, ◌∙◌}
use Rattle.std.specs.Prelude.{filter, if◌then◌else◌}
use Rattle.std.specs.Str.{bytes_eq}
use Rattle.symbols_ast.specs.Graph.{GraphView, ModuleView, Resolution, specifier_after_redirect}
use Rattle.symbols_graph.specs.PutModules.{modules_with_put_module, resolution_with_referrer, is_resolution_of_other_referrer, graph_with_put_module}
use Rattle.symbols_root.specs.laws.Specifiers.{equal_if_bytes_eq, found_module_has_this_specifier}
use Rattle.symbols_answers.specs.Questions.{QueryView, IsSpecifierFollowedForQuestion, AreAlikeForQuery, IsModuleNotLookedUpByQuery}
use Rattle.symbols_answers.specs.Seen.{FollowedSpecifierRelation}
use Rattle.symbols_locality.specs.ChangedModule.{DiffersOnlyIn}
use Rattle.symbols_locality.proofs.FoundModules.{IsFound}
use Rattle.symbols_locality.proofs.SeenAlike.{found_under_seen}

-- ---- an unseen module may differ

pub alike_if_unseen : (graph other : GraphView) (changed : List ℕ) (query : QueryView) → DiffersOnlyIn graph other changed
    → IsModuleNotLookedUpByQuery graph query changed → AreAlikeForQuery graph other query
alike_if_unseen graph other changed query differs unseen = record {
  same_modules = λ key seen. differs.same_modules key (unseen key seen);
  same_resolutions = λ key specifier specifier_text requested at follows. differs.same_resolutions specifier specifier_text
      (λ is. never specifier (record { key = key; requested = requested; resolves = at }) is);
}
  where
    Follows : FollowedSpecifierRelation
    Follows = IsSpecifierFollowedForQuestion graph query.specifier query.question

    never : (specifier : List ℕ) → IsFound graph Follows query.specifier specifier → specifier ≡ changed → ⊥
    never specifier found is =
        let at = found_under_seen graph Follows query.specifier specifier found in
        unseen at.key at.has (found_module_has_this_specifier graph (specifier_after_redirect graph at.key) at.found at.under ∙ (at.specifier_is ∙ is))

-- ---- a module replaces another

never_same : (q w : List ℕ) → (q ≡ w → ⊥) → bytes_eq q w ≡ false
never_same q w other = by (bytes_eq q w) refl
  where
    by : (b : Bool) → bytes_eq q w ≡ b → b ≡ false
    by true is = absurd (other (equal_if_bytes_eq q w is))
    by false is = refl

abbrev has_specifier : List ℕ → ModuleView → Bool
has_specifier q x = bytes_eq q x.specifier

-- a look-up of another specifier finds the same module
found_in_both : (m : ModuleView) (q : List ℕ) → (q ≡ m.specifier → ⊥) → (xs : List ModuleView)
    → find (has_specifier q) xs ≡ find (has_specifier q) (modules_with_put_module m xs)
found_in_both m q other [] = sym (ap (λ b. cond b (Some m) None) (never_same q m.specifier other))
found_in_both m q other (x ∷ xs) = by (bytes_eq m.specifier x.specifier) refl (found_in_both m q other xs)
  where
    by : (b : Bool) → bytes_eq m.specifier x.specifier ≡ b → find (has_specifier q) xs ≡ find (has_specifier q) (modules_with_put_module m xs)
        → find (has_specifier q) (x ∷ xs) ≡ find (has_specifier q) (if b then m ∷ xs else x ∷ modules_with_put_module m xs)
    by true is later =
        let one : bytes_eq q x.specifier ≡ false = never_same q x.specifier (λ e. other (e ∙ sym (equal_if_bytes_eq m.specifier x.specifier is))) in
        ap (λ b. cond b (Some x) (find (has_specifier q) xs)) one
        ∙ sym (ap (λ b. cond b (Some m) (find (has_specifier q) xs)) (never_same q m.specifier other))
    by false is later = ap (cond (bytes_eq q x.specifier) (Some x)) later

abbrev is_resolution_of : List ℕ → List ℕ → Resolution → Bool
is_resolution_of referrer specifier_text r = bytes_eq referrer r.referrer && bytes_eq specifier_text r.specifier_text

abbrev find_resolution : List ℕ → List ℕ → List Resolution → Option Resolution
find_resolution referrer specifier_text resolutions = find (is_resolution_of referrer specifier_text) resolutions

-- the new resolutions have no other referrer
none_of_other : (specifier referrer specifier_text : List ℕ) → (referrer ≡ specifier → ⊥) → (resolved : List (List ℕ × List ℕ))
    → find_resolution referrer specifier_text (map (resolution_with_referrer specifier) resolved) ≡ None
none_of_other specifier referrer specifier_text other [] = refl
none_of_other specifier referrer specifier_text other (r ∷ later) =
    ap (λ b. cond (b && bytes_eq specifier_text r.0) (Some (resolution_with_referrer specifier r))
    (find_resolution referrer specifier_text (map (resolution_with_referrer specifier) later))) (never_same referrer specifier other)
    ∙ none_of_other specifier referrer specifier_text other later

-- a look-up in another referrer finds the same resolution
resolved_in_both : (specifier referrer specifier_text : List ℕ) → (referrer ≡ specifier → ⊥)
    → (resolutions : List Resolution) (resolved : List (List ℕ × List ℕ))
    → find_resolution referrer specifier_text resolutions
    ≡ find_resolution referrer specifier_text (filter (is_resolution_of_other_referrer specifier) resolutions ++ map
    (resolution_with_referrer specifier) resolved)
resolved_in_both specifier referrer specifier_text other [] resolved = sym (none_of_other specifier referrer specifier_text other resolved)
resolved_in_both specifier referrer specifier_text other (r ∷ later) resolved =
    by (bytes_eq specifier r.referrer) refl (resolved_in_both specifier referrer specifier_text other later resolved)
  where
    by : (b : Bool) → bytes_eq specifier r.referrer ≡ b
        → find_resolution referrer specifier_text later ≡ find_resolution referrer specifier_text
        (filter (is_resolution_of_other_referrer specifier) later ++ map (resolution_with_referrer specifier) resolved)
        → find_resolution referrer specifier_text (r ∷ later)
        ≡ find_resolution referrer specifier_text
        ((if not b then r ∷ filter (is_resolution_of_other_referrer specifier) later else filter (is_resolution_of_other_referrer specifier) later)
        ++ map (resolution_with_referrer specifier) resolved)
    by true is same =
        ap (λ b. cond (b && bytes_eq specifier_text r.specifier_text) (Some r) (find_resolution referrer specifier_text later))
        (never_same referrer r.referrer (λ e. other (e ∙ sym (equal_if_bytes_eq specifier r.referrer is)))) ∙ same
    by false is same = ap (cond (is_resolution_of referrer specifier_text r) (Some r)) same

pub differs_with : (graph : GraphView) (m : ModuleView) (resolved : List (List ℕ × List ℕ)) → DiffersOnlyIn graph
    (graph_with_put_module graph m resolved) m.specifier
differs_with graph m resolved = record {
  same_modules = λ key other. found_in_both m (specifier_after_redirect graph key) other graph.modules;
  same_resolutions = λ referrer specifier_text other. ap (option_map (λ r. r.specifier))
      (resolved_in_both m.specifier referrer specifier_text other graph.resolutions resolved);
}
