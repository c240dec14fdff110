-- The loop that adds types dependencies.
use Rattle.std.proofs.Common.{◌≡◌, ℕ, zero, suc, ◌+◌, ◌≤◌, ◌^◌, List, length, slice_get, Option, None, Some, refl, sym, ap, subst, ◌∙◌, arith}
use Rattle.std.proofs.lemmas.Option.{slice_get_within}
use Rattle.std.specs.Option.{option_and_then}
use Rattle.symbols_ast.specs.Graph.{GraphView, ModuleView, module_after_redirect, content_types_dependency}
use Rattle.symbols_answers.specs.Questions.{append_specifier_if_absent, append_optional_specifier_if_absent, list_grown_by_walk_from_index, walk_limit}
use Rattle.symbols_answers.specs.Questions.{append_types_dependency}
use Rattle.symbols_answers.specs.laws.Walks.{walk_past_end_adds_nothing, walk_takes_step_at_index}

-- the specifiers before the index have added what types dependencies lead to
pub record IsWalking (graph : GraphView) (old list : List (List ℕ)) (index : ℕ) : Type 0 where
  pub more : ℕ
  pub enough : walk_limit ≤ more + index
  pub walk : list_grown_by_walk_from_index (append_types_dependency graph) more index list ≡ list_grown_by_walk_from_index (append_types_dependency graph)
      walk_limit 0 old

pub walking_first : (graph : GraphView) (list : List (List ℕ)) → IsWalking graph list list 0
walking_first graph list = record { more = walk_limit; enough = omega arith; walk = refl }

pub walking_next : (graph : GraphView) (old list new : List (List ℕ)) (index : ℕ) (key : List ℕ) → IsWalking graph old list index → length list ≤ 2 ^ 63
    → slice_get list index ≡ Some key → new ≡ append_types_dependency graph key list → IsWalking graph old new (index + 1)
walking_next graph old list new index key is few at added = by is.more is.enough is.walk
  where
    by : (more : ℕ) → walk_limit ≤ more + index
        → list_grown_by_walk_from_index (append_types_dependency graph) more index list ≡ list_grown_by_walk_from_index (append_types_dependency graph)
        walk_limit 0 old
        → IsWalking graph old new (index + 1)
    by zero enough walk = absurd (omega (arith, enough, few, slice_get_within list index key at))
    by (suc n) enough walk = record {
      more = n;
      enough = omega (arith, enough);
      walk = ap (list_grown_by_walk_from_index (append_types_dependency graph) n (index + 1)) added
          ∙ (subst (λ (j : ℕ). list_grown_by_walk_from_index (append_types_dependency graph) n j (append_types_dependency graph key list)
          ≡ list_grown_by_walk_from_index (append_types_dependency graph) walk_limit 0 old) (omega arith)
          (sym (walk_takes_step_at_index (append_types_dependency graph) n index list key at) ∙ walk));
    }

pub walking_over : (graph : GraphView) (old list : List (List ℕ)) (index : ℕ) → IsWalking graph old list index → slice_get list index ≡ None
    → list ≡ list_grown_by_walk_from_index (append_types_dependency graph) walk_limit 0 old
walking_over graph old list index is past = sym (walk_past_end_adds_nothing (append_types_dependency graph) is.more index list past) ∙ is.walk

-- ---- what a specifier adds

pub types_found : (graph : GraphView) (list new : List (List ℕ)) (key types : List ℕ) (m : ModuleView) → module_after_redirect graph key ≡ Some m
    → content_types_dependency m.content ≡ Some types → new ≡ append_specifier_if_absent list types → new ≡ append_types_dependency graph key list
types_found graph list new key types m under is added =
    added ∙ sym (ap (append_optional_specifier_if_absent list)
    (ap (λ (found : Option ModuleView). option_and_then (λ (x : ModuleView). content_types_dependency x.content) found) under ∙ is))

pub no_types : (graph : GraphView) (list new : List (List ℕ)) (key : List ℕ) (m : ModuleView) → module_after_redirect graph key ≡ Some m
    → content_types_dependency m.content ≡ None → new ≡ list → new ≡ append_types_dependency graph key list
no_types graph list new key m under is same =
    same ∙ sym (ap (append_optional_specifier_if_absent list)
    (ap (λ (found : Option ModuleView). option_and_then (λ (x : ModuleView). content_types_dependency x.content) found) under ∙ is))

pub no_module : (graph : GraphView) (list new : List (List ℕ)) (key : List ℕ) → module_after_redirect graph key ≡ None → new ≡ list
    → new ≡ append_types_dependency graph key list
no_module graph list new key under same =
    same ∙ sym (ap (append_optional_specifier_if_absent list)
    (ap (λ (found : Option ModuleView). option_and_then (λ (x : ModuleView). content_types_dependency x.content) found) under))
