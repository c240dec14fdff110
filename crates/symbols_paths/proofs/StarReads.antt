-- The `export *` statements of a module, read in a root and in later ones.
use Rattle.std.proofs.Common.{◌≡◌, ℕ, ◌+◌, ◌<◌, List, [], length, drop, Option, None, Some, option_map, sym, ap, ◌∙◌, slice_get}
use Rattle.std.specs.Prelude.{IfSome}
use Rattle.std.specs.List.{filter_map, cons_option}
use Rattle.std.proofs.lemmas.Option.{slice_get-map, slice_get_within}
use Rattle.symbols_ast.specs.declared.ids.ModuleId.{ModuleId}
use Rattle.symbols_ast.specs.declared.ids.UniqueSymbolId.{UniqueSymbolId}
use Rattle.symbols_root.specs.Roots.{RootView, specifier_in}
use Rattle.symbols_root.specs.Growing.{HasGrown}
use Rattle.symbols_root.specs.laws.Growing.{has_grown_trans, specifier_unchanged_by_growth}
use Rattle.symbols_exports.specs.StarStatements.{star_specifiers, resolve_specifier, star_targets_of}
use Rattle.symbols_paths.specs.PathTrees.{SymbolBySpecifier}
use Rattle.symbols_paths.specs.DeclTargets.{re_exported_symbol}
use Rattle.symbols_paths.specs.inner.Views.{symbol_of_unique_id}
use Rattle.symbols_paths.proofs.LoopInvariants.{drop_at, drop_past}

texts_later : {root later : RootView} → HasGrown root later → (id : ModuleId) → id.0 < length root.stored
    → star_specifiers later.graph (specifier_in later id) ≡ star_specifiers root.graph (specifier_in root id)
texts_later grown id within = λ i. star_specifiers (grown.graph i) (specifier_unchanged_by_growth grown id within i)

abbrev candidates_from : ModuleId → List ℕ → RootView → ℕ → List SymbolBySpecifier
candidates_from id name later at = filter_map (re_exported_symbol later.graph name) (drop at (star_targets_of later.graph (specifier_in later id)))

module _ (root : RootView) (id : ModuleId) (within : id.0 < length root.stored) (position : ℕ) (name : List ℕ) where
  pub position_within : (specifier_text : List ℕ) → slice_get (star_specifiers root.graph (specifier_in root id)) position ≡ Some specifier_text
      → position < length (star_specifiers root.graph (specifier_in root id))
  position_within specifier_text at = slice_get_within (star_specifiers root.graph (specifier_in root id)) position specifier_text at

  -- there is no further statement
  pub no_candidates_left : slice_get (star_specifiers root.graph (specifier_in root id)) position ≡ None → (later : RootView) → HasGrown root later
      → candidates_from id name later position ≡ []
  no_candidates_left past later grown =
      let targets = resolve_specifier later.graph (specifier_in later id) in
      let over : slice_get (star_targets_of later.graph (specifier_in later id)) position ≡ None =
      slice_get-map targets (star_specifiers later.graph (specifier_in later id)) position
      ∙ ap (option_map targets) (ap (λ texts. slice_get texts position) (texts_later grown id within) ∙ past) in
      ap (filter_map (re_exported_symbol later.graph name)) (drop_past (star_targets_of later.graph (specifier_in later id)) position over)

  statement_later : (specifier_text : List ℕ) → slice_get (star_specifiers root.graph (specifier_in root id)) position ≡ Some specifier_text
      → (later : RootView) → HasGrown root later
      → slice_get (star_targets_of later.graph (specifier_in later id)) position ≡ Some (resolve_specifier later.graph (specifier_in later id) specifier_text)
  statement_later specifier_text at later grown =
      let targets = resolve_specifier later.graph (specifier_in later id) in
      slice_get-map targets (star_specifiers later.graph (specifier_in later id)) position
      ∙ ap (option_map targets) (ap (λ texts. slice_get texts position) (texts_later grown id within) ∙ at)

  -- the candidate of the statement, in every later root
  candidate_later : {mid : RootView} (specifier_text : List ℕ) (candidate : Option UniqueSymbolId) → HasGrown root mid
      → option_map (symbol_of_unique_id mid) candidate
      ≡ re_exported_symbol root.graph name (resolve_specifier root.graph (specifier_in root id) specifier_text)
      → IfSome candidate (λ s. s.module_id.0 < length mid.stored) → (later : RootView) → HasGrown mid later
      → option_map (symbol_of_unique_id later) candidate ≡ re_exported_symbol later.graph name
      (resolve_specifier later.graph (specifier_in later id) specifier_text)
  candidate_later {mid = mid} specifier_text candidate more gives stored later grown =
      let whole = has_grown_trans more grown in
      by candidate gives stored ∙ sym (λ i.
      re_exported_symbol (whole.graph i) name (resolve_specifier (whole.graph i) (specifier_unchanged_by_growth whole id within i) specifier_text))
    where
      by : (c : Option UniqueSymbolId) → option_map (symbol_of_unique_id mid) c ≡ re_exported_symbol root.graph name (resolve_specifier root.graph
          (specifier_in root id) specifier_text) → IfSome c (λ s. s.module_id.0 < length mid.stored)
          → option_map (symbol_of_unique_id later) c ≡ re_exported_symbol root.graph name (resolve_specifier root.graph (specifier_in root id) specifier_text)
      by None e h = e
      by (Some s) e h = ap Some (λ i. record { specifier = specifier_unchanged_by_growth grown s.module_id h i; number = s.symbol_id }) ∙ e

  -- the candidates from the position on are that of the statement and those after it
  pub candidates_next : {mid : RootView} (specifier_text : List ℕ) (candidate : Option UniqueSymbolId) → HasGrown root mid
      → slice_get (star_specifiers root.graph (specifier_in root id)) position ≡ Some specifier_text
      → option_map (symbol_of_unique_id mid) candidate
      ≡ re_exported_symbol root.graph name (resolve_specifier root.graph (specifier_in root id) specifier_text)
      → IfSome candidate (λ s. s.module_id.0 < length mid.stored) → (later : RootView) → HasGrown mid later
      → candidates_from id name later position ≡ cons_option (option_map (symbol_of_unique_id later) candidate) (candidates_from id name later (position + 1))
  candidates_next specifier_text candidate more at gives stored later grown =
      let statements = star_targets_of later.graph (specifier_in later id) in
      let target = resolve_specifier later.graph (specifier_in later id) specifier_text in
      ap (filter_map (re_exported_symbol later.graph name))
      (drop_at statements position target (statement_later specifier_text at later (has_grown_trans more grown)))
      ∙ ap (λ c. cons_option c (candidates_from id name later (position + 1))) (sym (candidate_later specifier_text candidate more gives stored later grown))
