-- The forward of a named import, in every later root.
use Rattle.std.proofs.Common.{◌≡◌, ◌<◌, true, false, List, ℕ, [], length, Option, None, Some, option_to_list, sym, ap, subst, ◌∙◌, arith, append-nil}
use Rattle.std.specs.Prelude.{IfSome, if◌then◌else◌}
use Rattle.symbols_ast.specs.declared.ids.ModuleId.{ModuleId}
use Rattle.symbols_ast.specs.declared.ids.SymbolId.{SymbolId}
use Rattle.symbols_ast.specs.declared.ids.UniqueSymbolId.{UniqueSymbolId}
use Rattle.symbols_root.specs.Roots.{RootView, specifier_in}
use Rattle.symbols_root.specs.Growing.{HasGrown}
use Rattle.symbols_root.specs.laws.Growing.{specifier_unchanged_by_growth}
use Rattle.symbols_exports.specs.StarStatements.{resolve_specifier}
use Rattle.symbols_paths.specs.declared.path_builder.PathBuilder.{PathBuilder}
use Rattle.symbols_paths.specs.DeclTargets.{ForwardTarget, forward_target_of_import, forward_target_into_module, explicit_export, re_exported_symbols}
use Rattle.symbols_paths.specs.DeclTargets.{searches_stars_for, re_exported_symbols_by_rules}
use Rattle.symbols_paths.specs.Views.{AreModulesStored}
use Rattle.symbols_paths.specs.inner.Views.{symbol_of_unique_id}
use Rattle.symbols_paths.specs.inner.PathBuilders.{modules_of_builder, modules_of_builders}

-- the module ids of a path are stored, if there is a path
pub option_stored : (root : RootView) (path : Option PathBuilder) → IfSome path (λ p. AreModulesStored root (modules_of_builder p))
    → AreModulesStored root (modules_of_builders (option_to_list path))
option_stored root None h = λ k d within. absurd (omega (arith, within))
option_stored root (Some path) h = subst (AreModulesStored root) (sym (append-nil (modules_of_builder path))) h

pub target_later : {root later : RootView} → HasGrown root later → (id : ModuleId) → id.0 < length root.stored → (specifier_text : List ℕ)
    → resolve_specifier later.graph (specifier_in later id) specifier_text ≡ resolve_specifier root.graph (specifier_in root id) specifier_text
target_later grown id within specifier_text = λ i. resolve_specifier (grown.graph i) (specifier_unchanged_by_growth grown id within i) specifier_text

module _ {root later : RootView} (grown : HasGrown root later) (symbol : UniqueSymbolId) (within : symbol.module_id.0 < length root.stored)
    (name specifier_text : List ℕ) where
  abbrev pub forward_later : ForwardTarget
  forward_later = forward_target_of_import later.rules later.graph (symbol_of_unique_id later symbol) name specifier_text
      (resolve_specifier later.graph (specifier_in later symbol.module_id) specifier_text)

  -- the specifier resolves to no module
  pub forward_unresolved : resolve_specifier root.graph (specifier_in root symbol.module_id) specifier_text ≡ None
      → forward_later ≡ forward_target_of_import later.rules later.graph (symbol_of_unique_id later symbol) name specifier_text None
  forward_unresolved unresolved = ap (forward_target_of_import later.rules later.graph (symbol_of_unique_id later symbol) name specifier_text)
      (target_later grown symbol.module_id within specifier_text ∙ unresolved)

  -- it resolves to a module, which exports the name locally, or doesn't
  pub forward_into : (id : ModuleId) (explicit : Option SymbolId) → id.0 < length root.stored
      → resolve_specifier root.graph (specifier_in root symbol.module_id) specifier_text ≡ Some (specifier_in root id)
      → explicit_export root.graph (specifier_in root id) name ≡ explicit
      → forward_later ≡ forward_target_into_module later.rules later.graph (symbol_of_unique_id later symbol) name (specifier_in later id) explicit
  forward_into id explicit id_within target exported =
      let there : resolve_specifier later.graph (specifier_in later symbol.module_id) specifier_text ≡ Some (specifier_in later id) =
      target_later grown symbol.module_id within specifier_text ∙ (target ∙ ap Some (sym (specifier_unchanged_by_growth grown id id_within))) in
      let same : explicit_export later.graph (specifier_in later id) name ≡ explicit =
      (λ i. explicit_export (grown.graph i) (specifier_unchanged_by_growth grown id id_within i) name) ∙ exported in
      ap (forward_target_of_import later.rules later.graph (symbol_of_unique_id later symbol) name specifier_text) there
      ∙ ap (forward_target_into_module later.rules later.graph (symbol_of_unique_id later symbol) name (specifier_in later id)) same

  -- the search for the name goes on to the `export *` statements, or doesn't
  pub collected_later : (id : ModuleId) → searches_stars_for root.rules name ≡ true
      → re_exported_symbols_by_rules later.rules later.graph (specifier_in later id) name ≡ re_exported_symbols later.graph (specifier_in later id) name
  collected_later id so = ap (λ b. if b then re_exported_symbols later.graph (specifier_in later id) name else [])
      (ap (λ rules. searches_stars_for rules name) grown.rules ∙ so)

  pub not_collected_later : (id : ModuleId) → searches_stars_for root.rules name ≡ false
      → re_exported_symbols_by_rules later.rules later.graph (specifier_in later id) name ≡ []
  not_collected_later id so = ap (λ b. if b then re_exported_symbols later.graph (specifier_in later id) name else [])
      (ap (λ rules. searches_stars_for rules name) grown.rules ∙ so)
