-- The parts of definitions, read in a root and in later ones.
use Rattle.std.proofs.Common.{◌≡◌, ◌<◌, List, ℕ, [], ◌∷◌, length, refl, sym, ◌∙◌, arith}
use Rattle.symbols_ast.specs.declared.ids.UniqueSymbolId.{UniqueSymbolId}
use Rattle.symbols_root.specs.Roots.{RootView}
use Rattle.symbols_root.specs.Growing.{HasGrown}
use Rattle.symbols_root.specs.laws.Growing.{has_grown_trans, specifier_unchanged_by_growth}
use Rattle.symbols_paths.specs.declared.definition.Definition.{Definition}
use Rattle.symbols_paths.specs.declared.part_target.PartTarget.{PartTarget}
use Rattle.symbols_paths.specs.declared.part_target.PartTarget.TheVariants as read_part
use Rattle.symbols_paths.specs.PathTrees.{QualifiedNameParts}
use Rattle.symbols_paths.specs.PartTargets.{part_is_symbol, part_is_unresolved, part_target_of}
use Rattle.symbols_paths.specs.Derived.{part_link_head}
use Rattle.symbols_paths.specs.Views.{symbol_by_specifier, decl_by_specifier, definition_by_specifier, unresolved_entry_view}
use Rattle.symbols_paths.specs.inner.Views.{first_part, later_parts}
use Rattle.symbols_paths.specs.inner.SearchSteps.{part_target_view, IsModuleOfPartTargetStored}
use Rattle.symbols_paths.proofs.NamedPathLemmas.{head_named}

-- ---- parts

pub some_parts : (parts : QualifiedNameParts) → 0 < length parts → parts ≡ first_part parts ∷ later_parts parts
some_parts [] some = absurd (omega (arith, some))
some_parts (x ∷ xs) some = refl

-- ---- the replacement of a definition

-- the target of a part read in a root is the same in each later root
pub part_target_later : {root later : RootView} → HasGrown root later → (w : PartTarget) → IsModuleOfPartTargetStored root w
    → part_target_view later w ≡ part_target_view root w
part_target_later grown (read_part.Symbol s) within =
    (λ i. part_is_symbol (record { specifier = specifier_unchanged_by_growth grown s.module_id within i; number = s.symbol_id }))
part_target_later grown read_part.Itself within = refl
part_target_later {root = root} grown (read_part.UnresolvedEntry missing) within =
    (λ i. part_is_unresolved (record (unresolved_entry_view root missing) { specifier = specifier_unchanged_by_growth grown missing.«module» within i }))

pub definition_later : {root later : RootView} → HasGrown root later → (x : Definition) → x.«module».0 < length root.stored
    → definition_by_specifier later x ≡ definition_by_specifier root x
definition_later {root = root} grown x within = (λ i. record (definition_by_specifier root x) {
  decl = record {
    symbol = record { specifier = specifier_unchanged_by_growth grown x.«module» within i; number = x.symbol_decl.symbol };
    index =
        x.symbol_decl.index;
  };
})

part_later : {old later : RootView} → HasGrown old later → (x : Definition) → x.«module».0 < length old.stored → (p : List ℕ) (ps : QualifiedNameParts)
    → part_target_of later.graph (definition_by_specifier later x) p ps ≡ part_target_of old.graph (definition_by_specifier old x) p ps
part_later grown x within p ps = (λ i. part_target_of (grown.graph i) (definition_later grown x within i) p ps)

module _ {old mid : RootView} (x : Definition) (parts : QualifiedNameParts) (within : x.«module».0
    < length old.stored) (w : PartTarget) (retained : HasGrown old mid) (stored : IsModuleOfPartTargetStored mid w) (decl_targets : part_target_view mid w
    ≡ part_target_of old.graph (definition_by_specifier old x) (first_part parts) (later_parts parts)) where
  pub part_target_there : (later : RootView) → HasGrown mid later
      → part_target_of later.graph (definition_by_specifier later x) (first_part parts) (later_parts parts) ≡ part_target_view later w
  part_target_there later grown = part_later (has_grown_trans retained grown) x within (first_part parts) (later_parts parts)
      ∙ (sym decl_targets ∙ sym (part_target_later grown w stored))

-- the link that replaces a definition
pub head_in_index : (root : RootView) (symbol : UniqueSymbolId) (x : Definition) (ps : QualifiedNameParts) → symbol.module_id ≡ x.«module»
    → symbol.symbol_id ≡ x.symbol_decl.symbol
    → head_named root symbol.module_id symbol.symbol_id x.symbol_decl ps ≡ part_link_head (definition_by_specifier root x) ps
head_in_index root symbol x ps in_module number =
    (λ i. record { symbol = symbol_by_specifier root (in_module i) (number i); decl = decl_by_specifier root (in_module i) x.symbol_decl; parts = ps })
