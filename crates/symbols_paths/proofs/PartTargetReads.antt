-- The target of the first of some parts, as it is read in a root.
use Rattle.std.proofs.Common.{◌≡◌, ℕ, ◌<◌, Bool, true, false, ◌&&◌, List, [], ◌∷◌, length, get_or}
use Rattle.std.proofs.Common.{Option, None, Some, refl, sym, ap, ◌∙◌, arith, true≢false}
use Rattle.std.specs.Prelude.{if◌then◌else◌, String, string_bytes}
use Rattle.std.specs.Global.{Global}
use Rattle.std.specs.Str.{bytes_eq}
use Rattle.std.proofs.lemmas.Cmp.{nat_list_eq_equiv}
use Rattle.std.proofs.lemmas.Slice.Eq.{bytes_eq-Decides}
use Rattle.symbols_ast.specs.declared.ids.ModuleId.{ModuleId}
use Rattle.symbols_ast.specs.declared.ids.SymbolId.{SymbolId}
use Rattle.symbols_ast.specs.Graph.{GraphView}
use Rattle.symbols_root.specs.Roots.{RootView, specifier_in}
use Rattle.symbols_root.specs.Growing.{HasGrown}
use Rattle.symbols_exports.specs.OneName.{find_export}
use Rattle.symbols_paths.specs.PathTrees.{DeclBySpecifier, QualifiedNameParts, no_part}
use Rattle.symbols_paths.specs.PartTargets.{part_is_unresolved, itself, prototype_name, is_class_decl_at, exported_part_target, module_part_target}
use Rattle.symbols_paths.specs.PartTargets.{import_part_target}
use Rattle.symbols_paths.specs.Views.{strings_view}
use Rattle.symbols_paths.specs.inner.Views.{first_part}

pub first_read : (parts : List (String Global)) (part : String Global) → 0 < length parts → part ≡ get_or parts 0 part
    → string_bytes part ≡ first_part (strings_view parts)
first_read [] part some is = absurd (omega (arith, some))
first_read (x ∷ xs) part some is = ap (λ p. string_bytes p) is

-- a part that the symbol doesn't export, and that isn't `prototype` of a class, is unresolved
pub lacks_explicit : (graph : GraphView) (decl : DeclBySpecifier) (part : List ℕ) (remaining : QualifiedNameParts) (found : Option SymbolId) → found ≡ None
    → (bytes_eq prototype_name part && is_class_decl_at graph decl) ≡ false
    → exported_part_target graph decl part remaining found ≡ part_is_unresolved
    (record { specifier = decl.symbol.specifier; reason = no_part part; parts = part ∷ remaining })
lacks_explicit graph decl part remaining found none without_alias =
    ap (exported_part_target graph decl part remaining) none ∙ ap (λ (b : Bool). if b then itself
    else part_is_unresolved (record { specifier = decl.symbol.specifier; reason = no_part part; parts = part ∷ remaining })) without_alias

-- two texts that differ, differ in either order
pub bytes_swapped : (a b : List ℕ) → bytes_eq a b ≡ false → bytes_eq b a ≡ false
bytes_swapped a b other = by (bytes_eq b a) refl
  where
    by : (v : Bool) → bytes_eq b a ≡ v → bytes_eq b a ≡ false
    by false is = is
    by true is = absurd (true≢false (sym (nat_list_eq_equiv.refl a) ∙ (sym (ap (bytes_eq a) ((bytes_eq-Decides b a).0 is)) ∙ other)))

-- a part of a specifier that resolves to a module is a part of that module
pub named_specifier_text : (old mid : RootView) (m specifier_text p : List ℕ) (ps : QualifiedNameParts) (id : ModuleId) (found : Option (List ℕ))
    → HasGrown old mid
    → found ≡ Some (specifier_in mid id)
    → module_part_target (specifier_in mid id) p ps (find_export mid.graph (specifier_in mid id) p) ≡ import_part_target old.graph m specifier_text p ps found
named_specifier_text old mid m specifier_text p ps id found retained decl_targets =
    (λ i. module_part_target (specifier_in mid id) p ps (find_export (retained.graph i) (specifier_in mid id) p))
    ∙ sym (ap (import_part_target old.graph m specifier_text p ps) decl_targets)
