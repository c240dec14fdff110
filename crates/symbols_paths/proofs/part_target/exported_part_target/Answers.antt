use Rattle.std.proofs.Common.{◌≡◌, arith, false, ◌&&◌, None, sym, subst, ◌∙◌}
use Rattle.std.specs.Str.{bytes_eq}
use Rattle.std.specs.Prelude.{string_bytes}
use Rattle.std.proofs.lemmas.List.{length-map}
use Rattle.std.proofs.lemmas.Result.{IfOk-weaker}
use Rattle.std.proofs.lemmas.Bool.{and_left, and_right}
use Rattle.symbols_root.specs.Roots.{specifier_in}
use Rattle.symbols_paths.specs.PathTrees.{no_part}
use Rattle.symbols_paths.specs.PartTargets.{part_is_unresolved, prototype_name, is_class_decl_at, export_of_symbol}
use Rattle.symbols_paths.specs.Views.{decl_by_specifier, strings_view}
use Rattle.symbols_paths.specs.inner.Views.{first_part, later_parts}
use Rattle.symbols_paths.proofs.PartTargetReads.{first_read, bytes_swapped, lacks_explicit}
use Rattle.symbols_paths.proofs.QualifiedSteps.{some_parts}
use Rattle.symbols_paths.proofs.part_target.exported_part_target.Goals as goal
use Rattle.symbols_paths.proofs.part_target.exported_part_target.Goals.{else-eq-via-then-eq+else-is_class_decl_at, else-eq-via-else-eq}

pub returns-clause-view : goal.returns-clause-view
returns-clause-view c =
    let root = c.args.root.now in
    let parts = strings_view c.args.parts.now in
    let decl = decl_by_specifier root c.args.module_id c.args.decl in
    let first = c.as_str.ensures.value ∙ first_read c.args.parts.now c.index-parts-0.result c.requires.some c.index-parts-0.is in
    let named = c.in_ok-name.ensures.ok ∙ (c.as_str-2.ensures.value
    ∙ first_read c.args.parts.now c.index-parts-0-2.result c.requires.some c.index-parts-0-2.is) in
    let none_there : export_of_symbol root.graph decl.symbol (first_part parts) ≡ None =
    sym (λ i. export_of_symbol root.graph (record {
      specifier = specifier_in root (c.new-symbol.ensures.«module» i);
      number = c.new-symbol.ensures.symbol i;
    }) (first_part parts)) ∙ sym c.in_default.ensures in
    let without_alias : (bytes_eq prototype_name (first_part parts) && is_class_decl_at root.graph decl) ≡ false = elim c.else-eq.branch [
      | else-eq-via-then-eq+else-is_class_decl_at w ↦
          and_right (bytes_eq prototype_name (first_part parts)) (is_class_decl_at root.graph decl) (sym w.if-is_class_decl_at.ensures)
      | else-eq-via-else-eq w ↦ and_left (bytes_eq prototype_name (first_part parts)) (is_class_decl_at root.graph decl) (bytes_swapped (first_part parts)
          prototype_name (subst (λ name. bytes_eq name prototype_name ≡ false) first (sym w.if-eq.ensures)))
    ] in
    IfOk-weaker c.missing_part.result _ _ (λ part_target view. view root
    ∙ ((λ i. part_is_unresolved (record {
      specifier = decl.symbol.specifier;
      reason = no_part (named i);
      parts = some_parts parts
          (omega (arith, length-map c.args.parts.now string_bytes, c.requires.some)) i;
    }))
    ∙ sym (lacks_explicit root.graph decl (first_part parts) (later_parts parts) _ none_there without_alias))) c.missing_part.ensures.view
