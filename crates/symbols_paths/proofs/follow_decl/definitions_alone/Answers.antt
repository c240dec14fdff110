use Rattle.std.proofs.Common.{◌≡◌, ◌∙◌, Some, refl, sym, ap, length, slice_get, map, arith}
use Rattle.std.proofs.lemmas.List.{length-map}
use Rattle.std.proofs.lemmas.Option.{slice_get-get_or, slice_get_past}
use Rattle.symbols_table.specs.DeclViews.{decl_view}
use Rattle.symbols_paths.proofs.DefinitionsAlone.{definitions_begun, definition_read, definitions_next, definitions_ended}
use Rattle.symbols_paths.proofs.follow_decl.definitions_alone.Goals as goal

pub decls-init : goal.decls-init
decls-init c = definitions_begun c.args.root.now c.args.symbol c.requires c.stored_modules_distinct.ensures c.new.result c.new.ensures.items

pub decls-smaller : goal.decls-smaller
decls-smaller c = omega (arith, c.in-Some-get.ensures.lookup.3.0, c.in_ok-here.ensures.next.index)

pub decls-preserved : goal.decls-preserved
decls-preserved c =
    let root = c.args.root.now in
    let decls = c.in-Some.decls.now in
    let index = c.decls.here.index in
    let decl = c.in-Some-get.decl.now in
    let kind = c.in-Some-definition_kind.kind in
    let at : slice_get decls index ≡ Some decl =
    slice_get-get_or decls index decl c.in-Some-get.ensures.lookup.3.0 ∙ ap Some (sym c.in-Some-get.ensures.lookup.1) in
    let read = definition_read root c.args.symbol decls index decl kind c.in-Some.ensures.decls at
    (c.in-Some-definition_kind.ensures root.rules root.graph _) in
    definitions_next root c.args.symbol kind decl.range (omega (arith, c.in-Some-get.ensures.lookup.3.0, c.in-Some.ensures.few)) c.decls.invariant read
    c.in_ok-here.ensures.next c.in_ok-here.ensures.stored

pub returns : goal.returns
returns c =
    let decls = c.in-Some.decls.now in
    let past = ap (λ ds. slice_get ds c.decls.here.index) (sym c.in-Some.ensures.decls)
    ∙ slice_get_past (map decl_view decls) c.decls.here.index (omega (arith, length-map decls decl_view, c.in_default-get.ensures.lookup.3)) in
    definitions_ended c.args.root.now c.args.symbol c.decls.invariant past
