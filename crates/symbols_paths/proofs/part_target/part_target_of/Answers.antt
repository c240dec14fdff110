use Rattle.std.proofs.Common.{ap}
use Rattle.symbols_table.specs.DeclViews.{file_dep_view}
use Rattle.symbols_root.specs.laws.Growing.{has_grown_refl}
use Rattle.symbols_paths.specs.Views.{star_import_view, strings_view}
use Rattle.symbols_paths.specs.laws.Storing.{newly_stored_among_more}
use Rattle.symbols_paths.proofs.SearchPreconditions.{keeps_wider}
use Rattle.symbols_paths.proofs.StoredNeeded.{part_import_needs, some_strings}
use Rattle.symbols_paths.proofs.part_target.part_target_of.Goals as goal

pub returns-in-ExportStar-clause-keeps : goal.returns-in-ExportStar-clause-keeps
returns-in-ExportStar-clause-keeps c =
    let root = c.args.root.now in
    let declared = c.requires.declared (file_dep_view c.in-ExportStar.dep) (ap star_import_view c.in-ExportStar.is) in
    keeps_wider c.import_part_target.result (has_grown_refl root) (part_import_needs root c.args.definition.now c.in-ExportStar.dep.specifier.now
    (strings_view c.args.parts.now) (some_strings c.args.parts.now c.requires.some) declared) c.import_part_target.ensures.keeps

pub returns-in-ExportStar-clause-stores : goal.returns-in-ExportStar-clause-stores
returns-in-ExportStar-clause-stores c =
    let root = c.args.root.now in
    let declared = c.requires.declared (file_dep_view c.in-ExportStar.dep) (ap star_import_view c.in-ExportStar.is) in
    newly_stored_among_more c.import_part_target.ensures.stores (part_import_needs root c.args.definition.now c.in-ExportStar.dep.specifier.now
    (strings_view c.args.parts.now) (some_strings c.args.parts.now c.requires.some) declared)
