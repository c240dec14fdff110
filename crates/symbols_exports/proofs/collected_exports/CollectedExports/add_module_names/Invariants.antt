use Rattle.std.proofs.Common.{◌≡◌, map}
use Rattle.symbols_exports.specs.inner.Collecting.{frame_view, walk_with_exports_of_module}
use Rattle.symbols_exports.proofs.collected_exports.CollectedExports.add_module_names.Given as goal

abbrev pub invariant-loop-name : goal.invariant-loop-name
invariant-loop-name l = walk_with_exports_of_module (map frame_view l.stack) l.exporter l.name-iterator l.self
    ≡ walk_with_exports_of_module (map frame_view l.stack) l.exporter l.fn.exported l.fn.self
