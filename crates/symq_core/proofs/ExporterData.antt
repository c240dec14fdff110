-- Exporters of a shared name are written without the name.
use Rattle.std.proofs.Common.{◌≡◌, ℕ, List, [], ◌∷◌, map, refl, ap}
use Rattle.symbols_queries.specs.declared.shared_name_by_specifier.ExporterBySpecifier.{ExporterBySpecifier}
use Rattle.symbols_queries.specs.Queries.{exporter_view}
use Rattle.serde_json.specs.Data.{Data}
use Rattle.symq_core.specs.Queries.{exporter_json}

pub exporters_written : (name : List ℕ) (exporters : List ExporterBySpecifier)
    → map exporter_json (map (exporter_view []) exporters) ≡ map exporter_json (map (exporter_view name) exporters)
exporters_written name [] = refl
exporters_written name (x ∷ xs) = ap (λ (answered : List Data). exporter_json (exporter_view name x) ∷ answered) (exporters_written name xs)
