-- The lists of a graph that has one module alone.
use Rattle.std.proofs.Common.{◌≡◌, ℕ, ◌<◌, List, [], ◌∷◌, ◌++◌, map, length, get_or, sym, ap, ◌∙◌, String, string_bytes, arith}
use Rattle.std.specs.Global.{Global}
use Rattle.std.proofs.lemmas.List.{length-map, get_or-map, map_push}
use Rattle.symbols_ast.specs.declared.graph.raw.RawResolution.{RawResolution}
use Rattle.symbols_ast.specs.Graph.{Resolution, resolution_view}
use Rattle.symbols_graph.specs.PutModules.{resolution_with_referrer}
use Rattle.symbols_graph.specs.Tables.{string_pairs_bytes}

-- each row of the resolutions of a module has that module as its referrer
pub row_has_referrer : (rows : List RawResolution) (n : ℕ) (row : RawResolution) (referrer : List ℕ) (resolved : List (List ℕ × List ℕ)) → n < length rows
    → row ≡ get_or rows n row → map resolution_view rows ≡ map (resolution_with_referrer referrer) resolved → string_bytes row.referrer ≡ referrer
row_has_referrer rows n row referrer resolved inside is same =
    let as_long : length rows ≡ length resolved =
    sym (length-map rows resolution_view) ∙ ap length same ∙ length-map resolved (resolution_with_referrer referrer) in
    let pair : List ℕ × List ℕ = (string_bytes row.specifier_text, string_bytes row.specifier) in
    ap (λ (r : Resolution). r.referrer) (ap resolution_view is ∙ sym (get_or-map resolution_view rows n row (resolution_view row) inside)
    ∙ ap (λ (rs : List Resolution). get_or rs n (resolution_view row)) same
    ∙ get_or-map (resolution_with_referrer referrer) resolved n pair (resolution_view row) (omega (arith, inside, as_long)))

abbrev bytes_of_pair : String Global × String Global → List ℕ × List ℕ
bytes_of_pair pair = (string_bytes pair.0, string_bytes pair.1)

-- one more row, and one more pair
pub with_row : (rows : List RawResolution) (row : RawResolution) (referrer : List ℕ) (resolved : List (String Global × String Global))
    (pair : String Global × String Global) → resolution_view row ≡ resolution_with_referrer referrer (bytes_of_pair pair)
    → map resolution_view rows ≡ map (resolution_with_referrer referrer) (string_pairs_bytes resolved)
    → map resolution_view (rows ++ row ∷ []) ≡ map (resolution_with_referrer referrer) (string_pairs_bytes (resolved ++ pair ∷ []))
with_row rows row referrer resolved pair is before =
    map_push resolution_view rows row ∙ (λ i. before i ++ is i ∷ [])
    ∙ sym (ap (map (resolution_with_referrer referrer)) (map_push bytes_of_pair resolved pair)
    ∙ map_push (resolution_with_referrer referrer) (string_pairs_bytes resolved) (bytes_of_pair pair))
