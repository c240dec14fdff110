-- How much of a search is left. Each thing that is left has a level, and is worth more than 2 ^ 64 things of any lower level.
use Rattle.std.specs.Prelude.{ℕ, zero, suc, ◌+◌, ◌-◌, ◌*◌, ◌^◌, length, List, [], ◌∷◌}
use Rattle.symbols_ast.specs.declared.ids.UniqueSymbolId.{UniqueSymbolId}
use Rattle.symbols_paths.specs.declared.alias_decl.AliasDecl.{AliasDecl}
use Rattle.symbols_paths.specs.declared.search_step.Frame.{Frame}
use Rattle.symbols_paths.specs.declared.search_step.Frame.TheVariants as frame
use Rattle.symbols_paths.specs.declared.search_step.Step.{Step}
use Rattle.symbols_paths.specs.declared.search_step.Step.TheVariants.{Search, Expand, TryStar, Replace, Found}
use Rattle.symbols_paths.specs.inner.PathBuilders.{remaining_parts}
use Rattle.symbols_paths.specs.inner.StillToCome.{aliases_with_frames}

unfoldable pub work_of_level : ℕ → ℕ
work_of_level zero = 1
work_of_level (suc level) = 2 ^ 65 * work_of_level level

-- the levels of the searches for the aliases that may still be resolved within one another
unfoldable pub levels_of_remaining_alias_searches : ℕ → ℕ
levels_of_remaining_alias_searches running = (2 ^ 64 - running) * (2 ^ 64 * 6)

-- the search of a symbol, of a candidate, and of a declaration
abbrev pub work_of_symbol_search : ℕ → ℕ → ℕ
work_of_symbol_search running visited = work_of_level (levels_of_remaining_alias_searches running + 3 * (2 ^ 64 - visited))

abbrev pub work_of_candidate_search : ℕ → ℕ → ℕ
work_of_candidate_search running visited = work_of_level (levels_of_remaining_alias_searches running + (3 * (2 ^ 64 - visited) + 1))

abbrev pub work_of_decl_search : ℕ → ℕ → ℕ
work_of_decl_search running visited = work_of_level (levels_of_remaining_alias_searches running + (3 * (2 ^ 64 - visited) + 2))

-- a definition under so many parts, and the parts in all definitions
abbrev pub work_of_definition_with_parts : ℕ → ℕ → ℕ
work_of_definition_with_parts running parts = work_of_level (levels_of_remaining_alias_searches running + (3 * 2 ^ 64 + 2 * parts))

abbrev pub work_of_parts_search : ℕ → ℕ → ℕ
work_of_parts_search running parts = work_of_level (levels_of_remaining_alias_searches running + (3 * 2 ^ 64 + (2 * parts + 1)))

-- the declarations from the index on, and the `export *` statements from the position on
abbrev pub work_of_decls_from_index : ℕ → ℕ → ℕ → ℕ
work_of_decls_from_index running visited index = (2 ^ 32 - index) * work_of_decl_search running visited

abbrev pub work_of_stars_from_position : ℕ → ℕ → ℕ → ℕ
work_of_stars_from_position running visited position = (2 ^ 63 - position) * work_of_candidate_search running visited

abbrev pub work_of_frames : List AliasDecl → List Frame → ℕ → ℕ
work_of_frames before [] visited = 0
work_of_frames before (frame.Link here t ∷ frames) visited =
    let running = length (aliases_with_frames before frames) in
    work_of_decls_from_index running visited (here.index + 1) + 2 + work_of_frames before frames visited
work_of_frames before (frame.Star w ∷ frames) visited =
    let running = length (aliases_with_frames before frames) in
    work_of_stars_from_position running visited w.value.position + (work_of_decls_from_index running visited (w.value.here.index + 1) + 3)
    + work_of_frames before frames visited
work_of_frames before (frame.Alias w ∷ frames) visited =
    let running = length (aliases_with_frames before frames) in
    let outer = length w.value.visited.keys in
    work_of_decls_from_index running outer (w.value.here.index + 1) + 2 + work_of_frames before frames outer
work_of_frames before (frame.Parts ps ∷ frames) visited =
    let running = length (aliases_with_frames before frames) in
    work_of_parts_search running (length (remaining_parts ps)) + work_of_frames before frames visited
work_of_frames before (frame.Replacement w ∷ frames) visited =
    let running = length (aliases_with_frames before frames) in
    (length w.value.definitions.items - (length w.value.replacements.items + 1))
    * work_of_definition_with_parts running (length (remaining_parts w.value.parts)) + 2
    + work_of_frames before frames visited

abbrev pub work_of_step : ℕ → ℕ → Step → ℕ
work_of_step running visited (Search s) = work_of_symbol_search running visited
work_of_step running visited (Expand here) = work_of_decls_from_index running visited here.index + 1
work_of_step running visited (TryStar w) = work_of_stars_from_position running visited w.value.position
    + (work_of_decls_from_index running visited (w.value.here.index + 1) + 2)
work_of_step running visited (Replace w) =
    (length w.value.definitions.items - length w.value.replacements.items) * work_of_definition_with_parts running (length (remaining_parts w.value.parts)) + 1
work_of_step running visited (Found paths) = 0

abbrev pub remaining_search_work : List AliasDecl → List UniqueSymbolId → List Frame → Step → ℕ
remaining_search_work before visited frames step =
    work_of_step (length (aliases_with_frames before frames)) (length visited) step + work_of_frames before frames (length visited)
