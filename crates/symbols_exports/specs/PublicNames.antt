-- The public names of a module: its exports, and what their symbols themselves export, such as static members of a class. Nothing is
-- followed.
use Rattle.std.specs.Prelude.{◌≡◌, ℕ, ◌<◌, Bool, ◌||◌, not, List, ◌∷◌, length, map, filter, flat_map, Option, None, Some, option_map, string_bytes, codes}
use Rattle.std.specs.Str.{bytes_eq}
use Rattle.symbols_ast.specs.declared.ids.ModuleId.{ModuleId}
use Rattle.symbols_ast.specs.declared.ids.SymbolId.{SymbolId}
use Rattle.symbols_ast.specs.Graph.{GraphView}
use Rattle.symbols_table.specs.Changes.{exports_after_changes}
use Rattle.symbols_root.specs.GraphModules.{table_changes_of_module}
use Rattle.symbols_root.specs.Roots.{RootView, specifier_in, root_with_stored_modules}
use Rattle.symbols_exports.specs.declared.public_name.PublicName.{PublicName}
use Rattle.symbols_exports.specs.Chains.{AreReachedByStars}
use Rattle.symbols_exports.specs.Exports.{ExportEntry}
use Rattle.symbols_exports.specs.StarStatements.{star_targets_of}
use Rattle.symbols_exports.specs.Traces.{exports_of}

-- an exported name; with a member, a name that its symbol itself exports
pub record ExportedNameWithMember : Type 0 where
  pub name : List ℕ
  pub member : Option (List ℕ)

abbrev pub public_name_view : PublicName → ExportedNameWithMember
public_name_view public = record { name = string_bytes public.name; member = option_map string_bytes public.member }

-- whether the member is a constructor or an index signature, which have a name only in the symbol table
abbrev pub is_constructor_or_index_signature : List ℕ → Bool
is_constructor_or_index_signature member = bytes_eq member (codes "%%dg_ctor%%") || bytes_eq member (codes "%%dg_index%%")

-- the exports of a symbol of a module itself
abbrev pub exports_of_symbol : GraphView → List ℕ → SymbolId → List (List ℕ × SymbolId)
exports_of_symbol graph specifier symbol = exports_after_changes (table_changes_of_module graph specifier) symbol

-- one item for each export of a symbol, in order; constructors and index signatures are left out
abbrev pub public_names_of_members : List ℕ → List (List ℕ × SymbolId) → List ExportedNameWithMember
public_names_of_members name members = map (λ (member : List ℕ × SymbolId). record { name = name; member = Some member.0 })
    (filter (λ (member : List ℕ × SymbolId). not (is_constructor_or_index_signature member.0)) members)

-- the name without a member, then with each member
abbrev pub public_names_with_members : List ℕ → List (List ℕ × SymbolId) → List ExportedNameWithMember
public_names_with_members name members = record { name = name; member = None } ∷ public_names_of_members name members

-- the public names of a module: those of each export, in order
abbrev pub public_names_of : GraphView → List ℕ → List ExportedNameWithMember
public_names_of graph start = flat_map (λ (entry : ExportEntry). public_names_with_members entry.name (exports_of_symbol graph entry.exporter entry.symbol))
    (exports_of graph start)

-- `public_names` succeeds: the public names of the stored module of this number are returned, and all reachable modules are stored
pub record IsPublicNamesCallResult (old new : RootView) (start : ModuleId) (items : List ExportedNameWithMember) : Type 0 where
  pub known : start.0 < length old.stored
  pub are_public_names : items ≡ public_names_of old.graph (specifier_in old start)
  pub reached : List (List ℕ × List ℕ)
  pub are_reached : AreReachedByStars (star_targets_of old.graph) (specifier_in old start) reached
  pub stored : new ≡ root_with_stored_modules old (map (λ (m : List ℕ × List ℕ). m.1) reached)
