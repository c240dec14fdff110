-- The graph that a JSON value describes, and the outcome of reading bytes: a graph, or a fault.
use Rattle.std.specs.Prelude.{◌≡◌, ⊤, ℕ, List, Bool, if◌then◌else◌, Option, Some, None, option_map}
use Rattle.std.specs.Prelude.{option_and_then, Result, Ok, Err, codes, map, String, string_bytes}
use Rattle.std.specs.declared.alloc.Global.{Global}
use Rattle.std.specs.Str.{bytes_eq, is_utf8}
use Rattle.serde_json.specs.Data.{Data}
use Rattle.serde_json.specs.Find.{as_str, as_object}
use Rattle.serde_json.specs.Read.{read}
use Rattle.symbols_ast.specs.declared.tree.arena.SourceRange.{SourceRange}
use Rattle.symbols_ast.specs.declared.tree.arena.Node.{Node}
use Rattle.symbols_ast.specs.declared.tree.arena.Tree.{Tree}
use Rattle.symbols_ast.specs.declared.graph.raw.RawGraph.{RawGraph}
use Rattle.symbols_ast.specs.declared.graph.raw.RawModule.{RawModule}
use Rattle.symbols_ast.specs.declared.graph.raw.RawResolution.{RawResolution}
use Rattle.symbols_ast.specs.declared.graph.raw.RawModuleKind.{RawModuleKind}
use Rattle.symbols_ast.specs.declared.graph.raw.RawModuleKind.TheVariants as Raw
use Rattle.symq_reader.specs.declared.faults.FormatFault.{FormatFault}
use Rattle.symq_reader.specs.declared.faults.FormatFault.TheVariants.{OutOfMemory, NotJson, BadForm}
use Rattle.symq_reader.specs.UnderKeys.{required_value_under_key, optional_value_under_key, list_under_key, bool_under_key, as_u64_number, as_pair, as_triple}
use Rattle.symq_reader.specs.Numbers.{has_whole_numbers}
use Rattle.symq_reader.specs.KindShapes.{KindNameAndFieldValues}
use Rattle.symq_reader.specs.KindShapesTable.{kind_name_and_field_values}
use Rattle.symq_reader.specs.ReadKinds.{read_kind}

-- ---- the graph that is read, with strings as bytes

pub record RawNodeView : Type 0 where
  pub kind : KindNameAndFieldValues
  pub range : SourceRange

pub record RawTreeView : Type 0 where
  pub declaration : Bool
  pub nodes : List RawNodeView

pub data RawModuleKindView : Type 0 where
  esm : List ℕ → Option RawTreeView → Option (List ℕ) → RawModuleKindView
  json : List ℕ → RawModuleKindView
  external : RawModuleKindView

pub record RawModuleView : Type 0 where
  pub specifier : List ℕ
  pub kind : RawModuleKindView

pub record RawGraphView : Type 0 where
  pub modules : List RawModuleView
  pub redirects : List (List ℕ × List ℕ)
  pub resolutions : List (List ℕ × List ℕ × List ℕ)

-- ---- its form in a JSON value

abbrev pub as_range : Data → Option SourceRange
as_range d = option_and_then (λ p. option_and_then (λ start. option_map (λ end. record { start = start; end = end }) (as_u64_number p.1)) (as_u64_number p.0))
    (as_pair d)

unfoldable pub as_node : Data → Option RawNodeView
as_node d = option_and_then (λ kind. option_map (λ range. record { kind = kind; range = range }) (required_value_under_key as_range (codes "range") d))
    (read_kind d)

-- reads an object; None for any other value, even if the form requires no field
abbrev pub require_object : {A : Type 0} → (Data → Option A) → Data → Option A
require_object form d = option_and_then (λ _. form d) (as_object d)

abbrev pub tree_of_json_fields : Data → Option RawTreeView
tree_of_json_fields d = option_and_then (λ declaration.
    option_map (λ nodes. record { declaration = declaration; nodes = nodes }) (list_under_key as_node (codes "nodes") d))
    (bool_under_key (codes "declaration") d)

abbrev pub as_tree : Data → Option RawTreeView
as_tree = require_object tree_of_json_fields

abbrev pub as_esm : Data → Option RawModuleKindView
as_esm d = option_and_then (λ text. option_and_then (λ tree. option_map (λ types. esm text tree types) (optional_value_under_key as_str (codes "types") d))
    (optional_value_under_key as_tree (codes "tree") d)) (required_value_under_key as_str (codes "text") d)

-- the kind of a module by its keyword, with the fields of that kind alone
abbrev pub module_kind_by_tag : List ℕ → Data → Option RawModuleKindView
module_kind_by_tag kind d =
    if bytes_eq kind (codes "esm") then as_esm d else
    if bytes_eq kind (codes "json") then option_map json (required_value_under_key as_str (codes "text") d) else
    if bytes_eq kind (codes "external") then Some external else None

abbrev pub as_module : Data → Option RawModuleView
as_module d = option_and_then (λ specifier. option_map (λ kind. record { specifier = specifier; kind = kind })
    (option_and_then (λ kind. module_kind_by_tag kind d) (required_value_under_key as_str (codes "kind") d))) (required_value_under_key as_str
    (codes "specifier") d)

abbrev pub as_redirect : Data → Option (List ℕ × List ℕ)
as_redirect d = option_and_then (λ p. option_and_then (λ from. option_map (λ to. (from, to)) (as_str p.1)) (as_str p.0)) (as_pair d)

abbrev pub as_resolution : Data → Option (List ℕ × List ℕ × List ℕ)
as_resolution d = option_and_then (λ p. option_and_then
    (λ referrer. option_and_then (λ specifier_text. option_map (λ to. (referrer, specifier_text, to)) (as_str p.2)) (as_str p.1)) (as_str p.0)) (as_triple d)

abbrev pub graph_of_json_fields : Data → Option RawGraphView
graph_of_json_fields d =
    option_and_then (λ modules. option_and_then (λ redirects. option_map (λ resolutions. record {
      modules = modules;
      redirects = redirects;
      resolutions = resolutions;
    }) (list_under_key as_resolution (codes "resolutions") d)) (list_under_key as_redirect (codes "redirects") d))
    (list_under_key as_module (codes "modules") d)

-- the graph that a value describes, if every number in the value is whole
abbrev pub raw_graph_of_json : Data → Option RawGraphView
raw_graph_of_json d = if has_whole_numbers d then require_object graph_of_json_fields d else None

-- ---- the raw graph of the program

abbrev pub raw_node_view : Node → RawNodeView
raw_node_view node = record { kind = kind_name_and_field_values node.kind; range = node.range }

abbrev pub raw_tree_view : Tree → RawTreeView
raw_tree_view tree = record { declaration = tree.declaration; nodes = map raw_node_view tree.nodes.items }

abbrev pub raw_module_kind_view : RawModuleKind → RawModuleKindView
raw_module_kind_view (Raw.Esm text tree types) = esm (string_bytes text) (option_map raw_tree_view tree) (option_map string_bytes types)
raw_module_kind_view (Raw.Json text) = json (string_bytes text)
raw_module_kind_view Raw.External = external

abbrev pub raw_module_view : RawModule → RawModuleView
raw_module_view m = record { specifier = string_bytes m.specifier; kind = raw_module_kind_view m.kind }

abbrev pub raw_redirect_view : String Global × String Global → List ℕ × List ℕ
raw_redirect_view r = (string_bytes r.0, string_bytes r.1)

abbrev pub raw_resolution_view : RawResolution → List ℕ × List ℕ × List ℕ
raw_resolution_view r = (string_bytes r.referrer, string_bytes r.specifier_text, string_bytes r.specifier)

abbrev pub raw_graph_view : RawGraph → RawGraphView
raw_graph_view g = record {
  modules = map raw_module_view g.modules.items;
  redirects = map raw_redirect_view g.redirects.items;
  resolutions = map raw_resolution_view g.resolutions.items;
}

-- ---- bytes

-- the value of a JSON text; None if the bytes are no JSON
unfoldable pub json_of_bytes : List ℕ → Option Data
json_of_bytes bytes = if is_utf8 bytes then read bytes else None

abbrev pub ok_or_fault : {A : Type 0} → FormatFault → Option A → Result A FormatFault
ok_or_fault fault None = Err fault
ok_or_fault fault (Some x) = Ok x

abbrev pub read_outcome_of_json : Option Data → Result RawGraphView FormatFault
read_outcome_of_json None = Err NotJson
read_outcome_of_json (Some d) = ok_or_fault BadForm (raw_graph_of_json d)

-- the graph that bytes describe, or the fault for which there is none
abbrev pub read_outcome_of_bytes : List ℕ → Result RawGraphView FormatFault
read_outcome_of_bytes bytes = read_outcome_of_json (json_of_bytes bytes)

-- the result is the outcome; a failed allocation is possible for any outcome
abbrev pub IsReadOutcome : Result RawGraph FormatFault → Result RawGraphView FormatFault → Type 0
IsReadOutcome (Ok graph) outcome = outcome ≡ Ok (raw_graph_view graph)
IsReadOutcome (Err OutOfMemory) outcome = ⊤
IsReadOutcome (Err NotJson) outcome = outcome ≡ Err NotJson
IsReadOutcome (Err BadForm) outcome = outcome ≡ Err BadForm
