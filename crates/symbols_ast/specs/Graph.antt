-- The views of modules and graphs that contracts use, with texts as bytes.
use Rattle.std.specs.Prelude.{ℕ, Bool, true, false, ◌&&◌, List, [], map, Option, None, IfSome, unwrap_or, find, String, string_bytes}
use Rattle.std.specs.Global.{Global}
use Rattle.std.specs.Option.{option_map}
use Rattle.std.specs.Map.{lookup}
use Rattle.std.specs.Str.{bytes_eq}
use Rattle.symbols_ast.specs.declared.tree.arena.Tree.{Tree}
use Rattle.symbols_ast.specs.declared.graph.raw.RawModuleKind.{RawModuleKind}
use Rattle.symbols_ast.specs.declared.graph.raw.RawModuleKind.TheVariants as raw
use Rattle.symbols_ast.specs.declared.graph.raw.RawModule.{RawModule}
use Rattle.symbols_ast.specs.declared.graph.raw.RawResolution.{RawResolution}
use Rattle.symbols_ast.specs.declared.graph.raw.RawGraph.{RawGraph}
use Rattle.symbols_ast.specs.TreeFaults.{IsFaultlessTree}
use Rattle.symbols_ast.specs.WellFormed.{IsWellFormedTree}

-- The content of a module: an ECMAScript or TypeScript module with its text, its tree and the module of its types; a JSON text; or
-- external.
pub data ModuleContent : Type 0 where
  esm : List ℕ → Option Tree → Option (List ℕ) → ModuleContent
  json : List ℕ → ModuleContent
  external : ModuleContent

pub record ModuleView : Type 0 where
  pub specifier : List ℕ
  pub content : ModuleContent

-- A specifier written in the referrer, with the specifier of the module that it resolves to.
pub record Resolution : Type 0 where
  pub referrer : List ℕ
  pub specifier_text : List ℕ
  pub specifier : List ℕ

-- The view of a graph. A redirect is a specifier with the specifier that it is redirected to.
pub record GraphView : Type 0 where
  pub modules : List ModuleView
  pub redirects : List (List ℕ × List ℕ)
  pub resolutions : List Resolution

abbrev pub content_text : ModuleContent → List ℕ
content_text (esm text _ _) = text
content_text (json text) = text
content_text external = []

abbrev pub content_tree : ModuleContent → Option Tree
content_tree (esm _ tree _) = tree
content_tree _ = None

abbrev pub content_types_dependency : ModuleContent → Option (List ℕ)
content_types_dependency (esm _ _ types) = types
content_types_dependency _ = None

abbrev pub is_json : ModuleContent → Bool
is_json (json _) = true
is_json _ = false

-- The tree, if there is one, has no fault over the text and is well formed.
abbrev pub IsCheckedContent : ModuleContent → Type 0
IsCheckedContent content = IfSome (content_tree content) (λ tree. IsFaultlessTree (content_text content) tree.nodes.items × IsWellFormedTree tree.nodes.items)

-- The target of the redirect from a specifier; the specifier itself if it is not redirected.
abbrev pub specifier_after_redirect : GraphView → List ℕ → List ℕ
specifier_after_redirect graph specifier = unwrap_or (lookup (bytes_eq specifier) graph.redirects) specifier

-- The module of a specifier, after one redirect.
abbrev pub module_after_redirect : GraphView → List ℕ → Option ModuleView
module_after_redirect graph specifier = find (λ m. bytes_eq (specifier_after_redirect graph specifier) m.specifier) graph.modules

-- The result of the first resolution with this referrer and specifier text.
abbrev pub find_resolved_specifier : List Resolution → List ℕ → List ℕ → Option (List ℕ)
find_resolved_specifier resolutions referrer specifier_text =
    option_map (λ r. r.specifier) (find (λ r. bytes_eq referrer r.referrer && bytes_eq specifier_text r.specifier_text) resolutions)

-- The specifier that a specifier text resolves to in the referrer.
abbrev pub resolved_dependency : GraphView → List ℕ → List ℕ → Option (List ℕ)
resolved_dependency graph referrer specifier_text = find_resolved_specifier graph.resolutions referrer specifier_text

-- The views of a raw graph.
abbrev pub content_view : RawModuleKind → ModuleContent
content_view (raw.Esm text tree types) = esm (string_bytes text) tree (option_map string_bytes types)
content_view (raw.Json text) = json (string_bytes text)
content_view raw.External = external

abbrev pub module_view : RawModule → ModuleView
module_view m = record { specifier = string_bytes m.specifier; content = content_view m.kind }

abbrev pub redirect_view : String Global × String Global → List ℕ × List ℕ
redirect_view r = (string_bytes r.0, string_bytes r.1)

abbrev pub resolution_view : RawResolution → Resolution
resolution_view r = record { referrer = string_bytes r.referrer; specifier_text = string_bytes r.specifier_text; specifier = string_bytes r.specifier }

abbrev pub graph_view : RawGraph → GraphView
graph_view g = record {
  modules = map module_view g.modules.items;
  redirects = map redirect_view g.redirects.items;
  resolutions = map resolution_view g.resolutions.items;
}
