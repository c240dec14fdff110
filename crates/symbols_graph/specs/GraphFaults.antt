-- The conditions of each fault of a graph, and which fault is the first.
use Rattle.std.specs.Prelude.{◌≡◌, ℕ, ◌<◌, ◌≤◌, ◌^◌, ◌⊎◌, List, Some, map, length, slice_get, string_bytes}
use Rattle.symbols_ast.specs.declared.tree.arena.Tree.{Tree}
use Rattle.symbols_ast.specs.declared.graph.faults.TreeFault.{TreeFault}
use Rattle.symbols_ast.specs.declared.graph.faults.GraphFault.{GraphFault}
use Rattle.symbols_ast.specs.declared.graph.faults.GraphFault.TheVariants as fault
use Rattle.symbols_ast.specs.Graph.{GraphView, ModuleContent, ModuleView, Resolution, content_tree, content_text}
use Rattle.symbols_graph.specs.Repeats.{IsRepeatedEntryAt}
use Rattle.symbols_ast.specs.TreeFaults.{IsFirstTreeFault}

abbrev pub module_specifiers : List ModuleView → List (List ℕ)
module_specifiers modules = map (λ m. m.specifier) modules

-- The sources of the redirects.
abbrev pub redirect_sources : List (List ℕ × List ℕ) → List (List ℕ)
redirect_sources redirects = map (λ r. r.0) redirects

-- The keys of the resolutions: referrer and specifier text.
abbrev pub resolution_keys : List Resolution → List (List ℕ × List ℕ)
resolution_keys resolutions = map (λ r. (r.referrer, r.specifier_text)) resolutions

-- Redirect i has this source, and its target is itself redirected, perhaps to itself.
abbrev pub IsRedirectToRedirect : List (List ℕ × List ℕ) → ℕ → List ℕ → Type 0
IsRedirectToRedirect redirects i source =
    (target : List ℕ) × (slice_get redirects i ≡ Some (source, target)) × ((j : ℕ) × (slice_get (redirect_sources redirects) j ≡ Some target))

-- The content has a tree, and this is its first fault.
abbrev pub HasFirstTreeFault : ModuleContent → TreeFault → Type 0
HasFirstTreeFault content found = (tree : Tree) × (content_tree content ≡ Some tree) × IsFirstTreeFault (content_text content) tree.nodes.items (Some found)

-- Module i has the specifier, and this is the first fault of its tree.
abbrev pub IsTreeFaultAt : List ModuleView → ℕ → List ℕ × TreeFault → Type 0
IsTreeFaultAt modules i found = (m : ModuleView) × (slice_get modules i ≡ Some m) × (m.specifier ≡ found.0) × HasFirstTreeFault m.content found.1

-- The condition of each fault at entry i of the list that it concerns.
abbrev pub IsFaultAt : GraphView → ℕ → GraphFault → Type 0
IsFaultAt graph i fault.OutOfMemory = ⊥
IsFaultAt graph i fault.TooManyModules = 2 ^ 32 ≤ length graph.modules
IsFaultAt graph i (fault.DuplicateSpecifier specifier) = IsRepeatedEntryAt (module_specifiers graph.modules) i (string_bytes specifier)
IsFaultAt graph i (fault.DuplicateRedirect source) = IsRepeatedEntryAt (redirect_sources graph.redirects) i (string_bytes source)
IsFaultAt graph i (fault.RedirectToRedirect source) = IsRedirectToRedirect graph.redirects i (string_bytes source)
IsFaultAt graph i (fault.DuplicateResolution referrer specifier_text) =
    IsRepeatedEntryAt (resolution_keys graph.resolutions) i (string_bytes referrer, string_bytes specifier_text)
IsFaultAt graph i (fault.Tree specifier found) = IsTreeFaultAt graph.modules i (string_bytes specifier, found)

-- The order in which the faults are tried, each over the whole graph.
abbrev pub graph_fault_rank : GraphFault → ℕ
graph_fault_rank fault.OutOfMemory = 0
graph_fault_rank fault.TooManyModules = 0
graph_fault_rank (fault.DuplicateSpecifier _) = 1
graph_fault_rank (fault.DuplicateRedirect _) = 2
graph_fault_rank (fault.RedirectToRedirect _) = 3
graph_fault_rank (fault.DuplicateResolution _ _) = 4
graph_fault_rank (fault.Tree _ _) = 5

-- Fault f at entry i is tried before fault g at entry j.
abbrev pub IsFaultTriedBefore : ℕ → GraphFault → ℕ → GraphFault → Type 0
IsFaultTriedBefore i f j g = (graph_fault_rank f < graph_fault_rank g) ⊎ ((graph_fault_rank f ≡ graph_fault_rank g) × (i < j))

-- The graph has no fault.
abbrev pub IsFaultlessGraph : GraphView → Type 0
IsFaultlessGraph graph = (i : ℕ) (f : GraphFault) → IsFaultAt graph i f → ⊥

-- The graph has the fault, and none that is tried before it.
abbrev pub IsFirstGraphFault : GraphView → GraphFault → Type 0
IsFirstGraphFault graph g = (j : ℕ) × IsFaultAt graph j g × ((i : ℕ) (f : GraphFault) → IsFaultTriedBefore i f j g → IsFaultAt graph i f → ⊥)
