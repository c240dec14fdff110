-- The text of a module that is put into the graph of a session, and the faults for which it is refused.
use Rattle.std.specs.Prelude.{◌≡◌, ℕ, ◌⊎◌, List, []}
use Rattle.symbols_ast.specs.declared.graph.raw.RawGraph.{RawGraph}
use Rattle.symbols_ast.specs.declared.graph.faults.GraphFault.{GraphFault}
use Rattle.symbols_ast.specs.Graph.{GraphView, ModuleView, graph_view}
use Rattle.symbols_graph.specs.GraphFaults.{IsFirstGraphFault}
use Rattle.symbols_graph.specs.PutModules.{IsFirstPutFault, IsSameGraph, graph_with_put_module}
use Rattle.symq_reader.specs.declared.faults.FormatFault.{FormatFault}
use Rattle.symq_reader.specs.declared.faults.FormatFault.TheVariants as format
use Rattle.symq_c.specs.GraphTexts.{IsRawGraphOfText, IsCheckedGraph, IsFormatFaultOfText}

abbrev pub empty_graph : GraphView
empty_graph = record { modules = []; redirects = []; resolutions = [] }

-- the graph has this module alone, these resolutions of it, each with its specifier text, and no redirect
abbrev pub IsGraphOfModule : GraphView → ModuleView → List (List ℕ × List ℕ) → Type 0
IsGraphOfModule graph m resolved = graph ≡ graph_with_put_module empty_graph m resolved

-- the text describes the graph of this module and these resolutions
abbrev pub IsModuleOfText : List ℕ → ModuleView → List (List ℕ × List ℕ) → Type 0
IsModuleOfText text m resolved = (raw : RawGraph) × IsRawGraphOfText text raw × IsGraphOfModule (graph_view raw) m resolved

-- the text describes a graph, which isn't that of a module
abbrev pub IsGraphOfNoModule : List ℕ → Type 0
IsGraphOfNoModule text = (raw : RawGraph) × IsRawGraphOfText text raw
    × ((m : ModuleView) (resolved : List (List ℕ × List ℕ)) → IsGraphOfModule (graph_view raw) m resolved → ⊥)

-- the text has no module, for this reason: it is no graph, or not the graph of a module
abbrev pub IsFormatFaultOfModuleText : List ℕ → FormatFault → Type 0
IsFormatFaultOfModuleText text format.OutOfMemory = ⊥
IsFormatFaultOfModuleText text format.NotJson = IsFormatFaultOfText text format.NotJson
IsFormatFaultOfModuleText text format.BadForm = IsFormatFaultOfText text format.BadForm ⊎ IsGraphOfNoModule text

-- the new graph is the old one with the module of the text in place. It is checked as if opened anew with that module
pub record IsGraphAfterPut (text : List ℕ) (old new : GraphView) : Type 0 where
  pub m : ModuleView
  pub resolved : List (List ℕ × List ℕ)
  pub is_module_of_text : IsModuleOfText text m resolved
  pub is_old_with_module : IsSameGraph (graph_with_put_module old m resolved) new
  pub is_checked : (raw : GraphView) → IsCheckedGraph raw old → IsCheckedGraph (graph_with_put_module raw m resolved) new

-- the module of the text has this fault first. So it is the first of the graph with the module in place
pub record IsFirstFaultOfPut (text : List ℕ) (graph : GraphView) (fault : GraphFault) : Type 0 where
  pub m : ModuleView
  pub resolved : List (List ℕ × List ℕ)
  pub is_module_of_text : IsModuleOfText text m resolved
  pub is_first_put_fault : IsFirstPutFault graph.modules m resolved fault
  pub is_first_graph_fault : (raw : GraphView) → IsCheckedGraph raw graph → IsFirstGraphFault (graph_with_put_module raw m resolved) fault
