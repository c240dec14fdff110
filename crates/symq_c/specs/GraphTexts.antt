-- The graph that a text describes, or the fault for which it is refused.
use Rattle.std.specs.Prelude.{◌≡◌, ℕ, List, Ok, Err}
use Rattle.symbols_ast.specs.declared.graph.raw.RawGraph.{RawGraph}
use Rattle.symbols_ast.specs.declared.graph.faults.GraphFault.{GraphFault}
use Rattle.symbols_ast.specs.Graph.{GraphView, graph_view}
use Rattle.symbols_graph.specs.GraphFaults.{IsFaultlessGraph, IsFirstGraphFault}
use Rattle.symbols_graph.specs.PutModules.{IsSameGraph}
use Rattle.symq_reader.specs.declared.faults.FormatFault.{FormatFault}
use Rattle.symq_reader.specs.GraphText.{raw_graph_view, read_outcome_of_bytes}

-- raw is the graph that the text describes, before its check
abbrev pub IsRawGraphOfText : List ℕ → RawGraph → Type 0
IsRawGraphOfText text raw = read_outcome_of_bytes text ≡ Ok (raw_graph_view raw)

-- the graph has no fault, and the second is the same
abbrev pub IsCheckedGraph : GraphView → GraphView → Type 0
IsCheckedGraph raw graph = IsFaultlessGraph raw × IsSameGraph raw graph

-- the text describes this graph, which has no faults
abbrev pub IsCheckedGraphOfText : List ℕ → GraphView → Type 0
IsCheckedGraphOfText text graph = (raw : RawGraph) × IsRawGraphOfText text raw × IsCheckedGraph (graph_view raw) graph

-- the text is no graph, for this reason
abbrev pub IsFormatFaultOfText : List ℕ → FormatFault → Type 0
IsFormatFaultOfText text fault = read_outcome_of_bytes text ≡ Err fault

-- the graph that the text describes has this fault first
abbrev pub IsFirstGraphFaultOfText : List ℕ → GraphFault → Type 0
IsFirstGraphFaultOfText text fault = (raw : RawGraph) × IsRawGraphOfText text raw × IsFirstGraphFault (graph_view raw) fault
