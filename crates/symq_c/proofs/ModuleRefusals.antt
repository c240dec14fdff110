-- Why a text has no module, and why a module isn't put into a graph.
use Rattle.std.proofs.Common.{◌≢◌, ℕ, List, inr, rules}
use Rattle.symbols_ast.specs.declared.graph.raw.RawGraph.{RawGraph}
use Rattle.symbols_ast.specs.declared.graph.faults.GraphFault.{GraphFault}
use Rattle.symbols_ast.specs.declared.graph.faults.GraphFault.TheVariants as graph
use Rattle.symbols_ast.specs.Graph.{GraphView, ModuleView, graph_view}
use Rattle.symbols_graph.specs.GraphFaults.{IsFirstGraphFault}
use Rattle.symbols_graph.specs.PutModules.{IsFirstPutFault, graph_with_put_module}
use Rattle.symq_reader.specs.declared.faults.FormatFault.{FormatFault}
use Rattle.symq_reader.specs.declared.faults.FormatFault.TheVariants as format
use Rattle.symq_core.specs.declared.exit_error.ExitError.{ExitError}
use Rattle.symq_c.specs.GraphTexts.{IsRawGraphOfText, IsCheckedGraph}
use Rattle.symq_c.specs.ModuleTexts.{IsModuleOfText, IsFirstFaultOfPut}
use Rattle.symq_c.specs.inner.ModuleTexts.{IsRefusalOfGraph, IsModuleTextRefusal, IsPutRefusal}

pub refused_text : (text : List ℕ) (raw : RawGraph) (fault : FormatFault) → IsRawGraphOfText text raw → IsRefusalOfGraph (graph_view raw) fault
    → IsModuleTextRefusal text fault
refused_text text raw format.OutOfMemory read refused = tt
refused_text text raw format.NotJson read refused =
    let apart : format.NotJson ≢ format.BadForm = search rules in absurd (apart (refused (search rules)).0)
refused_text text raw format.BadForm read refused = inr (raw, read, (refused (search rules)).1)

module _ (text : List ℕ) (old : GraphView) (m : ModuleView) (resolved : List (List ℕ × List ℕ)) (is : IsModuleOfText text m resolved) where
  -- the first fault of what is put is the first one of each graph with the module in place
  abbrev IsFirstInGraphs : GraphFault → Type 0
  IsFirstInGraphs fault = (raw : GraphView) → IsCheckedGraph raw old → IsFirstPutFault old.modules m resolved fault
      → IsFirstGraphFault (graph_with_put_module raw m resolved) fault

  first_fault : (fault : GraphFault) → IsFirstInGraphs fault → IsFirstPutFault old.modules m resolved fault → IsFirstFaultOfPut text old fault
  first_fault fault in_graphs first = record {
    m = m;
    resolved = resolved;
    is_module_of_text = is;
    is_first_put_fault = first;
    is_first_graph_fault = λ raw checked. in_graphs raw checked first;
  }

  pub refused_put : (fault : GraphFault) → IsFirstInGraphs fault → (fault ≢ graph.OutOfMemory → IsFirstPutFault old.modules m resolved fault)
      → IsPutRefusal text old (ExitError.Graph fault)
  refused_put graph.OutOfMemory in_graphs p = tt
  refused_put graph.TooManyModules in_graphs p = first_fault graph.TooManyModules in_graphs (p (search rules))
  refused_put (graph.DuplicateSpecifier specifier) in_graphs p = first_fault (graph.DuplicateSpecifier specifier) in_graphs (p (search rules))
  refused_put (graph.DuplicateRedirect source) in_graphs p = first_fault (graph.DuplicateRedirect source) in_graphs (p (search rules))
  refused_put (graph.RedirectToRedirect source) in_graphs p = first_fault (graph.RedirectToRedirect source) in_graphs (p (search rules))
  refused_put (graph.DuplicateResolution referrer queried) in_graphs p =
      first_fault (graph.DuplicateResolution referrer queried) in_graphs (p (search rules))
  refused_put (graph.Tree specifier fault) in_graphs p = first_fault (graph.Tree specifier fault) in_graphs (p (search rules))
