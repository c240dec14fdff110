-- The graph of a text or its fault, from the results of the reader and the checker.
use Rattle.std.proofs.Common.{◌≡◌, ◌≢◌, ℕ, List, Result, Ok, Err, OnOk, IfOk, IfErr, MatchResult, IsErrAnd, rules, subst, sym}
use Rattle.symbols_ast.specs.declared.graph.raw.RawGraph.{RawGraph}
use Rattle.symbols_ast.specs.declared.graph.faults.GraphFault.{GraphFault}
use Rattle.symbols_ast.specs.declared.graph.faults.GraphFault.TheVariants as graph
use Rattle.symbols_ast.specs.Graph.{GraphView, graph_view, resolved_dependency}
use Rattle.symbols_graph.specs.GraphFaults.{IsFaultlessGraph, IsFirstGraphFault}
use Rattle.symq_reader.specs.declared.faults.FormatFault.{FormatFault}
use Rattle.symq_reader.specs.declared.faults.FormatFault.TheVariants as format
use Rattle.symq_reader.specs.GraphText.{IsReadOutcome, read_outcome_of_bytes}
use Rattle.symq_core.specs.declared.exit_error.ExitError.{ExitError}
use Rattle.symq_c.specs.GraphTexts.{IsRawGraphOfText, IsCheckedGraphOfText}
use Rattle.symq_c.specs.inner.GraphTexts.{IsGraphRefusal}

pub refused_format : (text : List ℕ) (fault : FormatFault) → IsReadOutcome (Err fault) (read_outcome_of_bytes text)
    → IsGraphRefusal text (ExitError.Format fault)
refused_format text format.OutOfMemory p = tt
refused_format text format.NotJson p = p
refused_format text format.BadForm p = p

refused_graph : (text : List ℕ) (raw : RawGraph) (fault : GraphFault) → IsRawGraphOfText text raw
    → (fault ≢ graph.OutOfMemory → IsFirstGraphFault (graph_view raw) fault)
    → IsGraphRefusal text (ExitError.Graph fault)
refused_graph text raw graph.OutOfMemory read p = tt
refused_graph text raw graph.TooManyModules read p = (raw, read, p (search rules))
refused_graph text raw (graph.DuplicateSpecifier specifier) read p = (raw, read, p (search rules))
refused_graph text raw (graph.DuplicateRedirect source) read p = (raw, read, p (search rules))
refused_graph text raw (graph.RedirectToRedirect source) read p = (raw, read, p (search rules))
refused_graph text raw (graph.DuplicateResolution referrer queried) read p = (raw, read, p (search rules))
refused_graph text raw (graph.Tree specifier fault) read p = (raw, read, p (search rules))

-- both results are alike: the graph, or the fault as an exit error
abbrev IsReported : Result GraphView GraphFault → Result GraphView ExitError → Type 0
IsReported made reported = MatchResult made (λ graph. reported ≡ Ok graph) (λ fault. IsErrAnd reported (λ exit_error. exit_error ≡ ExitError.Graph fault))

pub accepted_reported : (text : List ℕ) (raw : RawGraph) (made : Result GraphView GraphFault) (reported : Result GraphView ExitError)
    → IsRawGraphOfText text raw
    → OnOk made (IsFaultlessGraph (graph_view raw)) → IfOk made (λ graph. graph.modules ≡ (graph_view raw).modules)
    → IfOk made (λ graph. graph.redirects ≡ (graph_view raw).redirects)
    → IfOk made (λ graph. (referrer queried : List ℕ) → resolved_dependency graph referrer queried ≡ resolved_dependency (graph_view raw) referrer queried)
    → IsReported made reported → IfOk reported (IsCheckedGraphOfText text)
accepted_reported text raw (Ok graph) reported read faultless modules redirects resolutions e =
    subst (λ t. IfOk t (IsCheckedGraphOfText text)) (sym e) (raw, read, (faultless, (modules, redirects, resolutions)))
accepted_reported text raw (Err fault) (Ok graph) read faultless modules redirects resolutions e = absurd e
accepted_reported text raw (Err fault) (Err exit_error) read faultless modules redirects resolutions e = tt

pub refused_reported : (text : List ℕ) (raw : RawGraph) (made : Result GraphView GraphFault) (reported : Result GraphView ExitError) → IsRawGraphOfText text raw
    → IfErr made (λ fault. fault ≢ graph.OutOfMemory → IsFirstGraphFault (graph_view raw) fault) → IsReported made reported
    → IfErr reported (IsGraphRefusal text)
refused_reported text raw (Ok graph) reported read p e = subst (λ t. IfErr t (IsGraphRefusal text)) (sym e) tt
refused_reported text raw (Err fault) (Ok graph) read p e = absurd e
refused_reported text raw (Err fault) (Err exit_error) read p e = subst (IsGraphRefusal text) (sym e) (refused_graph text raw fault read p)
