-- What inner functions and proofs say about the graph of a text, beside `GraphTexts`.
use Rattle.std.specs.Prelude.{⊤, ℕ, List}
use Rattle.symbols_ast.specs.declared.graph.faults.GraphFault.TheVariants as graph
use Rattle.symq_reader.specs.declared.faults.FormatFault.TheVariants as format
use Rattle.symq_core.specs.declared.exit_error.ExitError.{ExitError}
use Rattle.symq_c.specs.GraphTexts.{IsFormatFaultOfText, IsFirstGraphFaultOfText}

-- the error says why the text has no checked graph; a failed allocation is possible for any text
abbrev pub IsGraphRefusal : List ℕ → ExitError → Type 0
IsGraphRefusal text ExitError.Usage = ⊥
IsGraphRefusal text ExitError.NotRead = ⊥
IsGraphRefusal text (ExitError.Format format.OutOfMemory) = ⊤
IsGraphRefusal text (ExitError.Format format.NotJson) = IsFormatFaultOfText text format.NotJson
IsGraphRefusal text (ExitError.Format format.BadForm) = IsFormatFaultOfText text format.BadForm
IsGraphRefusal text (ExitError.Graph graph.OutOfMemory) = ⊤
IsGraphRefusal text (ExitError.Graph fault) = IsFirstGraphFaultOfText text fault
IsGraphRefusal text (ExitError.Engine fault) = ⊥
