-- The line for standard error of each error.
use Rattle.std.specs.Prelude.{ℕ, List, ◌++◌, codes, decimal, string_bytes}
use Rattle.symbols_ast.specs.declared.graph.faults.TreeFault.{TreeFault}
use Rattle.symbols_ast.specs.declared.graph.faults.TreeFault.TheVariants as tree
use Rattle.symbols_ast.specs.declared.graph.faults.GraphFault.{GraphFault}
use Rattle.symbols_ast.specs.declared.graph.faults.GraphFault.TheVariants as graph
use Rattle.symq_reader.specs.declared.faults.FormatFault.{FormatFault}
use Rattle.symq_reader.specs.declared.faults.FormatFault.TheVariants as format
use Rattle.symq_core.specs.declared.fault.EngineFault.{EngineFault}
use Rattle.symq_core.specs.declared.fault.EngineFault.TheVariants as engine
use Rattle.symq_core.specs.declared.exit_error.ExitError.{ExitError}

abbrev pub out_of_memory_line : List ℕ
out_of_memory_line = codes "symq: out of memory"

abbrev pub format_fault_line : FormatFault → List ℕ
format_fault_line format.OutOfMemory = out_of_memory_line
format_fault_line format.NotJson = codes "symq: not a graph: json"
format_fault_line format.BadForm = codes "symq: not a graph: form"

abbrev pub engine_fault_line : EngineFault → List ℕ
engine_fault_line engine.OutOfMemory = out_of_memory_line
engine_fault_line engine.InputFailed = codes "symq: input failed"
engine_fault_line engine.OutputFailed = codes "symq: output failed"
engine_fault_line engine.InputTooLong = codes "symq: input too long"

abbrev pub tree_fault_and_node_numbers_text : ℕ → ℕ → List ℕ
tree_fault_and_node_numbers_text fault_number node = decimal fault_number ++ (codes " " ++ decimal node)

-- the number of a tree's fault, from 1, and the number of the node that it names, if any
abbrev pub tree_fault_numbers_text : TreeFault → List ℕ
tree_fault_numbers_text tree.NoProgram = codes "1"
tree_fault_numbers_text tree.TooManyNodes = codes "2"
tree_fault_numbers_text (tree.BadChild node) = tree_fault_and_node_numbers_text 3 node
tree_fault_numbers_text (tree.SharedChild node) = tree_fault_and_node_numbers_text 4 node
tree_fault_numbers_text (tree.BadRange node) = tree_fault_and_node_numbers_text 5 node
tree_fault_numbers_text (tree.BadShape node) = tree_fault_and_node_numbers_text 6 node
tree_fault_numbers_text (tree.TooDeep node) = tree_fault_and_node_numbers_text 7 node

-- the line with the number of a graph's fault, and what the fault names
abbrev pub graph_fault_line : GraphFault → List ℕ
graph_fault_line graph.OutOfMemory = out_of_memory_line
graph_fault_line graph.TooManyModules = codes "symq: graph refused: 2"
graph_fault_line (graph.DuplicateSpecifier specifier) = codes "symq: graph refused: 3 " ++ string_bytes specifier
graph_fault_line (graph.DuplicateRedirect source) = codes "symq: graph refused: 4 " ++ string_bytes source
graph_fault_line (graph.RedirectToRedirect source) = codes "symq: graph refused: 5 " ++ string_bytes source
graph_fault_line (graph.DuplicateResolution referrer text) = codes "symq: graph refused: 6 " ++ (string_bytes referrer ++ (codes " " ++ string_bytes text))
graph_fault_line (graph.Tree specifier fault) = codes "symq: graph refused: 7 " ++ (string_bytes specifier ++ (codes " " ++ tree_fault_numbers_text fault))

abbrev pub exit_error_line : ExitError → List ℕ
exit_error_line ExitError.Usage = codes "usage: symq [--strict] GRAPH"
exit_error_line ExitError.NotRead = codes "symq: cannot read graph"
exit_error_line (ExitError.Format fault) = format_fault_line fault
exit_error_line (ExitError.Graph fault) = graph_fault_line fault
exit_error_line (ExitError.Engine fault) = engine_fault_line fault
