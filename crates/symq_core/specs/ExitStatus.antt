-- The exit status of each error.
use Rattle.std.specs.Prelude.{ℕ}
use Rattle.std.specs.Bool.{⊤}
use Rattle.symbols_ast.specs.declared.graph.faults.GraphFault.{GraphFault}
use Rattle.symbols_ast.specs.declared.graph.faults.GraphFault.TheVariants as graph
use Rattle.symq_reader.specs.declared.faults.FormatFault.{FormatFault}
use Rattle.symq_reader.specs.declared.faults.FormatFault.TheVariants as format
use Rattle.symq_core.specs.declared.fault.EngineFault.{EngineFault}
use Rattle.symq_core.specs.declared.fault.EngineFault.TheVariants as engine
use Rattle.symq_core.specs.declared.exit_error.ExitError.{ExitError}

-- a failed allocation always has status 7
abbrev pub format_fault_exit_status : FormatFault → ℕ
format_fault_exit_status format.OutOfMemory = 7
format_fault_exit_status _ = 4

abbrev pub graph_fault_exit_status : GraphFault → ℕ
graph_fault_exit_status graph.OutOfMemory = 7
graph_fault_exit_status _ = 5

abbrev pub engine_fault_exit_status : EngineFault → ℕ
engine_fault_exit_status engine.OutOfMemory = 7
engine_fault_exit_status _ = 6

abbrev pub exit_error_status : ExitError → ℕ
exit_error_status ExitError.Usage = 2
exit_error_status ExitError.NotRead = 3
exit_error_status (ExitError.Format fault) = format_fault_exit_status fault
exit_error_status (ExitError.Graph fault) = graph_fault_exit_status fault
exit_error_status (ExitError.Engine fault) = engine_fault_exit_status fault

-- an error before the graph is checked: of the arguments, the file or its format
abbrev pub IsErrorBeforeGraphCheck : ExitError → Type 0
IsErrorBeforeGraphCheck (ExitError.Graph _) = ⊥
IsErrorBeforeGraphCheck (ExitError.Engine _) = ⊥
IsErrorBeforeGraphCheck _ = ⊤
