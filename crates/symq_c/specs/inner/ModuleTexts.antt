-- What inner functions and proofs say about the text of a module, beside `ModuleTexts`.
use Rattle.std.specs.Prelude.{⊤, ◌≡◌, ◌≢◌, ℕ, List}
use Rattle.symbols_ast.specs.declared.graph.faults.GraphFault.TheVariants as graph
use Rattle.symbols_ast.specs.Graph.{GraphView, ModuleView}
use Rattle.symq_reader.specs.declared.faults.FormatFault.{FormatFault}
use Rattle.symq_reader.specs.declared.faults.FormatFault.TheVariants as format
use Rattle.symq_core.specs.declared.exit_error.ExitError.{ExitError}
use Rattle.symq_c.specs.ModuleTexts.{IsGraphOfModule, IsFormatFaultOfModuleText, IsFirstFaultOfPut}

-- an allocation failed, or the graph is of no module
abbrev pub IsRefusalOfGraph : GraphView → FormatFault → Type 0
IsRefusalOfGraph graph fault = fault ≢ format.OutOfMemory
    → (fault ≡ format.BadForm) × ((m : ModuleView) (resolved : List (List ℕ × List ℕ)) → IsGraphOfModule graph m resolved → ⊥)

-- the error says why the text has no module; a failed allocation is possible for any text
abbrev pub IsModuleTextRefusal : List ℕ → FormatFault → Type 0
IsModuleTextRefusal text format.OutOfMemory = ⊤
IsModuleTextRefusal text format.NotJson = IsFormatFaultOfModuleText text format.NotJson
IsModuleTextRefusal text format.BadForm = IsFormatFaultOfModuleText text format.BadForm

-- the error says why the module of the text isn't put into the graph
abbrev pub IsPutRefusal : List ℕ → GraphView → ExitError → Type 0
IsPutRefusal text old ExitError.Usage = ⊥
IsPutRefusal text old ExitError.NotRead = ⊥
IsPutRefusal text old (ExitError.Format fault) = IsModuleTextRefusal text fault
IsPutRefusal text old (ExitError.Graph graph.OutOfMemory) = ⊤
IsPutRefusal text old (ExitError.Graph fault) = IsFirstFaultOfPut text old fault
IsPutRefusal text old (ExitError.Engine fault) = ⊥
