-- The command-line arguments, and the graph of the file that they name.
use Rattle.std.specs.Prelude.{◌≡◌, ℕ, List, [], ◌∷◌, Option, None, Some, Result, Ok, Err, Vec, codes, if◌then◌else◌}
use Rattle.std.specs.Bool.{⊤}
use Rattle.std.specs.Global.{Global}
use Rattle.std.specs.Str.{bytes_eq}
use Rattle.std.specs.declared.io.Error.{Error}
use Rattle.symbols_ast.specs.declared.graph.raw.RawGraph.{RawGraph}
use Rattle.symbols_root.specs.declared.rules.Rules.{Rules}
use Rattle.symbols_root.specs.declared.rules.Rules.TheVariants.{Deno, Strict}
use Rattle.symq_reader.specs.declared.faults.FormatFault.{FormatFault}
use Rattle.symq_reader.specs.declared.faults.FormatFault.TheVariants as format
use Rattle.symq_reader.specs.GraphText.{read_outcome_of_bytes, raw_graph_view}
use Rattle.symq_core.specs.declared.exit_error.ExitError.{ExitError}
use Rattle.symq_core.specs.declared.exit_error.ExitError.TheVariants as exit

-- the rules and the path: one argument alone is always a path, and a second is allowed only after `--strict`
abbrev pub rules_and_path_of_first_two_args : List ℕ → Option (List ℕ) → Option (Rules × List ℕ)
rules_and_path_of_first_two_args first None = Some (Deno, first)
rules_and_path_of_first_two_args first (Some second) = if bytes_eq first (codes "--strict") then Some (Strict, second) else None

-- the same of all arguments, of which the first is the program's name
abbrev pub rules_and_path_of_args : List (List ℕ) → Option (Rules × List ℕ)
rules_and_path_of_args (program ∷ first ∷ []) = rules_and_path_of_first_two_args first None
rules_and_path_of_args (program ∷ first ∷ second ∷ []) = rules_and_path_of_first_two_args first (Some second)
rules_and_path_of_args _ = None

-- what a call that reads files returns for a path
abbrev pub FileReadOutcomes : Type 1
FileReadOutcomes = List ℕ → Result (Vec ℕ Global) Error → Type 0

-- the arguments name these rules and a file, and the graph is that of the bytes of this file
pub record AreRulesAndGraphOfArgs (reads : FileReadOutcomes) (args : List (List ℕ)) (rules : Rules) (graph : RawGraph) : Type 0 where
  pub path : List ℕ
  pub named : rules_and_path_of_args args ≡ Some (rules, path)
  pub bytes : Vec ℕ Global
  pub read : reads path (Ok bytes)
  pub is_graph_of_bytes : read_outcome_of_bytes bytes.items ≡ Ok (raw_graph_view graph)

-- the file that the arguments name can't be read
pub record IsNamedFileUnreadable (reads : FileReadOutcomes) (args : List (List ℕ)) : Type 0 where
  pub rules : Rules
  pub path : List ℕ
  pub named : rules_and_path_of_args args ≡ Some (rules, path)
  pub error : Error
  pub fails : reads path (Err error)

-- the bytes of this file are no graph
pub record IsFormatFaultOfNamedFile (reads : FileReadOutcomes) (args : List (List ℕ)) (fault : FormatFault) : Type 0 where
  pub rules : Rules
  pub path : List ℕ
  pub named : rules_and_path_of_args args ≡ Some (rules, path)
  pub bytes : Vec ℕ Global
  pub read : reads path (Ok bytes)
  pub no_graph : read_outcome_of_bytes bytes.items ≡ Err fault

-- why the arguments give no graph; a failed allocation is possible for any
abbrev pub IsArgsFault : FileReadOutcomes → List (List ℕ) → ExitError → Type 0
IsArgsFault reads args exit.Usage = rules_and_path_of_args args ≡ None
IsArgsFault reads args exit.NotRead = IsNamedFileUnreadable reads args
IsArgsFault reads args (exit.Format format.OutOfMemory) = ⊤
IsArgsFault reads args (exit.Format format.NotJson) = IsFormatFaultOfNamedFile reads args format.NotJson
IsArgsFault reads args (exit.Format format.BadForm) = IsFormatFaultOfNamedFile reads args format.BadForm
IsArgsFault reads args (exit.Graph _) = ⊥
IsArgsFault reads args (exit.Engine _) = ⊥

-- the errors for a file that can't be read
abbrev pub IsUnreadableFileOrOutOfMemory : ExitError → Type 0
IsUnreadableFileOrOutOfMemory exit.NotRead = ⊤
IsUnreadableFileOrOutOfMemory (exit.Format format.OutOfMemory) = ⊤
IsUnreadableFileOrOutOfMemory _ = ⊥
