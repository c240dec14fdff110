-- The faults that single steps of the check of a put module report.
use Rattle.std.specs.Prelude.{⊤, ◌≡◌, ◌≢◌, ℕ, List, Some, map, string_bytes}
use Rattle.symbols_ast.specs.declared.graph.faults.GraphFault.{GraphFault}
use Rattle.symbols_ast.specs.declared.graph.faults.GraphFault.TheVariants as fault
use Rattle.symbols_ast.specs.Graph.{ModuleView}
use Rattle.symbols_graph.specs.GraphFaults.{HasFirstTreeFault}
use Rattle.symbols_graph.specs.PutModules.{IsFirstPutFault}
use Rattle.symbols_graph.specs.Repeats.{IsRepeatedEntryAt}
use Rattle.symbols_graph.specs.inner.CheckSteps.{IsFirstWhere}

-- The fault names the first repeated specifier text of this referrer; or an allocation failed.
abbrev pub IsFirstRepeatedText : List ℕ → List (List ℕ × List ℕ) → GraphFault → Type 0
IsFirstRepeatedText specifier resolved fault.OutOfMemory = ⊤
IsFirstRepeatedText specifier resolved (fault.DuplicateResolution referrer specifier_text) =
    (specifier ≡ string_bytes referrer) × IsFirstWhere (IsRepeatedEntryAt (map (λ r. r.0) resolved)) (Some (string_bytes specifier_text))
IsFirstRepeatedText specifier resolved _ = ⊥

-- The fault is that of the module's tree; or an allocation failed.
abbrev pub IsFaultOfModuleTree : ModuleView → GraphFault → Type 0
IsFaultOfModuleTree m fault.OutOfMemory = ⊤
IsFaultOfModuleTree m (fault.Tree specifier found) = (m.specifier ≡ string_bytes specifier) × HasFirstTreeFault m.content found
IsFaultOfModuleTree m _ = ⊥

-- The fault is the first one of what is put; or an allocation failed.
abbrev pub IsRefusedPut : List ModuleView → ModuleView → List (List ℕ × List ℕ) → GraphFault → Type 0
IsRefusedPut modules m resolved found = found ≢ fault.OutOfMemory → IsFirstPutFault modules m resolved found
