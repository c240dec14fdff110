-- A module that is put into a graph with its resolutions, and the faults for which it is refused.
use Rattle.std.specs.Prelude.{◌≡◌, ℕ, ◌≤◌, ◌^◌, Bool, not, if◌then◌else◌, List, [], ◌∷◌, ◌++◌, map, filter, length, string_bytes}
use Rattle.std.specs.Str.{bytes_eq}
use Rattle.symbols_ast.specs.declared.graph.faults.GraphFault.{GraphFault}
use Rattle.symbols_ast.specs.declared.graph.faults.GraphFault.TheVariants as fault
use Rattle.symbols_ast.specs.Graph.{GraphView, ModuleView, Resolution, resolved_dependency}
use Rattle.symbols_graph.specs.Repeats.{IsRepeatedEntryAt}
use Rattle.symbols_graph.specs.GraphFaults.{HasFirstTreeFault, IsFaultTriedBefore}

-- The modules with this one in place of the one of its specifier, or after all if there is none.
abbrev pub modules_with_put_module : ModuleView → List ModuleView → List ModuleView
modules_with_put_module m [] = m ∷ []
modules_with_put_module m (x ∷ xs) = if bytes_eq m.specifier x.specifier then m ∷ xs else x ∷ modules_with_put_module m xs

-- A specifier text in the referrer, with the specifier that it resolves to.
abbrev pub resolution_with_referrer : List ℕ → List ℕ × List ℕ → Resolution
resolution_with_referrer referrer resolved = record { referrer = referrer; specifier_text = resolved.0; specifier = resolved.1 }

abbrev pub is_resolution_of_other_referrer : List ℕ → Resolution → Bool
is_resolution_of_other_referrer referrer resolution = not (bytes_eq referrer resolution.referrer)

-- The graph with this module in place of the one of its specifier, and these resolutions in place of that module's.
abbrev pub graph_with_put_module : GraphView → ModuleView → List (List ℕ × List ℕ) → GraphView
graph_with_put_module graph m resolved = record {
  modules = modules_with_put_module m graph.modules;
  redirects = graph.redirects;
  resolutions = filter (is_resolution_of_other_referrer m.specifier) graph.resolutions ++ map (resolution_with_referrer m.specifier) resolved;
}

-- The condition of each fault of what is put, at entry i of its resolutions.
abbrev pub IsPutFaultAt : List ModuleView → ModuleView → List (List ℕ × List ℕ) → ℕ → GraphFault → Type 0
IsPutFaultAt modules m resolved i fault.OutOfMemory = ⊥
IsPutFaultAt modules m resolved i fault.TooManyModules = 2 ^ 32 ≤ length (modules_with_put_module m modules)
IsPutFaultAt modules m resolved i (fault.DuplicateSpecifier _) = ⊥
IsPutFaultAt modules m resolved i (fault.DuplicateRedirect _) = ⊥
IsPutFaultAt modules m resolved i (fault.RedirectToRedirect _) = ⊥
IsPutFaultAt modules m resolved i (fault.DuplicateResolution referrer specifier_text) =
    (m.specifier ≡ string_bytes referrer) × IsRepeatedEntryAt (map (λ r. r.0) resolved) i (string_bytes specifier_text)
IsPutFaultAt modules m resolved i (fault.Tree specifier found) = (m.specifier ≡ string_bytes specifier) × HasFirstTreeFault m.content found

-- The module and its resolutions have no fault among these modules.
abbrev pub IsFaultlessPut : List ModuleView → ModuleView → List (List ℕ × List ℕ) → Type 0
IsFaultlessPut modules m resolved = (i : ℕ) (f : GraphFault) → IsPutFaultAt modules m resolved i f → ⊥

-- The module and its resolutions have the fault, and none that is tried before it.
abbrev pub IsFirstPutFault : List ModuleView → ModuleView → List (List ℕ × List ℕ) → GraphFault → Type 0
IsFirstPutFault modules m resolved g =
    (j : ℕ) × IsPutFaultAt modules m resolved j g × ((i : ℕ) (f : GraphFault) → IsFaultTriedBefore i f j g → IsPutFaultAt modules m resolved i f → ⊥)

-- Both graphs have the same modules and redirects, and resolve each specifier text alike.
abbrev pub IsSameGraph : GraphView → GraphView → Type 0
IsSameGraph raw graph = (graph.modules ≡ raw.modules) × (graph.redirects ≡ raw.redirects)
    × ((referrer specifier_text : List ℕ) → resolved_dependency graph referrer specifier_text ≡ resolved_dependency raw referrer specifier_text)
