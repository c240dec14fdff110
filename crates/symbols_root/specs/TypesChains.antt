-- The module that a specifier resolves to. It depends on the graph alone, not on what is stored.
use Rattle.std.specs.Prelude.{◌≡◌, ℕ, zero, suc, ◌≤◌, Bool, List, [], ◌∷◌, ◌++◌, length, reverse, find, if◌then◌else◌, Option, Some, None, is_some}
use Rattle.std.specs.List.{IsDistinct}
use Rattle.std.specs.Option.{option_map, option_and_then}
use Rattle.std.specs.Str.{bytes_eq}
use Rattle.symbols_ast.specs.Graph.{GraphView, ModuleView, module_after_redirect, content_types_dependency}
use Rattle.symbols_graph.specs.GraphFaults.{module_specifiers}
use Rattle.symbols_table.specs.Modules.{analyzable_source}
use Rattle.symbols_root.specs.Specifiers.{contains_specifier}

-- the module has a source of symbols: it is an ECMAScript module with a tree, or a JSON module
abbrev pub is_analyzable : ModuleView → Bool
is_analyzable m = is_some (analyzable_source m.content)

-- the module that the types dependency of a module resolves to after one redirect, if it has one and the graph has that module
abbrev pub types_module : GraphView → ModuleView → Option ModuleView
types_module graph m = option_and_then (module_after_redirect graph) (content_types_dependency m.content)

-- the module of this specifier after one redirect has a types dependency
abbrev pub HasTypesDependency : GraphView → List ℕ → Type 0
HasTypesDependency graph specifier = (m : ModuleView) × (types : List ℕ) × (module_after_redirect graph specifier ≡ Some m)
    × (content_types_dependency m.content ≡ Some types)

-- the first of the modules is the one that was looked up, and each other is the types module of the one before
abbrev pub AreTypesModulesFrom : GraphView → Option ModuleView → List ModuleView → Type 0
AreTypesModulesFrom graph found [] = Unit {0}
AreTypesModulesFrom graph found (m ∷ rest) = (found ≡ Some m) × AreTypesModulesFrom graph (types_module graph m) rest

-- distinct modules: the first is that of the specifier after one redirect, each other the types module of the one before
pub record IsTypesDependencyPath (graph : GraphView) (specifier : List ℕ) (modules : List ModuleView) : Type 0 where
  pub in_order : AreTypesModulesFrom graph (module_after_redirect graph specifier) modules
  pub has_no_duplicates : IsDistinct bytes_eq (module_specifiers modules)

-- the types chain of a specifier: the longest such list
pub record IsTypesChain (graph : GraphView) (specifier : List ℕ) (chain : List ModuleView) : Type 0 where
  pub is_types_dependency_path : IsTypesDependencyPath graph specifier chain
  pub is_longest : (other : List ModuleView) → IsTypesDependencyPath graph specifier other → length other ≤ length chain

-- this list is the types chain, and no other is
pub record IsUniqueTypesChain (graph : GraphView) (specifier : List ℕ) (chain : List ModuleView) : Type 0 where
  pub is_chain : IsTypesChain graph specifier chain
  pub only : (other : List ModuleView) → IsTypesChain graph specifier other → other ≡ chain

-- the types chain, made step by step: the types modules from the found one on, after modules of these specifiers, up to the first that is
-- one of them. The number bounds the steps
unfoldable pub types_chain_from : GraphView → ℕ → List (List ℕ) → Option ModuleView → List ModuleView
types_chain_from graph zero before found = []
types_chain_from graph (suc n) before None = []
types_chain_from graph (suc n) before (Some m) =
    if contains_specifier before m.specifier then [] else m ∷ types_chain_from graph n (before ++ m.specifier ∷ []) (types_module graph m)

-- the types chain: `IsUniqueTypesChain` holds of it
abbrev pub types_chain : GraphView → List ℕ → List ModuleView
types_chain graph specifier = types_chain_from graph (length graph.modules) [] (module_after_redirect graph specifier)

-- the last module with symbols on the types chain
abbrev pub get_prefer_types : GraphView → List ℕ → Option ModuleView
get_prefer_types graph specifier = find is_analyzable (reverse (types_chain graph specifier))

-- that module's own specifier: the specifier resolves to this module, or to none
abbrev pub resolved_module_specifier : GraphView → List ℕ → Option (List ℕ)
resolved_module_specifier graph specifier = option_map (λ m. m.specifier) (get_prefer_types graph specifier)
