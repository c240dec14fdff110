-- A checked module has no more symbols than there are symbol numbers.
use Rattle.std.proofs.Common.{ℕ, ◌<◌, ◌≤◌, ◌^◌, inl, inr, List, length, arith}
use Rattle.std.proofs.lemmas.Bool.{cases_lt}
use Rattle.symbols_ast.specs.declared.graph.faults.TreeFault.TheVariants.{TooManyNodes}
use Rattle.symbols_ast.specs.declared.tree.arena.Tree.{Tree}
use Rattle.symbols_ast.specs.TreeFaults.{IsFaultlessTree}
use Rattle.symbols_ast.specs.WellFormed.{IsWellFormedTree}
use Rattle.symbols_table.specs.Analysis.{symbol_count, table_changes_from_tree_or_json}
use Rattle.symbols_table.specs.JsonEvents.{json_events}
use Rattle.symbols_table.specs.Modules.{parsed, json_text}
use Rattle.symbols_table.proofs.Counts.{has_at_most_as_many_symbols}
use Rattle.symbols_table.proofs.CountsEvents.{symbols_by}

few_nodes : (text : List ℕ) (tree : Tree) → IsFaultlessTree text tree.nodes.items → length tree.nodes.items < 2 ^ 32
few_nodes text tree none = elim (cases_lt (length tree.nodes.items) (2 ^ 32)) [
  | inl few ↦ few
  | inr many ↦ absurd (none TooManyNodes many)
]

pub few_parsed : (text : List ℕ) (tree : Tree) → IsFaultlessTree text tree.nodes.items → IsWellFormedTree tree.nodes.items
    → symbol_count (table_changes_from_tree_or_json (parsed text tree)) < 2 ^ 32
few_parsed text tree none formed = omega (arith, has_at_most_as_many_symbols tree text none formed, few_nodes text tree none)

pub few_json : (text : List ℕ) → symbol_count (table_changes_from_tree_or_json (json_text text)) ≤ 2
few_json text = symbols_by (json_events text)
