-- A checked tree has no more symbols, and no more declarations, than nodes.
use Rattle.std.proofs.Common.{◌≡◌, ℕ, zero, suc, ◌<◌, ◌≤◌, Bool, true, false, ◌||◌, eqb, take, get_or, inl, inr, List, [], ◌∷◌}
use Rattle.std.proofs.Common.{length, Contains, Option, Some, None, option_map, refl, sym, ap, ◌∙◌, arith, eq-eqb, eqb-true}
use Rattle.std.specs.List.{list_any}
use Rattle.std.specs.Option.{option_map_or}
use Rattle.std.proofs.lemmas.Bool.{false≢true}
use Rattle.std.proofs.lemmas.Bool.Decides.{eqb_tells}
use Rattle.std.proofs.lemmas.List.{get_or_default}
use Rattle.std.proofs.lemmas.Map.Views.{Contains-from_any}
use Rattle.std.proofs.lemmas.Option.{slice_get_past, none-some}
use Rattle.symbols_ast.specs.declared.tree.arena.Node.{Node}
use Rattle.symbols_ast.specs.declared.tree.arena.Tree.{Tree}
use Rattle.symbols_ast.specs.declared.tree.kinds.Kind.{Kind}
use Rattle.symbols_ast.specs.declared.graph.faults.TreeFault.TheVariants.{SharedChild}
use Rattle.symbols_ast.specs.Nodes.{kind_at, children, child_numbers}
use Rattle.symbols_ast.specs.TreeFaults.{is_program, begins_with_program, IsFaultlessTree}
use Rattle.symbols_ast.specs.WellFormed.{IsWellFormedTree}
use Rattle.symbols_table.specs.TreeEvents.{tree_events}
use Rattle.symbols_table.specs.Analysis.{table_changes_from_tree, symbol_count}
use Rattle.symbols_table.specs.Symbols.{symbol_decls}
use Rattle.symbols_table.specs.Changes.{decls_after_changes}
use Rattle.symbols_table.specs.declared.decl.symbol.Symbol.{Symbol}
use Rattle.symbols_ast.specs.declared.ids.SymbolId.{SymbolId}
use Rattle.std.specs.Prelude.{slice_get}
use Rattle.symbols_table.specs.Laws.{AreBoundedByNodes}
use Rattle.symbols_table.proofs.Sums.{declaration_count}
use Rattle.symbols_table.proofs.CountsWeights.{weights, weights_zero, same, same_yes, same_no, here, there}
use Rattle.symbols_table.proofs.CountsWeights.{last_below, last_passes, last_found, weight, weight_few, weight_heavy}
use Rattle.symbols_table.proofs.CountsEvents.{count, few_by, symbols_by}
use Rattle.symbols_table.proofs.CountsItems.{light_tree}
use Rattle.symbols_table.proofs.CountsSound.{sound_by}
use Rattle.symbols_table.proofs.CountsDecls.{module_declarations}

-- ---- the parent of a node

any_where_contained : (xs : List ℕ) (c : ℕ) → Contains xs c → list_any (eqb c) xs ≡ true
any_where_contained [] c (k, inside, is) = absurd (omega (arith, inside))
any_where_contained (x ∷ xs) c (zero, inside, is) = rw (eq-eqb c x (sym is)) refl
any_where_contained (x ∷ xs) c (suc k, inside, is) = by (eqb c x) (any_where_contained xs c (k, omega (arith, inside), is))
  where
    by : (b : Bool) → list_any (eqb c) xs ≡ true → (b || list_any (eqb c) xs) ≡ true
    by true rest = refl
    by false rest = rest

-- The parent of node m: the node of a lower number that has m as a child, if any.
abbrev pub parent_of : List Node → ℕ → Option ℕ
parent_of nodes m = last_below (λ n. list_any (eqb m) (children nodes n)) m

pub parent_lower : (nodes : List Node) (m p : ℕ) → parent_of nodes m ≡ Some p → p < m
parent_lower nodes m p is = (last_passes (λ n. list_any (eqb m) (children nodes n)) m p is).0

pub parent_is : (nodes : List Node) (n c : ℕ) → IsWellFormedTree nodes → n < length nodes → Contains (children nodes n) c → (n < c)
    × (parent_of nodes c ≡ Some n)
parent_is nodes n c formed inside child =
    let test : ℕ → Bool = λ k. list_any (eqb c) (children nodes k) in
    let order = formed.ordered n c inside child in
    let found = last_found test c n order.0 (any_where_contained (children nodes n) c child) in
    let passes = last_passes test c found.0 found.1 in
    let one : found.0 ≡ n = formed.has_one_parent found.0 n c (omega (arith, passes.0, order.1)) inside (Contains-from_any (λ x y. eqb-true x y) c
    (children nodes found.0) passes.1) child in
    (order.0, found.1 ∙ ap Some one)

-- ---- a node occurs once among the children of its parent

once_where_apart : (xs : List ℕ) → ((i : ℕ) → i < length xs → Contains (take i xs) (get_or xs i 0) → ⊥) → (m : ℕ) → weights (λ c. same c m) xs ≤ 1
once_where_apart [] apart m = omega arith
once_where_apart (x ∷ xs) apart m = elim (eqb_tells x m) [
  | inl h ↦ omega (arith, same_yes x m h.1, weights_zero (λ c. same c m) xs (λ y k. same_no y m (λ is. again y k (is ∙ sym h.1))))
  | inr h ↦ omega (arith, same_no x m h.1, once_where_apart xs (λ i inside k. apart (suc i) (omega (arith, inside)) (there x (take i xs) (get_or xs i 0) k)) m)
]
  where
    again : (y : ℕ) → Contains xs y → y ≡ x → ⊥
    again y k is =
        let at : get_or xs k.0 0 ≡ x = get_or_default xs k.0 0 y k.1 ∙ k.2 ∙ is in
        apart (suc k.0) (omega (arith, k.1)) (rw at (here x (take k.0 xs)))

once : (text : List ℕ) (nodes : List Node) (n : ℕ) → IsFaultlessTree text nodes → (m : ℕ) → weights (λ c. same c m) (children nodes n) ≤ 1
once text nodes n none m = once_where_apart (children nodes n) (λ i inside k. none (SharedChild n) (i, inside, inr k)) m

-- ---- the weights of the nodes of a checked tree

children_are : (nodes : List Node) (n : ℕ) (kind : Kind) → kind_at nodes n ≡ Some kind → children nodes n ≡ child_numbers kind
unfolding children
children_are nodes n kind is = rw is refl

inside_where_kind : (nodes : List Node) (n : ℕ) (kind : Kind) → kind_at nodes n ≡ Some kind → n < length nodes
inside_where_kind nodes n kind is =
    let past : length nodes ≤ n → ⊥ = λ p. none-some kind (sym (ap (option_map (λ (node : Node). node.kind)) (slice_get_past nodes n p)) ∙ is) in
    omega arith

abbrev pub node_weight : List Node → ℕ → ℕ
node_weight nodes n = weight (parent_of nodes) (length nodes) n

pub node_weighs : (text : List ℕ) (nodes : List Node) → IsFaultlessTree text nodes → IsWellFormedTree nodes → (n : ℕ) (kind : Kind)
    → kind_at nodes n ≡ Some kind
    → suc (weights (node_weight nodes) (child_numbers kind)) ≤ node_weight nodes n
node_weighs text nodes none formed n kind is =
    let inside = inside_where_kind nodes n kind is in
    rw (← children_are nodes n kind is) (weight_heavy (parent_of nodes) (parent_lower nodes) (length nodes) n (children nodes n) inside
    (λ c child. parent_is nodes n c formed inside child) (once text nodes n none))

first_kind : (nodes : List Node) → begins_with_program nodes ≡ true → (kind : Kind) × (kind_at nodes 0 ≡ Some kind)
first_kind nodes is = by (kind_at nodes 0) refl
  where
    by : (o : Option Kind) → kind_at nodes 0 ≡ o → (kind : Kind) × (o ≡ Some kind)
    by None at = absurd (false≢true (sym (ap (λ (o : Option Kind). option_map_or is_program o false) at) ∙ is))
    by (Some kind) at = (kind, refl)

few_events : (tree : Tree) (text : List ℕ) → IsFaultlessTree text tree.nodes.items → IsWellFormedTree tree.nodes.items
    → count (tree_events tree) ≤ length tree.nodes.items
few_events tree text none formed =
    let nodes = tree.nodes.items in
    let first = first_kind nodes formed.begins in
    omega (
      arith,
      light_tree tree (node_weight nodes) (node_weighs text nodes none formed) first.0 first.1,
      weight_few (parent_of nodes) (parent_lower nodes) (length nodes) 0,
    )

-- A checked tree has no more symbols than nodes.
pub has_at_most_as_many_symbols : (tree : Tree) (text : List ℕ) → IsFaultlessTree text tree.nodes.items → IsWellFormedTree tree.nodes.items
    → symbol_count (table_changes_from_tree tree) ≤ length tree.nodes.items
has_at_most_as_many_symbols tree text none formed = omega (arith, symbols_by (tree_events tree), few_events tree text none formed)

-- A checked tree has no more declarations than nodes.
pub has_at_most_as_many_declarations : (tree : Tree) (text : List ℕ) → IsFaultlessTree text tree.nodes.items → IsWellFormedTree tree.nodes.items
    → declaration_count (table_changes_from_tree tree) ≤ length tree.nodes.items
has_at_most_as_many_declarations tree text none formed = omega (arith, (few_by (tree_events tree)).declarations, few_events tree text none formed)

-- A table with the symbols of the tree's changes has no more symbols and declarations than nodes.
pub are_few : (tree : Tree) (text : List ℕ) (symbols : List Symbol) → IsFaultlessTree text tree.nodes.items → IsWellFormedTree tree.nodes.items
    → length symbols ≡ symbol_count (table_changes_from_tree tree)
    → ((s : SymbolId) (symbol : Symbol) → slice_get symbols s.0 ≡ Some symbol → symbol_decls symbol ≡ decls_after_changes (table_changes_from_tree tree) s)
    → AreBoundedByNodes tree symbols
are_few tree text symbols none formed counted borrowed_symbol = record {
  has_at_most_as_many_symbols = omega (arith, counted, has_at_most_as_many_symbols tree text none formed);
  has_at_most_as_many_declarations = omega (
    arith,
    module_declarations symbols (table_changes_from_tree tree) counted borrowed_symbol (sound_by (tree_events tree)),
    has_at_most_as_many_declarations tree text none formed,
  );
}
