-- The table of a builder that has applied all events of a tree or of a JSON text.
use Rattle.std.proofs.Common.{◌≡◌, ℕ, ◌<◌, ◌≤◌, inl, inr, List, [], ◌∷◌, ◌++◌, length, None, Some, true, sym, ◌∙◌, ap, subst, refl, arith}
use Rattle.std.specs.Prelude.{Result, Ok, Err, IsErrAnd, IfErr}
use Rattle.std.specs.Option.{option_map}
use Rattle.std.proofs.lemmas.Option.{slice_get_cases, slice_get_past}
use Rattle.symbols_ast.specs.declared.tree.arena.Node.{Node}
use Rattle.symbols_ast.specs.declared.tree.arena.SourceRange.{SourceRange}
use Rattle.symbols_ast.specs.TreeFaults.{begins_with_program}
use Rattle.symbols_ast.specs.declared.ids.ModuleId.{ModuleId}
use Rattle.symbols_ast.specs.declared.ids.SymbolId.{SymbolId}
use Rattle.symbols_table.specs.declared.decl.symbol.Symbol.{Symbol}
use Rattle.symbols_ast.specs.Ids.{IdView}
use Rattle.symbols_table.specs.SymbolViews.{symbol_view, symbol_from_changes, symbol_after_changes, symbol_view_of_number}
use Rattle.symbols_ast.specs.declared.tree.arena.Tree.{Tree}
use Rattle.symbols_ast.specs.NodeRefs.{child_list_in_field}
use Rattle.symbols_ast.specs.Fields.{body_children_of}
use Rattle.symbols_nodes.specs.NodeViews.{program}
use Rattle.symbols_table.specs.declared.builder.table.ModuleBuilder.{ModuleBuilder}
use Rattle.symbols_table.specs.declared.builder.table.BuildFault.{BuildFault}
use Rattle.symbols_table.specs.declared.builder.table.BuildFault.TheVariants.{TooManySymbols}
use Rattle.symbols_table.specs.DeclViews.{Declaration, definition_of_node}
use Rattle.symbols_table.specs.Changes.{Change, adds_symbol, adds_decl, parents_after_changes, exports_after_changes, symbol_of_ident_after_changes}
use Rattle.symbols_table.specs.Changes.{export_stars_after_changes}
use Rattle.symbols_table.specs.Events.{DeclarationEvent, EventEffect, begins, default, effect_of_event, default_export_effect, changes_of_effects}
use Rattle.symbols_table.specs.Events.{symbol_of_event_at, effects_after_events, changes_of_events}
use Rattle.symbols_table.specs.JsonEvents.{json_decl}
use Rattle.symbols_table.specs.EventsByHolderAndStart.{range_or_empty}
use Rattle.symbols_table.specs.TreeEvents.{item_list_events, module_scope, program_node, program_decl}
use Rattle.symbols_table.specs.Symbols.{symbol_parent}
use Rattle.symbols_table.specs.inner.Symbols.{IsSymbolOfChanges}
use Rattle.symbols_table.specs.inner.Tables.{HasAppliedChanges}
use Rattle.symbols_table.specs.Analysis.{table_changes_from_tree, table_changes_from_json, symbol_count}
use Rattle.symbols_table.proofs.Rows.{changes_of_effects-push, effects_after_events-step, effects_after_events-nil}
use Rattle.symbols_table.proofs.Walks.{first_row, first_step, begun_read, begun_fault}

-- The events of the items in a tree's body.
abbrev pub root_events : Tree → List DeclarationEvent
root_events tree = item_list_events tree (module_scope tree) (child_list_in_field (program_node tree) body_children_of) 0 1

-- The changes of a tree are those of its module's row and of the events after it.
pub table_changes_from_tree-first : (tree : Tree)
    → table_changes_from_tree tree ≡ changes_of_effects (effects_after_events (first_row (program_decl tree) ∷ []) (root_events tree))
table_changes_from_tree-first tree = ap changes_of_effects (first_step (program_decl tree) (root_events tree))

-- The symbol of the module.
abbrev pub module_symbol : SymbolId
module_symbol = record { 0 = 0 }

pub module_index : (decl : Declaration) → symbol_of_event_at (first_row decl ∷ []) 0 ≡ Some module_symbol
unfolding symbol_of_event_at parents_after_changes
module_index decl = refl

-- The changes of the module's own event.
first_changes : (decl : Declaration) → changes_of_events (begins decl ∷ []) ≡ changes_of_effects (first_row decl ∷ [])
first_changes decl = ap changes_of_effects (first_step decl [] ∙ effects_after_events-nil (first_row decl ∷ []))

-- After its first symbol, a new builder has the table of the module's own event.
pub begun : (b0 b1 : ModuleBuilder) (decl : Declaration) (s : SymbolId) → b0.symbols.items ≡ [] → b0.ids.entries ≡ [] → b0.child_names.entries ≡ []
    → b0.member_names.entries ≡ [] → b0.stars.items ≡ [] → s.0 ≡ length b0.symbols.items
    → ((changes : List Change) → HasAppliedChanges b0 changes → HasAppliedChanges b1 ((changes ++ adds_symbol None ∷ []) ++ adds_decl s decl ∷ []))
    → HasAppliedChanges b1 (changes_of_events (begins decl ∷ []))
begun b0 b1 decl s no_symbols no_ids no_children no_members no_stars number made =
    let read = begun_read b0 b1 decl s no_symbols no_ids no_children no_members no_stars number made in
    rw (first_changes decl) read.0

pub begun_with : (b : ModuleBuilder) (decl known : Declaration) → decl ≡ known → HasAppliedChanges b (changes_of_events (begins decl ∷ []))
    → HasAppliedChanges b (changes_of_effects (first_row known ∷ []))
begun_with b decl known same is = subst (λ (d : Declaration). HasAppliedChanges b (changes_of_effects (first_row d ∷ []))) same (rw (← first_changes decl) is)

-- A declaration of the program node with its range is the module's declaration.
pub root_decl_is : (tree : Tree) (decl : Declaration) (range : SourceRange) → range_or_empty (program_node tree) ≡ range
    → decl ≡ definition_of_node (program (program_node tree)) range → decl ≡ program_decl tree
root_decl_is tree decl range same is = is ∙ ap (λ (r : SourceRange). definition_of_node (program (program_node tree)) r) (sym same)

-- The changes of a body's events, after the module's event.
abbrev pub body_changes : Tree → List ℕ → List Change
body_changes tree body = changes_of_effects (effects_after_events (first_row (program_decl tree) ∷ []) (item_list_events tree (module_scope tree) body 0 1))

-- A builder that has applied the events of the body has the table of the tree.
pub tree_read : (tree : Tree) (body : List ℕ) (b : ModuleBuilder) → body ≡ child_list_in_field (program_node tree) body_children_of
    → HasAppliedChanges b (body_changes tree body)
    → HasAppliedChanges b (table_changes_from_tree tree)
tree_read tree body b same is =
    subst (HasAppliedChanges b) (sym (table_changes_from_tree-first tree)) (subst (λ (items : List ℕ). HasAppliedChanges b (body_changes tree items)) same is)

-- If the body needs more symbols than the limit, the tree does.
pub tree_full : (tree : Tree) (body : List ℕ) (limit : ℕ) → body ≡ child_list_in_field (program_node tree) body_children_of
    → limit < length (parents_after_changes (body_changes tree body))
    → limit < symbol_count (table_changes_from_tree tree)
tree_full tree body limit same many = rw (table_changes_from_tree-first tree)
    (subst (λ (items : List ℕ). limit < length (parents_after_changes (body_changes tree items))) same many)

-- The view of a symbol is the one that the changes give.
symbol_shown : (module_id : ModuleId) (changes : List Change) (s : SymbolId) (symbol : Symbol) → IsSymbolOfChanges module_id changes s symbol
    → Some (symbol_view symbol) ≡ symbol_after_changes changes s
symbol_shown module_id changes s symbol is =
    let view : symbol_view symbol ≡ symbol_from_changes changes s (symbol_parent symbol) = rw (is.number, is.decls, is.exports, is.children, is.members) refl in
    ap Some view ∙ sym (ap (option_map (symbol_from_changes changes s)) is.parent)

-- The symbol of each number in the builder is the one that the changes give.
pub shown : (b : ModuleBuilder) (changes : List Change) → HasAppliedChanges b changes → (s : SymbolId)
    → symbol_view_of_number b.symbols.items s ≡ symbol_after_changes changes s
shown b changes is s = elim (slice_get_cases b.symbols.items s.0).1 [
  | inl (symbol, below, at, read) ↦ ap (option_map symbol_view) at
      ∙ symbol_shown b.setting.module_id changes s symbol (subst (IsSymbolOfChanges b.setting.module_id changes s) read (is.symbols s symbol below))
  | inr (past, none) ↦
      ap (option_map symbol_view) none ∙ sym (ap (option_map (symbol_from_changes changes s))
      (slice_get_past (parents_after_changes changes) s.0 (omega (arith, past, is.count))))
]

pub is_within : (b : ModuleBuilder) (changes : List Change) (limit : ℕ) → b.setting.limit ≡ limit → HasAppliedChanges b changes → symbol_count changes ≤ limit
is_within b changes limit e is = omega (arith, e, is.count, is.few)

-- With limit 0 not even the module's symbol fits.
pub tree_none_fits : (tree : Tree) (limit : ℕ) → limit ≡ 0 → limit < symbol_count (table_changes_from_tree tree)
tree_none_fits tree limit none = begun_fault (program_decl tree) (root_events tree) limit 0 refl (omega (arith, none))

-- The row of a JSON text's default export, after the module's row.
abbrev default_export : List ℕ → Declaration → EventEffect
default_export text decl = default_export_effect (changes_of_effects (first_row (json_decl text) ∷ [])) module_symbol decl

table_changes_from_json-first : (text : List ℕ) → table_changes_from_json text ≡ changes_of_effects (first_row (json_decl text) ∷ [])
    ++ (default_export text (json_decl text)).changes
table_changes_from_json-first text =
    let decl = json_decl text in
    let rows : List EventEffect = first_row decl ∷ [] in
    let row = default_export text decl in
    let read : effect_of_event (changes_of_effects rows) (symbol_of_event_at rows) (default 0 decl) ≡ row = rw (module_index decl) refl in
    ap changes_of_effects (first_step decl (default 0 decl ∷ []) ∙ effects_after_events-step rows (default 0 decl) [] row read
    ∙ effects_after_events-nil (rows ++ row ∷ []))
    ∙ changes_of_effects-push rows row

-- A builder that has applied both events has the table of the JSON text.
pub json_read : (text : List ℕ) (decl : Declaration) (b : ModuleBuilder) → decl ≡ json_decl text
    → HasAppliedChanges b (changes_of_effects (first_row (json_decl text) ∷ []) ++ (default_export text decl).changes)
    → HasAppliedChanges b (table_changes_from_json text)
json_read text decl b same is = rw (table_changes_from_json-first text)
    (subst (λ (d : Declaration). HasAppliedChanges b (changes_of_effects (first_row (json_decl text) ∷ []) ++ (default_export text d).changes)) same is)

-- If the default export needs more symbols than the limit, the JSON text does.
pub json_full : (text : List ℕ) (decl : Declaration) (limit : ℕ) → decl ≡ json_decl text → limit
    < length (parents_after_changes (changes_of_effects (first_row (json_decl text) ∷ []) ++ (default_export text decl).changes))
    → limit < symbol_count (table_changes_from_json text)
json_full text decl limit same over =
    rw (table_changes_from_json-first text) (subst (λ (d : Declaration). limit
    < length (parents_after_changes (changes_of_effects (first_row (json_decl text) ∷ []) ++ (default_export text d).changes))) same over)

pub json_none_fits : (text : List ℕ) (limit : ℕ) → limit ≡ 0 → limit < symbol_count (table_changes_from_json text)
json_none_fits text limit none = begun_fault (json_decl text) (default 0 (json_decl text) ∷ []) limit 0 refl (omega (arith, none))

-- A JSON text binds no identifier and has no `export *`.
pub json_maps_none : (text : List ℕ) (id : IdView) → None ≡ symbol_of_ident_after_changes (table_changes_from_json text) id
unfolding changes_of_effects symbol_of_event_at effects_after_events exports_after_changes parents_after_changes symbol_of_ident_after_changes
json_maps_none text id = refl

pub json_has_no_star : (text : List ℕ) → [] ≡ export_stars_after_changes (table_changes_from_json text)
unfolding changes_of_effects symbol_of_event_at effects_after_events exports_after_changes parents_after_changes export_stars_after_changes
json_has_no_star text = refl

pub err_if : {A P : Type 0} (r : Result A BuildFault) (fault : BuildFault) → IsErrAnd r (λ e. e ≡ fault) → (fault ≡ TooManySymbols → P)
    → IfErr r (λ e. e ≡ TooManySymbols → P)
err_if (Ok x) fault h p = tt
err_if (Err e) fault h p = λ is. p (sym h ∙ is)

-- A tree that begins with a program has a node.
pub has_root : (nodes : List Node) → begins_with_program nodes ≡ true → 0 < length nodes
has_root [] first = absurd (let e : ⊥ = cc in e)
has_root (node ∷ nodes) first = omega arith
