-- The events of items and namespaces, level by level.
use Rattle.std.proofs.Common.{◌≡◌, ℕ, suc, zero, ◌+◌, ◌<◌, ◌≤◌, ◌||◌, Bool, List, [], ◌∷◌, ◌++◌}
use Rattle.std.proofs.Common.{get_or, length, Option, None, Some, refl, sym, ◌∙◌, ap, subst, arith}
use Rattle.std.specs.Prelude.{Result, Ok, Err, IsErrAnd, Contains}
use Rattle.std.specs.Option.{option_map_or, option_and_then, option_to_list}
use Rattle.std.proofs.lemmas.List.{length_push, get_or_default}
use Rattle.std.proofs.lemmas.List.Elements.{Contains-append_left, Contains-append_right}
use Rattle.std.proofs.lemmas.Bool.{lt-ltb}
use Rattle.symbols_ast.specs.declared.tree.arena.Id.{Id}
use Rattle.symbols_ast.specs.declared.tree.arena.Tree.{Tree}
use Rattle.symbols_ast.specs.declared.tree.kinds.Kind.{Kind}
use Rattle.symbols_ast.specs.declared.tree.kinds.Item.TheVariants as Item
use Rattle.symbols_ast.specs.declared.tree.kinds.Decl.TheVariants as Decl
use Rattle.symbols_ast.specs.declared.tree.kinds.Member.TheVariants as Member
use Rattle.symbols_ast.specs.declared.tree.kinds.Expr.TheVariants as Expr
use Rattle.symbols_ast.specs.declared.ids.SymbolId.{SymbolId}
use Rattle.symbols_ast.specs.Nodes.{children, child_numbers}
use Rattle.symbols_ast.specs.NodeRefs.{TreeNode, kind_of, node_in, child_in_field, child_list_in_field}
use Rattle.symbols_ast.specs.Fields.{body_children_of, body_child_of, decl_child_of, id_child_of}
use Rattle.symbols_ast.specs.WellFormed.{IsWellFormedTree}
use Rattle.symbols_ast.specs.Ids.{IdView, id_view}
use Rattle.symbols_nodes.specs.NodeViews.{ts_namespace, exported_ts_module}
use Rattle.symbols_table.specs.declared.builder.scope.Scope.{Scope}
use Rattle.symbols_table.specs.declared.builder.table.ModuleBuilder.{ModuleBuilder}
use Rattle.symbols_table.specs.declared.builder.table.BuildFault.{BuildFault}
use Rattle.symbols_table.specs.declared.builder.table.BuildFault.TheVariants.{TooManySymbols}
use Rattle.symbols_table.specs.DeclViews.{Declaration, definition_of_node}
use Rattle.symbols_table.specs.Changes.{Change, exports, adds_child, parents_after_changes}
use Rattle.symbols_table.specs.Events.{DeclarationEvent, EventEffect, effect_of_changes, declare, export, child, declare_effect, effect_of_event}
use Rattle.symbols_table.specs.Events.{changes_of_effects, symbol_of_event_at, effects_after_events}
use Rattle.symbols_table.specs.EventsByHolderAndStart.{EventsByHolderAndStart, no_events_by_holder_and_start, events_if_some, range_or_empty, id_of_ident_child}
use Rattle.symbols_table.specs.DeclarationEvents.{maybe_exported_node, export_or_decl_range, is_exported, child_and_export_events, declare_and_add_events}
use Rattle.symbols_table.specs.TreeEvents.{is_ambient_namespace, namespace_body_events, Namespace, as_namespace, exported_namespace, namespace_of}
use Rattle.symbols_table.specs.TreeEvents.{ItemListEvents, namespace_name_part_events, namespace_body_events_of_kind}
use Rattle.symbols_table.specs.TreeEvents.{namespace_body_events_within_levels, namespace_events, non_namespace_item_events, namespace_events_or, item_events}
use Rattle.symbols_table.specs.TreeEvents.{item_events_within_levels, item_list_events_within_levels, namespace_part_decl_events}
use Rattle.symbols_table.specs.inner.Levels.{AreGreaterNodeNumbers, AppliesEventsAndReturnsSymbolOfFirst}
use Rattle.symbols_table.specs.inner.Tables.{HasAppliedChanges, AppliesEffects, AppliesEventsUnderHolder}
use Rattle.symbols_table.proofs.Rows.{effects_after_events-step, effects_after_events-nil, effects_after_events-append, length-effects_after_events}
use Rattle.symbols_table.proofs.Rows.{symbol_at_retained, symbol_of_event_at-push, symbol_at_after, parents_after_grow}
use Rattle.symbols_table.proofs.Walks.{one_read, none_read, reads_from, err_all, on_none, on_some, on_reads, read_as}
use Rattle.symbols_table.proofs.PatternLemmas.{IsFound, is_found, is_greater}

-- ---- a later part of a dotted name

-- The events of a later part of a dotted name, with any declaration.
abbrev part_declares : Id → Declaration → ℕ → ℕ → List DeclarationEvent
part_declares id decl h start = declare h (id_view id) decl ∷ export h (id_view id).name start ∷ child h start ∷ []

abbrev IsPartRead : ModuleBuilder → SymbolId → List EventEffect → List DeclarationEvent → Type 0
IsPartRead b s rows events = HasAppliedChanges b (changes_of_effects (effects_after_events rows events))
    × (symbol_of_event_at (effects_after_events rows events) (length rows) ≡ Some s)

pub part_read : (whole node : TreeNode) (id : Id) (decl : Declaration) (rows : List EventEffect) (h : ℕ) (holder s : SymbolId) (b1 b2 b3 : ModuleBuilder)
    → decl ≡ definition_of_node (ts_namespace whole) (range_or_empty node) → symbol_of_event_at rows h ≡ Some holder
    → ((declare_effect (changes_of_effects rows) holder (id_view id) decl).symbol ≡ Some s)
    × HasAppliedChanges b1 (changes_of_effects rows ++ (declare_effect (changes_of_effects rows) holder (id_view id) decl).changes)
    → ((changes : List Change) → HasAppliedChanges b1 changes → HasAppliedChanges b2 (changes ++ exports holder (id_view id).name s ∷ []))
    → ((changes : List Change) → HasAppliedChanges b2 changes → HasAppliedChanges b3 (changes ++ adds_child holder s ∷ []))
    → IsPartRead b3 s rows (namespace_part_decl_events whole node id h (length rows))
part_read whole node id decl rows h holder s b1 b2 b3 is at read exported added =
    let name = (id_view id).name in
    let row1 = declare_effect (changes_of_effects rows) holder (id_view id) decl in
    let rows1 = rows ++ row1 ∷ [] in
    let row2 = effect_of_changes (exports holder name s ∷ []) in
    let rows2 = rows1 ++ row2 ∷ [] in
    let row3 = effect_of_changes (adds_child holder s ∷ []) in
    let rows3 = rows2 ++ row3 ∷ [] in
    let at1 : symbol_of_event_at rows1 h ≡ Some holder = symbol_at_retained rows row1 h holder at in
    let of1 : symbol_of_event_at rows1 (length rows) ≡ Some s = symbol_of_event_at-push rows row1 ∙ read.0 in
    let at2 : symbol_of_event_at rows2 h ≡ Some holder = symbol_at_retained rows1 row2 h holder at1 in
    let of2 : symbol_of_event_at rows2 (length rows) ≡ Some s = symbol_at_retained rows1 row2 (length rows) s of1 in
    let first : effect_of_event (changes_of_effects rows) (symbol_of_event_at rows) (declare h (id_view id) decl) ≡ row1 = rw at refl in
    let second : effect_of_event (changes_of_effects rows1) (symbol_of_event_at rows1) (export h name (length rows)) ≡ row2 = rw (at1, of1) refl in
    let third : effect_of_event (changes_of_effects rows2) (symbol_of_event_at rows2) (child h (length rows)) ≡ row3 = rw (at2, of2) refl in
    let last : List DeclarationEvent = child h (length rows) ∷ [] in
    let all : effects_after_events rows (part_declares id decl h (length rows)) ≡ rows3 =
    effects_after_events-step rows (declare h (id_view id) decl) (export h name (length rows) ∷ last) row1 first
    ∙ effects_after_events-step rows1 (export h name
    (length rows)) last row2 second ∙ effects_after_events-step rows2 (child h (length rows)) [] row3 third ∙ effects_after_events-nil rows3 in
    let table : HasAppliedChanges b3 (changes_of_effects rows3) =
    one_read b3 rows2 row3 (added (changes_of_effects rows2) (one_read b2 rows1 row2 (exported (changes_of_effects rows1) (one_read b1 rows row1 read.1)))) in
    let there : HasAppliedChanges b3 (changes_of_effects rows3) × (symbol_of_event_at rows3 (length rows) ≡ Some s) =
    (table, symbol_at_retained rows2 row3 (length rows) s of2) in
    let read3 : IsPartRead b3 s rows (part_declares id decl h (length rows)) =
    subst (λ (rs : List EventEffect). HasAppliedChanges b3 (changes_of_effects rs) × (symbol_of_event_at rs (length rows) ≡ Some s)) (sym all) there in
    subst (λ (d : Declaration). IsPartRead b3 s rows (part_declares id d h (length rows))) is read3

pub part_fault : (r : Result SymbolId BuildFault) (whole node : TreeNode) (id : Id) (decl : Declaration) (rows : List EventEffect) (h : ℕ) (holder : SymbolId)
    (limit : ℕ) (new : ModuleBuilder) (fault : BuildFault) → decl ≡ definition_of_node (ts_namespace whole) (range_or_empty node)
    → symbol_of_event_at rows h ≡ Some holder
    → IsErrAnd r (λ e. e ≡ fault) → (fault ≡ TooManySymbols → limit < length (parents_after_changes (changes_of_effects rows
    ++ (declare_effect (changes_of_effects rows) holder (id_view id) decl).changes)))
    → AppliesEventsAndReturnsSymbolOfFirst r limit new rows (namespace_part_decl_events whole node id h (length rows))
part_fault (Ok x) whole node id decl rows h holder limit new fault is at same read = absurd same
part_fault (Err e) whole node id decl rows h holder limit new fault is at same read =
    let first : effect_of_event (changes_of_effects rows) (symbol_of_event_at rows) (declare h (id_view id) decl) ≡ declare_effect (changes_of_effects rows)
    holder (id_view id) decl = rw at refl in
    let r : Result SymbolId BuildFault = Err e in
    let all = err_all r limit new rows (declare h (id_view id) decl) (declare_effect (changes_of_effects rows) holder (id_view id) decl)
    (export h (id_view id).name (length rows) ∷ child h (length rows) ∷ []) fault first same read in
    subst (λ (d : Declaration). e ≡ TooManySymbols
    → limit < length (parents_after_changes (changes_of_effects (effects_after_events rows (part_declares id d h (length rows)))))) is all

-- A call that goes on inside the part applies the part's events.
pub later_read : {A : Type 0} (r : Result A BuildFault) (whole node : TreeNode) (id : Id) (inner : EventsByHolderAndStart) (rows : List EventEffect) (h : ℕ)
    (s : SymbolId)
    (limit : ℕ) (b1 b2 : ModuleBuilder) → b1.setting.limit ≡ limit → IsPartRead b1 s rows (namespace_part_decl_events whole node id h (length rows))
    → AppliesEventsUnderHolder r b1 b2 inner s
    → AppliesEffects r limit b2 (effects_after_events rows (namespace_name_part_events whole node inner id h (length rows)))
later_read r whole node id inner rows h s limit b1 b2 same read reads =
    let first = namespace_part_decl_events whole node id h (length rows) in
    let rows1 = effects_after_events rows first in
    let count : length rows1 ≡ length rows + 3 = length-effects_after_events rows first in
    let all : effects_after_events rows (first ++ inner (length rows) (length rows + 3)) ≡ effects_after_events rows1 (inner (length rows) (length rows1)) =
    rw count (effects_after_events-append rows first (inner (length rows) (length rows + 3))) in
    reads_from r limit b1.setting.limit b2 (effects_after_events rows (namespace_name_part_events whole node inner id h (length rows)))
    (effects_after_events rows1 (inner (length rows) (length rows1))) same all (reads rows1 (length rows) read.0 read.1)

pub later_fault : {A : Type 0} (r : Result A BuildFault) (whole node : TreeNode) (id : Id) (inner : EventsByHolderAndStart) (rows : List
    EventEffect) (h : ℕ) (limit : ℕ) (new : ModuleBuilder) (fault : BuildFault) → IsErrAnd r (λ e. e ≡ fault)
    → (fault ≡ TooManySymbols
    → limit < length (parents_after_changes (changes_of_effects (effects_after_events rows (namespace_part_decl_events whole node id h (length rows))))))
    → AppliesEffects r limit new (effects_after_events rows (namespace_name_part_events whole node inner id h (length rows)))
later_fault (Ok x) whole node id inner rows h limit new fault same read = absurd same
later_fault (Err e) whole node id inner rows h limit new fault same read = λ many.
    let first = namespace_part_decl_events whole node id h (length rows) in
    let rest = inner (length rows) (length rows + 3) in
    let here : limit < length (parents_after_changes (changes_of_effects (effects_after_events rows first))) = read (sym same ∙ many) in
    let there : limit < length (parents_after_changes (changes_of_effects (effects_after_events rows (first ++ rest)))) =
    rw (effects_after_events-append rows first rest) (omega (arith, here, parents_after_grow (effects_after_events rows first) rest)) in
    there

-- ---- declaring an identifier with its inner declarations

-- The rows after the identifier was declared.
abbrev declared_rows : List EventEffect → SymbolId → IdView → Declaration → List EventEffect
declared_rows rows holder id decl = rows ++ declare_effect (changes_of_effects rows) holder id decl ∷ []

declared_split : (test : Bool) (id : IdView) (decl : Declaration) (inner : EventsByHolderAndStart) (rows : List EventEffect) (h : ℕ) (holder : SymbolId)
    → symbol_of_event_at rows h ≡ Some holder → effects_after_events rows (declare_and_add_events test id decl inner h (length rows))
    ≡ effects_after_events (effects_after_events (declared_rows rows holder id decl) (inner (length rows) (length (declared_rows rows holder id decl))))
    (child_and_export_events test h
    id.name (length rows))
declared_split test id decl inner rows h holder at =
    let row = declare_effect (changes_of_effects rows) holder id decl in
    let first : effect_of_event (changes_of_effects rows) (symbol_of_event_at rows) (declare h id decl) ≡ row = rw at refl in
    let events = inner (length rows) (length rows + 1) in
    effects_after_events-step rows (declare h id decl) (events ++ child_and_export_events test h id.name (length rows)) row first
    ∙ effects_after_events-append (rows ++ row ∷ []) events (child_and_export_events test h id.name (length rows))
    ∙ ap (λ (start : ℕ). effects_after_events (effects_after_events (rows ++ row ∷ []) (inner (length rows) start))
    (child_and_export_events test h id.name (length rows))) (sym
    (length_push rows row))

-- A fault at the declaration itself.
pub declared_fault : {A : Type 0} (r : Result A BuildFault) (test : Bool) (id : IdView) (decl : Declaration) (inner : EventsByHolderAndStart) (rows : List
    EventEffect) (h : ℕ) (holder : SymbolId) (limit : ℕ) (new : ModuleBuilder) (fault : BuildFault) → symbol_of_event_at rows h ≡ Some holder
    → IsErrAnd r (λ e. e ≡ fault)
    → (fault ≡ TooManySymbols → limit < length (parents_after_changes
    (changes_of_effects rows ++ (declare_effect (changes_of_effects rows) holder id decl).changes)))
    → AppliesEffects r limit new (effects_after_events rows (declare_and_add_events test id decl inner h (length rows)))
declared_fault r test id decl inner rows h holder limit new fault at same read =
    let first : effect_of_event (changes_of_effects rows) (symbol_of_event_at rows) (declare h id decl) ≡ declare_effect (changes_of_effects rows) holder id
    decl = rw at refl in
    err_all r limit new rows (declare h id decl) (declare_effect (changes_of_effects rows) holder id decl)
    (inner (length rows) (length rows + 1) ++ child_and_export_events test h id.name (length rows)) fault first same read

-- A fault at an event under the declaration.
pub declared_inner_fault : (A : Type 0) {B : Type 0} (r : Result B BuildFault) (test : Bool) (id : IdView) (decl : Declaration) (inner : EventsByHolderAndStart)
    (rows : List EventEffect) (h : ℕ) (holder s : SymbolId) (limit : ℕ) (b1 b2 new : ModuleBuilder) (fault : BuildFault) → b1.setting.limit ≡ limit
    → symbol_of_event_at rows h ≡ Some holder
    → ((declare_effect (changes_of_effects rows) holder id decl).symbol ≡ Some s) × HasAppliedChanges b1 (changes_of_effects rows
    ++ (declare_effect (changes_of_effects rows) holder id decl).changes) → IsErrAnd r (λ e. e ≡ fault)
    → AppliesEventsUnderHolder {A = A} (Err fault) b1 b2 inner s
    → AppliesEffects r limit new (effects_after_events rows (declare_and_add_events test id decl inner h (length rows)))
declared_inner_fault A (Ok x) test id decl inner rows h holder s limit b1 b2 new fault setting at read same reads = absurd same
declared_inner_fault A (Err e) test id decl inner rows h holder s limit b1 b2 new fault setting at read same reads = λ many.
    let row = declare_effect (changes_of_effects rows) holder id decl in
    let rows1 = declared_rows rows holder id decl in
    let under = effects_after_events rows1 (inner (length rows) (length rows1)) in
    let of : symbol_of_event_at rows1 (length rows) ≡ Some s = symbol_of_event_at-push rows row ∙ read.0 in
    let here : b1.setting.limit < length (parents_after_changes (changes_of_effects under)) =
    reads rows1 (length rows) (one_read b1 rows row read.1) of (sym same ∙ many) in
    rw (declared_split test id decl inner rows h holder at)
    (omega (arith, here, setting, parents_after_grow under (child_and_export_events test h id.name (length rows))))

-- The declaration and its inner events are applied, and then the symbol is added to its holder.
pub declared_read : {A : Type 0} (r : Result A BuildFault) (test : Bool) (id : IdView) (decl : Declaration) (inner : EventsByHolderAndStart) (rows : List
    EventEffect) (h : ℕ) (holder s : SymbolId) (limit : ℕ) (b1 b2 b3 : ModuleBuilder) → b2.setting.limit ≡ limit → symbol_of_event_at rows h ≡ Some holder
    → ((declare_effect (changes_of_effects rows) holder id decl).symbol ≡ Some s)
    × HasAppliedChanges b1 (changes_of_effects rows ++ (declare_effect (changes_of_effects rows) holder id decl).changes)
    → ((rs : List EventEffect) (h' : ℕ) → HasAppliedChanges b1 (changes_of_effects rs) → symbol_of_event_at rs h' ≡ Some s
    → HasAppliedChanges b2 (changes_of_effects (effects_after_events rs (inner h' (length rs)))))
    → ((rs : List EventEffect) (h' s' : ℕ) → HasAppliedChanges b2 (changes_of_effects rs) → symbol_of_event_at rs h' ≡ Some holder
    → symbol_of_event_at rs s' ≡ Some s
    → AppliesEffects r b2.setting.limit b3 (effects_after_events rs (child_and_export_events test h' id.name s')))
    → AppliesEffects r limit b3 (effects_after_events rows (declare_and_add_events test id decl inner h (length rows)))
declared_read r test id decl inner rows h holder s limit b1 b2 b3 setting at read reads put =
    let row = declare_effect (changes_of_effects rows) holder id decl in
    let rows1 = declared_rows rows holder id decl in
    let events = inner (length rows) (length rows1) in
    let under = effects_after_events rows1 events in
    let of : symbol_of_event_at rows1 (length rows) ≡ Some s = symbol_of_event_at-push rows row ∙ read.0 in
    let at1 : symbol_of_event_at rows1 h ≡ Some holder = symbol_at_retained rows row h holder at in
    let table : HasAppliedChanges b2 (changes_of_effects under) = reads rows1 (length rows) (one_read b1 rows row read.1) of in
    reads_from r limit b2.setting.limit b3 (effects_after_events rows (declare_and_add_events test id decl inner h (length rows)))
    (effects_after_events under (child_and_export_events test h id.name (length rows))) setting (declared_split test id decl inner rows h holder at)
    (put under h (length rows) table (symbol_at_after rows1 events h holder at1) (symbol_at_after rows1 events (length rows) s of))

-- ---- children

-- The found node is a child: it has a greater number than its parent, in the same tree.
pub record IsChild (node found : TreeNode) : Type 0 where
  pub same_tree : found.tree ≡ node.tree
  pub greater : node.number < found.number
  pub inside : found.number < length node.tree.nodes.items

-- A child has a greater number than its parent, and is in the tree.
is_child : (node : TreeNode) (kind : Kind) (c : ℕ) → IsWellFormedTree node.tree.nodes.items → node.number < length node.tree.nodes.items
    → kind_of node ≡ Some kind
    → Contains (child_numbers kind) c → (node.number < c) × (c < length node.tree.nodes.items)
unfolding children
is_child node kind c formed inside is holds =
    let here : Contains (children node.tree.nodes.items node.number) c = rw is holds in
    formed.ordered node.number c inside here

child_at : (node found : TreeNode) (kind : Kind) (o : Option ℕ) → IsWellFormedTree node.tree.nodes.items → node.number < length node.tree.nodes.items
    → kind_of node ≡ Some kind → ((n : ℕ) → o ≡ Some n → Contains (child_numbers kind) n) → Some found ≡ node_in node.tree o → IsChild node found
child_at node found kind None formed inside is holds e = absurd (let f : ⊥ = cc in f)
child_at node found kind (Some n) formed inside is holds e =
    let at = is_found node.tree n found e in
    let greater : node.number < n = is_greater node kind n formed inside is (holds n refl) in
    record { same_tree = at.same_tree; greater = rw at.number_is greater; inside = rw at.number_is at.inside }

child_of_kind : (node found : TreeNode) (field : Kind → Option ℕ) (kinds : Option Kind) → kind_of node ≡ kinds → IsWellFormedTree node.tree.nodes.items
    → node.number < length node.tree.nodes.items → ((kind : Kind) (n : ℕ) → field kind ≡ Some n → Contains (child_numbers kind) n)
    → Some found ≡ node_in node.tree (option_and_then field kinds) → IsChild node found
child_of_kind node found field None is formed inside holds e = absurd (let f : ⊥ = cc in f)
child_of_kind node found field (Some kind) is formed inside holds e = child_at node found kind (field kind) formed inside is (holds kind) e

pub child_found : (node found : TreeNode) (field : Kind → Option ℕ) → IsWellFormedTree node.tree.nodes.items → node.number < length node.tree.nodes.items
    → ((kind : Kind) (n : ℕ) → field kind ≡ Some n → Contains (child_numbers kind) n) → Some found ≡ child_in_field node field → IsChild node found
child_found node found field formed inside holds e = child_of_kind node found field (kind_of node) refl formed inside holds e

one_has : (n m : ℕ) → Some m ≡ Some n → Contains (m ∷ []) n
one_has n m e = let same : m ≡ n = cc in (0, omega arith, same)

optional_has : (n : ℕ) (o : Option ℕ) → o ≡ Some n → Contains (option_to_list o ++ []) n
optional_has n None e = absurd (let f : ⊥ = cc in f)
optional_has n (Some m) e = one_has n m e

pub bodies_are_children : (kind : Kind) (n : ℕ) → body_child_of kind ≡ Some n → Contains (child_numbers kind) n
bodies_are_children (Kind.Decl (Decl.Function type_params params return_type body)) n e =
    Contains-append_right (option_to_list type_params) (params.items ++ (option_to_list return_type ++ (option_to_list body ++ []))) n
    (Contains-append_right params.items (option_to_list return_type ++ (option_to_list body ++ [])) n
    (Contains-append_right (option_to_list return_type) (option_to_list body ++ []) n (optional_has n body e)))
bodies_are_children (Kind.Decl (Decl.TsModuleDecl id is_declared body)) n e =
    Contains-append_right (id ∷ []) (option_to_list body ++ []) n (optional_has n body e)
bodies_are_children (Kind.Decl (Decl.TsNamespaceDecl id body)) n e = Contains-append_right (id ∷ []) (body ∷ []) n (one_has n body e)
bodies_are_children (Kind.Member (Member.Constructor params body is_private)) n e =
    Contains-append_right params.items (option_to_list body ++ []) n (optional_has n body e)
bodies_are_children (Kind.Expr (Expr.Arrow type_params params return_type is_block body)) n e =
    Contains-append_right (option_to_list type_params) (params.items ++ (option_to_list return_type ++ (body ∷ []))) n (Contains-append_right params.items
    (option_to_list return_type ++ (body ∷ [])) n (Contains-append_right (option_to_list return_type) (body ∷ []) n (one_has n body e)))
bodies_are_children kind n e = absurd (let f : ⊥ = cc in f)

pub decls_are_children : (kind : Kind) (n : ℕ) → decl_child_of kind ≡ Some n → Contains (child_numbers kind) n
decls_are_children (Kind.Item (Item.ExportDecl decl)) n e = one_has n decl e
decls_are_children (Kind.Item (Item.ExportDefaultDecl decl)) n e = one_has n decl e
decls_are_children kind n e = absurd (let f : ⊥ = cc in f)

pub items_are_children : (kind : Kind) (n : ℕ) → Contains (body_children_of kind) n → Contains (child_numbers kind) n
items_are_children (Kind.Item (Item.Program body)) n has = Contains-append_left body.items [] n has
items_are_children (Kind.Decl (Decl.Class type_params super_class super_type_params implements body)) n has =
    let rest1 = body.items ++ [] in
    let rest2 = implements.items ++ rest1 in
    let rest3 = option_to_list super_type_params ++ rest2 in
    let rest4 = option_to_list super_class ++ rest3 in
    Contains-append_right (option_to_list type_params) rest4 n (Contains-append_right (option_to_list super_class) rest3 n (Contains-append_right
    (option_to_list super_type_params) rest2 n (Contains-append_right implements.items rest1 n (Contains-append_left body.items [] n has))))
items_are_children (Kind.Decl (Decl.TsInterfaceDecl id type_params extends body)) n has =
    let rest1 = body.items ++ [] in
    let rest2 = extends.items ++ rest1 in
    Contains-append_right (id ∷ []) (option_to_list type_params ++ rest2) n
    (Contains-append_right (option_to_list type_params) rest2 n (Contains-append_right extends.items rest1 n (Contains-append_left body.items [] n has)))
items_are_children (Kind.Decl (Decl.TsModuleBlock body)) n has = Contains-append_left body.items [] n has
items_are_children kind n has = absurd (omega (arith, has.1))

-- The remaining parts of a dotted name have a greater number than the part before.
pub rest_greater : (node : TreeNode) (id body : ℕ) → IsWellFormedTree node.tree.nodes.items → node.number < length node.tree.nodes.items
    → kind_of node ≡ Some (Kind.Decl (Decl.TsNamespaceDecl id body)) → (node.number < body) × (body < length node.tree.nodes.items)
rest_greater node id body formed inside is =
    is_child node (Kind.Decl (Decl.TsNamespaceDecl id body)) body formed inside is (bodies_are_children (Kind.Decl (Decl.TsNamespaceDecl id body)) body refl)

-- The items of a body have greater numbers than the body.
pub items_greater : (node : TreeNode) (kind : Kind) → IsWellFormedTree node.tree.nodes.items → node.number < length node.tree.nodes.items
    → kind_of node ≡ Some kind
    → AreGreaterNodeNumbers node.tree.nodes.items node.number (body_children_of kind)
unfolding children
items_greater node kind formed inside is = λ k d below.
    let n = get_or (body_children_of kind) k d in
    let has : Contains (body_children_of kind) n = (k, below, get_or_default (body_children_of kind) k n d below) in
    let here : Contains (children node.tree.nodes.items node.number) n = rw is (items_are_children kind n has) in
    formed.ordered node.number n inside here

pub list_greater : (node : TreeNode) → IsWellFormedTree node.tree.nodes.items → node.number < length node.tree.nodes.items
    → AreGreaterNodeNumbers node.tree.nodes.items node.number (child_list_in_field node body_children_of)
list_greater node formed inside = of_kind (kind_of node) refl
  where
    of_kind : (kinds : Option Kind) → kind_of node ≡ kinds → AreGreaterNodeNumbers node.tree.nodes.items node.number (option_map_or body_children_of kinds [])
    of_kind None is = λ k d below. absurd (omega (arith, below))
    of_kind (Some kind) is = items_greater node kind formed inside is

-- ---- bodies and items, one level deeper

pub none_reads : {A : Type 0} (x : A) (b : ModuleBuilder) (holder : SymbolId) → AppliesEventsUnderHolder (Ok x) b b no_events_by_holder_and_start holder
none_reads x b holder rows h is at = none_read b rows is

pub body_reads : {A : Type 0} (r : Result A BuildFault) (old new : ModuleBuilder) (holder : SymbolId) (block : ItemListEvents) (whole : TreeNode)
    (ambient : Bool) (parts
    n : ℕ) (node : TreeNode) (kind : Kind) → IsFound whole.tree n node → kind_of node ≡ Some kind → length whole.tree.nodes.items ≤ n + parts
    → ((left : ℕ) → length whole.tree.nodes.items ≤ n + suc left
    → AppliesEventsUnderHolder r old new (namespace_body_events_of_kind (namespace_body_events_within_levels block whole ambient left) block whole ambient
    node kind) holder) → AppliesEventsUnderHolder r old new (namespace_body_events_within_levels block whole ambient parts n) holder
unfolding namespace_body_events_within_levels
body_reads r old new holder block whole ambient zero n node kind found is enough reads = absurd (omega (arith, found.inside))
body_reads r old new holder block whole ambient (suc left) n node kind found is enough reads =
    let there : node_in whole.tree (Some n) ≡ Some node = rw (lt-ltb n (length whole.tree.nodes.items) found.inside, found.same) refl in
    λ rows h before at. on_reads r old.setting.limit new rows (node_in whole.tree (Some n)) node (λ (found : TreeNode).
    events_if_some (kind_of found) (namespace_body_events_of_kind (namespace_body_events_within_levels block whole ambient left) block whole ambient found)) h
    (length rows) there
    (on_reads r old.setting.limit new rows (kind_of node) kind
    (namespace_body_events_of_kind (namespace_body_events_within_levels block whole ambient left) block whole ambient node) h (length rows) is
    (reads left enough rows h before at))

pub item_reads : {A : Type 0} (r : Result A BuildFault) (old new : ModuleBuilder) (holder : SymbolId) (tree : Tree) (scope : Scope) (levels
    n : ℕ) (node : TreeNode) → IsFound tree n node → length tree.nodes.items ≤ n + levels
    → ((left : ℕ) → length tree.nodes.items ≤ n + suc left → AppliesEventsUnderHolder r old new (events_if_some (kind_of node)
    (item_events (item_list_events_within_levels tree left) scope node)) holder)
    → AppliesEventsUnderHolder r old new (item_events_within_levels tree levels scope n) holder
unfolding item_events_within_levels
item_reads r old new holder tree scope zero n node found enough reads = absurd (omega (arith, found.inside))
item_reads r old new holder tree scope (suc left) n node found enough reads =
    let there : node_in tree (Some n) ≡ Some node = rw (lt-ltb n (length tree.nodes.items) found.inside, found.same) refl in
    λ rows h before at. on_reads r old.setting.limit new rows (node_in tree (Some n)) node (λ (found : TreeNode).
    events_if_some (kind_of found) (item_events (item_list_events_within_levels tree left) scope found)) h (length rows) there
    (reads left enough rows h before at)

-- The events of an item that is no namespace are those of any other item.
other_same : (block : ItemListEvents) (scope : Scope) (node : TreeNode) (kinds : Option Kind) → None ≡ option_and_then (namespace_of node) kinds → (h start : ℕ)
    → events_if_some kinds (item_events block scope node) h start ≡ events_if_some kinds (non_namespace_item_events scope node) h start
other_same block scope node None e h start = refl
other_same block scope node (Some kind) e h start = ap (λ (found : Option Namespace). namespace_events_or found (λ (namespace : Namespace).
    events_if_some (kind_of namespace.decl) (namespace_events block scope namespace)) (non_namespace_item_events scope node kind) h start) (sym e)

pub other_reads : {A : Type 0} (r : Result A BuildFault) (old new : ModuleBuilder) (holder : SymbolId) (block : ItemListEvents) (scope : Scope)
    (node : TreeNode)
    → None ≡ option_and_then (namespace_of node) (kind_of node)
    → AppliesEventsUnderHolder r old new (events_if_some (kind_of node) (non_namespace_item_events scope node)) holder
    → AppliesEventsUnderHolder r old new (events_if_some (kind_of node) (item_events block scope node)) holder
other_reads r old new holder block scope node e reads = read_as r old new (events_if_some (kind_of node) (non_namespace_item_events scope node)) holder
    (events_if_some (kind_of node) (item_events block scope node)) (other_same block scope node (kind_of node) e) reads

namespace_same : (block : ItemListEvents) (scope : Scope) (node : TreeNode) (found : Namespace) (kinds : Option Kind) → Some found
    ≡ option_and_then (namespace_of node) kinds → (h start : ℕ)
    → events_if_some kinds (item_events block scope node) h start ≡ events_if_some (kind_of found.decl) (namespace_events block scope found) h start
namespace_same block scope node found None e h start = absurd (let f : ⊥ = cc in f)
namespace_same block scope node found (Some kind) e h start = ap (λ (o : Option Namespace). namespace_events_or o (λ (namespace : Namespace).
    events_if_some (kind_of namespace.decl) (namespace_events block scope namespace)) (non_namespace_item_events scope node kind) h start) (sym e)

pub namespace_reads : {A : Type 0} (r : Result A BuildFault) (old new : ModuleBuilder) (holder : SymbolId) (tree : Tree) (left : ℕ) (scope : Scope)
    (node : TreeNode) (found : Namespace) → found.decl.tree ≡ tree → Some found ≡ option_and_then (namespace_of node) (kind_of node)
    → AppliesEventsUnderHolder r old new (events_if_some (kind_of found.decl)
    (namespace_events (item_list_events_within_levels found.decl.tree left) scope found)) holder
    → AppliesEventsUnderHolder r old new (events_if_some (kind_of node) (item_events (item_list_events_within_levels tree left) scope node)) holder
namespace_reads r old new holder tree left scope node found same e reads =
    let there =
    subst (λ (t : Tree). AppliesEventsUnderHolder r old new
    (events_if_some (kind_of found.decl) (namespace_events (item_list_events_within_levels t left) scope found)) holder)
    same reads in
    read_as r old new (events_if_some (kind_of found.decl) (namespace_events (item_list_events_within_levels tree left) scope found)) holder
    (events_if_some (kind_of node)
    (item_events (item_list_events_within_levels tree left) scope node))
    (namespace_same (item_list_events_within_levels tree left) scope node found (kind_of node) e) there

-- A namespace declaration has the number of its item, or a greater one.
pub record IsAtItem (node : TreeNode) (found : Namespace) : Type 0 where
  pub same_tree : found.decl.tree ≡ node.tree
  pub from : node.number ≤ found.decl.number

other_at : (node decl : TreeNode) (exported : Option TreeNode) (found : Namespace) (kind : Kind) → Some found ≡ as_namespace exported decl kind
    → found.decl ≡ decl
other_at node decl exported found (Kind.Decl (Decl.TsModuleDecl id is_declared body)) e =
    let same : found ≡ (let n : Namespace = record { exported = exported; decl = decl } in n) = cc in ap (λ (n : Namespace). n.decl) same
other_at node decl exported found kind e = absurd (let f : ⊥ = cc in f)

exported_at : (node : TreeNode) (found : Namespace) (decl : TreeNode) (kinds : Option Kind) → Some found ≡ option_and_then (as_namespace (Some node) decl) kinds
    → found.decl ≡ decl
exported_at node found decl None e = absurd (let f : ⊥ = cc in f)
exported_at node found decl (Some kind) e = other_at node decl (Some node) found kind e

child_item : (node : TreeNode) (found : Namespace) (decls : Option TreeNode) → IsWellFormedTree node.tree.nodes.items
    → node.number < length node.tree.nodes.items
    → child_in_field node decl_child_of ≡ decls → Some found ≡ option_and_then (exported_namespace node) decls → IsAtItem node found
child_item node found None formed inside is e = absurd (let f : ⊥ = cc in f)
child_item node found (Some decl) formed inside is e =
    let child = child_found node decl decl_child_of formed inside decls_are_children (sym is) in
    let same : found.decl ≡ decl = exported_at node found decl (kind_of decl) e in
    record { same_tree = ap (λ (t : TreeNode). t.tree) same ∙ child.same_tree; from = rw same (omega (arith, child.greater)) }

in_tree_item : (node : TreeNode) (found : Namespace) → found.decl ≡ node → IsAtItem node found
in_tree_item node found same = record { same_tree = ap (λ (t : TreeNode). t.tree) same; from = rw same (omega arith) }

item_at : (node : TreeNode) (found : Namespace) (kind : Kind) → IsWellFormedTree node.tree.nodes.items → node.number < length node.tree.nodes.items
    → Some found ≡ namespace_of node kind → IsAtItem node found
item_at node found (Kind.Item (Item.ExportDecl decl)) formed inside e = child_item node found (child_in_field node decl_child_of) formed inside refl e
item_at node found kind formed inside e = in_tree_item node found (other_at node node None found kind e)

pub namespace_at : (node : TreeNode) (found : Namespace) → IsWellFormedTree node.tree.nodes.items → node.number < length node.tree.nodes.items
    → Some found ≡ option_and_then (namespace_of node) (kind_of node) → IsAtItem node found
namespace_at node found formed inside e = of_kind (kind_of node) e
  where
    of_kind : (kinds : Option Kind) → Some found ≡ option_and_then (namespace_of node) kinds → IsAtItem node found
    of_kind None is = absurd (let f : ⊥ = cc in f)
    of_kind (Some kind) is = item_at node found kind formed inside is

-- A part without events leaves the builder's table unchanged.
pub body_stays : (b : ModuleBuilder) (holder : SymbolId) (block : ItemListEvents) (whole : TreeNode) (ambient : Bool) (parts n : ℕ) (node : TreeNode)
    (kind : Kind)
    → IsFound whole.tree n node → kind_of node ≡ Some kind → length whole.tree.nodes.items ≤ n + parts
    → ((left : ℕ) (rows : List EventEffect) (h : ℕ) → HasAppliedChanges b (changes_of_effects rows)
    → HasAppliedChanges b
    (changes_of_effects
    (effects_after_events rows (namespace_body_events_of_kind (namespace_body_events_within_levels block whole ambient left) block whole ambient node kind h
    (length rows)))))
    → (rows : List EventEffect) (h : ℕ) → HasAppliedChanges b (changes_of_effects rows) → symbol_of_event_at rows h ≡ Some holder
    → HasAppliedChanges b (changes_of_effects (effects_after_events rows (namespace_body_events_within_levels block whole ambient parts n h (length rows))))
body_stays b holder block whole ambient parts n node kind found is enough stays =
    let done : Result ℕ BuildFault = Ok 0 in
    body_reads done b b holder block whole ambient parts n node kind found is enough (λ left more rows h before at. stays left rows h before)

-- ---- a namespace

abbrev pub namespace_inner : ItemListEvents → Scope → Namespace → Kind → EventsByHolderAndStart
namespace_inner block scope namespace kind =
    events_if_some (child_in_field namespace.decl body_child_of) (namespace_body_events block namespace.decl (scope.ambient || is_ambient_namespace kind))

abbrev pub namespace_decl : Namespace → Declaration
namespace_decl namespace = definition_of_node (maybe_exported_node namespace.exported (exported_ts_module namespace.decl))
    (export_or_decl_range namespace.exported namespace.decl)

-- The events of a namespace that has an identifier.
abbrev pub namespace_declared : ItemListEvents → Scope → Namespace → Kind → Id → EventsByHolderAndStart
namespace_declared block scope namespace kind id =
    declare_and_add_events (is_exported scope namespace.exported) (id_view id) (namespace_decl namespace) (namespace_inner block scope namespace kind)

pub namespace_read : {A : Type 0} (r : Result A BuildFault) (limit : ℕ) (new : ModuleBuilder) (rows : List EventEffect) (h : ℕ) (block : ItemListEvents)
    (scope : Scope)
    (namespace : Namespace) (kind : Kind) (id : Id) → kind_of namespace.decl ≡ Some kind → id_of_ident_child id_child_of namespace.decl ≡ Some id
    → AppliesEffects r limit new (effects_after_events rows (namespace_declared block scope namespace kind id h (length rows)))
    → AppliesEffects r limit new (effects_after_events rows (events_if_some (kind_of namespace.decl) (namespace_events block scope namespace) h (length rows)))
namespace_read r limit new rows h block scope namespace kind id is named reads =
    on_reads r limit new rows (kind_of namespace.decl) kind (namespace_events block scope namespace) h (length rows) is
    (on_reads r limit new rows (id_of_ident_child id_child_of namespace.decl) id (namespace_declared block scope namespace kind) h (length rows) named reads)

pub namespace_stays : (b : ModuleBuilder) (rows : List EventEffect) (h : ℕ) (block : ItemListEvents) (scope : Scope) (namespace : Namespace) (kind : Kind)
    → kind_of namespace.decl ≡ Some kind → id_of_ident_child id_child_of namespace.decl ≡ None → HasAppliedChanges b (changes_of_effects rows)
    → HasAppliedChanges b
    (changes_of_effects (effects_after_events rows (events_if_some (kind_of namespace.decl) (namespace_events block scope namespace) h (length rows))))
namespace_stays b rows h block scope namespace kind is named before =
    on_some b rows (kind_of namespace.decl) kind (namespace_events block scope namespace) h (length rows) is
    (on_none b rows (id_of_ident_child id_child_of namespace.decl) (namespace_declared block scope namespace kind) h (length rows) named before)
