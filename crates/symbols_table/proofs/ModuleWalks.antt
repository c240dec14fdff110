-- Contracts of calls that apply the events of imports and exports.
use Rattle.std.proofs.Common.{◌≡◌, ℕ, ◌+◌, ◌<◌, List, [], ◌∷◌, ◌++◌, length, Option, None, Some, refl, sym, ◌∙◌, ap, subst, arith}
use Rattle.std.specs.Prelude.{Bool, String, string_bytes, Result, Ok, Err, IsErrAnd, IfErr, OnOk}
use Rattle.std.specs.Option.{option_map, option_and_then}
use Rattle.std.specs.Global.{Global}
use Rattle.std.proofs.lemmas.List.{append-nil, length_push}
use Rattle.symbols_ast.specs.declared.tree.arena.Tree.{Tree}
use Rattle.symbols_ast.specs.declared.tree.arena.Id.{Id}
use Rattle.symbols_ast.specs.declared.tree.kinds.Kind.{Kind}
use Rattle.symbols_ast.specs.declared.tree.kinds.Item.{Item}
use Rattle.symbols_ast.specs.declared.ids.SymbolId.{SymbolId}
use Rattle.symbols_ast.specs.declared.tree.arena.SourceRange.{SourceRange}
use Rattle.symbols_ast.specs.NodeRefs.{TreeNode, kind_of, range_of, node_in}
use Rattle.symbols_ast.specs.Fields.{local_child_of, id_child_of}
use Rattle.symbols_ast.specs.Ids.{id_view, ident_id}
use Rattle.symbols_nodes.specs.Expando.{Expando, expando_of_assignment}
use Rattle.symbols_nodes.specs.NodeViews.{expando_property, export_default_decl}
use Rattle.symbols_table.specs.declared.builder.table.ModuleBuilder.{ModuleBuilder}
use Rattle.symbols_table.specs.declared.builder.table.BuildFault.{BuildFault}
use Rattle.symbols_table.specs.declared.builder.table.BuildFault.TheVariants.{OutOfMemory, TooManySymbols}
use Rattle.symbols_table.specs.DeclViews.{Declaration, FileDepNameView, DeclKindView, declaration_of_kind, definition_of_node, file_ref}
use Rattle.symbols_table.specs.Changes.{adds_symbol, adds_decl, maps, parents_after_changes}
use Rattle.symbols_table.specs.Events.{DeclarationEvent, EventEffect, declare, declare_alias, default, expando, binds}
use Rattle.symbols_table.specs.Events.{effect_yielding_symbol, new_symbol_effect, effect_of_event, changes_of_effects, symbol_of_event_at, effects_after_events}
use Rattle.symbols_table.specs.EventsByHolderAndStart.{EventsByHolderAndStart, events_if_some, events_of_each, range_or_empty, id_of_ident_child}
use Rattle.symbols_table.specs.MemberEvents.{member_events_at, class_or_interface_member_numbers}
use Rattle.symbols_table.specs.DeclarationEvents.{declared_name, export_event_if}
use Rattle.symbols_table.specs.ModuleEvents.{import_dep_name, import_decl_events, import_specifier_events, import_specifier_events_at, bind_events_if}
use Rattle.symbols_table.specs.ModuleEvents.{default_decl_events}
use Rattle.symbols_table.specs.ModuleEvents.{expando_events, import_equals_decl_kind, import_equals_alias_events, import_equals_events}
use Rattle.symbols_table.specs.ModuleEvents.{import_export_or_expando_events}
use Rattle.symbols_table.specs.inner.Tables.{HasAppliedChanges, AppliesEffectChanges, AppliesEffects}
use Rattle.symbols_table.proofs.Rows.{new_reads, symbol_of_event_at-push, effects_after_events-step, effects_after_events-nil, effects_after_events-append}
use Rattle.symbols_table.proofs.Rows.{length-effects_after_events}
use Rattle.symbols_table.proofs.Walks.{none_read, one_read, err_all}

-- No events leave the table unchanged.
pub no_events : (b : ModuleBuilder) (rows : List EventEffect) (events : List DeclarationEvent) → events ≡ [] → HasAppliedChanges b (changes_of_effects rows)
    → HasAppliedChanges b (changes_of_effects (effects_after_events rows events))
no_events b rows events e is = rw e (none_read b rows is)

-- A builder with the changes of an event's row has applied the event.
pub event_read : (b : ModuleBuilder) (rows : List EventEffect) (event : DeclarationEvent) (row : EventEffect)
    → effect_of_event (changes_of_effects rows) (symbol_of_event_at rows) event ≡ row
    → HasAppliedChanges b (changes_of_effects rows ++ row.changes) → HasAppliedChanges b (changes_of_effects (effects_after_events rows (event ∷ [])))
event_read b rows event row reads is = rw (effects_after_events-step rows event [] row reads, effects_after_events-nil (rows ++ row ∷ []))
    (one_read b rows row is)

-- The row of a new symbol that no identifier is bound to.
abbrev pub fresh_row : List EventEffect → SymbolId → Declaration → EventEffect
fresh_row rows holder decl = new_symbol_effect (changes_of_effects rows) (Some holder) decl (λ _. [])

pub fresh_read : (b : ModuleBuilder) (rows : List EventEffect) (holder : SymbolId) (decl : Declaration) (s : SymbolId)
    → s.0 ≡ length (parents_after_changes (changes_of_effects rows))
    → HasAppliedChanges b ((changes_of_effects rows ++ adds_symbol (Some holder) ∷ []) ++ adds_decl s decl ∷ [])
    → (symbol_of_event_at (rows ++ fresh_row rows holder decl ∷ []) (length rows) ≡ Some s)
    × HasAppliedChanges b (changes_of_effects (rows ++ fresh_row rows holder decl ∷ []))
fresh_read b rows holder decl s number is =
    let before = changes_of_effects rows in
    let read =
    new_reads b before (Some holder) decl (λ _. []) s number (rw (append-nil ((before ++ adds_symbol (Some holder) ∷ []) ++ adds_decl s decl ∷ [])) is) in
    (symbol_of_event_at-push rows (fresh_row rows holder decl) ∙ read.0, one_read b rows (fresh_row rows holder decl) read.1)

-- The same for a list of events that is equal to that one event.
pub event_as : (b : ModuleBuilder) (rows : List EventEffect) (events : List DeclarationEvent) (event : DeclarationEvent) (row : EventEffect) → events ≡ event
    ∷ []
    → effect_of_event (changes_of_effects rows) (symbol_of_event_at rows) event ≡ row → HasAppliedChanges b (changes_of_effects rows ++ row.changes)
    → HasAppliedChanges b (changes_of_effects (effects_after_events rows events))
event_as b rows events event row e reads is = rw e (event_read b rows event row reads is)

pub err_as : {A : Type 0} (r : Result A BuildFault) (limit : ℕ) (new : ModuleBuilder) (rows : List EventEffect) (events : List
    DeclarationEvent) (event : DeclarationEvent) (row : EventEffect) (more : List DeclarationEvent) (fault : BuildFault) → events ≡ event ∷ more
    → effect_of_event (changes_of_effects rows) (symbol_of_event_at rows) event ≡ row → IsErrAnd r (λ e. e ≡ fault)
    → (fault ≡ TooManySymbols → limit < length (parents_after_changes (changes_of_effects rows ++ row.changes)))
    → AppliesEffects r limit new (effects_after_events rows events)
err_as r limit new rows events event row more fault e reads h full = rw e (err_all r limit new rows event row more fault reads h full)

-- ---- optional parts

pub on_nothing : {A : Type 0} (found : Option A) (walk : A → EventsByHolderAndStart) (h start : ℕ) → found ≡ None → events_if_some found walk h start ≡ []
on_nothing found walk h start e = rw e refl

pub on_thing : {A : Type 0} (found : Option A) (x : A) (walk : A → EventsByHolderAndStart) (h start : ℕ) → found ≡ Some x
    → events_if_some found walk h start ≡ walk x h start
on_thing found x walk h start e = rw e refl

pub on_same : {A : Type 0} (found : Option A) (walk other : A → EventsByHolderAndStart) (h start : ℕ) → ((x : A) → walk x h start ≡ other x h start)
    → events_if_some found walk h start ≡ events_if_some found other h start
on_same None walk other h start same = refl
on_same (Some x) walk other h start same = same x

pub on_each_nothing : {A : Type 0} (found : Option A) (walk : A → EventsByHolderAndStart) (h start : ℕ) → ((x : A) → walk x h start ≡ [])
    → events_if_some found walk h start ≡ []
on_each_nothing None walk h start same = refl
on_each_nothing (Some x) walk h start same = same x

pub on_both : {A C : Type 0} (found : Option A) (part : A → Option C) (walk : C → EventsByHolderAndStart) (h start : ℕ)
    → events_if_some found (λ (x : A). events_if_some (part x) walk) h start ≡ events_if_some (option_and_then part found) walk h start
on_both None part walk h start = refl
on_both (Some x) part walk h start = refl

-- The range that a node's event has is the node's range.
pub occurs : (node : TreeNode) (range : SourceRange) → range_of node ≡ Some range → range_or_empty node ≡ range
occurs node range e = rw e refl

-- ---- imports

pub import_unnamed : (src : List ℕ) (node : TreeNode) (h start : ℕ) → id_of_ident_child local_child_of node ≡ None
    → events_if_some (kind_of node) (import_specifier_events src node) h start ≡ []
import_unnamed src node h start e = on_each_nothing (kind_of node) (import_specifier_events src node) h start
    (λ kind. on_nothing (id_of_ident_child local_child_of node) (λ (id : Id). events_if_some (import_dep_name id kind) (import_decl_events src node id)) h start
    e)

pub import_named : (src : List ℕ) (node : TreeNode) (id : Id) (h start : ℕ) → id_of_ident_child local_child_of node ≡ Some id
    → events_if_some (kind_of node) (import_specifier_events src node) h start
    ≡ events_if_some (option_and_then (import_dep_name id) (kind_of node)) (import_decl_events src node id) h start
import_named src node id h start e =
    on_same (kind_of node) (import_specifier_events src node) (λ (kind : Kind). events_if_some (import_dep_name id kind) (import_decl_events src node id)) h
    start
    (λ kind. on_thing (id_of_ident_child local_child_of node) id (λ (x : Id). events_if_some (import_dep_name x kind) (import_decl_events src node x)) h start
    e)
    ∙ on_both (kind_of node) (import_dep_name id) (import_decl_events src node id) h start

pub import_found : (src : List ℕ) (tree : Tree) (n : ℕ) (node : TreeNode) (h start : ℕ) → node_in tree (Some n) ≡ Some node
    → import_specifier_events_at src tree n h start ≡ events_if_some (kind_of node) (import_specifier_events src node) h start
import_found src tree n node h start e = on_thing (node_in tree (Some n)) node (λ (x : TreeNode). events_if_some (kind_of x) (import_specifier_events src x)) h
    start e

pub import_one : (src : List ℕ) (tree : Tree) (n : ℕ) (node : TreeNode) (id : Id) (name : FileDepNameView) (kind : DeclKindView) (range : SourceRange)
    (decl : Declaration)
    (h start : ℕ) → node_in tree (Some n) ≡ Some node → id_of_ident_child local_child_of node ≡ Some id
    → option_and_then (import_dep_name id) (kind_of node) ≡ Some name → range_of node ≡ Some range → kind ≡ file_ref name src
    → decl ≡ declaration_of_kind kind range
    → import_specifier_events_at src tree n h start ≡ declare h (id_view id) decl ∷ []
import_one src tree n node id name kind range decl h start is_node is_symbol_named takes index is_kind is_decl =
    let e : decl ≡ declaration_of_kind (file_ref name src) (range_or_empty node) = is_decl ∙ rw (is_kind, occurs node range index) refl in
    import_found src tree n node h start is_node ∙ import_named src node id h start is_symbol_named
    ∙ on_thing (option_and_then (import_dep_name id) (kind_of node)) name (import_decl_events src node id) h start takes
    ∙ ap (λ (d : Declaration). declare h (id_view id) d ∷ []) (sym e)

-- A value that was computed from an optional kind is that of the kind.
pub some_kind : {A : Type 0} (found : Option Kind) (kind : Kind) (read : Kind → A) (x : A) → found ≡ Some kind → Some x ≡ option_map read found → read kind ≡ x
some_kind found kind read x is e = let same : Some x ≡ Some (read kind) = rw is at e in cc

-- A call that applies the only event of a list.
pub only_read : {A : Type 0} (r : Result A BuildFault) (limit : ℕ) (new : ModuleBuilder) (rows : List EventEffect) (events : List DeclarationEvent)
    (event : DeclarationEvent) (row : EventEffect)
    → events ≡ event ∷ [] → effect_of_event (changes_of_effects rows) (symbol_of_event_at rows) event ≡ row
    → AppliesEffectChanges r limit new (changes_of_effects rows) row
    → AppliesEffects r limit new (effects_after_events rows events)
only_read (Ok x) limit new rows events event row e reads is = event_as new rows events event row e reads is
only_read {A} (Err fault) limit new rows events event row e reads full = err_as {A = A} (Err fault) limit new rows events event row [] fault e reads refl full

-- ---- expando assignments

pub nothing_found : {A C : Type 0} (found : Option A) (x : C) → None ≡ option_map (λ (_ : A). x) found → found ≡ None
nothing_found None x e = refl
nothing_found (Some y) x e = cc

pub same_found : {A C : Type 0} (found : Option A) (x y : C) → Some x ≡ option_map (λ (_ : A). y) found → x ≡ y
same_found None x y e = cc
same_found (Some z) x y e = cc

object_sym : (found : Option Expando) (object : TreeNode) → Some object ≡ option_map (λ (e : Expando). e.object) found
    → option_and_then (λ (e : Expando). option_and_then ident_id (kind_of e.object)) found ≡ option_and_then ident_id (kind_of object)
object_sym None object is = cc
object_sym (Some e) object is = let same : e.object ≡ object = cc in ap (λ (node : TreeNode). option_and_then ident_id (kind_of node)) same

pub expando_sym : (node inner object : TreeNode) → inner ≡ node → Some object ≡ option_map (λ (e : Expando). e.object) (expando_of_assignment inner)
    → option_and_then (λ (e : Expando). option_and_then ident_id (kind_of e.object)) (expando_of_assignment node) ≡ option_and_then ident_id (kind_of object)
expando_sym node inner object same is = object_sym (expando_of_assignment node) object
    (subst (λ (n : TreeNode). Some object ≡ option_map (λ (e : Expando). e.object) (expando_of_assignment n)) same is)

pub expando_one : (node inner : TreeNode) (id : Id) (range : SourceRange) (decl : Declaration) (h start : ℕ)
    → option_and_then (λ (e : Expando). option_and_then ident_id (kind_of e.object)) (expando_of_assignment node) ≡ Some id
    → inner ≡ node → range_of node ≡ Some range → decl ≡ definition_of_node (expando_property inner) range
    → expando_events node h start ≡ expando (id_view id) decl ∷ []
expando_one node inner id range decl h start is_symbol_named same index is_decl =
    let e : decl ≡ definition_of_node (expando_property node) (range_or_empty node) = is_decl ∙ rw (same, occurs node range index) refl in
    on_thing (option_and_then (λ (x : Expando). option_and_then ident_id (kind_of x.object)) (expando_of_assignment node)) id
    (λ (i : Id) (holder from : ℕ). expando (id_view i) (definition_of_node (expando_property node) (range_or_empty node)) ∷ []) h start is_symbol_named
    ∙ ap (λ (d : Declaration). expando (id_view id) d ∷ []) (sym e)

-- ---- default exports

-- The rows of an event, of a list of events and of a further part are computed in that order.
pub rows_of_three : (rows : List EventEffect) (event : DeclarationEvent) (row : EventEffect) (events : List DeclarationEvent) (walk : EventsByHolderAndStart)
    (index : ℕ)
    → effect_of_event (changes_of_effects rows) (symbol_of_event_at rows) event ≡ row
    → effects_after_events rows (event ∷ (events ++ walk index (length rows + 1 + length events)))
    ≡ effects_after_events (effects_after_events (rows ++ row ∷ []) events) (walk index (length (effects_after_events (rows ++ row ∷ []) events)))
rows_of_three rows event row events walk index reads =
    let more = rows ++ row ∷ [] in
    let count : length (effects_after_events more events) ≡ length rows + 1 + length events =
    omega (arith, length-effects_after_events more events, length_push rows row) in
    rw (effects_after_events-step rows event (events ++ walk index (length rows + 1 + length events)) row reads, count)
    (effects_after_events-append more events (walk index (length rows + 1 + length events)))

pub on_ok : {A E P Q : Type 0} (r : Result A E) → (P → Q) → OnOk r P → OnOk r Q
on_ok (Ok x) f p = f p
on_ok (Err e) f p = tt

pub bound : (b : ModuleBuilder) (rows : List EventEffect) (found : Option Id) (id : Id) (s : ℕ) (symbol : SymbolId) → found ≡ Some id
    → symbol_of_event_at rows s ≡ Some symbol
    → HasAppliedChanges b (changes_of_effects rows ++ maps (id_view id) symbol ∷ [])
    → HasAppliedChanges b (changes_of_effects (effects_after_events rows (bind_events_if found s)))
bound b rows found id s symbol is_symbol_named at is =
    let row = effect_yielding_symbol symbol (maps (id_view id) symbol ∷ []) in
    let reads : effect_of_event (changes_of_effects rows) (symbol_of_event_at rows) (binds (id_view id) s) ≡ row = rw at refl in
    rw is_symbol_named (event_read b rows (binds (id_view id) s) row reads is)

pub default_decl_as : (node decl : TreeNode) (range : SourceRange) (d : Declaration) (h start : ℕ) → range_of node ≡ Some range
    → d ≡ definition_of_node (export_default_decl node) range
    → default_decl_events node decl h start ≡ default h d ∷ (bind_events_if (declared_name decl) start
    ++ events_of_each (member_events_at decl.tree) (class_or_interface_member_numbers decl) start
    (start + 1 + length (bind_events_if (declared_name decl) start)))
default_decl_as node decl range d h start index is_decl =
    let e : d ≡ definition_of_node (export_default_decl node) (range_or_empty node) = is_decl ∙ rw (occurs node range index) refl in
    let names = bind_events_if (declared_name decl) start in
    ap (λ (x : Declaration). default h x ∷ (names ++ events_of_each (member_events_at decl.tree) (class_or_interface_member_numbers decl) start
    (start + 1 + length names))) (sym e)

pub default_decl_rows : (rows : List EventEffect) (node decl : TreeNode) (range : SourceRange) (d : Declaration) (row : EventEffect) (h : ℕ)
    → range_of node ≡ Some range
    → d ≡ definition_of_node (export_default_decl node) range → effect_of_event (changes_of_effects rows) (symbol_of_event_at rows) (default h d) ≡ row
    → effects_after_events rows (default_decl_events node decl h (length rows))
    ≡ effects_after_events (effects_after_events (rows ++ row ∷ []) (bind_events_if (declared_name decl) (length rows)))
    (events_of_each (member_events_at decl.tree) (class_or_interface_member_numbers decl)
    (length rows) (length (effects_after_events (rows ++ row ∷ []) (bind_events_if (declared_name decl) (length rows)))))
default_decl_rows rows node decl range d row h index is_decl reads =
    ap (λ (events : List DeclarationEvent). effects_after_events rows events) (default_decl_as node decl range d h (length rows) index is_decl)
    ∙ rows_of_three rows (default h d) row (bind_events_if (declared_name decl) (length rows))
    (events_of_each (member_events_at decl.tree) (class_or_interface_member_numbers decl)) (length rows) reads

-- ---- `import a = ..`

pub alias_one : (node : TreeNode) (test : Bool) (entity : Option ℕ) (external : Option (String Global)) (id : Id) (kind : DeclKindView) (range : SourceRange)
    (decl : Declaration) (h start : ℕ) → id_of_ident_child id_child_of node ≡ Some id → import_equals_decl_kind node entity external ≡ Some kind
    → range_of node ≡ Some range → decl ≡ declaration_of_kind kind range
    → import_equals_events node test entity external h start ≡ declare_alias h (id_view id) decl ∷ export_event_if test h (string_bytes id.name) start
alias_one node test entity external id kind range decl h start is_symbol_named is_kind index is_decl =
    let e : decl ≡ declaration_of_kind kind (range_or_empty node) = is_decl ∙ rw (occurs node range index) refl in
    on_thing (id_of_ident_child id_child_of node) id (λ (x : Id). events_if_some (import_equals_decl_kind node entity external)
    (import_equals_alias_events node test x))
    h start is_symbol_named
    ∙ on_thing (import_equals_decl_kind node entity external) kind (import_equals_alias_events node test id) h start is_kind
    ∙ ap (λ (d : Declaration). declare_alias h (id_view id) d ∷ export_event_if test h (string_bytes id.name) start) (sym e)

-- A call that applies an event and fails only if an allocation fails.
pub only_memory : {A : Type 0} (r : Result A BuildFault) (limit : ℕ) (new : ModuleBuilder) (rows : List EventEffect) (events : List DeclarationEvent)
    (event : DeclarationEvent) (row : EventEffect)
    → events ≡ event ∷ [] → effect_of_event (changes_of_effects rows) (symbol_of_event_at rows) event ≡ row
    → OnOk r (HasAppliedChanges new (changes_of_effects rows ++ row.changes)) → IfErr r (λ fault. fault ≡ OutOfMemory)
    → AppliesEffects r limit new (effects_after_events rows events)
only_memory (Ok x) limit new rows events event row e reads is full = event_as new rows events event row e reads is
only_memory (Err fault) limit new rows events event row e reads is full = λ many. cc

-- A kind that is no module item has no such events.
pub not_item : (node : TreeNode) (kind : Kind) (h start : ℕ) → ((item : Item) → kind ≡ Kind.Item item → ⊥)
    → import_export_or_expando_events node kind h start ≡ []
not_item node (Kind.Item item) h start other = absurd (other item refl)
not_item node kind h start other = refl
