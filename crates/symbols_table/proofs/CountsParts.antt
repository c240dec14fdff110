-- The declaring events of a part of a tree are at most as many as the part weighs.
use Rattle.std.proofs.Common.{◌≡◌, ℕ, zero, suc, ◌+◌, ◌≤◌, Bool, true, false, cond, ltb, List, []}
use Rattle.std.proofs.Common.{◌∷◌, ◌++◌, length, Option, Some, None, option_to_list, refl, arith}
use Rattle.std.specs.List.{flat_map}
use Rattle.std.specs.Option.{option_map_or, option_and_then}
use Rattle.std.proofs.lemmas.List.{length-append}
use Rattle.std.proofs.lemmas.Option.{same_Some, none-some}
use Rattle.symbols_ast.specs.declared.tree.arena.Tree.{Tree}
use Rattle.symbols_ast.specs.declared.tree.arena.Id.{Id}
use Rattle.symbols_ast.specs.declared.tree.kinds.Kind.{Kind}
use Rattle.symbols_ast.specs.declared.tree.kinds.Decl.TheVariants as Decl
use Rattle.symbols_ast.specs.declared.tree.kinds.Member.TheVariants as Member
use Rattle.symbols_ast.specs.declared.tree.kinds.Pat.TheVariants as Pat
use Rattle.symbols_ast.specs.Nodes.{kind_at, child_numbers}
use Rattle.symbols_ast.specs.NodeRefs.{TreeNode, kind_of, node_in, child_in_field, child_list_in_field}
use Rattle.symbols_ast.specs.Fields.{body_children_of, class_child_of, decl_children_of, name_child_of}
use Rattle.symbols_ast.specs.Ids.{IdView, id_view, ident_id}
use Rattle.symbols_nodes.specs.NodeViews.{SymbolNodeView, ExportDeclView}
use Rattle.symbols_table.specs.declared.builder.scope.Scope.{Scope}
use Rattle.symbols_table.specs.DeclViews.{Declaration, definition_of_node}
use Rattle.symbols_table.specs.EventsByHolderAndStart.{EventsByHolderAndStart, no_events_by_holder_and_start, events_if_some, events_of_each, range_or_empty}
use Rattle.symbols_table.specs.Patterns.{pattern_bindings, pattern_bindings_within_levels, pattern_bindings_below, pattern_parts}
use Rattle.symbols_table.specs.MemberEvents.{class_or_interface_members_by_kind, class_or_interface_member_numbers, member_event, constructor_param_events}
use Rattle.symbols_table.specs.MemberEvents.{constructor_param_events_at, node_of_non_constructor_member, member_events, member_events_at}
use Rattle.symbols_table.specs.DeclarationEvents.{maybe_exported_node, export_or_decl_range, is_exported, variable_node, export_event_if}
use Rattle.symbols_table.specs.DeclarationEvents.{child_and_export_events}
use Rattle.symbols_table.specs.DeclarationEvents.{declare_and_add_events, VariableStatement, binding_events, binding_events_at, declarator_events}
use Rattle.symbols_table.specs.DeclarationEvents.{declarator_events_at}
use Rattle.symbols_table.specs.DeclarationEvents.{variable_statement_events, export_decl_view_of_kind, declared_name, named_decl_events, declaration_events}
use Rattle.symbols_table.proofs.CountsWeights.{weights, weights-append}
use Rattle.symbols_table.proofs.CountsFields.{body_weighs, name_weighs, class_weighs, parts_weigh}
use Rattle.symbols_table.proofs.CountsEvents.{count, count-append}

-- At most n of these events may declare something.
abbrev pub IsLight : EventsByHolderAndStart → ℕ → Type 0
IsLight walk n = (holder start : ℕ) → count (walk holder start) ≤ n

pub light_up : (walk : EventsByHolderAndStart) (k n : ℕ) → k ≤ n → IsLight walk k → IsLight walk n
light_up walk k n le light = λ holder start. omega (arith, le, light holder start)

pub light_none : (n : ℕ) → IsLight no_events_by_holder_and_start n
light_none n = λ holder start. omega arith

pub light_on : {A : Type 0} (found : Option A) (walk : A → EventsByHolderAndStart) (n : ℕ) → ((x : A) → found ≡ Some x → IsLight (walk x) n)
    → IsLight (events_if_some found walk) n
light_on None walk n light = light_none n
light_on (Some x) walk n light = light x refl

pub light_each : (walk : ℕ → EventsByHolderAndStart) (w : ℕ → ℕ) (xs : List ℕ) → ((x : ℕ) → IsLight (walk x) (w x)) → IsLight (events_of_each walk xs)
    (weights w xs)
light_each walk w [] light = light_none 0
light_each walk w (x ∷ xs) light = λ holder start.
    let after = start + length (walk x holder start) in
    omega (arith, light x holder start, light_each walk w xs light holder after, count-append (walk x holder start) (events_of_each walk xs holder after))

weights_ones : (xs : List ℕ) → weights (λ _. 1) xs ≡ length xs
weights_ones [] = refl
weights_ones (x ∷ xs) = omega (arith, weights_ones xs)

pub light_ones : (walk : ℕ → EventsByHolderAndStart) (xs : List ℕ) → ((x : ℕ) → IsLight (walk x) 1) → IsLight (events_of_each walk xs) (length xs)
light_ones walk xs light = light_up (events_of_each walk xs) (weights (λ _. 1) xs) (length xs) (omega (arith, weights_ones xs))
    (light_each walk (λ _. 1) xs light)

-- ---- nodes of a tree

abbrev pub node_at : Tree → ℕ → TreeNode
node_at tree n = record { tree = tree; number = n }

abbrev pub kinds : Tree → ℕ → Option Kind
kinds tree n = kind_at tree.nodes.items n

pub light_node : (tree : Tree) (found : Option ℕ) (walk : TreeNode → EventsByHolderAndStart) (k : ℕ) →
    ((n : ℕ) → found ≡ Some n → IsLight (walk (node_at tree n)) k)
    → IsLight (events_if_some (node_in tree found) walk) k
light_node tree None walk k light = light_none k
light_node tree (Some n) walk k light = by (ltb n (length tree.nodes.items))
  where
    by : (b : Bool) → IsLight (events_if_some (cond b (Some (node_at tree n)) None) walk) k
    by true = light n refl
    by false = light_none k

pub light_kind : (tree : Tree) (n : ℕ) (walk : TreeNode → Kind → EventsByHolderAndStart) (k : ℕ) → ((kind : Kind) → kinds tree n ≡ Some kind
    → IsLight (walk (node_at tree n) kind) k)
    → IsLight (events_if_some (node_in tree (Some n)) (λ (node : TreeNode). events_if_some (kind_of node) (walk node))) k
light_kind tree n walk k light =
    light_node tree (Some n) (λ (node : TreeNode). events_if_some (kind_of node) (walk node)) k
    (λ m is. rw (← same_Some n m is) (light_on (kinds tree n) (walk (node_at tree n)) k light))

pub light_child : (tree : Tree) (n : ℕ) (kind : Kind) (field : Kind → Option ℕ) (walk : TreeNode → EventsByHolderAndStart) (k : ℕ) → kinds tree n ≡ Some kind
    → ((c : ℕ) → field kind ≡ Some c → IsLight (walk (node_at tree c)) k) → IsLight (events_if_some (child_in_field (node_at tree n) field) walk) k
light_child tree n kind field walk k is light = rw is (light_node tree (field kind) walk k light)

and_then_is : (field : Kind → Option ℕ) (o : Option Kind) (c : ℕ) → option_and_then field o ≡ Some c → (kind : Kind) × (o ≡ Some kind) × (field kind ≡ Some c)
and_then_is field None c is = absurd (none-some c is)
and_then_is field (Some kind) c is = (kind, refl, is)

pub light_field : (tree : Tree) (n : ℕ) (field : Kind → Option ℕ) (walk : TreeNode → EventsByHolderAndStart) (k : ℕ)
    → ((kind : Kind) (c : ℕ) → kinds tree n ≡ Some kind
    → field kind ≡ Some c → IsLight (walk (node_at tree c)) k) → IsLight (events_if_some (child_in_field (node_at tree n) field) walk) k
light_field tree n field walk k light =
    light_node tree (option_and_then field (kinds tree n)) walk k (λ c at. let found = and_then_is field (kinds tree n) c at in light found.0 c found.1 found.2)

-- ---- declaring an identifier

pub light_export : (test : Bool) (holder : ℕ) (name : List ℕ) (of : ℕ) → count (export_event_if test holder name of) ≡ 0
light_export true holder name of = refl
light_export false holder name of = refl

pub light_declared : (test : Bool) (id : IdView) (decl : Declaration) (inner : EventsByHolderAndStart) (k : ℕ) → IsLight inner k
    → IsLight (declare_and_add_events test id decl inner) (suc k)
light_declared test id decl inner k light = λ holder start.
    omega (
      arith,
      light start (start + 1),
      light_export test holder id.name start,
      count-append (inner start (start + 1)) (child_and_export_events test holder id.name start),
    )

-- ---- parts of a tree in which each node weighs at least 1 and its children

module _ (tree : Tree) (w : ℕ → ℕ) (weighs : (n : ℕ) (kind : Kind) → kinds tree n ≡ Some kind → suc (weights w (child_numbers kind)) ≤ w n) where
  light_param : (n : ℕ) → IsLight (constructor_param_events_at tree n) (w n)
  light_param n = light_kind tree n constructor_param_events (w n) (λ kind is. by kind (omega (arith, weighs n kind is)))
    where
      by : (kind : Kind) → 1 ≤ w n → IsLight (constructor_param_events (node_at tree n) kind) (w n)
      by (Kind.Member (Member.TsParamProp _ _)) some = λ holder start. omega arith
      by _ some = light_none (w n)

  pub light_member : (n : ℕ) → IsLight (member_events_at tree n) (w n)
  light_member n = light_kind tree n member_events (w n) (λ kind is. by kind (weighs n kind is))
    where
      by : (kind : Kind) → suc (weights w (child_numbers kind)) ≤ w n → IsLight (member_events (node_at tree n) kind) (w n)
      by (Kind.Member (Member.Constructor params body _)) heavy = λ holder start.
          omega (
            arith,
            light_each (constructor_param_events_at tree) w params.items light_param holder (start + 1),
            weights-append w params.items
                (option_to_list body ++ []),
          )
      by kind heavy = light_on (node_of_non_constructor_member (node_at tree n) kind) (λ (m : SymbolNodeView × Bool). member_event m.0 (node_at tree n) m.1)
          (w n)
          (λ m is holder start. omega arith)

  -- The body list of a node weighs at most as much as the node.
  pub body_of_node : (c : ℕ) → weights w (child_list_in_field (node_at tree c) body_children_of) ≤ w c
  body_of_node c = by (kinds tree c) refl
    where
      by : (o : Option Kind) → kinds tree c ≡ o → weights w (option_map_or body_children_of o []) ≤ w c
      by None is = omega arith
      by (Some kind) is = omega (arith, weighs c kind is, body_weighs w kind)

  body_of_child : (found : Option ℕ) → weights w (option_map_or (λ (class : TreeNode). child_list_in_field class body_children_of) (node_in tree found) [])
      ≤ weights w (option_to_list found)
  body_of_child None = omega arith
  body_of_child (Some c) = by (ltb c (length tree.nodes.items))
    where
      by : (b : Bool) → weights w (option_map_or (λ (class : TreeNode). child_list_in_field class body_children_of) (cond b (Some (node_at tree c)) None) [])
          ≤ weights w (c ∷ [])
      by true = omega (arith, body_of_node c)
      by false = omega arith

  members_weigh : (n : ℕ) (kind : Kind) → kinds tree n ≡ Some kind → weights w (class_or_interface_member_numbers (node_at tree n))
      ≤ weights w (child_numbers kind)
  members_weigh n kind is = rw is (by kind is)
    where
      by : (kind : Kind) → kinds tree n ≡ Some kind → weights w (class_or_interface_members_by_kind (node_at tree n) kind) ≤ weights w (child_numbers kind)
      by (Kind.Decl (Decl.TsInterfaceDecl id type_params extends body)) is =
          rw is (body_weighs w (Kind.Decl (Decl.TsInterfaceDecl id type_params extends body)))
      by kind is = rw is (omega (arith, class_weighs w kind, body_of_child (class_child_of kind)))

  -- The declaring events of a class's or an interface's members are at most as many as the children of its kind weigh.
  pub light_members : (n : ℕ) (kind : Kind) → kinds tree n ≡ Some kind
      → IsLight (events_of_each (member_events_at tree) (class_or_interface_member_numbers (node_at tree n))) (weights w (child_numbers kind))
  light_members n kind is =
      light_up (events_of_each (member_events_at tree) (class_or_interface_member_numbers (node_at tree n)))
      (weights w (class_or_interface_member_numbers (node_at tree n))) (weights w (child_numbers kind))
      (members_weigh n kind is) (light_each (member_events_at tree) w (class_or_interface_member_numbers (node_at tree n)) light_member)

  -- ---- variables

  flat_weighs : (inner : ℕ → List ℕ) (xs : List ℕ) → ((x : ℕ) → length (inner x) ≤ w x) → length (flat_map inner xs) ≤ weights w xs
  flat_weighs inner [] below = omega arith
  flat_weighs inner (x ∷ xs) below = omega (arith, below x, flat_weighs inner xs below, length-append (inner x) (flat_map inner xs))

  leaves_weigh : (levels n : ℕ) → length (pattern_bindings_within_levels tree levels n) ≤ w n
  unfolding pattern_bindings_within_levels
  leaves_weigh zero n = omega arith
  leaves_weigh (suc levels) n = by (kinds tree n) refl (leaves_weigh levels)
    where
      below : (kind : Kind) → suc (weights w (child_numbers kind)) ≤ w n → ((x : ℕ) → length (pattern_bindings_within_levels tree levels x) ≤ w x)
          → length (pattern_bindings_below (pattern_bindings_within_levels tree levels) n kind) ≤ w n
      below (Kind.Pat (Pat.BindingIdent _ _)) heavy rest = omega arith
      below kind heavy rest = omega (arith, parts_weigh w kind, flat_weighs (pattern_bindings_within_levels tree levels) (pattern_parts kind) rest)

      by : (o : Option Kind) → kinds tree n ≡ o → ((x : ℕ) → length (pattern_bindings_within_levels tree levels x) ≤ w x)
          → length (option_map_or (pattern_bindings_below (pattern_bindings_within_levels tree levels) n) o []) ≤ w n
      by None is rest = omega arith
      by (Some kind) is rest = below kind (weighs n kind is) rest

  module _ (scope : Scope) (exported : Option TreeNode) (is_using : Bool) (m : ℕ) where
    abbrev pub variables : VariableStatement
    variables = record { scope = scope; exported = exported; is_using = is_using; decl = node_at tree m }

    light_binding : (declarator : TreeNode) (n : ℕ) → IsLight (binding_events_at variables declarator n) 1
    light_binding declarator n =
        light_node tree (Some n) (binding_events variables declarator) 1 (λ c is. light_on (option_and_then ident_id (kinds tree c)) _ 1 (λ (id : Id) at.
        light_declared (is_exported scope exported) (id_view id)
        (definition_of_node (variable_node exported is_using (node_at tree m) declarator (node_at tree c))
        (range_or_empty declarator)) no_events_by_holder_and_start 0 (light_none 0)))

    light_declarator : (n : ℕ) → IsLight (declarator_events_at variables n) (w n)
    light_declarator n = light_node tree (Some n) (declarator_events variables) (w n)
        (λ c here. rw (← same_Some n c here) (light_field tree n name_child_of (bindings n) (w n) (λ kind p is field.
        let leaves = pattern_bindings tree p in
        let name : w p ≤ weights w (child_numbers kind) = omega (arith, rw field at (name_weighs w kind)) in
        light_up (bindings n (node_at tree p)) (length leaves) (w n) (omega (arith, name, weighs n kind is, leaves_weigh (length tree.nodes.items) p))
        (light_ones (binding_events_at variables (node_at tree n)) leaves (light_binding (node_at tree n))))))
      where
        bindings : ℕ → TreeNode → EventsByHolderAndStart
        bindings n pattern = events_of_each (binding_events_at variables (node_at tree n)) (pattern_bindings tree pattern.number)

    light_variables : (kind : Kind) → kinds tree m ≡ Some kind → IsLight (variable_statement_events variables) (weights w (decl_children_of kind))
    light_variables kind is = rw is (light_each (declarator_events_at variables) w (decl_children_of kind) light_declarator)

  -- ---- declarations with an identifier

  light_named : (scope : Scope) (exported : Option TreeNode) (n : ℕ) (kind : Kind) (form : ExportDeclView) → kinds tree n ≡ Some kind
      → IsLight (named_decl_events scope exported (node_at tree n) form) (w n)
  light_named scope exported n kind form is =
      light_on (declared_name (node_at tree n)) walk (w n) (λ id at. light_up (walk id) (suc (weights w (child_numbers kind))) (w n) (weighs n kind is)
      (light_declared (is_exported scope exported) (id_view id)
      (definition_of_node (maybe_exported_node exported form) (export_or_decl_range exported (node_at tree n))) members
      (weights w (child_numbers kind)) (light_members n kind is)))
    where
      members : EventsByHolderAndStart
      members = events_of_each (member_events_at tree) (class_or_interface_member_numbers (node_at tree n))

      walk : Id → EventsByHolderAndStart
      walk id = declare_and_add_events (is_exported scope exported) (id_view id)
          (definition_of_node (maybe_exported_node exported form) (export_or_decl_range exported (node_at tree n))) members

  pub light_declaration : (scope : Scope) (exported : Option TreeNode) (n : ℕ) (kind : Kind) → kinds tree n ≡ Some kind
      → IsLight (declaration_events scope exported (node_at tree n) kind) (w n)
  light_declaration scope exported n (Kind.Decl (Decl.VarDecl decls)) is =
      light_up (variable_statement_events (variables scope exported false n)) (weights w decls.items) (w n) (omega (
        arith,
        weighs n (Kind.Decl (Decl.VarDecl decls)) is,
        weights-append w decls.items [],
      )) (light_variables scope exported false n (Kind.Decl (Decl.VarDecl decls)) is)
  light_declaration scope exported n (Kind.Decl (Decl.UsingDecl decls)) is =
      light_up (variable_statement_events (variables scope exported true n)) (weights w decls.items) (w n) (omega (
        arith,
        weighs n (Kind.Decl (Decl.UsingDecl decls)) is,
        weights-append w decls.items [],
      )) (light_variables scope exported true n (Kind.Decl (Decl.UsingDecl decls)) is)
  light_declaration scope exported n kind is =
      light_on (export_decl_view_of_kind (node_at tree n) kind) (named_decl_events scope exported (node_at tree n)) (w n)
      (λ form at. light_named scope exported n kind form is)
