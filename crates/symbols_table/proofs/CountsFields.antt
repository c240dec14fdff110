-- The weight of a field is at most that of all children of its node's kind.
use Rattle.std.proofs.Common.{ℕ, ◌≤◌, List, [], ◌∷◌, ◌++◌, option_to_list, arith}
use Rattle.symbols_ast.specs.declared.tree.kinds.Kind.{Kind}
use Rattle.symbols_ast.specs.declared.tree.kinds.Item.TheVariants as Item
use Rattle.symbols_ast.specs.declared.tree.kinds.Decl.TheVariants as Decl
use Rattle.symbols_ast.specs.declared.tree.kinds.Member.TheVariants as Member
use Rattle.symbols_ast.specs.declared.tree.kinds.Pat.TheVariants as Pat
use Rattle.symbols_ast.specs.declared.tree.kinds.Expr.TheVariants as Expr
use Rattle.symbols_ast.specs.Nodes.{child_numbers}
use Rattle.symbols_ast.specs.Fields.{body_children_of, name_child_of, class_child_of, body_child_of, decl_child_of}
use Rattle.symbols_table.specs.Patterns.{pattern_parts}
use Rattle.symbols_table.proofs.CountsWeights.{weights, weights-append}

module _ (w : ℕ → ℕ) where
  -- Part of a concatenated list weighs at most as much as the whole.
  w_first : (xs ys : List ℕ) → weights w xs ≤ weights w (xs ++ ys)
  w_first xs ys = omega (arith, weights-append w xs ys)

  w_after : (xs ys zs : List ℕ) → weights w zs ≤ weights w ys → weights w zs ≤ weights w (xs ++ ys)
  w_after xs ys zs le = omega (arith, weights-append w xs ys, le)

  pub body_weighs : (kind : Kind) → weights w (body_children_of kind) ≤ weights w (child_numbers kind)
  body_weighs (Kind.Item (Item.Program body)) = w_first body.items []
  body_weighs (Kind.Decl (Decl.Class type_params super_class super_type_params implements body)) =
      w_after (option_to_list type_params) _ body.items
      (w_after (option_to_list super_class) _ body.items
      (w_after (option_to_list super_type_params) _ body.items
      (w_after implements.items _ body.items (w_first body.items []))))
  body_weighs (Kind.Decl (Decl.TsInterfaceDecl id type_params extends body)) =
      w_after (id ∷ []) _ body.items (w_after (option_to_list type_params) _ body.items (w_after extends.items _ body.items (w_first body.items [])))
  body_weighs (Kind.Decl (Decl.TsModuleBlock body)) = w_first body.items []
  body_weighs _ = omega arith

  pub name_weighs : (kind : Kind) → weights w (option_to_list (name_child_of kind)) ≤ weights w (child_numbers kind)
  name_weighs (Kind.Decl (Decl.VarDeclarator name init)) = w_first (name ∷ []) _
  name_weighs _ = omega arith

  pub class_weighs : (kind : Kind) → weights w (option_to_list (class_child_of kind)) ≤ weights w (child_numbers kind)
  class_weighs (Kind.Decl (Decl.ClassDecl ident class)) = omega arith
  class_weighs (Kind.Decl (Decl.ClassExpr ident class)) = w_after (option_to_list ident) _ (class ∷ []) (w_first (class ∷ []) [])
  class_weighs _ = omega arith

  pub body_node_weighs : (kind : Kind) → weights w (option_to_list (body_child_of kind)) ≤ weights w (child_numbers kind)
  body_node_weighs (Kind.Decl (Decl.Function type_params params return_type body)) =
      w_after (option_to_list type_params) _ (option_to_list body)
      (w_after params.items _ (option_to_list body) (w_after (option_to_list return_type) _ (option_to_list body) (w_first (option_to_list body) [])))
  body_node_weighs (Kind.Decl (Decl.TsModuleDecl id _ body)) = w_after (id ∷ []) _ (option_to_list body) (w_first (option_to_list body) [])
  body_node_weighs (Kind.Decl (Decl.TsNamespaceDecl id body)) = omega arith
  body_node_weighs (Kind.Member (Member.Constructor params body _)) = w_after params.items _ (option_to_list body) (w_first (option_to_list body) [])
  body_node_weighs (Kind.Expr (Expr.Arrow type_params params return_type _ body)) =
      w_after (option_to_list type_params) _ (body ∷ [])
      (w_after params.items _ (body ∷ []) (w_after (option_to_list return_type) _ (body ∷ []) (w_first (body ∷ []) [])))
  body_node_weighs _ = omega arith

  pub decl_weighs : (kind : Kind) → weights w (option_to_list (decl_child_of kind)) ≤ weights w (child_numbers kind)
  decl_weighs (Kind.Item (Item.ExportDecl decl)) = w_first (decl ∷ []) []
  decl_weighs (Kind.Item (Item.ExportDefaultDecl decl)) = w_first (decl ∷ []) []
  decl_weighs _ = omega arith

  pub parts_weigh : (kind : Kind) → weights w (pattern_parts kind) ≤ weights w (child_numbers kind)
  parts_weigh (Kind.Pat (Pat.ArrayPat elems _)) = w_first elems.items _
  parts_weigh (Kind.Pat (Pat.ObjectPat props _)) = w_first props.items _
  parts_weigh (Kind.Pat (Pat.RestPat arg _)) = w_first (arg ∷ []) _
  parts_weigh (Kind.Pat (Pat.KeyValuePatProp key value)) = omega arith
  parts_weigh (Kind.Pat (Pat.AssignPatProp key _)) = w_first (key ∷ []) _
  parts_weigh (Kind.Pat (Pat.AssignPat left _)) = omega arith
  parts_weigh _ = omega arith
