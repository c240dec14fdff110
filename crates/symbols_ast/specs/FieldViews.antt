-- The views of fields that contracts use, each with the category of kinds that it allows.
use Rattle.std.specs.Prelude.{ℕ, List, [], ◌∷◌, Option}
use Rattle.std.specs.Option.{option_map, option_to_list}
use Rattle.std.specs.List.{filter_map}
use Rattle.symbols_ast.specs.declared.tree.categories.Category.{Category}
use Rattle.symbols_ast.specs.declared.tree.field.Children.{Children}
use Rattle.symbols_ast.specs.declared.tree.field.Children.TheVariants.{One, Optional, Many}
use Rattle.symbols_ast.specs.declared.tree.field.Field.{Field}

-- A field: the category of kinds that it allows, and the numbers of its children.
pub record FieldView : Type 0 where
  pub category : Category
  pub children : List ℕ

abbrev pub field_of_one_child : Category → ℕ → FieldView
field_of_one_child category child = record { category = category; children = child ∷ [] }

abbrev pub field_of_optional_child : Category → Option ℕ → FieldView
field_of_optional_child category child = record { category = category; children = option_to_list child }

abbrev pub field_of_children : Category → List ℕ → FieldView
field_of_children category children = record { category = category; children = children }

-- The numbers of the children in a field.
abbrev pub children_view : Children → List ℕ
children_view (One child) = child ∷ []
children_view (Optional child) = option_to_list child
children_view (Many children) = children.now

abbrev pub field_view : Field → FieldView
field_view f = record { category = f.category; children = children_view f.children }

abbrev pub field_views : List (Option Field) → List FieldView
field_views fs = filter_map (option_map field_view) fs
