-- The keywords for the accessibility of a member and the kind of a method.
use Rattle.std.specs.Prelude.{ℕ, List, if◌then◌else◌, Option, Some, None, option_and_then, codes}
use Rattle.std.specs.Str.{bytes_eq}
use Rattle.serde_json.specs.Data.{Data}
use Rattle.serde_json.specs.Find.{as_str}
use Rattle.symbols_ast.specs.declared.tree.member_kinds.Accessibility.{Accessibility}
use Rattle.symbols_ast.specs.declared.tree.member_kinds.Accessibility.TheVariants.{Public, Protected, Private}
use Rattle.symbols_ast.specs.declared.tree.member_kinds.MethodKind.{MethodKind}
use Rattle.symbols_ast.specs.declared.tree.member_kinds.MethodKind.TheVariants.{Method, Getter, Setter}

-- the accessibility of a keyword
abbrev pub accessibility_by_keyword : List ℕ → Option Accessibility
accessibility_by_keyword t =
    if bytes_eq t (codes "public") then Some Public else
    if bytes_eq t (codes "protected") then Some Protected else
    if bytes_eq t (codes "private") then Some Private else None

abbrev pub as_accessibility : Data → Option Accessibility
as_accessibility d = option_and_then accessibility_by_keyword (as_str d)

-- the method kind of a keyword
abbrev pub method_kind_by_keyword : List ℕ → Option MethodKind
method_kind_by_keyword t =
    if bytes_eq t (codes "method") then Some Method else
    if bytes_eq t (codes "getter") then Some Getter else
    if bytes_eq t (codes "setter") then Some Setter else None

abbrev pub as_method_kind : Data → Option MethodKind
as_method_kind d = option_and_then method_kind_by_keyword (as_str d)
