-- The tokens of a JSON value, and what was written of it.
use Rattle.std.specs.Prelude.{◌≡◌, ℕ, List, [], ◌∷◌, ◌++◌, Result, OnOk, Option, Some, None, codes}
use Rattle.json.specs.Token.{Token, begin_object, begin_array, key, string}
use Rattle.json.specs.Tree.{json_tokens, items_tokens, members_tokens}
use Rattle.json.specs.Written.{Written}
use Rattle.serde_json.specs.Data.{Data, Items, Members}
use Rattle.serde_json.specs.View.{items_of}
use Rattle.serde_json.specs.Written.{outline, items_outline, members_outline}
use Rattle.symbols_table.specs.DeclViews.{FileDepView}
use Rattle.symbols_paths.specs.PathTrees.{DeclBySpecifier}
use Rattle.symbols_answers.specs.Inputs.{FoundView, found_module, found_redirect, found_absent}
use Rattle.symq_core.specs.PathData.{decl_symbol_and_index_json}

-- the tokens of a value, in order
abbrev pub tokens_of : Data → List Token
tokens_of value = json_tokens (outline value)

-- the tokens of an array after its bracket, if these are its values
abbrev pub remaining_value_tokens : List Data → List Token
remaining_value_tokens values = items_tokens (items_outline (items_of values))

-- the tokens were appended to what the writer had
pub record AppendsTokens (old new : Written) (added : List Token) : Type 0 where
  pub before : new.before ≡ old.before
  pub tokens : new.tokens ≡ old.tokens ++ added

-- on success the tokens were written
abbrev pub AppendsTokensIfOk : {E : Type 0} → Result (Unit {0}) E → Written → Written → List Token → Type 0
AppendsTokensIfOk r old new tokens = OnOk r (AppendsTokens old new tokens)

-- on success the tokens of the value were written
abbrev pub AppendsValueTokensIfOk : {E : Type 0} → Result (Unit {0}) E → Written → Written → Data → Type 0
AppendsValueTokensIfOk r old new value = AppendsTokensIfOk r old new (tokens_of value)

-- the tokens of these members and of the end of their object
abbrev pub remaining_member_tokens : Members → List Token
remaining_member_tokens members = members_tokens (members_outline members)

-- the tokens of these items and of the end of their array
abbrev pub remaining_item_tokens : Items → List Token
remaining_item_tokens items = items_tokens (items_outline items)

-- the tokens of the member `star`; none for a definition
abbrev pub star_member_tokens : Option FileDepView → List Token
star_member_tokens None = []
star_member_tokens (Some dep) = key (codes "star") ∷ string dep.specifier ∷ []

-- the tokens of the members for what the graph has under a specifier
abbrev pub found_member_tokens : FoundView → List Token
found_member_tokens found_module = key (codes "found") ∷ string (codes "module") ∷ []
found_member_tokens (found_redirect specifier) = key (codes "found") ∷ string (codes "redirect") ∷ key (codes "module") ∷ string specifier ∷ []
found_member_tokens found_absent = key (codes "found") ∷ string (codes "absent") ∷ []

-- the tokens of a link up to the bracket of `next`
abbrev pub link_tokens_up_to_next : List ℕ → DeclBySpecifier → List Token
link_tokens_up_to_next specifier decl = begin_object ∷ key (codes "decl")
    ∷ (tokens_of (decl_symbol_and_index_json decl) ++ key (codes "module") ∷ string specifier ∷ key (codes "next") ∷ begin_array ∷ [])
