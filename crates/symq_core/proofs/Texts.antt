-- Tokens that are written after others, and the text of a value by its tokens.
use Rattle.std.proofs.Common.{◌≡◌, ℕ, List, [], ◌∷◌, ◌++◌, Ok, Option, None, Some, refl, ap, ◌∙◌, append_assoc}
use Rattle.json.specs.Token.{Token}
use Rattle.json.specs.Print.{print}
use Rattle.json.specs.Written.{Written, Writes}
use Rattle.serde_json.specs.Data.{Data, Members}
use Rattle.serde_json.specs.Written.{compact_text}
use Rattle.serde_json.proofs.Texts.{print-outline}
use Rattle.symq_core.specs.inner.JsonWriting.{AppendsTokens, tokens_of, remaining_member_tokens, star_member_tokens, found_member_tokens}
use Rattle.symbols_table.specs.DeclViews.{FileDepView}
use Rattle.symbols_answers.specs.Inputs.{FoundView, found_module, found_redirect, found_absent}
use Rattle.symq_core.specs.Queries.{members_with_found}
use Rattle.symq_core.specs.PathData.{members_with_star}

-- a write that succeeded has appended its token
pub written : {E : Type 0} {done : Unit {0}} {old new : Written} {t : Token} → Writes {E = E} (Ok done) old new t → AppendsTokens old new (t ∷ [])
written w = record { before = w.room.0; tokens = w.ok }

pub then : {a b c : Written} {ts us : List Token} → AppendsTokens a b ts → AppendsTokens b c us → AppendsTokens a c (ts ++ us)
then {a} {b} {c} {ts} {us} p q = record { before = q.before ∙ p.before; tokens = q.tokens ∙ ap (λ t. t ++ us) p.tokens ∙ append_assoc a.tokens ts us }

-- once the tokens of a value are written, the printed text is the initial bytes and then the value's text
pub text_after : (fresh done : Written) (bytes : List ℕ) (value : Data) → fresh.before ≡ bytes → fresh.tokens ≡ [] → AppendsTokens fresh done (tokens_of value)
    → done.before ++ print done.tokens ≡ bytes ++ compact_text value
text_after fresh done bytes value begun none answered =
    (λ i. (answered.before ∙ begun) i ++ print ((answered.tokens ∙ ap (λ ts. ts ++ tokens_of value) none) i)) ∙ ap (λ text. bytes ++ text) (print-outline value)

-- the members after the member `star`
pub star_before : (star : Option FileDepView) (rest : Members) → star_member_tokens star
    ++ remaining_member_tokens rest ≡ remaining_member_tokens (members_with_star star rest)
star_before None rest = refl
star_before (Some dep) rest = refl

-- the members after those for what the graph has under a specifier
pub found_before : (found : FoundView) (rest : Members) → found_member_tokens found
    ++ remaining_member_tokens rest ≡ remaining_member_tokens (members_with_found found rest)
found_before found_module rest = refl
found_before (found_redirect specifier) rest = refl
found_before found_absent rest = refl
