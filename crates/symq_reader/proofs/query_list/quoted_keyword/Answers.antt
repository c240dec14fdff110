use Rattle.std.proofs.Common.{◌≡◌, ℕ, zero, suc, ◌<◌, true, List, [], ◌∷◌, ◌++◌, length, get_or, take, drop, arith}
use Rattle.std.proofs.Common.{sym, subst, ap, ap₂, ◌∙◌, append_assoc, take-append-drop, get_or-take, length-take}
use Rattle.std.specs.Str.{IsUtf8}
use Rattle.std.proofs.lemmas.Str.{IsUtf8-from_ascii}
use Rattle.json.specs.Print.{escape, quoted}
use Rattle.json.specs.Run.{is_plain}
use Rattle.json.specs.Written.{PlainBetween}
use Rattle.json.proofs.Printed.Plain.{escape_on_plain}
use Rattle.symq_reader.proofs.query_list.quoted_keyword.Goals as goal

ascii_front : (bs : List ℕ) (n : ℕ) → ((k : ℕ) → k < n → get_or bs k 0 < 128) → (i : ℕ) → get_or (take n bs) i 0 < 128
ascii_front bs zero below i = omega arith
ascii_front [] (suc n) below i = omega arith
ascii_front (b ∷ bs) (suc n) below zero = below zero (omega arith)
ascii_front (b ∷ bs) (suc n) below (suc i) = ascii_front bs n (λ k l. below (suc k) (omega (arith, l))) i

unescaped_front : (bs : List ℕ) (n : ℕ) → PlainBetween bs 0 n → PlainBetween (take n bs) 0 (length (take n bs))
unescaped_front bs n unescaped k from below =
    let l : k < n = omega (arith, below, length-take n bs) in
    subst (λ b. is_plain b ≡ true) (sym (get_or-take n bs k 0 l)) (unescaped k from l)

in_quotes : (bytes inner front back keyword rest : List ℕ) → bytes ≡ 34 ∷ inner → inner ≡ front ++ back → back ≡ 34 ∷ rest → keyword ≡ front
    → escape front ≡ front → bytes ≡ quoted keyword ++ rest
in_quotes bytes inner front back keyword rest begins parts ends same unescaped =
    begins ∙ ap (λ t. 34 ∷ t) (parts ∙ ap₂ (λ x y. x ++ y) (sym unescaped ∙ sym (ap escape same)) ends ∙ sym (append_assoc (escape keyword) (34 ∷ []) rest))

pub from_utf8_unchecked-keyword-requires : goal.from_utf8_unchecked-keyword-requires
from_utf8_unchecked-keyword-requires c =
    subst IsUtf8 (sym c.split_at.ensures.front) (IsUtf8-from_ascii (take c.keyword_len.result c.in_ok-inner.inner.now)
    (ascii_front c.in_ok-inner.inner.now c.keyword_len.result c.keyword_len.ensures.ascii))

pub returns-clause-text : goal.returns-clause-text
returns-clause-text c =
    let inner = c.in_ok-inner.inner.now in
    let n = c.keyword_len.result in
    let parts = sym (take-append-drop n inner) ∙ ap₂ (λ x y. x ++ y) (sym c.split_at.ensures.front) (sym c.split_at.ensures.back) in
    let unescaped = escape_on_plain true (take n inner) (unescaped_front inner n c.keyword_len.ensures.unescaped) in
    in_quotes c.args.bytes.now inner c.split_at.result.0.now c.split_at.result.1.now c.from_utf8_unchecked-keyword.result.now c.in_ok-rest.rest.now
    c.in_ok-inner.ensures parts c.in_ok-rest.ensures c.from_utf8_unchecked-keyword.ensures
    (subst (λ t. escape t ≡ t) (sym c.split_at.ensures.front) unescaped)
