use Rattle.std.proofs.Common.{◌≡◌, [], ◌∷◌, ◌++◌, map, Some, refl, sym, ap, ◌∙◌, arith, rules}
use Rattle.json.specs.Token.{Token}
use Rattle.json.specs.Json.{after_end_array}
use Rattle.symq_reader.specs.inner.Objects.{whole_number}
use Rattle.symq_reader.proofs.Entered.{whole_read, none_read, first_read, wholes_read}
use Rattle.symq_reader.proofs.stream.entries.list_of_wholes.Goals as goal

pub returns-then-take_end_array : goal.returns-then-take_end_array
returns-then-take_end_array c =
    let ts = c.args.reader.now in
    let new = c.take_end_array.new.self in
    let s = c.args.digits.now in
    let n = c.in_ok-first.first in
    let ends : after_end_array ts ≡ Some new = grind arith in
    wholes_read (Token.number s ∷ ts) new (n ∷ []) (n ∷ []) refl
    (first_read (λ d. Some d) 120 (Token.number s ∷ ts) ts new (whole_number n) [] (whole_read 120 (Token.number s ∷ ts) ts s n refl c.in_ok-first.ensures)
    (none_read (λ d. Some d) 120 ts new ends))

pub returns-then-take_end_array-2 : goal.returns-then-take_end_array-2
returns-then-take_end_array-2 c =
    let ts = c.args.reader.now in
    let mid = c.take_end_array.new.self in
    let end = c.next_whole.new.reader in
    let new = c.take_end_array-2.new.self in
    let s = c.args.digits.now in
    let m = c.in_ok-first.first in
    let n = c.in_ok-second.second in
    let stays : mid ≡ ts = grind arith in
    let ends : after_end_array end ≡ Some new = grind arith in
    let first = whole_read 120 (Token.number s ∷ ts) mid s m (ap (λ us. Token.number s ∷ us) (sym stays)) c.in_ok-first.ensures in
    let rest = first_read (λ d. Some d) 120 mid end new (whole_number n) [] c.in_ok-second.ensures (none_read (λ d. Some d) 120 end new ends) in
    wholes_read (Token.number s ∷ ts) new (m ∷ n ∷ []) (m ∷ n ∷ []) refl
    (first_read (λ d. Some d) 120 (Token.number s ∷ ts) mid new (whole_number m) (whole_number n ∷ []) first rest)

pub returns : goal.returns
returns c =
    let ts = c.args.reader.now in
    let mid = c.take_end_array.new.self in
    let end = c.next_whole.new.reader in
    let next = c.take_end_array-2.new.self in
    let new = c.other_items.new.reader in
    let s = c.args.digits.now in
    let m = c.in_ok-first.first in
    let n = c.in_ok-second.second in
    let h = c.in_ok-other_items.ensures in
    let stays : mid ≡ ts = grind arith in
    let stays_again : next ≡ end = grind arith in
    let pushed : c.push.new.self.items ≡ m ∷ [] = search rules in
    let pushed_again : c.push-2.new.self.items ≡ c.push.new.self.items ++ n ∷ [] = search rules in
    let all : c.other_items.new.found.items ≡ m ∷ n ∷ h.0 = h.2 ∙ ap (λ xs. xs ++ h.0) (pushed_again ∙ ap (λ xs. xs ++ n ∷ []) pushed) in
    let first = whole_read 120 (Token.number s ∷ ts) mid s m (ap (λ us. Token.number s ∷ us) (sym stays)) c.in_ok-first.ensures in
    let rest = first_read (λ d. Some d) 120 mid end new (whole_number n) (map whole_number h.0) c.in_ok-second.ensures (rw stays_again at h.1) in
    wholes_read (Token.number s ∷ ts) new (m ∷ n ∷ h.0) c.other_items.new.found.items all
    (first_read (λ d. Some d) 120 (Token.number s ∷ ts) mid new (whole_number m) (whole_number n ∷ map whole_number h.0) first rest)
