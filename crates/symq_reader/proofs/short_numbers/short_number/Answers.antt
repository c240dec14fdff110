use Rattle.std.proofs.Common.{◌≡◌, take, decimal, subst, arith}
use Rattle.symq_reader.proofs.Digits.{digit_first, digit_more, digits_then}
use Rattle.symq_reader.proofs.short_numbers.short_number.Goals as goal

pub returns-then-first-eq0-clause-text : goal.returns-then-first-eq0-clause-text
returns-then-first-eq0-clause-text c =
    let bytes = c.args.bytes.now in
    let zero : c.in_ok-first.first ≡ 0 = omega arith in
    let first : take 1 bytes ≡ decimal 0 = subst (λ n. take 1 bytes
    ≡ decimal n) zero (digit_first bytes c.in_ok-first.first c.in_ok-first.ensures.within c.in_ok-first.ensures.found c.in_ok-first.ensures.small) in
    cc (digits_then bytes 1 0 first)

pub first_digits-found-requires-clause-first : goal.first_digits-found-requires-clause-first
first_digits-found-requires-clause-first c =
    let first = c.in_ok-first in
    (omega arith, first.ensures.small, digit_first c.args.bytes.now first.first first.ensures.within first.ensures.found first.ensures.small)

pub digits-init : goal.digits-init
digits-init c =
    let some = c.first_digits-found.ensures in
    (some.within.0, some.within.1, some.text)

pub digits-preserved : goal.digits-preserved
digits-preserved c =
    let bytes = c.args.bytes.now in (
      omega arith,
      omega (arith, c.in-Some.ensures.within),
      digit_more bytes c.digits.index c.digits.found c.in-Some.next (omega arith) (omega arith)
          c.in-Some.ensures.small c.in-Some.ensures.within c.in-Some.ensures.found c.digits.invariant.2,
    )
