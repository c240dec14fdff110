use Rattle.std.proofs.Common.{◌≡◌, ◌+◌, ◌*◌, take, decimal, subst, arith}
use Rattle.symq_reader.proofs.Digits.{digit_more}
use Rattle.symq_reader.proofs.short_numbers.five_digits.Goals as goal

pub returns-clause-text : goal.returns-clause-text
returns-clause-text c =
    let bytes = c.args.bytes.now in
    let a = c.args.first in
    let b = c.in_ok-second in
    let d = c.in_ok-third in
    let e = c.in_ok-fourth in
    let f = c.in_ok-fifth in
    let two = digit_more bytes 1 a b.second c.requires.first.0 (omega (arith, c.requires.first)) b.ensures.small b.ensures.within b.ensures.found
    c.requires.first.2 in
    let first = c.requires.first in
    let three = digit_more bytes 2 (a * 10 + b.second) d.third (omega (arith, first)) (omega (arith, first, b.ensures.small)) d.ensures.small d.ensures.within
    d.ensures.found two in
    let four = digit_more bytes 3 ((a * 10 + b.second) * 10 + d.third) e.fourth (omega (arith, first)) (omega (arith, first, b.ensures.small, d.ensures.small))
    e.ensures.small e.ensures.within e.ensures.found three in
    let five = digit_more bytes 4 (((a * 10 + b.second) * 10 + d.third) * 10 + e.fourth) f.fifth (omega (arith, first))
    (omega (arith, first, b.ensures.small, d.ensures.small, e.ensures.small)) f.ensures.small f.ensures.within f.ensures.found four in
    let same : (((a * 10 + b.second) * 10 + d.third) * 10 + e.fourth) * 10 + f.fifth ≡ a * 10000 + b.second * 1000 + d.third * 100 + e.fourth * 10 + f.fifth =
    omega arith in
    subst (λ n. take 5 bytes ≡ decimal n) same five
