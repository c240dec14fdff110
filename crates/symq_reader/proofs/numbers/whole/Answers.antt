use Rattle.std.proofs.Common.{Some, sym, ap, ◌∙◌}
use Rattle.symq_reader.proofs.Numerals.{of_decimal}
use Rattle.symq_reader.proofs.numbers.whole.Goals as goal

pub returns-in-Some : goal.returns-in-Some
returns-in-Some c =
    ap Some c.from.ensures
    ∙ of_decimal c.args.digits.now c.in-Some.rest.now c.in-Some.number (sym c.as_bytes-bytes.ensures.value ∙ c.in-Some.ensures.text) (sym c.is_empty.ensures
    ∙ c.if-is_empty.true) c.in-Some.ensures.fits
