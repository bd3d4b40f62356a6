-- What the digits parse to.
use Rattle.std.proofs.Common.{arith, sym, ◌∙◌}
use Rattle.query_text.proofs.NumberLaws.{parsed_number, great_number}
use Rattle.query_text.proofs.options.number.Goals as goal

pub returns-in-Ok : goal.returns-in-Ok
returns-in-Ok c =
    parsed_number c.args.text.now c.parse.result c.parse.ensures.value.0 (sym c.if-is_empty.ensures)
    (omega (arith, c.if-text-gt10.false)) (sym c.are_digits.ensures ∙ c.if-not-are_digits.false)
    c.in-Ok.n c.in-Ok.is

pub returns-in-Err : goal.returns-in-Err
returns-in-Err c =
    great_number c.args.text.now c.parse.result c.parse.ensures.value.0 (sym c.if-is_empty.ensures)
    (omega (arith, c.if-text-gt10.false)) (sym c.are_digits.ensures ∙ c.if-not-are_digits.false)
    c.in-Err.field-0 c.in-Err.is
