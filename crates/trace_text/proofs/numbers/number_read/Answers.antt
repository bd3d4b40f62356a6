use Rattle.std.proofs.Common.{sym, arith}
use Rattle.trace_text.proofs.NumberTexts.{not_plain, not_text, not_parsed, too_great, is_number}
use Rattle.trace_text.proofs.numbers.number_read.Goals as goal

pub returns-then-not-is_plain-clause-value : goal.returns-then-not-is_plain-clause-value
returns-then-not-is_plain-clause-value c =
    not_plain c.args.limit c.args.text.now c.ranges.limit.fits (sym c.if-not-is_plain.ensures)

pub returns-in_default-clause-value : goal.returns-in_default-clause-value
returns-in_default-clause-value c =
    not_text c.args.limit c.args.text.now c.ranges.limit.fits c.in_default.ensures.cases.0

pub returns-in_default-parse-clause-value : goal.returns-in_default-parse-clause-value
returns-in_default-parse-clause-value c =
    not_parsed c.args.limit c.args.text.now c.ranges.limit.fits c.in-Ok.digits.now c.parse.result
    c.in-Ok.ensures.cases.0 c.parse.ensures.value.0 _ c.in_default-parse.is

pub returns-then-n-limit-clause-value : goal.returns-then-n-limit-clause-value
returns-then-n-limit-clause-value c =
    too_great c.args.limit c.args.text.now c.ranges.limit.fits c.in-Ok.digits.now c.parse.result
    c.in-Ok.ensures.cases.0 c.parse.ensures.value.0 c.in-Ok-parse.n c.in-Ok-parse.is
    c.if-n-limit.true

pub returns-clause-value : goal.returns-clause-value
returns-clause-value c =
    let within = c.if-n-limit.false in
    is_number c.args.limit c.args.text.now c.ranges.limit.fits c.in-Ok.digits.now c.parse.result
    c.in-Ok.ensures.cases.0 c.parse.ensures.value.0 c.in-Ok-parse.n c.in-Ok-parse.is
    (omega (arith, within)) (sym c.if-not-is_plain.ensures)
