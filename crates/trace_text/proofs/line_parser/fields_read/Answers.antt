use Rattle.trace_text.proofs.LineFields.{one_says_nothing, two_say_nothing, seven_say_nothing}
use Rattle.trace_text.proofs.line_parser.fields_read.Goals as goal

pub returns-in_default : goal.returns-in_default
returns-in_default c = one_says_nothing c.args.line.now c.in_default.ensures

pub returns-in_default-cut : goal.returns-in_default-cut
returns-in_default-cut c =
    two_say_nothing c.args.line.now c.in-Some.verb.now c.in-Some.rest.now c.in-Some.ensures
    c.in_default-cut.ensures

pub returns-in-Some-cut-5 : goal.returns-in-Some-cut-5
returns-in-Some-cut-5 c =
    seven_say_nothing c.args.line.now c.in-Some.verb.now c.in-Some.rest.now
    c.in-Some-cut.worker.now c.in-Some-cut.rest.now c.in-Some-cut-2.moment.now
    c.in-Some-cut-2.rest.now c.in-Some-cut-3.fourth.now c.in-Some-cut-3.rest.now
    c.in-Some-cut-4.fifth.now c.in-Some-cut-4.rest.now c.in-Some-cut-5.field-0.0.now
    c.in-Some-cut-5.field-0.1.now c.in-Some.ensures c.in-Some-cut.ensures
    c.in-Some-cut-2.ensures c.in-Some-cut-3.ensures c.in-Some-cut-4.ensures
    c.in-Some-cut-5.ensures
