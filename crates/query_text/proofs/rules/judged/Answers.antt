-- By whether the octets are text.
use Rattle.std.proofs.Common.{Some, None, sym, ◌∙◌}
use Rattle.query_text.proofs.OctetFaults.{bad_text, good_text}
use Rattle.query_text.proofs.rules.judged.Goals as goal

pub returns-in_default-clause-fault : goal.returns-in_default-clause-fault
returns-in_default-clause-fault c =
    bad_text c.args.kind c.args.occurred.now c.args.option.now c.in_default.ensures.cases.0

pub returns-in-Some-clause-fault : goal.returns-in-Some-clause-fault
returns-in-Some-clause-fault c =
    good_text c.args.kind c.args.occurred.now c.args.option.now c.in-Ok.text.now _ _
    (Some c.in-Some.why) c.in-Ok.ensures.cases.1 c.in-Ok.ensures.cases.0
    c.name_and_value.ensures.name c.name_and_value.ensures.value
    (sym c.in-Some.is ∙ c.named_fault.ensures)

pub returns-in-None-clause-fault : goal.returns-in-None-clause-fault
returns-in-None-clause-fault c =
    good_text c.args.kind c.args.occurred.now c.args.option.now c.in-Ok.text.now _ _ None
    c.in-Ok.ensures.cases.1 c.in-Ok.ensures.cases.0 c.name_and_value.ensures.name
    c.name_and_value.ensures.value (sym c.in-None.is ∙ c.named_fault.ensures)
