use Rattle.coap_stream.proofs.SignalLaws.{cause_none, cause_some}
use Rattle.coap_stream.proofs.talks.cause_in.Goals as goal

pub returns-in_default-clause-value : goal.returns-in_default-clause-value
returns-in_default-clause-value c =
    cause_none c.args.reader.now.pending c.shown.result c.shown.ensures c.in_default.is

pub returns-clause-value : goal.returns-clause-value
returns-clause-value c =
    cause_some c.args.reader.now.pending c.shown.result c.in-Some.frame c.bad_option.result
    c.shown.ensures c.in-Some.is c.bad_option.ensures.value
