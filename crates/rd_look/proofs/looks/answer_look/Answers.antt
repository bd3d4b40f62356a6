use Rattle.std.proofs.Common.{subst}
use Rattle.message_model.specs.Reading.{reading}
use Rattle.message_model.specs.Spelling.{spelling}
use Rattle.journal_model.specs.Effects.{Effects}
use Rattle.coap_answers.specs.Sendings.{Sends}
use Rattle.rd_request.specs.Accepted.{message_of}
use Rattle.rd_look.specs.Looking.{look_found, is_starved_look}
use Rattle.rd_look.proofs.LookLaws.{look_in, looked_by, looked_starved}
use Rattle.rd_look.proofs.looks.answer_look.Goals as goal

pub find-requires-clause-looks : goal.find-requires-clause-looks
find-requires-clause-looks c =
    let m = message_of c.args.request.now in
    (look_in (spelling m) m c.requires.read c.requires.looks).1

pub returns-in_default-clause-sends : goal.returns-in_default-clause-sends
returns-in_default-clause-sends c s history stands of =
    let m = message_of c.args.request.now in
    subst (λ (e : Effects).
    Sends e c.args.out.now c.answer_starved.new.out c.args.mids.now
    c.answer_starved.new.mids)
    (looked_starved history c.args.now.0 s (reading (spelling m)) m c.requires.read)
    (c.answer_starved.ensures.sends s of)

pub returns-clause-sends : goal.returns-clause-sends
returns-clause-sends c s history stands of =
    let m = message_of c.args.request.now in
    subst (λ (e : Effects). Sends e c.args.out.now c.give.new.out c.args.mids.now c.give.new.mids)
    (looked_by (is_starved_look c.give.result) history c.args.now.0 s (reading (spelling m)) m
    (look_found m c.in-Ok.found) c.requires.read
    (c.in-Ok.ensures history stands)) (c.give.ensures.sends s of)
