use Rattle.std.proofs.Common.{ℕ, List, subst}
use Rattle.message_model.specs.Reading.{reading}
use Rattle.journal_model.specs.Looks.{looked, held_after}
use Rattle.coap_answers.specs.Sendings.{Sends}
use Rattle.rd_look.specs.Looking.{is_starved_look, IsHeld}
use Rattle.rd_look.proofs.looks.look.Goals as goal

-- the request that is answered is the one that is read of the datagram

pub returns-clause-sends : goal.returns-clause-sends
returns-clause-sends c s history stands of =
    let starved = is_starved_look c.answer_look.result in
    subst (λ (octets : List ℕ).
    Sends (looked starved history c.args.now.0 s (reading octets)) c.args.out.now
    c.answer_look.new.out c.args.mids.now c.answer_look.new.mids)
    c.look_request-request.ensures.spelled (c.answer_look.ensures.sends s history stands of)

pub returns-clause-held : goal.returns-clause-held
returns-clause-held c history stands =
    let starved = is_starved_look c.answer_look.result in
    subst (λ (octets : List ℕ).
    IsHeld c.args.peer octets (held_after starved history c.args.now.0 (reading octets))
    c.answer_look.result)
    c.look_request-request.ensures.spelled (c.answer_look.ensures.held history stands)
