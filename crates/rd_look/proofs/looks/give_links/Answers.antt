use Rattle.std.proofs.Common.{[], Some, subst}
use Rattle.message_model.specs.Spelling.{spelling}
use Rattle.coap_message.specs.Views.{message_in}
use Rattle.journal_model.specs.Looks.{Look, look_sent, body_held}
use Rattle.coap_answers.specs.Sendings.{Sends}
use Rattle.coap_answers.proofs.SendingLaws.{sends_nothing}
use Rattle.rd_look.specs.declared.looks.Looked.TheVariants as ended
use Rattle.rd_look.specs.Looking.{IsHeld}
use Rattle.rd_look.proofs.LookLaws.{given_whole, given_held}
use Rattle.rd_look.proofs.looks.give_links.Goals as goal

pub returns-then-not-is_long-clause-sends : goal.returns-then-not-is_long-clause-sends
returns-then-not-is_long-clause-sends c s of =
    let m = message_in c.args.request.now.meaning.view in
    subst (λ (given : Look).
    Sends (look_sent s m (Some given)) c.args.out.now c.send_block.new.out c.args.mids.now
    c.send_block.new.mids)
    (given_whole m c.args.tagged.octets c.args.tagged.tag.0 c.as_slice.result.now
    c.as_slice-then-not-is_long.result.now c.args.request.now.asked c.is_long.result
    c.args.request.now.asked_said c.as_slice.ensures.value c.is_long.ensures c.if-not-is_long.true
    c.as_slice-then-not-is_long.ensures.value)
    (c.send_block.ensures s [] of)

pub returns-then-not-is_long-clause-held : goal.returns-then-not-is_long-clause-held
returns-then-not-is_long-clause-held c =
    let m = message_in c.args.request.now.meaning.view in
    subst (λ (given : Look).
    IsHeld c.args.peer (spelling m) (body_held (Some given)) ended.Done)
    (given_whole m c.args.tagged.octets c.args.tagged.tag.0 c.as_slice.result.now
    c.as_slice-then-not-is_long.result.now c.args.request.now.asked c.is_long.result
    c.args.request.now.asked_said c.as_slice.ensures.value c.is_long.ensures c.if-not-is_long.true
    c.as_slice-then-not-is_long.ensures.value)
    tt

pub returns-clause-sends : goal.returns-clause-sends
returns-clause-sends c s of =
    let m = message_in c.args.request.now.meaning.view in
    subst (λ (given : Look).
    Sends (look_sent s m (Some given)) c.args.out.now c.args.out.now c.args.mids.now
    c.args.mids.now)
    (given_held m c.args.tagged.octets c.args.tagged.tag.0 c.as_slice.result.now
    c.args.request.now.asked c.is_long.result c.args.request.now.asked_said
    c.as_slice.ensures.value c.is_long.ensures
    c.if-not-is_long.false)
    (sends_nothing c.args.out.now c.args.mids.now)

pub returns-clause-held : goal.returns-clause-held
returns-clause-held c =
    let m = message_in c.args.request.now.meaning.view in
    subst (λ (given : Look).
    IsHeld c.args.peer (spelling m) (body_held (Some given))
    (ended.Held c.in-Ok.job))
    (given_held m c.args.tagged.octets c.args.tagged.tag.0 c.as_slice.result.now
    c.args.request.now.asked c.is_long.result c.args.request.now.asked_said
    c.as_slice.ensures.value c.is_long.ensures
    c.if-not-is_long.false)
    c.in-Ok.ensures
