use Rattle.std.proofs.Common.{ℕ, List, [], Some, None, sym, subst}
use Rattle.coap_message.specs.Views.{message_in}
use Rattle.journal_model.specs.Bodies.{body_reply}
use Rattle.journal_model.specs.Effects.{Reply, answering}
use Rattle.journal_model.specs.Looks.{look_sent}
use Rattle.coap_answers.specs.Sendings.{Sends}
use Rattle.journal_model.specs.Requests.{asked_block}
use Rattle.rd_look.specs.declared.looks.Found.{Found}
use Rattle.rd_look.specs.Looking.{look_found, is_starved_look, look_done}
use Rattle.rd_look.proofs.looks.give.Goals as goal

pub returns-in-Valid-clause-sends : goal.returns-in-Valid-clause-sends
returns-in-Valid-clause-sends c s of =
    let m = message_in c.args.request.now.meaning.view in
    subst (λ (f : Found).
    Sends (look_sent s m (Some (look_found m f))) c.args.out.now c.answer.new.out
    c.args.mids.now c.answer.new.mids) (sym c.in-Valid.is)
    (subst (λ (reply : Reply).
    Sends (answering s m reply []) c.args.out.now c.answer.new.out c.args.mids.now
    c.answer.new.mids) c.still_valid.ensures.said (c.answer.ensures.sends s [] of))

pub returns-in-Links-clause-sends : goal.returns-in-Links-clause-sends
returns-in-Links-clause-sends c s of =
    let m = message_in c.args.request.now.meaning.view in
    subst (λ (f : Found).
    Sends (look_done (is_starved_look c.give_links.result) s m (look_found m f))
    c.args.out.now c.give_links.new.out c.args.mids.now c.give_links.new.mids)
    (sym c.in-Links.is)
    (c.give_links.ensures.sends s of)

pub returns-in-OwnLinks-clause-sends : goal.returns-in-OwnLinks-clause-sends
returns-in-OwnLinks-clause-sends c s of =
    let m = message_in c.args.request.now.meaning.view in
    subst (λ (f : Found).
    Sends (look_sent s m (Some (look_found m f))) c.args.out.now c.send_block.new.out
    c.args.mids.now c.send_block.new.mids)
    (sym c.in-OwnLinks.is)
    (subst (λ (body : List ℕ).
    Sends (answering s m (body_reply None None (asked_block m) body) []) c.args.out.now
    c.send_block.new.out c.args.mids.now c.send_block.new.mids) c.as_slice.ensures.value
    (c.send_block.ensures s [] of))

pub returns-in-NotLive-clause-sends : goal.returns-in-NotLive-clause-sends
returns-in-NotLive-clause-sends c s of =
    let m = message_in c.args.request.now.meaning.view in
    subst (λ (f : Found).
    Sends (look_sent s m (Some (look_found m f))) c.args.out.now c.answer_not_live.new.out
    c.args.mids.now c.answer_not_live.new.mids)
    (sym c.in-NotLive.is) (c.answer_not_live.ensures s [] of)
