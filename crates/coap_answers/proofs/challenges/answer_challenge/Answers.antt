use Rattle.std.proofs.Common.{◌≡◌, ℕ, List, [], ◌∷◌, ◌++◌, sym, ap, ◌∙◌, arith}
use Rattle.rd_base.specs.declared.peers.Peer.{Peer}
use Rattle.message_model.specs.Message.{Message}
use Rattle.message_model.specs.OptionTable as table
use Rattle.message_model.specs.Spelling.{spelling}
use Rattle.coap_message.specs.PartialMessages.{with_last_option, with_payload}
use Rattle.coap_message.specs.Views.{message_in}
use Rattle.coap_message.proofs.MessageSizes.{with_payload_size}
use Rattle.journal_model.specs.Effects as effects
use Rattle.journal_model.specs.Writes.{challenge}
use Rattle.coap_answers.proofs.SendingLaws.{sends_answer}
use Rattle.coap_answers.proofs.challenges.answer_challenge.Goals as goal

pub put_echo-requires-clause-ascends : goal.put_echo-requires-clause-ascends
put_echo-requires-clause-ascends c =
    let ends = c.begin_answer.ensures.ends in omega (arith, ends)

pub unreachable-requires : goal.unreachable-requires
unreachable-requires c =
    let short =
    with_payload_size c.put_echo.new.writer []
    (ap (λ (m : Message). m.payload) c.put_echo.ensures.put
    ∙ c.begin_answer.ensures.open_end) in
    absurd (omega (
      arith,
      short,
      c.in_default.ensures.too_long,
      c.put_echo.ensures.size,
      c.begin_answer.ensures.size,
    ))

pub returns : goal.returns
returns c = record {
  sends = λ s notes of.
      let m = message_in c.args.view.now in
      let begun = c.begin_answer.new.writer in
      let said = c.unauthorized.ensures.said in
      let bare : with_payload begun [] ≡ effects.answer s m (effects.bare 129) =
      ap (λ (r : effects.Reply). with_payload begun r.payload) (sym said)
      ∙ (c.begin_answer.ensures.begun s of.worker of.drawn
      ∙ ap (λ (r : effects.Reply). effects.answer s m r) said) in
      sends_answer s m (challenge c.args.value) notes c.args.peer c.args.out.now c.push.new.self
      c.args.mids.now c.begin_answer.new.mids c.in-Ok.datagram.now of
      (c.push.ensures
      ∙ ap (λ (ds : List (Peer × List ℕ)). ds ++ (c.args.peer, c.in-Ok.datagram.now) ∷ [])
      c.out.view_is)
      (c.in-Ok.ensures.spelled
      ∙ (ap (λ (w : Message). spelling (with_payload w [])) c.put_echo.ensures.put
      ∙ ap (λ (w : Message). spelling (with_last_option w (table.echo, c.args.value))) bare))
      c.begin_answer.ensures.worker c.begin_answer.ensures.drawn;
}
