use Rattle.std.proofs.Common.{ℕ, List, [], ◌∷◌, ◌++◌, ap, ◌∙◌, arith}
use Rattle.rd_base.specs.declared.peers.Peer.{Peer}
use Rattle.message_model.specs.Spelling.{spelling}
use Rattle.coap_message.specs.Views.{message_in}
use Rattle.coap_answers.specs.Replies.{reply_said}
use Rattle.coap_message.proofs.MessageSizes.{with_payload_size}
use Rattle.coap_answers.proofs.SendingLaws.{sends_answer}
use Rattle.coap_answers.proofs.replies.answer.Goals as goal

pub unreachable-requires : goal.unreachable-requires
unreachable-requires c =
    let short =
    with_payload_size c.begin_answer.new.writer c.args.reply.now.payload.now
    c.begin_answer.ensures.open_end in
    absurd (omega (
      arith,
      short,
      c.in_default.ensures.too_long,
      c.begin_answer.ensures.size,
      c.requires.reply.payload,
    ))

pub returns : goal.returns
returns c = record {
  sends = λ s notes of.
      sends_answer s (message_in c.args.view.now) (reply_said c.args.reply.now) notes c.args.peer
      c.args.out.now c.push.new.self c.args.mids.now c.begin_answer.new.mids
      c.in-Ok.datagram.now of
      (c.push.ensures
      ∙ ap (λ (ds : List (Peer × List ℕ)). ds ++ (c.args.peer, c.in-Ok.datagram.now) ∷ [])
      c.out.view_is)
      (c.in-Ok.ensures.spelled
      ∙ ap spelling (c.begin_answer.ensures.begun s of.worker of.drawn))
      c.begin_answer.ensures.worker c.begin_answer.ensures.drawn;
}
