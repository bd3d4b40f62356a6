use Rattle.std.proofs.Common.{ℕ, List, [], ◌∷◌, ◌++◌, length, ap, ◌∙◌, arith}
use Rattle.rd_base.specs.declared.peers.Peer.{Peer}
use Rattle.message_model.specs.Message.{Message}
use Rattle.message_model.specs.Spelling.{spelling}
use Rattle.coap_message.specs.PartialMessages.{with_payload}
use Rattle.coap_message.proofs.MessageSizes.{begun_size}
use Rattle.journal_model.specs.Effects.{empty_message}
use Rattle.coap_answers.proofs.SendingLaws.{sends_octets}
use Rattle.coap_answers.proofs.empty_messages.send_empty.Goals as goal

pub unreachable-requires : goal.unreachable-requires
unreachable-requires c =
    let size =
    ap (λ (m : Message). length (spelling (with_payload m []))) c.restart.ensures
    ∙ begun_size c.args.kind 0 c.args.mid [] in
    absurd (omega (arith, size, c.in_default.ensures.too_long))

pub returns-clause-sent : goal.returns-clause-sent
returns-clause-sent c =
    c.push.ensures
    ∙ (ap (λ (ds : List (Peer × List ℕ)). ds ++ (c.args.peer, c.in-Ok.datagram.now) ∷ [])
    c.out.view_is
    ∙ ap (λ (xs : List ℕ). c.args.out.now ++ (c.args.peer, xs) ∷ [])
    (c.in-Ok.ensures.spelled
    ∙ ap (λ (w : Message). spelling (with_payload w [])) c.restart.ensures))

pub returns-clause-sends : goal.returns-clause-sends
returns-clause-sends c s mids of =
    sends_octets s c.args.peer (spelling (empty_message c.args.kind c.args.mid)) c.args.out.now
    c.push.new.self mids of
    (c.push.ensures
    ∙ (ap (λ (ds : List (Peer × List ℕ)). ds ++ (c.args.peer, c.in-Ok.datagram.now) ∷ [])
    c.out.view_is
    ∙ ap (λ (xs : List ℕ). c.args.out.now ++ (c.args.peer, xs) ∷ [])
    (c.in-Ok.ensures.spelled
    ∙ ap (λ (w : Message). spelling (with_payload w [])) c.restart.ensures)))
