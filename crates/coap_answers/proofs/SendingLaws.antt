-- What is sent is what an effect sends.
use Rattle.std.proofs.Common.{◌≡◌, ℕ, List, [], ◌∷◌, ◌++◌, refl, sym, ap, ◌∙◌, append-nil}
use Rattle.rd_base.specs.declared.peers.Peer.{Peer}
use Rattle.message_model.specs.Message.{Message}
use Rattle.message_model.specs.Spelling.{spelling}
use Rattle.event_model.specs.declared.notes.Note.{Note}
use Rattle.journal_model.specs.declared.steps.Step.{Step}
use Rattle.journal_model.specs.Effects.{
  Reply,
  nothing,
  noting,
  sending,
  answer,
  answering,
  drawn_for,
}
use Rattle.journal_model.specs.UnfinishedRow.{drawing}
use Rattle.coap_answers.specs.declared.mids.Mids.{Mids}
use Rattle.coap_answers.specs.Sendings.{IsStepOf, Sends}

-- a datagram that spells the answer to a request, and as many Message IDs drawn as it draws
pub sends_answer : (s : Step) (m : Message) (reply : Reply) (notes : List Note) (sender : Peer)
    (before now : List (Peer × List ℕ)) (mids_before mids : Mids) (datagram : List ℕ)
    → IsStepOf s sender mids_before
    → now ≡ before ++ (sender, datagram) ∷ []
    → datagram ≡ spelling (answer s m reply)
    → mids.worker ≡ mids_before.worker
    → mids.drawn ≡ drawing (drawn_for m.kind) mids_before.drawn
    → Sends (answering s m reply notes) before now mids_before mids
unfolding answering
sends_answer s m reply notes sender before now mids_before mids datagram of sent is worker drawn =
    record {
      sent =
          sent
          ∙ ap (λ (p : Peer × List ℕ). before ++ p ∷ [])
          (ap (λ (p : Peer). (p, datagram)) (sym of.peer_is) ∙ ap (λ (d : List ℕ). (s.peer, d)) is);
      worker = worker;
      drawn = drawn;
    }

-- nothing is sent, and nothing is drawn
pub sends_nothing : (before : List (Peer × List ℕ)) (mids : Mids)
    → Sends nothing before before mids mids
sends_nothing before mids = record { sent = sym (append-nil before); worker = refl; drawn = refl }

-- nothing is sent, and this is noted
pub sends_notes : (notes : List Note) (before : List (Peer × List ℕ)) (mids : Mids)
    → Sends (noting notes) before before mids mids
sends_notes notes before mids = record {
  sent = sym (append-nil before);
  worker = refl;
  drawn = refl;
}

-- octets are sent to the peer of the step
pub sends_octets : (s : Step) (sender : Peer) (octets : List ℕ) (before now : List (Peer × List ℕ))
    (mids : Mids)
    → s.peer ≡ sender
    → now ≡ before ++ (sender, octets) ∷ []
    → Sends (sending s.peer octets) before now mids mids
sends_octets s sender octets before now mids of sent = record {
  sent = sent ∙ ap (λ (p : Peer). before ++ (p, octets) ∷ []) (sym of);
  worker = refl;
  drawn = refl;
}
