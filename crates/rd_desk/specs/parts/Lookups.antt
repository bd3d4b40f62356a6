-- Lookups and reads whose answers depend on the journal. The definitions say whether they allocate,
-- and what they note (RFC 7959 section 2.4, RFC 7641 sections 3 and 4.1).
use Rattle.std.specs.Prelude.{
  ◌≡◌,
  ℕ,
  Bool,
  true,
  false,
  List,
  [],
  ◌∷◌,
  Option,
  Some,
  None,
  IfSome,
  is_some,
  option_and_then,
  if◌then◌else◌,
}
use Rattle.std.specs.Arc.{arc_value}
use Rattle.rd_base.specs.declared.peers.Peer.{Peer}
use Rattle.rd_base.specs.declared.queries.Query.{Query}
use Rattle.message_model.specs.Message.{Message}
use Rattle.message_model.specs.RequestKey.{key_in}
use Rattle.history_model.specs.declared.entries.Entry.{Entry}
use Rattle.history_model.specs.Listing.{listing, tag}
use Rattle.event_model.specs.declared.notes.Note.{Note}
use Rattle.event_model.specs.declared.notes.Note.TheVariants as note
use Rattle.event_model.specs.Events.{Event, noted}
use Rattle.event_model.specs.KeptAnswers.{Answer, KeptAnswer, kept_answer}
use Rattle.event_model.specs.Observers.{observe_value}
use Rattle.journal_model.specs.declared.steps.Step.{Step}
use Rattle.journal_model.specs.declared.rows.Row.{Row}
use Rattle.journal_model.specs.Bodies.{body_reply}
use Rattle.journal_model.specs.Effects.{Effects, answering, without_memory}
use Rattle.journal_model.specs.Lookups.{later_block, lookup_effects}
use Rattle.journal_model.specs.Requests.{asked_block, szx_of}
use Rattle.journal_model.specs.Rows.{row_moment}
use Rattle.journal_model.specs.Sought.{answer_for, sought_in}
use Rattle.transfers.specs.TransferEvents.{Table, AnswersStandFor, TransfersStandFor}
use Rattle.coap_answers.specs.declared.mids.Mids.{Mids}
use Rattle.coap_answers.specs.AskedBlocks.{has_asked_block}
use Rattle.coap_answers.specs.Sendings.{IsStepOf, Sends}
use Rattle.observation.specs.declared.joining.Joining.{Joining}
use Rattle.rd_desk.specs.declared.lookup.listings.Formed.{Formed}
use Rattle.rd_desk.specs.declared.lookup.listings.Listed.{Listed}

-- Returns a listing or a source as an answer.
abbrev pub answer_listed : Listed → Answer
answer_listed l = record { body = arc_value l.body; tag = l.tag.0 }

-- Returns the listing of a query in a history at a moment, under its tag.
abbrev pub answer_at : List Entry → ℕ → Query → Answer
answer_at history moment query = record {
  body = listing query history moment;
  tag = tag history moment;
}

-- Returns what a request finds in a history at a moment, under its tag, or `None` if the
-- registration is not live.
abbrev pub answer_found : List Entry → ℕ → Message → Option Answer
answer_found history moment m =
    option_and_then (λ sought. answer_for sought history moment) (sought_in m)

-- States that the kept answers are those before, with this answer kept after them at a moment,
-- under a peer and a key.
abbrev pub AreWith : ℕ → Peer → List ℕ → Answer → List KeptAnswer → List KeptAnswer → Type 0
AreWith moment peer key answer before after =
    (events : List Event) (place word : ℕ)
    → AnswersStandFor events before
    → AnswersStandFor
    (noted place moment word (note.Kept peer key answer.body answer.tag ∷ []) events) after

-- An answer that is built, to be kept or not.
pub record IsFormed (keep : Bool) (answer : Answer) (f : Formed) : Type 0 where
  pub listed : answer_listed f.listed ≡ answer
  pub kept : is_some f.ready ≡ keep

-- States what is built for a later block: the answer found, to be kept if it has that block. If
-- nothing is found, nothing is built.
abbrev pub IsFormedOf : Message → Option Answer → Option Formed → Type 0
IsFormedOf m None None = Unit {0}
IsFormedOf m None (Some f) = ⊥
IsFormedOf m (Some answer) None = ⊥
IsFormedOf m (Some answer) (Some f) =
    IsFormed (has_asked_block (asked_block m) answer.body) answer f

-- States that the kept answers that are ready are those before, with this answer after them.
abbrev pub IsReadied : ℕ → Peer → List ℕ → List KeptAnswer → Formed → Type 0
IsReadied moment peer key before f =
    IfSome f.ready (AreWith moment peer key (answer_listed f.listed) before)

-- Returns the note that an answer is kept, if it is kept.
abbrev pub kept_if : Bool → Step → Message → Answer → List Note
kept_if true s m answer = note.Kept s.peer (key_in m) answer.body answer.tag ∷ []
kept_if false s m answer = []

-- Returns the effects of sending the requested block of an answer, which is kept or not.
abbrev pub giving : Bool → Option ℕ → Step → Message → Answer → Effects
giving keep observe s m answer =
    answering s m (body_reply (Some answer.tag) observe (asked_block m) answer.body)
    (kept_if keep s m answer)

-- Returns the next Observe value, if one is sent.
abbrev pub value_given : Bool → List Event → Option ℕ
value_given added events = if added then Some (observe_value events) else None

-- A client that asks to observe, by its request, and the body of the answer.
pub record IsJoining (peer : Peer) (m : Message) (octets : List ℕ) (j : Joining) : Type 0 where
  pub peer_is : j.peer ≡ peer
  pub token : j.token ≡ m.token
  pub key : j.key ≡ key_in m
  pub szx : j.szx ≡ szx_of (asked_block m)
  pub body : arc_value j.body ≡ octets

-- A later block that was sent, of the answer kept under a peer and a key. Sending it is a use of
-- the answer.
pub record IsUsed (at moment : ℕ) (peer : Peer) (key : List ℕ) (m : Message) (events : List Event)
    (after : Table) (out sent : List (Peer × List ℕ)) (mids_before mids : Mids) : Type 0 where
  pub answer : Answer
  pub kept : kept_answer moment (peer, key) events ≡ Some answer
  pub sends : (s : Step) (notes : List Note)
      → IsStepOf s peer mids_before
      → Sends (answering s m (body_reply (Some answer.tag) None (asked_block m) answer.body) notes)
      out sent mids_before mids
  pub stands : (e : Event)
      → e.note ≡ note.Used peer key
      → e.moment ≡ moment
      → TransfersStandFor at (e ∷ events) after

-- Returns the effects of a request for a later block. If memory ran out, the answer is 5.00.
abbrev pub later_heard : Bool → List Row → Step → Message → Effects
later_heard true rows s m = without_memory s m
later_heard false rows s m = later_block rows (row_moment rows s) s m

-- Returns the effects of a lookup whose answer depends on the journal. If memory ran out, the
-- answer is 5.00.
abbrev pub lookup_heard : Bool → List Row → Step → Message → Effects
lookup_heard true rows s m = without_memory s m
lookup_heard false rows s m = lookup_effects rows (row_moment rows s) s m
