-- The most observers, queries that are observed, and exchanges: what is answered after a row that
-- added as many as there may be. Beside each the datagrams are shown: type, code, Message ID,
-- token, options, payload.
use Rattle.std.specs.Prelude.{⊤}
use Rattle.std.proofs.Common.{
  ◌≡◌,
  ℕ,
  Bool,
  true,
  false,
  List,
  [],
  ◌∷◌,
  ◌++◌,
  length,
  map,
  filter,
  flat_map,
  nat_le,
  codes,
  decimal,
  refl,
  ap,
  ◌∙◌,
}
use Rattle.std.specs.List.{range_with_len}
use Rattle.rd_base.specs.declared.queries.Query.{Query}
use Rattle.message_model.specs.declared.messages.Kind4.TheVariants.{Con}
use Rattle.message_model.specs.Codes as codes_of
use Rattle.message_model.specs.Message.{Message}
use Rattle.message_model.specs.OptionTable as table
use Rattle.message_model.specs.Spelling.{spelling}
use Rattle.message_model.proofs.Notation.{hex}
use Rattle.message_model.proofs.OnLiterals.{messages_on_literals}
use Rattle.history_model.proofs.HistoryLiterals.{history_on_literals}
use Rattle.event_model.specs.declared.notes.Note.{Note}
use Rattle.event_model.specs.declared.notes.Note.TheVariants as note
use Rattle.event_model.specs.declared.notes.Observer.{Observer}
use Rattle.event_model.specs.Events.{Event, is_young}
use Rattle.event_model.specs.Repeats.{max_exchanges, kept, repeated}
use Rattle.event_model.specs.Observers.{has_room_for, observe_value}
use Rattle.event_model.proofs.AddedObservers.{admissions_whole}
use Rattle.event_model.proofs.ManyObservers.{
  peer,
  page_query,
  observers_of_queries,
  adding,
  all_stand,
}
use Rattle.journal_model.specs.declared.steps.Step.{Step}
use Rattle.journal_model.specs.declared.steps.StepKind.TheVariants as step
use Rattle.journal_model.specs.declared.rows.Row.{Row}
use Rattle.journal_model.specs.Journal.{events, entries, latest}
use Rattle.journal_model.specs.Effects.{Effects, answering}
use Rattle.journal_model.specs.Requests.{refusal_of_request, query_of}
use Rattle.journal_model.specs.Bodies.{body_reply}
use Rattle.journal_model.specs.Lookups.{without, listing_now, observed_if, observed, lookup_effects}
use Rattle.journal_model.specs.Writes.{admitted_unless, write_effects}
use Rattle.journal_model.specs.Rows.{served, effects, row_moment, row}

-- a lookup that asks to observe a page: CON 0.01 m=0010 t=c1 [6 x][11 rd-lookup][11 ep][15
-- page=k][15 count=1]
abbrev lookup : ℕ → Message
lookup k = record {
  kind = Con;
  code = codes_of.get;
  mid = 16;
  token = 193 ∷ [];
  options = (table.observe, []) ∷ (table.uri_path, codes "rd-lookup") ∷ (table.uri_path, codes "ep")
      ∷ (table.uri_query, codes "page=" ++ decimal k) ∷ (table.uri_query, codes "count=1") ∷ [];
  payload = [];
}

-- a datagram of a peer is heard
abbrev hearing : List ℕ → Step
hearing datagram = record {
  kind = step.Admit;
  worker = 0;
  handed = record { 0 = 0 };
  word = 0;
  peer = peer 1;
  datagram = datagram;
  drawn = 0;
}

-- after a row with these notes
abbrev after_notes : List Note → List Row
after_notes notes =
    record {
      step =
          hearing [];
      moment =
          record { 0 = 0 };
      starved = false;
      sent = [];
      notes = notes;
      drew = 0;
    }
    ∷ []

-- after a row that added these observers
abbrev after : List Observer → List Row
after added = after_notes (flat_map adding added)

-- what is sent to a peer that then asks for a page
abbrev sent : ℕ → List Observer → List (List ℕ)
sent k added = map (λ d. d.1) (row (after added) (hearing (spelling (lookup k))) false).sent

-- an observer is added, or none, as there is room or none
sent_if : (k : ℕ) (query : ℕ → Query) (n : ℕ) (b : Bool)
    → has_room_for (query_of (lookup k)) (without (peer 1, 193 ∷ []) (observers_of_queries query n))
    ≡ b
    → observed (after (observers_of_queries query n)) 0 (hearing (spelling (lookup k))) (lookup k)
    ≡ observed_if b (after (observers_of_queries query n)) (hearing (spelling (lookup k)))
    (lookup k) (listing_now (after (observers_of_queries query n)) 0 (lookup k))
unfolding observed events
sent_if k query n b room =
    ap (λ c.
    observed_if c (after (observers_of_queries query n)) (hearing (spelling (lookup k)))
    (lookup k) (listing_now (after (observers_of_queries query n)) 0 (lookup k)))
    (ap (λ standing. has_room_for (query_of (lookup k)) (without (peer 1, 193 ∷ []) standing))
    (all_stand query n)
    ∙ room)

-- what an example unfolds; who observes is left to the law above
unfoldable answers_on_literals : ⊤
unfolding messages_on_literals history_on_literals has_room_for observe_value events entries latest
    answering refusal_of_request body_reply lookup_effects served effects row_moment row
answers_on_literals = tt

-- 1,023 observers of one query stand: the next is added, and its answer has an Observe value
--     ACK 2.05 m=0010 t=c1 [4 x0000000000000000][6 x0400][12 x28]
room_for_one :
    sent 0 (observers_of_queries (λ k. page_query 0) 1023)
    ≡ hex (codes "61450010c14800000000000000002204006128") ∷ []
unfolding answers_on_literals
room_for_one = ap (λ e. map (λ d. d.1) e.sent) (sent_if 0 (λ k. page_query 0) 1023 true refl)

-- 1,024 stand: the next gets the same answer without one
--     ACK 2.05 m=0010 t=c1 [4 x0000000000000000][12 x28]
full_of_observers :
    sent 0 (observers_of_queries (λ k. page_query 0) 1024)
    ≡ hex (codes "61450010c14800000000000000008128") ∷ []
unfolding answers_on_literals
full_of_observers = ap (λ e. map (λ d. d.1) e.sent) (sent_if 0 (λ k. page_query 0) 1024 false refl)

-- 255 queries are observed: an observer of another is added
--     ACK 2.05 m=0010 t=c1 [4 x0000000000000000][6 x0100][12 x28]
room_for_new_query :
    sent 255 (observers_of_queries page_query 255)
    ≡ hex (codes "61450010c14800000000000000002201006128") ∷ []
unfolding answers_on_literals
room_for_new_query = ap (λ e. map (λ d. d.1) e.sent) (sent_if 255 page_query 255 true refl)

-- 256 are observed: an observer of another is not added
--     ACK 2.05 m=0010 t=c1 [4 x0000000000000000][12 x28]
full_of_queries :
    sent 256 (observers_of_queries page_query 256)
    ≡ hex (codes "61450010c14800000000000000008128") ∷ []
unfolding answers_on_literals
full_of_queries = ap (λ e. map (λ d. d.1) e.sent) (sent_if 256 page_query 256 false refl)

-- and an observer of one of them is
--     ACK 2.05 m=0010 t=c1 [4 x0000000000000000][6 x0101][12 x28]
room_for_known_query :
    sent 255 (observers_of_queries page_query 256)
    ≡ hex (codes "61450010c14800000000000000002201016128") ∷ []
unfolding answers_on_literals
room_for_known_query = ap (λ e. map (λ d. d.1) e.sent) (sent_if 255 page_query 256 true refl)

-- an update: CON 0.02 m=1000 [11 rd][11 1]
abbrev update : Message
update = record {
  kind = Con;
  code = codes_of.post;
  mid = 4_096;
  token = [];
  options = (table.uri_path, codes "rd") ∷ (table.uri_path, codes "1") ∷ [];
  payload = [];
}

-- after a row that admitted so many writes of the same peer, under the Message IDs from 0 on
abbrev after_writes : ℕ → List Row
after_writes n = after_notes (map (λ mid. note.Admitted (peer 1) mid) (range_with_len 0 n))

-- the update is heard
abbrev heard_after : ℕ → Row
heard_after n = row (after_writes n) (hearing (spelling update)) false

-- what is done about it after events, where these are the admissions that stand
abbrev done_about : List Event → List Event → Effects
done_about past admitted =
    admitted_unless (nat_le max_exchanges (length (filter (λ a. is_young 0 a.moment) admitted)))
    false past (hearing (spelling update)) update

-- what an example unfolds; which admissions stand is left to a law
unfoldable writes_on_literals : ⊤
unfolding messages_on_literals history_on_literals repeated kept events latest answering
    refusal_of_request write_effects served effects row_moment row
writes_on_literals = tt

-- 4,095 exchanges are kept: the write is admitted
room_for_exchange : (heard_after 4_095).notes ≡ note.Admitted (peer 1) 4_096 ∷ []
unfolding writes_on_literals
room_for_exchange =
    ap (λ admitted. (done_about (events (after_writes 4_095)) admitted).notes)
    (admissions_whole (events (after_writes 4_095)) refl)

-- 4,096 are kept: it is refused at once
--     ACK 5.03 m=1000 | exchanges
full_of_exchanges :
    map (λ d. d.1) (heard_after 4_096).sent ≡ hex (codes "60a31000ff65786368616e676573") ∷ []
unfolding writes_on_literals
full_of_exchanges =
    ap (λ admitted. map (λ d. d.1) (done_about (events (after_writes 4_096)) admitted).sent)
    (admissions_whole (events (after_writes 4_096)) refl)
