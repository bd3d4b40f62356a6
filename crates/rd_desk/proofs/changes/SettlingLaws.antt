-- A write that is done: its entry, what else is noted of it, and its answer, one after the other,
-- are what settles it; and what that does to its exchange.
use Rattle.std.proofs.Common.{
  ◌≡◌,
  ℕ,
  ◌+◌,
  Bool,
  false,
  List,
  [],
  ◌∷◌,
  length,
  refl,
  sym,
  ap,
  ap₂,
  subst,
  ◌∙◌,
  arith,
}
use Rattle.std.specs.List.{list_any}
use Rattle.std.proofs.lemmas.Bool.{false≢true}
use Rattle.rd_base.specs.declared.peers.Peer.{Peer}
use Rattle.rd_base.proofs.lemmas.Each.{none_pass}
use Rattle.message_model.specs.Codes as codes_of
use Rattle.message_model.specs.Message.{Message}
use Rattle.message_model.specs.Spelling.{spelling}
use Rattle.history_model.specs.declared.entries.Entry.{Entry}
use Rattle.event_model.specs.declared.notes.Note.{Note}
use Rattle.event_model.specs.declared.notes.Note.TheVariants as note
use Rattle.event_model.specs.AdmissionOrder.{IsOpen}
use Rattle.event_model.specs.Events.{Event, noted}
use Rattle.event_model.specs.Repeats.{is_admitting, is_failure_of}
use Rattle.event_model.proofs.AsideLaws.{IsOrderly-noted, HasAdmission-noted}
use Rattle.event_model.proofs.AsideTables.{about_exchanges}
use Rattle.event_model.proofs.NotedLaws.{event_at}
use Rattle.journal_model.specs.declared.steps.Step.{Step}
use Rattle.journal_model.specs.declared.rows.Row.{Row}
use Rattle.journal_model.specs.Changes.{Outcome}
use Rattle.journal_model.specs.Commits.{settling}
use Rattle.journal_model.specs.Effects.{
  Effects,
  Reply,
  nothing,
  joined,
  noting,
  bare,
  drawn_for,
  answer,
  answering,
}
use Rattle.journal_model.specs.Journal.{events}
use Rattle.journal_model.specs.Rows.{row_moment}
use Rattle.journal_model.specs.UnfinishedRow.{making}
use Rattle.journal_model.proofs.UnfinishedRowLaws.{events-making_nothing}
use Rattle.exchange_core.specs.Table.{Table}
use Rattle.exchange_core.specs.ExchangeEvents.{ExchangesStandFor}
use Rattle.coap_answers.specs.declared.mids.Mids.{Mids}
use Rattle.coap_answers.specs.Sendings.{IsStepOf, Sends}
use Rattle.rd_desk.specs.parts.Committing.{answering_settled, failing}
use Rattle.rd_desk.specs.calls.Desks.{Seen}
use Rattle.rd_desk.specs.parts.UnderWay.{UnderWay}
use Rattle.rd_desk.proofs.parts.EffectLaws.{effects_same}
use Rattle.rd_desk.proofs.parts.NoteTopics as topic
use Rattle.rd_desk.proofs.parts.NoteTopics.{AreAbout}
use Rattle.rd_desk.proofs.parts.PartLaws.{more_exchanges}
use Rattle.rd_desk.proofs.parts.WayLaws.{step_of, only}

-- what comes of a write is settled by its answer and its notes
settling_same : (place : ℕ) (s : Step) (m : Message) (reply : Reply) (notes : List Note)
    (meant : Outcome)
    → reply ≡ meant.reply
    → notes ≡ meant.notes
    → settling place s m (record { reply = reply; notes = notes }) ≡ settling place s m meant
settling_same place s m reply notes meant said noted =
    ap₂ (λ (r : Reply) (ns : List Note). let o : Outcome = record { reply = r; notes = ns } in
    settling place s m o) said noted

-- a write is refused: it is answered, and nothing else is noted
pub settling-refused : (place : ℕ) (s : Step) (m : Message) (reply : Reply) (meant : Outcome)
    → reply ≡ meant.reply
    → meant.notes ≡ []
    → joined nothing (answering_settled place s m reply) ≡ settling place s m meant
unfolding answering
settling-refused place s m reply meant said none =
    let n : 0 + drawn_for m.kind ≡ drawn_for m.kind = omega arith in
    effects_same (joined nothing (answering_settled place s m reply))
    (settling place s m (record { reply = reply; notes = [] })) refl refl n
    ∙ settling_same place s m reply [] meant said (sym none)

-- it is entered and answered
pub settling-entered : (place : ℕ) (s : Step) (m : Message) (reply : Reply) (entry : Entry)
    (meant : Outcome)
    → reply ≡ meant.reply
    → meant.notes ≡ note.Entered entry ∷ []
    → joined (joined nothing (noting (note.Entered entry ∷ []))) (answering_settled place s m reply)
    ≡ settling place s m meant
unfolding answering
settling-entered place s m reply entry meant said noted =
    let n : (0 + 0) + drawn_for m.kind ≡ drawn_for m.kind = omega arith in
    effects_same (joined (joined nothing (noting (note.Entered entry ∷ [])))
    (answering_settled place s m reply))
    (settling place s m (record { reply = reply; notes = note.Entered entry ∷ [] })) refl refl n
    ∙ settling_same place s m reply (note.Entered entry ∷ []) meant said (sym noted)

-- it is entered, more is noted of it, and it is answered
pub settling-noted : (place : ℕ) (s : Step) (m : Message) (reply : Reply) (entry : Entry)
    (further : List Note) (meant : Outcome)
    → reply ≡ meant.reply
    → meant.notes ≡ note.Entered entry ∷ further
    → joined (joined (joined nothing (noting (note.Entered entry ∷ []))) (noting further))
    (answering_settled place s m reply)
    ≡ settling place s m meant
unfolding answering
settling-noted place s m reply entry further meant said noted =
    let n : ((0 + 0) + 0) + drawn_for m.kind ≡ drawn_for m.kind = omega arith in
    effects_same
    (joined (joined (joined nothing (noting (note.Entered entry ∷ []))) (noting further))
    (answering_settled place s m reply))
    (settling place s m (record { reply = reply; notes = note.Entered entry ∷ further })) refl
    refl n
    ∙ settling_same place s m reply (note.Entered entry ∷ further) meant said (sym noted)

-- it is not entered, this is noted of it, as of a block that more follow, and it is answered
pub settling-taken : (place : ℕ) (s : Step) (m : Message) (reply : Reply) (meant : Outcome)
    → reply ≡ meant.reply
    → joined (joined nothing (noting meant.notes)) (answering_settled place s m reply)
    ≡ settling place s m meant
unfolding answering
settling-taken place s m reply meant said =
    let n : (0 + 0) + drawn_for m.kind ≡ drawn_for m.kind = omega arith in
    effects_same (joined (joined nothing (noting meant.notes)) (answering_settled place s m reply))
    (settling place s m (record { reply = reply; notes = meant.notes })) refl refl n
    ∙ settling_same place s m reply meant.notes meant said refl

-- ---- its exchange

-- notes of the row that is being made leave it open that are not about exchanges
admits_nothing : (n : Note) → about_exchanges n ≡ false → is_admitting n ≡ false
admits_nothing (note.Admitted peer mid) h = absurd (false≢true (sym h))
admits_nothing _ h = refl

fails_nothing : (place : ℕ) (n : Note) → about_exchanges n ≡ false → is_failure_of place n ≡ false
fails_nothing place (note.Failed at) h = absurd (false≢true (sym h))
fails_nothing place _ h = refl

pub open_more : (rows : List Row) (s : Step) (starved : Bool) (done : Effects) (place : ℕ)
    (peer : Peer) (mid moment : ℕ)
    → list_any about_exchanges done.notes ≡ false
    → IsOpen place peer mid moment (events rows)
    → IsOpen place peer mid moment (events (making rows s starved done))
unfolding events
open_more rows s starved done place peer mid moment none was = record {
  orderly =
      IsOrderly-noted (length rows) (row_moment rows s) s.word done.notes (events rows)
      (none_pass about_exchanges is_admitting admits_nothing done.notes none) was.orderly;
  admission =
      HasAdmission-noted (length rows) place peer mid moment (row_moment rows s) s.word done.notes
      (events rows)
      (none_pass about_exchanges (is_failure_of place) (fails_nothing place) done.notes none)
      was.admission;
}

-- what settles a write, or fails it, is about its exchange alone
about_settling : (place : ℕ) (s : Step) (m : Message) (reply : Reply)
    → AreAbout topic.exchanges (answering_settled place s m reply).notes
unfolding answering
about_settling place s m reply = refl

about_failing : (place : ℕ) (s : Step) (m : Message)
    → AreAbout topic.exchanges (failing place s m).notes
unfolding answering
about_failing place s m = refl

-- a table of exchanges after one event of a note
abbrev pub StandsNoted : Note → ℕ → Peer → ℕ → ℕ → Table → Table → Type 0
StandsNoted n place peer mid admitted before after =
    (at : ℕ) (past : List Event) (e : Event)
    → IsOpen place peer mid admitted past
    → e.note ≡ n
    → ExchangesStandFor at past before
    → ExchangesStandFor at (e ∷ past) after

settled_stands : (rows : List Row) (s : Step) (place : ℕ) (m : Message) (reply : Reply)
    (sender : Peer) (admitted : ℕ) (octets : List ℕ) (past : List Event) (before after : Table)
    → octets ≡ spelling (answer s m reply)
    → IsOpen place sender m.mid admitted past
    → StandsNoted (note.Settled place octets) place sender m.mid admitted before after
    → ExchangesStandFor (row_moment rows s) past before
    → ExchangesStandFor (row_moment rows s)
    (noted (length rows) (row_moment rows s) s.word (answering_settled place s m reply).notes
    past) after
unfolding answering
settled_stands rows s place m reply sender admitted octets past before after is opened stands h =
    stands (row_moment rows s) past (event_at (length rows) (row_moment rows s) s.word
    (note.Settled place (spelling (answer s m reply)))) opened
    (ap (note.Settled place) (sym is)) h

failed_stands : (rows : List Row) (s : Step) (place : ℕ) (m : Message) (sender : Peer)
    (admitted : ℕ) (past : List Event) (before after : Table)
    → IsOpen place sender m.mid admitted past
    → StandsNoted (note.Failed place) place sender m.mid admitted before after
    → ExchangesStandFor (row_moment rows s) past before
    → ExchangesStandFor (row_moment rows s)
    (noted (length rows) (row_moment rows s) s.word (failing place s m).notes past) after
unfolding answering
failed_stands rows s place m sender admitted past before after opened stands h =
    stands (row_moment rows s) past
    (event_at (length rows) (row_moment rows s) s.word (note.Failed place)) opened refl h

-- the write is settled by the octets that were sent
pub way_settled : (rows : List Row) (s : Step) (starved : Bool) (done : Effects) (place : ℕ)
    (m : Message) (reply : Reply) (sender : Peer) (admitted : ℕ) (octets : List ℕ) (x d : Seen)
    (t : Table) (out sent : List (Peer × List ℕ)) (mids_before mids : Mids)
    → x ≡ d
    → s.peer ≡ sender
    → done.drew ≡ 0
    → IsOpen place sender m.mid admitted (events (making rows s starved done))
    → (IsStepOf s sender mids_before → octets ≡ spelling (answer s m reply))
    → StandsNoted (note.Settled place octets) place sender m.mid admitted x.exchanges t
    → ((notes : List Note)
    → IsStepOf s sender mids_before
    → Sends (answering s m reply notes) out sent mids_before mids)
    → UnderWay rows s starved done d out mids_before
    → UnderWay rows s starved (joined done (answering_settled place s m reply))
    (record x { exchanges = t }) sent mids
way_settled rows s starved done place m reply sender admitted octets x d t out sent mids_before mids
    seen by drew opened is stands sends way =
    let of = step_of rows s starved done d out mids_before sender by drew way in
    more_exchanges rows s starved done (answering_settled place s m reply) x d t out sent
    mids_before mids seen (about_settling place s m reply)
    (λ h. settled_stands rows s place m reply sender admitted octets
    (events (making rows s starved done)) x.exchanges t (is of) opened stands h)
    (sends (note.Settled place (spelling (answer s m reply)) ∷ []) of) way

-- the write fails, and nothing else is done
pub way_failed : (rows : List Row) (s : Step) (starved : Bool) (place : ℕ) (m : Message)
    (reply : Reply) (sender : Peer) (admitted : ℕ) (x d : Seen) (t : Table)
    (out sent : List (Peer × List ℕ)) (mids_before mids : Mids)
    → x ≡ d
    → s.peer ≡ sender
    → reply ≡ bare codes_of.internal_server_error
    → IsOpen place sender m.mid admitted (events rows)
    → StandsNoted (note.Failed place) place sender m.mid admitted x.exchanges t
    → ((notes : List Note)
    → IsStepOf s sender mids_before
    → Sends (answering s m reply notes) out sent mids_before mids)
    → UnderWay rows s starved nothing d out mids_before
    → UnderWay rows s starved (failing place s m) (record x { exchanges = t }) sent mids
way_failed rows s starved place m reply sender admitted x d t out sent mids_before mids seen by said
    opened stands sends way =
    let of = step_of rows s starved nothing d out mids_before sender by refl way in
    let here : IsOpen place sender m.mid admitted (events (making rows s starved nothing)) =
    subst (λ (past : List Event). IsOpen place sender m.mid admitted past)
    (sym (events-making_nothing rows s starved)) opened in
    only rows s starved (failing place s m) (record x { exchanges = t }) sent mids
    (more_exchanges rows s starved nothing (failing place s m) x d t out sent mids_before mids seen
    (about_failing place s m)
    (λ h. failed_stands rows s place m sender admitted (events (making rows s starved nothing))
    x.exchanges t here stands h)
    (subst
    (λ (r : Reply). Sends (answering s m r (note.Failed place ∷ [])) out sent mids_before mids)
    said (sends (note.Failed place ∷ []) of)) way)
