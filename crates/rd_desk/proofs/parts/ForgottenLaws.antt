-- A write that was admitted and is forgotten in the same row, for want of memory: the exchanges are
-- as before (RFC 7252 section 4.5).
use Rattle.std.proofs.Common.{
  ◌≡◌,
  ◌≢◌,
  ℕ,
  ◌==◌,
  not,
  Bool,
  true,
  false,
  cond,
  List,
  [],
  ◌∷◌,
  length,
  filter,
  refl,
  sym,
  ap,
  subst,
  ◌∙◌,
  Option,
  Some,
  None,
  eqb-true,
}
use Rattle.std.specs.List.{list_any, filter_map, AllByRecursion}
use Rattle.rd_base.specs.declared.peers.Peer.{Peer}
use Rattle.rd_base.proofs.lemmas.Each.{each_weaker, each_one}
use Rattle.rd_base.proofs.lemmas.Numbers.{eqb-refl}
use Rattle.message_model.specs.Message.{Message}
use Rattle.event_model.specs.declared.notes.Note.{Note}
use Rattle.event_model.specs.declared.notes.Note.TheVariants as note
use Rattle.event_model.specs.AdmissionOrder.{IsNewPlace, IsOpen}
use Rattle.event_model.specs.Events.{Event, noted, is_young}
use Rattle.event_model.specs.Repeats.{
  admissions,
  exchange_of,
  exchanges_at,
  answer_noted,
  repeated,
  settled,
  kept,
}
use Rattle.event_model.proofs.EventEquations.{admissions-event}
use Rattle.event_model.proofs.NotedLaws.{event_at}
use Rattle.event_model.proofs.OrderLaws.{IsOrderly-admitted}
use Rattle.journal_model.specs.declared.steps.Step.{Step}
use Rattle.journal_model.specs.declared.rows.Row.{Row}
use Rattle.journal_model.specs.Effects.{nothing, without_memory}
use Rattle.journal_model.specs.Journal.{events}
use Rattle.journal_model.specs.Rows.{row_with, row_moment}
use Rattle.journal_model.specs.UnfinishedRow.{IsReady, making}
use Rattle.journal_model.specs.Writes.{again_answered, write_unless, write_effects}
use Rattle.journal_model.proofs.RowEquations.{events-row}
use Rattle.journal_model.proofs.UnfinishedRowLaws.{now-making, events-making_nothing}
use Rattle.journal_model.proofs.desks.AdmissionsInOrder.{journal-IsReady}
use Rattle.exchange_core.specs.Table.{Table}
use Rattle.exchange_core.specs.ExchangeEvents.{ExchangesStandFor}
use Rattle.exchange_core.proofs.ExchangeLaws.{same-exchanges}
use Rattle.exchange_core.proofs.FilterLemmas.{filter_true}
use Rattle.exchange_core.proofs.OpenLaws.{IsOpen-admitted}
use Rattle.exchange_core.proofs.RepeatLaws.{each_admission}
use Rattle.coap_answers.specs.declared.mids.Mids.{Mids}
use Rattle.coap_answers.specs.Sendings.{IsStepOf, Sends}
use Rattle.rd_desk.specs.calls.Desks.{Seen}
use Rattle.rd_desk.specs.parts.UnderWay.{UnderWay}
use Rattle.rd_desk.proofs.parts.NoteTopics as topic
use Rattle.rd_desk.proofs.parts.PartLaws.{more_exchanges}
use Rattle.rd_desk.proofs.parts.WayLaws.{noting_more, way_moment, step_of, only}
use Rattle.rd_desk.proofs.parts.WriteLaws.{without_memory-notes}

-- a test that all pass leaves all
all_left : {X : Type 0} (test : X → Bool) (xs : List X)
    → AllByRecursion (λ x. test x ≡ true) xs
    → filter test xs ≡ xs
all_left test [] each = refl
all_left test (x ∷ xs) each = rw each.0 (ap (λ ys. x ∷ ys) (all_left test xs each.1))

-- a place that no event has is none of an admission
other_places : (place : ℕ) (past : List Event)
    → IsNewPlace place past
    → AllByRecursion (λ a. not (place == a.place) ≡ true) (admissions past)
other_places place past new =
    each_weaker (λ (a : Event). (a.place ≢ place) × (answer_noted place a.note ≡ None))
    (λ (a : Event). not (place == a.place) ≡ true) (λ a h. other a h.0 (place == a.place) refl)
    (admissions past)
    (each_admission (λ (a : Event). (a.place ≢ place) × (answer_noted place a.note ≡ None)) past
    new)
  where
    other : (a : Event) → a.place ≢ place → (b : Bool) → (place == a.place) ≡ b → not b ≡ true
    other a differs true is = absurd (differs (sym (eqb-true place a.place is)))
    other a differs false is = refl

-- the exchanges that are kept
pub exchanges_at-forgotten : (at place moment word : ℕ) (peer : Peer) (mid : ℕ) (past : List Event)
    → IsNewPlace place past
    → exchanges_at at (event_at place moment word (note.Failed place)
    ∷ event_at place moment word (note.Admitted peer mid)
    ∷ past)
    ≡ exchanges_at at past
unfolding exchanges_at kept
exchanges_at-forgotten at place moment word peer mid past new =
    ap (λ (xs : List Event).
    filter_map (exchange_of (failed ∷ admitted ∷ past))
    (filter (λ a. is_young at a.moment) xs)) left
    ∙ (same-exchanges failed (admitted ∷ past) young
    (each_one (λ (a : Event). answer_noted a.place failed.note ≡ None) (λ a. refl) young)
    ∙ same-exchanges admitted past young
    (each_one (λ (a : Event). answer_noted a.place admitted.note ≡ None) (λ a. refl) young))
  where
    failed : Event
    failed = event_at place moment word (note.Failed place)

    admitted : Event
    admitted = event_at place moment word (note.Admitted peer mid)

    young : List Event
    young = filter (λ a. is_young at a.moment) (admissions past)

    first : admissions (admitted ∷ past) ≡ admitted ∷ admissions past
    first =
        admissions-event admitted past
        ∙ ap (λ (xs : List Event). admitted ∷ xs) (filter_true (admissions past))

    left : admissions (failed ∷ admitted ∷ past) ≡ admissions past
    left =
        admissions-event failed (admitted ∷ past)
        ∙ (ap (λ (xs : List Event). filter (λ (a : Event). not (place == a.place)) xs) first
        ∙ (ap (λ (b : Bool).
        cond (not b)
        (admitted ∷ filter (λ (a : Event). not (place == a.place)) (admissions past))
        (filter (λ (a : Event). not (place == a.place)) (admissions past)))
        (eqb-refl place)
        ∙ all_left (λ (a : Event). not (place == a.place)) (admissions past)
        (other_places place past new)))

-- ---- the step

-- a write that is admitted is no repeat
new_write : (past : List Event) (moment : ℕ) (s : Step) (m : Message)
    → (write_effects past moment s m).notes ≡ note.Admitted s.peer m.mid ∷ []
    → repeated moment s.peer m.mid past ≡ None
unfolding write_effects
new_write past moment s m notes = by (repeated moment s.peer m.mid past) notes
  where
    again : (reply : Option (List ℕ))
        → (again_answered s reply).notes ≡ note.Admitted s.peer m.mid ∷ []
        → ⊥
    again None h = cc
    again (Some octets) h = cc

    by : (first : Option Event)
        → (write_unless first past moment s m).notes ≡ note.Admitted s.peer m.mid ∷ []
        → first ≡ None
    by None h = refl
    by (Some a) h = absurd (again (settled a.place past) h)

-- the table that admitted the write and has forgotten it stands for the events before the row
forgotten_stands : (rows : List Row) (s : Step) (m : Message) (sender : Peer) (after : Seen)
    (t : Table) (out : List (Peer × List ℕ)) (mids : Mids)
    → s.peer ≡ sender
    → (write_effects (events rows) (row_moment rows s) s m).notes ≡ note.Admitted s.peer m.mid ∷ []
    → UnderWay rows s true (write_effects (events rows) (row_moment rows s) s m) after out mids
    → ((at : ℕ) (past : List Event) (e : Event) (place : ℕ)
    → IsOpen place sender m.mid after.moment past
    → e.note ≡ note.Failed place
    → ExchangesStandFor at past after.exchanges
    → ExchangesStandFor at (e ∷ past) t)
    → ExchangesStandFor (row_moment rows s) (events rows) t
forgotten_stands rows s m sender after t out mids of notes way forgets = record {
  kept =
      (forgets (row_moment rows s) (admitted ∷ events rows) failed (length rows) still_open refl
      there).kept
      ∙ exchanges_at-forgotten (row_moment rows s) (length rows) (row_moment rows s) s.word sender
      m.mid (events rows) ready.new_place;
}
  where
    ready : IsReady rows s
    ready = journal-IsReady rows s way.journal

    admitted : Event
    admitted = event_at (length rows) (row_moment rows s) s.word (note.Admitted sender m.mid)

    failed : Event
    failed = event_at (length rows) (row_moment rows s) s.word (note.Failed (length rows))

    past : List Event
    past = events (making rows s true (write_effects (events rows) (row_moment rows s) s m))

    same : past ≡ admitted ∷ events rows
    same =
        events-row rows (row_with s (row_moment rows s) true
        (write_effects (events rows) (row_moment rows s) s m))
        ∙ (ap (λ (ns : List Note). noted (length rows) (row_moment rows s) s.word ns (events rows))
        notes
        ∙ ap (λ (p : Peer).
        event_at (length rows) (row_moment rows s) s.word (note.Admitted p m.mid)
        ∷ events rows) of)

    moment : after.moment ≡ row_moment rows s
    moment =
        way_moment rows s true (write_effects (events rows) (row_moment rows s) s m) after out mids
        way

    still_open : IsOpen (length rows) sender m.mid after.moment (admitted ∷ events rows)
    still_open =
        subst (λ (at : ℕ). IsOpen (length rows) sender m.mid at (admitted ∷ events rows))
        (sym moment)
        (IsOpen-admitted sender m.mid admitted (events rows) refl
        (IsOrderly-admitted sender m.mid admitted (events rows) refl
        (record {
          no_repeat = subst
              (λ (p : Peer). repeated (row_moment rows s) p m.mid (events rows) ≡ None) of
              (new_write (events rows) (row_moment rows s) s m notes);
          new_place =
              ready.new_place;
          in_time = ready.in_time;
        }) ready.orderly))

    there : ExchangesStandFor (row_moment rows s) (admitted ∷ events rows) after.exchanges
    there =
        subst (λ (es : List Event). ExchangesStandFor (row_moment rows s) es after.exchanges) same
        (subst (λ (at : ℕ). ExchangesStandFor at past after.exchanges)
        (now-making rows s true (write_effects (events rows) (row_moment rows s) s m)
        way.no_look) way.stands.exchanges)

-- so the request is answered 5.00, and the desk stands for the journal as before
pub way_forgotten : (rows : List Row) (s : Step) (m : Message) (sender : Peer) (x d after : Seen)
    (t : Table) (out out_then sent : List (Peer × List ℕ)) (mids_before mids_then mids : Mids)
    → x ≡ after
    → after ≡ record d { exchanges = after.exchanges }
    → s.peer ≡ sender
    → out_then ≡ out
    → mids_then ≡ mids_before
    → (write_effects (events rows) (row_moment rows s) s m).notes ≡ note.Admitted s.peer m.mid ∷ []
    → UnderWay rows s true (write_effects (events rows) (row_moment rows s) s m) after out_then
    mids_then
    → ((at : ℕ) (past : List Event) (e : Event) (place : ℕ)
    → IsOpen place sender m.mid x.moment past
    → e.note ≡ note.Failed place
    → ExchangesStandFor at past x.exchanges
    → ExchangesStandFor at (e ∷ past) t)
    → ((step : Step)
    → IsStepOf step sender mids_then
    → Sends (without_memory step m) out_then sent mids_then mids)
    → UnderWay rows s true nothing d out mids_before
    → UnderWay rows s true (without_memory s m) (record x { exchanges = t }) sent mids
way_forgotten rows s m sender x d after t out out_then sent mids_before mids_then mids seen alone of
    unsent undrawn notes way forgets sends begun =
    let silent = without_memory-notes s m in
    let stands = forgotten_stands rows s m sender x t out_then mids_then of notes
    (subst (λ (y : Seen).
    UnderWay rows s true (write_effects (events rows) (row_moment rows s) s m) y out_then
    mids_then) (sym seen) way) forgets in
    let here : UnderWay rows s true nothing d out_then mids_then =
    subst (λ (o : List (Peer × List ℕ)). UnderWay rows s true nothing d o mids_then) (sym unsent)
    (subst (λ (ids : Mids). UnderWay rows s true nothing d out ids) (sym undrawn) begun) in
    subst (λ (y : Seen). UnderWay rows s true (without_memory s m) y sent mids)
    (sym (ap (λ (y : Seen). record y { exchanges = t }) (seen ∙ alone)))
    (only rows s true (without_memory s m) (record d { exchanges = t }) sent mids
    (more_exchanges rows s true nothing (without_memory s m) d d t out_then sent mids_then mids refl
    (ap (list_any (topic.is_beside topic.exchanges)) silent)
    (λ before. subst (λ (es : List Event). ExchangesStandFor (row_moment rows s) es t)
    (sym
    (ap (λ (ns : List Note). noting_more rows s ns (events (making rows s true nothing))) silent
    ∙ events-making_nothing rows s true)) stands)
    (sends s (step_of rows s true nothing d out_then mids_then sender of refl here)) here))
