-- What each row sends, in rows of steps whose commits are of rows that admitted, and whose looks,
-- commits and keeps are made for requests, under tags of eight octets.
use Rattle.std.proofs.Common.{
  ◌≡◌,
  ◌⊎◌,
  ℕ,
  ◌==◌,
  Bool,
  true,
  false,
  cond,
  List,
  [],
  ◌∷◌,
  length,
  find,
  Option,
  Some,
  None,
  option_and_then,
  Ok,
  refl,
  sym,
  ap,
  subst,
  ◌∙◌,
}
use Rattle.std.specs.Prelude.{is_some}
use Rattle.std.specs.List.{list_any, AllByRecursion}
use Rattle.std.proofs.lemmas.Bool.{and_parts, and_from, false≢true}
use Rattle.std.proofs.lemmas.Option.{same_Some}
use Rattle.rd_base.specs.declared.peers.Peer.{Peer}
use Rattle.rd_base.proofs.lemmas.Among.{all_among, any_among}
use Rattle.rd_base.proofs.lemmas.Each.{none_pass}
use Rattle.rd_base.proofs.lemmas.Numbers.{eqb-refl}
use Rattle.message_model.specs.declared.messages.Kind4.{Kind4}
use Rattle.message_model.specs.declared.messages.Kind4.TheVariants.{Con, Non, Ack, Rst}
use Rattle.message_model.specs.declared.messages.Role.TheVariants as role
use Rattle.message_model.specs.Codes as codes_of
use Rattle.message_model.specs.Message.{Message, response_role, role_of}
use Rattle.message_model.specs.Reading.{reading}
use Rattle.message_model.specs.Spelling.{spelling}
use Rattle.message_model.proofs.ReadingLaws.{header_read}
use Rattle.event_model.specs.declared.notes.Note.{Note}
use Rattle.event_model.specs.declared.notes.Note.TheVariants as note
use Rattle.event_model.specs.declared.notes.Observer.{Observer}
use Rattle.event_model.specs.Same.{is_same_peer, is_same_request}
use Rattle.event_model.specs.Events.{Event, last_event, last_said, has_event, events_since}
use Rattle.event_model.specs.KeptAnswers.{Answer, answer_kept, is_live_answer, kept_answer}
use Rattle.event_model.specs.Observers.{name_of}
use Rattle.event_model.specs.Flights.{
  Flight,
  flight,
  flight_after,
  is_forming_for,
  is_landing_of,
  notification_mid,
}
use Rattle.journal_model.specs.declared.steps.Step.{Step}
use Rattle.journal_model.specs.declared.steps.StepKind.{StepKind}
use Rattle.journal_model.specs.declared.steps.StepKind.TheVariants as step
use Rattle.journal_model.specs.declared.rows.Row.{Row}
use Rattle.journal_model.specs.Journal.{events}
use Rattle.journal_model.specs.Effects.{Reply, answer, answer_kind, answer_mid}
use Rattle.journal_model.specs.BodyFormers.{forms_notification}
use Rattle.journal_model.specs.Rows.{effects, row_moment, row, AreRows, empty, added}
use Rattle.journal_model.specs.Ticks.{confirmable_sent, tick_effects}
use Rattle.journal_model.specs.SentDatagrams.{IsForRequest, AreForRequests}
use Rattle.journal_model.proofs.EventRows.{AllRows, RowOf, row_of, row_within, within_more, said_by}
use Rattle.journal_model.proofs.FlightKeys.{is_notification}
use Rattle.journal_model.proofs.RowEquations.{effects-Tick, row-step}
use Rattle.journal_model.proofs.flights.NotificationsAgain.{stood}
use Rattle.journal_model.proofs.notes.LookupNotes.{IsAsking}
use Rattle.journal_model.proofs.observers.ObserversKnow.{IsNoTick, step_observer_notes}
use Rattle.journal_model.proofs.sends.BodyAnswers.{same_message}
use Rattle.journal_model.proofs.datagrams.FittingReplies.{IsGoodReply, reply_read}
use Rattle.journal_model.proofs.datagrams.NotedSends.{NoteFact}
use Rattle.journal_model.proofs.datagrams.SentRows.{
  RowSent,
  AllSent,
  CommitsPlaced,
  rows_sent,
}
use Rattle.headline_law.proofs.flights.FirstBodies.{first_forms}
use Rattle.headline_law.proofs.answers.SettledNotes.{SettleFacts}
use Rattle.headline_law.proofs.answers.SettledNotes.{effects_settle}
use Rattle.headline_law.proofs.whom.Dispatches.{KeepsTags, AreDispatches, effects_dispatch}
use Rattle.headline_law.proofs.whom.TickDispatches.{
  Responds,
  role_of_response,
  is_one,
  FlightsRespond,
  AgainAsked,
  TickGoes,
  tick_goes,
}

-- ---- rows

-- what a row sends, by its step
abbrev pub GoesBy : StepKind → List Row → Row → Type 0
GoesBy step.Tick before r =
    AllByRecursion (λ (d : Peer × List ℕ). Responds d.1 ⊎ AgainAsked before d) r.sent
GoesBy kind before r = AreDispatches before r.moment.0 kind r.step r.notes r.sent

-- what a row sends; what it settles; and where it notes that it built a notification, what is
-- found of it is a response
pub record RowGoes (before : List Row) (r : Row) : Type 0 where
  pub goes : GoesBy r.step.kind before r
  pub settles : SettleFacts r.step.kind r.step r.sent r.notes
  pub finds : (peer : Peer) (mid : ℕ) (d : Peer × List ℕ)
      → list_any (forms_notification peer mid) r.notes ≡ true
      → find (is_one peer mid) r.sent ≡ Some d
      → Responds d.1

-- ---- what is known of the rows before

-- a kept answer has a tag of eight octets
kept_tag : (rows : List Row) → AllRows RowSent rows → KeepsTags rows
unfolding kept_answer
kept_tag rows all moment name found e = last (last_said (answer_kept name) (events rows)) refl e
  where
    said : (n : Note)
        → answer_kept name n ≡ Some found
        → (sent : List (Peer × List ℕ)) (kind : StepKind) (s : Step)
        → NoteFact kind s sent n
        → length found.tag ≡ 8
    said (note.Kept peer key body current) h sent kind s fact =
        by (is_same_request (peer, key) name) h
      where
        by : (b : Bool)
            → cond b (Some (record { body = body; tag = current })) None ≡ Some found
            → length found.tag ≡ 8
        by true g =
            subst (λ (a : Answer). length a.tag ≡ 8)
            (same_Some (record { body = body; tag = current }) found g) fact
        by false g = absurd (let no : None ≡ Some found = g in cc)
    said _ h sent kind s fact = absurd (let no : None ≡ Some found = h in cc)

    from_event : last_said (answer_kept name) (events rows) ≡ Some found → length found.tag ≡ 8
    from_event h =
        let f = said_by (answer_kept name) (events rows) found h in
        let it : RowOf (λ n. is_some (answer_kept name n)) rows f.0 =
        row_of (λ n. is_some (answer_kept name n)) rows f.0 f.1 in
        said f.0.note f.2 it.placed.row.sent it.placed.row.step.kind it.placed.row.step
        (all_among (NoteFact it.placed.row.step.kind it.placed.row.step it.placed.row.sent)
        f.0.note it.placed.row.notes
        (row_within RowSent rows it.placed.before it.placed.row all it.within).facts it.note)

    living : (b : Bool) (a : Answer)
        → last_said (answer_kept name) (events rows) ≡ Some a
        → cond b (Some a) None ≡ Some found
        → length found.tag ≡ 8
    living true a h g = from_event (h ∙ g)
    living false a h g = absurd (let no : None ≡ Some found = g in cc)

    last : (o : Option Answer)
        → last_said (answer_kept name) (events rows) ≡ o
        → option_and_then (λ a. cond (is_live_answer moment name (events rows)) (Some a) None) o
        ≡ Some found
        → length found.tag ≡ 8
    last None h g = absurd (let no : None ≡ Some found = g in cc)
    last (Some a) h g = living (is_live_answer moment name (events rows)) a h g

-- the event that built a notification in flight
record FormedAt (o : Observer) (past : List Event) (f : Flight) : Type 0 where
  last : last_event (is_forming_for (name_of o)) past ≡ Some f.formed
  mid : notification_mid f.formed.note ≡ Some f.mid

formed_at : (o : Observer) (past : List Event) (f : Flight)
    → flight o past ≡ Some f
    → FormedAt o past f
unfolding flight
formed_at o past f e = by (last_event (is_forming_for (name_of o)) past) refl e
  where
    later : List Event
    later = events_since (is_forming_for (name_of o)) past

    landed : (b : Bool) (x : Event) (mid : ℕ) (agains : List Event)
        → last_event (is_forming_for (name_of o)) past ≡ Some x
        → notification_mid x.note ≡ Some mid
        → cond b None (Some (record { mid = mid; formed = x; again = agains })) ≡ Some f
        → FormedAt o past f
    landed true x mid agains last has h = absurd (let no : None ≡ Some f = h in cc)
    landed false x mid agains last has h =
        subst (FormedAt o past)
        (same_Some (record { mid = mid; formed = x; again = agains }) f h)
        (record { last = last; mid = has })

    with_mid : (x : Event) (mid : Option ℕ)
        → last_event (is_forming_for (name_of o)) past ≡ Some x
        → notification_mid x.note ≡ mid
        → option_and_then (flight_after o.peer x
        (events_since (is_forming_for (name_of o)) past)) mid
        ≡ Some f
        → FormedAt o past f
    with_mid x None last has h = absurd (let no : None ≡ Some f = h in cc)
    with_mid x (Some mid) last has h =
        landed (has_event (is_landing_of o.peer mid)
        (events_since (is_forming_for (name_of o)) past)) x mid _ last has h

    by : (x : Option Event)
        → last_event (is_forming_for (name_of o)) past ≡ x
        → option_and_then (λ formed. option_and_then (flight_after o.peer formed
        (events_since (is_forming_for (name_of o)) past)) (notification_mid formed.note)) x
        ≡ Some f
        → FormedAt o past f
    by None last h = absurd (let no : None ≡ Some f = h in cc)
    by (Some x) last h = with_mid x (notification_mid x.note) last refl h

-- it builds a notification to the observer's peer
forms_it : (o : Observer) (mid : ℕ) (n : Note)
    → is_forming_for (name_of o) n ≡ true
    → notification_mid n ≡ Some mid
    → forms_notification o.peer mid n ≡ true
forms_it o mid (note.Formed p token body None) h has =
    absurd (let no : None ≡ Some mid = has in cc)
forms_it o mid (note.Formed p token body (Some m)) h has =
    and_from (is_same_peer p o.peer) (m == mid)
    (and_parts (is_same_peer p o.peer) _ h).0
    (subst (λ n. (m == n) ≡ true) (same_Some m mid has) (eqb-refl m))
forms_it o mid _ h has = absurd (let no : None ≡ Some mid = has in cc)

-- so whatever notification is retransmitted is a response
flights_respond : (rows : List Row) → AllRows RowGoes rows → FlightsRespond rows
flights_respond rows all moment d a =
    let f : FormedAt a.observer (events rows) a.flight_is =
    formed_at a.observer (events rows) a.flight_is a.again.flies in
    let it : RowOf (is_forming_for (name_of a.observer)) rows a.flight_is.formed =
    row_of (is_forming_for (name_of a.observer)) rows a.flight_is.formed f.last in
    (row_within RowGoes rows it.placed.before it.placed.row all it.within).finds a.observer.peer
    a.flight_is.mid d
    (any_among (forms_notification a.observer.peer a.flight_is.mid) a.flight_is.formed.note
    it.placed.row.notes it.note
    (forms_it a.observer a.flight_is.mid a.flight_is.formed.note it.kind f.mid))
    (subst (λ at. confirmable_sent at a.observer.peer a.flight_is.mid ≡ Some d) it.at_place a.found)

-- an answer is read as it was written
pub answer_read : (s : Step) (m : Message) (reply : Reply) (n : Message)
    → reading s.datagram ≡ Ok m
    → IsGoodReply reply
    → reading (spelling (answer s m reply)) ≡ Ok n
    → answer s m reply ≡ n
answer_read s m reply n read good e =
    same_message (answer s m reply) n (spelling (answer s m reply))
    (reply_read (answer_kind m.kind) (answer_mid s m m.kind) m.token reply
    (header_read s.datagram m read).token good) e

-- an answer responds
pub answer_responds : (s : Step) (m : Message) (reply : Reply)
    → reading s.datagram ≡ Ok m
    → IsGoodReply reply
    → codes_of.is_response_code reply.code ≡ true
    → Responds (spelling (answer s m reply))
answer_responds s m reply read good class n e =
    subst (λ (x : Message). role_of x.kind x.code ≡ role.Response)
    (answer_read s m reply n read good e)
    (role_of_response (answer_kind m.kind) reply.code class (fits m.kind))
  where
    fits : (k : Kind4) → response_role (answer_kind k) ≡ role.Response
    fits Con = refl
    fits Non = refl
    fits Ack = refl
    fits Rst = refl

-- ---- one row more

-- notes that build no notification build none to a peer
no_notification_to : (peer : Peer) (mid : ℕ) (notes : List Note)
    → list_any is_notification notes ≡ false
    → list_any (forms_notification peer mid) notes ≡ false
no_notification_to peer mid notes none = none_pass is_notification (forms_notification peer mid) by
    notes none
  where
    by : (x : Note) → is_notification x ≡ false → forms_notification peer mid x ≡ false
    by (note.Formed p token body None) h = refl
    by (note.Formed p token body (Some m)) h = absurd (false≢true (sym h))
    by _ h = refl

-- the row of a step
row_goes : (rows : List Row) (s : Step) (starved : Bool)
    → ((m : Message) → reading s.datagram ≡ Ok m → IsForRequest s.kind m)
    → AllSent rows
    → AllRows RowGoes rows
    → RowGoes rows (row rows s starved)
unfolding row
row_goes rows s starved fair sent all = by s.kind refl
  where
    moment : ℕ
    moment = row_moment rows s

    -- all parts, by the kind of the step
    Parts : StepKind → Type 0
    Parts k =
        GoesBy k rows (record {
          step = s;
          moment = record { 0 = row_moment rows s };
          starved = starved;
          sent = (effects k starved rows (row_moment rows s) s).sent;
          notes = (effects k starved rows (row_moment rows s) s).notes;
          drew = (effects k starved rows (row_moment rows s) s).drew;
        })
        × ((peer : Peer) (mid : ℕ) (d : Peer × List ℕ)
        → list_any (forms_notification peer mid)
        (effects k starved rows (row_moment rows s) s).notes
        ≡ true
        → find (is_one peer mid) (effects k starved rows (row_moment rows s) s).sent ≡ Some d
        → Responds d.1)

    whole : (k : StepKind) → s.kind ≡ k → Parts k → RowGoes rows (row rows s starved)
    whole k is h =
        let back : Parts s.kind = subst Parts (sym is) h in
        record {
          goes = back.0;
          settles = effects_settle s.kind starved rows (row_moment rows s) s;
          finds = back.1;
        }

    requests : (k : StepKind)
        → s.kind ≡ k
        → (m : Message)
        → reading s.datagram ≡ Ok m
        → IsForRequest k m
    requests k is m read = subst (λ (x : StepKind). IsForRequest x m) is (fair m read)

    none : (k : StepKind)
        → IsNoTick k
        → (peer : Peer) (mid : ℕ) (d : Peer × List ℕ)
        → list_any (forms_notification peer mid)
        (effects k starved rows (row_moment rows s) s).notes
        ≡ true
        → find (is_one peer mid) (effects k starved rows (row_moment rows s) s).sent ≡ Some d
        → Responds d.1
    none k no_tick peer mid d h found =
        absurd (false≢true
        (sym (no_notification_to peer mid (effects k starved rows (row_moment rows s) s).notes
        (first_forms rows (row_moment rows s) (effects k starved rows (row_moment rows s) s).notes
        (step_observer_notes k starved rows (row_moment rows s) s no_tick)).none) ∙ h))

    tags : KeepsTags rows
    tags = kept_tag rows sent.each

    ticks : TickGoes rows (tick_effects starved rows (row_moment rows s) s)
    ticks =
        tick_goes starved rows (row_moment rows s) s (flights_respond rows all)
        (stood rows (row_moment rows s) s.word IsAsking sent.asking)

    ticked : TickGoes rows (effects step.Tick starved rows (row_moment rows s) s)
    ticked =
        subst (TickGoes rows) (sym (effects-Tick starved rows (row_moment rows s) s)) ticks

    by : (k : StepKind) → s.kind ≡ k → RowGoes rows (row rows s starved)
    by step.Admit is =
        whole step.Admit is (
          effects_dispatch step.Admit starved rows (row_moment rows s) s tt
              (requests step.Admit is) tags,
          none step.Admit tt,
        )
    by step.Look is =
        whole step.Look is (
          effects_dispatch step.Look starved rows (row_moment rows s) s tt
              (requests step.Look is) tags,
          none step.Look tt,
        )
    by (step.Commit place) is = whole (step.Commit place) is (
      effects_dispatch (step.Commit place) starved rows (row_moment rows s) s tt
          (requests (step.Commit place) is) tags,
      none (step.Commit place) tt,
    )
    by (step.Keep body current) is = whole (step.Keep body current) is (
      effects_dispatch (step.Keep body current) starved rows (row_moment rows s) s tt
          (requests (step.Keep body current) is) tags,
      none (step.Keep body current) tt,
    )
    by step.Tick is = whole step.Tick is (ticked.sent, ticked.finds)
    by (step.Begin first) is = whole (step.Begin first) is (
      effects_dispatch (step.Begin first) starved rows (row_moment rows s) s tt
          (requests (step.Begin first) is) tags,
      none (step.Begin first) tt,
    )

-- all rows
pub rows_go : (rows : List Row)
    → AreRows rows
    → CommitsPlaced rows
    → AreForRequests rows
    → AllRows RowGoes rows
rows_go [] empty placed requests = tt
rows_go (r ∷ before) (added {rows} s starved made) placed requests =
    let placed_before : CommitsPlaced before =
    λ deeper x place within. placed deeper x place (within_more r before deeper x within) in
    let requests_before : AreForRequests before =
    λ deeper x m within. requests deeper x m (within_more r before deeper x within) in
    let rest : AllRows RowGoes before = rows_go before made placed_before requests_before in (
      row_goes before s starved (λ m read. own_tags m read)
          (rows_sent before made placed_before requests_before) rest,
      rest,
    )
  where
    own_tags : (m : Message) → reading s.datagram ≡ Ok m → IsForRequest s.kind m
    own_tags m read =
        subst (λ (t : Step). IsForRequest t.kind m) (row-step before s starved)
        (requests before (row before s starved) m (record { later = []; whole = refl })
        (ap (λ (t : Step). reading t.datagram) (row-step before s starved) ∙ read))
