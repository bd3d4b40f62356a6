-- A tick, part after part: what the notifications leave for the requests of fetches, how many
-- datagrams go out, and that the parts are all that a tick does.
use Rattle.std.proofs.Common.{
  ◌≡◌,
  ℕ,
  ◌+◌,
  ◌<◌,
  ◌≤◌,
  ◌&&◌,
  nat_le,
  Bool,
  true,
  false,
  not,
  cond,
  List,
  [],
  ◌∷◌,
  length,
  fold,
  Option,
  Some,
  None,
  refl,
  sym,
  ap,
  ◌∙◌,
  arith,
}
use Rattle.std.specs.List.{list_any}
use Rattle.std.proofs.lemmas.Bool.{false≢true, and_parts}
use Rattle.std.proofs.lemmas.Bool.Decides.{nat_tests}
use Rattle.std.proofs.lemmas.List.Folds.{list_any-append}
use Rattle.rd_base.specs.declared.moments.Moment.{Moment}
use Rattle.rd_base.specs.declared.peers.Peer.{Peer}
use Rattle.event_model.specs.declared.notes.Note.{Note}
use Rattle.event_model.specs.declared.notes.Note.TheVariants as note
use Rattle.event_model.specs.declared.notes.Observer.{Observer}
use Rattle.event_model.specs.Due.{is_due}
use Rattle.event_model.specs.Flights.{Flight, max_again, deadline, flight, is_waited_for}
use Rattle.event_model.specs.KeptAnswers.{Answer}
use Rattle.event_model.specs.Observers.{name_of, observers, last_body_formed}
use Rattle.event_model.specs.Fetches.{fetches, last_request, starts_or_ends_fetch, started_by}
use Rattle.event_model.proofs.AsideLaws.{notes_aside}
use Rattle.event_model.proofs.AsideTables.{about_fetches}
use Rattle.journal_model.specs.declared.steps.Step.{Step}
use Rattle.journal_model.specs.declared.steps.StepKind.{StepKind}
use Rattle.journal_model.specs.declared.steps.StepKind.TheVariants as step
use Rattle.journal_model.specs.declared.rows.Row.{Row}
use Rattle.journal_model.specs.DeskJournal.{IsDeskJournal}
use Rattle.journal_model.specs.Effects.{Effects, nothing, joined}
use Rattle.journal_model.specs.Bodies.{is_long}
use Rattle.journal_model.specs.Journal.{events}
use Rattle.journal_model.specs.Rows.{row_moment, effects, row}
use Rattle.journal_model.specs.Ticks.{
  confirmable_sent,
  sent_again,
  each_of,
  notification_again,
  flight_again,
  notifications_again,
  Ticking,
  ticking,
  events_with,
  first_block,
  is_unchanged,
  notified_unless,
  listing_for,
  notified_if,
  is_looked_at,
  notification_next,
  notifications,
  requests_again,
  tick_effects,
  due_by,
}
use Rattle.journal_model.specs.Journal.{row_at}
use Rattle.journal_model.proofs.NoteKinds.{of_again, none_of}
use Rattle.journal_model.proofs.StepNotes.{notifications_again-notes}
use Rattle.simple_registration.specs.FetchEvents.{fetch_due}
use Rattle.simple_registration.proofs.DeskLaws.{last_request-other, fetch_due-other}
use Rattle.simple_registration.proofs.NoteLaws.{IsAside}
use Rattle.simple_registration.proofs.PeerLaws.{fetches-aside}
use Rattle.coap_answers.specs.declared.mids.Mids.{Mids}
use Rattle.rd_desk.specs.calls.Desks.{Seen}
use Rattle.rd_desk.specs.parts.Planning.{notifications_done}
use Rattle.rd_desk.specs.parts.Resending.{LeavesFetches}
use Rattle.rd_desk.specs.parts.UnderWay.{UnderWay}
use Rattle.rd_desk.specs.calls.Steps.{IsCalled, Made}
use Rattle.rd_desk.proofs.parts.WayLaws.{ended}
use Rattle.rd_desk.proofs.ticking.AgainWalk.{length-append}
use Rattle.rd_desk.proofs.ticking.BoundLaws.{few_observers, few_fetches}

-- ---- notes that leave the fetches

aside_of : (q : Peer) (n : Note) → about_fetches n ≡ false → IsAside q n
aside_of q (note.Asked p token mid params number) h = absurd (false≢true (sym h))
aside_of q (note.Gathered p octets tag) h = absurd (false≢true (sym h))
aside_of q (note.Resent p) h = absurd (false≢true (sym h))
aside_of q (note.Waiting p) h = absurd (false≢true (sym h))
aside_of q (note.Ceased p) h = absurd (false≢true (sym h))
aside_of q _ h = record {
  request = refl;
  resent = refl;
  waiting = refl;
  start = refl;
  block = refl;
}

ends_none : (n : Note) → about_fetches n ≡ false → (q : Peer) → starts_or_ends_fetch n q ≡ false
ends_none (note.Asked p token mid params number) h q = absurd (false≢true (sym h))
ends_none (note.Ceased p) h q = absurd (false≢true (sym h))
ends_none _ h q = refl

starts_none : (n : Note) → about_fetches n ≡ false → started_by n ≡ []
starts_none (note.Asked p token mid params number) h = absurd (false≢true (sym h))
starts_none _ h = refl

leaves_fetches : (rows : List Row) (s : Step) (starved : Bool) (done : Effects)
    → list_any about_fetches done.notes ≡ false
    → LeavesFetches rows s starved done
unfolding events
leaves_fetches rows s starved done none = record {
  running =
      notes_aside about_fetches (λ past. fetches past ≡ fetches (events rows))
      (λ e past other h.
      fetches-aside e past (ends_none e.note other) (starts_none e.note other) ∙ h)
      (length rows) (row_moment rows s) s.word done.notes (events rows) none refl;
  same = λ q. record {
    request =
        notes_aside about_fetches (λ past. last_request q past ≡ last_request q (events rows))
        (λ e past other h. last_request-other q e past (aside_of q e.note other) ∙ h)
        (length rows) (row_moment rows s) s.word done.notes (events rows) none refl;
    due =
        λ x.
        notes_aside about_fetches (λ past.
        fetch_due (row_moment rows s) q x past
        ≡ fetch_due (row_moment rows s) q x (events rows))
        (λ e past other h.
        fetch_due-other (row_moment rows s) q x e past (aside_of q e.note other) ∙ h)
        (length rows) (row_moment rows s) s.word done.notes (events rows) none refl;
  };
}

-- ---- how much the notifications do

-- what the row did so far is not about fetches, and it sent at most so many datagrams beside its
-- new notifications, of which there are at most 64
record SoFar (n : ℕ) (d : Effects) : Type 0 where
  aside : list_any about_fetches d.notes ≡ false
  size : length d.sent ≤ n + d.drew
  few : d.drew ≤ 64

pub again_size : (rows : List Row) (moment : ℕ)
    → length (notifications_again rows moment).sent ≤ length (observers (events rows))
unfolding notifications_again
again_size rows moment = each (observers (events rows))
  where
    sent_one : (d : Option (Peer × List ℕ)) (n : Note) → length (sent_again d n).sent ≤ 1
    sent_one None n = omega arith
    sent_one (Some d) n = omega arith

    due : (a b : Bool) (o : Observer) (f : Flight)
        → length (notification_again (due_by a b) rows o f).sent ≤ 1
    due false b o f = omega arith
    due true true o f = omega arith
    due true false o f =
        sent_one (confirmable_sent (row_at f.formed.place rows) o.peer f.mid)
        (note.Again o.peer f.mid)

    one : (o : Observer) (f : Option Flight) → length (flight_again rows moment o f).sent ≤ 1
    one o None = omega arith
    one o (Some f) =
        due (nat_le (deadline f.formed f.again) moment) (nat_le max_again (length f.again)) o f

    each : (os : List Observer)
        → length (each_of (λ o. flight_again rows moment o (flight o (events rows))) os).sent
        ≤ length os
    each [] = omega arith
    each (o ∷ os) =
        let first = one o (flight o (events rows)) in
        let rest = each os in
        let sum =
        length-append (flight_again rows moment o (flight o (events rows))).sent
        (each_of (λ x. flight_again rows moment x (flight x (events rows))) os).sent in
        omega (arith, first, rest, sum)

pub again_draws : (rows : List Row) (moment : ℕ) → (notifications_again rows moment).drew ≡ 0
unfolding notifications_again
again_draws rows moment = each (observers (events rows))
  where
    sent_one : (d : Option (Peer × List ℕ)) (n : Note) → (sent_again d n).drew ≡ 0
    sent_one None n = refl
    sent_one (Some d) n = refl

    due : (a b : Bool) (o : Observer) (f : Flight)
        → (notification_again (due_by a b) rows o f).drew ≡ 0
    due false b o f = refl
    due true true o f = refl
    due true false o f =
        sent_one (confirmable_sent (row_at f.formed.place rows) o.peer f.mid)
        (note.Again o.peer f.mid)

    one : (o : Observer) (f : Option Flight) → (flight_again rows moment o f).drew ≡ 0
    one o None = refl
    one o (Some f) =
        due (nat_le (deadline f.formed f.again) moment) (nat_le max_again (length f.again)) o f

    each : (os : List Observer)
        → (each_of (λ o. flight_again rows moment o (flight o (events rows))) os).drew ≡ 0
    each [] = refl
    each (o ∷ os) =
        let first = one o (flight o (events rows)) in
        let rest = each os in
        omega (arith, first, rest)

again_so_far : (rows : List Row) (moment : ℕ)
    → SoFar (length (observers (events rows))) (notifications_again rows moment)
again_so_far rows moment =
    let size = again_size rows moment in
    let drew = again_draws rows moment in
    record {
      aside =
          none_of of_again about_fetches other (notifications_again rows moment).notes
          (notifications_again-notes rows moment);
      size = omega (arith, size, drew);
      few = omega (arith, drew);
    }
  where
    other : (n : Note) → of_again n ≡ true → about_fetches n ≡ false
    other (note.Unwatched peer token) h = refl
    other (note.Again peer mid) h = refl
    other _ h = absurd (false≢true h)

-- one observer more
one_so_far : (n : ℕ) (t : Ticking) (d : Effects) (o : Observer)
    → SoFar n d
    → SoFar n (notification_next t d o)
one_so_far n t d o h = by (is_looked_at t d o) refl
  where
    more : (e : Effects)
        → list_any about_fetches e.notes ≡ false
        → length e.sent ≤ e.drew
        → d.drew + e.drew ≤ 64
        → SoFar n (joined d e)
    more e aside size few =
        let sum = length-append d.sent e.sent in
        let before = h.size in
        record {
          aside = list_any-append about_fetches d.notes e.notes ∙ rw (h.aside, aside) refl;
          size = omega (arith, sum, before, size);
          few = few;
        }

    room : is_looked_at t d o ≡ true → d.drew < 64
    room is =
        let both =
        and_parts (not (nat_le 64 d.drew) && is_due o (events_with t d) t.transitions)
        (not (is_waited_for o.peer (events_with t d))) is in
        let few =
        turned (nat_le 64 d.drew)
        (and_parts (not (nat_le 64 d.drew)) (is_due o (events_with t d) t.transitions)
        both.0).0 in
        grind (arith, nat_tests, few)
      where
        turned : (b : Bool) → not b ≡ true → b ≡ false
        turned true k = absurd (false≢true k)
        turned false k = refl

    keeps : (b : Bool) (a : Answer)
        → list_any about_fetches (cond b (note.Kept o.peer o.key a.body a.tag ∷ []) []) ≡ false
    keeps true a = refl
    keeps false a = refl

    unless : (b : Bool) (a : Answer) → d.drew < 64 → SoFar n (joined d (notified_unless b t d o a))
    unless true a low =
        let few = h.few in
        more (notified_unless true t d o a) refl (omega arith) (omega (arith, few))
    unless false a low =
        more (notified_unless false t d o a) (keeps (is_long (first_block o) a.body) a)
        (omega arith)
        (omega (arith, low))

    by : (b : Bool) → is_looked_at t d o ≡ b → SoFar n (joined d (notified_if b t d o))
    by false e = let few = h.few in more nothing refl (omega arith) (omega (arith, few))
    by true e =
        unless
        (is_unchanged (last_body_formed (name_of o) (events_with t d)) (listing_for t o).body)
        (listing_for t o) (room e)

all_so_far : (n : ℕ) (t : Ticking) (os : List Observer) (d : Effects)
    → SoFar n d
    → SoFar n (fold (notification_next t) d os)
all_so_far n t [] d h = h
all_so_far n t (o ∷ os) d h = all_so_far n t os (notification_next t d o) (one_so_far n t d o h)

done_so_far : (starved : Bool) (rows : List Row) (s : Step)
    → SoFar (length (observers (events rows))) (notifications_done starved rows s)
unfolding notifications
done_so_far true rows s = again_so_far rows (row_moment rows s)
done_so_far false rows s =
    all_so_far (length (observers (events rows))) (ticking rows (row_moment rows s) s)
    (observers (events_with (ticking rows (row_moment rows s) s)
    (notifications_again rows (row_moment rows s)))) (notifications_again rows (row_moment rows s))
    (again_so_far rows (row_moment rows s))

-- ---- the tick

-- what the requests of fetches ask of the notifications
pub notifications_leave : (starved : Bool) (rows : List Row) (s : Step)
    → LeavesFetches rows s starved (notifications_done starved rows s)
notifications_leave starved rows s =
    leaves_fetches rows s starved (notifications_done starved rows s)
    (done_so_far starved rows s).aside

pub requests_room : (starved : Bool) (rows : List Row) (s : Step)
    → IsDeskJournal rows
    → length (notifications_done starved rows s).sent + length (fetches (events rows)) ≤ 1_152
requests_room starved rows s journal =
    let so_far = done_so_far starved rows s in
    let size = so_far.size in
    let few = so_far.few in
    let observe = few_observers rows journal in
    let fetched = few_fetches rows journal in
    omega (arith, size, few, observe, fetched)

-- the parts are all that a tick does
tick_is : (starved : Bool) (rows : List Row) (s : Step)
    → s.kind ≡ step.Tick
    → joined (notifications_done starved rows s) (requests_again rows (row_moment rows s))
    ≡ effects s.kind starved rows (row_moment rows s) s
unfolding effects tick_effects
tick_is true rows s kind =
    ap (λ (k : StepKind). effects k true rows (row_moment rows s) s) (sym kind)
tick_is false rows s kind =
    ap (λ (k : StepKind). effects k false rows (row_moment rows s) s) (sym kind)

-- so its row is made
pub tick_made : (rows : List Row) (s : Step) (starved : Bool) (now : Moment) (before after : Seen)
    (out : List (Peer × List ℕ)) (mids_before mids : Mids)
    → s.kind ≡ step.Tick
    → IsCalled rows s now mids_before before
    → UnderWay rows s starved
    (joined (notifications_done starved rows s) (requests_again rows (row_moment rows s))) after out
    mids
    → Made rows (row rows s starved) after out mids_before mids
tick_made rows s starved now before after out mids_before mids kind call way =
    ended rows s starved
    (joined (notifications_done starved rows s) (requests_again rows (row_moment rows s))) after out
    mids_before mids way (tick_is starved rows s kind) call.worker call.drawn
