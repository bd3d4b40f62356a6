-- How an observer does end: where its notification is rejected or never acknowledged, and where its
-- peer cancels.
use Rattle.std.proofs.Common.{
  ◌≡◌,
  inl,
  inr,
  ℕ,
  ◌==◌,
  ◌&&◌,
  ◌||◌,
  Bool,
  true,
  false,
  not,
  cond,
  List,
  [],
  ◌∷◌,
  ◌++◌,
  map,
  filter,
  find,
  fold,
  length,
  Some,
  None,
  nat_le,
  Ok,
  refl,
  sym,
  ap,
  subst,
  ◌∙◌,
}
use Rattle.std.specs.List.{list_any, AllByRecursion}
use Rattle.std.proofs.lemmas.Bool.{false≢true, and_from, le-leb, or_left, or_right, or_parts}
use Rattle.std.proofs.lemmas.List.Folds.{list_any-append}
use Rattle.rd_base.specs.declared.peers.Peer.{Peer}
use Rattle.rd_base.proofs.lemmas.Among.{
  Among,
  all_among,
  any_among,
  among_front,
  among_filter,
}
use Rattle.rd_base.proofs.lemmas.Each.{each_failing, each_filter, each_passes, each_weaker}
use Rattle.rd_base.proofs.lemmas.Numbers.{eqb-refl}
use Rattle.message_model.specs.declared.messages.Role.TheVariants as role
use Rattle.message_model.specs.declared.requests.Path.{Path}
use Rattle.message_model.specs.declared.requests.Path.TheVariants as path
use Rattle.message_model.specs.Message.{Message, role_of}
use Rattle.message_model.specs.Reading.{reading}
use Rattle.message_model.specs.Request.{path_in, observe_in}
use Rattle.message_model.specs.RequestKey.{key_in}
use Rattle.event_model.specs.declared.notes.Note.{Note}
use Rattle.event_model.specs.declared.notes.Note.TheVariants as note
use Rattle.event_model.specs.declared.notes.Observer.{Observer}
use Rattle.event_model.specs.Same.{RequestName, is_same_peer, is_same_request}
use Rattle.event_model.specs.Events.{Event, noted}
use Rattle.event_model.specs.Observers.{name_of, is_end_of, observers, is_observer}
use Rattle.event_model.specs.Flights.{Flight, max_again, deadline, flight}
use Rattle.event_model.specs.Fetches.{is_last_request}
use Rattle.event_model.proofs.NotedLaws.{is_watching}
use Rattle.event_model.proofs.ObserverEvents.{is_ended_by, observers_left}
use Rattle.event_model.proofs.ObserverLaws.{apart-sym, not_true}
use Rattle.event_model.proofs.SameLaws.{is_same_peer-refl, is_same_request-refl}
use Rattle.journal_model.specs.declared.steps.Step.{Step}
use Rattle.journal_model.specs.declared.steps.StepKind.TheVariants as step
use Rattle.journal_model.specs.declared.rows.Row.{Row}
use Rattle.journal_model.specs.Journal.{events}
use Rattle.journal_model.specs.Effects.{Effects, answering}
use Rattle.journal_model.specs.Requests.{
  asked_block,
  deregister,
  is_lookup,
  is_later_block,
  refusal_of_request,
}
use Rattle.journal_model.specs.Bodies.{is_long}
use Rattle.journal_model.specs.Lookups.{
  listing_now,
  removal,
  keeping,
  unobserved,
  first_block_effects,
  block_effects,
  lookup_effects,
}
use Rattle.journal_model.specs.EmptyMessages.{is_flight_of, waited_for, reset}
use Rattle.journal_model.specs.Rows.{served, request_answered, message_effects, heard, effects}
use Rattle.journal_model.specs.PlacedRows.{Within}
use Rattle.journal_model.specs.AskedListings.{observer_named}
use Rattle.journal_model.specs.Rows.{AreRows}
use Rattle.journal_model.specs.Ticks.{
  each_of,
  notification_again,
  flight_again,
  notifications_again,
  ticking,
  notified_if,
  is_looked_at,
  notification_next,
  notifications,
  requests_again,
  tick_effects,
  due_by,
}
use Rattle.journal_model.proofs.NoteKinds.{of_empty, of_tick, are, none_of}
use Rattle.journal_model.proofs.RowEquations.{events-row}
use Rattle.journal_model.proofs.StepNotes.{reset-notes, tick_effects-notes}
use Rattle.journal_model.proofs.flights.NotificationsAgain.{events_after_again}
use Rattle.headline_law.specs.ObserversStand.{Cancels, RejectsNotification, NeverAcknowledges}
use Rattle.headline_law.proofs.answers.AnsweredAlike.{Does, does}

-- ---- who is ended

-- one whom a row ends does not stand, where it adds nobody
gone : (o : Observer) (place moment word : ℕ) (notes : List Note) (past : List Event)
    → list_any is_watching notes ≡ false
    → is_ended_by notes o ≡ true
    → Among o (observers (noted place moment word notes past))
    → ⊥
gone o place moment word notes past none ended there =
    let left : Among o (filter (λ x. not (is_ended_by notes x)) (observers past)) =
    subst (Among o) (observers_left place moment word notes past none) there in
    let passes : not (is_ended_by notes o) ≡ true =
    all_among (λ x. not (is_ended_by notes x) ≡ true) o
    (filter (λ x. not (is_ended_by notes x)) (observers past))
    (each_passes (λ x. not (is_ended_by notes x)) (observers past)) left in
    false≢true (sym (ap not ended) ∙ passes)

-- notes of a kind that adds nobody
adds_none : (kind : Note → Bool)
    → ((o : Observer) → kind (note.Watched o) ≡ false)
    → (notes : List Note)
    → are kind notes ≡ true
    → list_any is_watching notes ≡ false
adds_none kind never notes all = none_of kind is_watching one notes all
  where
    one : (n : Note) → kind n ≡ true → is_watching n ≡ false
    one (note.Watched o) h = absurd (false≢true (sym (never o) ∙ h))
    one _ h = refl

-- ---- a Reset

among_map : {X Y : Type 0} (f : X → Y) (x : X) (xs : List X) → Among x xs → Among (f x) (map f xs)
among_map f x [] none = none
among_map f x (y ∷ xs) (inl same) = inl (ap f same)
among_map f x (y ∷ xs) (inr further) = inr (among_map f x xs further)

reset_ends : (rows : List Row) (s : Step) (m : Message) (o : Observer) (f : Flight)
    → Among o (observers (events rows))
    → o.peer ≡ s.peer
    → flight o (events rows) ≡ Some f
    → m.mid ≡ f.mid
    → is_ended_by (reset s.peer m.mid (events rows)).notes o ≡ true
unfolding reset
reset_ends rows s m o f stands peer flies mid =
    any_among (λ n. is_end_of n (name_of o)) (note.Unwatched o.peer o.token)
    (map (λ x. note.Unwatched x.peer x.token) (waited_for s.peer m.mid (events rows))
    ++ (cond (is_last_request s.peer m.mid (events rows)) (note.Ceased s.peer ∷ []) []))
    (among_front (note.Unwatched o.peer o.token)
    (map (λ x. note.Unwatched x.peer x.token) (waited_for s.peer m.mid (events rows))) _
    (among_map (λ x. note.Unwatched x.peer x.token) o (waited_for s.peer m.mid (events rows))
    (among_filter
    (λ x. is_same_peer x.peer s.peer && is_flight_of m.mid (flight x (events rows))) o
    (observers (events rows)) stands
    (and_from (is_same_peer o.peer s.peer) (is_flight_of m.mid (flight o (events rows)))
    (subst (λ p. is_same_peer o.peer p ≡ true) peer (is_same_peer-refl o.peer))
    (ap (is_flight_of m.mid) flies
    ∙ subst (λ n. (f.mid == n) ≡ true) (sym mid) (eqb-refl f.mid))))))
    (is_same_request-refl (name_of o))

-- ---- a tick

-- what is noted for one is noted for all
each_of_any : {A : Type 0} (test : Note → Bool) (does_it : A → Effects) (x : A) (xs : List A)
    → Among x xs
    → list_any test (does_it x).notes ≡ true
    → list_any test (each_of does_it xs).notes ≡ true
each_of_any test does_it x [] nothing h = absurd nothing
each_of_any test does_it x (y ∷ ys) (inl same) h =
    list_any-append test (does_it y).notes (each_of does_it ys).notes
    ∙ or_left (list_any test (does_it y).notes) (list_any test (each_of does_it ys).notes)
    (subst (λ z. list_any test (does_it z).notes ≡ true) (sym same) h)
each_of_any test does_it x (y ∷ ys) (inr further) h =
    list_any-append test (does_it y).notes (each_of does_it ys).notes
    ∙ or_right (list_any test (does_it y).notes) (list_any test (each_of does_it ys).notes)
    (each_of_any test does_it x ys further h)

-- the first part of a tick ends it
again_ends : (rows : List Row) (moment : ℕ) (o : Observer) (f : Flight)
    → Among o (observers (events rows))
    → flight o (events rows) ≡ Some f
    → nat_le (deadline f.formed f.again) moment ≡ true
    → nat_le max_again (length f.again) ≡ true
    → is_ended_by (notifications_again rows moment).notes o ≡ true
unfolding notifications_again
again_ends rows moment o f stands flies over last =
    each_of_any (λ n. is_end_of n (name_of o))
    (λ x. flight_again rows moment x (flight x (events rows))) o (observers (events rows)) stands
    (subst (λ x. list_any (λ n. is_end_of n (name_of o)) (flight_again rows moment o x).notes
    ≡ true) (sym flies)
    (subst (λ b. list_any (λ n. is_end_of n (name_of o))
    (notification_again (due_by b (nat_le max_again (length f.again))) rows o f).notes
    ≡ true) (sym over)
    (subst (λ c. list_any (λ n. is_end_of n (name_of o))
    (notification_again (due_by true c) rows o f).notes
    ≡ true) (sym last)
    (or_left (is_same_request (name_of o) (name_of o)) false (is_same_request-refl (name_of o))))))

-- its notifications keep what is noted
notifications_keep : (test : Note → Bool) (rows : List Row) (moment : ℕ) (s : Step)
    (left : List Observer) (done : Effects)
    → list_any test done.notes ≡ true
    → list_any test (fold (notification_next (ticking rows moment s)) done left).notes ≡ true
notifications_keep test rows moment s [] done h = h
notifications_keep test rows moment s (o ∷ left) done h =
    notifications_keep test rows moment s left (notification_next (ticking rows moment s) done o)
    (list_any-append test done.notes
    (notified_if (is_looked_at (ticking rows moment s) done o) (ticking rows moment s) done o).notes
    ∙ or_left (list_any test done.notes)
    (list_any test
    (notified_if (is_looked_at (ticking rows moment s) done o) (ticking rows moment s) done
    o).notes)
    h)

-- so does the whole of it
tick_keeps : (test : Note → Bool) (starved : Bool) (rows : List Row) (moment : ℕ) (s : Step)
    → list_any test (notifications_again rows moment).notes ≡ true
    → list_any test (tick_effects starved rows moment s).notes ≡ true
unfolding tick_effects notifications
tick_keeps test true rows moment s h =
    list_any-append test (notifications_again rows moment).notes (requests_again rows moment).notes
    ∙ or_left (list_any test (notifications_again rows moment).notes)
    (list_any test (requests_again rows moment).notes) h
tick_keeps test false rows moment s h =
    list_any-append test (notifications (ticking rows moment s)
    (notifications_again rows moment)).notes
    (requests_again rows moment).notes
    ∙ or_left (list_any test (notifications (ticking rows moment s)
    (notifications_again rows moment)).notes)
    (list_any test (requests_again rows moment).notes)
    (notifications_keep test rows moment s (observers (events_after_again rows moment s.word))
    (notifications_again rows moment) h)

-- ---- rows

-- what a row of a Reset notes
reset_row : (starved : Bool) (rows : List Row) (moment : ℕ) (s : Step) (m : Message)
    → reading s.datagram ≡ Ok m
    → role_of m.kind m.code ≡ role.Reset
    → effects step.Admit starved rows moment s ≡ reset s.peer m.mid (events rows)
unfolding effects
reset_row starved rows moment s m read resets =
    ap (heard starved rows moment s) read
    ∙ ap (λ r. message_effects r starved rows moment s m) resets

-- and one of a tick
tick_row : (starved : Bool) (rows : List Row) (moment : ℕ) (s : Step)
    → effects step.Tick starved rows moment s ≡ tick_effects starved rows moment s
unfolding effects
tick_row starved rows moment s = refl

-- one whose notification is rejected does not stand after it
pub rejected_gone : (rows before : List Row) (r : Row) (o : Observer)
    → AreRows rows
    → Within rows before r
    → RejectsNotification before r o
    → Among o (observers (events before))
    → Among o (observers (events (r ∷ before)))
    → ⊥
rejected_gone rows before r o made within it stands there =
    let facts : Does before r = does rows before r made within in
    let notes_are : r.notes ≡ (reset r.step.peer it.message.mid (events before)).notes =
    facts.1
    ∙ (ap (λ k. (effects k r.starved before r.moment.0 r.step).notes) it.heard
    ∙ ap (λ (e : Effects). e.notes)
    (reset_row r.starved before r.moment.0 r.step it.message it.read it.resets)) in
    gone o (length before) r.moment.0 r.step.word r.notes (events before)
    (ap (list_any is_watching) notes_are
    ∙ adds_none of_empty (λ x. refl) (reset r.step.peer it.message.mid (events before)).notes
    (reset-notes r.step.peer it.message.mid (events before)))
    (ap (λ ns. is_ended_by ns o) notes_are
    ∙ reset_ends before r.step it.message o it.notification stands it.peer it.flies it.mid)
    (subst (λ past. Among o (observers past)) (events-row before r) there)

-- nor does one whose notification is never acknowledged
pub given_up_gone : (rows before : List Row) (r : Row) (o : Observer)
    → AreRows rows
    → Within rows before r
    → NeverAcknowledges before r o
    → Among o (observers (events before))
    → Among o (observers (events (r ∷ before)))
    → ⊥
given_up_gone rows before r o made within it stands there =
    let facts : Does before r = does rows before r made within in
    let notes_are : r.notes ≡ (tick_effects r.starved before r.moment.0 r.step).notes =
    facts.1
    ∙ (ap (λ k. (effects k r.starved before r.moment.0 r.step).notes) it.ticks
    ∙ ap (λ (e : Effects). e.notes) (tick_row r.starved before r.moment.0 r.step)) in
    gone o (length before) r.moment.0 r.step.word r.notes (events before)
    (ap (list_any is_watching) notes_are
    ∙ adds_none of_tick (λ x. refl) (tick_effects r.starved before r.moment.0 r.step).notes
    (tick_effects-notes r.starved before r.moment.0 r.step))
    (ap (λ ns. is_ended_by ns o) notes_are
    ∙ tick_keeps (λ n. is_end_of n (name_of o)) r.starved before r.moment.0 r.step
    (again_ends before r.moment.0 o it.notification stands it.flies
    (le-leb (deadline it.notification.formed it.notification.again) r.moment.0 it.waited)
    (le-leb max_again (length it.notification.again) it.sent)))
    (subst (λ past. Among o (observers past)) (events-row before r) there)

-- ---- a cancellation

-- where none passes a test, none is found
find_none : {X : Type 0} (test : X → Bool) (xs : List X)
    → AllByRecursion (λ x. test x ≡ false) xs
    → find test xs ≡ None
find_none test [] all = refl
find_none test (x ∷ xs) all = rw all.0 (find_none test xs all.1)

-- what a cancellation notes
cancel_row : (rows : List Row) (moment : ℕ) (s : Step) (m : Message)
    → reading s.datagram ≡ Ok m
    → role_of m.kind m.code ≡ role.Request
    → refusal_of_request m ≡ None
    → is_lookup (path_in m) ≡ true
    → is_later_block m ≡ false
    → observe_in m ≡ Some deregister
    → (effects step.Admit false rows moment s).notes
    ≡ removal (s.peer, m.token) (observers (events rows))
    ++ keeping s m (listing_now rows moment m)
unfolding effects served lookup_effects unobserved answering
cancel_row rows moment s m read asks none looks first ends =
    ap (λ x. (heard false rows moment s x).notes) read
    ∙ (ap (λ r. (message_effects r false rows moment s m).notes) asks
    ∙ (ap (λ o. (request_answered o rows moment s m).notes) none
    ∙ on (path_in m) looks))
  where
    looked : (lookup_effects rows moment s m).notes
        ≡ removal (s.peer, m.token) (observers (events rows))
        ++ keeping s m (listing_now rows moment m)
    looked =
        ap (λ b. (block_effects b rows moment s m).notes) first
        ∙ ap (λ o. (first_block_effects o rows moment s m).notes) ends

    on : (p : Path)
        → is_lookup p ≡ true
        → (served p rows moment s m).notes
        ≡ removal (s.peer, m.token) (observers (events rows))
        ++ keeping s m (listing_now rows moment m)
    on path.Core h = absurd (false≢true h)
    on path.SimpleRd h = absurd (false≢true h)
    on path.Rd h = absurd (false≢true h)
    on (path.Location number) h = absurd (false≢true h)
    on path.Res h = looked
    on path.Ep h = looked
    on path.Other h = absurd (false≢true h)

-- a kept answer ends nobody and adds nobody
keeping_quiet : (test : Note → Bool) (s : Step) (m : Message) (rows : List Row) (moment : ℕ)
    → ((peer : Peer) (key body current : List ℕ) → test (note.Kept peer key body current) ≡ false)
    → list_any test (keeping s m (listing_now rows moment m)) ≡ false
keeping_quiet test s m rows moment never =
    by (is_long (asked_block m) (listing_now rows moment m).body)
  where
    by : (b : Bool)
        → list_any test
        (cond b (note.Kept s.peer (key_in m) (listing_now rows moment m).body
        (listing_now rows moment m).tag
        ∷ []) [])
        ≡ false
    by true =
        rw (never s.peer (key_in m) (listing_now rows moment m).body
        (listing_now rows moment m).tag) refl
    by false = refl

-- after it nobody has the name
pub cancelled_none : (rows before : List Row) (r : Row) (request : Message)
    → AreRows rows
    → Within rows before r
    → Cancels r request
    → observer_named (r.step.peer, request.token) (r ∷ before) ≡ None
cancelled_none rows before r request made within it =
    ap (find same_name)
    (ap observers (events-row before r
    ∙ ap (λ ns. noted (length before) r.moment.0 r.step.word ns (events before)) notes_are)
    ∙ observers_left (length before) r.moment.0 r.step.word
    (removal name (observers (events before)) ++ kept) (events before) adds)
    ∙ by (is_observer name (observers (events before))) refl
  where
    name : RequestName
    name = (r.step.peer, request.token)

    same_name : Observer → Bool
    same_name o = is_same_request (name_of o) (r.step.peer, request.token)

    kept : List Note
    kept = keeping r.step request (listing_now before r.moment.0 request)

    notes_are : r.notes
        ≡ removal (r.step.peer, request.token) (observers (events before))
        ++ keeping r.step request (listing_now before r.moment.0 request)
    notes_are =
        (does rows before r made within).1
        ∙ (ap (λ k. (effects k r.starved before r.moment.0 r.step).notes) it.asks.heard
        ∙ (ap (λ b. (effects step.Admit b before r.moment.0 r.step).notes) it.ample
        ∙ cancel_row before r.moment.0 r.step request it.asks.read it.asks.asks
        it.asks.unrefused
        it.asks.lookup it.asks.first it.deregisters))

    removal_adds : (b : Bool)
        → list_any is_watching (cond b (note.Unwatched r.step.peer request.token ∷ []) []) ≡ false
    removal_adds true = refl
    removal_adds false = refl

    adds : list_any is_watching
        (removal (r.step.peer, request.token) (observers (events before))
        ++ keeping r.step request (listing_now before r.moment.0 request))
        ≡ false
    adds =
        list_any-append is_watching
        (removal (r.step.peer, request.token) (observers (events before)))
        (keeping r.step request (listing_now before r.moment.0 request))
        ∙ rw (
          removal_adds (is_observer (r.step.peer, request.token) (observers (events before))),
          keeping_quiet is_watching r.step request before r.moment.0 (λ p k b c. refl),
        ) refl

    Left : Bool → Type 0
    Left b =
        find same_name
        (filter (λ o. not (is_ended_by
        (cond b (note.Unwatched r.step.peer request.token ∷ []) [] ++ kept) o))
        (observers (events before)))
        ≡ None

    other : (o : Observer)
        → not (is_same_request (r.step.peer, request.token) (name_of o)
        || list_any (λ n. is_end_of n (name_of o)) kept)
        ≡ true
        → same_name o ≡ false
    other o h =
        apart-sym (r.step.peer, request.token) (name_of o)
        (or_parts (is_same_request (r.step.peer, request.token) (name_of o))
        (list_any (λ n. is_end_of n (name_of o)) kept)
        (not_true (is_same_request (r.step.peer, request.token) (name_of o)
        || list_any (λ n. is_end_of n (name_of o)) kept) h)).0

    by : (b : Bool) → is_observer name (observers (events before)) ≡ b → Left b
    by true is =
        find_none same_name _
        (each_weaker _ (λ o. same_name o ≡ false) other _
        (each_passes (λ o. not (is_ended_by
        (note.Unwatched r.step.peer request.token ∷ kept) o)) (observers (events before))))
    by false is =
        find_none same_name _
        (each_filter (λ o. same_name o ≡ false) (λ o. not (is_ended_by kept o))
        (observers (events before))
        (each_failing same_name (λ o. same_name o ≡ false) (λ o h. h)
        (observers (events before)) is))
