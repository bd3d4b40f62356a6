-- What looks, keeps, lookups, writes as they are heard, empty messages, and ticks note; so none of
-- them notes an entry.
use Rattle.std.proofs.Common.{
  ◌≡◌,
  ℕ,
  Bool,
  true,
  false,
  cond,
  List,
  [],
  ◌∷◌,
  ◌++◌,
  map,
  fold,
  Option,
  Some,
  None,
  refl,
  ◌==◌,
}
use Rattle.message_model.specs.Message.{Message}
use Rattle.history_model.specs.declared.entries.Entry.{Entry}
use Rattle.rd_base.specs.declared.peers.Peer.{Peer}
use Rattle.event_model.specs.declared.notes.Note.{Note}
use Rattle.event_model.specs.declared.notes.Note.TheVariants as note
use Rattle.event_model.specs.declared.notes.Observer.{Observer}
use Rattle.event_model.specs.Same.{RequestName}
use Rattle.event_model.specs.Events.{Event}
use Rattle.event_model.specs.KeptAnswers.{Answer}
use Rattle.event_model.specs.Flights.{Flight}
use Rattle.event_model.specs.Fetches.{Request}
use Rattle.journal_model.specs.declared.steps.Step.{Step}
use Rattle.journal_model.specs.declared.rows.Row.{Row}
use Rattle.journal_model.specs.Effects.{Effects, answering}
use Rattle.message_model.specs.Request.{observe_in}
use Rattle.message_model.specs.RequestKey.{key_in}
use Rattle.event_model.specs.Observers.{
  has_room_for,
  name_of,
  observers,
  is_observer,
  last_body_formed,
}
use Rattle.event_model.specs.Flights.{flight}
use Rattle.event_model.specs.Fetches.{last_request, fetches, is_last_request}
use Rattle.journal_model.specs.Journal.{events, entries}
use Rattle.journal_model.specs.Requests.{asked_block, query_of, register, deregister}
use Rattle.journal_model.specs.Bodies.{is_long}
use Rattle.journal_model.specs.Looks.{
  Look,
  answered,
  held,
  look,
  look_sent,
  look_effects,
  keep_effects,
}
use Rattle.journal_model.specs.Lookups.{
  without,
  listing_now,
  addition,
  observer_of,
  block_now,
  block_of_found,
  block_of_kept,
  later_block,
  removal,
  keeping,
  observed_if,
  observed,
  unobserved,
  observation_effects,
  first_block_effects,
  block_effects,
  lookup_effects,
  read_block_effects,
  read_effects,
  observing_by,
}
use Rattle.journal_model.specs.Writes.{again_answered, admitted_unless, write_unless, write_effects}
use Rattle.journal_model.specs.EmptyMessages.{waited_for, acknowledged, reset}
use Rattle.journal_model.specs.Ticks.{
  first_block,
  is_unchanged,
  listing_for,
  is_looked_at,
  events_with,
  ticking,
  sent_again,
  each_of,
  notification_again,
  flight_again,
  notifications_again,
  Ticking,
  notified_unless,
  notified_if,
  notification_next,
  notifications,
  request_again,
  fetch_again,
  requests_again,
  tick_effects,
  due_by,
}
use Rattle.std.proofs.lemmas.Bool.{and_from}
use Rattle.journal_model.proofs.NoteKinds.{
  of_lookup,
  of_read,
  read_lookup,
  of_write,
  of_empty,
  of_again,
  of_resent,
  of_tick,
  are,
  are-append,
  again_tick,
  resent_tick,
}

-- a look
pub look_effects-notes : (history : List Entry) (moment : ℕ) (s : Step) (m : Message)
    → (look_effects history moment s m).notes ≡ []
unfolding look_effects answering
look_effects-notes history moment s m = by (look history moment m)
  where
    by : (given : Option Look) → (look_sent s m given).notes ≡ []
    by None = refl
    by (Some (answered reply)) = refl
    by (Some (held found)) = refl

-- a keep
pub keep_effects-notes : (s : Step) (m : Message) (body current : List ℕ)
    → (keep_effects s m body current).notes ≡ note.Kept s.peer (key_in m) body current ∷ []
unfolding keep_effects answering
keep_effects-notes s m body current = refl

-- a further block
pub later_block-kept : (rows : List Row) (moment : ℕ) (s : Step) (m : Message)
    → are of_read (later_block rows moment s m).notes ≡ true
unfolding later_block answering
later_block-kept rows moment s m = by _ _
  where
    part_of : (answer : Answer) (part : Option (List ℕ × Bool))
        → are of_read (block_now s m answer part).notes ≡ true
    part_of answer None = refl
    part_of answer (Some part) = refl

    fresh : (found : Option Answer) → are of_read (block_of_found s m found).notes ≡ true
    fresh None = refl
    fresh (Some answer) = part_of answer _

    by : (found kept : Option Answer) → are of_read (block_of_kept s m found kept).notes ≡ true
    by found (Some kept) = refl
    by found None = fresh found

pub later_block-notes : (rows : List Row) (moment : ℕ) (s : Step) (m : Message)
    → are of_lookup (later_block rows moment s m).notes ≡ true
later_block-notes rows moment s m =
    read_lookup (later_block rows moment s m).notes (later_block-kept rows moment s m)

-- one note or none
lookup_one : (b : Bool) (n : Note) → of_lookup n ≡ true → are of_lookup (cond b (n ∷ []) []) ≡ true
lookup_one true n fits = and_from (of_lookup n) true fits refl
lookup_one false n fits = refl

-- an observer is removed or not
removal-notes : (name : RequestName) (standing : List Observer)
    → are of_lookup (removal name standing) ≡ true
removal-notes name standing =
    lookup_one (is_observer name standing) (note.Unwatched name.0 name.1) refl

-- an answer is kept or not
keeping-notes : (s : Step) (m : Message) (answer : Answer)
    → are of_lookup (keeping s m answer) ≡ true
keeping-notes s m answer =
    lookup_one (is_long (asked_block m) answer.body)
    (note.Kept s.peer (key_in m) answer.body answer.tag) refl

-- an observer is added or not
observed_if-notes : (b : Bool) (rows : List Row) (s : Step) (m : Message) (answer : Answer)
    → are of_lookup (observed_if b rows s m answer).notes ≡ true
unfolding answering
observed_if-notes true rows s m answer =
    are-append of_lookup (removal (s.peer, m.token) (observers (events rows)))
    (addition (observer_of s m) answer.body ++ keeping s m answer)
    (removal-notes (s.peer, m.token) (observers (events rows)))
    (are-append of_lookup (addition (observer_of s m) answer.body) (keeping s m answer) refl
    (keeping-notes s m answer))
observed_if-notes false rows s m answer =
    are-append of_lookup (removal (s.peer, m.token) (observers (events rows))) (keeping s m answer)
    (removal-notes (s.peer, m.token) (observers (events rows))) (keeping-notes s m answer)

-- a lookup that the journal takes part in
pub lookup_effects-notes : (rows : List Row) (moment : ℕ) (s : Step) (m : Message)
    → are of_lookup (lookup_effects rows moment s m).notes ≡ true
unfolding lookup_effects observed unobserved
lookup_effects-notes rows moment s m = by _
  where
    value : (b c : Bool)
        → are of_lookup (observation_effects (observing_by b c) rows moment s m).notes ≡ true
    value true c =
        observed_if-notes
        (has_room_for (query_of m) (without (s.peer, m.token) (observers (events rows)))) rows s
        m (listing_now rows moment m)
    value false true = observed_if-notes false rows s m (listing_now rows moment m)
    value false false = rw (look_effects-notes (entries rows) moment s m) refl

    observe : (o : Option ℕ) → are of_lookup (first_block_effects o rows moment s m).notes ≡ true
    observe None = rw (look_effects-notes (entries rows) moment s m) refl
    observe (Some n) = value (n == register) (n == deregister)

    by : (b : Bool) → are of_lookup (block_effects b rows moment s m).notes ≡ true
    by true = later_block-notes rows moment s m
    by false = observe (observe_in m)

-- a read of a registration
pub read_effects-kept : (rows : List Row) (moment : ℕ) (s : Step) (m : Message)
    → are of_read (read_effects rows moment s m).notes ≡ true
unfolding read_effects
read_effects-kept rows moment s m = by _
  where
    by : (b : Bool) → are of_read (read_block_effects b rows moment s m).notes ≡ true
    by true = later_block-kept rows moment s m
    by false = rw (look_effects-notes (entries rows) moment s m) refl

pub read_effects-notes : (rows : List Row) (moment : ℕ) (s : Step) (m : Message)
    → are of_lookup (read_effects rows moment s m).notes ≡ true
read_effects-notes rows moment s m =
    read_lookup (read_effects rows moment s m).notes (read_effects-kept rows moment s m)

-- a write as it is heard: a repeat, one too many, one that is challenged, or one that is admitted
pub write_effects-notes : (events : List Event) (moment : ℕ) (s : Step) (m : Message)
    → are of_write (write_effects events moment s m).notes ≡ true
unfolding write_effects answering
write_effects-notes events moment s m = by _
  where
    again : (octets : Option (List ℕ)) → are of_write (again_answered s octets).notes ≡ true
    again None = refl
    again (Some octets) = refl

    new : (full unproved : Bool)
        → are of_write (admitted_unless full unproved events s m).notes ≡ true
    new true unproved = refl
    new false true = refl
    new false false = refl

    by : (first : Option Event) → are of_write (write_unless first events moment s m).notes ≡ true
    by (Some first) = again _
    by None = new _ _

-- one note or none
empty_one : (b : Bool) (n : Note) → of_empty n ≡ true → are of_empty (cond b (n ∷ []) []) ≡ true
empty_one true n fits = and_from (of_empty n) true fits refl
empty_one false n fits = refl

-- notes that are made of a list, none of them an entry
made-notes : {A : Type 0} (make : A → Note)
    → ((x : A) → are of_empty (make x ∷ []) ≡ true)
    → (xs : List A)
    → are of_empty (map make xs) ≡ true
made-notes make quiet [] = refl
made-notes make quiet (x ∷ xs) =
    are-append of_empty (make x ∷ []) (map make xs) (quiet x) (made-notes make quiet xs)

-- an acknowledgement, and a Reset
pub acknowledged-notes : (peer : Peer) (mid : ℕ) (events : List Event)
    → are of_empty (acknowledged peer mid events).notes ≡ true
unfolding acknowledged
acknowledged-notes peer mid events =
    are-append of_empty (map (λ (o : Observer). note.Landed peer mid) (waited_for peer mid events))
    (cond (is_last_request peer mid events) (note.Waiting peer ∷ []) [])
    (made-notes (λ (o : Observer). note.Landed peer mid) (λ o. refl) (waited_for peer mid events))
    (empty_one (is_last_request peer mid events) (note.Waiting peer) refl)

pub reset-notes : (peer : Peer) (mid : ℕ) (events : List Event)
    → are of_empty (reset peer mid events).notes ≡ true
unfolding reset
reset-notes peer mid events =
    are-append of_empty
    (map (λ (o : Observer). note.Unwatched o.peer o.token) (waited_for peer mid events))
    (cond (is_last_request peer mid events) (note.Ceased peer ∷ []) [])
    (made-notes (λ (o : Observer). note.Unwatched o.peer o.token) (λ o. refl)
    (waited_for peer mid events))
    (empty_one (is_last_request peer mid events) (note.Ceased peer) refl)

-- one note or none
tick_one : (b : Bool) (n : Note) → of_tick n ≡ true → are of_tick (cond b (n ∷ []) []) ≡ true
tick_one true n fits = and_from (of_tick n) true fits refl
tick_one false n fits = refl

-- what is done one after the other
each_of-notes : {A : Type 0} (kind : Note → Bool) (does : A → Effects)
    → ((x : A) → are kind (does x).notes ≡ true)
    → (xs : List A)
    → are kind (each_of does xs).notes ≡ true
each_of-notes kind does quiet [] = refl
each_of-notes kind does quiet (x ∷ xs) =
    are-append kind (does x).notes (each_of does xs).notes (quiet x)
    (each_of-notes kind does quiet xs)

-- a message is retransmitted
sent_again-notes : (kind : Note → Bool) (d : Option (Peer × List ℕ)) (n : Note)
    → kind n ≡ true
    → are kind (sent_again d n).notes ≡ true
sent_again-notes kind None n fits = and_from (kind n) true fits refl
sent_again-notes kind (Some d) n fits = and_from (kind n) true fits refl

-- notifications are retransmitted
pub notifications_again-notes : (rows : List Row) (moment : ℕ)
    → are of_again (notifications_again rows moment).notes ≡ true
unfolding notifications_again
notifications_again-notes rows moment =
    each_of-notes of_again (λ o. flight_again rows moment o (flight o (events rows)))
    (λ o. flying o (flight o (events rows))) (observers (events rows))
  where
    again : (b c : Bool) (o : Observer) (f : Flight)
        → are of_again (notification_again (due_by b c) rows o f).notes ≡ true
    again false c o f = refl
    again true true o f = refl
    again true false o f = sent_again-notes of_again _ _ refl

    flying : (o : Observer) (f : Option Flight)
        → are of_again (flight_again rows moment o f).notes ≡ true
    flying o None = refl
    flying o (Some f) = again _ _ o f

-- due observers get notifications
pub notifications-notes : (t : Ticking) (done : Effects)
    → are of_tick done.notes ≡ true
    → are of_tick (notifications t done).notes ≡ true
unfolding notifications
notifications-notes t done quiet = folded (observers (events_with t done)) done quiet
  where
    unless : (b : Bool) (so_far : Effects) (o : Observer) (a : Answer)
        → are of_tick (notified_unless b t so_far o a).notes ≡ true
    unless true so_far o a = refl
    unless false so_far o a =
        tick_one (is_long (first_block o) a.body) (note.Kept o.peer o.key a.body a.tag) refl

    looked : (b : Bool) (so_far : Effects) (o : Observer)
        → are of_tick (notified_if b t so_far o).notes ≡ true
    looked false so_far o = refl
    looked true so_far o =
        unless (is_unchanged (last_body_formed (name_of o) (events_with t so_far))
        (listing_for t o).body) so_far o (listing_for t o)

    folded : (standing : List Observer) (so_far : Effects)
        → are of_tick so_far.notes ≡ true
        → are of_tick (fold (notification_next t) so_far standing).notes ≡ true
    folded [] so_far h = h
    folded (o ∷ standing) so_far h =
        folded standing (notification_next t so_far o)
        (are-append of_tick so_far.notes (notified_if (is_looked_at t so_far o) t so_far o).notes h
        (looked (is_looked_at t so_far o) so_far o))

-- requests of fetches are retransmitted
pub requests_again-notes : (rows : List Row) (moment : ℕ)
    → are of_resent (requests_again rows moment).notes ≡ true
unfolding requests_again
requests_again-notes rows moment =
    each_of-notes of_resent (λ peer. fetch_again rows moment peer (last_request peer (events rows)))
    (λ peer. running peer (last_request peer (events rows))) (fetches (events rows))
  where
    again : (b c : Bool) (peer : Peer) (e : Event) (request : Option Request)
        → are of_resent (request_again (due_by b c) rows peer e request).notes ≡ true
    again b c peer e None = refl
    again false c peer e (Some request) = refl
    again true true peer e (Some request) = refl
    again true false peer e (Some request) = sent_again-notes of_resent _ _ refl

    running : (peer : Peer) (e : Option Event)
        → are of_resent (fetch_again rows moment peer e).notes ≡ true
    running peer None = refl
    running peer (Some e) = again _ _ peer e _

-- a tick
pub tick_effects-notes : (starved : Bool) (rows : List Row) (moment : ℕ) (s : Step)
    → are of_tick (tick_effects starved rows moment s).notes ≡ true
unfolding tick_effects
tick_effects-notes true rows moment s =
    are-append of_tick (notifications_again rows moment).notes (requests_again rows moment).notes
    (again_tick (notifications_again rows moment).notes (notifications_again-notes rows moment))
    (resent_tick (requests_again rows moment).notes (requests_again-notes rows moment))
tick_effects-notes false rows moment s =
    are-append of_tick (notifications (ticking rows moment s)
    (notifications_again rows moment)).notes
    (requests_again rows moment).notes
    (notifications-notes (ticking rows moment s) (notifications_again rows moment)
    (again_tick (notifications_again rows moment).notes (notifications_again-notes rows moment)))
    (resent_tick (requests_again rows moment).notes (requests_again-notes rows moment))
