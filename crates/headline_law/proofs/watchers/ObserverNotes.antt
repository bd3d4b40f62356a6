-- What each step notes of who observes: it adds whoever asks to observe, and ends an observer only
-- for a reason.
use Rattle.std.proofs.Common.{
  ◌≡◌,
  ℕ,
  ◌==◌,
  ◌&&◌,
  Bool,
  true,
  false,
  cond,
  List,
  [],
  ◌∷◌,
  map,
  filter,
  fold,
  length,
  Option,
  Some,
  None,
  nat_le,
  Result,
  Ok,
  Err,
  refl,
  sym,
  ap,
  subst,
  ◌∙◌,
  eqb-true,
}
use Rattle.std.specs.List.{AllByRecursion}
use Rattle.std.proofs.lemmas.Bool.{false≢true, and_parts, or_left, or_right}
use Rattle.rd_base.specs.declared.peers.Peer.{Peer}
use Rattle.rd_base.proofs.lemmas.Among.{Among, among_all}
use Rattle.rd_base.proofs.lemmas.Each.{each_append, each_map}
use Rattle.message_model.specs.declared.messages.Role.{Role}
use Rattle.message_model.specs.declared.messages.Role.TheVariants as role
use Rattle.message_model.specs.declared.messages.Unread.{Unread}
use Rattle.message_model.specs.declared.requests.Path.{Path}
use Rattle.message_model.specs.declared.requests.Path.TheVariants as path
use Rattle.message_model.specs.Message.{Message, role_of}
use Rattle.message_model.specs.OptionTable.{first_bad_option}
use Rattle.message_model.specs.Reading.{reading}
use Rattle.message_model.specs.Request.{path_in, observe_in}
use Rattle.message_model.specs.RequestKey.{key_in}
use Rattle.event_model.specs.declared.notes.Note.{Note}
use Rattle.event_model.specs.declared.notes.Note.TheVariants as note
use Rattle.event_model.specs.declared.notes.Observer.{Observer}
use Rattle.event_model.specs.Same.{is_same_peer}
use Rattle.event_model.specs.Observers.{
  name_of,
  observers,
  is_observer,
  has_room_for,
  last_body_formed,
}
use Rattle.event_model.specs.Flights.{Flight, max_again, deadline, flight}
use Rattle.event_model.specs.Fetches.{is_last_request}
use Rattle.event_model.proofs.SameLaws.{is_same_peer-Decides}
use Rattle.journal_model.specs.declared.steps.Step.{Step}
use Rattle.journal_model.specs.declared.steps.StepKind.{StepKind}
use Rattle.journal_model.specs.declared.steps.StepKind.TheVariants as step
use Rattle.journal_model.specs.declared.rows.Row.{Row}
use Rattle.journal_model.specs.Journal.{events, entries, row_at}
use Rattle.journal_model.specs.Effects.{Effects, Reply, answering}
use Rattle.journal_model.specs.Requests.{
  refusal_of_request,
  asked_block,
  query_of,
  register,
  deregister,
  is_heeded,
  is_lookup,
  is_later_block,
  Method,
  get,
  post,
  put,
  delete,
  other_method,
  method_of,
}
use Rattle.journal_model.specs.Bodies.{is_long}
use Rattle.journal_model.specs.Looks.{look_effects}
use Rattle.journal_model.specs.Lookups.{
  listing_now,
  removal,
  without,
  keeping,
  observer_of,
  observed_if,
  observed,
  unobserved,
  observation_effects,
  first_block_effects,
  block_effects,
  lookup_effects,
  later_block,
  read_effects,
  observing_by,
}
use Rattle.journal_model.specs.Writes.{write_effects}
use Rattle.journal_model.specs.EmptyMessages.{is_flight_of, waited_for, acknowledged, reset}
use Rattle.journal_model.specs.Responses.{response_effects}
use Rattle.journal_model.specs.Commits.{commit_effects}
use Rattle.journal_model.specs.Beginnings.{beginning}
use Rattle.journal_model.specs.Rows.{
  served_on_location,
  served,
  request_answered,
  message_effects,
  heard,
  done,
  kept_body,
  effects,
}
use Rattle.journal_model.specs.Ticks.{
  ticking,
  events_with,
  first_block,
  sent_again,
  each_of,
  confirmable_sent,
  notification_again,
  flight_again,
  notifications_again,
  is_unchanged,
  notified_unless,
  listing_for,
  notified_if,
  is_looked_at,
  notification_next,
  notifications,
  requests_again,
  tick_effects,
  due_by,
}
use Rattle.journal_model.proofs.NoteKinds.{
  of_read,
  of_write,
  of_resent,
  of_commit,
  of_response,
  are,
}
use Rattle.journal_model.proofs.StepNotes.{
  look_effects-notes,
  keep_effects-notes,
  later_block-kept,
  read_effects-kept,
  write_effects-notes,
  requests_again-notes,
}
use Rattle.journal_model.proofs.notes.SilentSteps.{refusal_notes, unread_notes, looked_notes}
use Rattle.journal_model.proofs.notes.ChangeNotes.{response_effects-notes}
use Rattle.journal_model.proofs.notes.BeginNotes.{beginning-notes}
use Rattle.journal_model.proofs.notes.ChangeNotes.{commit_effects-notes}
use Rattle.journal_model.proofs.flights.NotificationsAgain.{events_after_again}

-- ---- why an observer ends or begins

-- a step hears a lookup of a peer and a token that begins or ends an observation; it begins one of
-- whom it adds
pub record Asked (kind : StepKind) (s : Step) (peer : Peer) (token : List ℕ) : Type 0 where
  pub message : Message
  pub heard : kind ≡ step.Admit
  pub read : reading s.datagram ≡ Ok message
  pub asks : role_of message.kind message.code ≡ role.Request
  pub lookup : is_lookup (path_in message) ≡ true
  pub first : is_later_block message ≡ false
  pub heeded : is_heeded (observe_in message) ≡ true
  pub unrefused : refusal_of_request message ≡ None
  pub peer_is : peer ≡ s.peer
  pub token_is : token ≡ message.token

-- an observer that stands is rejected by its peer
pub record Rejected (rows : List Row) (kind : StepKind) (s : Step) (peer : Peer) (token : List ℕ) :
    Type 0 where
  pub message : Message
  pub heard : kind ≡ step.Admit
  pub read : reading s.datagram ≡ Ok message
  pub resets : role_of message.kind message.code ≡ role.Reset
  pub observer : Observer
  pub stands : Among observer (observers (events rows))
  pub peer_is : observer.peer ≡ s.peer
  pub named : name_of observer ≡ (peer, token)
  pub notification : Flight
  pub flies : flight observer (events rows) ≡ Some notification
  pub mid : notification.mid ≡ message.mid

-- one that stands is given up
pub record GivenUp (rows : List Row) (moment : ℕ) (kind : StepKind) (peer : Peer) (token : List ℕ) :
    Type 0 where
  pub ticks : kind ≡ step.Tick
  pub observer : Observer
  pub stands : Among observer (observers (events rows))
  pub named : name_of observer ≡ (peer, token)
  pub notification : Flight
  pub flies : flight observer (events rows) ≡ Some notification
  pub over : nat_le (deadline notification.formed notification.again) moment ≡ true
  pub last : nat_le max_again (length notification.again) ≡ true

-- one of these
pub data Ended (rows : List Row) (moment : ℕ) (kind : StepKind) (s : Step) (peer : Peer)
    (token : List ℕ) : Type 0 where
  by_asking : Asked kind s peer token → Ended rows moment kind s peer token
  by_rejecting : Rejected rows kind s peer token → Ended rows moment kind s peer token
  by_waiting : GivenUp rows moment kind peer token → Ended rows moment kind s peer token

-- a step adds whom its request asks to be
pub record Added (kind : StepKind) (s : Step) (o : Observer) : Type 0 where
  pub asked : Asked kind s o.peer o.token
  pub registers : observe_in asked.message ≡ Some register
  pub is : o ≡ observer_of s asked.message

-- a step hears an acknowledgement of its peer, with this Message ID
pub record Landed (kind : StepKind) (s : Step) (peer : Peer) (mid : ℕ) : Type 0 where
  pub heard : kind ≡ step.Admit
  pub message : Message
  pub read : reading s.datagram ≡ Ok message
  pub acknowledges : role_of message.kind message.code ≡ role.Acknowledgement
  pub from : peer ≡ s.peer
  pub mid_is : mid ≡ message.mid

-- a notification is retransmitted: the wait for its acknowledgement has ended, and it was not the
-- last
pub record SentAgain (rows : List Row) (moment : ℕ) (kind : StepKind) (peer : Peer) (mid : ℕ) :
    Type 0 where
  pub ticks : kind ≡ step.Tick
  pub observer : Observer
  pub stands : Among observer (observers (events rows))
  pub peer_is : peer ≡ observer.peer
  pub notification : Flight
  pub flies : flight observer (events rows) ≡ Some notification
  pub mid_is : mid ≡ notification.mid
  pub over : nat_le (deadline notification.formed notification.again) moment ≡ true
  pub further : nat_le max_again (length notification.again) ≡ false

-- so it is of each note
abbrev pub WatchFact : List Row → ℕ → StepKind → Step → Note → Type 0
WatchFact rows moment kind s (note.Watched o) = Added kind s o
WatchFact rows moment kind s (note.Unwatched peer token) = Ended rows moment kind s peer token
WatchFact rows moment kind s (note.Landed peer mid) = Landed kind s peer mid
WatchFact rows moment kind s (note.Again peer mid) = SentAgain rows moment kind peer mid
WatchFact rows moment kind s _ = Unit {0}

-- of all notes
abbrev pub WatchFacts : List Row → ℕ → StepKind → Step → List Note → Type 0
WatchFacts rows moment kind s notes = AllByRecursion (WatchFact rows moment kind s) notes

-- notes of a kind that says nothing of that
asides : (of_kind : Note → Bool)
    → ((o : Observer) → of_kind (note.Watched o) ≡ false)
    → ((peer : Peer) (token : List ℕ) → of_kind (note.Unwatched peer token) ≡ false)
    → ((peer : Peer) (mid : ℕ) → of_kind (note.Landed peer mid) ≡ false)
    → ((peer : Peer) (mid : ℕ) → of_kind (note.Again peer mid) ≡ false)
    → (rows : List Row) (moment : ℕ) (kind : StepKind) (s : Step) (notes : List Note)
    → are of_kind notes ≡ true
    → WatchFacts rows moment kind s notes
asides of_kind watched unwatched landed again rows moment kind s [] h = tt
asides of_kind watched unwatched landed again rows moment kind s (n ∷ notes) h =
    let both = and_parts (of_kind n) (are of_kind notes) h in
    (by n both.0, asides of_kind watched unwatched landed again rows moment kind s notes both.1)
  where
    by : (x : Note) → of_kind x ≡ true → WatchFact rows moment kind s x
    by (note.Watched o) e = absurd (false≢true (sym (watched o) ∙ e))
    by (note.Unwatched peer token) e = absurd (false≢true (sym (unwatched peer token) ∙ e))
    by (note.Landed peer mid) e = absurd (false≢true (sym (landed peer mid) ∙ e))
    by (note.Again peer mid) e = absurd (false≢true (sym (again peer mid) ∙ e))
    by _ e = tt

-- no notes
blanks : (rows : List Row) (moment : ℕ) (kind : StepKind) (s : Step) (notes : List Note)
    → notes ≡ []
    → WatchFacts rows moment kind s notes
blanks rows moment kind s notes none = subst (WatchFacts rows moment kind s) (sym none) tt

-- ---- lookups

lookup_watches : (rows : List Row) (moment : ℕ) (s : Step) (m : Message)
    → reading s.datagram ≡ Ok m
    → role_of m.kind m.code ≡ role.Request
    → refusal_of_request m ≡ None
    → is_lookup (path_in m) ≡ true
    → WatchFacts rows moment step.Admit s (lookup_effects rows moment s m).notes
unfolding lookup_effects observed unobserved answering
lookup_watches rows moment s m read asks none looks = by (is_later_block m) refl
  where
    asked : is_later_block m ≡ false
        → is_heeded (observe_in m) ≡ true
        → Asked step.Admit s s.peer m.token
    asked first heeded = record {
      message = m;
      heard = refl;
      read = read;
      asks = asks;
      lookup = looks;
      first = first;
      heeded = heeded;
      unrefused = none;
      peer_is = refl;
      token_is = refl;
    }

    removes : (b : Bool)
        → Asked step.Admit s s.peer m.token
        → WatchFacts rows moment step.Admit s
        (cond b (note.Unwatched s.peer m.token ∷ []) [])
    removes true it = (by_asking it, tt)
    removes false it = tt

    keeps : (b : Bool) (body current : List ℕ)
        → WatchFacts rows moment step.Admit s
        (cond b (note.Kept s.peer (key_in m) body current ∷ []) [])
    keeps true body current = (tt, tt)
    keeps false body current = tt

    keeps_it : WatchFacts rows moment step.Admit s (keeping s m (listing_now rows moment m))
    keeps_it =
        keeps (is_long (asked_block m) (listing_now rows moment m).body)
        (listing_now rows moment m).body (listing_now rows moment m).tag

    ended : Asked step.Admit s s.peer m.token
        → WatchFacts rows moment step.Admit s
        (observed_if false rows s m (listing_now rows moment m)).notes
    ended it =
        each_append (WatchFact rows moment step.Admit s)
        (removal (s.peer, m.token) (observers (events rows)))
        (keeping s m (listing_now rows moment m))
        (removes (is_observer (s.peer, m.token) (observers (events rows))) it) keeps_it

    added : observe_in m ≡ Some register
        → is_later_block m ≡ false
        → is_heeded (observe_in m) ≡ true
        → (b : Bool)
        → WatchFacts rows moment step.Admit s
        (observed_if b rows s m (listing_now rows moment m)).notes
    added registers first heeded true =
        each_append (WatchFact rows moment step.Admit s)
        (removal (s.peer, m.token) (observers (events rows))) _
        (removes (is_observer (s.peer, m.token) (observers (events rows))) (asked first heeded)) (
          record {
            asked = asked first heeded;
            registers = registers;
            is = refl;
          },
          (tt, keeps_it),
        )
    added registers first heeded false = ended (asked first heeded)

    valued : (value : ℕ) (b c : Bool)
        → is_later_block m ≡ false
        → observe_in m ≡ Some value
        → (value == register) ≡ b
        → (value == deregister) ≡ c
        → WatchFacts rows moment step.Admit s
        (observation_effects (observing_by b c) rows moment s m).notes
    valued value true c first said is other =
        added (said ∙ ap (λ v. Some v) (eqb-true value register is)) first
        (ap is_heeded said ∙ or_left (value == register) (value == deregister) is)
        (has_room_for (query_of m) (without (s.peer, m.token) (observers (events rows))))
    valued value false true first said is other =
        ended
        (asked first (ap is_heeded said
        ∙ or_right (value == register) (value == deregister) other))
    valued value false false first said is other =
        blanks rows moment step.Admit s (look_effects (entries rows) moment s m).notes
        (look_effects-notes (entries rows) moment s m)

    observe : (o : Option ℕ)
        → is_later_block m ≡ false
        → observe_in m ≡ o
        → WatchFacts rows moment step.Admit s (first_block_effects o rows moment s m).notes
    observe None first said =
        blanks rows moment step.Admit s (look_effects (entries rows) moment s m).notes
        (look_effects-notes (entries rows) moment s m)
    observe (Some value) first said =
        valued value (value == register) (value == deregister) first said refl refl

    by : (b : Bool)
        → is_later_block m ≡ b
        → WatchFacts rows moment step.Admit s (block_effects b rows moment s m).notes
    by true e =
        asides of_read (λ o. refl) (λ p t. refl) (λ p n. refl) (λ p n. refl) rows moment step.Admit
        s (later_block rows moment s m).notes (later_block-kept rows moment s m)
    by false e = observe (observe_in m) e refl

-- ---- what is heard

-- a request
request_watches : (rows : List Row) (moment : ℕ) (s : Step) (m : Message)
    → reading s.datagram ≡ Ok m
    → role_of m.kind m.code ≡ role.Request
    → WatchFacts rows moment step.Admit s
    (request_answered (refusal_of_request m) rows moment s m).notes
unfolding served
request_watches rows moment s m read asks = by (refusal_of_request m) refl
  where
    written : WatchFacts rows moment step.Admit s (write_effects (events rows) moment s m).notes
    written =
        asides of_write (λ o. refl) (λ p t. refl) (λ p n. refl) (λ p n. refl) rows moment step.Admit
        s (write_effects (events rows) moment s m).notes
        (write_effects-notes (events rows) moment s m)

    there : (w : Method)
        → WatchFacts rows moment step.Admit s (served_on_location w rows moment s m).notes
    there get =
        asides of_read (λ o. refl) (λ p t. refl) (λ p n. refl) (λ p n. refl) rows moment step.Admit
        s (read_effects rows moment s m).notes (read_effects-kept rows moment s m)
    there post = written
    there put = written
    there delete = written
    there other_method = tt

    on : (p : Path)
        → refusal_of_request m ≡ None
        → path_in m ≡ p
        → WatchFacts rows moment step.Admit s (served p rows moment s m).notes
    on path.Core none at =
        blanks rows moment step.Admit s (look_effects (entries rows) moment s m).notes
        (look_effects-notes (entries rows) moment s m)
    on path.Res none at = lookup_watches rows moment s m read asks none (ap is_lookup at)
    on path.Ep none at = lookup_watches rows moment s m read asks none (ap is_lookup at)
    on path.SimpleRd none at = written
    on path.Rd none at = written
    on (path.Location number) none at = there (method_of m.code)
    on path.Other none at = tt

    by : (refusal : Option Reply)
        → refusal_of_request m ≡ refusal
        → WatchFacts rows moment step.Admit s (request_answered refusal rows moment s m).notes
    by (Some refusal) e =
        blanks rows moment step.Admit s _
        (refusal_notes m.kind (first_bad_option m.options) s m refusal)
    by None e = on (path_in m) e refl

-- a Reset
reset_watches : (rows : List Row) (moment : ℕ) (s : Step) (m : Message)
    → reading s.datagram ≡ Ok m
    → role_of m.kind m.code ≡ role.Reset
    → WatchFacts rows moment step.Admit s (reset s.peer m.mid (events rows)).notes
unfolding reset
reset_watches rows moment s m read resets =
    each_append (WatchFact rows moment step.Admit s)
    (map (λ o. note.Unwatched o.peer o.token) (waited_for s.peer m.mid (events rows))) _
    (each_map (WatchFact rows moment step.Admit s) (λ o. note.Unwatched o.peer o.token)
    (waited_for s.peer m.mid (events rows))
    (kept_ones (observers (events rows))
    (among_all (λ o. Among o (observers (events rows))) (observers (events rows))
    (λ o there. there))))
    (ends (is_last_request s.peer m.mid (events rows)))
  where
    ends : (b : Bool)
        → WatchFacts rows moment step.Admit s (cond b (note.Ceased s.peer ∷ []) [])
    ends true = (tt, tt)
    ends false = tt

    of_flight : (o : Observer) (f : Option Flight)
        → Among o (observers (events rows))
        → is_same_peer o.peer s.peer ≡ true
        → flight o (events rows) ≡ f
        → is_flight_of m.mid f ≡ true
        → Ended rows moment step.Admit s o.peer o.token
    of_flight o None there same flies h = absurd (false≢true h)
    of_flight o (Some f) there same flies h =
        by_rejecting (record {
          message = m;
          heard = refl;
          read = read;
          resets = resets;
          observer = o;
          stands = there;
          peer_is = (is_same_peer-Decides o.peer s.peer).0 same;
          named = refl;
          notification = f;
          flies = flies;
          mid = eqb-true f.mid m.mid h;
        })

    kept_ones : (standing : List Observer)
        → AllByRecursion (λ o. Among o (observers (events rows))) standing
        → AllByRecursion (λ o. Ended rows moment step.Admit s o.peer o.token)
        (filter (λ o. is_same_peer o.peer s.peer && is_flight_of m.mid (flight o (events rows)))
        standing)
    kept_ones [] all = tt
    kept_ones (o ∷ standing) all =
        by (is_same_peer o.peer s.peer && is_flight_of m.mid (flight o (events rows))) refl
        (kept_ones standing all.1)
      where
        rest : List Observer
        rest =
            filter (λ x. is_same_peer x.peer s.peer && is_flight_of m.mid (flight x (events rows)))
            standing

        by : (b : Bool)
            → (is_same_peer o.peer s.peer && is_flight_of m.mid (flight o (events rows))) ≡ b
            → AllByRecursion (λ x. Ended rows moment step.Admit s x.peer x.token)
            (filter (λ x. is_same_peer x.peer s.peer && is_flight_of m.mid (flight x (events rows)))
            standing)
            → AllByRecursion (λ x. Ended rows moment step.Admit s x.peer x.token)
            (cond b (o ∷ filter (λ x.
            is_same_peer x.peer s.peer && is_flight_of m.mid (flight x (events rows)))
            standing) (filter (λ x.
            is_same_peer x.peer s.peer && is_flight_of m.mid (flight x (events rows)))
            standing))
        by true e more =
            let both =
            and_parts (is_same_peer o.peer s.peer)
            (is_flight_of m.mid (flight o (events rows))) e in
            (of_flight o (flight o (events rows)) all.0 both.0 refl both.1, more)
        by false e more = more

-- an acknowledgement
acknowledged_watches : (rows : List Row) (moment : ℕ) (s : Step) (m : Message)
    → reading s.datagram ≡ Ok m
    → role_of m.kind m.code ≡ role.Acknowledgement
    → WatchFacts rows moment step.Admit s (acknowledged s.peer m.mid (events rows)).notes
unfolding acknowledged
acknowledged_watches rows moment s m read is =
    each_append (WatchFact rows moment step.Admit s)
    (map (λ o. note.Landed s.peer m.mid) (waited_for s.peer m.mid (events rows))) _
    (each_map (WatchFact rows moment step.Admit s) (λ o. note.Landed s.peer m.mid)
    (waited_for s.peer m.mid (events rows))
    (among_all (λ o. Landed step.Admit s s.peer m.mid) (waited_for s.peer m.mid (events rows))
    (λ o there. record {
      heard = refl;
      message = m;
      read = read;
      acknowledges = is;
      from = refl;
      mid_is = refl;
    })))
    (waits (is_last_request s.peer m.mid (events rows)))
  where
    waits : (b : Bool)
        → WatchFacts rows moment step.Admit s (cond b (note.Waiting s.peer ∷ []) [])
    waits true = (tt, tt)
    waits false = tt

-- a message
role_watches : (r : Role) (starved : Bool) (rows : List Row) (moment : ℕ) (s : Step) (m : Message)
    → reading s.datagram ≡ Ok m
    → role_of m.kind m.code ≡ r
    → WatchFacts rows moment step.Admit s (message_effects r starved rows moment s m).notes
unfolding answering
role_watches role.Ping starved rows moment s m read is = tt
role_watches role.Acknowledgement starved rows moment s m read is =
    acknowledged_watches rows moment s m read is
role_watches role.Reset starved rows moment s m read is = reset_watches rows moment s m read is
role_watches role.Request true rows moment s m read is = tt
role_watches role.Request false rows moment s m read is = request_watches rows moment s m read is
role_watches role.Response true rows moment s m read is = tt
role_watches role.Response false rows moment s m read is =
    asides of_response (λ o. refl) (λ p t. refl) (λ p n. refl) (λ p n. refl) rows moment step.Admit
    s (response_effects rows moment s m).notes (response_effects-notes rows moment s m)
role_watches role.Ignored starved rows moment s m read is = tt

-- ---- ticks

-- what holds of the notes of each holds of all
each_of_noted : {A : Type 0} (P : Note → Type 0) (does : A → Effects) (xs : List A)
    → AllByRecursion (λ x. AllByRecursion P (does x).notes) xs
    → AllByRecursion P (each_of does xs).notes
each_of_noted P does [] all = tt
each_of_noted P does (x ∷ xs) all =
    each_append P (does x).notes (each_of does xs).notes all.0 (each_of_noted P does xs all.1)

-- requests that are retransmitted say nothing of that
requests_aside : (rows : List Row) (moment : ℕ) (s : Step)
    → WatchFacts rows moment step.Tick s (requests_again rows moment).notes
requests_aside rows moment s =
    asides of_resent (λ o. refl) (λ p t. refl) (λ p n. refl) (λ p n. refl) rows moment step.Tick s
    (requests_again rows moment).notes (requests_again-notes rows moment)

-- the first part
again_watches : (rows : List Row) (moment : ℕ) (s : Step)
    → WatchFacts rows moment step.Tick s (notifications_again rows moment).notes
unfolding notifications_again
again_watches rows moment s =
    each_of_noted (WatchFact rows moment step.Tick s)
    (λ o. flight_again rows moment o (flight o (events rows))) (observers (events rows))
    (among_all (λ o. WatchFacts rows moment step.Tick s
    (flight_again rows moment o (flight o (events rows))).notes)
    (observers (events rows)) (λ o there. flying o (flight o (events rows)) there refl))
  where
    sent : (o : Observer) (f : Flight) (d : Option (Peer × List ℕ))
        → SentAgain rows moment step.Tick o.peer f.mid
        → WatchFacts rows moment step.Tick s (sent_again d (note.Again o.peer f.mid)).notes
    sent o f None it = (it, tt)
    sent o f (Some d) it = (it, tt)

    again : (b c : Bool) (o : Observer) (f : Flight)
        → Among o (observers (events rows))
        → flight o (events rows) ≡ Some f
        → nat_le (deadline f.formed f.again) moment ≡ b
        → nat_le max_again (length f.again) ≡ c
        → WatchFacts rows moment step.Tick s (notification_again (due_by b c) rows o f).notes
    again false c o f there flies over last = tt
    again true true o f there flies over last = (
      by_waiting (record {
        ticks = refl;
        observer = o;
        stands = there;
        named = refl;
        notification = f;
        flies = flies;
        over = over;
        last = last;
      }),
      tt,
    )
    again true false o f there flies over last =
        sent o f (confirmable_sent (row_at f.formed.place rows) o.peer f.mid)
        (record {
          ticks = refl;
          observer = o;
          stands = there;
          peer_is = refl;
          notification = f;
          flies = flies;
          mid_is = refl;
          over = over;
          further = last;
        })

    flying : (o : Observer) (f : Option Flight)
        → Among o (observers (events rows))
        → flight o (events rows) ≡ f
        → WatchFacts rows moment step.Tick s (flight_again rows moment o f).notes
    flying o None there flies = tt
    flying o (Some f) there flies =
        again (nat_le (deadline f.formed f.again) moment) (nat_le max_again (length f.again)) o f
        there flies refl refl

-- its notifications
notification_watches : (rows : List Row) (moment : ℕ) (s : Step) (left : List Observer)
    (done : Effects)
    → WatchFacts rows moment step.Tick s done.notes
    → WatchFacts rows moment step.Tick s
    (fold (notification_next (ticking rows moment s)) done left).notes
notification_watches rows moment s [] done it = it
notification_watches rows moment s (o ∷ left) done it =
    notification_watches rows moment s left (notification_next (ticking rows moment s) done o)
    (each_append (WatchFact rows moment step.Tick s) done.notes
    (notified_if (is_looked_at (ticking rows moment s) done o) (ticking rows moment s) done o).notes
    it (looked (is_looked_at (ticking rows moment s) done o)))
  where
    keeps : (b : Bool) (body current : List ℕ)
        → WatchFacts rows moment step.Tick s
        (cond b (note.Kept o.peer o.key body current ∷ []) [])
    keeps true body current = (tt, tt)
    keeps false body current = tt

    unless : (b : Bool)
        → WatchFacts rows moment step.Tick s
        (notified_unless b (ticking rows moment s) done o
        (listing_for (ticking rows moment s) o)).notes
    unless true = (tt, tt)
    unless false = (
      tt,
      keeps (is_long (first_block o) (listing_for (ticking rows moment s) o).body)
          (listing_for (ticking rows moment s) o).body (listing_for (ticking rows moment s) o).tag,
    )

    looked : (b : Bool)
        → WatchFacts rows moment step.Tick s
        (notified_if b (ticking rows moment s) done o).notes
    looked false = tt
    looked true =
        unless
        (is_unchanged (last_body_formed (name_of o) (events_with (ticking rows moment s) done))
        (listing_for (ticking rows moment s) o).body)

-- the whole of it
tick_watches : (starved : Bool) (rows : List Row) (moment : ℕ) (s : Step)
    → WatchFacts rows moment step.Tick s (tick_effects starved rows moment s).notes
unfolding tick_effects notifications
tick_watches true rows moment s =
    each_append (WatchFact rows moment step.Tick s) (notifications_again rows moment).notes
    (requests_again rows moment).notes (again_watches rows moment s)
    (requests_aside rows moment s)
tick_watches false rows moment s =
    each_append (WatchFact rows moment step.Tick s)
    (notifications (ticking rows moment s) (notifications_again rows moment)).notes
    (requests_again rows moment).notes
    (notification_watches rows moment s (observers (events_after_again rows moment s.word))
    (notifications_again rows moment) (again_watches rows moment s))
    (requests_aside rows moment s)

-- ---- any step

pub effects_watch : (kind : StepKind) (starved : Bool) (rows : List Row) (moment : ℕ) (s : Step)
    → WatchFacts rows moment kind s (effects kind starved rows moment s).notes
unfolding effects answering
effects_watch step.Admit starved rows moment s = by (reading s.datagram) refl
  where
    by : (read : Result Message Unread)
        → reading s.datagram ≡ read
        → WatchFacts rows moment step.Admit s (heard starved rows moment s read).notes
    by (Err fault) e = blanks rows moment step.Admit s _ (unread_notes s fault)
    by (Ok m) e = role_watches (role_of m.kind m.code) starved rows moment s m e refl
effects_watch step.Look starved rows moment s =
    blanks rows moment step.Look s _
    (looked_notes starved (entries rows) moment s (reading s.datagram))
effects_watch (step.Commit place) starved rows moment s = by starved (reading s.datagram)
  where
    by : (b : Bool) (read : Result Message Unread)
        → WatchFacts rows moment (step.Commit place) s (done b rows moment place s read).notes
    by b (Err fault) = tt
    by true (Ok m) = (tt, tt)
    by false (Ok m) =
        asides of_commit (λ o. refl) (λ p t. refl) (λ p n. refl) (λ p n. refl) rows moment
        (step.Commit place) s
        (commit_effects rows moment place s m).notes (commit_effects-notes rows moment place s m)
effects_watch (step.Keep body current) starved rows moment s = by starved (reading s.datagram)
  where
    by : (b : Bool) (read : Result Message Unread)
        → WatchFacts rows moment (step.Keep body current) s
        (kept_body b s read body current).notes
    by b (Err fault) = tt
    by true (Ok m) = tt
    by false (Ok m) =
        subst (WatchFacts rows moment (step.Keep body current) s)
        (sym (keep_effects-notes s m body current)) (tt, tt)
effects_watch step.Tick starved rows moment s = tick_watches starved rows moment s
effects_watch (step.Begin first) starved rows moment s =
    asides of_commit (λ o. refl) (λ p t. refl) (λ p n. refl) (λ p n. refl) rows moment
    (step.Begin first) s (beginning starved (entries rows) moment s first).notes
    (beginning-notes of_commit (λ entry. refl) starved (entries rows) moment s first)
