-- A plan with one observer more, by what is planned for it: nothing, where its listing is
-- unchanged, and else a notification with its listing.
use Rattle.std.proofs.Common.{
  ◌≡◌,
  ℕ,
  zero,
  suc,
  ◌+◌,
  ◌-◌,
  ◌*◌,
  ◌/◌,
  ◌%◌,
  ◌^◌,
  ◌<◌,
  ◌≤◌,
  ◌==◌,
  ◌&&◌,
  ◌||◌,
  nat_lt,
  bytes_eq,
  Bool,
  true,
  false,
  not,
  cond,
  List,
  [],
  ◌∷◌,
  ◌++◌,
  length,
  drop,
  count_by,
  slice_get,
  Option,
  Some,
  None,
  is_some,
  refl,
  sym,
  ap,
  ap₂,
  subst,
  ◌∙◌,
  eq-eqb,
  arith,
  append-nil,
}
use Rattle.std.specs.Arc.{arc_value}
use Rattle.std.specs.declared.alloc.Global.{Global}
use Rattle.std.specs.declared.sync.Arc.{Arc}
use Rattle.std.specs.List.{list_any, AllByRecursion}
use Rattle.std.proofs.lemmas.Bool.{false≢true}
use Rattle.std.proofs.lemmas.Bool.Decides.{nat_tests}
use Rattle.rd_base.specs.declared.peers.Peer.{Peer}
use Rattle.rd_base.proofs.lemmas.Each.{each_filter}
use Rattle.message_model.specs.declared.blocks.Block.{Block}
use Rattle.message_model.specs.Spelling.{header_spelling, spelling}
use Rattle.history_model.specs.declared.entries.Entry.{Entry}
use Rattle.history_model.specs.Listing.{listing, tag}
use Rattle.event_model.specs.declared.notes.Note.{Note}
use Rattle.event_model.specs.declared.notes.Note.TheVariants as note
use Rattle.event_model.specs.declared.notes.Observer.{Observer}
use Rattle.event_model.specs.Events.{Event}
use Rattle.event_model.specs.Flights.{Sent}
use Rattle.event_model.specs.KeptAnswers.{Answer}
use Rattle.event_model.specs.Observers.{
  name_of,
  observers,
  observe_value,
  observe_values_sent,
  last_body_formed,
  is_forming,
}
use Rattle.event_model.specs.Same.{is_same_peer}
use Rattle.event_model.proofs.AsideTables.{about_observers}
use Rattle.event_model.proofs.CounterLaws.{observe_values_sent-noted}
use Rattle.event_model.proofs.NotedLaws.{is_watching}
use Rattle.event_model.proofs.ObserverEvents.{
  changes_observers,
  observers-quiet_noted,
  is_ended_by,
  observers_left,
}
use Rattle.event_model.proofs.SameLaws.{is_same_peer-Decides, is_same_peer-refl}
use Rattle.journal_model.specs.declared.steps.Step.{Step}
use Rattle.journal_model.specs.declared.rows.Row.{Row}
use Rattle.journal_model.specs.DeskJournal.{IsDeskJournal}
use Rattle.journal_model.specs.Bodies.{body_reply, is_long}
use Rattle.journal_model.specs.Effects.{Effects, Reply, joined, noting, mid_of}
use Rattle.journal_model.specs.Journal.{is_look, events, entries, now}
use Rattle.journal_model.specs.Rows.{row_moment}
use Rattle.journal_model.specs.Ticks.{
  ticking,
  is_confirmable_with,
  first_block,
  block_shown,
  notification_of,
  notified,
  is_unchanged,
  notified_unless,
  notified_if,
  listing_for,
  events_with,
  notifications_again,
}
use Rattle.journal_model.specs.UnfinishedRow.{making, drawing}
use Rattle.journal_model.proofs.EntriesNoted.{entries_in}
use Rattle.journal_model.proofs.NoteKinds.{of_again, none_of}
use Rattle.journal_model.proofs.StepNotes.{notifications_again-notes}
use Rattle.journal_model.proofs.UnfinishedRowLaws.{now-making, events-making_joined}
use Rattle.journal_model.proofs.notes.LookupNotes.{IsAsking}
use Rattle.exchange_core.specs.Retransmissions.{Resends}
use Rattle.transfers.specs.Keeping.{NamedAnswer}
use Rattle.observers.specs.Standing as standings
use Rattle.observers.specs.Standing.{Standing, is_awaited, seen, changed_at, is_ready, next_ready}
use Rattle.coap_answers.specs.declared.mids.Mids.{Mids}
use Rattle.coap_answers.specs.Writing.{notification_saying}
use Rattle.observation.specs.Notifications.{forming}
use Rattle.observation.specs.Watching.{Watching, WatchingStandsFor}
use Rattle.observation.proofs.TickLaws.{
  IsKeptAs,
  kept-StandsFor,
  length-StandsFor,
  each_at,
  got_inside,
  got_within,
}
use Rattle.observation.proofs.WatchingLaws.{WatchingStandsFor-aside}
use Rattle.observation.proofs.WatchingNotes.{WatchingStandsFor-unchanged, WatchingStandsFor-formed}
use Rattle.rd_desk.specs.declared.tick.planning.Plan.{Plan}
use Rattle.rd_desk.specs.declared.tick.planning.Planned.{Planned}
use Rattle.rd_desk.specs.declared.tick.planning.Planned.TheVariants as planned
use Rattle.rd_desk.specs.calls.Desks.{Seen}
use Rattle.rd_desk.specs.parts.Planning.{
  block_of_notification,
  block_named,
  kept_by,
  AddsNotification,
  forming_for,
  kept_of,
  keeping_noted,
  planned_done,
  MayBeSent,
  PlannedUpTo,
}
use Rattle.rd_desk.specs.parts.UnderWay.{UnderWay}
use Rattle.rd_desk.proofs.parts.EffectLaws.{joined-assoc}
use Rattle.rd_desk.proofs.ticking.AgainWalk.{drop-changed}
use Rattle.rd_desk.proofs.ticking.BoundLaws.{asking_observers}
use Rattle.rd_desk.proofs.ticking.NotificationWalk.{events-with, drop-drop, got-drop}
use Rattle.rd_desk.proofs.ticking.PlanSteps.{awaited-seen, planned_adds}
use Rattle.rd_desk.proofs.ticking.PlanWay.{entries-again}
use Rattle.rd_desk.proofs.ticking.SkipLaws.{first-least, first-passes}
use Rattle.rd_desk.proofs.ticking.WholeTick.{again_draws}

-- ---- the next observer, as it is planned

or_false : (b : Bool) → b ≡ (b || false)
or_false true = refl
or_false false = refl

-- it is kept so, asks with a token and a block size that a message may have, and no notification is
-- in flight to its peer; who comes after it is as before
record IsFound (rows : List Row) (s : Step) (starved : Bool) (done : Effects) (ws : List Standing)
    (w : Watching) (index : ℕ) (x : Standing) : Type 0 where
  o : Observer
  at : slice_get (observers (events (making rows s starved done))) index ≡ Some o
  there : slice_get w.observers index ≡ Some x
  kept : IsKeptAs (making rows s starved done) o x
  asks : IsAsking o
  free : is_awaited x.peer w.observers ≡ false
  later : drop (index + 1) w.observers ≡ drop (index + 1) ws

-- whoever observes after notifications were retransmitted asks so
asking_again : (rows : List Row) (s : Step) (starved : Bool)
    → IsDeskJournal rows
    → AllByRecursion IsAsking
    (observers (events (making rows s starved (notifications_again rows (row_moment rows s)))))
unfolding events
asking_again rows s starved journal =
    subst (AllByRecursion IsAsking) (sym (observers_left (length rows) (row_moment rows s) s.word
    (notifications_again rows (row_moment rows s)).notes (events rows)
    (none_of of_again is_watching other (notifications_again rows (row_moment rows s)).notes
    (notifications_again-notes rows (row_moment rows s)))))
    (each_filter IsAsking (λ o. not (is_ended_by
    (notifications_again rows (row_moment rows s)).notes o))
    (observers (events rows)) (asking_observers rows journal))
  where
    other : (n : Note) → of_again n ≡ true → is_watching n ≡ false
    other (note.Watched o) h = absurd (false≢true h)
    other _ h = refl

found_next : (rows : List Row) (s : Step) (starved : Bool) (current : List ℕ)
    (whole first : Effects) (ws : List Standing) (given : ℕ) (p : Plan) (from index : ℕ)
    (x : Standing)
    → IsDeskJournal rows
    → next_ready from ws ≡ Some index
    → slice_get ws index ≡ Some x
    → list_any (λ q. is_same_peer q x.peer) p.peers.items ≡ false
    → (h : PlannedUpTo rows s starved current whole first ws given p from)
    → IsFound rows s starved h.done ws h.watching index x
unfolding next_ready
found_next rows s starved current whole first ws given p from index x journal is got free h =
    record {
      o = found.0;
      at = found.1;
      there = there;
      kept =
          kept-StandsFor (making rows s starved h.done) h.watching index found.0 x h.stands found.1
          there;
      asks = each_at IsAsking (observers (events (making rows s starved h.done))) index found.0
          (subst (AllByRecursion IsAsking) (sym (h.standing
          ∙ ap (λ (f : Effects). observers (events (making rows s starved f))) h.begins))
          (asking_again rows s starved journal)) found.1;
      free =
          h.awaited x.peer
          ∙ (ap₂ (λ (a b : Bool). a || b) (unawaited x.due (is_awaited x.peer ws)
          (first-passes (is_ready ws) from index (index - from) (drop from ws) x is at_drop
          there_drop)) free);
      later = after;
    }
  where
    low : from ≤ index
    low = first-least (is_ready ws) from index (drop from ws) is

    at_drop : index ≡ from + (index - from)
    at_drop = let l = low in omega (arith, l)

    there_drop : slice_get (drop from ws) (index - from) ≡ Some x
    there_drop =
        got-drop ws from (index - from) ∙ (ap (λ (n : ℕ). slice_get ws n) (sym at_drop) ∙ got)

    there : slice_get h.watching.observers index ≡ Some x
    there =
        ap (λ (n : ℕ). slice_get h.watching.observers n) at_drop
        ∙ (sym (got-drop h.watching.observers from (index - from))
        ∙ (ap (λ (xs : List Standing). slice_get xs (index - from)) h.same ∙ there_drop))

    found :
        (o : Observer)
        × (slice_get (observers (events (making rows s starved h.done))) index ≡ Some o)
    found =
        let size = length-StandsFor (making rows s starved h.done) h.watching h.stands in
        let within = got_within h.watching.observers index x there in
        got_inside (observers (events (making rows s starved h.done))) index
        (omega (arith, size, within))

    unawaited : (due a : Bool) → (due && not a) ≡ true → a ≡ false
    unawaited due false k = refl
    unawaited true true k = absurd (false≢true k)
    unawaited false true k = absurd (false≢true k)

    after : drop (index + 1) h.watching.observers ≡ drop (index + 1) ws
    after =
        let l = low in
        let e : suc (from + (index - from)) ≡ index + 1 = omega (arith, l) in
        sym (drop-drop h.watching.observers from (index - from)
        ∙ ap (λ (n : ℕ). drop n h.watching.observers) e)
        ∙ (ap (λ (xs : List Standing). drop (suc (index - from)) xs) h.same
        ∙ (drop-drop ws from (index - from) ∙ ap (λ (n : ℕ). drop n ws) e))

-- what the desk tells of its listing
abbrev IsListed : List Row → ℕ → List ℕ → Type 0
IsListed rows index body =
    (o : Observer)
    → slice_get (observers (events rows)) index ≡ Some o
    → body ≡ listing o.query (entries rows) (now rows)

-- its listing is that of the tick
listed : (rows : List Row) (s : Step) (starved : Bool) (first : Effects) (index : ℕ) (o : Observer)
    (body : List ℕ)
    → is_look s.kind ≡ false
    → first ≡ notifications_again rows (row_moment rows s)
    → IsListed (making rows s starved first) index body
    → slice_get (observers (events (making rows s starved first))) index ≡ Some o
    → body ≡ (listing_for (ticking rows (row_moment rows s) s) o).body
listed rows s starved first index o body desk begins says at =
    says o at
    ∙ ap₂ (λ (es : List Entry) (m : ℕ). listing o.query es m)
    (ap (λ (f : Effects). entries (making rows s starved f)) begins
    ∙ entries-again rows s starved) (now-making rows s starved first desk)

-- whether it is unchanged
unchanged_as : (rows : List Row) (s : Step) (starved : Bool) (done : Effects) (o : Observer)
    (x : Standing) (body : List ℕ) (b : Bool)
    → IsKeptAs (making rows s starved done) o x
    → body ≡ (listing_for (ticking rows (row_moment rows s) s) o).body
    → bytes_eq x.last body ≡ b
    → is_unchanged
    (last_body_formed (name_of o) (events_with (ticking rows (row_moment rows s) s) done))
    (listing_for (ticking rows (row_moment rows s) s) o).body
    ≡ b
unchanged_as rows s starved done o x body b kept is same =
    ap (λ (past : List Event).
    is_unchanged (last_body_formed (name_of o) past)
    (listing_for (ticking rows (row_moment rows s) s) o).body)
    (events-with rows s starved done)
    ∙ (ap (λ (l : Option (List ℕ)).
    is_unchanged l (listing_for (ticking rows (row_moment rows s) s) o).body) kept.last
    ∙ (ap (bytes_eq x.last) (sym is) ∙ same))

-- notes that leave who observes
standing_after : (rows : List Row) (s : Step) (starved : Bool) (done e : Effects)
    → list_any changes_observers e.notes ≡ false
    → observers (events (making rows s starved (joined done e)))
    ≡ observers (events (making rows s starved done))
standing_after rows s starved done e none =
    ap observers (events-making_joined rows s starved done e)
    ∙ observers-quiet_noted (length rows) (row_moment rows s) s.word e.notes
    (events (making rows s starved done)) none

-- ---- its listing is unchanged

pub planned_unchanged : (rows : List Row) (s : Step) (starved : Bool) (current : List ℕ)
    (whole first : Effects) (ws : List Standing) (given : ℕ) (p after : Plan) (from index : ℕ)
    (x : Standing) (body : List ℕ) (d : Seen) (out : List (Peer × List ℕ)) (mids : Mids)
    → UnderWay rows s starved first d out mids
    → next_ready from ws ≡ Some index
    → slice_get ws index ≡ Some x
    → list_any (λ q. is_same_peer q x.peer) p.peers.items ≡ false
    → length p.peers.items < 64
    → IsListed (making rows s starved first) index body
    → bytes_eq x.last body ≡ true
    → after.items.items ≡ p.items.items ++ planned.Unchanged ∷ []
    → after.peers.items ≡ p.peers.items
    → after.kept.items ≡ p.kept.items
    → PlannedUpTo rows s starved current whole first ws given p from
    → PlannedUpTo rows s starved current whole first ws given after (index + 1)
planned_unchanged rows s starved current whole first ws given p after from index x body d out mids
    way is got free few says same items peers keeps h =
    planned_adds rows s starved current whole first ws given p after from index x o
    planned.Unchanged changed [] way.no_look is got free few h found.later
    (record {
      got = found.at;
      does =
          ap (λ (b : Bool).
          notified_unless b (ticking rows (row_moment rows s) s) h.done o
          (listing_for (ticking rows (row_moment rows s) s) o))
          (unchanged_as rows s starved h.done o x body true found.kept is_listing same);
      may = tt;
      items = items;
      kept = keeps ∙ sym (append-nil p.kept.items);
      stands =
          subst
          (λ (f : Effects). WatchingStandsFor (making rows s starved (joined h.done f)) changed)
          (ap₂ (λ (q : Peer) (t : List ℕ). noting (note.Unchanged q t ∷ []))
          (sym found.kept.peer) (sym found.kept.token))
          (WatchingStandsFor-unchanged rows s starved h.done index x h.watching found.there
          h.stands);
      standing =
          standing_after rows s starved h.done (planned_done current o planned.Unchanged) refl;
      same = drop-changed seen index h.watching.observers;
    })
    (record {
      peers = peers ∙ sym (append-nil p.peers.items);
      one = omega arith;
      drew = refl;
      size = omega arith;
      awaited =
          λ peer.
          awaited-seen peer index h.watching.observers
          ∙ or_false (is_awaited peer h.watching.observers);
      sent = tt;
      silent = refl;
      observed =
          ap observe_values_sent (events-making_joined rows s starved h.done
          (planned_done current o planned.Unchanged))
          ∙ observe_values_sent-noted (length rows) (row_moment rows s) s.word
          (note.Unchanged o.peer o.token ∷ []) (events (making rows s starved h.done));
    })
  where
    found : IsFound rows s starved h.done ws h.watching index x
    found =
        found_next rows s starved current whole first ws given p from index x way.journal is got
        free h

    o : Observer
    o = found.o

    changed : Watching
    changed = record {
      watches = h.watching.watches;
      observers = changed_at seen index h.watching.observers;
    }

    is_listing : body ≡ (listing_for (ticking rows (row_moment rows s) s) o).body
    is_listing =
        listed rows s starved first index o body way.no_look h.begins says
        (ap (λ (os : List Observer). slice_get os index) (sym h.standing) ∙ found.at)

-- ---- it gets a notification

-- a notification is a confirmable message with its Message ID
notification_confirmable : (mid : ℕ) (token : List ℕ) (r : Reply)
    → length token ≤ 8
    → is_confirmable_with mid (spelling (notification_saying mid token r)) ≡ true
unfolding spelling header_spelling
notification_confirmable mid token r short = rw (first, second) refl
  where
    first : ((64 + length token) / 16 == 4) ≡ true
    first = eq-eqb ((64 + length token) / 16) 4 (omega (arith, short))

    second : (mid / 256 * 256 + mid % 256 == mid) ≡ true
    second = eq-eqb (mid / 256 * 256 + mid % 256) mid (omega arith)

-- the next Observe value, by how many were sent
value_by : (past : List Event) (n : ℕ)
    → observe_values_sent past ≡ n % 2 ^ 64
    → observe_value past ≡ (n + 1) % 2 ^ 24
unfolding observe_value observe_values_sent
value_by past n h = omega (arith, h)

-- a block size that there is is no greater than the greatest
capped : (n : ℕ) → n < 7 → cond (nat_lt n 6) n 6 ≡ n
capped n low = by (nat_lt n 6) refl
  where
    by : (b : Bool) → nat_lt n 6 ≡ b → cond b n 6 ≡ n
    by true e = refl
    by false e = let most : 6 ≤ n = grind (arith, nat_tests, e) in omega (arith, low, most)

block_as : (o : Observer) (szx : ℕ) → o.szx ≡ szx → o.szx < 7 → first_block o
    ≡ block_of_notification szx
block_as o szx same low =
    ap (λ (n : ℕ). let b : Block = record { num = 0; more = false; szx = n } in Some b)
    (sym (capped o.szx low) ∙ ap (λ (n : ℕ). cond (nat_lt n 6) n 6) same)

-- nothing confirmable was sent to a peer to which no notification is in flight
unsent_to : (peer : Peer) (mid : ℕ) (ws : List Standing) (ds : List (Peer × List ℕ))
    → is_awaited peer ws ≡ false
    → AllByRecursion (λ d. is_awaited d.0 ws ≡ true) ds
    → list_any (λ d. is_same_peer d.0 peer && is_confirmable_with mid d.1) ds ≡ false
unsent_to peer mid ws [] free h = refl
unsent_to peer mid ws (d ∷ ds) free h =
    by (is_same_peer d.0 peer) refl (unsent_to peer mid ws ds free h.1)
  where
    by : (b : Bool)
        → is_same_peer d.0 peer ≡ b
        → list_any (λ (y : Peer × List ℕ). is_same_peer y.0 peer && is_confirmable_with mid y.1) ds
        ≡ false
        → ((b && is_confirmable_with mid d.1)
        || list_any
        (λ (y : Peer × List ℕ). is_same_peer y.0 peer && is_confirmable_with mid y.1) ds)
        ≡ false
    by true e more =
        absurd (false≢true (sym free
        ∙ (ap (λ (q : Peer). is_awaited q ws) (sym ((is_same_peer-Decides d.0 peer).0 e))
        ∙ h.0)))
    by false e more = more

-- a notification is in flight to its peer then, beside those before
awaited-notified : (peer : Peer) (sent : Sent) (body : List ℕ) (i : ℕ) (ws : List Standing)
    (x : Standing)
    → slice_get ws i ≡ Some x
    → is_awaited peer (changed_at (standings.notified sent body) i ws)
    ≡ (is_awaited peer ws || list_any (λ q. is_same_peer q peer) (x.peer ∷ []))
awaited-notified peer sent body i [] x got = absurd (let none_is : None ≡ Some x = got in cc)
awaited-notified peer sent body zero (w ∷ ws) x got =
    let same : w ≡ x = cc in
    ap (λ (y : Standing). (is_same_peer y.peer peer && true) || is_awaited peer ws) same
    ∙ (by (is_same_peer x.peer peer) (is_some x.flight) (is_awaited peer ws)
    ∙ ap (λ (y : Standing).
    ((is_same_peer y.peer peer && is_some y.flight) || is_awaited peer ws)
    || (is_same_peer x.peer peer || false)) (sym same))
  where
    by : (a b c : Bool) → ((a && true) || c) ≡ (((a && b) || c) || (a || false))
    by true true c = refl
    by true false true = refl
    by true false false = refl
    by false b true = refl
    by false b false = refl
awaited-notified peer sent body (suc i) (w ∷ ws) x got =
    ap (λ (b : Bool). (is_same_peer w.peer peer && is_some w.flight) || b)
    (awaited-notified peer sent body i ws x got)
    ∙ by (is_same_peer w.peer peer && is_some w.flight) (is_awaited peer ws)
    (is_same_peer x.peer peer || false)
  where
    by : (a b c : Bool) → (a || (b || c)) ≡ ((a || b) || c)
    by true b c = refl
    by false b c = refl

-- what is done for it, by whether its listing is kept
notified_as : (o : Observer) (body current : List ℕ) (sent : Sent) (long : Bool)
    → ◌≡◌ {A = Effects} (record {
      sent = (o.peer, sent.octets)
          ∷ [];
      notes = note.Formed o.peer o.token body (Some sent.mid)
          ∷ cond long (note.Kept o.peer o.key body current ∷ []) [];
      drew = 1;
    })
    (joined (forming_for o body sent) (keeping_noted (cond long
    (record { name = (o.peer, o.key); answer = record { body = body; tag = current } }
    ∷ []) [])))
notified_as o body current sent true = refl
notified_as o body current sent false = refl

-- what is noted of it is about no other
kept_aside : (o : Observer) (body current : List ℕ)
    → (list_any about_observers (keeping_noted (kept_of o body current)).notes ≡ false)
    × (entries_in (keeping_noted (kept_of o body current)).notes ≡ [])
kept_aside o body current = by (is_long (first_block o) body)
  where
    by : (long : Bool)
        → (list_any about_observers (keeping_noted (cond long (record
        { name = (o.peer, o.key); answer = record { body = body; tag = current } }
        ∷ []) [])).notes
        ≡ false)
        × (entries_in (keeping_noted (cond long (record
        { name = (o.peer, o.key); answer = record { body = body; tag = current } }
        ∷ []) [])).notes
        ≡ [])
    by true = (refl, refl)
    by false = (refl, refl)

-- what it grows by
record IsOneMore (e : Effects) : Type 0 where
  quiet : list_any changes_observers e.notes ≡ false
  drew : e.drew ≡ 1
  silent : entries_in e.notes ≡ []
  formed : count_by is_forming e.notes ≡ 1

one_more : (o : Observer) (body current : List ℕ) (sent : Sent) (long : Bool)
    → IsOneMore (joined (forming_for o body sent) (keeping_noted (cond long (record
    { name = (o.peer, o.key); answer = record { body = body; tag = current } }
    ∷ []) [])))
one_more o body current sent true = record {
  quiet = refl;
  drew = refl;
  silent = refl;
  formed = refl;
}
one_more o body current sent false = record {
  quiet = refl;
  drew = refl;
  silent = refl;
  formed = refl;
}

sent_one : (o : Observer) (body current : List ℕ) (sent : Sent)
    → (joined (forming_for o body sent) (keeping_noted (kept_of o body current))).sent
    ≡ (o.peer, sent.octets) ∷ []
sent_one o body current sent = by (is_long (first_block o) body)
  where
    by : (long : Bool)
        → (joined (forming_for o body sent) (keeping_noted (cond long (record
        { name = (o.peer, o.key); answer = record { body = body; tag = current } }
        ∷ []) []))).sent
        ≡ (o.peer, sent.octets) ∷ []
    by true = refl
    by false = refl

pub planned_notification : (rows : List Row) (s : Step) (starved : Bool) (current : List ℕ)
    (whole first : Effects) (ws : List Standing) (given : ℕ) (p after : Plan) (from index : ℕ)
    (x : Standing) (body : Arc (List ℕ) Global) (mid observe moment word : ℕ) (sent : Sent)
    (d : Seen)
    (out : List (Peer × List ℕ)) (mids : Mids)
    → UnderWay rows s starved first d out mids
    → next_ready from ws ≡ Some index
    → slice_get ws index ≡ Some x
    → list_any (λ q. is_same_peer q x.peer) p.peers.items ≡ false
    → length p.peers.items < 64
    → IsListed (making rows s starved first) index (arc_value body)
    → bytes_eq x.last (arc_value body) ≡ false
    → moment ≡ d.moment
    → s.word ≡ word
    → current ≡ tag (entries rows) (row_moment rows s)
    → mid ≡ mid_of mids.worker (mids.drawn + length p.peers.items)
    → observe ≡ (given + length p.peers.items + 1) % 2 ^ 24
    → after.items.items ≡ p.items.items ++ planned.Notified sent body ∷ []
    → AddsNotification x moment word current (arc_value body) mid observe sent p after
    → PlannedUpTo rows s starved current whole first ws given p from
    → PlannedUpTo rows s starved current whole first ws given after (index + 1)
planned_notification rows s starved current whole first ws given p after from index x body mid
    observe
    moment word sent d out mids way is got free few says other moment_is word_is current_is mid_is
    observe_is items adds h =
    planned_adds rows s starved current whole first ws given p after from index x o item changed
    (x.peer ∷ []) way.no_look is got free few h found.later
    (record {
      got = found.at;
      does = does;
      may = may;
      items = items;
      kept = adds.kept ∙ ap (λ (ks : List NamedAnswer). p.kept.items ++ ks) keeps;
      stands = stands;
      standing = standing_after rows s starved h.done e more.quiet;
      same = drop-changed (standings.notified sent listed_body) index h.watching.observers;
    })
    (record {
      peers = adds.peers;
      one = omega arith;
      drew = more.drew;
      size =
          let same =
          ap (λ (ds : List (Peer × List ℕ)). length ds) (sent_one o listed_body current sent) in
          omega (arith, same);
      awaited =
          λ peer. awaited-notified peer sent listed_body index h.watching.observers x found.there;
      sent =
          subst (AllByRecursion (λ (y : Peer × List ℕ). is_awaited y.0 changed.observers ≡ true))
          (sym (sent_one o listed_body current sent)) (waits, tt);
      silent = more.silent;
      observed = ap observe_values_sent (events-making_joined rows s starved h.done e)
          ∙ (observe_values_sent-noted (length rows) (row_moment rows s) s.word e.notes
          (events (making rows s starved h.done))
          ∙ ap (λ (n : ℕ).
          (observe_values_sent (events (making rows s starved h.done)) + n) % 2 ^ 64)
          more.formed);
    })
  where
    listed_body : List ℕ
    listed_body = arc_value body

    item : Planned
    item = planned.Notified sent body

    found : IsFound rows s starved h.done ws h.watching index x
    found =
        found_next rows s starved current whole first ws given p from index x way.journal is got
        free h

    o : Observer
    o = found.o

    e : Effects
    e = planned_done current o item

    more : IsOneMore e
    more = one_more o listed_body current sent (is_long (first_block o) listed_body)

    changed : Watching
    changed = record {
      watches = h.watching.watches;
      observers = changed_at (standings.notified sent listed_body) index h.watching.observers;
    }

    is_listing : listed_body ≡ (listing_for (ticking rows (row_moment rows s) s) o).body
    is_listing =
        listed rows s starved first index o listed_body way.no_look h.begins says
        (ap (λ (os : List Observer). slice_get os index) (sym h.standing) ∙ found.at)

    answer_is : listing_for (ticking rows (row_moment rows s) s) o ≡ record {
      body = listed_body;
      tag = current;
    }
    answer_is =
        ap₂ (λ (b t : List ℕ). let a : Answer = record { body = b; tag = t } in a) (sym is_listing)
        (sym current_is)

    drawn : mids.drawn ≡ s.drawn
    drawn =
        way.drawn
        ∙ ap (λ (n : ℕ). drawing n s.drawn)
        (ap (λ (f : Effects). f.drew) h.begins ∙ again_draws rows (row_moment rows s))

    mid_same : mid_of s.worker (s.drawn + h.done.drew) ≡ sent.mid
    mid_same =
        ap₂ (λ (w n : ℕ). mid_of w n) (sym way.worker) (ap₂ (λ (a b : ℕ). a + b) (sym drawn) h.drew)
        ∙ sym (adds.mid_is ∙ mid_is)

    value_same : observe_value (events_with (ticking rows (row_moment rows s) s) h.done) ≡ observe
    value_same =
        ap observe_value (events-with rows s starved h.done)
        ∙ (value_by (events (making rows s starved h.done)) (given + length p.peers.items)
        h.observed
        ∙ sym observe_is)

    blocks : first_block o ≡ block_of_notification x.szx
    blocks = block_as o x.szx found.kept.szx found.asks.szx

    octets_same : (value : ℕ)
        → value ≡ observe
        → spelling (notification_of o sent.mid
        (body_reply (Some current) (Some value) (block_shown o listed_body) listed_body))
        ≡ sent.octets
    octets_same value same =
        ap₂ (λ (t : List ℕ) (m : ℕ).
        spelling (notification_saying m t
        (body_reply (Some current) (Some value) (block_shown o listed_body)
        listed_body))) found.kept.token adds.mid_is
        ∙ (ap₂ (λ (n : ℕ) (b : Option Block).
        spelling
        (notification_saying mid x.token (body_reply (Some current) (Some n) b listed_body)))
        same (ap (λ (b : Option Block). cond (is_long b listed_body) b None) blocks)
        ∙ sym adds.octets)

    notified_is :
        notified (ticking rows (row_moment rows s) s) h.done o
        (record { body = listed_body; tag = current }) (mid_of s.worker (s.drawn + h.done.drew))
        ≡ e
    notified_is =
        ap (λ (m : ℕ).
        notified (ticking rows (row_moment rows s) s) h.done o
        (record { body = listed_body; tag = current }) m) mid_same
        ∙ (ap (λ (octets : List ℕ). let f : Effects = record {
          sent = (o.peer, octets) ∷ [];
          notes = note.Formed o.peer o.token listed_body
              (Some sent.mid) ∷ cond (is_long (first_block o) listed_body) (note.Kept o.peer
              o.key listed_body current ∷ []) [];
          drew = 1;
        } in f)
        (octets_same (observe_value (events_with (ticking rows (row_moment rows s) s) h.done))
        value_same)
        ∙ notified_as o listed_body current sent (is_long (first_block o) listed_body))

    does : notified_if true (ticking rows (row_moment rows s) s) h.done o ≡ e
    does =
        ap (λ (b : Bool).
        notified_unless b (ticking rows (row_moment rows s) s) h.done o
        (listing_for (ticking rows (row_moment rows s) s) o))
        (unchanged_as rows s starved h.done o x listed_body false found.kept is_listing other)
        ∙ (ap (λ (a : Answer).
        notified (ticking rows (row_moment rows s) s) h.done o a
        (mid_of s.worker (s.drawn + h.done.drew))) answer_is
        ∙ notified_is)

    unsent :
        list_any (λ y. is_same_peer y.0 x.peer && is_confirmable_with sent.mid y.1) h.done.sent
        ≡ false
    unsent = unsent_to x.peer sent.mid h.watching.observers h.done.sent found.free h.sent

    confirmable : is_confirmable_with sent.mid sent.octets ≡ true
    confirmable =
        ap₂ (λ (m : ℕ) (octets : List ℕ). is_confirmable_with m octets) adds.mid_is adds.octets
        ∙ notification_confirmable mid x.token
        (body_reply (Some current) (Some observe) (block_named x.szx listed_body) listed_body)
        (subst (λ (t : List ℕ). length t ≤ 8) found.kept.token found.asks.token)

    resends : (begun : Event)
        → begun.moment ≡ row_moment rows s
        → begun.word ≡ s.word
        → Resends begun [] sent.resend
    resends begun at spoken =
        adds.resends begun (at
        ∙ sym (moment_is ∙ (way.stands.moment ∙ now-making rows s starved first way.no_look)))
        (spoken ∙ word_is)

    may : MayBeSent rows s h.done o sent
    may = record {
      unsent =
          subst (λ (q : Peer).
          list_any (λ (y : Peer × List ℕ).
          is_same_peer y.0 q && is_confirmable_with sent.mid y.1) h.done.sent
          ≡ false) (sym found.kept.peer) unsent;
      confirmable = confirmable;
      resends = resends;
      short = adds.short;
    }

    keeps : kept_by x listed_body current ≡ kept_of o listed_body current
    keeps =
        ap₂ (λ (b : Option Block) (name : Peer × List ℕ).
        cond (is_long b listed_body) (let a : NamedAnswer =
        record
        { name = name; answer = record { body = listed_body; tag = current } }
        in
        a ∷ []) []) (sym blocks)
        (ap₂ (λ (q : Peer) (k : List ℕ). (q, k)) (sym found.kept.peer) (sym found.kept.key))

    what : forming x listed_body sent ≡ forming_for o listed_body sent
    what =
        ap₂ (λ (q : Peer) (t : List ℕ). let f : Effects = record {
          sent = (q, sent.octets) ∷ [];
          notes = note.Formed q t listed_body (Some sent.mid)
              ∷ [];
          drew = 1;
        } in f) (sym found.kept.peer) (sym found.kept.token)

    stands : WatchingStandsFor (making rows s starved (joined h.done e)) changed
    stands =
        subst (λ (f : Effects). WatchingStandsFor (making rows s starved f) changed)
        (joined-assoc h.done (forming_for o listed_body sent)
        (keeping_noted (kept_of o listed_body current)))
        (WatchingStandsFor-aside rows s starved (joined h.done (forming_for o listed_body sent))
        (keeping_noted (kept_of o listed_body current)) changed
        (kept_aside o listed_body current).0 (kept_aside o listed_body current).1
        (subst
        (λ (f : Effects). WatchingStandsFor (making rows s starved (joined h.done f)) changed)
        what
        (WatchingStandsFor-formed rows s starved h.done index x listed_body sent h.watching
        found.there found.free unsent confirmable resends h.stands)))

    waits : is_awaited o.peer changed.observers ≡ true
    waits =
        awaited-notified o.peer sent listed_body index h.watching.observers x found.there
        ∙ (ap (λ (b : Bool). is_awaited o.peer h.watching.observers || (b || false))
        (ap (is_same_peer x.peer) found.kept.peer ∙ is_same_peer-refl x.peer)
        ∙ or_true (is_awaited o.peer h.watching.observers))
      where
        or_true : (b : Bool) → (b || true) ≡ true
        or_true true = refl
        or_true false = refl
