-- The third part of a tick, fetch after fetch: each request by what is due of it, and then the
-- next.
use Rattle.std.proofs.Common.{
  ◌≡◌,
  ℕ,
  zero,
  suc,
  ◌+◌,
  ◌<◌,
  ◌≤◌,
  ◌||◌,
  nat_le,
  Bool,
  true,
  false,
  cond,
  List,
  [],
  ◌∷◌,
  ◌++◌,
  length,
  map,
  drop,
  slice_get,
  Option,
  Some,
  None,
  is_some,
  option_map,
  option_and_then,
  refl,
  sym,
  ap,
  subst,
  ◌∙◌,
  arith,
}
use Rattle.std.specs.List.{AllByRecursion}
use Rattle.std.proofs.lemmas.Bool.{false≢true}
use Rattle.rd_base.specs.declared.peers.Peer.{Peer}
use Rattle.rd_base.proofs.lemmas.Each.{each_one}
use Rattle.event_model.specs.declared.notes.Note.{Note}
use Rattle.event_model.specs.declared.notes.Note.TheVariants as note
use Rattle.event_model.specs.Same.{is_same_peer}
use Rattle.event_model.specs.Events.{Event, noted}
use Rattle.event_model.specs.Flights.{OctetsSent, max_again}
use Rattle.event_model.specs.Fetches.{
  Request,
  Fetch,
  request_noted,
  is_request_to,
  last_request,
  fetches,
  fetch_asked,
  fetch_of,
  fetches_running,
  is_waiting,
  resendings,
  fetch_deadline,
}
use Rattle.event_model.proofs.NotedLaws.{event_at}
use Rattle.journal_model.specs.declared.steps.Step.{Step}
use Rattle.journal_model.specs.declared.rows.Row.{Row}
use Rattle.journal_model.specs.Effects.{Effects, nothing, joined, noting}
use Rattle.journal_model.specs.Journal.{events}
use Rattle.journal_model.specs.Rows.{row_with, row_moment}
use Rattle.journal_model.specs.Ticks.{
  octets_sent,
  each_of,
  repeating,
  request_again,
  fetch_again,
  requests_again,
  due_by,
}
use Rattle.journal_model.specs.UnfinishedRow.{making}
use Rattle.journal_model.proofs.EventRows.{row_of}
use Rattle.journal_model.proofs.UnfinishedRowLaws.{events-making_joined}
use Rattle.journal_model.proofs.observers.SentOctets.{octets_sent-before}
use Rattle.exchange_core.specs.declared.resends.Again.{Again}
use Rattle.exchange_core.specs.declared.resends.Again.TheVariants as again
use Rattle.simple_registration.specs.Table.{Table}
use Rattle.simple_registration.specs.FetchEvents.{FetchesStandFor, fetch_due}
use Rattle.simple_registration.proofs.DeskLaws.{
  last_request-other,
  fetch_due-other,
  fetches-Ceased-at,
}
use Rattle.simple_registration.proofs.NoteLaws.{IsAside, other_Resent, any_Ceased}
use Rattle.simple_registration.proofs.PeerLaws.{
  fetches-aside,
  fetches-apart,
  AreApart,
  request_made,
  requested,
}
use Rattle.simple_registration.proofs.RunningLaws.{running-at, running-peers}
use Rattle.rd_desk.proofs.responses.FetchStepLaws.{repeating-octets}
use Rattle.simple_registration.proofs.TableLaws.{running_length}
use Rattle.coap_answers.specs.declared.mids.Mids.{Mids}
use Rattle.coap_answers.proofs.SendingLaws.{sends_notes}
use Rattle.observation.proofs.TickLaws.{each_at, got_inside}
use Rattle.rd_desk.specs.calls.Desks.{Seen}
use Rattle.rd_desk.specs.parts.Resending.{
  IsAsBefore,
  LeavesFetches,
  fetches_left,
  request_done,
  Resending,
}
use Rattle.rd_desk.specs.parts.UnderWay.{UnderWay}
use Rattle.rd_desk.proofs.parts.EffectLaws.{joined-nothing, joined-assoc}
use Rattle.rd_desk.proofs.parts.PartLaws.{more_fetches}
use Rattle.rd_desk.proofs.parts.WayLaws.{way_moment}
use Rattle.rd_desk.proofs.ticking.AgainWalk.{drop-got, drop-end, length-append}
use Rattle.rd_desk.proofs.ticking.FittingLaws.{short_octets}

-- ---- lists

-- a list, cut before and after the element with an index
record Split {X : Type 0} (xs : List X) (i : ℕ) (x : X) : Type 0 where
  front : List X
  whole : xs ≡ front ++ x ∷ drop (suc i) xs
  rest : drop i (front ++ drop (suc i) xs) ≡ drop (suc i) xs

split_at : {X : Type 0} (xs : List X) (i : ℕ) (x : X) → slice_get xs i ≡ Some x → Split xs i x
split_at [] i x is = absurd cc
split_at {X} (y ∷ ys) zero x is = let same : y ≡ x = cc in record {
  front = [];
  whole = ap (λ (z : X). z ∷ ys) same;
  rest = refl;
}
split_at {X} (y ∷ ys) (suc i) x is = let c = split_at ys i x is in record {
  front = y ∷ c.front;
  whole = ap (λ (zs : List X). y ∷ zs) c.whole;
  rest = c.rest;
}

-- those after one in a list of peers that are apart are others
others_after : (ps : List Peer) (i : ℕ) (p : Peer)
    → AreApart ps
    → slice_get ps i ≡ Some p
    → AllByRecursion (λ q. is_same_peer p q ≡ false) (drop (suc i) ps)
others_after [] i p apart is = absurd cc
others_after (q ∷ ps) zero p apart is =
    let same : q ≡ p = cc in
    subst (λ (r : Peer). AllByRecursion (λ (x : Peer). is_same_peer r x ≡ false) ps) same apart.0
others_after (q ∷ ps) (suc i) p apart is = others_after ps i p apart.1 is

-- the peer of the fetch with an index
got_map : {X Y : Type 0} (f : X → Y) (xs : List X) (i : ℕ)
    → slice_get (map f xs) i ≡ option_map f (slice_get xs i)
got_map f [] i = refl
got_map f (x ∷ xs) zero = refl
got_map f (x ∷ xs) (suc i) = got_map f xs i

pub peer_at : (octets : OctetsSent) (past : List Event) (t : Table) (i : ℕ)
    → FetchesStandFor octets past t
    → option_map (λ f. f.peer) (slice_get t.fetches i) ≡ slice_get (fetches past) i
peer_at octets past t i stands =
    ap (λ (fs : List Fetch). option_map (λ (f : Fetch). f.peer) (slice_get fs i)) stands.running
    ∙ (sym (got_map (λ (f : Fetch). f.peer) (fetches_running octets past) i)
    ∙ ap (λ (ps : List Peer). slice_get ps i) (running-peers octets past))

-- ---- the fetch with an index

record Here (rows : List Row) (s : Step) (past : List Event) (i : ℕ) : Type 0 where
  peer : Peer
  got : slice_get (fetches past) i ≡ Some peer
  e : Event
  last_now : last_request peer past ≡ Some e
  last : last_request peer (events rows) ≡ Some e
  due :
      fetch_due (row_moment rows s) peer e past ≡ fetch_due (row_moment rows s) peer e (events rows)
  request : Request
  noted_by : request_noted e.note ≡ Some request
  below : e.place < length rows
  others : AllByRecursion (λ q. is_same_peer peer q ≡ false) (drop (i + 1) (fetches past))
  left : drop i (fetches past) ≡ peer ∷ drop (i + 1) (fetches past)

after_one : (i : ℕ) → suc i ≡ i + 1
after_one i = omega arith

here_at : (rows : List Row) (s : Step) (starved : Bool) (done : Effects) (t : Table)
    (octets : OctetsSent) (i : ℕ)
    → i < length t.fetches
    → FetchesStandFor octets (events (making rows s starved done)) t
    → AllByRecursion (IsAsBefore rows s starved done)
    (drop i (fetches (events (making rows s starved done))))
    → Here rows s (events (making rows s starved done)) i
here_at rows s starved done t octets i within stands same =
    let size = running_length octets past t stands in
    let found = got_inside (fetches past) i (omega (arith, size, within)) in
    let left = drop-got (fetches past) i found.0 found.1 in
    let same_here : IsAsBefore rows s starved done found.0 =
    (subst (AllByRecursion (IsAsBefore rows s starved done)) left same).0 in
    let e =
    present_event (last_request found.0 past)
    (each_at (λ (q : Peer). is_some (last_request q past) ≡ true) (fetches past) i found.0
    (requested past) found.1) in
    let request = request_in e.0.note (request_made found.0 past e.0 e.1) in
    let last = sym same_here.request ∙ e.1 in
    record {
      peer = found.0;
      got = found.1;
      e = e.0;
      last_now = e.1;
      last = last;
      due = same_here.due e.0;
      request = request.0;
      noted_by = request.1;
      below = (row_of (is_request_to found.0) rows e.0 last).below;
      others =
          subst (λ (n : ℕ).
          AllByRecursion (λ (q : Peer). is_same_peer found.0 q ≡ false)
          (drop n (fetches past))) (after_one i)
          (others_after (fetches past) i found.0 (fetches-apart past) found.1);
      left = left;
    }
  where
    past : List Event
    past = events (making rows s starved done)

    present_event : (o : Option Event) → is_some o ≡ true → (e : Event) × (o ≡ Some e)
    present_event None h = absurd (false≢true h)
    present_event (Some e) h = (e, refl)

    request_in : (n : Note)
        → is_some (request_noted n) ≡ true
        → (r : Request) × (request_noted n ≡ Some r)
    request_in n h = by (request_noted n) refl h
      where
        by : (o : Option Request)
            → request_noted n ≡ o
            → is_some o ≡ true
            → (r : Request) × (request_noted n ≡ Some r)
        by None e g = absurd (false≢true g)
        by (Some r) e g = (r, e)

-- what is done with it, by what is due of it
abbrev request_as : Again → List Row → Peer → Event → Request → Effects
request_as again.Wait rows peer e request = nothing
request_as again.Send rows peer e request =
    repeating rows e.place peer request.mid (note.Resent peer)
request_as again.GaveUp rows peer e request = noting (note.Ceased peer ∷ [])

again_due : (rows : List Row) (moment : ℕ) (peer : Peer) (e : Event) (request : Request)
    → last_request peer (events rows) ≡ Some e
    → request_noted e.note ≡ Some request
    → fetch_again rows moment peer (last_request peer (events rows))
    ≡ request_as (fetch_due moment peer e (events rows)) rows peer e request
unfolding fetch_due
again_due rows moment peer e request last asked =
    rw (last, asked) (by (nat_le (fetch_deadline peer e (events rows)) moment)
    (is_waiting peer (events rows)
    || nat_le max_again (length (resendings peer (events rows)))))
  where
    by : (due over : Bool)
        → request_again (due_by due over) rows peer e (Some request)
        ≡ request_as (cond due (cond over again.GaveUp again.Send) again.Wait) rows peer e
        request
    by false over = refl
    by true true = refl
    by true false = refl

done_by : (rows : List Row) (s : Step) (past : List Event) (i : ℕ) (due : Again)
    → (h : Here rows s past i)
    → due ≡ fetch_due (row_moment rows s) h.peer h.e past
    → request_done rows s h.peer ≡ request_as due rows h.peer h.e h.request
done_by rows s past i due h is =
    again_due rows (row_moment rows s) h.peer h.e h.request h.last h.noted_by
    ∙ ap (λ (a : Again). request_as a rows h.peer h.e h.request) (sym (is ∙ h.due))

-- ---- one fetch

-- what comes next after it
goes : (rows : List Row) (s : Step) (starved : Bool) (first : Effects) (d after : Seen)
    (out sent : List (Peer × List ℕ)) (mids : Mids) (i next most less : ℕ) (e : Effects)
    → most ≡ less + 1
    → (h : Resending rows s starved first d out mids i most)
    → (it : Here rows s (events (making rows s starved h.done)) i)
    → request_done rows s it.peer ≡ e
    → length e.sent ≤ 1
    → UnderWay rows s starved (joined h.done e) after sent mids
    → fetches_left rows s starved (joined h.done e) next
    ≡ fetches_left rows s starved h.done (i + 1)
    → AllByRecursion (IsAsBefore rows s starved (joined h.done e))
    (fetches_left rows s starved h.done (i + 1))
    → Resending rows s starved first after sent mids next less
goes rows s starved first d after out sent mids i next most less e one h it what small way left
    same =
    let rest : List Peer = fetches_left rows s starved h.done (i + 1) in
    let room : length h.done.sent + length (it.peer ∷ rest) ≤ 1_152 =
    subst (λ (ps : List Peer). length h.done.sent + length ps ≤ 1_152) it.left h.room in
    let few : length (it.peer ∷ rest) ≤ most =
    subst (λ (ps : List Peer). length ps ≤ most) it.left h.few in
    let sum = length-append h.done.sent e.sent in
    let size : length (fetches_left rows s starved (joined h.done e) next) ≡ length rest =
    ap (λ (ps : List Peer). length ps) left in
    record {
      done = joined h.done e;
      way = way;
      whole = h.whole
          ∙ (ap (λ (ps : List Peer). joined h.done (each_of (request_done rows s) ps)) it.left
          ∙ (ap (λ (f : Effects). joined h.done (joined f (each_of (request_done rows s) rest)))
          what
          ∙ (sym (joined-assoc h.done e (each_of (request_done rows s) rest))
          ∙ ap (λ (ps : List Peer). joined (joined h.done e) (each_of (request_done rows s) ps))
          (sym left))));
      same = subst (AllByRecursion (IsAsBefore rows s starved (joined h.done e))) (sym left) same;
      room = omega (arith, room, small, sum, size);
      few = omega (arith, one, few, size);
    }

-- those that are left are as before after a note that is aside for them
same_after : (rows : List Row) (s : Step) (starved : Bool) (done e : Effects) (n : Note)
    (qs : List Peer)
    → e.notes ≡ n ∷ []
    → AllByRecursion (λ q. IsAside q n) qs
    → AllByRecursion (IsAsBefore rows s starved done) qs
    → AllByRecursion (IsAsBefore rows s starved (joined done e)) qs
same_after rows s starved done e n [] is aside same = tt
same_after rows s starved done e n (q ∷ qs) is aside same = (
  record {
    request =
        ap (λ (es : List Event). last_request q es) later
        ∙ (last_request-other q x past aside.0 ∙ same.0.request);
    due =
        λ event.
        ap (λ (es : List Event). fetch_due (row_moment rows s) q event es) later
        ∙ (fetch_due-other (row_moment rows s) q event x past aside.0 ∙ same.0.due event);
  },
  same_after rows s starved done e n qs is aside.1 same.1,
)
  where
    past : List Event
    past = events (making rows s starved done)

    x : Event
    x = event_at (length rows) (row_moment rows s) s.word n

    later : events (making rows s starved (joined done e)) ≡ x ∷ past
    later =
        events-making_joined rows s starved done e
        ∙ ap (λ (ns : List Note). noted (length rows) (row_moment rows s) s.word ns past) is

-- nothing is due of it
pub resending_waits : (rows : List Row) (s : Step) (starved : Bool) (first : Effects)
    (b d after : Seen) (out : List (Peer × List ℕ)) (mids : Mids) (i most less : ℕ)
    → most ≡ less + 1
    → i < length b.fetches.fetches
    → b ≡ d
    → ((octets : OctetsSent) (past : List Event) (peer : Peer) (e : Event)
    → FetchesStandFor octets past b.fetches
    → slice_get (fetches past) i ≡ Some peer
    → last_request peer past ≡ Some e
    → again.Wait ≡ fetch_due b.moment peer e past)
    → after ≡ b
    → Resending rows s starved first d out mids i most
    → Resending rows s starved first after out mids (i + 1) less
resending_waits rows s starved first b d after out mids i most less one within seen answer still h =
    let past = events (making rows s starved h.done) in
    let octets = octets_sent (making rows s starved h.done) in
    let now =
    subst (λ (y : Seen). FetchesStandFor octets past y.fetches) (sym seen)
    h.way.stands.fetches in
    let it = here_at rows s starved h.done b.fetches octets i within now h.same in
    let moment =
    ap (λ (y : Seen). y.moment) seen ∙ way_moment rows s starved h.done d out mids h.way in
    let due =
    answer octets past it.peer it.e now it.got it.last_now
    ∙ ap (λ (m : ℕ). fetch_due m it.peer it.e past) moment in
    let same : joined h.done nothing ≡ h.done = joined-nothing h.done in
    goes rows s starved first d after out out mids i (i + 1) most less nothing one h it
    (done_by rows s past i again.Wait it due) (omega arith)
    (subst (λ (y : Seen). UnderWay rows s starved (joined h.done nothing) y out mids)
    (sym (still ∙ seen))
    (subst (λ (e : Effects). UnderWay rows s starved e d out mids) (sym same) h.way))
    (ap (λ (e : Effects). fetches_left rows s starved e (i + 1)) same)
    (subst (λ (e : Effects).
    AllByRecursion (IsAsBefore rows s starved e)
    (fetches_left rows s starved h.done (i + 1))) (sym same)
    (subst (AllByRecursion (IsAsBefore rows s starved h.done)) it.left h.same).1)

-- its request is retransmitted
pub resending_sends : (rows : List Row) (s : Step) (starved : Bool) (first : Effects) (b d : Seen)
    (t : Table) (out sent : List (Peer × List ℕ)) (mids : Mids) (i most less : ℕ)
    → most ≡ less + 1
    → i < length b.fetches.fetches
    → b ≡ d
    → ((octets : OctetsSent) (past : List Event) (peer : Peer) (e : Event)
    → FetchesStandFor octets past b.fetches
    → slice_get (fetches past) i ≡ Some peer
    → last_request peer past ≡ Some e
    → again.Send ≡ fetch_due b.moment peer e past)
    → ((octets : OctetsSent) (past : List Event) (peer : Peer) (e : Event)
    → FetchesStandFor octets past b.fetches
    → slice_get (fetches past) i ≡ Some peer
    → e.note ≡ note.Resent peer
    → e.moment ≡ b.moment
    → FetchesStandFor octets (e ∷ past) t)
    → ((f : Fetch) → slice_get t.fetches i ≡ Some f → 0 < length f.waits.octets)
    → ((f : Fetch)
    → slice_get t.fetches i ≡ Some f
    → length out < 1_152
    → length f.waits.octets ≤ 1_280
    → sent ≡ out ++ (f.peer, f.waits.octets) ∷ [])
    → Resending rows s starved first d out mids i most
    → Resending rows s starved first (record b { fetches = t }) sent mids (i + 1) less
resending_sends rows s starved first b d t out sent mids i most less one within seen answer told
    some pushed h =
    goes rows s starved first d (record b { fetches = t }) out sent mids i (i + 1) most less e one h
    it
    (done_by rows s past i again.Send it due ∙ repeated) (omega arith)
    (more_fetches rows s starved h.done e b d t out sent mids mids seen refl
    (λ stands. told (octets_sent (making rows s starved (joined h.done e))) past it.peer x stands
    it.got refl (sym moment))
    (tt, tt) (record { sent = pushed g found room short; worker = refl; drawn = refl }) h.way)
    (ap (λ (ps : List Peer). drop (i + 1) ps) running)
    (same_after rows s starved h.done e (note.Resent it.peer) rest refl (aside rest it.others)
    (subst (AllByRecursion (IsAsBefore rows s starved h.done)) it.left h.same).1)
  where
    past : List Event
    past = events (making rows s starved h.done)

    octets : OctetsSent
    octets = octets_sent (making rows s starved h.done)

    now : FetchesStandFor octets past b.fetches
    now =
        subst (λ (y : Seen). FetchesStandFor octets past y.fetches) (sym seen) h.way.stands.fetches

    it : Here rows s past i
    it = here_at rows s starved h.done b.fetches octets i within now h.same

    rest : List Peer
    rest = fetches_left rows s starved h.done (i + 1)

    moment : b.moment ≡ row_moment rows s
    moment = ap (λ (y : Seen). y.moment) seen ∙ way_moment rows s starved h.done d out mids h.way

    due : again.Send ≡ fetch_due (row_moment rows s) it.peer it.e past
    due =
        answer octets past it.peer it.e now it.got it.last_now
        ∙ ap (λ (m : ℕ). fetch_due m it.peer it.e past) moment

    e : Effects
    e = record {
      sent = (it.peer, octets_sent rows it.e.place it.peer it.request.mid) ∷ [];
      notes = note.Resent it.peer ∷ [];
      drew = 0;
    }

    x : Event
    x = event_at (length rows) (row_moment rows s) s.word (note.Resent it.peer)

    -- the table shows the request as it was sent
    aside_all : fetches (x ∷ past) ≡ fetches past
    aside_all = fetches-aside x past (λ q. refl) refl

    f : Fetch
    f = fetch_asked octets (x ∷ past) it.peer it.e it.request

    own_octets :
        octets it.e.place it.peer it.request.mid
        ≡ octets_sent rows it.e.place it.peer it.request.mid
    own_octets =
        octets_sent-before rows (row_with s (row_moment rows s) starved h.done) it.e.place it.peer
        it.request.mid it.below

    shown : fetch_of octets (x ∷ past) it.peer ≡ Some f
    shown =
        ap (option_and_then (λ (y : Event). option_map (fetch_asked octets (x ∷ past) it.peer y)
        (request_noted y.note))) it.last_now
        ∙ ap (option_map (fetch_asked octets (x ∷ past) it.peer it.e)) it.noted_by

    found_f : slice_get t.fetches i ≡ Some f
    found_f =
        ap (λ (fs : List Fetch). slice_get fs i)
        (told octets past it.peer x now it.got refl (sym moment)).running
        ∙ (running-at octets (x ∷ past) it.peer i
        (ap (λ (ps : List Peer). slice_get ps i) aside_all ∙ it.got)
        ∙ shown)

    g : Fetch
    g = record f {
      waits = record f.waits { octets = octets_sent rows it.e.place it.peer it.request.mid };
    }

    found : slice_get t.fetches i ≡ Some g
    found =
        found_f
        ∙ ap (λ (os : List ℕ). Some (record f { waits = record f.waits { octets = os } }))
        own_octets

    repeated : repeating rows it.e.place it.peer it.request.mid (note.Resent it.peer) ≡ e
    repeated =
        repeating-octets rows it.e.place it.peer it.request.mid (note.Resent it.peer) (some g found)

    short : length (octets_sent rows it.e.place it.peer it.request.mid) ≤ 1_280
    short = short_octets rows h.way.journal it.e.place it.peer it.request.mid

    room : length out < 1_152
    room =
        let all : length h.done.sent + length (it.peer ∷ rest) ≤ 1_152 =
        subst (λ (ps : List Peer). length h.done.sent + length ps ≤ 1_152) it.left h.room in
        let same = ap (λ (ds : List (Peer × List ℕ)). length ds) h.way.sent in
        omega (arith, all, same)

    running : fetches (events (making rows s starved (joined h.done e))) ≡ fetches past
    running =
        ap (λ (es : List Event). fetches es) (events-making_joined rows s starved h.done e)
        ∙ aside_all

    aside : (qs : List Peer)
        → AllByRecursion (λ q. is_same_peer it.peer q ≡ false) qs
        → AllByRecursion (λ q. IsAside q (note.Resent it.peer)) qs
    aside [] k = tt
    aside (q ∷ qs) k = (other_Resent it.peer q k.0, aside qs k.1)

-- it ends
pub resending_ends : (rows : List Row) (s : Step) (starved : Bool) (first : Effects) (b d : Seen)
    (t : Table) (out : List (Peer × List ℕ)) (mids : Mids) (i most less : ℕ)
    → most ≡ less + 1
    → i < length b.fetches.fetches
    → b ≡ d
    → ((octets : OctetsSent) (past : List Event) (peer : Peer) (e : Event)
    → FetchesStandFor octets past b.fetches
    → slice_get (fetches past) i ≡ Some peer
    → last_request peer past ≡ Some e
    → again.GaveUp ≡ fetch_due b.moment peer e past)
    → ((octets : OctetsSent) (past : List Event) (peer : Peer) (e : Event)
    → slice_get (fetches past) i ≡ Some peer
    → e.note ≡ note.Ceased peer
    → FetchesStandFor octets past b.fetches
    → FetchesStandFor octets (e ∷ past) t)
    → Resending rows s starved first d out mids i most
    → Resending rows s starved first (record b { fetches = t }) out mids i less
resending_ends rows s starved first b d t out mids i most less one within seen answer told h =
    goes rows s starved first d (record b { fetches = t }) out out mids i i most less e one h it
    (done_by rows s past i again.GaveUp it due) (omega arith)
    (more_fetches rows s starved h.done e b d t out out mids mids seen refl
    (λ stands. told (octets_sent (making rows s starved (joined h.done e))) past it.peer x it.got
    refl stands)
    (tt, tt) (sends_notes (note.Ceased it.peer ∷ []) out mids) h.way)
    left
    (same_after rows s starved h.done e (note.Ceased it.peer) rest refl
    (each_one (λ (q : Peer). IsAside q (note.Ceased it.peer)) (λ q. any_Ceased it.peer q) rest)
    (subst (AllByRecursion (IsAsBefore rows s starved h.done)) it.left h.same).1)
  where
    past : List Event
    past = events (making rows s starved h.done)

    octets : OctetsSent
    octets = octets_sent (making rows s starved h.done)

    now : FetchesStandFor octets past b.fetches
    now =
        subst (λ (y : Seen). FetchesStandFor octets past y.fetches) (sym seen) h.way.stands.fetches

    it : Here rows s past i
    it = here_at rows s starved h.done b.fetches octets i within now h.same

    rest : List Peer
    rest = fetches_left rows s starved h.done (i + 1)

    moment : b.moment ≡ row_moment rows s
    moment = ap (λ (y : Seen). y.moment) seen ∙ way_moment rows s starved h.done d out mids h.way

    due : again.GaveUp ≡ fetch_due (row_moment rows s) it.peer it.e past
    due =
        answer octets past it.peer it.e now it.got it.last_now
        ∙ ap (λ (m : ℕ). fetch_due m it.peer it.e past) moment

    e : Effects
    e = noting (note.Ceased it.peer ∷ [])

    x : Event
    x = event_at (length rows) (row_moment rows s) s.word (note.Ceased it.peer)

    cut : Split (fetches past) i it.peer
    cut = split_at (fetches past) i it.peer it.got

    left :
        fetches_left rows s starved (joined h.done e) i ≡ fetches_left rows s starved h.done (i + 1)
    left =
        ap (λ (es : List Event). drop i (fetches es)) (events-making_joined rows s starved h.done e)
        ∙ (ap (λ (ps : List Peer). drop i ps)
        (fetches-Ceased-at it.peer x past cut.front (drop (suc i) (fetches past)) refl
        cut.whole)
        ∙ (cut.rest ∙ ap (λ (n : ℕ). drop n (fetches past)) (after_one i)))

-- ---- all fetches

-- it begins
pub resending_begins : (rows : List Row) (s : Step) (starved : Bool) (done : Effects) (d : Seen)
    (out : List (Peer × List ℕ)) (mids : Mids) (count : ℕ)
    → count ≡ length d.fetches.fetches
    → LeavesFetches rows s starved done
    → length done.sent + length (fetches (events rows)) ≤ 1_152
    → UnderWay rows s starved done d out mids
    → Resending rows s starved done d out mids 0 count
unfolding requests_again
resending_begins rows s starved done d out mids count is leaves room way =
    let size =
    running_length (octets_sent (making rows s starved done))
    (events (making rows s starved done)) d.fetches way.stands.fetches in
    let same :
    length (fetches (events (making rows s starved done))) ≡ length (fetches (events rows)) =
    ap (λ (ps : List Peer). length ps) leaves.running in
    record {
      done = done;
      way = way;
      whole =
          ap (λ (ps : List Peer). joined done (each_of (request_done rows s) ps))
          (sym leaves.running);
      same =
          each_one (IsAsBefore rows s starved done) leaves.same
          (fetches (events (making rows s starved done)));
      room = omega (arith, room, same);
      few = omega (arith, is, size);
    }

-- the index is past all
pub resending_past : (rows : List Row) (s : Step) (starved : Bool) (first : Effects) (d : Seen)
    (out : List (Peer × List ℕ)) (mids : Mids) (i most less : ℕ)
    → length d.fetches.fetches ≤ i
    → Resending rows s starved first d out mids i most
    → Resending rows s starved first d out mids i less
resending_past rows s starved first d out mids i most less past h =
    let size =
    running_length (octets_sent (making rows s starved h.done))
    (events (making rows s starved h.done)) d.fetches h.way.stands.fetches in
    let none : fetches_left rows s starved h.done i ≡ [] =
    drop-end (fetches (events (making rows s starved h.done))) i (omega (arith, size, past)) in
    let empty : length (fetches_left rows s starved h.done i) ≡ 0 =
    ap (λ (ps : List Peer). length ps) none in
    record {
      done = h.done;
      way = h.way;
      whole = h.whole;
      same = h.same;
      room = h.room;
      few = omega (arith, empty);
    }

-- it ends
pub resending_done : (rows : List Row) (s : Step) (starved : Bool) (first : Effects) (d : Seen)
    (out : List (Peer × List ℕ)) (mids : Mids) (i most : ℕ)
    → most ≡ 0
    → Resending rows s starved first d out mids i most
    → UnderWay rows s starved (joined first (requests_again rows (row_moment rows s))) d out mids
resending_done rows s starved first d out mids i most zero_left h =
    let few = h.few in
    subst (λ (e : Effects). UnderWay rows s starved e d out mids)
    (sym (h.whole
    ∙ (ap (λ (ps : List Peer). joined h.done (each_of (request_done rows s) ps))
    (none (fetches_left rows s starved h.done i) (omega (arith, few, zero_left)))
    ∙ joined-nothing h.done))) h.way
  where
    none : (ps : List Peer) → length ps ≤ 0 → ps ≡ []
    none [] k = refl
    none (p ∷ ps) k = absurd (omega (arith, k))
