-- A plan that is carried out: what is done for each observer is what the desk then stands for, with
-- the kept answers that become those that are ready.
use Rattle.std.proofs.Common.{
  ◌≡◌,
  ℕ,
  ◌+◌,
  ◌%◌,
  ◌^◌,
  ◌<◌,
  ◌≤◌,
  ◌&&◌,
  Bool,
  true,
  false,
  cond,
  List,
  [],
  ◌∷◌,
  ◌++◌,
  length,
  map,
  slice_get,
  Some,
  None,
  refl,
  sym,
  ap,
  ap₂,
  subst,
  ◌∙◌,
  arith,
}
use Rattle.std.specs.Arc.{arc_value}
use Rattle.std.specs.declared.alloc.Global.{Global}
use Rattle.std.specs.declared.sync.Arc.{Arc}
use Rattle.std.specs.List.{list_any}
use Rattle.rd_base.specs.declared.peers.Peer.{Peer}
use Rattle.rd_base.proofs.lemmas.Options.{some_same}
use Rattle.event_model.specs.declared.notes.Note.{Note}
use Rattle.event_model.specs.declared.notes.Note.TheVariants as note
use Rattle.event_model.specs.declared.notes.Observer.{Observer}
use Rattle.event_model.specs.Events.{Event, noted}
use Rattle.event_model.specs.Flights.{Sent}
use Rattle.event_model.specs.KeptAnswers.{KeptAnswer}
use Rattle.event_model.specs.Observers.{observers}
use Rattle.event_model.specs.Same.{is_same_peer}
use Rattle.event_model.proofs.CounterLaws.{observe_values_sent-event}
use Rattle.event_model.proofs.NotedLaws.{event_at}
use Rattle.journal_model.specs.declared.steps.Step.{Step}
use Rattle.journal_model.specs.declared.rows.Row.{Row}
use Rattle.journal_model.specs.Bodies.{is_long}
use Rattle.journal_model.specs.Effects.{Effects, joined, noting}
use Rattle.journal_model.specs.Journal.{events, transitions}
use Rattle.journal_model.specs.Rows.{row_moment}
use Rattle.journal_model.specs.Ticks.{first_block, is_confirmable_with}
use Rattle.journal_model.specs.UnfinishedRow.{making, drawing}
use Rattle.exchange_core.specs.Retransmissions.{Resends}
use Rattle.transfers.specs.Keeping.{NamedAnswer, kept_at, used, kept_each}
use Rattle.transfers.specs.TransferEvents.{Table, AnswersStandFor, kept_note}
use Rattle.transfers.proofs.KeptEvents.{AnswersStandFor-kept, AnswersStandFor-kept_each}
use Rattle.transfers.proofs.TransferLaws.{UploadsStandFor-noted}
use Rattle.observers.specs.Standing.{Standing}
use Rattle.coap_answers.specs.declared.mids.Mids.{Mids}
use Rattle.coap_answers.specs.Sendings.{Sends}
use Rattle.coap_answers.proofs.SendingLaws.{sends_notes}
use Rattle.observation.specs.Notifications.{forming, next_notified}
use Rattle.observation.specs.Watching.{Watching, WatchingStandsFor}
use Rattle.observation.proofs.TickLaws.{
  IsKeptAs,
  kept-StandsFor,
  length-StandsFor,
  got_inside,
  got_within,
}
use Rattle.rd_desk.specs.declared.tick.planning.Planned.{Planned}
use Rattle.rd_desk.specs.declared.tick.planning.Planned.TheVariants as planned
use Rattle.rd_desk.specs.calls.Desks.{Seen}
use Rattle.rd_desk.specs.parts.Planning.{
  forming_for,
  kept_of,
  keeping_noted,
  planned_done,
  MayBeSent,
  IsNext,
  AreDone,
  with_answers,
  CarryingOut,
}
use Rattle.rd_desk.specs.parts.UnderWay.{UnderWay}
use Rattle.rd_desk.proofs.parts.EffectLaws.{joined-assoc, joined-nothing}
use Rattle.rd_desk.proofs.parts.PartLaws.{more_watching, more_unformed, more_transfers}

-- the observer with an index, as the table keeps it
record Kept (rows : List Row) (w : Watching) (index : ℕ) (o : Observer) : Type 0 where
  x : Standing
  there : slice_get w.observers index ≡ Some x
  as_kept : IsKeptAs rows o x

kept_at_index : (rows : List Row) (w : Watching) (index : ℕ) (o : Observer)
    → WatchingStandsFor rows w
    → slice_get (observers (events rows)) index ≡ Some o
    → Kept rows w index o
kept_at_index rows w index o stands got =
    let size = length-StandsFor rows w stands in
    let within = got_within (observers (events rows)) index o got in
    let found = got_inside w.observers index (omega (arith, size, within)) in
    record {
      x = found.0;
      there = found.1;
      as_kept = kept-StandsFor rows w index o found.0 stands got found.1;
    }

-- the index of the next is the one that was planned
same_index : (rows : List Row) (s : Step) (starved : Bool) (done : Effects) (from index : ℕ)
    (p : Planned) (w : Watching)
    → WatchingStandsFor (making rows s starved done) w
    → ((past : List Row)
    → WatchingStandsFor past w
    → Some index ≡ next_notified from (events past) (transitions past))
    → (it : IsNext rows s starved done from p)
    → it.index ≡ index
same_index rows s starved done from index p w stands next it =
    some_same (sym it.next ∙ sym (next (making rows s starved done) stands))

-- ---- an unchanged listing

pub carries_unchanged : (rows : List Row) (s : Step) (starved : Bool) (current : List ℕ)
    (whole : Effects) (ready : List KeptAnswer) (b d : Seen) (w : Watching)
    (out : List (Peer × List ℕ)) (mids : Mids) (from index : ℕ) (rest : List Planned)
    → b ≡ d
    → ((past : List Row)
    → WatchingStandsFor past b.watching
    → Some index ≡ next_notified from (events past) (transitions past))
    → ((done : Effects) (x : Standing)
    → slice_get b.watching.observers index ≡ Some x
    → WatchingStandsFor (making rows s starved done) b.watching
    → WatchingStandsFor
    (making rows s starved (joined done (noting (note.Unchanged x.peer x.token ∷ [])))) w)
    → CarryingOut rows s starved current whole ready d out mids from (planned.Unchanged ∷ rest)
    → CarryingOut rows s starved current whole ready (record b { watching = w }) out mids
    (index + 1) rest
carries_unchanged rows s starved current whole ready b d w out mids from index rest seen next
    changes h =
    record {
      done = joined h.done e;
      kept = later;
      answers = h.answers;
      way =
          more_unformed rows s starved h.done e (with_answers h.answers b)
          (with_answers h.answers d) w
          out out mids mids (ap (with_answers h.answers) seen) refl refl stands
          (sends_notes (note.Unchanged o.peer o.token ∷ []) out mids) h.way;
      plan =
          subst (λ (i : ℕ). AreDone rows s starved current whole (joined h.done e) (i + 1) rest
          later)
          index_is h.plan.3;
      becomes =
          ap (λ (ks : List NamedAnswer). kept_each (row_moment rows s) ks h.answers) (sym h.plan.2)
          ∙ h.becomes;
    }
  where
    it : IsNext rows s starved h.done from planned.Unchanged
    it = h.plan.0

    o : Observer
    o = it.observer

    later : List NamedAnswer
    later = h.plan.1

    e : Effects
    e = noting (note.Unchanged o.peer o.token ∷ [])

    before : WatchingStandsFor (making rows s starved h.done) b.watching
    before =
        subst (λ (y : Seen). WatchingStandsFor (making rows s starved h.done) y.watching) (sym seen)
        h.way.stands.watching

    index_is : it.index ≡ index
    index_is =
        same_index rows s starved h.done from index planned.Unchanged b.watching before next it

    kept : Kept (making rows s starved h.done) b.watching index o
    kept =
        kept_at_index (making rows s starved h.done) b.watching index o before
        (ap (λ (i : ℕ). slice_get (observers (events (making rows s starved h.done))) i)
        (sym index_is)
        ∙ it.got)

    stands : WatchingStandsFor (making rows s starved h.done) b.watching
        → WatchingStandsFor (making rows s starved (joined h.done e)) w
    stands k =
        subst (λ (f : Effects). WatchingStandsFor (making rows s starved (joined h.done f)) w)
        (ap₂ (λ (p : Peer) (t : List ℕ). noting (note.Unchanged p t ∷ [])) (sym kept.as_kept.peer)
        (sym kept.as_kept.token)) (changes h.done kept.x kept.there k)

-- ---- a notification

-- the answer is kept that goes with it, or none
keeps : (rows : List Row) (s : Step) (starved : Bool) (done : Effects) (xs : List KeptAnswer)
    (ks : List NamedAnswer) (d : Seen) (out : List (Peer × List ℕ)) (mids : Mids)
    → length ks ≤ 1
    → UnderWay rows s starved done (with_answers xs d) out mids
    → UnderWay rows s starved (joined done (keeping_noted ks))
    (with_answers (kept_each (row_moment rows s) ks xs) d) out mids
unfolding kept_each
keeps rows s starved done xs [] d out mids one way =
    subst (λ (e : Effects). UnderWay rows s starved e (with_answers xs d) out mids)
    (sym (joined-nothing done)) way
keeps rows s starved done xs (a ∷ []) d out mids one way =
    let n : Note = note.Kept a.name.0 a.name.1 a.answer.body a.answer.tag in
    let past = events (making rows s starved done) in
    more_transfers rows s starved done (noting (n ∷ [])) (with_answers xs d) (with_answers xs d)
    (record
    { uploads = d.transfers.uploads; answers = used (kept_at (row_moment rows s) a) xs })
    out out mids mids refl refl
    (λ h. record {
      uploads =
          UploadsStandFor-noted (row_moment rows s) d.transfers.uploads (length rows)
          (row_moment rows s) s.word (n ∷ []) past refl h.uploads;
      answers = AnswersStandFor-kept (length rows) (row_moment rows s) s.word a past xs h.answers;
    }) (sends_notes (n ∷ []) out mids) way
keeps rows s starved done xs (a ∷ a2 ∷ ks) d out mids one way = absurd (omega (arith, one))

kept_one : (o : Observer) (body current : List ℕ) → length (kept_of o body current) ≤ 1
kept_one o body current = by (is_long (first_block o) body)
  where
    by : (b : Bool)
        → length {A = NamedAnswer} (cond b
        (record { name = (o.peer, o.key); answer = record { body = body; tag = current } }
        ∷ []) [])
        ≤ 1
    by true = omega arith
    by false = omega arith

-- so many at once, and then others
kept_each-append : (moment : ℕ) (ks more : List NamedAnswer) (xs : List KeptAnswer)
    → kept_each moment (ks ++ more) xs ≡ kept_each moment more (kept_each moment ks xs)
unfolding kept_each
kept_each-append moment [] more xs = refl
kept_each-append moment (a ∷ ks) more xs =
    kept_each-append moment ks more (used (kept_at moment a) xs)

pub carries_notification : (rows : List Row) (s : Step) (starved : Bool) (current : List ℕ)
    (whole : Effects) (ready : List KeptAnswer) (b d : Seen) (w : Watching) (count : ℕ)
    (out sent_out : List (Peer × List ℕ)) (mids_before mids : Mids) (from index : ℕ) (sent : Sent)
    (body : Arc (List ℕ) Global)
    (rest : List Planned) → b ≡ d → count ≡ (b.observed + 1) % 2 ^ 64
    → ((past : List Row)
    → WatchingStandsFor past b.watching
    → Some index ≡ next_notified from (events past) (transitions past))
    → ((done : Effects) (x : Standing)
    → slice_get b.watching.observers index ≡ Some x
    → list_any (λ q. is_same_peer q.0 x.peer && is_confirmable_with sent.mid q.1) done.sent
    ≡ false
    → is_confirmable_with sent.mid sent.octets ≡ true
    → ((first : Event)
    → first.moment ≡ row_moment rows s
    → first.word ≡ s.word
    → Resends first [] sent.resend)
    → WatchingStandsFor (making rows s starved done) b.watching
    → WatchingStandsFor (making rows s starved (joined done (forming x (arc_value body) sent))) w)
    → ((x : Standing)
    → slice_get b.watching.observers index ≡ Some x
    → length out < 1_152
    → length sent.octets ≤ 1_280
    → sent_out ≡ out ++ (x.peer, sent.octets) ∷ [])
    → mids.worker ≡ mids_before.worker → mids.drawn ≡ drawing 1 mids_before.drawn
    → CarryingOut rows s starved current whole ready d out mids_before from
    (planned.Notified sent body ∷ rest)
    → CarryingOut rows s starved current whole ready (record b { watching = w; observed = count })
    sent_out mids (index + 1) rest
carries_notification rows s starved current whole ready b d w count out sent_out mids_before mids
    from
    index sent body rest seen counted next changes pushed worker drawn h =
    record {
      done = joined h.done (planned_done current o (planned.Notified sent body));
      kept = later;
      answers = kept_each (row_moment rows s) own h.answers;
      way =
          subst (λ (f : Effects).
          UnderWay rows s starved f (with_answers (kept_each (row_moment rows s) own h.answers)
          (record b { watching = w; observed = count })) sent_out mids)
          (joined-assoc h.done e (keeping_noted own))
          (keeps rows s starved (joined h.done e) h.answers own
          (record b { watching = w; observed = count }) sent_out mids
          (kept_one o (arc_value body) current) formed);
      plan =
          subst (λ (i : ℕ).
          AreDone rows s starved current whole
          (joined h.done (planned_done current o (planned.Notified sent body))) (i + 1) rest
          later) index_is h.plan.3;
      becomes =
          sym (kept_each-append (row_moment rows s) own later h.answers)
          ∙ (ap (λ (ks : List NamedAnswer). kept_each (row_moment rows s) ks h.answers)
          (sym h.plan.2)
          ∙ h.becomes);
    }
  where
    it : IsNext rows s starved h.done from (planned.Notified sent body)
    it = h.plan.0

    may : MayBeSent rows s h.done it.observer sent
    may = it.may

    o : Observer
    o = it.observer

    later : List NamedAnswer
    later = h.plan.1

    own : List NamedAnswer
    own = kept_of o (arc_value body) current

    e : Effects
    e = forming_for o (arc_value body) sent

    before : WatchingStandsFor (making rows s starved h.done) b.watching
    before =
        subst (λ (y : Seen). WatchingStandsFor (making rows s starved h.done) y.watching) (sym seen)
        h.way.stands.watching

    index_is : it.index ≡ index
    index_is =
        same_index rows s starved h.done from index (planned.Notified sent body) b.watching before
        next it

    kept : Kept (making rows s starved h.done) b.watching index o
    kept =
        kept_at_index (making rows s starved h.done) b.watching index o before
        (ap (λ (i : ℕ). slice_get (observers (events (making rows s starved h.done))) i)
        (sym index_is)
        ∙ it.got)

    what : forming kept.x (arc_value body) sent ≡ e
    what =
        ap₂ (λ (p : Peer) (t : List ℕ). let f : Effects = record {
          sent = (p, sent.octets) ∷ [];
          notes = note.Formed p t (arc_value body) (Some
              sent.mid) ∷ [];
          drew = 1;
        } in f) (sym kept.as_kept.peer)
        (sym kept.as_kept.token)

    stands : WatchingStandsFor (making rows s starved h.done) b.watching
        → WatchingStandsFor (making rows s starved (joined h.done e)) w
    stands k =
        subst (λ (f : Effects). WatchingStandsFor (making rows s starved (joined h.done f)) w) what
        (changes h.done kept.x kept.there (subst (λ (p : Peer).
        list_any (λ (q : Peer × List ℕ).
        is_same_peer q.0 p && is_confirmable_with sent.mid q.1) h.done.sent
        ≡ false) kept.as_kept.peer may.unsent) may.confirmable may.resends k)

    room : length out < 1_152
    room =
        let few = it.room in
        let same = ap (λ (ds : List (Peer × List ℕ)). length ds) h.way.sent in
        omega (arith, few, same)

    sends : Sends e out sent_out mids_before mids
    sends = record {
      sent =
          pushed kept.x kept.there room may.short
          ∙ ap (λ (p : Peer). out ++ (p, sent.octets) ∷ []) (sym kept.as_kept.peer);
      worker = worker;
      drawn = drawn;
    }

    formed : UnderWay rows s starved (joined h.done e)
        (with_answers h.answers (record b { watching = w; observed = count })) sent_out mids
    formed =
        more_watching rows s starved h.done e (with_answers h.answers b) (with_answers h.answers d)
        w count out sent_out mids_before mids (ap (with_answers h.answers) seen) refl stands
        (λ k.
        counted
        ∙ (ap (λ (n : ℕ). (n + 1) % 2 ^ 64) k
        ∙ sym (observe_values_sent-event (event_at (length rows) (row_moment rows s) s.word
        (note.Formed o.peer o.token (arc_value body) (Some sent.mid)))
        (events (making rows s starved h.done))))) sends h.way

-- ---- the end

-- what is planned is done: the answers that are kept are those that are ready
pub carried : (rows : List Row) (s : Step) (starved : Bool) (current : List ℕ) (whole : Effects)
    (ready : List KeptAnswer) (d : Seen) (out : List (Peer × List ℕ)) (mids : Mids) (from : ℕ)
    → CarryingOut rows s starved current whole ready d out mids from []
    → UnderWay rows s starved whole (with_answers ready d) out mids
unfolding kept_each
carried rows s starved current whole ready d out mids from h =
    let none : h.answers ≡ ready =
    ap (λ (ks : List NamedAnswer). kept_each (row_moment rows s) ks h.answers) (sym h.plan.1)
    ∙ h.becomes in
    subst (λ (xs : List KeptAnswer). UnderWay rows s starved whole (with_answers xs d) out mids)
    none (subst (λ (e : Effects). UnderWay rows s starved e (with_answers h.answers d) out mids)
    h.plan.0 h.way)

-- ---- it begins

some_injective : (xs ys : List KeptAnswer)
    → map (λ (x : KeptAnswer). Some x) xs ≡ map (λ (x : KeptAnswer). Some x) ys
    → xs ≡ ys
some_injective [] [] e = refl
some_injective [] (y ∷ ys) e = absurd cc
some_injective (x ∷ xs) [] e = absurd cc
some_injective (x ∷ xs) (y ∷ ys) e =
    let first : Some x ≡ Some y = cc in
    let rest : map (λ (z : KeptAnswer). Some z) xs ≡ map (λ (z : KeptAnswer). Some z) ys = cc in
    ap₂ (λ (z : KeptAnswer) (zs : List KeptAnswer). z ∷ zs) (some_same first)
    (some_injective xs ys rest)

-- the kept answers of events are known by them
same_answers : (past : List Event) (xs ys : List KeptAnswer)
    → AnswersStandFor past xs
    → AnswersStandFor past ys
    → xs ≡ ys
same_answers past xs ys h g = some_injective xs ys (h.kept ∙ sym g.kept)

-- what is planned may be carried out, where the answers that are kept are ready
pub carrying_begins : (rows : List Row) (s : Step) (starved : Bool) (current : List ℕ)
    (whole first : Effects) (ready : List KeptAnswer) (d : Seen) (out : List (Peer × List ℕ))
    (mids : Mids) (ps : List Planned) (kept : List NamedAnswer) (moment : ℕ)
    → moment ≡ row_moment rows s → AreDone rows s starved current whole first 0 ps kept
    → ((past : List Event) (place word : ℕ)
    → AnswersStandFor past d.transfers.answers
    → AnswersStandFor (noted place moment word (map kept_note kept) past) ready)
    → UnderWay rows s starved first d out mids
    → CarryingOut rows s starved current whole ready d out mids 0 ps
carrying_begins rows s starved current whole first ready d out mids ps kept moment at plan becomes
    way =
    let past = events (making rows s starved first) in
    let answers = way.stands.transfers.answers in
    record {
      done = first;
      kept = kept;
      answers = d.transfers.answers;
      way = way;
      plan = plan;
      becomes =
          ap (λ (m : ℕ). kept_each m kept d.transfers.answers) (sym at)
          ∙ same_answers (noted (length rows) moment s.word (map kept_note kept) past)
          (kept_each moment kept d.transfers.answers) ready
          (AnswersStandFor-kept_each (length rows) moment s.word kept past d.transfers.answers
          answers) (becomes past (length rows) s.word answers);
    }

-- and then the answers that are ready become those of the table
pub adopted : (rows : List Row) (s : Step) (starved : Bool) (whole : Effects)
    (ready : List KeptAnswer) (b d : Seen) (t : Table) (out : List (Peer × List ℕ)) (mids : Mids)
    → b ≡ d
    → t.uploads ≡ b.transfers.uploads
    → t.answers ≡ ready
    → UnderWay rows s starved whole (with_answers ready d) out mids
    → UnderWay rows s starved whole (record b { transfers = t }) out mids
adopted rows s starved whole ready b d t out mids seen uploads answers way =
    subst (λ (x : Table). UnderWay rows s starved whole (record b { transfers = x }) out mids)
    (ap₂ (λ us xs. let x : Table = record { uploads = us; answers = xs } in x) (sym uploads)
    (sym answers))
    (subst (λ (y : Seen). UnderWay rows s starved whole (with_answers ready y) out mids) (sym seen)
    way)

-- while something is planned, somebody is due and free
pub carrying_none : (rows : List Row) (s : Step) (starved : Bool) (current : List ℕ)
    (whole : Effects) (ready : List KeptAnswer) (b d : Seen) (out : List (Peer × List ℕ))
    (mids : Mids) (from : ℕ) (p : Planned) (ps : List Planned)
    → b ≡ d
    → ((past : List Row)
    → WatchingStandsFor past b.watching
    → None ≡ next_notified from (events past) (transitions past))
    → CarryingOut rows s starved current whole ready d out mids from (p ∷ ps)
    → ⊥
carrying_none rows s starved current whole ready b d out mids from p ps seen next h =
    let it : IsNext rows s starved h.done from p = h.plan.0 in
    let before =
    subst (λ (y : Seen). WatchingStandsFor (making rows s starved h.done) y.watching) (sym seen)
    h.way.stands.watching in
    let no_next : None ≡ Some it.index = next (making rows s starved h.done) before ∙ it.next in
    absurd cc

pub none_planned : (ps : List Planned) (n : ℕ) → n ≡ length ps → n ≡ 0 → ps ≡ []
none_planned [] n same none = refl
none_planned (p ∷ ps) n same none = absurd (omega (arith, same, none))
