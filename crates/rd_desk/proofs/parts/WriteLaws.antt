-- What a write does as it is heard, by how the table of exchanges answers it (RFC 7252 section
-- 4.5).
use Rattle.std.proofs.Common.{
  ◌≡◌,
  ◌≢◌,
  ℕ,
  Bool,
  true,
  false,
  List,
  [],
  ◌∷◌,
  length,
  codes,
  Option,
  Some,
  None,
  refl,
  sym,
  ap,
  subst,
  ◌∙◌,
}
use Rattle.std.specs.List.{list_any}
use Rattle.rd_base.specs.declared.peers.Peer.{Peer}
use Rattle.message_model.specs.Codes as codes_of
use Rattle.message_model.specs.Message.{Message}
use Rattle.event_model.specs.declared.notes.Note.{Note}
use Rattle.event_model.specs.declared.notes.Note.TheVariants as note
use Rattle.event_model.specs.Events.{Event}
use Rattle.event_model.specs.Repeats.{is_admitting, repeated, settled, is_full_of_exchanges}
use Rattle.event_model.specs.Challenges.{next_challenge}
use Rattle.event_model.proofs.NotedLaws.{event_at}
use Rattle.journal_model.specs.declared.steps.Step.{Step}
use Rattle.journal_model.specs.declared.rows.Row.{Row}
use Rattle.journal_model.specs.Effects.{
  Effects,
  nothing,
  noting,
  sending,
  diagnostic,
  answering,
  without_memory,
}
use Rattle.journal_model.specs.Journal.{events}
use Rattle.journal_model.specs.Rows.{row_moment}
use Rattle.journal_model.specs.UnfinishedRow.{IsReady, making}
use Rattle.journal_model.specs.Writes.{
  again_answered,
  challenge,
  challenging,
  is_unproved,
  admitted_unless,
  write_unless,
  write_effects,
}
use Rattle.journal_model.proofs.UnfinishedRowLaws.{now-making}
use Rattle.journal_model.proofs.desks.AdmissionsInOrder.{journal-IsReady}
use Rattle.exchange_core.specs.declared.writes.Keyed.{Keyed}
use Rattle.exchange_core.specs.declared.writes.Keyed.TheVariants as keyed
use Rattle.exchange_core.specs.Table.{Table, repeating}
use Rattle.exchange_core.specs.ExchangeEvents.{
  ExchangesStandFor,
  keyed_new,
  keyed_as,
  keyed_after,
  IsFoundAt,
  IsKeyedAt,
}
use Rattle.simple_registration.specs.Challenges.{ChallengeTable, ChallengesStandFor}
use Rattle.coap_answers.specs.declared.mids.Mids.{Mids}
use Rattle.coap_answers.specs.Sendings.{IsStepOf, Sends}
use Rattle.coap_answers.proofs.SendingLaws.{sends_notes}
use Rattle.rd_desk.specs.calls.Desks.{Seen}
use Rattle.rd_desk.specs.parts.Hearing.{unadmitted}
use Rattle.rd_desk.specs.parts.UnderWay.{UnderWay}
use Rattle.rd_desk.specs.calls.WriteJobs.{Write}
use Rattle.rd_desk.proofs.parts.NoteTopics as topic
use Rattle.rd_desk.proofs.parts.NoteTopics.{AreAbout}
use Rattle.rd_desk.proofs.parts.PartLaws.{more_exchanges, more_challenges, only_silent}
use Rattle.rd_desk.proofs.parts.WayLaws.{noting_more, way_moment, step_of, stood, only}

-- what is done for each answer, by what is done for a write that is new and finds room
abbrev done_for : Effects → Keyed → Step → Message → Effects
done_for new keyed.Fresh s m = new
done_for new keyed.InFlight s m = nothing
done_for new (keyed.Kept reply) s m = sending s.peer reply
done_for new keyed.FullExchanges s m =
    answering s m (diagnostic codes_of.service_unavailable (codes "exchanges")) []

-- that is: it is challenged where it has something to show first, and else it is admitted
abbrev new_for : Bool → List Event → Step → Message → Effects
new_for true past s m = challenging s m (next_challenge s.word past)
new_for false past s m = noting (note.Admitted s.peer m.mid ∷ [])

-- a write does what is done for its answer
write_by : (past : List Event) (moment : ℕ) (s : Step) (m : Message) (answer : Keyed)
    → answer ≡ keyed_after moment s.peer m.mid past
    → write_effects past moment s m
    ≡ done_for (new_for (is_unproved past moment s m) past s m) answer s m
unfolding write_effects keyed_after
write_by past moment s m answer is =
    sym (ap (λ (k : Keyed). done_for (new_for (is_unproved past moment s m) past s m) k s m) is
    ∙ by (repeated moment s.peer m.mid past))
  where
    again : (new : Effects) (reply : Option (List ℕ))
        → done_for new (repeating reply) s m ≡ again_answered s reply
    again new None = refl
    again new (Some reply) = refl

    unless : (full unproved : Bool)
        → done_for (new_for unproved past s m) (keyed_new full) s m
        ≡ admitted_unless full unproved past s m
    unless true unproved = refl
    unless false true = refl
    unless false false = refl

    by : (first : Option Event)
        → done_for (new_for (is_unproved past moment s m) past s m) (keyed_as first moment past) s m
        ≡ write_unless first past moment s m
    by None = unless (is_full_of_exchanges moment past) (is_unproved past moment s m)
    by (Some a) =
        again (new_for (is_unproved past moment s m) past s m) (settled a.place past)

-- what is not admitted is done for its answer
done_unadmitted : (new : Effects) (answer : Keyed) (s : Step) (m : Message)
    → answer ≢ keyed.Fresh
    → done_for new answer s m ≡ unadmitted answer s m
done_unadmitted new keyed.Fresh s m other = absurd (other refl)
done_unadmitted new keyed.InFlight s m other = refl
done_unadmitted new (keyed.Kept reply) s m other = refl
done_unadmitted new keyed.FullExchanges s m other = refl

-- and it notes nothing
unadmitted-notes : (answer : Keyed) (s : Step) (m : Message) → (unadmitted answer s m).notes ≡ []
unfolding answering
unadmitted-notes keyed.Fresh s m = refl
unadmitted-notes keyed.InFlight s m = refl
unadmitted-notes (keyed.Kept reply) s m = refl
unadmitted-notes keyed.FullExchanges s m = refl

-- the table of a desk whose step begins stands for the events before the row, at its moment
stands_begun : (rows : List Row) (s : Step) (starved : Bool) (x : Seen) (out : List (Peer × List ℕ))
    (mids : Mids)
    → UnderWay rows s starved nothing x out mids
    → ExchangesStandFor (row_moment rows s) (events rows) x.exchanges
unfolding events
stands_begun rows s starved x out mids way =
    subst (λ at. ExchangesStandFor at (events rows) x.exchanges)
    (now-making rows s starved nothing way.no_look) way.stands.exchanges

-- ---- a write that is only looked for

-- it is answered as it is after the events before the row
found_as : (rows : List Row) (s : Step) (starved : Bool) (m : Message) (sender : Peer) (x d : Seen)
    (after : Table) (answer : Keyed) (out : List (Peer × List ℕ)) (mids : Mids)
    → x ≡ d
    → IsFoundAt x.moment sender m.mid x.exchanges after answer
    → s.peer ≡ sender
    → UnderWay rows s starved nothing d out mids
    → answer ≡ keyed_after (row_moment rows s) s.peer m.mid (events rows)
found_as rows s starved m sender x d after answer out mids seen found of way =
    let here = subst (λ (y : Seen). UnderWay rows s starved nothing y out mids) (sym seen) way in
    let its : IsFoundAt (row_moment rows s) sender m.mid x.exchanges after answer =
    subst (λ at. IsFoundAt at sender m.mid x.exchanges after answer)
    (way_moment rows s starved nothing x out mids here) found in
    let ready : IsReady rows s = journal-IsReady rows s way.journal in
    its.answered (events rows) ready.orderly ready.in_time
    (stands_begun rows s starved x out mids here)
    ∙ ap (λ (p : Peer). keyed_after (row_moment rows s) p m.mid (events rows)) (sym of)

-- and the desk stands for what it stood for
found_way : (rows : List Row) (s : Step) (starved : Bool) (done : Effects) (mid : ℕ) (sender : Peer)
    (x d : Seen) (after : Table) (answer : Keyed) (out : List (Peer × List ℕ)) (mids : Mids)
    → x ≡ d
    → IsFoundAt x.moment sender mid x.exchanges after answer
    → UnderWay rows s starved done d out mids
    → UnderWay rows s starved done (record x { exchanges = after }) out mids
found_way rows s starved done mid sender x d after answer out mids seen found way =
    stood rows s starved done x (record x { exchanges = after }) out mids
    (λ own.
    record {
      moment = own.moment;
      directory = own.directory;
      exchanges =
          subst (λ (at : ℕ). ExchangesStandFor at (events (making rows s starved done)) after)
          own.moment
          (found.aside (events (making rows s starved done))
          (subst (λ (at : ℕ). ExchangesStandFor at (events (making rows s starved done))
          x.exchanges) (sym own.moment) own.exchanges));
      transfers = own.transfers;
      watching = own.watching;
      fetches = own.fetches;
      challenges = own.challenges;
      observed = own.observed;
    })
    (subst (λ (y : Seen). UnderWay rows s starved done y out mids) (sym seen) way)

-- what a write does that is not admitted
unadmitted_is : (rows : List Row) (s : Step) (starved : Bool) (m : Message) (sender : Peer)
    (x d : Seen) (after : Table) (answer : Keyed) (out : List (Peer × List ℕ)) (mids : Mids)
    → x ≡ d
    → IsFoundAt x.moment sender m.mid x.exchanges after answer
    → answer ≢ keyed.Fresh
    → s.peer ≡ sender
    → UnderWay rows s starved nothing d out mids
    → write_effects (events rows) (row_moment rows s) s m ≡ unadmitted answer s m
unadmitted_is rows s starved m sender x d after answer out mids seen found other of way =
    write_by (events rows) (row_moment rows s) s m answer
    (found_as rows s starved m sender x d after answer out mids seen found of way)
    ∙ done_unadmitted
    (new_for (is_unproved (events rows) (row_moment rows s) s m) (events rows) s m) answer s m
    other

-- it notes nothing
pub write_unadmitted-notes : (rows : List Row) (s : Step) (starved : Bool) (m : Message)
    (sender : Peer) (x d : Seen) (after : Table) (answer : Keyed) (out : List (Peer × List ℕ))
    (mids : Mids)
    → x ≡ d
    → IsFoundAt x.moment sender m.mid x.exchanges after answer
    → answer ≢ keyed.Fresh
    → s.peer ≡ sender
    → UnderWay rows s starved nothing d out mids
    → (write_effects (events rows) (row_moment rows s) s m).notes ≡ []
write_unadmitted-notes rows s starved m sender x d after answer out mids seen found other of way =
    ap (λ (e : Effects). e.notes)
    (unadmitted_is rows s starved m sender x d after answer out mids seen found other of way)
    ∙ unadmitted-notes answer s m

-- its step, where what is done for the answer was sent
pub write_unadmitted : (rows : List Row) (s : Step) (starved : Bool) (m : Message) (sender : Peer)
    (x d : Seen) (after : Table) (answer : Keyed) (out sent : List (Peer × List ℕ))
    (mids_before mids : Mids)
    → x ≡ d
    → IsFoundAt x.moment sender m.mid x.exchanges after answer
    → answer ≢ keyed.Fresh
    → s.peer ≡ sender
    → Sends (unadmitted answer s m) out sent mids_before mids
    → UnderWay rows s starved nothing d out mids_before
    → UnderWay rows s starved (write_effects (events rows) (row_moment rows s) s m)
    (record x { exchanges = after }) sent mids
write_unadmitted rows s starved m sender x d after answer out sent mids_before mids seen found other
    of sends way =
    subst (λ (e : Effects). UnderWay rows s starved e (record x { exchanges = after }) sent mids)
    (sym (unadmitted_is rows s starved m sender x d after answer out mids_before seen found other of
    way))
    (only_silent rows s starved (unadmitted answer s m) (record x { exchanges = after }) out sent
    mids_before mids (unadmitted-notes answer s m) sends
    (found_way rows s starved nothing m.mid sender x d after answer out mids_before seen found way))

-- ---- a write that is challenged

-- a write that has something to show first is not admitted
pub unproved_admits_none : (past : List Event) (moment : ℕ) (s : Step) (m : Message)
    → is_unproved past moment s m ≡ true
    → list_any is_admitting (write_effects past moment s m).notes ≡ false
unfolding write_effects answering
unproved_admits_none past moment s m unproved = by (repeated moment s.peer m.mid past)
  where
    again : (reply : Option (List ℕ)) → list_any is_admitting (again_answered s reply).notes ≡ false
    again None = refl
    again (Some reply) = refl

    unless : (full : Bool)
        → list_any is_admitting (admitted_unless full true past s m).notes ≡ false
    unless true = refl
    unless false = refl

    by : (first : Option Event)
        → list_any is_admitting (write_unless first past moment s m).notes ≡ false
    by None =
        ap (λ (b : Bool).
        list_any is_admitting
        (admitted_unless (is_full_of_exchanges moment past) b past s m).notes)
        unproved
        ∙ unless (is_full_of_exchanges moment past)
    by (Some a) = again (settled a.place past)

-- what a write does that is challenged
challenged_is : (rows : List Row) (s : Step) (starved : Bool) (m : Message) (sender : Peer)
    (x d : Seen) (after : Table) (answer : Keyed) (out : List (Peer × List ℕ)) (mids : Mids)
    → x ≡ d
    → IsFoundAt x.moment sender m.mid x.exchanges after answer
    → answer ≡ keyed.Fresh
    → s.peer ≡ sender
    → is_unproved (events rows) (row_moment rows s) s m ≡ true
    → UnderWay rows s starved nothing d out mids
    → write_effects (events rows) (row_moment rows s) s m
    ≡ challenging s m (next_challenge s.word (events rows))
challenged_is rows s starved m sender x d after answer out mids seen found fresh of unproved way =
    write_by (events rows) (row_moment rows s) s m keyed.Fresh
    (sym fresh ∙ found_as rows s starved m sender x d after answer out mids seen found of way)
    ∙ ap (λ (b : Bool). new_for b (events rows) s m) unproved

-- what it notes is about challenges
about_challenge : (s : Step) (m : Message) (value : List ℕ)
    → AreAbout topic.challenges (challenging s m value).notes
unfolding answering
about_challenge s m value = refl

-- after the challenge the table stands for the events with it
challenged_stands : (rows : List Row) (s : Step) (starved : Bool) (m : Message) (word : ℕ)
    (sender : Peer) (x : Seen) (t : ChallengeTable)
    → ((past : List Event) (e : Event)
    → ChallengesStandFor past x.challenges
    → e.note ≡ note.Challenged sender (next_challenge word past)
    → e.moment ≡ x.moment
    → ChallengesStandFor (e ∷ past) t)
    → s.peer ≡ sender
    → s.word ≡ word
    → x.moment ≡ row_moment rows s
    → ChallengesStandFor (events (making rows s starved nothing)) x.challenges
    → ChallengesStandFor
    (noting_more rows s (challenging s m (next_challenge s.word (events rows))).notes
    (events (making rows s starved nothing))) t
unfolding events answering
challenged_stands rows s starved m word sender x t challenged of by at stands =
    challenged (events rows)
    (event_at (length rows) (row_moment rows s) s.word
    (note.Challenged s.peer (next_challenge s.word (events rows))))
    stands
    (ap (λ (p : Peer). note.Challenged p (next_challenge s.word (events rows))) of
    ∙ ap (λ (w : ℕ). note.Challenged sender (next_challenge w (events rows))) by) (sym at)

-- the table of challenges of a desk whose step begins stands for the events before the row
challenges_begun : (rows : List Row) (s : Step) (starved : Bool) (x : Seen)
    (out : List (Peer × List ℕ)) (mids : Mids)
    → UnderWay rows s starved nothing x out mids
    → ChallengesStandFor (events rows) x.challenges
unfolding events
challenges_begun rows s starved x out mids way = way.stands.challenges

-- its step, where the challenge was sent
pub write_challenged : (rows : List Row) (s : Step) (starved : Bool) (m : Message) (word : ℕ)
    (sender : Peer) (x d : Seen) (after : Table) (answer : Keyed) (t : ChallengeTable)
    (value : List ℕ) (out sent : List (Peer × List ℕ)) (mids_before mids : Mids)
    → x ≡ d
    → IsFoundAt x.moment sender m.mid x.exchanges after answer
    → answer ≡ keyed.Fresh
    → ((past : List Event)
    → ChallengesStandFor past x.challenges
    → value ≡ next_challenge word past)
    → ((past : List Event) (e : Event)
    → ChallengesStandFor past x.challenges
    → e.note ≡ note.Challenged sender (next_challenge word past)
    → e.moment ≡ x.moment
    → ChallengesStandFor (e ∷ past) t)
    → ((step : Step) (notes : List Note)
    → IsStepOf step sender mids_before
    → Sends (answering step m (challenge value) notes) out sent mids_before mids)
    → s.peer ≡ sender
    → s.word ≡ word
    → is_unproved (events rows) (row_moment rows s) s m ≡ true
    → UnderWay rows s starved nothing d out mids_before
    → UnderWay rows s starved (write_effects (events rows) (row_moment rows s) s m)
    (record x { exchanges = after; challenges = t }) sent mids
write_challenged rows s starved m word sender x d after answer t value out sent mids_before mids
    seen found fresh is challenged sends of by unproved way =
    let here =
    subst (λ (y : Seen). UnderWay rows s starved nothing y out mids_before) (sym seen) way in
    let next : value ≡ next_challenge s.word (events rows) =
    is (events rows) (challenges_begun rows s starved x out mids_before here)
    ∙ ap (λ (w : ℕ). next_challenge w (events rows)) (sym by) in
    let e = challenging s m (next_challenge s.word (events rows)) in
    let desk : Seen = record x { exchanges = after } in
    subst (λ (f : Effects).
    UnderWay rows s starved f (record x { exchanges = after; challenges = t }) sent mids)
    (sym (challenged_is rows s starved m sender x d after answer out mids_before seen found fresh of
    unproved way))
    (only rows s starved e (record x { exchanges = after; challenges = t }) sent mids
    (more_challenges rows s starved nothing e desk desk t out sent mids_before mids refl
    (about_challenge s m (next_challenge s.word (events rows)))
    (challenged_stands rows s starved m word sender x t challenged of by
    (way_moment rows s starved nothing x out mids_before here))
    (subst (λ (v : List ℕ).
    Sends (answering s m (challenge v) (note.Challenged s.peer (next_challenge s.word (events rows))
    ∷ [])) out sent mids_before mids) next
    (sends s (note.Challenged s.peer (next_challenge s.word (events rows)) ∷ [])
    (step_of rows s starved nothing d out mids_before sender of refl way)))
    (found_way rows s starved nothing m.mid sender x d after answer out mids_before seen found
    way)))

-- ---- a write that is admitted

-- at the moment of the row
keyed_here : (rows : List Row) (s : Step) (starved : Bool) (m : Message) (sender : Peer) (x : Seen)
    (after : Table) (answer : Keyed) (out : List (Peer × List ℕ)) (mids : Mids)
    → IsKeyedAt x.moment sender m.mid x.exchanges after answer
    → UnderWay rows s starved nothing x out mids
    → IsKeyedAt (row_moment rows s) sender m.mid x.exchanges after answer
keyed_here rows s starved m sender x after answer out mids keys way =
    subst (λ at. IsKeyedAt at sender m.mid x.exchanges after answer)
    (way_moment rows s starved nothing x out mids way) keys

-- what it does
write_is : (rows : List Row) (s : Step) (starved : Bool) (m : Message) (sender : Peer)
    (x d : Seen) (after : Table) (answer : Keyed) (out : List (Peer × List ℕ)) (mids : Mids)
    → x ≡ d
    → IsKeyedAt x.moment sender m.mid x.exchanges after answer
    → answer ≡ keyed.Fresh
    → s.peer ≡ sender
    → is_unproved (events rows) (row_moment rows s) s m ≡ false
    → UnderWay rows s starved nothing d out mids
    → write_effects (events rows) (row_moment rows s) s m ≡ noting (note.Admitted s.peer m.mid ∷ [])
write_is rows s starved m sender x d after answer out mids seen keys fresh of proved way =
    let here = subst (λ (y : Seen). UnderWay rows s starved nothing y out mids) (sym seen) way in
    let its = keyed_here rows s starved m sender x after answer out mids keys here in
    let ready : IsReady rows s = journal-IsReady rows s way.journal in
    write_by (events rows) (row_moment rows s) s m keyed.Fresh
    (sym fresh
    ∙ (its.answered (events rows) ready.orderly ready.in_time
    (stands_begun rows s starved x out mids here)
    ∙ ap (λ (p : Peer). keyed_after (row_moment rows s) p m.mid (events rows)) (sym of)))
    ∙ ap (λ (b : Bool). new_for b (events rows) s m) proved

-- it notes its admission
pub write_admitted-notes : (rows : List Row) (s : Step) (starved : Bool) (m : Message)
    (sender : Peer) (x d : Seen) (after : Table) (answer : Keyed) (out : List (Peer × List ℕ))
    (mids : Mids)
    → x ≡ d
    → IsKeyedAt x.moment sender m.mid x.exchanges after answer
    → answer ≡ keyed.Fresh
    → s.peer ≡ sender
    → is_unproved (events rows) (row_moment rows s) s m ≡ false
    → UnderWay rows s starved nothing d out mids
    → (write_effects (events rows) (row_moment rows s) s m).notes ≡ note.Admitted s.peer m.mid ∷ []
write_admitted-notes rows s starved m sender x d after answer out mids seen keys fresh of proved
    way =
    ap (λ (e : Effects). e.notes)
    (write_is rows s starved m sender x d after answer out mids seen keys fresh of proved way)

-- after the answer the table stands for the events with the admission
stands_after : (rows : List Row) (s : Step) (starved : Bool) (m : Message) (sender : Peer)
    (x : Seen) (after : Table) (answer : Keyed) (out : List (Peer × List ℕ)) (mids : Mids)
    → IsKeyedAt x.moment sender m.mid x.exchanges after answer
    → answer ≡ keyed.Fresh
    → s.peer ≡ sender
    → UnderWay rows s starved nothing x out mids
    → ExchangesStandFor (row_moment rows s)
    (noting_more rows s (note.Admitted s.peer m.mid ∷ []) (events (making rows s starved nothing)))
    after
unfolding events
stands_after rows s starved m sender x after answer out mids keys fresh of way =
    let its = keyed_here rows s starved m sender x after answer out mids keys way in
    let ready : IsReady rows s = journal-IsReady rows s way.journal in
    its.admitted (events rows)
    (event_at (length rows) (row_moment rows s) s.word (note.Admitted s.peer m.mid)) fresh
    (ap (λ (p : Peer). note.Admitted p m.mid) of) refl ready.new_place
    (stands_begun rows s starved x out mids way)

-- its step, which sends nothing
pub write_admitted : (rows : List Row) (s : Step) (starved : Bool) (m : Message) (sender : Peer)
    (x d : Seen) (after : Table) (answer : Keyed) (out : List (Peer × List ℕ)) (mids : Mids)
    → x ≡ d
    → IsKeyedAt x.moment sender m.mid x.exchanges after answer
    → answer ≡ keyed.Fresh
    → s.peer ≡ sender
    → is_unproved (events rows) (row_moment rows s) s m ≡ false
    → UnderWay rows s starved nothing d out mids
    → UnderWay rows s starved (write_effects (events rows) (row_moment rows s) s m)
    (record x { exchanges = after }) out mids
write_admitted rows s starved m sender x d after answer out mids seen keys fresh of proved way =
    let here = subst (λ (y : Seen). UnderWay rows s starved nothing y out mids) (sym seen) way in
    let e = noting (note.Admitted s.peer m.mid ∷ []) in
    subst (λ (f : Effects). UnderWay rows s starved f (record x { exchanges = after }) out mids)
    (sym (write_is rows s starved m sender x d after answer out mids seen keys fresh of proved way))
    (only rows s starved e (record x { exchanges = after }) out mids
    (more_exchanges rows s starved nothing e x d after out out mids mids seen refl
    (λ before. stands_after rows s starved m sender x after answer out mids keys fresh of here)
    (sends_notes (note.Admitted s.peer m.mid ∷ []) out mids) way))

-- the job of a write, by its parts
pub job_same : (one other : Write)
    → one.peer ≡ other.peer
    → one.datagram ≡ other.datagram
    → one.admitted ≡ other.admitted
    → one ≡ other
job_same one other peer datagram admitted =
    let made =
    λ (p : Peer) (xs : List ℕ) (n : ℕ). let w : Write = record
    { peer = p; datagram = xs; admitted = n } in w in
    ap (λ (p : Peer). made p one.datagram one.admitted) peer
    ∙ (ap (λ (xs : List ℕ). made other.peer xs one.admitted) datagram
    ∙ ap (λ (n : ℕ). made other.peer other.datagram n) admitted)

-- out of memory a request is answered, and nothing is noted
pub without_memory-notes : (s : Step) (m : Message) → (without_memory s m).notes ≡ []
unfolding answering
without_memory-notes s m = refl
