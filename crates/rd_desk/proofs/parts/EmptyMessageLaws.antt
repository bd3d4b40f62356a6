-- What an empty acknowledgement and a Reset do, table by table (RFC 7252 sections 4.2 and 5.2.2,
-- RFC 7641 section 3.6).
use Rattle.std.proofs.Common.{
  ◌≡◌,
  ℕ,
  Bool,
  true,
  false,
  List,
  [],
  ◌∷◌,
  ◌++◌,
  length,
  map,
  refl,
  sym,
  ap,
  subst,
  ◌∙◌,
  if◌then◌else◌,
}
use Rattle.std.specs.List.{list_any}
use Rattle.rd_base.specs.declared.peers.Peer.{Peer}
use Rattle.event_model.specs.declared.notes.Note.{Note}
use Rattle.event_model.specs.declared.notes.Note.TheVariants as note
use Rattle.event_model.specs.declared.notes.Observer.{Observer}
use Rattle.event_model.specs.Events.{Event}
use Rattle.event_model.specs.Flights.{OctetsSent}
use Rattle.event_model.specs.Observers.{is_forming}
use Rattle.event_model.specs.Fetches.{is_last_request}
use Rattle.event_model.proofs.NotedLaws.{event_at}
use Rattle.journal_model.specs.declared.steps.Step.{Step}
use Rattle.journal_model.specs.declared.rows.Row.{Row}
use Rattle.journal_model.specs.Effects.{Effects, nothing, joined, noting}
use Rattle.journal_model.specs.EmptyMessages.{waited_for, acknowledged, reset}
use Rattle.journal_model.specs.Journal.{events}
use Rattle.journal_model.specs.Rows.{row_moment}
use Rattle.journal_model.specs.Ticks.{octets_sent}
use Rattle.journal_model.specs.UnfinishedRow.{making}
use Rattle.journal_model.proofs.UnfinishedRowLaws.{events-making_nothing, events-making_joined}
use Rattle.simple_registration.specs.Table.{Table}
use Rattle.simple_registration.specs.FetchEvents.{FetchesStandFor}
use Rattle.simple_registration.proofs.DeskLaws.{last_request-noted}
use Rattle.coap_answers.specs.declared.mids.Mids.{Mids}
use Rattle.coap_answers.specs.Sendings.{IsRequestSent, AreRequestsSent}
use Rattle.coap_answers.proofs.SendingLaws.{sends_notes}
use Rattle.observation.specs.Watching.{Watching, WatchingStandsFor}
use Rattle.rd_desk.specs.calls.Desks.{Seen}
use Rattle.rd_desk.specs.parts.UnderWay.{UnderWay}
use Rattle.rd_desk.proofs.parts.NoteTopics as topic
use Rattle.rd_desk.proofs.parts.NoteTopics.{AreAbout, no_fetches}
use Rattle.rd_desk.proofs.parts.PartLaws.{more_unformed, more_fetches}
use Rattle.rd_desk.proofs.parts.WayLaws.{noting_more}

-- a note where something holds
abbrev pub note_if : Bool → Note → List Note
note_if true n = n ∷ []
note_if false n = []

-- ---- the observers that wait for an acknowledgement

abbrev pub landings : Peer → ℕ → List Observer → List Note
landings peer mid waiting = map (λ o. note.Landed peer mid) waiting

abbrev pub removals : List Observer → List Note
removals waiting = map (λ o. note.Unwatched o.peer o.token) waiting

about_landings : (peer : Peer) (mid : ℕ) (waiting : List Observer)
    → AreAbout topic.observers (landings peer mid waiting)
about_landings peer mid [] = refl
about_landings peer mid (o ∷ waiting) = about_landings peer mid waiting

about_removals : (waiting : List Observer) → AreAbout topic.observers (removals waiting)
about_removals [] = refl
about_removals (o ∷ waiting) = about_removals waiting

no_forming-landings : (peer : Peer) (mid : ℕ) (waiting : List Observer)
    → list_any is_forming (landings peer mid waiting) ≡ false
no_forming-landings peer mid [] = refl
no_forming-landings peer mid (o ∷ waiting) = no_forming-landings peer mid waiting

no_forming-removals : (waiting : List Observer) → list_any is_forming (removals waiting) ≡ false
no_forming-removals [] = refl
no_forming-removals (o ∷ waiting) = no_forming-removals waiting

-- their notifications landed
pub landed_more : (rows : List Row) (s : Step) (starved : Bool) (done : Effects) (x d : Seen)
    (w : Watching) (out : List (Peer × List ℕ)) (mids : Mids) (peer : Peer) (mid : ℕ)
    (waiting : List Observer)
    → x ≡ d
    → (WatchingStandsFor (making rows s starved done) x.watching
    → WatchingStandsFor
    (making rows s starved (joined done (noting (landings peer mid waiting)))) w)
    → UnderWay rows s starved done d out mids
    → UnderWay rows s starved (joined done (noting (landings peer mid waiting)))
    (record x { watching = w }) out mids
landed_more rows s starved done x d w out mids peer mid waiting seen stands way =
    more_unformed rows s starved done (noting (landings peer mid waiting)) x d w out out mids mids
    seen (about_landings peer mid waiting) (no_forming-landings peer mid waiting) stands
    (sends_notes (landings peer mid waiting) out mids) way

-- or they are removed
pub removed_more : (rows : List Row) (s : Step) (starved : Bool) (done : Effects) (x d : Seen)
    (w : Watching) (out : List (Peer × List ℕ)) (mids : Mids) (waiting : List Observer)
    → x ≡ d
    → (WatchingStandsFor (making rows s starved done) x.watching
    → WatchingStandsFor (making rows s starved (joined done (noting (removals waiting)))) w)
    → UnderWay rows s starved done d out mids
    → UnderWay rows s starved (joined done (noting (removals waiting))) (record x { watching = w })
    out mids
removed_more rows s starved done x d w out mids waiting seen stands way =
    more_unformed rows s starved done (noting (removals waiting)) x d w out out mids mids seen
    (about_removals waiting) (no_forming-removals waiting) stands
    (sends_notes (removals waiting) out mids) way

-- ---- the fetch whose last request the message is of

-- where it is, something is noted about the fetches that makes no request
pub fetch_more : (rows : List Row) (s : Step) (starved : Bool) (done : Effects) (x d : Seen)
    (t : Table) (out : List (Peer × List ℕ)) (mids : Mids) (n : Note) (answer : Bool)
    → x ≡ d
    → AreAbout topic.fetches (n ∷ []) → IsRequestSent [] n
    → ((octets : OctetsSent) (past : List Event) (e : Event)
    → FetchesStandFor octets past x.fetches
    → answer ≡ true
    → e.note ≡ n
    → FetchesStandFor octets (e ∷ past) t)
    → (answer ≡ false → t ≡ x.fetches)
    → UnderWay rows s starved done d out mids
    → UnderWay rows s starved (joined done (noting (note_if answer n))) (record x { fetches = t })
    out mids
fetch_more rows s starved done x d t out mids n answer seen alone request told kept way =
    more_fetches rows s starved done (noting (note_if answer n)) x d t out out mids mids seen
    (about answer) (stands answer refl) (sent answer) (sends_notes (note_if answer n) out mids)
    way
  where
    about : (b : Bool) → AreAbout topic.fetches (note_if b n)
    about true = alone
    about false = refl

    sent : (b : Bool) → AreRequestsSent (noting (note_if b n))
    sent true = (request, tt)
    sent false = tt

    octets : OctetsSent
    octets = octets_sent (making rows s starved (joined done (noting (note_if answer n))))

    past : List Event
    past = events (making rows s starved done)

    stands : (b : Bool)
        → answer ≡ b
        → FetchesStandFor octets past x.fetches
        → FetchesStandFor octets (noting_more rows s (note_if b n) past) t
    stands true is h =
        told octets past (event_at (length rows) (row_moment rows s) s.word n) h is refl
    stands false is h = subst (FetchesStandFor octets past) (sym (kept is)) h

-- ---- both together

-- what is noted of observers leaves whose last request has the Message ID
last_request-observers : (rows : List Row) (s : Step) (starved : Bool) (peer : Peer) (mid : ℕ)
    (notes : List Note)
    → AreAbout topic.observers notes
    → is_last_request peer mid (events (making rows s starved (joined nothing (noting notes))))
    ≡ is_last_request peer mid (events rows)
last_request-observers rows s starved peer mid notes alone =
    ap (is_last_request peer mid) (events-making_joined rows s starved nothing (noting notes))
    ∙ (last_request-noted peer mid (length rows) (row_moment rows s) s.word notes
    (events (making rows s starved nothing)) (no_fetches topic.observers notes refl alone)
    ∙ ap (is_last_request peer mid) (events-making_nothing rows s starved))

pub last_request-landed : (rows : List Row) (s : Step) (starved : Bool) (peer : Peer) (mid : ℕ)
    (to : Peer) (waiting : List Observer)
    → is_last_request peer mid
    (events (making rows s starved (joined nothing (noting (landings to mid waiting)))))
    ≡ is_last_request peer mid (events rows)
last_request-landed rows s starved peer mid to waiting =
    last_request-observers rows s starved peer mid (landings to mid waiting)
    (about_landings to mid waiting)

pub last_request-removed : (rows : List Row) (s : Step) (starved : Bool) (peer : Peer) (mid : ℕ)
    (waiting : List Observer)
    → is_last_request peer mid
    (events (making rows s starved (joined nothing (noting (removals waiting)))))
    ≡ is_last_request peer mid (events rows)
last_request-removed rows s starved peer mid waiting =
    last_request-observers rows s starved peer mid (removals waiting) (about_removals waiting)

-- an acknowledgement
pub acknowledged_parts : (peer : Peer) (mid : ℕ) (past : List Event) (answer : Bool)
    → answer ≡ is_last_request peer mid past
    → joined (joined nothing (noting (landings peer mid (waited_for peer mid past))))
    (noting (note_if answer (note.Waiting peer)))
    ≡ acknowledged peer mid past
unfolding acknowledged
acknowledged_parts peer mid past answer is =
    ap (λ (ns : List Note). noting (landings peer mid (waited_for peer mid past) ++ ns))
    (by answer ∙ ap (λ b. if b then note.Waiting peer ∷ [] else []) is)
  where
    by : (b : Bool) → note_if b (note.Waiting peer) ≡ (if b then note.Waiting peer ∷ [] else [])
    by true = refl
    by false = refl

-- and a Reset
pub reset_parts : (peer : Peer) (mid : ℕ) (past : List Event) (answer : Bool)
    → answer ≡ is_last_request peer mid past
    → joined (joined nothing (noting (removals (waited_for peer mid past))))
    (noting (note_if answer (note.Ceased peer)))
    ≡ reset peer mid past
unfolding reset
reset_parts peer mid past answer is =
    ap (λ (ns : List Note). noting (removals (waited_for peer mid past) ++ ns))
    (by answer ∙ ap (λ b. if b then note.Ceased peer ∷ [] else []) is)
  where
    by : (b : Bool) → note_if b (note.Ceased peer) ≡ (if b then note.Ceased peer ∷ [] else [])
    by true = refl
    by false = refl

-- the step of an acknowledgement, by what the watched queries and the fetches ensure
pub acknowledged_more : (rows : List Row) (s : Step) (starved : Bool) (x d : Seen) (w : Watching)
    (t : Table) (out : List (Peer × List ℕ)) (mids : Mids) (peer : Peer) (mid : ℕ) (answer : Bool)
    → x ≡ d
    → s.peer ≡ peer
    → ((done : Effects) → WatchingStandsFor (making rows s starved done) x.watching
    → WatchingStandsFor (making rows s starved (joined done (noting (landings peer mid
    (waited_for peer mid (events (making rows s starved done))))))) w)
    → ((octets : OctetsSent) (past : List Event)
    → FetchesStandFor octets past x.fetches
    → answer ≡ is_last_request peer mid past)
    → ((octets : OctetsSent) (past : List Event) (e : Event)
    → FetchesStandFor octets past x.fetches
    → answer ≡ true
    → e.note ≡ note.Waiting peer
    → FetchesStandFor octets (e ∷ past) t)
    → (answer ≡ false → t ≡ x.fetches)
    → UnderWay rows s starved nothing d out mids
    → UnderWay rows s starved (acknowledged s.peer mid (events rows))
    (record x { watching = w; fetches = t }) out mids
acknowledged_more rows s starved x d w t out mids peer mid answer seen of stands answered told kept
    way =
    let begun : List Event = events (making rows s starved nothing) in
    let landed : Effects =
    joined nothing (noting (landings peer mid (waited_for peer mid begun))) in
    let first =
    landed_more rows s starved nothing x d w out mids peer mid (waited_for peer mid begun) seen
    (stands nothing) way in
    let second =
    fetch_more rows s starved landed (record x { watching = w }) (record x { watching = w }) t
    out mids (note.Waiting peer) answer refl refl tt told kept first in
    let same : begun ≡ events rows = events-making_nothing rows s starved in
    let last : answer ≡ is_last_request peer mid begun =
    answered (octets_sent (making rows s starved landed)) (events (making rows s starved landed))
    first.stands.fetches
    ∙ (last_request-landed rows s starved peer mid peer (waited_for peer mid begun) ∙ ap
    (is_last_request peer mid) (sym same)) in
    subst (λ (e : Effects).
    UnderWay rows s starved e (record x { watching = w; fetches = t }) out mids)
    (acknowledged_parts peer mid begun answer last
    ∙ (ap (acknowledged peer mid) same
    ∙ ap (λ (p : Peer). acknowledged p mid (events rows)) (sym of))) second

-- and that of a Reset
pub reset_more : (rows : List Row) (s : Step) (starved : Bool) (x d : Seen) (w : Watching)
    (t : Table) (out : List (Peer × List ℕ)) (mids : Mids) (peer : Peer) (mid : ℕ) (answer : Bool)
    → x ≡ d
    → s.peer ≡ peer
    → ((done : Effects) → WatchingStandsFor (making rows s starved done) x.watching
    → WatchingStandsFor (making rows s starved (joined done
    (noting (removals (waited_for peer mid (events (making rows s starved done))))))) w)
    → ((octets : OctetsSent) (past : List Event)
    → FetchesStandFor octets past x.fetches
    → answer ≡ is_last_request peer mid past)
    → ((octets : OctetsSent) (past : List Event) (e : Event)
    → FetchesStandFor octets past x.fetches
    → answer ≡ true
    → e.note ≡ note.Ceased peer
    → FetchesStandFor octets (e ∷ past) t)
    → (answer ≡ false → t ≡ x.fetches)
    → UnderWay rows s starved nothing d out mids
    → UnderWay rows s starved (reset s.peer mid (events rows))
    (record x { watching = w; fetches = t }) out mids
reset_more rows s starved x d w t out mids peer mid answer seen of stands answered told kept way =
    let begun : List Event = events (making rows s starved nothing) in
    let removed : Effects = joined nothing (noting (removals (waited_for peer mid begun))) in
    let first =
    removed_more rows s starved nothing x d w out mids (waited_for peer mid begun) seen
    (stands nothing) way in
    let second =
    fetch_more rows s starved removed (record x { watching = w }) (record x { watching = w }) t
    out mids (note.Ceased peer) answer refl refl tt told kept first in
    let same : begun ≡ events rows = events-making_nothing rows s starved in
    let last : answer ≡ is_last_request peer mid begun =
    answered (octets_sent (making rows s starved removed)) (events (making rows s starved removed))
    first.stands.fetches
    ∙ (last_request-removed rows s starved peer mid (waited_for peer mid begun) ∙ ap
    (is_last_request peer mid) (sym same)) in
    subst (λ (e : Effects).
    UnderWay rows s starved e (record x { watching = w; fetches = t }) out mids)
    (reset_parts peer mid begun answer last
    ∙ (ap (reset peer mid) same ∙ ap (λ (p : Peer). reset p mid (events rows)) (sym of))) second
