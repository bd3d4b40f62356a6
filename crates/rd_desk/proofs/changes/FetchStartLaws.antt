-- A simple registration that is done: its answer settles it, and a fetch starts after the answer
-- (RFC 9176 section 5.1).
use Rattle.std.proofs.Common.{
  ◌≡◌,
  ◌≢◌,
  ℕ,
  ◌+◌,
  ◌%◌,
  ◌^◌,
  ◌≤◌,
  Bool,
  true,
  false,
  List,
  [],
  ◌∷◌,
  length,
  codes,
  Some,
  None,
  refl,
  sym,
  ap,
  subst,
  ◌∙◌,
  arith,
}
use Rattle.std.specs.Int.{bytes_high_first}
use Rattle.std.proofs.lemmas.List.{length-append}
use Rattle.rd_base.specs.declared.peers.Peer.{Peer}
use Rattle.rd_base.specs.declared.parameters.RegParams.{RegParams}
use Rattle.message_model.specs.declared.messages.Kind4.{Kind4}
use Rattle.message_model.specs.declared.messages.Kind4.TheVariants.{Con, Non, Ack, Rst}
use Rattle.message_model.specs.Codes as codes_of
use Rattle.message_model.specs.Message.{Message, longest_token}
use Rattle.message_model.specs.Request.{queries_in}
use Rattle.message_model.specs.Spelling.{spelling}
use Rattle.message_model.specs.FetchRequests.{fetch_request}
use Rattle.record_model.specs.Parameters.{registration_values}
use Rattle.event_model.specs.declared.notes.Note.{Note}
use Rattle.event_model.specs.declared.notes.Note.TheVariants as note
use Rattle.event_model.specs.AdmissionOrder.{IsOpen}
use Rattle.event_model.specs.Events.{Event}
use Rattle.event_model.specs.Flights.{OctetsSent}
use Rattle.event_model.specs.Fetches.{next_token}
use Rattle.event_model.proofs.CounterLaws.{fetches_started-event, next_token-started}
use Rattle.event_model.proofs.NotedLaws.{event_at}
use Rattle.event_model.proofs.SameLaws.{is_same_peer-refl}
use Rattle.journal_model.specs.declared.steps.Step.{Step}
use Rattle.journal_model.specs.declared.steps.StepKind.TheVariants as step
use Rattle.journal_model.specs.declared.rows.Row.{Row}
use Rattle.journal_model.specs.Changes.{refused}
use Rattle.journal_model.specs.Commits.{settling, asking, registering_simply}
use Rattle.journal_model.specs.Effects.{
  Effects,
  Reply,
  nothing,
  joined,
  bare,
  mid_of,
  answer_kind,
  answer,
  answering,
  drawn_for,
}
use Rattle.journal_model.specs.Journal.{events}
use Rattle.journal_model.specs.Rows.{row_with, row_moment}
use Rattle.journal_model.specs.Ticks.{is_confirmable_with, octets_sent}
use Rattle.journal_model.specs.UnfinishedRow.{making}
use Rattle.exchange_core.specs.Table as exchanges
use Rattle.simple_registration.specs.declared.asks.Ask.{Ask}
use Rattle.simple_registration.specs.declared.starts.StartFault.TheVariants as fault
use Rattle.simple_registration.specs.FetchEvents.{FetchesStandFor, start_refusal}
use Rattle.simple_registration.specs.Table.{Table}
use Rattle.rd_desk.proofs.responses.FetchStepLaws.{
  registering_simply-starts,
  registering_simply-fetching,
  registering_simply-full,
  request_confirmable,
  other_kind,
  octets_sent-here,
}
use Rattle.coap_answers.specs.declared.mids.Mids.{Mids}
use Rattle.coap_answers.specs.Sendings.{IsStepOf, AreRequestsSent, Sends}
use Rattle.rd_desk.specs.calls.Desks.{Seen}
use Rattle.rd_desk.specs.parts.Responding.{asking_next}
use Rattle.rd_desk.specs.parts.UnderWay.{UnderWay}
use Rattle.rd_desk.proofs.changes.SettlingLaws.{
  StandsNoted,
  settling-refused,
  open_more,
  way_settled,
}
use Rattle.rd_desk.proofs.parts.PartLaws.{more_fetches}
use Rattle.rd_desk.proofs.parts.WayLaws.{noting_more, way_moment}

-- ---- the answer, and the request after it

-- a write is settled by 2.04 alone
abbrev pub changing : ℕ → Step → Message → Effects
changing place s m = settling place s m (record { reply = bare codes_of.changed; notes = [] })

-- the octets of the first request of a fetch that starts after events
abbrev first_octets : Step → Message → List Event → List ℕ
first_octets s m past =
    spelling (fetch_request (mid_of s.worker (s.drawn + drawn_for m.kind)) (next_token past) None)

-- what the first request does
abbrev first_asking : Step → Message → List Event → Effects
first_asking s m past =
    asking s (s.drawn + drawn_for m.kind) (next_token past) (registration_values (queries_in m)) 0
    None

-- the events with the answer
events_changed : (rows : List Row) (s : Step) (place : ℕ) (m : Message)
    → events (making rows s false (changing place s m))
    ≡ event_at (length rows) (row_moment rows s) s.word
    (note.Settled place (spelling (answer s m (bare codes_of.changed))))
    ∷ events rows
unfolding events answering
events_changed rows s place m = refl

-- no fetch starts by an answer
token_settled : (at moment word place : ℕ) (reply : List ℕ) (past : List Event)
    → next_token (event_at at moment word (note.Settled place reply) ∷ past) ≡ next_token past
token_settled at moment word place reply past =
    next_token-started (event_at at moment word (note.Settled place reply) ∷ past)
    ∙ (ap (λ (n : ℕ). bytes_high_first 8 ((n + 1) % 2 ^ 64))
    (fetches_started-event (event_at at moment word (note.Settled place reply)) past)
    ∙ sym (next_token-started past))

token_changed : (rows : List Row) (s : Step) (place : ℕ) (m : Message)
    → next_token (events (making rows s false (changing place s m))) ≡ next_token (events rows)
token_changed rows s place m =
    ap next_token (events_changed rows s place m)
    ∙ token_settled (length rows) (row_moment rows s) s.word place
    (spelling (answer s m (bare codes_of.changed))) (events rows)

-- a token has eight octets
token_length : (past : List Event) → length (next_token past) ≡ 8
unfolding next_token
token_length past = refl

token_short : (past : List Event) → length (next_token past) ≤ longest_token
token_short past = let eight = token_length past in omega (arith, eight)

-- the answer is no confirmable message
not_confirmable : (kind : Kind4) → answer_kind kind ≢ Con
not_confirmable Con e = cc
not_confirmable Non e = cc
not_confirmable Ack e = cc
not_confirmable Rst e = cc

-- the request is
asked_confirmable : (s : Step) (m : Message) (past : List Event)
    → is_confirmable_with (mid_of s.worker (s.drawn + drawn_for m.kind)) (first_octets s m past)
    ≡ true
asked_confirmable s m past =
    request_confirmable (mid_of s.worker (s.drawn + drawn_for m.kind)) (next_token past) None
    (token_short past)

-- so the row sent the request in the confirmable message with its Message ID
octets_asked : (rows : List Row) (s : Step) (place : ℕ) (m : Message)
    → length m.token ≤ longest_token
    → octets_sent
    (making rows s false (joined (changing place s m) (first_asking s m (events rows))))
    (length rows) s.peer (mid_of s.worker (s.drawn + drawn_for m.kind))
    ≡ first_octets s m (events rows)
unfolding answering
octets_asked rows s place m short =
    let mid = mid_of s.worker (s.drawn + drawn_for m.kind) in
    let reply : Message = answer s m (bare codes_of.changed) in
    let other : is_confirmable_with mid (spelling reply) ≡ false =
    other_kind mid reply short (not_confirmable m.kind) in
    octets_sent-here rows (row_with s (row_moment rows s) false
    (joined (changing place s m) (first_asking s m (events rows)))) s.peer mid
    (first_octets s m (events rows)) ((s.peer, spelling reply) ∷ []) [] refl
    (rw (is_same_peer-refl s.peer, other) refl, tt) (asked_confirmable s m (events rows))

-- and it is among what was sent
asked_sent : (s : Step) (m : Message) (past : List Event) → AreRequestsSent (first_asking s m past)
asked_sent s m past =
    let it = asked_confirmable s m past in (rw (is_same_peer-refl s.peer, it) refl, tt)

-- ---- a fetch that starts

-- the table of fetches with the fetch of this request, whatever octets were sent before
abbrev pub IsStarted : Peer → ℕ → ℕ → ℕ → RegParams → List ℕ → Table → Table → Type 0
IsStarted sender moment word mid params bytes before after =
    (octets : OctetsSent) (past : List Event) (e : Event)
    → FetchesStandFor octets past before
    → e.note ≡ note.Asked sender (next_token past) mid params 0
    → e.moment ≡ moment
    → e.word ≡ word
    → octets e.place sender mid ≡ bytes → FetchesStandFor octets (e ∷ past) after

-- it stands for the events with the answer and the request
asked_stands : (rows : List Row) (s : Step) (place : ℕ) (m : Message) (before after : Table)
    → length m.token ≤ longest_token
    → IsStarted s.peer (row_moment rows s) s.word (mid_of s.worker (s.drawn + drawn_for m.kind))
    (registration_values (queries_in m)) (first_octets s m (events rows)) before after
    → FetchesStandFor (octets_sent
    (making rows s false (joined (changing place s m) (first_asking s m (events rows)))))
    (events (making rows s false (changing place s m))) before
    → FetchesStandFor (octets_sent
    (making rows s false (joined (changing place s m) (first_asking s m (events rows)))))
    (noting_more rows s (first_asking s m (events rows)).notes
    (events (making rows s false (changing place s m)))) after
asked_stands rows s place m before after short started h =
    let mid = mid_of s.worker (s.drawn + drawn_for m.kind) in
    let n : Note =
    note.Asked s.peer (next_token (events rows)) mid (registration_values (queries_in m)) 0 in
    started (octets_sent
    (making rows s false (joined (changing place s m) (first_asking s m (events rows)))))
    (events (making rows s false (changing place s m)))
    (event_at (length rows) (row_moment rows s) s.word n) h
    (ap (λ (token : List ℕ). note.Asked s.peer token mid (registration_values (queries_in m)) 0)
    (sym (token_changed rows s place m))) refl refl (octets_asked rows s place m short)

-- the step that was answered asks for the links of its device
way_asked : (rows : List Row) (s : Step) (place : ℕ) (m : Message) (d : Seen) (t : Table)
    (out sent : List (Peer × List ℕ)) (mids_before mids : Mids)
    → length m.token ≤ longest_token
    → IsStarted s.peer (row_moment rows s) s.word (mid_of s.worker (s.drawn + drawn_for m.kind))
    (registration_values (queries_in m)) (first_octets s m (events rows)) d.fetches t
    → Sends (first_asking s m (events rows)) out sent mids_before mids
    → UnderWay rows s false (changing place s m) d out mids_before
    → UnderWay rows s false (joined (changing place s m) (first_asking s m (events rows)))
    (record d { fetches = t }) sent mids
way_asked rows s place m d t out sent mids_before mids short started sends way =
    more_fetches rows s false (changing place s m) (first_asking s m (events rows)) d d t out sent
    mids_before mids refl refl
    (λ h. asked_stands rows s place m d.fetches t short started h) (asked_sent s m (events rows))
    sends way

-- what the start of a fetch answers is what the definition says of the events before the row
record IsAskedAs (rows : List Row) (s : Step) (m : Message) (ask : Ask) (before after : Table) :
    Type 0 where
  pub idle : start_refusal s.peer (events rows) ≡ None
  pub asked : ask ≡ record { peer = s.peer; bytes = first_octets s m (events rows) }
  pub started : IsStarted s.peer (row_moment rows s) s.word
      (mid_of s.worker (s.drawn + drawn_for m.kind)) (registration_values (queries_in m))
      (first_octets s m (events rows)) before after

asked_as : (rows : List Row) (s : Step) (m : Message) (mid word moment : ℕ) (params : RegParams)
    (sender : Peer) (ask : Ask) (octets : OctetsSent) (before after : Table)
    → s.peer ≡ sender
    → s.word ≡ word
    → moment ≡ row_moment rows s
    → mid ≡ mid_of s.worker (s.drawn + drawn_for m.kind)
    → params ≡ registration_values (queries_in m)
    → FetchesStandFor octets (events rows) before
    → ((octets : OctetsSent) (past : List Event)
    → FetchesStandFor octets past before
    → start_refusal sender past ≡ None)
    → ((octets : OctetsSent) (past : List Event)
    → FetchesStandFor octets past before
    → ask
    ≡ record { peer = sender; bytes = spelling (fetch_request mid (next_token past) None) })
    → IsStarted sender moment word mid params ask.bytes before after
    → IsAskedAs rows s m ask before after
asked_as rows s m mid word moment params sender ask octets before after by fed here same given
    stands idle asks started =
    let its : ask ≡ record { peer = s.peer; bytes = first_octets s m (events rows) } =
    asks octets (events rows) stands
    ∙ (ap (λ (p : Peer). let a : Ask = record
    { peer = p; bytes = spelling (fetch_request mid (next_token (events rows)) None) } in
    a) (sym by)
    ∙ ap (λ (k : ℕ). let a : Ask = record {
      peer = s.peer;
      bytes = spelling (fetch_request k
          (next_token (events rows)) None);
    } in a) same) in
    record {
      idle = ap (λ (p : Peer). start_refusal p (events rows)) by ∙ idle octets (events rows) stands;
      asked = its;
      started =
          subst (λ (p : Peer).
          IsStarted p (row_moment rows s) s.word
          (mid_of s.worker (s.drawn + drawn_for m.kind))
          (registration_values (queries_in m)) (first_octets s m (events rows)) before
          after) (sym by)
          (subst (λ (n : ℕ).
          IsStarted sender n s.word (mid_of s.worker (s.drawn + drawn_for m.kind))
          (registration_values (queries_in m)) (first_octets s m (events rows)) before
          after) here
          (subst (λ (w : ℕ).
          IsStarted sender moment w (mid_of s.worker (s.drawn + drawn_for m.kind))
          (registration_values (queries_in m)) (first_octets s m (events rows)) before
          after) (sym fed)
          (subst (λ (k : ℕ).
          IsStarted sender moment word k (registration_values (queries_in m))
          (first_octets s m (events rows)) before after) same
          (subst (λ (given : RegParams).
          IsStarted sender moment word mid given (first_octets s m (events rows)) before
          after) given
          (subst (λ (a : Ask). IsStarted sender moment word mid params a.bytes before after) its
          started)))));
    }

-- a desk with other fetches, and then with its own again
own_fetches : (after : Seen) (t other : Table)
    → after.fetches ≡ t
    → record (record after { fetches = other }) { fetches = t } ≡ after
own_fetches after t other same =
    ap (λ (f : Table). let d : Seen = record after { fetches = f } in d) (sym same)

-- the step of a simple registration whose fetch started before its answer was sent
pub way_started : (rows : List Row) (s : Step) (place : ℕ) (m : Message) (x d after : Seen)
    (t : Table) (ask : Ask) (params : RegParams) (mid word : ℕ) (sender : Peer)
    (out between sent : List (Peer × List ℕ)) (mids_before mids_between mids : Mids)
    → x ≡ d
    → s.peer ≡ sender
    → s.word ≡ word
    → length m.token ≤ longest_token
    → params ≡ registration_values (queries_in m)
    → mid ≡ mid_of mids_before.worker (mids_before.drawn + drawn_for m.kind)
    → ((octets : OctetsSent) (past : List Event)
    → FetchesStandFor octets past x.fetches
    → start_refusal sender past ≡ None)
    → ((octets : OctetsSent) (past : List Event)
    → FetchesStandFor octets past x.fetches
    → ask
    ≡ record { peer = sender; bytes = spelling (fetch_request mid (next_token past) None) })
    → IsStarted sender x.moment word mid params ask.bytes x.fetches t → after.fetches ≡ t
    → (UnderWay rows s false nothing x out mids_before
    → UnderWay rows s false (changing place s m) (record after { fetches = x.fetches }) between
    mids_between)
    → ((notes : List Note) → Sends (asking_next ask notes) between sent mids_between mids)
    → UnderWay rows s false nothing d out mids_before
    → UnderWay rows s false (registering_simply (events rows) place s m) after sent mids
unfolding events
way_started rows s place m x d after t ask params mid word sender out between sent mids_before
    mids_between mids seen by fed short given drawn idle asks started left settles sends way =
    let here : UnderWay rows s false nothing x out mids_before =
    subst (λ (y : Seen). UnderWay rows s false nothing y out mids_before) (sym seen) way in
    let same : mid ≡ mid_of s.worker (s.drawn + drawn_for m.kind) =
    drawn
    ∙ (ap (λ (w : ℕ). mid_of w (mids_before.drawn + drawn_for m.kind)) here.worker ∙ ap (λ (n : ℕ).
    mid_of s.worker (n + drawn_for m.kind)) here.drawn) in
    let its : IsAskedAs rows s m ask x.fetches t =
    asked_as rows s m mid word x.moment params sender ask
    (octets_sent (making rows s false nothing)) x.fetches t by fed
    (way_moment rows s false nothing x out mids_before here) same given here.stands.fetches idle
    asks started in
    let asked : Sends (first_asking s m (events rows)) between sent mids_between mids =
    subst (λ (a : Ask).
    Sends (asking_next a (first_asking s m (events rows)).notes) between sent mids_between
    mids) its.asked (sends (first_asking s m (events rows)).notes) in
    subst (λ (e : Effects). UnderWay rows s false e after sent mids)
    (sym (registering_simply-starts (events rows) place s m its.idle))
    (subst (λ (y : Seen).
    UnderWay rows s false (joined (changing place s m) (first_asking s m (events rows))) y
    sent mids) (own_fetches after t x.fetches left)
    (way_asked rows s place m (record after { fetches = x.fetches }) t between sent mids_between
    mids short its.started asked (settles here)))

-- ---- the answer beside it

-- a step of a peer and of a worker
abbrev pub step_by : Peer → Mids → Step
step_by sender mids = record {
  kind = step.Tick;
  worker = mids.worker;
  handed = record { 0 = 0 };
  word = 0;
  peer = sender;
  datagram = [];
  drawn = mids.drawn;
}

-- an answer is one datagram
pub one_answer : (m : Message) (reply : Reply) (sender : Peer) (out sent : List (Peer × List ℕ))
    (mids_before mids : Mids)
    → ((s : Step) (notes : List Note)
    → IsStepOf s sender mids_before
    → Sends (answering s m reply notes) out sent mids_before mids)
    → length sent ≡ length out + 1
unfolding answering
one_answer m reply sender out sent mids_before mids sends =
    let it =
    sends (step_by sender mids_before) []
    (record { peer_is = refl; worker = refl; drawn = refl }) in
    ap (λ (xs : List (Peer × List ℕ)). length xs) it.sent
    ∙ length-append out ((sender, spelling (answer (step_by sender mids_before) m reply)) ∷ [])

-- 2.04 settles the write, whatever fetches the desk has
pub way_changed : (rows : List Row) (s : Step) (starved : Bool) (place : ℕ) (m : Message)
    (reply : Reply) (sender : Peer) (admitted : ℕ) (octets : List ℕ) (x d : Seen) (other : Table)
    (t : exchanges.Table) (out sent : List (Peer × List ℕ)) (mids_before mids : Mids)
    → x ≡ d
    → s.peer ≡ sender
    → reply ≡ bare codes_of.changed
    → IsOpen place sender m.mid admitted (events rows)
    → ((s : Step) → IsStepOf s sender mids_before → octets ≡ spelling (answer s m reply))
    → StandsNoted (note.Settled place octets) place sender m.mid admitted x.exchanges t
    → ((s : Step) (notes : List Note)
    → IsStepOf s sender mids_before
    → Sends (answering s m reply notes) out sent mids_before mids)
    → UnderWay rows s starved nothing (record d { fetches = other }) out mids_before
    → UnderWay rows s starved (changing place s m) (record x { exchanges = t; fetches = other })
    sent mids
way_changed rows s starved place m reply sender admitted octets x d other t out sent mids_before
    mids seen by said opened is stands sends way =
    subst (λ (e : Effects).
    UnderWay rows s starved e (record x { exchanges = t; fetches = other }) sent mids)
    (settling-refused place s m reply (record { reply = bare codes_of.changed; notes = [] })
    said refl)
    (way_settled rows s starved nothing place m reply sender admitted octets
    (record x { fetches = other }) (record d { fetches = other }) t out sent mids_before mids
    (ap (λ (y : Seen). let z : Seen = record y { fetches = other } in z) seen) by refl
    (open_more rows s starved nothing place sender m.mid admitted refl opened) (is s) stands
    (sends s) way)

-- ---- a fetch that does not start

-- the table is as before
pub way_kept : (rows : List Row) (s : Step) (starved : Bool) (x d : Seen) (t : Table)
    (out : List (Peer × List ℕ)) (mids : Mids)
    → x ≡ d
    → t ≡ x.fetches
    → UnderWay rows s starved nothing d out mids
    → UnderWay rows s starved nothing (record x { fetches = t }) out mids
way_kept rows s starved x d t out mids seen same way =
    subst (λ (y : Seen). UnderWay rows s starved nothing y out mids)
    (sym (ap (λ (f : Table). let y : Seen = record x { fetches = f } in y) same ∙ seen)) way

-- a fetch with the peer runs
pub settled_fetching : (rows : List Row) (s : Step) (place : ℕ) (m : Message) (x d after : Seen)
    (sender other : Peer) (out sent : List (Peer × List ℕ)) (mids_before mids : Mids)
    → x ≡ d
    → s.peer ≡ sender
    → ((octets : OctetsSent) (past : List Event)
    → FetchesStandFor octets past x.fetches
    → start_refusal sender past ≡ Some (fault.Fetching other))
    → UnderWay rows s false nothing d out mids_before
    → UnderWay rows s false
    (settling place s m (refused codes_of.service_unavailable (codes "fetching"))) after sent
    mids
    → UnderWay rows s false (registering_simply (events rows) place s m) after sent mids
unfolding events
settled_fetching rows s place m x d after sender other out sent mids_before mids seen by runs way
    done =
    let here : UnderWay rows s false nothing x out mids_before =
    subst (λ (y : Seen). UnderWay rows s false nothing y out mids_before) (sym seen) way in
    let why : start_refusal s.peer (events rows) ≡ Some (fault.Fetching other) =
    ap (λ (p : Peer). start_refusal p (events rows)) by
    ∙ runs (octets_sent (making rows s false nothing)) (events rows) here.stands.fetches in
    subst (λ (e : Effects). UnderWay rows s false e after sent mids)
    (sym (registering_simply-fetching (events rows) place s m other why)) done

-- as many run as may
pub settled_full : (rows : List Row) (s : Step) (place : ℕ) (m : Message) (x d after : Seen)
    (sender : Peer) (out sent : List (Peer × List ℕ)) (mids_before mids : Mids)
    → x ≡ d
    → s.peer ≡ sender
    → ((octets : OctetsSent) (past : List Event)
    → FetchesStandFor octets past x.fetches
    → start_refusal sender past ≡ Some fault.FullFetches)
    → UnderWay rows s false nothing d out mids_before
    → UnderWay rows s false
    (settling place s m (refused codes_of.service_unavailable (codes "fetches"))) after sent
    mids
    → UnderWay rows s false (registering_simply (events rows) place s m) after sent mids
unfolding events
settled_full rows s place m x d after sender out sent mids_before mids seen by runs way done =
    let here : UnderWay rows s false nothing x out mids_before =
    subst (λ (y : Seen). UnderWay rows s false nothing y out mids_before) (sym seen) way in
    let why : start_refusal s.peer (events rows) ≡ Some fault.FullFetches =
    ap (λ (p : Peer). start_refusal p (events rows)) by
    ∙ runs (octets_sent (making rows s false nothing)) (events rows) here.stands.fetches in
    subst (λ (e : Effects). UnderWay rows s false e after sent mids)
    (sym (registering_simply-full (events rows) place s m why)) done
