-- What a response to a fetch does, part after part: it is acknowledged, and then the next block is
-- asked for, or the body is registered, or the fetch ends (RFC 9176 section 5.1).
use Rattle.std.proofs.Common.{
  ◌≡◌,
  ℕ,
  ◌+◌,
  ◌&&◌,
  ◌||◌,
  Bool,
  true,
  false,
  List,
  [],
  ◌∷◌,
  ◌++◌,
  length,
  Option,
  Some,
  None,
  refl,
  sym,
  ap,
  ap₂,
  subst,
  ◌∙◌,
  arith,
}
use Rattle.std.specs.Prelude.{◌≢◌}
use Rattle.std.specs.List.{AllByRecursion}
use Rattle.std.proofs.lemmas.Bool.{false≢true, and_parts}
use Rattle.rd_base.specs.declared.parameters.RegParams.{RegParams}
use Rattle.rd_base.specs.declared.peers.Peer.{Peer}
use Rattle.message_model.specs.declared.blocks.Block.{Block}
use Rattle.message_model.specs.declared.messages.Kind4.{Kind4}
use Rattle.message_model.specs.declared.messages.Kind4.TheVariants.{Con, Non, Ack, Rst}
use Rattle.message_model.specs.Message.{Message, Opt}
use Rattle.message_model.specs.Responses.{block_in, tag_in, is_elsewhere}
use Rattle.history_model.specs.declared.entries.Entry.{Entry}
use Rattle.history_model.specs.declared.refusals.Refusal.{Refusal}
use Rattle.history_model.specs.declared.refusals.Refusal.TheVariants as refusal
use Rattle.history_model.specs.declared.entries.Change.TheVariants as change
use Rattle.history_model.specs.Refusals.{change_refusal}
use Rattle.history_model.specs.Versions.{Version, VersionStandsFor}
use Rattle.event_model.specs.declared.notes.Note.{Note}
use Rattle.event_model.specs.declared.notes.Note.TheVariants as note
use Rattle.event_model.specs.Same.{is_same_peer}
use Rattle.event_model.specs.Events.{Event, noted}
use Rattle.event_model.specs.Flights.{OctetsSent}
use Rattle.event_model.specs.Fetches.{
  Request,
  is_fetching,
  last_request,
  gathered,
  collected,
  request_of,
}
use Rattle.event_model.proofs.NotedLaws.{event_at}
use Rattle.event_model.proofs.SameLaws.{is_same_peer-refl}
use Rattle.journal_model.specs.declared.steps.Step.{Step}
use Rattle.journal_model.specs.declared.rows.Row.{Row}
use Rattle.journal_model.specs.Changes.{
  Outcome,
  BodyRead,
  bad_body,
  good_body,
  refused_as,
  body_read,
  entry_of_step,
  entered_unless,
  registered_links,
  registration,
  created_at,
  number_after,
}
use Rattle.journal_model.specs.Effects.{Effects, nothing, joined, noting, mid_of, empty_message}
use Rattle.journal_model.specs.Journal.{events, entries}
use Rattle.journal_model.specs.Responses.{
  strange,
  acknowledgement,
  ends_fetch,
  completed,
  more_follow,
  gathering,
  response_taken,
  response_to,
  response_to_request,
  response_effects,
  response_use,
}
use Rattle.journal_model.specs.Responses as responses
use Rattle.journal_model.specs.Rows.{row_with, row_moment}
use Rattle.journal_model.specs.Ticks.{is_confirmable_with, octets_sent}
use Rattle.journal_model.specs.UnfinishedRow.{making}
use Rattle.journal_model.proofs.RowEquations.{events-row}
use Rattle.journal_model.proofs.UnfinishedRowLaws.{events-making_nothing}
use Rattle.simple_registration.specs.declared.asks.Ask.{Ask}
use Rattle.simple_registration.specs.declared.hearing.Heard.{Heard}
use Rattle.simple_registration.specs.declared.hearing.Heard.TheVariants as heard
use Rattle.simple_registration.specs.Responses.{heard_part, heard_block, heard_by}
use Rattle.simple_registration.specs.Table.{Table, belongs_among}
use Rattle.simple_registration.specs.FetchEvents.{
  FetchesStandFor,
  has_names_of_request,
  heard_after,
}
use Rattle.simple_registration.specs.Sendable.{IsSendable}
use Rattle.simple_registration.proofs.CallLaws.{belongs}
use Rattle.rd_desk.proofs.responses.FetchStepLaws.{
  other_kind,
  octets_sent-here,
  sendable_confirmable,
}
use Rattle.coap_answers.specs.declared.mids.Mids.{Mids}
use Rattle.coap_answers.specs.Sendings.{Sends, AreRequestsSent}
use Rattle.rd_desk.specs.declared.write.outcomes.Outcome.{Outcome as Planned}
use Rattle.rd_desk.specs.calls.Desks.{Seen}
use Rattle.rd_desk.specs.parts.Outcomes.{IsPlanned}
use Rattle.rd_desk.specs.parts.Responding.{asking_next, unless_starved, response_heard}
use Rattle.rd_desk.specs.parts.UnderWay.{UnderWay}
use Rattle.rd_desk.proofs.parts.EffectLaws.{joined-nothing, joined-assoc}
use Rattle.rd_desk.proofs.parts.EmptyMessageLaws.{fetch_more}
use Rattle.rd_desk.proofs.parts.MakingLaws.{entries-making_nothing}
use Rattle.rd_desk.proofs.parts.PartLaws.{more_fetches, only_silent}
use Rattle.rd_desk.proofs.parts.WayLaws.{noting_more, way_moment}
use Rattle.rd_desk.proofs.responses.FetchingLaws.{Next, next_of}

-- ---- what is sent

-- neither notes anything
strange-notes : (s : Step) (m : Message) (kind : Kind4) → (strange s m kind).notes ≡ []
strange-notes s m Con = refl
strange-notes s m Non = refl
strange-notes s m Ack = refl
strange-notes s m Rst = refl

pub acknowledgement-notes : (s : Step) (m : Message) (kind : Kind4)
    → (acknowledgement s m kind).notes ≡ []
acknowledgement-notes s m Con = refl
acknowledgement-notes s m Non = refl
acknowledgement-notes s m Ack = refl
acknowledgement-notes s m Rst = refl

-- an acknowledgement is no confirmable message
acknowledgement-other : (s : Step) (m : Message) (kind : Kind4) (mid : ℕ)
    → AllByRecursion (λ d. (is_same_peer d.0 s.peer && is_confirmable_with mid d.1) ≡ false)
    (acknowledgement s m kind).sent
acknowledgement-other s m Con mid = (
  and_false (is_same_peer s.peer s.peer)
      (other_kind mid (empty_message Ack m.mid) (omega arith) (λ e. absurd cc)),
  tt,
)
  where
    and_false : (a : Bool) {b : Bool} → b ≡ false → (a && b) ≡ false
    and_false true h = h
    and_false false h = refl
acknowledgement-other s m Non mid = tt
acknowledgement-other s m Ack mid = tt
acknowledgement-other s m Rst mid = tt

-- ---- it is to no fetch

pub way_strange : (rows : List Row) (s : Step) (starved : Bool) (m : Message) (d : Seen)
    (out sent : List (Peer × List ℕ)) (mids_before mids : Mids)
    → responses.fetch_of s m (events rows) ≡ None
    → Sends (strange s m m.kind) out sent mids_before mids
    → UnderWay rows s starved nothing d out mids_before
    → UnderWay rows s starved (response_effects rows (row_moment rows s) s m) d sent mids
unfolding response_effects
way_strange rows s starved m d out sent mids_before mids none sends way =
    subst (λ (o : Option Request).
    UnderWay rows s starved (response_to_request o rows (row_moment rows s) s m) d sent
    mids) (sym none)
    (only_silent rows s starved (strange s m m.kind) d out sent mids_before mids
    (strange-notes s m m.kind) sends way)

-- ---- it is to one

-- the table of a desk whose step begins stands for the events before the row
pub stands_begun : (rows : List Row) (s : Step) (starved : Bool) (x d : Seen)
    (out : List (Peer × List ℕ)) (mids : Mids)
    → x ≡ d
    → UnderWay rows s starved nothing d out mids
    → FetchesStandFor (octets_sent (making rows s starved nothing)) (events rows) x.fetches
stands_begun rows s starved x d out mids seen way =
    subst (λ (es : List Event).
    FetchesStandFor (octets_sent (making rows s starved nothing)) es x.fetches)
    (events-making_nothing rows s starved)
    (subst (λ (y : Seen).
    FetchesStandFor (octets_sent (making rows s starved nothing))
    (events (making rows s starved nothing)) y.fetches) (sym seen) way.stands.fetches)

-- which belongs to its last request
pub request_there : (rows : List Row) (s : Step) (starved : Bool) (m : Message) (sender : Peer)
    (x d : Seen) (out : List (Peer × List ℕ)) (mids : Mids)
    → x ≡ d
    → belongs_among sender m x.fetches.fetches ≡ true
    → UnderWay rows s starved nothing d out mids
    → (request : Request) × (request_of (last_request sender (events rows)) ≡ Some request)
request_there rows s starved m sender x d out mids seen among way =
    by (request_of (last_request sender (events rows)))
    (and_parts (is_fetching sender (events rows))
    (has_names_of_request m (request_of (last_request sender (events rows))))
    (sym (belongs (octets_sent (making rows s starved nothing)) (events rows) x.fetches.fetches
    x.fetches.started sender m (stands_begun rows s starved x d out mids seen way))
    ∙ among)).1
  where
    by : (o : Option Request)
        → has_names_of_request m o ≡ true
        → (request : Request) × (o ≡ Some request)
    by None h = absurd (false≢true h)
    by (Some request) h = (request, refl)

pub way_answered : (rows : List Row) (s : Step) (starved : Bool) (m : Message) (request : Request)
    (d : Seen) (out : List (Peer × List ℕ)) (mids : Mids)
    → responses.fetch_of s m (events rows) ≡ Some request
    → UnderWay rows s starved (unless_starved starved (joined (acknowledgement s m m.kind)
    (response_to rows (row_moment rows s) s m request))) d out mids
    → UnderWay rows s starved (response_heard starved rows s m) d out mids
unfolding response_effects
way_answered rows s starved m request d out mids some way =
    subst (λ (o : Option Request).
    UnderWay rows s starved
    (unless_starved starved (response_to_request o rows (row_moment rows s) s m)) d out
    mids) (sym some) way

-- how a table of fetches answers a response
abbrev pub Answers : Table → ℕ → Peer → Message → Heard → Type 0
Answers t mid peer m r =
    (octets : OctetsSent) (past : List Event) (request : Request)
    → FetchesStandFor octets past t
    → request_of (last_request peer past) ≡ Some request
    → r ≢ heard.Starved
    → r ≡ heard_after mid peer m request past

-- it is answered as by the events before the row
pub heard_here : (rows : List Row) (s : Step) (starved : Bool) (x d : Seen)
    (out : List (Peer × List ℕ)) (mids : Mids) (sender : Peer) (m : Message) (mid : ℕ)
    (request : Request) (r : Heard)
    → x ≡ d
    → s.peer ≡ sender
    → mid ≡ mid_of mids.worker mids.drawn
    → request_of (last_request sender (events rows)) ≡ Some request
    → r ≢ heard.Starved
    → Answers x.fetches mid sender m r
    → UnderWay rows s starved nothing d out mids
    → r ≡ heard_after (mid_of s.worker s.drawn) s.peer m request (events rows)
heard_here rows s starved x d out mids sender m mid request r seen of drawn last some answers way =
    answers (octets_sent (making rows s starved nothing)) (events rows) request
    (stands_begun rows s starved x d out mids seen way) last some
    ∙ (ap (λ (p : Peer). heard_after mid p m request (events rows)) (sym of)
    ∙ ap (λ n. heard_after n s.peer m request (events rows))
    (drawn ∙ ap₂ (λ w n. mid_of w n) way.worker way.drawn))

-- the next block of a body is asked for
abbrev pub next_effects : Step → Message → Request → Block → Ask → Effects
next_effects s m request b ask =
    asking_next ask (note.Gathered s.peer m.payload (tag_in m)
    ∷ note.Asked s.peer request.token (mid_of s.worker s.drawn) request.params (b.num + 1)
    ∷ [])

-- what is done for the answer
abbrev pub done_for : Heard → Option Block → List Row → Step → Message → Request → Effects
done_for heard.Passed b rows s m request = nothing
done_for (heard.Next ask) None rows s m request = nothing
done_for (heard.Next ask) (Some b) rows s m request = next_effects s m request b ask
done_for (heard.Whole params body) b rows s m request =
    completed rows (row_moment rows s) s request body
done_for heard.Ended b rows s m request = noting (note.Ceased s.peer ∷ [])
done_for heard.Starved b rows s m request = nothing

-- that is what a response does
response_done : (rows : List Row) (s : Step) (m : Message) (request : Request)
    → done_for (heard_after (mid_of s.worker s.drawn) s.peer m request (events rows)) (block_in m)
    rows s m request
    ≡ response_to rows (row_moment rows s) s m request
response_done rows s m request =
    by (is_elsewhere (block_in m) (length (collected s.peer (events rows))))
    (ends_fetch m (gathered s.peer (events rows)) (length (collected s.peer (events rows))))
  where
    body : List ℕ
    body = collected s.peer (events rows) ++ m.payload

    part : (more : Bool) (b : Block)
        → done_for
        (heard_part more b (mid_of s.worker s.drawn) s.peer request.token request.params body)
        (Some b) rows s m request
        ≡ gathering more (Some b) rows (row_moment rows s) s m request
    part true b = refl
    part false b = refl

    block : (o : Option Block)
        → done_for
        (heard_block o (mid_of s.worker s.drawn) s.peer request.token request.params body) o
        rows s m request
        ≡ gathering (more_follow o) o rows (row_moment rows s) s m request
    block None = refl
    block (Some b) = part b.more b

    by : (elsewhere ends : Bool)
        → done_for (heard_by elsewhere ends
        (heard_block (block_in m) (mid_of s.worker s.drawn) s.peer request.token
        request.params body)) (block_in m) rows s m request
        ≡ response_taken (response_use elsewhere ends) rows (row_moment rows s) s m request
    by true ends = refl
    by false true = refl
    by false false = block (block_in m)

pub response_is : (rows : List Row) (s : Step) (m : Message) (request : Request) (r : Heard)
    → r ≡ heard_after (mid_of s.worker s.drawn) s.peer m request (events rows)
    → done_for r (block_in m) rows s m request ≡ response_to rows (row_moment rows s) s m request
response_is rows s m request r is =
    ap (λ (h : Heard). done_for h (block_in m) rows s m request) is ∙ response_done rows s m request

-- first it is acknowledged
pub way_acknowledged : (rows : List Row) (s : Step) (starved : Bool) (m : Message) (d : Seen)
    (out sent : List (Peer × List ℕ)) (mids : Mids)
    → Sends (acknowledgement s m m.kind) out sent mids mids
    → UnderWay rows s starved nothing d out mids
    → UnderWay rows s starved (acknowledgement s m m.kind) d sent mids
way_acknowledged rows s starved m d out sent mids sends way =
    only_silent rows s starved (acknowledgement s m m.kind) d out sent mids mids
    (acknowledgement-notes s m m.kind) sends way

-- what leaves the table leaves the desk
pub as_before : (rows : List Row) (s : Step) (starved : Bool) (x d : Seen) (t : Table)
    (out : List (Peer × List ℕ)) (mids : Mids)
    → x ≡ d
    → t ≡ x.fetches
    → UnderWay rows s starved nothing d out mids
    → UnderWay rows s starved nothing (record x { fetches = t }) out mids
as_before rows s starved x d t out mids seen kept way =
    subst (λ (y : Seen). UnderWay rows s starved nothing y out mids)
    (sym (ap (λ (u : Table). record x { fetches = u }) kept ∙ seen)) way

-- it is skipped
pub way_passed : (rows : List Row) (s : Step) (starved : Bool) (m : Message) (request : Request)
    (x d : Seen) (t : Table) (out sent : List (Peer × List ℕ)) (mids : Mids)
    → x ≡ d
    → t ≡ x.fetches
    → heard.Passed ≡ heard_after (mid_of s.worker s.drawn) s.peer m request (events rows)
    → Sends (acknowledgement s m m.kind) out sent mids mids
    → UnderWay rows s starved nothing d out mids
    → UnderWay rows s starved
    (joined (acknowledgement s m m.kind) (response_to rows (row_moment rows s) s m request))
    (record x { fetches = t }) sent mids
way_passed rows s starved m request x d t out sent mids seen kept is sends way =
    subst (λ (e : Effects). UnderWay rows s starved e (record x { fetches = t }) sent mids)
    (sym (joined-nothing (acknowledgement s m m.kind))
    ∙ ap (joined (acknowledgement s m m.kind)) (response_is rows s m request heard.Passed is))
    (subst (λ (y : Seen). UnderWay rows s starved (acknowledgement s m m.kind) y sent mids)
    (sym (ap (λ (u : Table). record x { fetches = u }) kept ∙ seen))
    (way_acknowledged rows s starved m d out sent mids sends way))

-- the fetch ends
pub way_ceased : (rows : List Row) (s : Step) (starved : Bool) (done : Effects) (sender : Peer)
    (x d : Seen) (t : Table) (out : List (Peer × List ℕ)) (mids : Mids)
    → x ≡ d
    → s.peer ≡ sender
    → ((octets : OctetsSent) (past : List Event) (e : Event)
    → FetchesStandFor octets past x.fetches
    → e.note ≡ note.Ceased sender
    → FetchesStandFor octets (e ∷ past) t)
    → UnderWay rows s starved done d out mids
    → UnderWay rows s starved (joined done (noting (note.Ceased s.peer ∷ [])))
    (record x { fetches = t }) out mids
way_ceased rows s starved done sender x d t out mids seen of ends way =
    fetch_more rows s starved done x d t out mids (note.Ceased s.peer) true seen refl tt
    (λ octets past e h some is. ends octets past e h (is ∙ ap (λ (p : Peer). note.Ceased p) of))
    (λ no. absurd (false≢true (sym no))) way

pub way_ended : (rows : List Row) (s : Step) (starved : Bool) (m : Message) (request : Request)
    (sender : Peer) (x d : Seen) (t : Table) (out sent : List (Peer × List ℕ)) (mids : Mids)
    → x ≡ d
    → s.peer ≡ sender
    → ((octets : OctetsSent) (past : List Event) (e : Event)
    → FetchesStandFor octets past x.fetches
    → e.note ≡ note.Ceased sender
    → FetchesStandFor octets (e ∷ past) t)
    → heard.Ended ≡ heard_after (mid_of s.worker s.drawn) s.peer m request (events rows)
    → Sends (acknowledgement s m m.kind) out sent mids mids
    → UnderWay rows s starved nothing d out mids
    → UnderWay rows s starved
    (joined (acknowledgement s m m.kind) (response_to rows (row_moment rows s) s m request))
    (record x { fetches = t }) sent mids
way_ended rows s starved m request sender x d t out sent mids seen of ends is sends way =
    subst (λ (e : Effects).
    UnderWay rows s starved (joined (acknowledgement s m m.kind) e)
    (record x { fetches = t }) sent mids) (response_is rows s m request heard.Ended is)
    (way_ceased rows s starved (acknowledgement s m m.kind) sender x d t sent mids seen of ends
    (way_acknowledged rows s starved m d out sent mids sends way))

-- the next block is asked for: the request is among what is sent
request_sent : (rows : List Row) (s : Step) (m : Message) (request : Request) (b : Block)
    (ask : Ask)
    → ask.peer ≡ s.peer
    → is_confirmable_with (mid_of s.worker s.drawn) ask.bytes ≡ true
    → AreRequestsSent (next_effects s m request b ask)
request_sent rows s m request b ask to it =
    let same : is_same_peer ask.peer s.peer ≡ true =
    ap (λ (p : Peer). is_same_peer p s.peer) to ∙ is_same_peer-refl s.peer in
    (tt, (both same it, tt))
  where
    both : {a b : Bool} → a ≡ true → b ≡ true → ((a && b) || false) ≡ true
    both h g = rw (h, g) refl

-- and it is what the row sent
octets_asked : (rows : List Row) (s : Step) (starved : Bool) (m : Message) (request : Request)
    (b : Block) (ask : Ask)
    → ask.peer ≡ s.peer
    → is_confirmable_with (mid_of s.worker s.drawn) ask.bytes ≡ true
    → octets_sent (making rows s starved
    (joined (acknowledgement s m m.kind) (next_effects s m request b ask))) (length rows)
    s.peer (mid_of s.worker s.drawn)
    ≡ ask.bytes
octets_asked rows s starved m request b ask to it =
    octets_sent-here rows (row_with s (row_moment rows s) starved
    (joined (acknowledgement s m m.kind) (next_effects s m request b ask))) s.peer
    (mid_of s.worker s.drawn) ask.bytes
    (acknowledgement s m m.kind).sent []
    (ap (λ (p : Peer). (acknowledgement s m m.kind).sent ++ (p, ask.bytes) ∷ []) to)
    (acknowledgement-other s m m.kind (mid_of s.worker s.drawn)) it

-- what a table of fetches then stands for
abbrev pub GoesOn : Table → Table → ℕ → ℕ → ℕ → Peer → Message → Heard → Type 0
GoesOn t u moment word mid peer m r =
    (octets : OctetsSent) (past : List Event) (request : Request) (block : Block) (g e : Event)
    (ask : Ask)
    → FetchesStandFor octets past t
    → request_of (last_request peer past) ≡ Some request
    → block_in m ≡ Some block
    → r ≡ heard.Next ask
    → g.note ≡ note.Gathered peer m.payload (tag_in m)
    → e.note ≡ note.Asked peer request.token mid request.params (block.num + 1)
    → e.moment ≡ moment
    → e.word ≡ word
    → octets e.place peer mid ≡ ask.bytes → FetchesStandFor octets (e ∷ g ∷ past) u

-- a row that notes nothing so far shows the events before it
events-silent : (rows : List Row) (s : Step) (starved : Bool) (e : Effects)
    → e.notes ≡ []
    → events (making rows s starved e) ≡ events rows
events-silent rows s starved e none =
    events-row rows (row_with s (row_moment rows s) starved e)
    ∙ ap (λ (ns : List Note). noted (length rows) (row_moment rows s) s.word ns (events rows)) none

next_told : (rows : List Row) (s : Step) (starved : Bool) (m : Message) (request : Request)
    (ask : Ask) (b : Block) (t u : Table) (sender : Peer) (moment word mid : ℕ)
    → s.peer ≡ sender
    → s.word ≡ word
    → moment ≡ row_moment rows s
    → mid ≡ mid_of s.worker s.drawn
    → request_of (last_request sender (events rows)) ≡ Some request
    → block_in m ≡ Some b
    → ask.peer ≡ s.peer
    → is_confirmable_with (mid_of s.worker s.drawn) ask.bytes ≡ true
    → GoesOn t u moment word mid sender m (heard.Next ask)
    → FetchesStandFor (octets_sent (making rows s starved
    (joined (acknowledgement s m m.kind) (next_effects s m request b ask))))
    (events (making rows s starved (acknowledgement s m m.kind))) t
    → FetchesStandFor (octets_sent (making rows s starved
    (joined (acknowledgement s m m.kind) (next_effects s m request b ask))))
    (noting_more rows s (next_effects s m request b ask).notes
    (events (making rows s starved (acknowledgement s m m.kind)))) u
next_told rows s starved m request ask b t u sender moment word mid of with at drawn last block to
    it goes h =
    let octets : OctetsSent =
    octets_sent
    (making rows s starved (joined (acknowledgement s m m.kind) (next_effects s m request b
    ask))) in
    let past : List Event = events (making rows s starved (acknowledgement s m m.kind)) in
    let gathered : Event =
    event_at (length rows) (row_moment rows s) s.word
    (note.Gathered s.peer m.payload (tag_in m)) in
    let asked : Event =
    event_at (length rows) (row_moment rows s) s.word
    (note.Asked s.peer request.token (mid_of s.worker s.drawn) request.params (b.num + 1))
    in
    goes octets past request b gathered asked ask h
    (ap (λ (es : List Event). request_of (last_request sender es))
    (events-silent rows s starved (acknowledgement s m m.kind)
    (acknowledgement-notes s m m.kind))
    ∙ last)
    block refl (ap (λ (p : Peer). note.Gathered p m.payload (tag_in m)) of)
    (ap₂ (λ (p : Peer) (n : ℕ). note.Asked p request.token n request.params (b.num + 1)) of
    (sym drawn)) (sym at) with
    (ap₂ (λ (p : Peer) (n : ℕ). octets (length rows) p n) (sym of) drawn
    ∙ octets_asked rows s starved m request b ask to it)

pub way_next : (rows : List Row) (s : Step) (starved : Bool) (m : Message) (request : Request)
    (ask : Ask) (sender : Peer) (word mid : ℕ) (x d : Seen) (t : Table)
    (out between sent : List (Peer × List ℕ)) (mids_before mids : Mids)
    → x ≡ d
    → s.peer ≡ sender
    → s.word ≡ word
    → mid ≡ mid_of mids_before.worker mids_before.drawn
    → request_of (last_request sender (events rows)) ≡ Some request
    → IsSendable mid ask.bytes
    → heard.Next ask ≡ heard_after (mid_of s.worker s.drawn) s.peer m request (events rows)
    → GoesOn x.fetches t x.moment word mid sender m (heard.Next ask)
    → Sends (acknowledgement s m m.kind) out between mids_before mids_before
    → ((notes : List Note) → Sends (asking_next ask notes) between sent mids_before mids)
    → UnderWay rows s starved nothing d out mids_before
    → UnderWay rows s starved
    (joined (acknowledgement s m m.kind) (response_to rows (row_moment rows s) s m request))
    (record x { fetches = t }) sent mids
way_next rows s starved m request ask sender word mid x d t out between sent mids_before mids seen
    of with drawn last sendable is goes acknowledges asks way =
    let next : Next (mid_of s.worker s.drawn) s.peer m request ask =
    next_of (mid_of s.worker s.drawn) s.peer m request (events rows) ask is in
    let to : ask.peer ≡ s.peer = ap (λ (a : Ask). a.peer) next.ask_is in
    let drawn_here : mid ≡ mid_of s.worker s.drawn =
    drawn ∙ ap₂ (λ w n. mid_of w n) way.worker way.drawn in
    let it : is_confirmable_with (mid_of s.worker s.drawn) ask.bytes ≡ true =
    ap (λ n. is_confirmable_with n ask.bytes) (sym drawn_here)
    ∙ sendable_confirmable mid ask.bytes sendable in
    let moment : x.moment ≡ row_moment rows s =
    ap (λ (y : Seen). y.moment) seen
    ∙ way_moment rows s starved nothing d out mids_before way in
    let e : Effects = next_effects s m request next.block ask in
    let made : e ≡ response_to rows (row_moment rows s) s m request =
    ap (λ (o : Option Block). done_for (heard.Next ask) o rows s m request) (sym next.is)
    ∙ response_is rows s m request (heard.Next ask) is in
    subst (λ (f : Effects).
    UnderWay rows s starved (joined (acknowledgement s m m.kind) f)
    (record x { fetches = t }) sent mids) made
    (more_fetches rows s starved (acknowledgement s m m.kind) e x d t between sent mids_before mids
    seen refl
    (λ h. next_told rows s starved m request ask next.block x.fetches t sender x.moment word mid of
    with moment drawn_here last next.is to it goes h)
    (request_sent rows s m request next.block ask to it) (asks e.notes)
    (way_acknowledged rows s starved m d out between mids_before acknowledges way))

-- ---- the body is whole

-- the entry of a registration has the moment of the row
pub registration-moment : (history : List Entry) (moment : ℕ) (s : Step) (params : RegParams)
    (body : List ℕ) (options : List Opt) (further rest : List Note) (entry : Entry)
    → (registration history moment s params body options further).notes ≡ note.Entered entry ∷ rest
    → entry.moment.0 ≡ moment
unfolding registration
registration-moment history moment s params body options further rest entry is =
    by (body_read body) is
  where
    refused : (why : Refusal)
        → (refused_as why).notes ≡ note.Entered entry ∷ rest
        → entry.moment.0 ≡ moment
    refused refusal.Registration h = absurd cc
    refused refusal.Registrations h = absurd cc
    refused refusal.Text h = absurd cc
    refused refusal.Entries h = absurd cc

    made : (what : Entry) (why : Option Refusal) (done : Outcome)
        → what.moment.0 ≡ moment
        → (entered_unless why what done).notes ≡ note.Entered entry ∷ rest
        → entry.moment.0 ≡ moment
    made what None done at h =
        let same : what ≡ entry = cc in ap (λ (e : Entry). e.moment.0) (sym same) ∙ at
    made what (Some why) done at h = refused why h

    by : (b : BodyRead)
        → (registered_links history moment s params options further b).notes
        ≡ note.Entered entry ∷ rest
        → entry.moment.0 ≡ moment
    by (bad_body payload) h = absurd cc
    by (good_body links) h =
        let what : Entry = entry_of_step moment s (change.Register params links) in
        made what (change_refusal 0 history what)
        (record {
          reply = created_at (number_after params.name moment (history ++ what ∷ []))
              options;
          notes = further;
        }) refl h

-- what is noted of it, and then the end
pub completed_parts : (rows : List Row) (s : Step) (first : Effects) (request : Request)
    (params : RegParams) (body : List ℕ)
    → request.params ≡ params
    → joined (joined first
    (noting (registration (entries rows) (row_moment rows s) s params body [] []).notes))
    (noting (note.Ceased s.peer ∷ []))
    ≡ joined first (completed rows (row_moment rows s) s request body)
completed_parts rows s first request params body same =
    joined-assoc first
    (noting (registration (entries rows) (row_moment rows s) s params body [] []).notes)
    (noting (note.Ceased s.peer ∷ []))
    ∙ ap (λ (p : RegParams).
    joined first
    (noting ((registration (entries rows) (row_moment rows s) s p body [] []).notes
    ++ note.Ceased s.peer
    ∷ []))) (sym same)

-- all of it, where the version with its entry is planned, its entry is made, and then the fetch
-- ends
pub way_completed : (rows : List Row) (s : Step) (starved : Bool) (m : Message) (request : Request)
    (params : RegParams) (body : List ℕ) (sender : Peer) (v : Version) (o : Planned)
    (x d y z : Seen) (t : Table)
    (out sent : List (Peer × List ℕ)) (mids : Mids)
    → x ≡ d
    → s.peer ≡ sender
    → request.params ≡ params
    → v ≡ x.version
    → ((history : List Entry) (step : Step) (further : List Note)
    → VersionStandsFor 0 history v
    → step.peer ≡ sender
    → IsPlanned history v.swept further
    (registration history x.moment step params body [] further) o)
    → ((done : Effects) (meant : Outcome)
    → done.notes ≡ []
    → ((entry : Entry)
    → meant.notes ≡ note.Entered entry ∷ []
    → entry.moment.0 ≡ row_moment rows s)
    → IsPlanned (entries rows) d.version.swept [] meant o
    → UnderWay rows s starved done d sent mids
    → UnderWay rows s starved (joined done (noting meant.notes)) y sent mids)
    → z ≡ y
    → ((octets : OctetsSent) (past : List Event) (e : Event)
    → FetchesStandFor octets past z.fetches
    → e.note ≡ note.Ceased sender
    → FetchesStandFor octets (e ∷ past) t)
    → Sends (acknowledgement s m m.kind) out sent mids mids
    → UnderWay rows s starved nothing d out mids
    → UnderWay rows s starved
    (joined (acknowledgement s m m.kind) (completed rows (row_moment rows s) s request body))
    (record z { fetches = t }) sent mids
way_completed rows s starved m request params body sender v o x d y z t out sent mids seen of same
    version planned registers seen_again ends sends way =
    let here : UnderWay rows s starved nothing x out mids =
    subst (λ (u : Seen). UnderWay rows s starved nothing u out mids) (sym seen) way in
    let moment : x.moment ≡ row_moment rows s = way_moment rows s starved nothing x out mids here in
    let stands : VersionStandsFor 0 (entries rows) v =
    subst (VersionStandsFor 0 (entries rows)) (sym version)
    (subst (λ (es : List Entry). VersionStandsFor 0 es x.version) (entries-making_nothing rows s
    starved) here.stands.directory.history) in
    let meant : Outcome = registration (entries rows) (row_moment rows s) s params body [] [] in
    let plan : IsPlanned (entries rows) d.version.swept [] meant o =
    subst (λ (u : Version). IsPlanned (entries rows) u.swept [] meant o)
    (version ∙ ap (λ (u : Seen). u.version) seen)
    (subst (λ (at : ℕ). IsPlanned (entries rows) v.swept [] (registration (entries rows) at s params
    body [] []) o) moment (planned (entries rows) s [] stands of)) in
    subst (λ (e : Effects). UnderWay rows s starved e (record z { fetches = t }) sent mids)
    (completed_parts rows s (acknowledgement s m m.kind) request params body same)
    (way_ceased rows s starved (joined (acknowledgement s m m.kind) (noting meant.notes)) sender z y
    t sent mids seen_again of ends
    (registers (acknowledgement s m m.kind) meant (acknowledgement-notes s m m.kind)
    (λ entry is.
    registration-moment (entries rows) (row_moment rows s) s params body [] [] [] entry is)
    plan
    (way_acknowledged rows s starved m d out sent mids sends way)))

-- the whole body
pub way_whole : (rows : List Row) (s : Step) (starved : Bool) (m : Message) (request : Request)
    (params : RegParams) (body : List ℕ) (d : Seen) (out : List (Peer × List ℕ)) (mids : Mids)
    → heard.Whole params body ≡ heard_after (mid_of s.worker s.drawn) s.peer m request (events rows)
    → UnderWay rows s starved (unless_starved starved (joined (acknowledgement s m m.kind)
    (completed rows (row_moment rows s) s request body))) d out mids
    → UnderWay rows s starved (unless_starved starved (joined (acknowledgement s m m.kind)
    (response_to rows (row_moment rows s) s m request))) d out mids
way_whole rows s starved m request params body d out mids is way =
    subst (λ (e : Effects).
    UnderWay rows s starved (unless_starved starved (joined (acknowledgement s m m.kind) e))
    d out mids) (response_is rows s m request (heard.Whole params body) is) way
