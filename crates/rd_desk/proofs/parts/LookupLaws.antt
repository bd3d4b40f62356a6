-- What a lookup does that the journal takes part in, part by part (RFC 7959 section 2.4, RFC 7641
-- sections 3 and 4.1).
use Rattle.std.proofs.Common.{
  ◌≡◌,
  ℕ,
  ◌+◌,
  ◌%◌,
  ◌^◌,
  ◌||◌,
  ◌==◌,
  Bool,
  true,
  false,
  List,
  [],
  ◌∷◌,
  ◌++◌,
  length,
  Option,
  Some,
  None,
  is_some,
  Result,
  IfOk,
  IfSome,
  option_map,
  option_and_then,
  refl,
  sym,
  ap,
  subst,
  ◌∙◌,
  append_assoc,
  arith,
  if◌then◌else◌,
}
use Rattle.std.specs.Prelude.{count_by}
use Rattle.history_model.specs.Listing.{tag}
use Rattle.journal_model.specs.Looks.{not_live}
use Rattle.journal_model.specs.Sought.{Sought, sought_in, body, answer_of, answer_for}
use Rattle.std.specs.Arc.{arc_value}
use Rattle.std.specs.List.{list_any}
use Rattle.std.proofs.lemmas.Bool.{false≢true}
use Rattle.std.proofs.lemmas.Result.{IfOk-weaker}
use Rattle.rd_base.specs.declared.out_of_memory.Starved.{Starved}
use Rattle.rd_base.specs.declared.peers.Peer.{Peer}
use Rattle.rd_base.specs.declared.queries.Query.{Query}
use Rattle.message_model.specs.declared.blocks.Block.{Block}
use Rattle.message_model.specs.Blocks.{block_of}
use Rattle.message_model.specs.Message.{Message}
use Rattle.message_model.specs.Request.{observe_in}
use Rattle.message_model.specs.RequestKey.{key_in}
use Rattle.history_model.specs.declared.entries.Entry.{Entry}
use Rattle.history_model.specs.Versions.{Version, VersionStandsFor}
use Rattle.event_model.specs.declared.notes.Note.{Note}
use Rattle.event_model.specs.declared.notes.Note.TheVariants as note
use Rattle.event_model.specs.declared.notes.Observer.{Observer}
use Rattle.event_model.specs.Events.{Event, noted}
use Rattle.event_model.specs.KeptAnswers.{Answer, KeptAnswer, kept_answer}
use Rattle.event_model.specs.Observers.{
  observers,
  is_observer,
  is_forming,
  has_room_for,
  observe_value,
  observe_values_sent,
}
use Rattle.event_model.proofs.AsideTables.{about_uploads}
use Rattle.event_model.proofs.CounterLaws.{observe_values_sent-noted, observe_value-sent}
use Rattle.event_model.proofs.NotedLaws.{event_at}
use Rattle.journal_model.specs.declared.steps.Step.{Step}
use Rattle.journal_model.specs.declared.rows.Row.{Row}
use Rattle.journal_model.specs.Bodies.{part_reply, body_reply, is_long}
use Rattle.journal_model.specs.Effects.{
  Effects,
  Reply,
  nothing,
  joined,
  noting,
  answering,
  without_memory,
}
use Rattle.journal_model.specs.Journal.{events, entries}
use Rattle.journal_model.specs.Lookups.{
  block_now,
  block_of_kept,
  block_of_found,
  found_now,
  later_block,
  removal,
  addition,
  without,
  observer_of,
  keeping,
  observed_if,
  observed,
  unobserved,
  first_block_effects,
  observation_effects,
  block_effects,
  lookup_effects,
  observing_by,
}
use Rattle.journal_model.specs.Requests.{
  asked_block,
  number_of,
  szx_of,
  query_of,
  is_later_block,
  is_heeded,
}
use Rattle.journal_model.specs.Rows.{row_moment}
use Rattle.journal_model.specs.UnfinishedRow.{making}
use Rattle.journal_model.proofs.UnfinishedRowLaws.{now-making, events-making_nothing}
use Rattle.transfers.specs.TransferEvents.{
  Table,
  UploadsStandFor,
  AnswersStandFor,
  TransfersStandFor,
}
use Rattle.transfers.proofs.TransferLaws.{UploadsStandFor-noted}
use Rattle.coap_answers.specs.declared.mids.Mids.{Mids}
use Rattle.coap_answers.specs.AskedBlocks.{has_asked_block}
use Rattle.coap_answers.specs.Sendings.{IsStepOf, Sends}
use Rattle.coap_answers.proofs.SendingLaws.{sends_notes}
use Rattle.rd_request.specs.Asking.{begins_observation}
use Rattle.observation.specs.declared.joining.Joining.{Joining}
use Rattle.observation.specs.Joining.{observer_joining, joining_notes}
use Rattle.observation.specs.Watching.{Watching, WatchingStandsFor}
use Rattle.rd_desk.specs.declared.lookup.listings.Formed.{Formed}
use Rattle.rd_desk.specs.declared.lookup.listings.Listed.{Listed}
use Rattle.rd_desk.specs.calls.Desks.{Seen}
use Rattle.rd_desk.specs.parts.Lookups.{
  answer_listed,
  answer_at,
  answer_found,
  AreWith,
  IsFormed,
  IsFormedOf,
  IsJoining,
  IsUsed,
  kept_if,
  giving,
  value_given,
  later_heard,
  lookup_heard,
}
use Rattle.rd_desk.specs.parts.UnderWay.{UnderWay}
use Rattle.rd_desk.proofs.parts.EffectLaws.{effects_same, joined-nothing_first}
use Rattle.rd_desk.proofs.parts.MakingLaws.{entries-making_nothing}
use Rattle.rd_desk.proofs.parts.NoteTopics as topic
use Rattle.rd_desk.proofs.parts.NoteTopics.{AreAbout}
use Rattle.rd_desk.proofs.parts.PartLaws.{
  more_transfers,
  more_watching,
  more_unformed,
  more_silent,
  only_silent,
}
use Rattle.rd_desk.proofs.parts.WayLaws.{noting_more, way_moment, step_of, only}
use Rattle.rd_desk.proofs.parts.WriteLaws.{without_memory-notes}

-- an answer by its parts
pub answer_same : (one other : Answer) → one.body ≡ other.body → one.tag ≡ other.tag → one ≡ other
answer_same one other whole current =
    let made = λ (b t : List ℕ). let a : Answer = record { body = b; tag = t } in a in
    ap (λ (b : List ℕ). made b one.tag) whole ∙ ap (λ (t : List ℕ). made other.body t) current

-- what is found is the body that is found, under the tag
found_as : (m : Message) (history : List Entry) (moment : ℕ)
    → answer_found history moment m
    ≡ option_map (λ (b : List ℕ). answer_of b (tag history moment))
    (option_and_then (λ sought. body sought history moment) (sought_in m))
found_as m history moment = by (sought_in m)
  where
    by : (o : Option Sought)
        → option_and_then (λ sought. answer_for sought history moment) o
        ≡ option_map (λ (b : List ℕ). answer_of b (tag history moment))
        (option_and_then (λ sought. body sought history moment) o)
    by None = refl
    by (Some sought) = refl

pub found_nowhere : (m : Message) (history : List Entry) (moment : ℕ) (r : Option (List ℕ))
    → r ≡ None
    → r ≡ option_and_then (λ sought. body sought history moment) (sought_in m)
    → None ≡ answer_found history moment m
found_nowhere m history moment r none is =
    sym (found_as m history moment
    ∙ ap (option_map (λ (b : List ℕ). answer_of b (tag history moment))) (sym is ∙ none))

pub found_here : (m : Message) (history : List Entry) (moment : ℕ) (r : Option (List ℕ))
    (octets shown current : List ℕ)
    → r ≡ Some octets
    → shown ≡ octets
    → current ≡ tag history moment
    → r ≡ option_and_then (λ sought. body sought history moment) (sought_in m)
    → Some (answer_of shown current) ≡ answer_found history moment m
found_here m history moment r octets shown current some whole named is =
    ap (λ (a : Answer). Some a)
    (answer_same (answer_of shown current) (answer_of octets (tag history moment)) whole named)
    ∙ sym (found_as m history moment
    ∙ ap (option_map (λ (b : List ℕ). answer_of b (tag history moment))) (sym is ∙ some))

-- ---- a body is given

-- its answer, of the body as it was shown
sends_giving : (keep : Bool) (observe : Option ℕ) (s : Step) (m : Message) (answer : Answer)
    (shown : List ℕ) (out sent : List (Peer × List ℕ)) (mids_before mids : Mids)
    → shown ≡ answer.body
    → ((notes : List Note)
    → Sends (answering s m (body_reply (Some answer.tag) observe (asked_block m) shown) notes)
    out sent mids_before mids)
    → Sends (giving keep observe s m answer) out sent mids_before mids
sends_giving keep observe s m answer shown out sent mids_before mids same sends =
    subst (λ (b : List ℕ).
    Sends (answering s m (body_reply (Some answer.tag) observe (asked_block m) b)
    (kept_if keep s m answer)) out sent mids_before mids) same
    (sends (kept_if keep s m answer))

giving-notes : (keep : Bool) (observe : Option ℕ) (s : Step) (m : Message) (answer : Answer)
    → (giving keep observe s m answer).notes ≡ kept_if keep s m answer
unfolding answering
giving-notes keep observe s m answer = refl

-- it is not kept
pub given_whole : (rows : List Row) (s : Step) (starved : Bool) (done : Effects) (x d : Seen)
    (out sent : List (Peer × List ℕ)) (mids_before mids : Mids) (sender : Peer) (m : Message)
    (observe : Option ℕ) (answer : Answer)
    (shown : List ℕ) (ready : Option (List KeptAnswer))
    → x ≡ d
    → s.peer ≡ sender
    → done.drew ≡ 0
    → ready ≡ None
    → shown ≡ answer.body
    → ((step : Step) (notes : List Note)
    → IsStepOf step sender mids_before
    → Sends
    (answering step m (body_reply (Some answer.tag) observe (asked_block m) shown) notes)
    out sent mids_before mids)
    → UnderWay rows s starved done d out mids_before
    → UnderWay rows s starved (joined done (giving (is_some ready) observe s m answer)) x sent mids
given_whole rows s starved done x d out sent mids_before mids sender m observe answer shown ready
    seen of undrawn none same sends way =
    let here =
    subst (λ (y : Seen). UnderWay rows s starved done y out mids_before) (sym seen) way in
    subst (λ (o : Option (List KeptAnswer)).
    UnderWay rows s starved (joined done (giving (is_some o) observe s m answer)) x sent
    mids) (sym none)
    (more_silent rows s starved done (giving false observe s m answer) x out sent mids_before mids
    (giving-notes false observe s m answer)
    (sends_giving false observe s m answer shown out sent mids_before mids same
    (λ notes. sends s notes
    (step_of rows s starved done x out mids_before sender of undrawn here))) here)

-- it is kept
about_kept : (observe : Option ℕ) (s : Step) (m : Message) (answer : Answer)
    → AreAbout topic.transfers (giving true observe s m answer).notes
about_kept observe s m answer =
    ap (list_any (topic.is_beside topic.transfers)) (giving-notes true observe s m answer)

pub given_kept : (rows : List Row) (s : Step) (starved : Bool) (done : Effects) (x d : Seen)
    (t : Table) (answers : List KeptAnswer) (out sent : List (Peer × List ℕ))
    (mids_before mids : Mids) (sender : Peer) (m : Message)
    (observe : Option ℕ) (answer : Answer) (shown : List ℕ) (ready : Option (List KeptAnswer))
    → x ≡ d
    → s.peer ≡ sender
    → done.drew ≡ 0
    → ready ≡ Some answers
    → shown ≡ answer.body
    → IfSome ready (AreWith d.moment sender (key_in m) answer d.transfers.answers)
    → ((at : ℕ) (events : List Event)
    → UploadsStandFor at events x.transfers.uploads
    → AnswersStandFor events answers
    → TransfersStandFor at events t)
    → ((step : Step) (notes : List Note)
    → IsStepOf step sender mids_before
    → Sends
    (answering step m (body_reply (Some answer.tag) observe (asked_block m) shown) notes)
    out sent mids_before mids)
    → UnderWay rows s starved done d out mids_before
    → UnderWay rows s starved (joined done (giving (is_some ready) observe s m answer))
    (record x { transfers = t }) sent mids
given_kept rows s starved done x d t answers out sent mids_before mids sender m observe answer shown
    ready seen of undrawn some same ready_it adopted sends way =
    let with_it : AreWith x.moment sender (key_in m) answer x.transfers.answers answers =
    subst (λ (y : Seen). AreWith y.moment sender (key_in m) answer y.transfers.answers answers)
    (sym seen)
    (subst (λ (o : Option (List KeptAnswer)). IfSome o (AreWith d.moment sender (key_in m) answer
    d.transfers.answers)) some ready_it) in
    let e = giving true observe s m answer in
    let past = events (making rows s starved done) in
    let moment : x.moment ≡ row_moment rows s =
    ap (λ (y : Seen). y.moment) seen ∙ way_moment rows s starved done d out mids_before way in
    let notes : note.Kept sender (key_in m) answer.body answer.tag ∷ [] ≡ e.notes =
    ap (λ (p : Peer). note.Kept p (key_in m) answer.body answer.tag ∷ []) (sym of)
    ∙ sym (giving-notes true observe s m answer) in
    let no_upload : list_any about_uploads e.notes ≡ false =
    ap (list_any about_uploads) (giving-notes true observe s m answer) in
    let kept : AnswersStandFor past x.transfers.answers
    → AnswersStandFor (noting_more rows s e.notes past) answers =
    λ h.
    subst (λ (ns : List Note). AnswersStandFor (noting_more rows s ns past) answers) notes
    (subst (λ (at : ℕ). AnswersStandFor (noted (length rows) at s.word (note.Kept sender (key_in m)
    answer.body answer.tag ∷ []) past) answers) moment (with_it past (length rows) s.word h)) in
    subst (λ (o : Option (List KeptAnswer)).
    UnderWay rows s starved (joined done (giving (is_some o) observe s m answer))
    (record x { transfers = t }) sent mids) (sym some)
    (more_transfers rows s starved done e x d t out sent mids_before mids seen
    (about_kept observe s m answer)
    (λ h. adopted (row_moment rows s) (noting_more rows s e.notes past)
    (UploadsStandFor-noted (row_moment rows s) x.transfers.uploads (length rows) (row_moment rows s)
    s.word e.notes past no_upload h.uploads) (kept h.answers))
    (sends_giving true observe s m answer shown out sent mids_before mids same
    (λ ns. sends s ns (step_of rows s starved done d out mids_before sender of undrawn way)))
    way)

-- what was built is the listing now, to be kept as a test of it says
pub formed_now : (test : Option Block → List ℕ → Bool) (keep : Bool) (asked : Option Block)
    (shown : List ℕ) (l : Listed) (m : Message) (r : Result Formed Starved) (history : List Entry)
    (x d : Seen) (v : Version) (query meant : Query)
    → keep ≡ test asked shown
    → asked ≡ asked_block m
    → shown ≡ arc_value l.body
    → x ≡ d
    → v ≡ x.version
    → query ≡ meant
    → (VersionStandsFor 0 history v → answer_listed l ≡ answer_at history x.moment query)
    → VersionStandsFor 0 history d.version
    → IfOk r (IsFormed keep (answer_listed l))
    → IfOk r (IsFormed (test (asked_block m) (answer_at history d.moment meant).body)
    (answer_at history d.moment meant))
formed_now test keep asked shown l m r history x d v query meant tested block whole seen version
    asks listed stands =
    let same : answer_listed l ≡ answer_at history d.moment meant =
    listed (subst (VersionStandsFor 0 history) (sym (version ∙ ap (λ (y : Seen). y.version) seen))
    stands)
    ∙ (ap (λ (y : Seen). answer_at history y.moment query) seen ∙ ap (λ (q : Query). answer_at
    history d.moment q) asks) in
    IfOk-weaker r (IsFormed keep (answer_listed l))
    (IsFormed (test (asked_block m) (answer_at history d.moment meant).body)
    (answer_at history d.moment meant)) (λ f h. record {
      listed = h.listed ∙ same;
      kept =
          h.kept
          ∙ (tested
          ∙ (ap (λ (b : Option Block). test b shown) block
          ∙ ap (λ (b : List ℕ). test (asked_block m) b)
          (whole ∙ ap (λ (a : Answer). a.body) same)));
    })

-- what was built of a further block is what is found now, to be kept where it has that block
pub formed_found : (keep : Bool) (asked : Option Block) (shown : List ℕ) (l : Listed)
    (m : Message) (f : Formed) (history : List Entry) (x d : Seen) (v : Version)
    (found : Option Listed)
    → keep ≡ has_asked_block asked shown
    → asked ≡ asked_block m
    → shown ≡ arc_value l.body
    → x ≡ d
    → v ≡ x.version
    → found ≡ Some l
    → (VersionStandsFor 0 history v
    → option_map answer_listed found ≡ answer_found history x.moment m)
    → VersionStandsFor 0 history d.version
    → IsFormed keep (answer_listed l) f
    → IsFormedOf m (answer_found history d.moment m) (Some f)
formed_found keep asked shown l m f history x d v found tested block whole seen version some finds
    stands h =
    let same : Some (answer_listed l) ≡ answer_found history d.moment m =
    ap (option_map answer_listed) (sym some)
    ∙ (finds (subst (VersionStandsFor 0 history)
    (sym (version ∙ ap (λ (y : Seen). y.version) seen)) stands)
    ∙ ap (λ (y : Seen). answer_found history y.moment m) seen) in
    subst (λ (o : Option Answer). IsFormedOf m o (Some f)) same
    (record {
      listed = h.listed;
      kept =
          h.kept
          ∙ (tested
          ∙ (ap (λ (b : Option Block). has_asked_block b shown) block
          ∙ ap (λ (b : List ℕ). has_asked_block (asked_block m) b) whole));
    })

-- nothing is where nothing is found
pub formed_nothing : (m : Message) (history : List Entry) (x d : Seen) (v : Version)
    (found : Option Listed)
    → x ≡ d
    → v ≡ x.version
    → found ≡ None
    → (VersionStandsFor 0 history v
    → option_map answer_listed found ≡ answer_found history x.moment m)
    → VersionStandsFor 0 history d.version
    → IsFormedOf m (answer_found history d.moment m) None
formed_nothing m history x d v found seen version none finds stands =
    let same : None ≡ answer_found history d.moment m =
    ap (option_map answer_listed) (sym none)
    ∙ (finds (subst (VersionStandsFor 0 history)
    (sym (version ∙ ap (λ (y : Seen). y.version) seen)) stands)
    ∙ ap (λ (y : Seen). answer_found history y.moment m) seen) in
    subst (λ (o : Option Answer). IsFormedOf m o None) same tt

-- ---- what is done first, and then given

noted_first : (notes more : List Note) (s : Step) (m : Message) (reply : Reply)
    → joined (noting notes) (answering s m reply more) ≡ answering s m reply (notes ++ more)
unfolding answering
noted_first notes more s m reply =
    let n :
    0 + (answering s m reply (notes ++ more)).drew
    ≡ (answering s m reply (notes ++ more)).drew =
    omega arith in
    effects_same (joined (noting notes) (answering s m reply more))
    (answering s m reply (notes ++ more)) refl refl n

-- an answer that is longer than a block is kept
keeping-is : (s : Step) (m : Message) (answer : Answer)
    → kept_if (is_long (asked_block m) answer.body) s m answer ≡ keeping s m answer
keeping-is s m answer = by (is_long (asked_block m) answer.body)
  where
    by : (b : Bool)
        → kept_if b s m answer
        ≡ (if b then note.Kept s.peer (key_in m) answer.body answer.tag ∷ [] else [])
    by true = refl
    by false = refl

answering-notes : (notes : List Note) (s : Step) (m : Message) (reply : Reply)
    → (answering s m reply notes).notes ≡ notes
unfolding answering
answering-notes notes s m reply = refl

-- what was built is given as the answer that it is
formed-giving : (keep : Bool) (observe : Option ℕ) (s : Step) (m : Message) (answer : Answer)
    (f : Formed)
    → IsFormed keep answer f
    → giving (is_some f.ready) observe s m (answer_listed f.listed) ≡ giving keep observe s m answer
formed-giving keep observe s m answer f formed =
    ap (λ (b : Bool). giving b observe s m (answer_listed f.listed)) formed.kept
    ∙ ap (λ (a : Answer). giving keep observe s m a) formed.listed

-- ---- a further block

-- of the kept answer
pub later_used : (rows : List Row) (s : Step) (m : Message) (answer : Answer)
    → kept_answer (row_moment rows s) (s.peer, key_in m) (events rows) ≡ Some answer
    → answering s m (body_reply (Some answer.tag) None (asked_block m) answer.body)
    (note.Used s.peer (key_in m) ∷ [])
    ≡ later_block rows (row_moment rows s) s m
unfolding later_block
later_used rows s m answer kept =
    sym (ap (λ (o : Option Answer). block_of_kept s m (found_now rows (row_moment rows s) m) o)
    kept)

-- or else of what is found now
block-now : (s : Step) (m : Message) (answer : Answer)
    → giving (has_asked_block (asked_block m) answer.body) None s m answer
    ≡ block_now s m answer
    (block_of answer.body (number_of (asked_block m)) (szx_of (asked_block m)))
unfolding body_reply
block-now s m answer =
    by (block_of answer.body (number_of (asked_block m)) (szx_of (asked_block m)))
  where
    by : (o : Option (List ℕ × Bool))
        → answering s m (part_reply (Some answer.tag) None (asked_block m) o)
        (kept_if (is_some o) s m answer)
        ≡ block_now s m answer o
    by None = refl
    by (Some part) = refl

pub later_fresh : (rows : List Row) (s : Step) (m : Message) (answer : Answer)
    → answer_found (entries rows) (row_moment rows s) m ≡ Some answer
    → kept_answer (row_moment rows s) (s.peer, key_in m) (events rows) ≡ None
    → giving (has_asked_block (asked_block m) answer.body) None s m answer
    ≡ later_block rows (row_moment rows s) s m
unfolding later_block
later_fresh rows s m answer found none =
    block-now s m answer
    ∙ sym (ap (λ (o : Option Answer). block_of_kept s m (found_now rows (row_moment rows s) m) o)
    none
    ∙ ap (λ (o : Option Answer). block_of_found s m o) found)

-- or 4.04, where the registration is not live
pub later_missing : (rows : List Row) (s : Step) (m : Message)
    → answer_found (entries rows) (row_moment rows s) m ≡ None
    → kept_answer (row_moment rows s) (s.peer, key_in m) (events rows) ≡ None
    → answering s m not_live [] ≡ later_block rows (row_moment rows s) s m
unfolding later_block
later_missing rows s m missing none =
    sym (ap (λ (o : Option Answer). block_of_kept s m (found_now rows (row_moment rows s) m) o)
    none
    ∙ ap (λ (o : Option Answer). block_of_found s m o) missing)

-- what is built is of what is found, or nothing is
pub formed_of : (m : Message) (found : Option Answer) (formed : Option Formed) (f : Formed)
    → formed ≡ Some f
    → IsFormedOf m found formed
    → (answer : Answer)
    × (found ≡ Some answer)
    × IsFormed (has_asked_block (asked_block m) answer.body) answer f
formed_of m None None f is h = absurd cc
formed_of m None (Some other) f is h = absurd h
formed_of m (Some answer) None f is h = absurd h
formed_of m (Some answer) (Some other) f is h = (
  answer,
  refl,
  subst (IsFormed (has_asked_block (asked_block m) answer.body) answer)
      (let same : other ≡ f = cc in same) h,
)

pub nothing_formed : (m : Message) (found : Option Answer) (formed : Option Formed)
    → formed ≡ None
    → IsFormedOf m found formed
    → found ≡ None
nothing_formed m None formed is h = refl
nothing_formed m (Some answer) None is h = absurd h
nothing_formed m (Some answer) (Some other) is h = absurd cc

-- ---- observation

-- the notes of an observation that begins, and its answer
begun-is : (added : Bool) (rows : List Row) (s : Step) (m : Message) (answer : Answer)
    → joined (noting
    (joining_notes (is_some (value_given added (events rows))) (observer_of s m) answer.body
    (observers (events rows))))
    (giving (is_long (asked_block m) answer.body) (value_given added (events rows)) s m answer)
    ≡ observed_if added rows s m answer
begun-is true rows s m answer =
    noted_first (joining_notes true (observer_of s m) answer.body (observers (events rows)))
    (kept_if (is_long (asked_block m) answer.body) s m answer) s m
    (body_reply (Some answer.tag) (Some (observe_value (events rows))) (asked_block m) answer.body)
    ∙ ap (λ (ns : List Note).
    answering s m
    (body_reply (Some answer.tag) (Some (observe_value (events rows))) (asked_block m)
    answer.body) ns)
    (append_assoc (removal (s.peer, m.token) (observers (events rows)))
    (addition (observer_of s m) answer.body)
    (kept_if (is_long (asked_block m) answer.body) s m answer)
    ∙ ap (λ (ns : List Note).
    removal (s.peer, m.token) (observers (events rows))
    ++ (addition (observer_of s m) answer.body ++ ns)) (keeping-is s m answer))
begun-is false rows s m answer =
    noted_first (removal (s.peer, m.token) (observers (events rows)))
    (kept_if (is_long (asked_block m) answer.body) s m answer) s m
    (body_reply (Some answer.tag) None (asked_block m) answer.body)
    ∙ ap (λ (ns : List Note).
    answering s m (body_reply (Some answer.tag) None (asked_block m) answer.body)
    (removal (s.peer, m.token) (observers (events rows)) ++ ns)) (keeping-is s m answer)

-- a lookup that asks to observe
observed_by : (rows : List Row) (s : Step) (m : Message) (value : Option ℕ)
    → observe_in m ≡ value
    → is_later_block m ≡ false
    → begins_observation value ≡ true
    → observed rows (row_moment rows s) s m ≡ lookup_effects rows (row_moment rows s) s m
unfolding lookup_effects
observed_by rows s m None is first begins = absurd (false≢true begins)
observed_by rows s m (Some value) is first begins =
    sym (ap (λ b. block_effects b rows (row_moment rows s) s m) first
    ∙ (ap (λ (o : Option ℕ). first_block_effects o rows (row_moment rows s) s m) is
    ∙ ap (λ b. observation_effects (observing_by b (value == 1)) rows (row_moment rows s) s m)
    begins))

-- one that asks to observe no more
unobserved_by : (rows : List Row) (s : Step) (m : Message) (value : Option ℕ)
    → observe_in m ≡ value
    → is_later_block m ≡ false
    → begins_observation value ≡ false
    → is_heeded value ≡ true
    → unobserved rows (row_moment rows s) s m ≡ lookup_effects rows (row_moment rows s) s m
unfolding lookup_effects
unobserved_by rows s m None is first begins heeded = absurd (false≢true heeded)
unobserved_by rows s m (Some value) is first begins heeded =
    sym (ap (λ b. block_effects b rows (row_moment rows s) s m) first
    ∙ (ap (λ (o : Option ℕ). first_block_effects o rows (row_moment rows s) s m) is
    ∙ (ap (λ b. observation_effects (observing_by b (value == 1)) rows (row_moment rows s) s m)
    begins
    ∙ ap (λ b. observation_effects (observing_by false b) rows (row_moment rows s) s m)
    (other (value == 0) (value == 1) begins heeded))))
  where
    other : (b e : Bool) → b ≡ false → (b || e) ≡ true → e ≡ true
    other true e h g = absurd (false≢true (sym h))
    other false e h g = g

pub observed-is : (rows : List Row) (s : Step) (m : Message)
    → is_later_block m ≡ false
    → begins_observation (observe_in m) ≡ true
    → joined (noting (joining_notes (is_some (value_given (has_room_for (query_of m)
    (without (s.peer, m.token) (observers (events rows)))) (events rows)))
    (observer_of s m) (answer_at (entries rows) (row_moment rows s) (query_of m)).body
    (observers (events rows))))
    (giving
    (is_long (asked_block m) (answer_at (entries rows) (row_moment rows s) (query_of m)).body)
    (value_given
    (has_room_for (query_of m) (without (s.peer, m.token) (observers (events rows))))
    (events rows)) s m (answer_at (entries rows) (row_moment rows s) (query_of m)))
    ≡ lookup_effects rows (row_moment rows s) s m
unfolding observed
observed-is rows s m first begins =
    begun-is (has_room_for (query_of m) (without (s.peer, m.token) (observers (events rows)))) rows
    s m (answer_at (entries rows) (row_moment rows s) (query_of m))
    ∙ observed_by rows s m (observe_in m) refl first begins

pub unobserved-is : (rows : List Row) (s : Step) (m : Message)
    → is_later_block m ≡ false
    → begins_observation (observe_in m) ≡ false
    → is_heeded (observe_in m) ≡ true
    → joined (noting (removal (s.peer, m.token) (observers (events rows))))
    (giving
    (is_long (asked_block m) (answer_at (entries rows) (row_moment rows s) (query_of m)).body)
    None s m (answer_at (entries rows) (row_moment rows s) (query_of m)))
    ≡ lookup_effects rows (row_moment rows s) s m
unfolding unobserved
unobserved-is rows s m first begins heeded =
    begun-is false rows s m (answer_at (entries rows) (row_moment rows s) (query_of m))
    ∙ unobserved_by rows s m (observe_in m) refl first begins heeded

-- ---- who joins, and who goes

about_removal : (name : Peer × List ℕ) (standing : List Observer)
    → AreAbout topic.observers (removal name standing)
about_removal name standing = by (is_observer name standing)
  where
    by : (b : Bool) → AreAbout topic.observers (if b then note.Unwatched name.0 name.1 ∷ [] else [])
    by true = refl
    by false = refl

none_formed : (name : Peer × List ℕ) (standing : List Observer)
    → list_any is_forming (removal name standing) ≡ false
none_formed name standing = by (is_observer name standing)
  where
    by : (b : Bool)
        → list_any is_forming (if b then note.Unwatched name.0 name.1 ∷ [] else []) ≡ false
    by true = refl
    by false = refl

about_joining : (name : Peer × List ℕ) (o : Observer) (body : List ℕ) (standing : List Observer)
    → AreAbout topic.observers (removal name standing ++ addition o body)
about_joining name o body standing = by (is_observer name standing)
  where
    by : (b : Bool)
        → AreAbout topic.observers
        ((if b then note.Unwatched name.0 name.1 ∷ [] else []) ++ addition o body)
    by true = refl
    by false = refl

one_formed : (name : Peer × List ℕ) (o : Observer) (body : List ℕ) (standing : List Observer)
    → count_by is_forming (removal name standing ++ addition o body) ≡ 1
one_formed name o body standing = by (is_observer name standing)
  where
    by : (b : Bool)
        → count_by is_forming
        ((if b then note.Unwatched name.0 name.1 ∷ [] else []) ++ addition o body)
        ≡ 1
    by true = refl
    by false = refl

-- an observer goes
pub left_more : (rows : List Row) (s : Step) (starved : Bool) (x d : Seen) (w : Watching)
    (out : List (Peer × List ℕ)) (mids : Mids) (name : Peer × List ℕ)
    → x ≡ d
    → (WatchingStandsFor (making rows s starved nothing) x.watching
    → WatchingStandsFor (making rows s starved (joined nothing
    (noting (removal name (observers (events (making rows s starved nothing))))))) w)
    → UnderWay rows s starved nothing d out mids
    → UnderWay rows s starved (noting (removal name (observers (events rows))))
    (record x { watching = w }) out mids
left_more rows s starved x d w out mids name seen stands way =
    subst (λ (es : List Event).
    UnderWay rows s starved (noting (removal name (observers es)))
    (record x { watching = w }) out mids) (events-making_nothing rows s starved)
    (only rows s starved (noting (removal name standing)) (record x { watching = w }) out mids
    (more_unformed rows s starved nothing (noting (removal name standing)) x d w out out mids mids
    seen (about_removal name standing) (none_formed name standing) stands
    (sends_notes (removal name standing) out mids) way))
  where
    standing : List Observer
    standing = observers (events (making rows s starved nothing))

-- that of a peer and a token, by the token as it is kept
pub left_named : (rows : List Row) (s : Step) (starved : Bool) (x d : Seen) (w : Watching)
    (out : List (Peer × List ℕ)) (mids : Mids) (sender : Peer) (kept token : List ℕ)
    → x ≡ d
    → kept ≡ token
    → (WatchingStandsFor (making rows s starved nothing) x.watching
    → WatchingStandsFor (making rows s starved (joined nothing (noting
    (removal (sender, kept) (observers (events (making rows s starved nothing)))))))
    w)
    → UnderWay rows s starved nothing d out mids
    → UnderWay rows s starved (noting (removal (sender, token) (observers (events rows))))
    (record x { watching = w }) out mids
left_named rows s starved x d w out mids sender kept token seen same stands way =
    subst (λ (t : List ℕ).
    UnderWay rows s starved (noting (removal (sender, t) (observers (events rows))))
    (record x { watching = w }) out mids) same
    (left_more rows s starved x d w out mids (sender, kept) seen stands way)

-- an observer is added, and an Observe value is given
pub added_more : (rows : List Row) (s : Step) (starved : Bool) (x d : Seen) (w : Watching)
    (count : ℕ) (out : List (Peer × List ℕ)) (mids : Mids) (o : Observer) (body : List ℕ)
    → x ≡ d
    → count ≡ (x.observed + 1) % 2 ^ 64
    → (WatchingStandsFor (making rows s starved nothing) x.watching
    → WatchingStandsFor (making rows s starved (joined nothing (noting (joining_notes true o body
    (observers (events (making rows s starved nothing))))))) w)
    → UnderWay rows s starved nothing d out mids
    → UnderWay rows s starved (noting (joining_notes true o body (observers (events rows))))
    (record x { watching = w; observed = count }) out mids
added_more rows s starved x d w count out mids o body seen counts stands way =
    subst (λ (es : List Event).
    UnderWay rows s starved (noting (joining_notes true o body (observers es)))
    (record x { watching = w; observed = count }) out mids)
    (events-making_nothing rows s starved)
    (only rows s starved (noting notes) (record x { watching = w; observed = count }) out mids
    (more_watching rows s starved nothing (noting notes) x d w count out out mids mids seen
    (about_joining (o.peer, o.token) o body standing) stands counted
    (sends_notes notes out mids) way))
  where
    past : List Event
    past = events (making rows s starved nothing)

    standing : List Observer
    standing = observers past

    notes : List Note
    notes = joining_notes true o body standing

    counted : x.observed ≡ observe_values_sent past
        → count ≡ observe_values_sent (noting_more rows s notes past)
    counted h =
        counts ∙ (ap (λ n. (n + 1) % 2 ^ 64) h
        ∙ sym (observe_values_sent-noted (length rows) (row_moment rows s) s.word notes past
        ∙ ap (λ n. (observe_values_sent past + n) % 2 ^ 64)
        (one_formed (o.peer, o.token) o body standing)))

-- whether it is added is as by the events before the row
pub given_room : (rows : List Row) (s : Step) (starved : Bool) (x d : Seen)
    (out : List (Peer × List ℕ)) (mids : Mids) (query : Query) (name : Peer × List ℕ)
    (added b : Bool)
    → x ≡ d
    → ((before : List Row)
    → WatchingStandsFor before x.watching
    → added ≡ has_room_for query (without name (observers (events before))))
    → added ≡ b
    → UnderWay rows s starved nothing d out mids
    → value_given b (events rows)
    ≡ value_given (has_room_for query (without name (observers (events rows)))) (events rows)
given_room rows s starved x d out mids query name added b seen room is way =
    let here = subst (λ (y : Seen). UnderWay rows s starved nothing y out mids) (sym seen) way in
    ap (λ (added_now : Bool). value_given added_now (events rows))
    (sym is
    ∙ (room (making rows s starved nothing) here.stands.watching
    ∙ ap (λ (es : List Event). has_room_for query (without name (observers es)))
    (events-making_nothing rows s starved)))

-- the Observe value that is given is the next one
pub value-is : (rows : List Row) (s : Step) (starved : Bool) (x d : Seen) (count value : ℕ)
    (out : List (Peer × List ℕ)) (mids : Mids)
    → x ≡ d
    → count ≡ (x.observed + 1) % 2 ^ 64
    → value ≡ count % 2 ^ 24
    → UnderWay rows s starved nothing d out mids → value ≡ observe_value (events rows)
value-is rows s starved x d count value out mids seen counts low way =
    let same : x.observed ≡ observe_values_sent (events rows) =
    ap (λ (y : Seen). y.observed) seen
    ∙ (way.stands.observed ∙ ap observe_values_sent (events-making_nothing rows s starved)) in
    let n : ((x.observed + 1) % 2 ^ 64) % 2 ^ 24 ≡ (x.observed + 1) % 2 ^ 24 = omega arith in
    low
    ∙ (ap (λ k. k % 2 ^ 24) counts
    ∙ (n ∙ (ap (λ k. (k + 1) % 2 ^ 24) same ∙ sym (observe_value-sent (events rows)))))

-- who joins by a request is the observer that it asks to be
pub joining-is : (s : Step) (sender : Peer) (m : Message) (body : List ℕ) (query : Query)
    (j : Joining)
    → s.peer ≡ sender
    → query ≡ query_of m
    → IsJoining sender m body j
    → observer_joining query j ≡ observer_of s m
joining-is s sender m body query j of same is =
    let made =
    λ (peer : Peer) (token : List ℕ) (q : Query) (key : List ℕ) (szx : ℕ). let o : Observer =
    record { peer = peer; token = token; query = q; key = key; szx = szx } in o in
    ap (λ (p : Peer). made p j.token query j.key j.szx) (is.peer_is ∙ sym of)
    ∙ (ap (λ (t : List ℕ). made s.peer t query j.key j.szx) is.token
    ∙ (ap (λ (q : Query). made s.peer m.token q j.key j.szx) same
    ∙ (ap (λ (k : List ℕ). made s.peer m.token (query_of m) k j.szx) is.key
    ∙ ap (λ (n : ℕ). made s.peer m.token (query_of m) (key_in m) n) is.szx)))

-- ---- the whole step

-- out of memory it is answered 5.00
pub lookup_starved : (rows : List Row) (s : Step) (d : Seen) (out sent : List (Peer × List ℕ))
    (mids_before mids : Mids) (sender : Peer) (m : Message)
    → s.peer ≡ sender
    → ((step : Step)
    → IsStepOf step sender mids_before
    → Sends (without_memory step m) out sent mids_before mids)
    → UnderWay rows s true nothing d out mids_before
    → UnderWay rows s true (lookup_heard true rows s m) d sent mids
lookup_starved rows s d out sent mids_before mids sender m of sends way =
    only_silent rows s true (without_memory s m) d out sent mids_before mids
    (without_memory-notes s m)
    (sends s (step_of rows s true nothing d out mids_before sender of refl way)) way

-- the version of a desk whose step begins stands for the entries before the row
pub history_begun : (rows : List Row) (s : Step) (starved : Bool) (d : Seen)
    (out : List (Peer × List ℕ)) (mids : Mids)
    → UnderWay rows s starved nothing d out mids
    → VersionStandsFor 0 (entries rows) d.version
history_begun rows s starved d out mids way =
    subst (λ (es : List Entry). VersionStandsFor 0 es d.version)
    (entries-making_nothing rows s starved) way.stands.directory.history

-- a further block of the kept answer
pub used_way : (rows : List Row) (s : Step) (x d : Seen) (t : Table)
    (out sent : List (Peer × List ℕ)) (mids_before mids : Mids) (sender : Peer) (m : Message)
    (key : List ℕ)
    → x ≡ d
    → s.peer ≡ sender
    → key ≡ key_in m
    → ((at : ℕ) (events : List Event)
    → TransfersStandFor at events x.transfers
    → IsUsed at x.moment sender key m events t out sent mids_before mids)
    → UnderWay rows s false nothing d out mids_before
    → UnderWay rows s false (later_heard false rows s m) (record x { transfers = t }) sent mids
used_way rows s x d t out sent mids_before mids sender m key seen of same used way =
    subst (λ (e : Effects). UnderWay rows s false e (record x { transfers = t }) sent mids)
    (later_used rows s m it.answer kept)
    (only rows s false e (record x { transfers = t }) sent mids
    (more_transfers rows s false nothing e x d t out sent mids_before mids seen about stands
    (it.sends s (note.Used s.peer (key_in m) ∷ [])
    (step_of rows s false nothing x out mids_before sender of refl here)) way))
  where
    here : UnderWay rows s false nothing x out mids_before
    here = subst (λ (y : Seen). UnderWay rows s false nothing y out mids_before) (sym seen) way

    moment : x.moment ≡ row_moment rows s
    moment = way_moment rows s false nothing x out mids_before here

    past : List Event
    past = events (making rows s false nothing)

    begun : TransfersStandFor (row_moment rows s) past x.transfers
    begun =
        subst (λ (at : ℕ). TransfersStandFor at past x.transfers)
        (now-making rows s false nothing here.no_look) here.stands.transfers

    it : IsUsed (row_moment rows s) x.moment sender key m past t out sent mids_before mids
    it = used (row_moment rows s) past begun

    kept : kept_answer (row_moment rows s) (s.peer, key_in m) (events rows) ≡ Some it.answer
    kept =
        ap (λ (es : List Event). kept_answer (row_moment rows s) (s.peer, key_in m) es)
        (sym (events-making_nothing rows s false))
        ∙ (ap (λ (p : Peer). kept_answer (row_moment rows s) (p, key_in m) past) of
        ∙ (ap (λ (k : List ℕ). kept_answer (row_moment rows s) (sender, k) past) (sym same)
        ∙ (ap (λ (at : ℕ). kept_answer at (sender, key) past) (sym moment) ∙ it.kept)))

    e : Effects
    e =
        answering s m (body_reply (Some it.answer.tag) None (asked_block m) it.answer.body)
        (note.Used s.peer (key_in m) ∷ [])

    noted_use : e.notes ≡ note.Used s.peer (key_in m) ∷ []
    noted_use =
        answering-notes (note.Used s.peer (key_in m) ∷ []) s m
        (body_reply (Some it.answer.tag) None (asked_block m) it.answer.body)

    about : AreAbout topic.transfers e.notes
    about = ap (list_any (topic.is_beside topic.transfers)) noted_use

    stands : TransfersStandFor (row_moment rows s) past x.transfers
        → TransfersStandFor (row_moment rows s) (noting_more rows s e.notes past) t
    stands h =
        subst (λ (ns : List Note).
        TransfersStandFor (row_moment rows s) (noting_more rows s ns past) t)
        (sym noted_use)
        (it.stands (event_at (length rows) (row_moment rows s) s.word (note.Used s.peer (key_in m)))
        (ap (λ (p : Peer). note.Used p (key_in m)) of
        ∙ ap (λ (k : List ℕ). note.Used sender k) (sym same)) (sym moment))

-- no answer is kept under the key of its request, as a step begins
none_kept : (rows : List Row) (s : Step) (x d : Seen) (out : List (Peer × List ℕ)) (mids : Mids)
    (sender : Peer) (m : Message) (key : List ℕ)
    → x ≡ d
    → s.peer ≡ sender
    → key ≡ key_in m
    → ((at : ℕ) (events : List Event)
    → TransfersStandFor at events x.transfers
    → kept_answer x.moment (sender, key) events ≡ None)
    → UnderWay rows s false nothing d out mids
    → kept_answer (row_moment rows s) (s.peer, key_in m) (events rows) ≡ None
none_kept rows s x d out mids sender m key seen of same none way =
    let here = subst (λ (y : Seen). UnderWay rows s false nothing y out mids) (sym seen) way in
    let moment : x.moment ≡ row_moment rows s =
    way_moment rows s false nothing x out mids here in
    let past = events (making rows s false nothing) in
    let begun : TransfersStandFor (row_moment rows s) past x.transfers =
    subst (λ (at : ℕ). TransfersStandFor at past x.transfers)
    (now-making rows s false nothing here.no_look) here.stands.transfers in
    ap (λ (es : List Event). kept_answer (row_moment rows s) (s.peer, key_in m) es)
    (sym (events-making_nothing rows s false))
    ∙ (ap (λ (p : Peer). kept_answer (row_moment rows s) (p, key_in m) past) of
    ∙ (ap (λ (k : List ℕ). kept_answer (row_moment rows s) (sender, k) past) (sym same)
    ∙ (ap (λ (at : ℕ). kept_answer at (sender, key) past) (sym moment)
    ∙ none (row_moment rows s) past begun)))

-- a further block of what is found now, where none is kept: what was given is all that the step
-- does
pub fresh_way : (rows : List Row) (s : Step) (x d after : Seen) (t : Table)
    (out out_then sent : List (Peer × List ℕ)) (mids_before mids_then mids : Mids) (sender : Peer)
    (m : Message) (key : List ℕ) (found : Option Formed) (f : Formed)
    → x ≡ d
    → s.peer ≡ sender
    → key ≡ key_in m
    → ((at : ℕ) (events : List Event)
    → TransfersStandFor at events x.transfers
    → kept_answer x.moment (sender, key) events ≡ None)
    → t ≡ x.transfers
    → out_then ≡ out
    → mids_then ≡ mids_before
    → found ≡ Some f
    → ((history : List Entry)
    → VersionStandsFor 0 history x.version
    → IsFormedOf m (answer_found history x.moment m) found)
    → (UnderWay rows s false nothing (record x { transfers = t }) out_then mids_then
    → UnderWay rows s false
    (joined nothing (giving (is_some f.ready) None s m (answer_listed f.listed))) after sent
    mids)
    → UnderWay rows s false nothing d out mids_before
    → UnderWay rows s false (later_heard false rows s m) after sent mids
fresh_way rows s x d after t out out_then sent mids_before mids_then mids sender m key found f seen
    of same none kept_on unsent undrawn some formed given way =
    let here =
    subst (λ (y : Seen). UnderWay rows s false nothing y out mids_before) (sym seen) way in
    let moment : x.moment ≡ row_moment rows s =
    way_moment rows s false nothing x out mids_before here in
    let unkept : kept_answer (row_moment rows s) (s.peer, key_in m) (events rows) ≡ None =
    none_kept rows s x d out mids_before sender m key seen of same none way in
    let now_formed =
    formed_of m (answer_found (entries rows) (row_moment rows s) m) found f some
    (subst (λ (at : ℕ). IsFormedOf m (answer_found (entries rows) at m) found) moment
    (formed (entries rows) (history_begun rows s false x out mids_before here))) in
    subst (λ (e : Effects). UnderWay rows s false e after sent mids)
    (joined-nothing_first (giving (is_some f.ready) None s m (answer_listed f.listed))
    ∙ (formed-giving (has_asked_block (asked_block m) now_formed.0.body) None s m now_formed.0 f
    now_formed.2
    ∙ later_fresh rows s m now_formed.0 now_formed.1 unkept))
    (given (subst (λ (table : Table).
    UnderWay rows s false nothing (record x { transfers = table }) out_then mids_then)
    (sym kept_on)
    (subst (λ (sends : List (Peer × List ℕ)). UnderWay rows s false nothing x sends mids_then)
    (sym unsent)
    (subst (λ (ids : Mids). UnderWay rows s false nothing x out ids) (sym undrawn) here))))

-- where nothing is found, it is answered 4.04
pub missing_way : (rows : List Row) (s : Step) (x d : Seen) (t : Table)
    (out out_then sent : List (Peer × List ℕ)) (mids_before mids_then mids : Mids)
    (sender : Peer) (m : Message) (key : List ℕ) (found : Option Formed)
    → x ≡ d
    → s.peer ≡ sender
    → key ≡ key_in m
    → ((at : ℕ) (events : List Event)
    → TransfersStandFor at events x.transfers
    → kept_answer x.moment (sender, key) events ≡ None)
    → t ≡ x.transfers
    → out_then ≡ out
    → mids_then ≡ mids_before
    → found ≡ None
    → ((history : List Entry)
    → VersionStandsFor 0 history x.version
    → IsFormedOf m (answer_found history x.moment m) found)
    → ((step : Step) (notes : List Note)
    → IsStepOf step sender mids_then
    → Sends (answering step m not_live notes) out_then sent mids_then mids)
    → UnderWay rows s false nothing d out mids_before
    → UnderWay rows s false (later_heard false rows s m) (record x { transfers = t }) sent mids
missing_way rows s x d t out out_then sent mids_before mids_then mids sender m key found seen of
    same none kept_on unsent undrawn nothing_there formed sends way =
    let here =
    subst (λ (y : Seen). UnderWay rows s false nothing y out mids_before) (sym seen) way in
    let moment : x.moment ≡ row_moment rows s =
    way_moment rows s false nothing x out mids_before here in
    let unkept : kept_answer (row_moment rows s) (s.peer, key_in m) (events rows) ≡ None =
    none_kept rows s x d out mids_before sender m key seen of same none way in
    let missing : answer_found (entries rows) (row_moment rows s) m ≡ None =
    nothing_formed m (answer_found (entries rows) (row_moment rows s) m) found nothing_there
    (subst (λ (at : ℕ). IsFormedOf m (answer_found (entries rows) at m) found) moment
    (formed (entries rows) (history_begun rows s false x out mids_before here))) in
    let begins : UnderWay rows s false nothing (record x { transfers = t }) out_then mids_then =
    subst (λ (table : Table).
    UnderWay rows s false nothing (record x { transfers = table }) out_then mids_then)
    (sym kept_on)
    (subst (λ (o : List (Peer × List ℕ)). UnderWay rows s false nothing x o mids_then)
    (sym unsent)
    (subst (λ (ids : Mids). UnderWay rows s false nothing x out ids) (sym undrawn) here)) in
    subst (λ (e : Effects). UnderWay rows s false e (record x { transfers = t }) sent mids)
    (later_missing rows s m missing unkept)
    (only_silent rows s false (answering s m not_live []) (record x { transfers = t }) out_then sent
    mids_then mids (answering-notes [] s m not_live)
    (sends s []
    (step_of rows s false nothing (record x { transfers = t }) out_then mids_then sender of refl
    begins)) begins)

-- where memory ran out then, it is answered 5.00
pub fresh_starved : (rows : List Row) (s : Step) (x d : Seen) (t : Table)
    (out out_then sent : List (Peer × List ℕ)) (mids_before mids_then mids : Mids) (sender : Peer)
    (m : Message)
    → x ≡ d
    → s.peer ≡ sender
    → t ≡ x.transfers
    → out_then ≡ out
    → mids_then ≡ mids_before
    → ((step : Step)
    → IsStepOf step sender mids_then
    → Sends (without_memory step m) out_then sent mids_then mids)
    → UnderWay rows s true nothing d out mids_before
    → UnderWay rows s true (later_heard true rows s m) (record x { transfers = t }) sent mids
fresh_starved rows s x d t out out_then sent mids_before mids_then mids sender m seen of kept_on
    unsent undrawn sends way =
    lookup_starved rows s (record x { transfers = t }) out_then sent mids_then mids sender m of
    sends
    (subst (λ (table : Table).
    UnderWay rows s true nothing (record x { transfers = table }) out_then mids_then)
    (sym kept_on)
    (subst (λ (o : List (Peer × List ℕ)). UnderWay rows s true nothing x o mids_then) (sym unsent)
    (subst (λ (ids : Mids). UnderWay rows s true nothing x out ids) (sym undrawn)
    (subst (λ (y : Seen). UnderWay rows s true nothing y out mids_before) (sym seen) way))))

-- an observation that begins
pub observed_way : (rows : List Row) (s : Step) (d after : Seen) (out sent : List (Peer × List ℕ))
    (mids_before mids : Mids) (sender : Peer) (m : Message) (query : Query) (j : Joining)
    (value : Option ℕ) (f : Formed)
    → s.peer ≡ sender
    → is_later_block m ≡ false
    → begins_observation (observe_in m) ≡ true
    → query ≡ query_of m
    → IsJoining sender m (arc_value f.listed.body) j
    → ((history : List Entry)
    → VersionStandsFor 0 history d.version
    → IsFormed (is_long (asked_block m) (answer_at history d.moment (query_of m)).body)
    (answer_at history d.moment (query_of m)) f)
    → value
    ≡ value_given (has_room_for query (without (j.peer, j.token) (observers (events rows))))
    (events rows)
    → UnderWay rows s false
    (joined (noting (joining_notes (is_some value) (observer_joining query j) (arc_value j.body)
    (observers (events rows))))
    (giving (is_some f.ready) value s m (answer_listed f.listed))) after sent mids
    → UnderWay rows s false nothing d out mids_before
    → UnderWay rows s false (lookup_heard false rows s m) after sent mids
observed_way rows s d after out sent mids_before mids sender m query j value f of first begins asks
    joins formed gives given way =
    let moment : d.moment ≡ row_moment rows s =
    way_moment rows s false nothing d out mids_before way in
    let answer = answer_at (entries rows) (row_moment rows s) (query_of m) in
    let now_formed : IsFormed (is_long (asked_block m) answer.body) answer f =
    subst (λ (at : ℕ).
    IsFormed (is_long (asked_block m) (answer_at (entries rows) at (query_of m)).body)
    (answer_at (entries rows) at (query_of m)) f) moment
    (formed (entries rows) (history_begun rows s false d out mids_before way)) in
    let room = has_room_for (query_of m) (without (s.peer, m.token) (observers (events rows))) in
    let asked : value ≡ value_given room (events rows) =
    gives
    ∙ (ap (λ (q : Query).
    value_given (has_room_for q (without (j.peer, j.token) (observers (events rows))))
    (events rows)) asks
    ∙ (ap (λ (p : Peer).
    value_given (has_room_for (query_of m) (without (p, j.token) (observers (events rows))))
    (events rows)) (joins.peer_is ∙ sym of)
    ∙ ap (λ (token : List ℕ). value_given (has_room_for (query_of m) (without (s.peer, token)
    (observers (events rows)))) (events rows)) joins.token)) in
    let body : arc_value j.body ≡ answer.body =
    joins.body ∙ ap (λ (a : Answer). a.body) now_formed.listed in
    let done =
    λ (v : Option ℕ) (o : Observer) (b : List ℕ) (e : Effects).
    joined (noting (joining_notes (is_some v) o b (observers (events rows)))) e in
    subst (λ (e : Effects). UnderWay rows s false e after sent mids)
    (ap (λ (o : Observer).
    done value o (arc_value j.body)
    (giving (is_some f.ready) value s m (answer_listed f.listed)))
    (joining-is s sender m (arc_value f.listed.body) query j of asks joins)
    ∙ (ap (λ (b : List ℕ).
    done value (observer_of s m) b
    (giving (is_some f.ready) value s m (answer_listed f.listed))) body
    ∙ (ap (λ (e : Effects). done value (observer_of s m) answer.body e)
    (formed-giving (is_long (asked_block m) answer.body) value s m answer f now_formed)
    ∙ (ap (λ (v : Option ℕ).
    done v (observer_of s m) answer.body
    (giving (is_long (asked_block m) answer.body) v s m answer)) asked
    ∙ observed-is rows s m first begins)))) given

-- one that ends
pub unobserved_way : (rows : List Row) (s : Step) (d after : Seen) (out sent : List (Peer × List ℕ))
    (mids_before mids : Mids) (sender : Peer) (m : Message) (f : Formed)
    → s.peer ≡ sender
    → is_later_block m ≡ false
    → begins_observation (observe_in m) ≡ false
    → is_heeded (observe_in m) ≡ true
    → ((history : List Entry)
    → VersionStandsFor 0 history d.version
    → IsFormed (is_long (asked_block m) (answer_at history d.moment (query_of m)).body)
    (answer_at history d.moment (query_of m)) f)
    → UnderWay rows s false (joined (noting (removal (sender, m.token) (observers (events rows))))
    (giving (is_some f.ready) None s m (answer_listed f.listed))) after sent mids
    → UnderWay rows s false nothing d out mids_before
    → UnderWay rows s false (lookup_heard false rows s m) after sent mids
unobserved_way rows s d after out sent mids_before mids sender m f of first begins heeded formed
    given way =
    let moment : d.moment ≡ row_moment rows s =
    way_moment rows s false nothing d out mids_before way in
    let answer = answer_at (entries rows) (row_moment rows s) (query_of m) in
    let now_formed : IsFormed (is_long (asked_block m) answer.body) answer f =
    subst (λ (at : ℕ).
    IsFormed (is_long (asked_block m) (answer_at (entries rows) at (query_of m)).body)
    (answer_at (entries rows) at (query_of m)) f) moment
    (formed (entries rows) (history_begun rows s false d out mids_before way)) in
    subst (λ (e : Effects). UnderWay rows s false e after sent mids)
    (ap (λ (p : Peer).
    joined (noting (removal (p, m.token) (observers (events rows))))
    (giving (is_some f.ready) None s m (answer_listed f.listed))) (sym of)
    ∙ (ap (λ (e : Effects). joined (noting (removal (s.peer, m.token) (observers (events rows)))) e)
    (formed-giving (is_long (asked_block m) answer.body) None s m answer f now_formed)
    ∙ unobserved-is rows s m first begins heeded)) given
