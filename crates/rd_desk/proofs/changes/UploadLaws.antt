-- A block of links: what comes of it by how it is answered, and what its parts do (RFC 7959
-- sections 2.5 and 2.9).
use Rattle.std.proofs.Common.{
  ◌≡◌,
  ◌≢◌,
  ℕ,
  ◌+◌,
  ◌≤◌,
  Bool,
  true,
  false,
  List,
  [],
  ◌∷◌,
  ◌++◌,
  length,
  codes,
  Option,
  Some,
  None,
  nat_lt,
  refl,
  sym,
  ap,
  subst,
  ◌∙◌,
  arith,
}
use Rattle.rd_base.specs.declared.peers.Peer.{Peer}
use Rattle.message_model.specs.declared.blocks.Block.{Block}
use Rattle.message_model.specs.Codes as codes_of
use Rattle.message_model.specs.Message.{Message, Opt}
use Rattle.message_model.specs.RequestKey.{key_in}
use Rattle.message_model.specs.Uploads.{max_body, collected_before, is_one_too_many}
use Rattle.history_model.specs.declared.entries.Entry.{Entry}
use Rattle.history_model.specs.declared.refusals.Refusal.{Refusal}
use Rattle.history_model.specs.declared.refusals.Refusal.TheVariants as refusal
use Rattle.history_model.specs.Refusals.{change_refusal}
use Rattle.history_model.specs.Versions.{Version, VersionStandsFor}
use Rattle.history_model.specs.declared.entries.Change.TheVariants as change
use Rattle.event_model.specs.declared.notes.Note.{Note}
use Rattle.event_model.specs.declared.notes.Note.TheVariants as note
use Rattle.event_model.specs.AdmissionOrder.{IsOpen}
use Rattle.event_model.specs.Events.{Event}
use Rattle.event_model.specs.Uploads.{live_upload, live_uploads}
use Rattle.event_model.proofs.NotedLaws.{event_at}
use Rattle.journal_model.specs.declared.steps.Step.{Step}
use Rattle.journal_model.specs.declared.rows.Row.{Row}
use Rattle.journal_model.specs.Changes as changes
use Rattle.journal_model.specs.Changes.{
  BodyRead,
  bad_body,
  good_body,
  refused,
  refused_as,
  entry_of_step,
  entered_unless,
  registered_links,
  registration,
  replaced_links,
  replacement,
  body_used,
  body_read,
}
use Rattle.journal_model.specs.Commits.{settling}
use Rattle.journal_model.specs.Effects.{Effects, Reply, nothing, joined, noting}
use Rattle.journal_model.specs.Journal.{events, entries}
use Rattle.journal_model.specs.Registrations.{
  block1_option,
  block_taken,
  block_unless,
  block_after,
  block_uploaded,
  block_room,
}
use Rattle.journal_model.specs.Rows.{row_moment}
use Rattle.journal_model.specs.UnfinishedRow.{making}
use Rattle.journal_model.proofs.UnfinishedRowLaws.{now-making}
use Rattle.transfers.specs.declared.collecting.Upload.{Upload as BlockAnswer}
use Rattle.transfers.specs.declared.collecting.Upload.TheVariants as answer
use Rattle.transfers.specs.BlockAnswers.{answer_taken, answer_unless, answer_after, answer_to}
use Rattle.transfers.specs.TransferEvents.{Table, TransfersStandFor, block_answer}
use Rattle.coap_answers.specs.declared.mids.Mids.{Mids}
use Rattle.coap_answers.proofs.SendingLaws.{sends_notes}
use Rattle.rd_desk.specs.declared.write.outcomes.Entering.{Entering}
use Rattle.rd_desk.specs.declared.write.outcomes.Outcome.{Outcome}
use Rattle.rd_desk.specs.parts.Committing.{answering_settled, unless_failing}
use Rattle.rd_desk.specs.calls.Desks.{Seen}
use Rattle.rd_desk.specs.parts.Outcomes.{IsEntering, AreNotes, IsPlanned}
use Rattle.rd_desk.specs.parts.UnderWay.{UnderWay}
use Rattle.rd_desk.proofs.changes.SettlingLaws.{settling-refused, settling-noted, settling-taken}
use Rattle.rd_desk.proofs.parts.MakingLaws.{entries-making_nothing}
use Rattle.rd_desk.proofs.parts.PartLaws.{more_transfers}
use Rattle.rd_desk.proofs.parts.WayLaws.{noting_more, way_moment}

-- ---- what comes of a block

-- by how it is answered; no block is answered by want of memory
abbrev pub outcome_of : BlockAnswer
    → changes.Purpose
    → List Row
    → ℕ
    → Step
    → Message
    → Block
    → changes.Outcome
outcome_of answer.More purpose rows moment s m b = record {
  reply = record { code = codes_of.continue; options = block1_option b; payload = [] };
  notes = note.Piece s.peer (key_in m) b.num m.payload ∷ [];
}
outcome_of (answer.Whole body) purpose rows moment s m b =
    body_used purpose (entries rows) moment s body (block1_option b)
    (note.Finished s.peer (key_in m) ∷ [])
outcome_of answer.OutOfOrder purpose rows moment s m b =
    refused codes_of.request_entity_incomplete (codes "order")
outcome_of answer.TooLarge purpose rows moment s m b =
    refused codes_of.request_entity_too_large (codes "size")
outcome_of answer.FullUploads purpose rows moment s m b =
    refused codes_of.service_unavailable (codes "uploads")
outcome_of answer.Starved purpose rows moment s m b = refused codes_of.internal_server_error []

pub uploaded_by : (purpose : changes.Purpose) (rows : List Row) (moment : ℕ) (s : Step)
    (m : Message) (b : Block) (a : BlockAnswer)
    → a ≡ block_answer moment (s.peer, key_in m) b m.payload (events rows)
    → block_uploaded purpose rows moment s m b ≡ outcome_of a purpose rows moment s m b
unfolding block_uploaded block_answer answer_to
uploaded_by purpose rows moment s m b a is =
    after (collected_before b (live_upload moment (s.peer, key_in m) (events rows)))
    ∙ ap (λ (x : BlockAnswer). outcome_of x purpose rows moment s m b) (sym is)
  where
    taken : (more : Bool) (body : List ℕ)
        → block_taken more purpose rows moment s m b body
        ≡ outcome_of (answer_taken more body) purpose rows moment s m b
    taken true body = refl
    taken false body = refl

    unless : (large many more : Bool) (body : List ℕ)
        → b.more ≡ more
        → block_unless (block_room large many) purpose rows moment s m b body
        ≡ outcome_of (answer_unless large many more body) purpose rows moment s m b
    unless true many more body e = refl
    unless false true more body e = refl
    unless false false more body e =
        ap (λ (c : Bool). block_taken c purpose rows moment s m b body) e ∙ taken more body

    after : (before : Option (List ℕ))
        → block_after before (live_upload moment (s.peer, key_in m) (events rows)) purpose rows
        moment s m b
        ≡ outcome_of (answer_after before m.payload
        (is_one_too_many b (live_upload moment (s.peer, key_in m) (events rows))
        (live_uploads moment (events rows))) b.more) purpose rows moment s m b
    after None = refl
    after (Some collected) =
        unless (nat_lt max_body (length collected + length m.payload))
        (is_one_too_many b (live_upload moment (s.peer, key_in m) (events rows))
        (live_uploads moment (events rows))) b.more (collected ++ m.payload) refl

-- so of a request with this key
pub uploaded : (purpose : changes.Purpose) (rows : List Row) (moment : ℕ) (s : Step)
    (m : Message) (b : Block) (a is : BlockAnswer) (key : List ℕ)
    → key ≡ key_in m
    → a ≡ is
    → a ≡ block_answer moment (s.peer, key) b m.payload (events rows)
    → block_uploaded purpose rows moment s m b ≡ outcome_of is purpose rows moment s m b
uploaded purpose rows moment s m b a is key same which answered =
    uploaded_by purpose rows moment s m b is (sym which
    ∙ (answered
    ∙ ap (λ (k : List ℕ). block_answer moment (s.peer, k) b m.payload (events rows)) same))

-- ---- its parts

-- the transfers of a desk whose step begins stand for the events before the row, at its moment
transfers_begun : (rows : List Row) (s : Step) (starved : Bool) (x : Seen)
    (out : List (Peer × List ℕ)) (mids : Mids)
    → UnderWay rows s starved nothing x out mids
    → TransfersStandFor (row_moment rows s) (events rows) x.transfers
unfolding events
transfers_begun rows s starved x out mids way =
    subst (λ (at : ℕ). TransfersStandFor at (events rows) x.transfers)
    (now-making rows s starved nothing way.no_look) way.stands.transfers

-- it is answered as after the events before the row
pub block_answered : (rows : List Row) (s : Step) (starved : Bool) (x d : Seen)
    (out : List (Peer × List ℕ)) (mids : Mids) (sender : Peer) (key : List ℕ) (b : Block)
    (piece : List ℕ) (a : BlockAnswer)
    → x ≡ d
    → s.peer ≡ sender
    → ((at : ℕ) (past : List Event)
    → at ≤ x.moment
    → TransfersStandFor at past x.transfers
    → a ≢ answer.Starved
    → a ≡ block_answer x.moment (sender, key) b piece past)
    → UnderWay rows s starved nothing d out mids
    → a ≢ answer.Starved
    → a ≡ block_answer (row_moment rows s) (s.peer, key) b piece (events rows)
block_answered rows s starved x d out mids sender key b piece a seen by answers way fed =
    let here : UnderWay rows s starved nothing x out mids =
    subst (λ (y : Seen). UnderWay rows s starved nothing y out mids) (sym seen) way in
    let moment : x.moment ≡ row_moment rows s = way_moment rows s starved nothing x out mids here in
    answers (row_moment rows s) (events rows) (omega (arith, moment))
    (transfers_begun rows s starved x out mids here) fed
    ∙ (ap (λ (n : ℕ). block_answer n (sender, key) b piece (events rows)) moment
    ∙ ap (λ (p : Peer). block_answer (row_moment rows s) (p, key) b piece (events rows)) (sym by))

-- where more follow it is collected
pub way_piece : (rows : List Row) (s : Step) (starved : Bool) (x d : Seen) (t : Table)
    (out : List (Peer × List ℕ)) (mids : Mids) (sender : Peer) (key : List ℕ) (number : ℕ)
    (piece : List ℕ)
    → x ≡ d
    → s.peer ≡ sender
    → ((at : ℕ) (past : List Event) (e : Event)
    → at ≤ x.moment
    → e.note ≡ note.Piece sender key number piece
    → e.moment ≡ x.moment
    → TransfersStandFor at past x.transfers
    → TransfersStandFor x.moment (e ∷ past) t)
    → UnderWay rows s starved nothing d out mids
    → UnderWay rows s starved (joined nothing (noting (note.Piece s.peer key number piece ∷ [])))
    (record x { transfers = t }) out mids
way_piece rows s starved x d t out mids sender key number piece seen by more way =
    let moment : x.moment ≡ row_moment rows s =
    ap (λ (y : Seen). y.moment) seen ∙ way_moment rows s starved nothing d out mids way in
    let past = events (making rows s starved nothing) in
    let n : Note = note.Piece s.peer key number piece in
    more_transfers rows s starved nothing (noting (n ∷ [])) x d t out out mids mids seen refl
    (λ h. subst (λ (at : ℕ). TransfersStandFor at (noting_more rows s (n ∷ []) past) t) moment
    (more (row_moment rows s) past (event_at (length rows) (row_moment rows s) s.word n)
    (omega (arith, moment)) (ap (λ (p : Peer). note.Piece p key number piece) by) (sym moment)
    h))
    (sends_notes (n ∷ []) out mids) way

-- an upload ends
pub way_finished : (rows : List Row) (s : Step) (starved : Bool) (done : Effects) (x d : Seen)
    (t : Table) (out : List (Peer × List ℕ)) (mids : Mids) (sender : Peer) (key : List ℕ)
    → x ≡ d
    → s.peer ≡ sender
    → ((at : ℕ) (past : List Event) (e : Event)
    → e.note ≡ note.Finished sender key
    → TransfersStandFor at past x.transfers
    → TransfersStandFor at (e ∷ past) t)
    → UnderWay rows s starved done d out mids
    → UnderWay rows s starved (joined done (noting (note.Finished s.peer key ∷ [])))
    (record x { transfers = t }) out mids
way_finished rows s starved done x d t out mids sender key seen by ends way =
    let n : Note = note.Finished s.peer key in
    more_transfers rows s starved done (noting (n ∷ [])) x d t out out mids mids seen refl
    (λ h. ends (row_moment rows s) (events (making rows s starved done))
    (event_at (length rows) (row_moment rows s) s.word n)
    (ap (λ (p : Peer). note.Finished p key) by) h)
    (sends_notes (n ∷ []) out mids) way

-- ---- what settles it

-- the write is open that is done
pub opened_by : (rows : List Row) (s : Step) (place : ℕ) (m : Message) (sender : Peer)
    (admitted : ℕ)
    → s.peer ≡ sender
    → IsOpen place s.peer m.mid admitted (events rows)
    → IsOpen place sender m.mid admitted (events rows)
opened_by rows s place m sender admitted by opened =
    subst (λ (p : Peer). IsOpen place p m.mid admitted (events rows)) by opened

-- a desk that is as before
pub unchanged : (rows : List Row) (s : Step) (starved : Bool) (d same : Seen)
    (out : List (Peer × List ℕ)) (mids : Mids)
    → same ≡ d
    → UnderWay rows s starved nothing d out mids
    → UnderWay rows s starved nothing same out mids
unchanged rows s starved d same out mids is way =
    subst (λ (y : Seen). UnderWay rows s starved nothing y out mids) (sym is) way

-- one that more follow
pub settled_piece : (purpose : changes.Purpose) (rows : List Row) (s : Step) (place : ℕ)
    (m : Message) (b : Block) (reply : Reply) (a : BlockAnswer) (key : List ℕ) (d : Seen)
    (out : List (Peer × List ℕ)) (mids : Mids)
    → key ≡ key_in m
    → a ≡ answer.More
    → reply ≡ record { code = codes_of.continue; options = block1_option b; payload = [] }
    → a ≡ block_answer (row_moment rows s) (s.peer, key) b m.payload (events rows)
    → UnderWay rows s false
    (joined (joined nothing (noting (note.Piece s.peer key b.num m.payload ∷ [])))
    (answering_settled place s m reply)) d out mids
    → UnderWay rows s false
    (settling place s m (block_uploaded purpose rows (row_moment rows s) s m b)) d out mids
settled_piece purpose rows s place m b reply a key d out mids same which said answered way =
    let meant : changes.Outcome = outcome_of answer.More purpose rows (row_moment rows s) s m b in
    let its : UnderWay rows s false
    (joined (joined nothing (noting meant.notes)) (answering_settled place s m reply)) d out
    mids =
    subst (λ (k : List ℕ).
    UnderWay rows s false
    (joined (joined nothing (noting (note.Piece s.peer k b.num m.payload ∷ [])))
    (answering_settled place s m reply)) d out mids) same way in
    subst (λ (e : Effects). UnderWay rows s false e d out mids)
    (settling-taken place s m reply meant said
    ∙ ap (λ (o : changes.Outcome). settling place s m o)
    (sym (uploaded purpose rows (row_moment rows s) s m b a answer.More key same which
    answered))) its

-- any other
pub settled_block : (purpose : changes.Purpose) (rows : List Row) (s : Step) (place : ℕ)
    (m : Message) (b : Block) (a is : BlockAnswer) (key : List ℕ) (d : Seen)
    (out : List (Peer × List ℕ)) (mids : Mids)
    → key ≡ key_in m
    → a ≡ is
    → a ≡ block_answer (row_moment rows s) (s.peer, key) b m.payload (events rows)
    → UnderWay rows s false
    (settling place s m (outcome_of is purpose rows (row_moment rows s) s m b)) d out mids
    → UnderWay rows s false
    (settling place s m (block_uploaded purpose rows (row_moment rows s) s m b)) d out mids
settled_block purpose rows s place m b a is key d out mids same which answered way =
    subst (λ (o : changes.Outcome). UnderWay rows s false (settling place s m o) d out mids)
    (sym (uploaded purpose rows (row_moment rows s) s m b a is key same which answered)) way

-- the last one, where its write does not fail
pub settled_whole : (purpose : changes.Purpose) (starved : Bool) (rows : List Row) (s : Step)
    (place : ℕ) (m : Message) (b : Block) (a : BlockAnswer) (body octets key : List ℕ) (d : Seen)
    (out : List (Peer × List ℕ)) (mids : Mids)
    → key ≡ key_in m
    → a ≡ answer.Whole body
    → octets ≡ body
    → a ≡ block_answer (row_moment rows s) (s.peer, key) b m.payload (events rows)
    → UnderWay rows s starved (unless_failing starved place s m (settling place s m
    (body_used purpose (entries rows) (row_moment rows s) s octets (block1_option b)
    (note.Finished s.peer key ∷ [])))) d out mids
    → UnderWay rows s starved (unless_failing starved place s m
    (settling place s m (block_uploaded purpose rows (row_moment rows s) s m b))) d out mids
settled_whole purpose starved rows s place m b a body octets key d out mids same which whole
    answered way =
    subst (λ (o : changes.Outcome).
    UnderWay rows s starved (unless_failing starved place s m (settling place s m o)) d out
    mids)
    (sym (uploaded purpose rows (row_moment rows s) s m b a (answer.Whole body) key same which
    answered))
    (subst (λ (k : List ℕ). UnderWay rows s starved
    (unless_failing starved place s m (settling place s m
    (body_used purpose (entries rows) (row_moment rows s) s body (block1_option b)
    (note.Finished s.peer k ∷ [])))) d out mids) same
    (subst (λ (os : List ℕ). UnderWay rows s starved
    (unless_failing starved place s m (settling place s m
    (body_used purpose (entries rows) (row_moment rows s) s os (block1_option b)
    (note.Finished s.peer key ∷ [])))) d out mids) whole way))

-- ---- a body that is whole

-- what a body enters is of its moment
entered_it : (why : Option Refusal) (it entry : Entry) (done : changes.Outcome) (more : List Note)
    → (entered_unless why it done).notes ≡ note.Entered entry ∷ more
    → it ≡ entry
entered_it None it entry done more h = cc
entered_it (Some refusal.Registration) it entry done more h = absurd cc
entered_it (Some refusal.Registrations) it entry done more h = absurd cc
entered_it (Some refusal.Text) it entry done more h = absurd cc
entered_it (Some refusal.Entries) it entry done more h = absurd cc

-- nor does a refused body
pub links_enter : (purpose : changes.Purpose) (history : List Entry) (moment : ℕ) (s : Step)
    (body : List ℕ) (options : List Opt) (further : List Note) (entry : Entry) (more : List Note)
    → (body_used purpose history moment s body options further).notes
    ≡ note.Entered entry ∷ more
    → entry.moment.0 ≡ moment
unfolding registration replacement
links_enter (changes.to_register params) history moment s body options further entry more h =
    by (body_read body) h
  where
    by : (read : BodyRead)
        → (registered_links history moment s params options further read).notes
        ≡ note.Entered entry ∷ more
        → entry.moment.0 ≡ moment
    by (bad_body payload) g = absurd cc
    by (good_body links) g =
        let it : Entry = entry_of_step moment s (change.Register params links) in
        sym (ap (λ (e : Entry). e.moment.0) (entered_it (change_refusal 0 history it) it entry
        (record {
          reply = changes.created_at
              (changes.number_after params.name moment (history ++ it ∷ [])) options;
          notes =
              further;
        }) more g))
links_enter (changes.to_replace number) history moment s body options further entry more h =
    by (body_read body) h
  where
    by : (read : BodyRead)
        → (replaced_links history moment s number options further read).notes
        ≡ note.Entered entry ∷ more
        → entry.moment.0 ≡ moment
    by (bad_body word) g = absurd cc
    by (good_body links) g =
        let it : Entry = entry_of_step moment s (change.Replace number links) in
        sym (ap (λ (e : Entry). e.moment.0) (entered_it (change_refusal 0 history it) it entry
        (record { reply = changes.changed_with options; notes = further }) more g))

-- it is planned so in the step, where it is planned so of the version that the desk shows
pub planned_here : (rows : List Row) (s : Step) (starved : Bool) (x d : Seen) (v : Version)
    (out : List (Peer × List ℕ)) (mids : Mids) (purpose : changes.Purpose) (body : List ℕ)
    (options : List Opt) (further : List Note) (o : Outcome)
    → x ≡ d
    → v ≡ x.version
    → ((history : List Entry)
    → VersionStandsFor 0 history v
    → IsPlanned history v.swept further
    (body_used purpose history x.moment s body options further) o)
    → UnderWay rows s starved nothing d out mids
    → IsPlanned (entries rows) d.version.swept further
    (body_used purpose (entries rows) (row_moment rows s) s body options further) o
planned_here rows s starved x d v out mids purpose body options further o seen same planned way =
    let here : UnderWay rows s starved nothing x out mids =
    subst (λ (y : Seen). UnderWay rows s starved nothing y out mids) (sym seen) way in
    let moment : x.moment ≡ row_moment rows s = way_moment rows s starved nothing x out mids here in
    let history : VersionStandsFor 0 (entries rows) x.version =
    subst (λ (es : List Entry). VersionStandsFor 0 es x.version)
    (entries-making_nothing rows s starved) here.stands.directory.history in
    let its : IsPlanned (entries rows) x.version.swept further
    (body_used purpose (entries rows) x.moment s body options further) o =
    subst (λ (w : Version).
    VersionStandsFor 0 (entries rows) w
    → IsPlanned (entries rows) w.swept further
    (body_used purpose (entries rows) x.moment s body options further) o) same
    (planned (entries rows)) history in
    subst (λ (n : ℕ).
    IsPlanned (entries rows) n further
    (body_used purpose (entries rows) (row_moment rows s) s body options further) o)
    (ap (λ (y : Seen). y.version.swept) seen)
    (subst (λ (n : ℕ).
    IsPlanned (entries rows) x.version.swept further
    (body_used purpose (entries rows) n s body options further) o) moment its)

-- what is planned without an entry is a refusal
pub refused_notes : (history : List Entry) (swept : ℕ) (further : List Note)
    (meant : changes.Outcome) (o : Outcome)
    → o.entering ≡ None
    → IsPlanned history swept further meant o
    → meant.notes ≡ []
refused_notes history swept further meant o none planned =
    subst (λ (e : Option Entering). AreNotes history swept further meant.notes e) none planned.notes

-- and with one it notes that, and more
pub record IsAccepted (history : List Entry) (swept : ℕ) (further notes : List Note)
    (e : Entering) : Type 0 where
  pub entry : Entry
  pub noted : notes ≡ note.Entered entry ∷ further
  pub is_of : IsEntering history swept entry e

pub accepted_notes : (history : List Entry) (swept : ℕ) (further : List Note)
    (meant : changes.Outcome) (o : Outcome) (e : Entering)
    → o.entering ≡ Some e
    → IsPlanned history swept further meant o
    → IsAccepted history swept further meant.notes e
accepted_notes history swept further meant o e some planned =
    let it =
    subst (λ (e : Option Entering). AreNotes history swept further meant.notes e) some
    planned.notes in
    record { entry = it.0; noted = it.1; is_of = it.2 }

-- it is entered, its upload ends, and its answer settles it
pub settled_upload : (rows : List Row) (s : Step) (starved : Bool) (place : ℕ) (m : Message)
    (reply : Reply) (entry : Entry) (key : List ℕ) (meant : changes.Outcome) (d : Seen)
    (out : List (Peer × List ℕ)) (mids : Mids)
    → reply ≡ meant.reply
    → meant.notes ≡ note.Entered entry ∷ note.Finished s.peer key ∷ []
    → UnderWay rows s starved (joined (joined (joined nothing (noting (note.Entered entry ∷ [])))
    (noting (note.Finished s.peer key ∷ []))) (answering_settled place s m reply)) d out
    mids
    → UnderWay rows s starved (settling place s m meant) d out mids
settled_upload rows s starved place m reply entry key meant d out mids said noted way =
    subst (λ (e : Effects). UnderWay rows s starved e d out mids)
    (settling-noted place s m reply entry (note.Finished s.peer key ∷ []) meant said noted) way

-- a write is refused, and its answer settles it
pub settled_refusal : (rows : List Row) (s : Step) (starved : Bool) (place : ℕ) (m : Message)
    (reply : Reply) (meant : changes.Outcome) (d : Seen) (out : List (Peer × List ℕ)) (mids : Mids)
    → reply ≡ meant.reply
    → meant.notes ≡ []
    → UnderWay rows s starved (joined nothing (answering_settled place s m reply)) d out mids
    → UnderWay rows s starved (settling place s m meant) d out mids
settled_refusal rows s starved place m reply meant d out mids said none way =
    subst (λ (e : Effects). UnderWay rows s starved e d out mids)
    (settling-refused place s m reply meant said none) way
