-- The codes of replies: refusals, what is no message, and what comes of changes. None is the code
-- of a request.
use Rattle.std.proofs.Common.{
  ◌≡◌,
  ℕ,
  ◌+◌,
  Bool,
  true,
  false,
  cond,
  List,
  [],
  ◌∷◌,
  ◌++◌,
  length,
  Option,
  Some,
  None,
  refl,
  subst,
  codes,
  nat_lt,
}
use Rattle.std.specs.List.{AllByRecursion}
use Rattle.rd_base.specs.declared.peers.Peer.{Peer}
use Rattle.rd_base.specs.declared.parameters.RegParams.{RegParams}
use Rattle.message_model.specs.declared.blocks.Block.{Block}
use Rattle.message_model.specs.declared.messages.Kind4.{Kind4}
use Rattle.message_model.specs.declared.messages.Kind4.TheVariants.{Con, Non, Ack, Rst}
use Rattle.message_model.specs.declared.messages.Unread.{Unread}
use Rattle.message_model.specs.declared.messages.Unread.TheVariants as unread
use Rattle.message_model.specs.declared.requests.Refusal as requests
use Rattle.message_model.specs.declared.requests.Refusal.TheVariants as refused_for
use Rattle.message_model.specs.Codes as codes_of
use Rattle.message_model.specs.Message.{Message, Opt}
use Rattle.message_model.specs.Spelling.{header_spelling, spelling}
use Rattle.message_model.specs.Refusals.{refusal_of, refusal_code}
use Rattle.message_model.specs.Request.{queries_in}
use Rattle.message_model.specs.RequestKey.{key_in}
use Rattle.message_model.specs.Uploads.{max_body, collected_before, is_one_too_many}
use Rattle.record_model.specs.Parameters.{registration_values}
use Rattle.history_model.specs.declared.entries.Change.TheVariants as change
use Rattle.history_model.specs.declared.entries.Entry.{Entry}
use Rattle.history_model.specs.declared.refusals.Refusal.{Refusal}
use Rattle.history_model.specs.declared.refusals.Refusal.TheVariants as refusal
use Rattle.history_model.specs.Refusals.{change_refusal}
use Rattle.event_model.specs.declared.notes.Note.{Note}
use Rattle.event_model.specs.declared.notes.Note.TheVariants as note
use Rattle.event_model.specs.Uploads.{live_upload, live_uploads}
use Rattle.journal_model.specs.declared.steps.Step.{Step}
use Rattle.journal_model.specs.declared.rows.Row.{Row}
use Rattle.journal_model.specs.Journal.{events, entries}
use Rattle.journal_model.specs.Effects.{Reply, bare, diagnostic, answer, answering, without_memory}
use Rattle.journal_model.specs.Requests.{
  sent_block,
  has_bad_query,
  has_bad_payload,
  refusal_or_next,
  refusal_of_request,
}
use Rattle.journal_model.specs.Changes.{
  Outcome,
  refused_as,
  entered_unless,
  change_made,
  BodyRead,
  bad_body,
  good_body,
  body_read,
  registered_links,
  registration,
  created_at,
  changed_with,
  number_after,
  entry_of_step,
  replaced_links,
  replacement,
  Purpose,
  to_register,
  to_replace,
  body_used,
}
use Rattle.journal_model.specs.Registrations.{
  block_taken,
  block_unless,
  block_after,
  block_uploaded,
  links_outcome,
  registering,
  replacing,
  block_room,
}
use Rattle.journal_model.specs.Rows.{refusal_answered, unread_answered}
use Rattle.journal_model.specs.PlacedRows.{code_at}

-- a code is none of a request
abbrev pub IsReplyCode : ℕ → Type 0
IsReplyCode code = codes_of.is_request_code code ≡ false

-- octets with such a code
abbrev pub IsReply : List ℕ → Type 0
IsReply octets = IsReplyCode (code_at octets)

-- all that is sent is so
abbrev pub AreReplies : List (Peer × List ℕ) → Type 0
AreReplies sent = AllByRecursion (λ (d : Peer × List ℕ). IsReply d.1) sent

-- what spells a message has its code
pub spelled_replies : (m : Message) → IsReplyCode m.code → IsReply (spelling m)
unfolding spelling header_spelling
spelled_replies m good = good

-- an answer with such a code
pub answering_replies : (s : Step) (m : Message) (reply : Reply) (notes : List Note)
    → IsReplyCode reply.code
    → AreReplies (answering s m reply notes).sent
unfolding answering
answering_replies s m reply notes good = (spelled_replies (answer s m reply) good, tt)

-- ---- refusals

-- a refusal, where there is one, has such a code
abbrev ReplyIf : Option Reply → Type 0
ReplyIf None = Unit {0}
ReplyIf (Some reply) = IsReplyCode reply.code

-- the refusal that a request alone decides
refusal_ReplyIf : (m : Message) → ReplyIf (refusal_of_request m)
unfolding refusal_of_request
refusal_ReplyIf m = by (refusal_of m)
  where
    coded : (why : requests.Refusal) → IsReplyCode (refusal_code why)
    coded (refused_for.BadOption number) = refl
    coded refused_for.Proxy = refl
    coded refused_for.Path = refl
    coded refused_for.Method = refl
    coded refused_for.Block = refl
    coded refused_for.Accept = refl
    coded refused_for.Format = refl

    later : (a b : Bool) (query payload : List ℕ)
        → ReplyIf (cond a (Some (diagnostic codes_of.bad_request query))
        (cond b (Some (diagnostic codes_of.bad_request payload)) None))
    later true b query payload = refl
    later false true query payload = refl
    later false false query payload = tt

    by : (why : Option requests.Refusal) → ReplyIf (refusal_or_next why m)
    by (Some why) = coded why
    by None = later (has_bad_query m) (has_bad_payload m) (codes "query") (codes "payload")

-- what is answered to a refusal
pub refusal_replies : (m : Message) (reply : Reply)
    → refusal_of_request m ≡ Some reply
    → IsReplyCode reply.code
refusal_replies m reply e = subst ReplyIf e (refusal_ReplyIf m)

-- and the answer to it
pub refused_replies : (kind : Kind4) (bad : Option ℕ) (s : Step) (m : Message) (reply : Reply)
    → IsReplyCode reply.code
    → AreReplies (refusal_answered kind bad s m reply).sent
refused_replies Non (Some number) s m reply good = tt
refused_replies Non None s m reply good = answering_replies s m reply [] good
refused_replies Con bad s m reply good = answering_replies s m reply [] good
refused_replies Ack bad s m reply good = answering_replies s m reply [] good
refused_replies Rst bad s m reply good = answering_replies s m reply [] good

-- 5.00 when out of memory
pub starved_replies : (s : Step) (m : Message) → AreReplies (without_memory s m).sent
starved_replies s m =
    answering_replies s m (bare codes_of.internal_server_error) []
    refl

-- what is no message
pub unread_replies : (s : Step) (fault : Unread) → AreReplies (unread_answered s fault).sent
unfolding spelling header_spelling
unread_replies s unread.Short = tt
unread_replies s unread.Version = tt
unread_replies s (unread.Format Con mid) = (refl, tt)
unread_replies s (unread.Format Non mid) = tt
unread_replies s (unread.Format Ack mid) = tt
unread_replies s (unread.Format Rst mid) = tt

-- ---- commits

-- what comes of a change
pub change_replies : (history : List Entry) (entry : Entry) (done : Outcome)
    → IsReplyCode done.reply.code
    → IsReplyCode (change_made history entry done).reply.code
change_replies history entry done good = by (change_refusal 0 history entry)
  where
    refused : (why : Refusal) → IsReplyCode (refused_as why).reply.code
    refused refusal.Registration = refl
    refused refusal.Registrations = refl
    refused refusal.Text = refl
    refused refusal.Entries = refl

    by : (why : Option Refusal) → IsReplyCode (entered_unless why entry done).reply.code
    by (Some why) = refused why
    by None = good

-- a registration of a whole body
registration_replies : (history : List Entry) (moment : ℕ) (s : Step) (params : RegParams)
    (body : List ℕ) (further : List Opt) (notes : List Note)
    → IsReplyCode (registration history moment s params body further notes).reply.code
unfolding registration
registration_replies history moment s params body further notes = by (body_read body)
  where
    by : (read : BodyRead)
        → IsReplyCode (registered_links history moment s params further notes read).reply.code
    by (bad_body word) = refl
    by (good_body links) =
        let entry : Entry = entry_of_step moment s (change.Register params links) in
        change_replies history entry
        (record {
          reply = created_at (number_after params.name moment (history ++ entry ∷ []))
              further;
          notes = notes;
        }) refl

-- a replacement of links by those of a whole body
replacement_replies : (history : List Entry) (moment : ℕ) (s : Step) (number : ℕ) (body : List ℕ)
    (further : List Opt) (notes : List Note)
    → IsReplyCode (replacement history moment s number body further notes).reply.code
unfolding replacement
replacement_replies history moment s number body further notes = by (body_read body)
  where
    by : (read : BodyRead)
        → IsReplyCode (replaced_links history moment s number further notes read).reply.code
    by (bad_body word) = refl
    by (good_body links) =
        change_replies history (entry_of_step moment s (change.Replace number links))
        (record { reply = changed_with further; notes = notes })
        refl

-- a whole body, by what its links are for
body_used_replies : (purpose : Purpose) (history : List Entry) (moment : ℕ) (s : Step)
    (body : List ℕ) (further : List Opt) (notes : List Note)
    → IsReplyCode (body_used purpose history moment s body further notes).reply.code
body_used_replies (to_register params) history moment s body further notes =
    registration_replies history moment s params body further notes
body_used_replies (to_replace number) history moment s body further notes =
    replacement_replies history moment s number body further notes

-- links that come whole, or a block of them
links_replies : (block : Option Block) (purpose : Purpose) (rows : List Row) (moment : ℕ) (s : Step)
    (m : Message)
    → IsReplyCode (links_outcome block purpose rows moment s m).reply.code
unfolding block_uploaded
links_replies block purpose rows moment s m = by block
  where
    taken : (more : Bool) (b : Block) (body : List ℕ)
        → IsReplyCode (block_taken more purpose rows moment s m b body).reply.code
    taken true b body = refl
    taken false b body =
        body_used_replies purpose (entries rows) moment s body _
        (note.Finished s.peer (key_in m) ∷ [])

    unless : (too_long too_many : Bool) (b : Block) (body : List ℕ)
        → IsReplyCode (block_unless (block_room too_long too_many) purpose rows moment s m b
        body).reply.code
    unless true too_many b body = refl
    unless false true b body = refl
    unless false false b body = taken b.more b body

    after : (front upload : Option (List ℕ)) (b : Block)
        → IsReplyCode (block_after front upload purpose rows moment s m b).reply.code
    after None upload b = refl
    after (Some front) upload b =
        unless (nat_lt max_body (length front + length m.payload))
        (is_one_too_many b upload (live_uploads moment (events rows))) b (front ++ m.payload)

    by : (b : Option Block) → IsReplyCode (links_outcome b purpose rows moment s m).reply.code
    by None = body_used_replies purpose (entries rows) moment s m.payload [] []
    by (Some b) =
        let upload : Option (List ℕ) = live_upload moment (s.peer, key_in m) (events rows) in
        after (collected_before b upload) upload b

-- a registration, and a replacement of links
pub registering_replies : (rows : List Row) (moment : ℕ) (s : Step) (m : Message)
    → IsReplyCode (registering rows moment s m).reply.code
unfolding registering
registering_replies rows moment s m =
    links_replies (sent_block m) (to_register (registration_values (queries_in m))) rows moment s m

pub replacing_replies : (rows : List Row) (moment : ℕ) (s : Step) (m : Message) (number : ℕ)
    → IsReplyCode (replacing rows moment s m number).reply.code
unfolding replacing
replacing_replies rows moment s m number =
    links_replies (sent_block m) (to_replace number) rows moment s m
