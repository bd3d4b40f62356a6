-- Datagrams that are neither 2.05 nor 2.03: what refusals, writes, commits, responses and empty
-- messages send.
use Rattle.std.proofs.Common.{
  ◌≡◌,
  ℕ,
  ◌+◌,
  ◌==◌,
  Bool,
  true,
  false,
  cond,
  List,
  [],
  ◌∷◌,
  ◌++◌,
  length,
  Option,
  Some,
  None,
  refl,
  sym,
  subst,
  ◌∙◌,
  codes,
  nat_lt,
}
use Rattle.std.specs.List.{AllByRecursion}
use Rattle.std.proofs.lemmas.Bool.{and_parts, false≢true}
use Rattle.rd_base.specs.declared.peers.Peer.{Peer}
use Rattle.rd_base.specs.declared.parameters.RegParams.{RegParams}
use Rattle.message_model.specs.declared.blocks.Block.{Block}
use Rattle.message_model.specs.declared.messages.Kind4.{Kind4}
use Rattle.message_model.specs.declared.messages.Kind4.TheVariants.{Con, Non, Ack, Rst}
use Rattle.message_model.specs.declared.messages.Unread.{Unread}
use Rattle.message_model.specs.declared.messages.Unread.TheVariants as unread
use Rattle.message_model.specs.declared.requests.Refusal as requests
use Rattle.message_model.specs.declared.requests.Refusal.TheVariants as refused_for
use Rattle.message_model.specs.Codes as codes_of
use Rattle.message_model.specs.Message.{Message, Opt}
use Rattle.message_model.specs.Spelling.{header_spelling, spelling}
use Rattle.message_model.specs.Refusals.{refusal_of, refusal_code}
use Rattle.message_model.specs.Request.{queries_in}
use Rattle.message_model.specs.RequestKey.{key_in}
use Rattle.message_model.specs.Uploads.{max_body, collected_before, is_one_too_many}
use Rattle.record_model.specs.Parameters.{registration_values}
use Rattle.history_model.specs.declared.entries.Change.TheVariants as change
use Rattle.history_model.specs.declared.entries.Entry.{Entry}
use Rattle.history_model.specs.declared.refusals.Refusal.{Refusal}
use Rattle.history_model.specs.declared.refusals.Refusal.TheVariants as refusal
use Rattle.history_model.specs.Refusals.{change_refusal}
use Rattle.event_model.specs.declared.notes.Note.{Note}
use Rattle.event_model.specs.declared.notes.Note.TheVariants as note
use Rattle.event_model.specs.Events.{Event}
use Rattle.event_model.specs.Repeats.{repeated, settled, is_full_of_exchanges}
use Rattle.event_model.specs.Uploads.{live_upload, live_uploads}
use Rattle.journal_model.specs.declared.steps.Step.{Step}
use Rattle.journal_model.specs.declared.rows.Row.{Row}
use Rattle.journal_model.specs.Journal.{events, entries}
use Rattle.journal_model.specs.Effects.{Reply, bare, diagnostic, answer, answering, without_memory}
use Rattle.journal_model.specs.Requests.{
  sent_block,
  has_bad_query,
  has_bad_payload,
  refusal_or_next,
  refusal_of_request,
}
use Rattle.journal_model.specs.Changes.{
  Outcome,
  refused_as,
  entered_unless,
  change_made,
  BodyRead,
  bad_body,
  good_body,
  body_read,
  registered_links,
  registration,
  created_at,
  changed_with,
  number_after,
  entry_of_step,
  replaced_links,
  replacement,
  Purpose,
  to_register,
  to_replace,
  body_used,
}
use Rattle.journal_model.specs.Registrations.{
  block_taken,
  block_unless,
  block_after,
  block_uploaded,
  links_outcome,
  registering,
  replacing,
  block_room,
}
use Rattle.journal_model.specs.Writes.{
  again_answered,
  is_unproved,
  admitted_unless,
  write_unless,
  write_effects,
}
use Rattle.journal_model.specs.Rows.{refusal_answered, unread_answered}
use Rattle.journal_model.specs.PlacedRows.{code_at}
use Rattle.journal_model.proofs.NoteKinds.{are}

-- a code is neither 2.05 nor 2.03
pub record IsPlainCode (code : ℕ) : Type 0 where
  pub no_content : (code == codes_of.content) ≡ false
  pub no_valid : (code == codes_of.valid) ≡ false

-- octets with such a code
abbrev pub IsPlain : List ℕ → Type 0
IsPlain octets = IsPlainCode (code_at octets)

-- all that is sent is so
abbrev pub ArePlain : List (Peer × List ℕ) → Type 0
ArePlain sent = AllByRecursion (λ (d : Peer × List ℕ). IsPlain d.1) sent

-- what spells a message has its code
pub plain_spelled : (m : Message) → IsPlainCode m.code → IsPlain (spelling m)
unfolding spelling header_spelling
plain_spelled m plain = plain

-- an answer with such a code
pub plain_answering : (s : Step) (m : Message) (reply : Reply) (notes : List Note)
    → IsPlainCode reply.code
    → ArePlain (answering s m reply notes).sent
unfolding answering
plain_answering s m reply notes plain = (plain_spelled (answer s m reply) plain, tt)

-- ---- refusals

-- a refusal, where there is one, has such a code
abbrev PlainIf : Option Reply → Type 0
PlainIf None = Unit {0}
PlainIf (Some reply) = IsPlainCode reply.code

-- the refusal that a request alone decides
refusal_PlainIf : (m : Message) → PlainIf (refusal_of_request m)
unfolding refusal_of_request
refusal_PlainIf m = by (refusal_of m)
  where
    coded : (why : requests.Refusal) → IsPlainCode (refusal_code why)
    coded (refused_for.BadOption number) = record { no_content = refl; no_valid = refl }
    coded refused_for.Proxy = record { no_content = refl; no_valid = refl }
    coded refused_for.Path = record { no_content = refl; no_valid = refl }
    coded refused_for.Method = record { no_content = refl; no_valid = refl }
    coded refused_for.Block = record { no_content = refl; no_valid = refl }
    coded refused_for.Accept = record { no_content = refl; no_valid = refl }
    coded refused_for.Format = record { no_content = refl; no_valid = refl }

    later : (a b : Bool) (query payload : List ℕ)
        → PlainIf (cond a (Some (diagnostic codes_of.bad_request query))
        (cond b (Some (diagnostic codes_of.bad_request payload)) None))
    later true b query payload = record { no_content = refl; no_valid = refl }
    later false true query payload = record { no_content = refl; no_valid = refl }
    later false false query payload = tt

    by : (why : Option requests.Refusal) → PlainIf (refusal_or_next why m)
    by (Some why) = coded why
    by None = later (has_bad_query m) (has_bad_payload m) (codes "query") (codes "payload")

-- what is answered to a refusal
pub refusal_plain : (m : Message) (reply : Reply)
    → refusal_of_request m ≡ Some reply
    → IsPlainCode reply.code
refusal_plain m reply e = subst PlainIf e (refusal_PlainIf m)

-- and the answer to it
pub refused_plain : (kind : Kind4) (bad : Option ℕ) (s : Step) (m : Message) (reply : Reply)
    → IsPlainCode reply.code
    → ArePlain (refusal_answered kind bad s m reply).sent
refused_plain Non (Some number) s m reply plain = tt
refused_plain Non None s m reply plain = plain_answering s m reply [] plain
refused_plain Con bad s m reply plain = plain_answering s m reply [] plain
refused_plain Ack bad s m reply plain = plain_answering s m reply [] plain
refused_plain Rst bad s m reply plain = plain_answering s m reply [] plain

-- 5.00 when out of memory
pub starved_plain : (s : Step) (m : Message) → ArePlain (without_memory s m).sent
starved_plain s m =
    plain_answering s m (bare codes_of.internal_server_error) []
    (record { no_content = refl; no_valid = refl })

-- what is no message
pub unread_plain : (s : Step) (fault : Unread) → ArePlain (unread_answered s fault).sent
unfolding spelling header_spelling
unread_plain s unread.Short = tt
unread_plain s unread.Version = tt
unread_plain s (unread.Format Con mid) = (record { no_content = refl; no_valid = refl }, tt)
unread_plain s (unread.Format Non mid) = tt
unread_plain s (unread.Format Ack mid) = tt
unread_plain s (unread.Format Rst mid) = tt

-- ---- writes

-- the octets that an admission was answered with
abbrev pub SettledPlain : List Event → Type 0
SettledPlain events =
    (place : ℕ) (octets : List ℕ) → settled place events ≡ Some octets → IsPlain octets

-- a write as it is heard: a repeat, one too many, one that is challenged, or one that is admitted
pub write_plain : (events : List Event) (moment : ℕ) (s : Step) (m : Message)
    → SettledPlain events
    → ArePlain (write_effects events moment s m).sent
unfolding write_effects
write_plain events moment s m before = by (repeated moment s.peer m.mid events)
  where
    again : (place : ℕ) (octets : Option (List ℕ))
        → settled place events ≡ octets
        → ArePlain (again_answered s octets).sent
    again place None e = tt
    again place (Some octets) e = (before place octets e, tt)

    new : (full unproved : Bool) → ArePlain (admitted_unless full unproved events s m).sent
    new true unproved = plain_answering s m _ [] (record { no_content = refl; no_valid = refl })
    new false true = plain_answering s m _ _ (record { no_content = refl; no_valid = refl })
    new false false = tt

    by : (first : Option Event) → ArePlain (write_unless first events moment s m).sent
    by (Some first) = again first.place (settled first.place events) refl
    by None = new (is_full_of_exchanges moment events) (is_unproved events moment s m)

-- ---- commits

-- what comes of a change
pub change_plain : (history : List Entry) (entry : Entry) (done : Outcome)
    → IsPlainCode done.reply.code
    → IsPlainCode (change_made history entry done).reply.code
change_plain history entry done plain = by (change_refusal 0 history entry)
  where
    refused : (why : Refusal) → IsPlainCode (refused_as why).reply.code
    refused refusal.Registration = record { no_content = refl; no_valid = refl }
    refused refusal.Registrations = record { no_content = refl; no_valid = refl }
    refused refusal.Text = record { no_content = refl; no_valid = refl }
    refused refusal.Entries = record { no_content = refl; no_valid = refl }

    by : (why : Option Refusal) → IsPlainCode (entered_unless why entry done).reply.code
    by (Some why) = refused why
    by None = plain

-- a registration of a whole body
registration_plain : (history : List Entry) (moment : ℕ) (s : Step) (params : RegParams)
    (body : List ℕ) (further : List Opt) (notes : List Note)
    → IsPlainCode (registration history moment s params body further notes).reply.code
unfolding registration
registration_plain history moment s params body further notes = by (body_read body)
  where
    by : (read : BodyRead)
        → IsPlainCode (registered_links history moment s params further notes read).reply.code
    by (bad_body word) = record { no_content = refl; no_valid = refl }
    by (good_body links) =
        let entry : Entry = entry_of_step moment s (change.Register params links) in
        change_plain history entry
        (record {
          reply = created_at (number_after params.name moment (history ++ entry ∷ []))
              further;
          notes = notes;
        }) (record { no_content = refl; no_valid = refl })

-- a replacement of links by those of a whole body
replacement_plain : (history : List Entry) (moment : ℕ) (s : Step) (number : ℕ) (body : List ℕ)
    (further : List Opt) (notes : List Note)
    → IsPlainCode (replacement history moment s number body further notes).reply.code
unfolding replacement
replacement_plain history moment s number body further notes = by (body_read body)
  where
    by : (read : BodyRead)
        → IsPlainCode (replaced_links history moment s number further notes read).reply.code
    by (bad_body word) = record { no_content = refl; no_valid = refl }
    by (good_body links) =
        change_plain history (entry_of_step moment s (change.Replace number links))
        (record { reply = changed_with further; notes = notes })
        (record { no_content = refl; no_valid = refl })

-- a whole body, by what its links are for
body_used_plain : (purpose : Purpose) (history : List Entry) (moment : ℕ) (s : Step)
    (body : List ℕ) (further : List Opt) (notes : List Note)
    → IsPlainCode (body_used purpose history moment s body further notes).reply.code
body_used_plain (to_register params) history moment s body further notes =
    registration_plain history moment s params body further notes
body_used_plain (to_replace number) history moment s body further notes =
    replacement_plain history moment s number body further notes

-- links that come whole, or a block of them
links_plain : (block : Option Block) (purpose : Purpose) (rows : List Row) (moment : ℕ) (s : Step)
    (m : Message)
    → IsPlainCode (links_outcome block purpose rows moment s m).reply.code
unfolding block_uploaded
links_plain block purpose rows moment s m = by block
  where
    taken : (more : Bool) (b : Block) (body : List ℕ)
        → IsPlainCode (block_taken more purpose rows moment s m b body).reply.code
    taken true b body = record { no_content = refl; no_valid = refl }
    taken false b body =
        body_used_plain purpose (entries rows) moment s body _
        (note.Finished s.peer (key_in m) ∷ [])

    unless : (too_long too_many : Bool) (b : Block) (body : List ℕ)
        → IsPlainCode (block_unless (block_room too_long too_many) purpose rows moment s m b
        body).reply.code
    unless true too_many b body = record { no_content = refl; no_valid = refl }
    unless false true b body = record { no_content = refl; no_valid = refl }
    unless false false b body = taken b.more b body

    after : (front upload : Option (List ℕ)) (b : Block)
        → IsPlainCode (block_after front upload purpose rows moment s m b).reply.code
    after None upload b = record { no_content = refl; no_valid = refl }
    after (Some front) upload b =
        unless (nat_lt max_body (length front + length m.payload))
        (is_one_too_many b upload (live_uploads moment (events rows))) b (front ++ m.payload)

    by : (b : Option Block) → IsPlainCode (links_outcome b purpose rows moment s m).reply.code
    by None = body_used_plain purpose (entries rows) moment s m.payload [] []
    by (Some b) =
        let upload : Option (List ℕ) = live_upload moment (s.peer, key_in m) (events rows) in
        after (collected_before b upload) upload b

-- a registration, and a replacement of links
pub registering_plain : (rows : List Row) (moment : ℕ) (s : Step) (m : Message)
    → IsPlainCode (registering rows moment s m).reply.code
unfolding registering
registering_plain rows moment s m =
    links_plain (sent_block m) (to_register (registration_values (queries_in m))) rows moment s m

pub replacing_plain : (rows : List Row) (moment : ℕ) (s : Step) (m : Message) (number : ℕ)
    → IsPlainCode (replacing rows moment s m number).reply.code
unfolding replacing
replacing_plain rows moment s m number =
    links_plain (sent_block m) (to_replace number) rows moment s m

-- what notes settle is so
abbrev pub SettlesPlainly : Note → Type 0
SettlesPlainly (note.Settled place octets) = IsPlain octets
SettlesPlainly _ = Unit {0}

-- notes of a kind that settles nothing
pub never_settles : (kind : Note → Bool)
    → ((place : ℕ) (octets : List ℕ) → kind (note.Settled place octets) ≡ false)
    → (notes : List Note)
    → are kind notes ≡ true
    → AllByRecursion SettlesPlainly notes
never_settles kind never [] h = tt
never_settles kind never (n ∷ notes) h = (
  by n (and_parts (kind n) (are kind notes) h).0,
  never_settles kind never notes
      (and_parts (kind n) (are kind notes) h).1,
)
  where
    by : (x : Note) → kind x ≡ true → SettlesPlainly x
    by (note.Settled place octets) fits = absurd (false≢true (sym (never place octets) ∙ fits))
    by _ fits = tt
