-- The answer to each write: its code is one of responses, it has no Observe option, and a 2.01
-- names the location of the registration that is noted beside it.
use Rattle.std.proofs.Common.{
  ◌≡◌,
  ℕ,
  ◌+◌,
  Bool,
  true,
  false,
  cond,
  List,
  [],
  ◌∷◌,
  ◌++◌,
  length,
  Option,
  Some,
  None,
  codes,
  decimal,
  nat_lt,
  refl,
  ap,
  subst,
  arith,
}
use Rattle.rd_base.specs.declared.parameters.RegParams.{RegParams}
use Rattle.rd_base.specs.declared.submitted_links.SubmittedLink.{SubmittedLink}
use Rattle.message_model.specs.declared.blocks.Block.{Block}
use Rattle.message_model.specs.declared.requests.Refusal as requests
use Rattle.message_model.specs.declared.requests.Refusal.TheVariants as refused_for
use Rattle.message_model.specs.Codes as codes_of
use Rattle.message_model.specs.Message.{Message, Opt}
use Rattle.message_model.specs.OptionTable as table
use Rattle.message_model.specs.OptionTable.{stands_in}
use Rattle.message_model.specs.Refusals.{refusal_of, refusal_code}
use Rattle.message_model.specs.Request.{queries_in}
use Rattle.message_model.specs.RequestKey.{key_in}
use Rattle.message_model.specs.Uploads.{max_body, collected_before, is_one_too_many}
use Rattle.record_model.specs.Parameters.{registration_values}
use Rattle.history_model.specs.declared.entries.Change.TheVariants as change
use Rattle.history_model.specs.declared.entries.Entry.{Entry}
use Rattle.history_model.specs.declared.refusals.Refusal.{Refusal}
use Rattle.history_model.specs.declared.refusals.Refusal.TheVariants as refusal
use Rattle.history_model.specs.Refusals.{change_refusal}
use Rattle.event_model.specs.declared.notes.Note.{Note}
use Rattle.event_model.specs.declared.notes.Note.TheVariants as note
use Rattle.event_model.specs.Uploads.{live_upload, live_uploads}
use Rattle.journal_model.specs.declared.steps.Step.{Step}
use Rattle.journal_model.specs.declared.rows.Row.{Row}
use Rattle.journal_model.specs.Journal.{events, entries}
use Rattle.journal_model.specs.Effects.{Reply, diagnostic}
use Rattle.journal_model.specs.Requests.{
  Method,
  get,
  post,
  put,
  delete,
  other_method,
  sent_block,
  has_bad_query,
  has_bad_payload,
  refusal_or_next,
  refusal_of_request,
}
use Rattle.journal_model.specs.Changes.{
  Outcome,
  refused_as,
  entered_unless,
  change_made,
  BodyRead,
  bad_body,
  good_body,
  body_read,
  registered_links,
  registration,
  created_at,
  changed_with,
  number_after,
  entry_of_step,
  replaced_links,
  replacement,
  Purpose,
  to_register,
  to_replace,
  body_used,
}
use Rattle.journal_model.specs.Registrations.{
  block_taken,
  block_unless,
  block_after,
  block_uploaded,
  links_outcome,
  registering,
  replacing,
  block_room,
  block1_option,
}
use Rattle.journal_model.specs.Commits.{location_outcome}
use Rattle.journal_model.proofs.EntriesNoted.{entries_in}
use Rattle.headline_law.specs.AnsweredAlike.{is_code_of_write, location_named}

-- the options name the location of the one registration that is noted
pub record LocatesEntry (history : List Entry) (moment : ℕ) (options : List Opt)
    (notes : List Note) : Type 0 where
  pub entry : Entry
  pub params : RegParams
  pub links : List SubmittedLink
  pub entered : entries_in notes ≡ entry ∷ []
  pub registers : entry.change ≡ change.Register params links
  pub located : location_named options
      ≡ codes "rd" ∷ decimal (number_after params.name moment (history ++ entry ∷ [])) ∷ []

-- a reply with what is noted beside it
pub record IsReported (history : List Entry) (moment : ℕ) (reply : Reply) (notes : List Note) : Type
    0 where
  pub responds : codes_of.is_response_code reply.code ≡ true
  pub unobserved : stands_in table.observe reply.options ≡ false
  pub located : reply.code ≡ codes_of.created → LocatesEntry history moment reply.options notes

-- so it is of what comes of a write
abbrev pub IsReportedOutcome : List Entry → ℕ → Outcome → Type 0
IsReportedOutcome history moment o = IsReported history moment o.reply o.notes

-- a code that is not 2.01, with a payload and no option
pub reported_plain : (history : List Entry) (moment code : ℕ) (payload : List ℕ) (notes : List Note)
    → codes_of.is_response_code code ≡ true
    → (code ≡ codes_of.created → ⊥)
    → IsReported history moment (diagnostic code payload) notes
reported_plain history moment code payload notes class other = record {
  responds = class;
  unobserved = refl;
  located = λ e. absurd (other e);
}

-- ---- refusals that a request alone decides

-- a refusal, where there is one
abbrev ReportedIf : Option Reply → Type 0
ReportedIf None = Unit {0}
ReportedIf (Some reply) =
    (codes_of.is_response_code reply.code ≡ true)
    × (stands_in table.observe reply.options ≡ false)
    × (is_code_of_write reply.code ≡ false)

refusal_ReportedIf : (m : Message) → ReportedIf (refusal_of_request m)
unfolding refusal_of_request
refusal_ReportedIf m = by (refusal_of m)
  where
    coded : (why : requests.Refusal)
        → (codes_of.is_response_code (refusal_code why) ≡ true)
        × (is_code_of_write (refusal_code why) ≡ false)
    coded (refused_for.BadOption number) = (refl, refl)
    coded refused_for.Proxy = (refl, refl)
    coded refused_for.Path = (refl, refl)
    coded refused_for.Method = (refl, refl)
    coded refused_for.Block = (refl, refl)
    coded refused_for.Accept = (refl, refl)
    coded refused_for.Format = (refl, refl)

    later : (a b : Bool) (query payload : List ℕ)
        → ReportedIf (cond a (Some (diagnostic codes_of.bad_request query))
        (cond b (Some (diagnostic codes_of.bad_request payload)) None))
    later true b query payload = (refl, refl, refl)
    later false true query payload = (refl, refl, refl)
    later false false query payload = tt

    by : (why : Option requests.Refusal) → ReportedIf (refusal_or_next why m)
    by (Some why) = let h = coded why in (h.0, refl, h.1)
    by None = later (has_bad_query m) (has_bad_payload m) (codes "query") (codes "payload")

-- what is answered to a refusal
pub refusal_reported : (m : Message) (reply : Reply)
    → refusal_of_request m ≡ Some reply
    → (codes_of.is_response_code reply.code ≡ true)
    × (stands_in table.observe reply.options ≡ false)
    × (is_code_of_write reply.code ≡ false)
refusal_reported m reply e = subst ReportedIf e (refusal_ReportedIf m)

-- ---- changes

-- what comes of a change
change_reported : (history : List Entry) (moment : ℕ) (entry : Entry) (done : Outcome)
    → IsReported history moment done.reply (note.Entered entry ∷ done.notes)
    → IsReportedOutcome history moment (change_made history entry done)
change_reported history moment entry done good = by (change_refusal 0 history entry)
  where
    refused : (why : Refusal) → IsReportedOutcome history moment (refused_as why)
    refused refusal.Registration =
        reported_plain history moment codes_of.not_found (codes "registration") [] refl
        (λ e. absurd (omega (arith, e)))
    refused refusal.Registrations =
        reported_plain history moment codes_of.service_unavailable (codes "registrations") [] refl
        (λ e. absurd (omega (arith, e)))
    refused refusal.Text =
        reported_plain history moment codes_of.service_unavailable (codes "text") [] refl
        (λ e. absurd (omega (arith, e)))
    refused refusal.Entries =
        reported_plain history moment codes_of.service_unavailable (codes "entries") [] refl
        (λ e. absurd (omega (arith, e)))

    by : (why : Option Refusal) → IsReportedOutcome history moment (entered_unless why entry done)
    by (Some why) = refused why
    by None = good

-- further options: none is Observe, and none is Location-Path
pub record AreFurther (further : List Opt) : Type 0 where
  pub unobserved : stands_in table.observe further ≡ false
  pub unlocated : location_named further ≡ []

-- a registration of a whole body
registration_reported : (history : List Entry) (moment : ℕ) (s : Step) (params : RegParams)
    (body : List ℕ) (further : List Opt) (notes : List Note)
    → AreFurther further
    → entries_in notes ≡ []
    → IsReportedOutcome history moment
    (registration history moment s params body further notes)
unfolding registration
registration_reported history moment s params body further notes extra silent =
    by (body_read body)
  where
    by : (read : BodyRead)
        → IsReportedOutcome history moment
        (registered_links history moment s params further notes read)
    by (bad_body word) =
        reported_plain history moment codes_of.bad_request word [] refl
        (λ e. absurd (omega (arith, e)))
    by (good_body links) =
        let entry : Entry = entry_of_step moment s (change.Register params links) in
        change_reported history moment entry
        (record {
          reply = created_at (number_after params.name moment (history ++ entry ∷ []))
              further;
          notes = notes;
        })
        (record {
          responds = refl;
          unobserved = extra.unobserved;
          located = λ e. record {
            entry = entry;
            params = params;
            links = links;
            entered = ap (λ entries. entry ∷ entries) silent;
            registers = refl;
            located =
                ap (λ more.
                codes "rd"
                ∷ decimal (number_after params.name moment (history ++ entry ∷ []))
                ∷ more) extra.unlocated;
          };
        })

-- a code with further options, which is not 2.01
further_reported : (history : List Entry) (moment code : ℕ) (further : List Opt) (notes : List Note)
    → AreFurther further
    → codes_of.is_response_code code ≡ true
    → (code ≡ codes_of.created → ⊥)
    → IsReported history moment (record { code = code; options = further; payload = [] }) notes
further_reported history moment code further notes extra class other = record {
  responds = class;
  unobserved = extra.unobserved;
  located = λ e. absurd (other e);
}

-- a replacement of links by those of a whole body
replacement_reported : (history : List Entry) (moment : ℕ) (s : Step) (number : ℕ)
    (body : List ℕ) (further : List Opt) (notes : List Note)
    → AreFurther further
    → IsReportedOutcome history moment
    (replacement history moment s number body further notes)
unfolding replacement
replacement_reported history moment s number body further notes extra = by (body_read body)
  where
    by : (read : BodyRead)
        → IsReportedOutcome history moment
        (replaced_links history moment s number further notes read)
    by (bad_body word) =
        reported_plain history moment codes_of.bad_request word [] refl
        (λ e. absurd (omega (arith, e)))
    by (good_body links) =
        change_reported history moment (entry_of_step moment s (change.Replace number links))
        (record { reply = changed_with further; notes = notes })
        (further_reported history moment codes_of.changed further _ extra refl
        (λ e. absurd (omega (arith, e))))

-- a whole body, by what its links are for
body_used_reported : (purpose : Purpose) (history : List Entry) (moment : ℕ) (s : Step)
    (body : List ℕ) (further : List Opt) (notes : List Note)
    → AreFurther further
    → entries_in notes ≡ []
    → IsReportedOutcome history moment
    (body_used purpose history moment s body further notes)
body_used_reported (to_register params) history moment s body further notes extra silent =
    registration_reported history moment s params body further notes extra silent
body_used_reported (to_replace number) history moment s body further notes extra silent =
    replacement_reported history moment s number body further notes extra

-- Block1 is neither
block1_further : (b : Block) → AreFurther (block1_option b)
block1_further b = record { unobserved = refl; unlocated = refl }

-- links that come whole, or a block of them
links_reported : (block : Option Block) (purpose : Purpose) (rows : List Row) (moment : ℕ)
    (s : Step) (m : Message)
    → IsReportedOutcome (entries rows) moment (links_outcome block purpose rows moment s m)
unfolding block_uploaded
links_reported block purpose rows moment s m = by block
  where
    taken : (more : Bool) (b : Block) (body : List ℕ)
        → IsReportedOutcome (entries rows) moment
        (block_taken more purpose rows moment s m b body)
    taken true b body =
        further_reported (entries rows) moment codes_of.continue (block1_option b) _
        (block1_further b) refl (λ e. absurd (omega (arith, e)))
    taken false b body =
        body_used_reported purpose (entries rows) moment s body (block1_option b)
        (note.Finished s.peer (key_in m) ∷ []) (block1_further b) refl

    unless : (too_long too_many : Bool) (b : Block) (body : List ℕ)
        → IsReportedOutcome (entries rows) moment
        (block_unless (block_room too_long too_many) purpose rows moment s m b body)
    unless true too_many b body =
        reported_plain (entries rows) moment codes_of.request_entity_too_large (codes "size") []
        refl (λ e. absurd (omega (arith, e)))
    unless false true b body =
        reported_plain (entries rows) moment codes_of.service_unavailable (codes "uploads") []
        refl (λ e. absurd (omega (arith, e)))
    unless false false b body = taken b.more b body

    after : (front upload : Option (List ℕ)) (b : Block)
        → IsReportedOutcome (entries rows) moment
        (block_after front upload purpose rows moment s m b)
    after None upload b =
        reported_plain (entries rows) moment codes_of.request_entity_incomplete (codes "order") []
        refl (λ e. absurd (omega (arith, e)))
    after (Some front) upload b =
        unless (nat_lt max_body (length front + length m.payload))
        (is_one_too_many b upload (live_uploads moment (events rows))) b (front ++ m.payload)

    by : (b : Option Block)
        → IsReportedOutcome (entries rows) moment (links_outcome b purpose rows moment s m)
    by None =
        body_used_reported purpose (entries rows) moment s m.payload [] []
        (record { unobserved = refl; unlocated = refl }) refl
    by (Some b) =
        let upload : Option (List ℕ) = live_upload moment (s.peer, key_in m) (events rows) in
        after (collected_before b upload) upload b

-- a registration
pub registering_reported : (rows : List Row) (moment : ℕ) (s : Step) (m : Message)
    → IsReportedOutcome (entries rows) moment (registering rows moment s m)
unfolding registering
registering_reported rows moment s m =
    links_reported (sent_block m) (to_register (registration_values (queries_in m))) rows moment s m

-- a replacement of links
replacing_reported : (rows : List Row) (moment : ℕ) (s : Step) (m : Message) (number : ℕ)
    → IsReportedOutcome (entries rows) moment (replacing rows moment s m number)
unfolding replacing
replacing_reported rows moment s m number =
    links_reported (sent_block m) (to_replace number) rows moment s m

-- a write on a registration
pub location_reported : (w : Method) (rows : List Row) (moment : ℕ) (s : Step) (m : Message)
    (number : ℕ)
    → IsReportedOutcome (entries rows) moment (location_outcome w rows moment s m number)
location_reported get rows moment s m number =
    reported_plain (entries rows) moment codes_of.method_not_allowed (codes "method") [] refl
    (λ e. absurd (omega (arith, e)))
location_reported post rows moment s m number =
    change_reported (entries rows) moment _ _
    (reported_plain (entries rows) moment codes_of.changed [] _ refl
    (λ e. absurd (omega (arith, e))))
location_reported put rows moment s m number = replacing_reported rows moment s m number
location_reported delete rows moment s m number =
    change_reported (entries rows) moment _ _
    (reported_plain (entries rows) moment codes_of.deleted [] _ refl
    (λ e. absurd (omega (arith, e))))
location_reported other_method rows moment s m number =
    reported_plain (entries rows) moment codes_of.method_not_allowed (codes "method") [] refl
    (λ e. absurd (omega (arith, e)))
