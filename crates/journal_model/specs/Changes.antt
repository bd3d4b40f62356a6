-- Changes of the directory: the entry that a request makes, or why it is refused (RFC 9176 sections
-- 5, 5.3.1, 5.3.2 and 5.3.3).
use Rattle.std.specs.Prelude.{
  ℕ,
  Bool,
  true,
  false,
  List,
  [],
  ◌∷◌,
  ◌++◌,
  codes,
  decimal,
  Option,
  Some,
  None,
  is_some,
  unwrap_or,
}
use Rattle.rd_base.specs.declared.parameters.RegParams.{RegParams}
use Rattle.rd_base.specs.declared.records.Name.{Name}
use Rattle.rd_base.specs.declared.submitted_links.SubmittedLink.{SubmittedLink}
use Rattle.message_model.specs.Codes as codes_of
use Rattle.message_model.specs.OptionTable as table
use Rattle.message_model.specs.Message.{Opt}
use Rattle.record_model.specs.Bodies.{linked_references}
use Rattle.record_model.specs.Refusals.{first_unlimited}
use Rattle.history_model.specs.declared.entries.Change.{Change}
use Rattle.history_model.specs.declared.entries.Change.TheVariants as change
use Rattle.history_model.specs.declared.entries.Entry.{Entry}
use Rattle.history_model.specs.declared.refusals.Refusal.{Refusal}
use Rattle.history_model.specs.declared.refusals.Refusal.TheVariants as refusal
use Rattle.history_model.specs.Refusals.{change_refusal}
use Rattle.history_model.specs.Replay.{replay, number_named}
use Rattle.event_model.specs.declared.notes.Note.{Note}
use Rattle.event_model.specs.declared.notes.Note.TheVariants as note
use Rattle.journal_model.specs.declared.steps.Step.{Step}
use Rattle.journal_model.specs.Effects.{Reply, diagnostic}

-- The outcome of a write: its response, and what is noted with it.
pub record Outcome : Type 0 where
  pub reply : Reply
  pub notes : List Note

-- Returns the outcome of a refusal: an error response, and no note.
abbrev pub refused : ℕ → List ℕ → Outcome
refused code word = record { reply = diagnostic code word; notes = [] }

-- Returns the outcome of a change that is refused.
abbrev pub refused_as : Refusal → Outcome
refused_as refusal.Registration = refused codes_of.not_found (codes "registration")
refused_as refusal.Registrations = refused codes_of.service_unavailable (codes "registrations")
refused_as refusal.Text = refused codes_of.service_unavailable (codes "text")
refused_as refusal.Entries = refused codes_of.service_unavailable (codes "entries")

-- Returns a change with the moment, the worker and the peer of a step, as an entry.
abbrev pub entry_of_step : ℕ → Step → Change → Entry
entry_of_step moment s what = record {
  moment = record { 0 = moment };
  worker = s.worker;
  peer = s.peer;
  change = what;
}

-- Returns the outcome of a change that is refused, or entered and answered.
abbrev pub entered_unless : Option Refusal → Entry → Outcome → Outcome
entered_unless (Some why) entry done = refused_as why
entered_unless None entry done = record {
  reply = done.reply;
  notes = note.Entered entry ∷ done.notes;
}

-- Returns the outcome of a change after a history, where `done` is the outcome unless it is
-- refused.
abbrev pub change_made : List Entry → Entry → Outcome → Outcome
change_made history entry done = entered_unless (change_refusal 0 history entry) entry done

-- The links of a body, or the diagnostic payload of its refusal: no document of references, or not
-- in the Limited Link Format.
pub data BodyRead : Type 0 where
  bad_body : List ℕ → BodyRead
  good_body : List SubmittedLink → BodyRead

-- Returns the links, if they are in the Limited Link Format.
abbrev pub limited_links : Bool → List SubmittedLink → BodyRead
limited_links true links = bad_body (codes "limited")
limited_links false links = good_body links

-- Returns the links, if the body is a document of references.
abbrev pub links_or_bad : Option (List SubmittedLink) → BodyRead
links_or_bad None = bad_body (codes "links")
links_or_bad (Some links) = limited_links (is_some (first_unlimited links)) links

-- Returns what is read of the body of a registration or of a replacement (RFC 6690 section 2, RFC
-- 9176 appendix C).
unfoldable pub body_read : List ℕ → BodyRead
body_read body = links_or_bad (linked_references body)

-- Returns the number that the registration with a name has after a history.
abbrev pub number_after : Name → ℕ → List Entry → ℕ
number_after name moment history = unwrap_or (number_named name moment (replay history).records) 0

-- Returns the location of a registration (RFC 9176 section 5).
abbrev pub location_options : ℕ → List Opt
location_options number =
    (table.location_path, codes "rd") ∷ (table.location_path, decimal number) ∷ []

-- Returns 2.01 with the location of the registration, and further options.
abbrev pub created_at : ℕ → List Opt → Reply
created_at number further = record {
  code = codes_of.created;
  options = location_options number ++ further;
  payload = [];
}

-- Returns the outcome of a registration of links after a history, answered with further options. If
-- it is accepted, `notes` are noted with its entry.
abbrev pub registration_made : List Entry → ℕ → Entry → Name → List Opt → List Note → Outcome
registration_made history moment entry name further notes =
    change_made history entry (record {
      reply = created_at (number_after name moment (history ++ entry ∷ [])) further;
      notes =
          notes;
    })

-- Returns the outcome of the registration of what was read of a body.
abbrev pub registered_links : List Entry
    → ℕ
    → Step
    → RegParams
    → List Opt
    → List Note
    → BodyRead
    → Outcome
registered_links history moment s params further notes (bad_body word) =
    refused codes_of.bad_request word
registered_links history moment s params further notes (good_body links) =
    registration_made history moment (entry_of_step moment s (change.Register params links))
    params.name further notes

-- Returns the outcome of the registration of a whole body: refused for its links, refused as a
-- change, or entered.
unfoldable pub registration : List Entry
    → ℕ
    → Step
    → RegParams
    → List ℕ
    → List Opt
    → List Note
    → Outcome
registration history moment s params body further notes =
    registered_links history moment s params further notes (body_read body)

-- Returns 2.04 with further options.
abbrev pub changed_with : List Opt → Reply
changed_with further = record { code = codes_of.changed; options = further; payload = [] }

-- Returns the outcome of the replacement of the links of a registration by what was read of a body,
-- answered with further options. If it is accepted, `notes` are noted with its entry.
abbrev pub replaced_links : List Entry
    → ℕ
    → Step
    → ℕ
    → List Opt
    → List Note
    → BodyRead
    → Outcome
replaced_links history moment s number further notes (bad_body word) =
    refused codes_of.bad_request word
replaced_links history moment s number further notes (good_body links) =
    change_made history (entry_of_step moment s (change.Replace number links))
    (record { reply = changed_with further; notes = notes })

-- Returns the outcome of the replacement of the links of a registration by those of a whole body
-- (RFC 9176 section 5.3.3). It is refused for its links, refused as a change, or entered.
unfoldable pub replacement : List Entry
    → ℕ
    → Step
    → ℕ
    → List ℕ
    → List Opt
    → List Note
    → Outcome
replacement history moment s number body further notes =
    replaced_links history moment s number further notes (body_read body)

-- The purpose of the links of a body: a registration with these parameters, or other links for the
-- registration with this number.
pub data Purpose : Type 0 where
  to_register : RegParams → Purpose
  to_replace : ℕ → Purpose

-- Returns the outcome of a whole body, by the purpose of its links.
abbrev pub body_used : Purpose
    → List Entry
    → ℕ
    → Step
    → List ℕ
    → List Opt
    → List Note
    → Outcome
body_used (to_register params) history moment s body further notes =
    registration history moment s params body further notes
body_used (to_replace number) history moment s body further notes =
    replacement history moment s number body further notes
