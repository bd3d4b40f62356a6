-- What is planned of a write is what comes of it: bodies and how they are read, the number in a
-- location, and the notes of a change.
use Rattle.std.proofs.Common.{
  ◌≡◌,
  ℕ,
  ◌<◌,
  true,
  false,
  codes,
  List,
  [],
  ◌∷◌,
  ◌++◌,
  Option,
  Some,
  None,
  is_none,
  option_map,
  unwrap_or,
  Result,
  IfOk,
  refl,
  sym,
  ap,
  subst,
  ◌∙◌,
}
use Rattle.std.proofs.lemmas.Bool.{false≢true}
use Rattle.rd_base.specs.declared.moments.Moment.{Moment}
use Rattle.rd_base.specs.declared.out_of_memory.Starved.{Starved}
use Rattle.rd_base.specs.declared.parameters.RegParams.{RegParams}
use Rattle.rd_base.specs.declared.submitted_links.SubmittedLink.{SubmittedLink}
use Rattle.record_model.specs.Bodies.{linked_references}
use Rattle.record_model.specs.BodyFaults.{body_fault, is_of_links, is_of_limits}
use Rattle.record_model.specs.Refusals.{is_unlimited, is_refused_as_links, is_refused_as_limited}
use Rattle.record_model.proofs.BodyLaws.{body_fault-links, body_fault-limited}
use Rattle.history_model.specs.declared.entries.Change.TheVariants as change
use Rattle.history_model.specs.declared.entries.Entry.{Entry}
use Rattle.history_model.specs.declared.refusals.Refusal.{Refusal}
use Rattle.history_model.specs.Replay.{State, replay, number_named, number_for, number_about}
use Rattle.history_model.specs.Versions.{Version, VersionStandsFor}
use Rattle.history_model.specs.Refusals.{change_refusal}
use Rattle.history_model.proofs.ReplayLaws.{replay_push}
use Rattle.history_model.proofs.NumberLaws.{replay-HasRisingNumbers}
use Rattle.history_model.proofs.LocationLaws.{number_named-apply}
use Rattle.event_model.specs.declared.notes.Note.{Note}
use Rattle.message_model.specs.Message.{Opt}
use Rattle.rd_base.specs.declared.peers.Peer.{Peer}
use Rattle.registration.specs.declared.drafts.Draft.{Draft}
use Rattle.registration.specs.Drafts.{drafted}
use Rattle.directory_core.specs.Changes.{IsRegistrationOf, IsReplacementOf}
use Rattle.journal_model.specs.declared.steps.Step.{Step}
use Rattle.journal_model.specs.Changes as changes
use Rattle.journal_model.specs.Changes.{
  BodyRead,
  bad_body,
  good_body,
  limited_links,
  links_or_bad,
  body_read,
  number_after,
  entry_of_step,
  entered_unless,
  change_made,
  created_at,
  registered_links,
  registration,
  changed_with,
  replaced_links,
  replacement,
  body_used,
}
use Rattle.observation.specs.declared.change_kinds.ChangeKind.TheVariants as kind_of_change
use Rattle.observation.specs.ChangeKinds.{kind_of}
use Rattle.rd_desk.specs.declared.write.outcomes.Entering.{Entering}
use Rattle.rd_desk.specs.declared.write.outcomes.Outcome.{Outcome}
use Rattle.rd_desk.specs.declared.write.short_replies.ShortReply.{ShortReply}
use Rattle.rd_desk.specs.parts.Replies.{short_said}
use Rattle.rd_desk.specs.parts.Outcomes.{HasEntry, IsEntering, IsPlanned, IsBadBody}

-- ---- bodies

none_of : (o : Option (List SubmittedLink))
    → is_none o ≡ true
    → links_or_bad o ≡ bad_body (codes "links")
none_of None e = refl
none_of (Some links) e = absurd (false≢true e)

limited_of : (o : Option (List SubmittedLink))
    → is_unlimited o ≡ true
    → links_or_bad o ≡ bad_body (codes "limited")
limited_of None e = absurd (false≢true e)
limited_of (Some links) e = ap (λ b. limited_links b links) e

good_of : (o : Option (List SubmittedLink)) (links : List SubmittedLink)
    → o ≡ Some links
    → is_unlimited o ≡ false
    → links_or_bad o ≡ good_body links
good_of None links is e = absurd cc
good_of (Some others) links is e =
    ap (λ b. limited_links b others) e ∙ (let same : others ≡ links = cc in ap good_body same)

-- a body that is no document of references
pub bad_links : (body : List ℕ)
    → is_of_links (body_fault body) ≡ true
    → body_read body ≡ bad_body (codes "links")
unfolding body_read is_refused_as_links
bad_links body e = none_of (linked_references body) (sym (body_fault-links body) ∙ e)

-- one of whose links is not in the Limited Link Format
pub bad_limits : (body : List ℕ)
    → is_of_limits (body_fault body) ≡ true
    → body_read body ≡ bad_body (codes "limited")
unfolding body_read is_refused_as_limited
bad_limits body e = limited_of (linked_references body) (sym (body_fault-limited body) ∙ e)

-- any other
pub good_links : (body : List ℕ) (links : List SubmittedLink)
    → linked_references body ≡ Some links
    → is_refused_as_limited body ≡ false
    → body_read body ≡ good_body links
unfolding body_read is_refused_as_limited
good_links body links is e = good_of (linked_references body) links is e

-- ---- the number in a location

pub number_after-registered : (history : List Entry) (entry : Entry) (params : RegParams)
    (links : List SubmittedLink)
    → entry.change ≡ change.Register params links
    → 0 < params.lt
    → number_after params.name entry.moment.0 (history ++ entry ∷ [])
    ≡ number_for params.name entry.moment.0 (replay history)
number_after-registered history entry params links same lasts =
    ap (λ o. unwrap_or o 0)
    (ap (λ (s : State). number_named params.name entry.moment.0 s.records)
    (replay_push history entry)
    ∙ number_named-apply (replay history) entry params links (replay-HasRisingNumbers history) same
    lasts)

-- ---- registrations

-- a body that is refused
planned_bad : (history : List Entry) (swept moment : ℕ) (s : Step) (params : RegParams)
    (options : List Opt) (further : List Note) (b : BodyRead) (r : ShortReply)
    → IsBadBody b r
    → IsPlanned history swept further (registered_links history moment s params options further b)
    (record { reply = r; entering = None })
planned_bad history swept moment s params options further (bad_body payload) r said = record {
  said = said;
  notes = refl;
}
planned_bad history swept moment s params options further (good_body links) r said =
    absurd said

-- one whose links were to replace others
unreplaced : (history : List Entry) (swept moment : ℕ) (s : Step) (number : ℕ)
    (options : List Opt) (further : List Note) (b : BodyRead) (r : ShortReply)
    → IsBadBody b r
    → IsPlanned history swept further (replaced_links history moment s number options further b)
    (record { reply = r; entering = None })
unreplaced history swept moment s number options further (bad_body word) r said = record {
  said = said;
  notes = refl;
}
unreplaced history swept moment s number options further (good_body links) r said = absurd said

-- whatever its links are for
pub planned-bad_body : (history : List Entry) (swept moment : ℕ) (s : Step)
    (purpose : changes.Purpose) (body : List ℕ) (options : List Opt) (further : List Note)
    (r : ShortReply)
    → IsBadBody (body_read body) r
    → IsPlanned history swept further (body_used purpose history moment s body options further)
    (record { reply = r; entering = None })
unfolding registration replacement
planned-bad_body history swept moment s (changes.to_register params) body options further r said =
    planned_bad history swept moment s params options further (body_read body) r said
planned-bad_body history swept moment s (changes.to_replace number) body options further r said =
    unreplaced history swept moment s number options further (body_read body) r said

-- the entry that registers these links
abbrev pub registering : Moment → Step → RegParams → List SubmittedLink → Entry
registering now s params links = entry_of_step now.0 s (change.Register params links)

-- a draft of a body that is not refused: its links, and what comes of their registration
pub record Registers (history : List Entry) (s : Step) (params : RegParams) (body : List ℕ)
    (draft : Draft) (now : Moment) : Type 0 where
  pub links : List SubmittedLink
  pub is_of : IsRegistrationOf now draft (registering now s params links)
  pub name : draft.name ≡ params.name
  pub meant : (options : List Opt) (further : List Note)
      → registration history now.0 s params body options further
      ≡ change_made history (registering now s params links)
      (record {
        reply = created_at
            (number_after params.name now.0 (history ++ registering now s params links ∷ []))
            options;
        notes = further;
      })

drafted_name : (peer : Peer) (params : RegParams) (links : List SubmittedLink)
    → (drafted peer params links).name ≡ params.name
unfolding drafted
drafted_name peer params links = refl

meant_of : (history : List Entry) (s : Step) (params : RegParams) (body : List ℕ) (now : Moment)
    (links : List SubmittedLink) (options : List Opt) (further : List Note)
    → body_read body ≡ good_body links
    → registration history now.0 s params body options further
    ≡ change_made history (registering now s params links) (record {
      reply = created_at
          (number_after params.name now.0 (history ++ registering now s params links ∷ []))
          options;
      notes = further;
    })
unfolding registration
meant_of history s params body now links options further read =
    ap (registered_links history now.0 s params options further) read

pub registers : (history : List Entry) (s : Step) (peer : Peer) (params : RegParams) (body : List ℕ)
    (draft : Draft) (now : Moment)
    → s.peer ≡ peer
    → option_map (drafted peer params) (linked_references body) ≡ Some draft
    → is_refused_as_limited body ≡ false → Registers history s params body draft now
registers history s peer params body draft now from made limited =
    by (linked_references body) refl made
  where
    by : (o : Option (List SubmittedLink))
        → linked_references body ≡ o
        → option_map (drafted peer params) o ≡ Some draft
        → Registers history s params body draft now
    by None e h = absurd cc
    by (Some links) e h =
        let is : drafted peer params links ≡ draft = cc in
        record {
          links = links;
          is_of = record {
            params = params;
            links = links;
            moment = refl;
            change = refl;
            made = sym is ∙ ap (λ (p : Peer). drafted p params links) (sym from);
          };
          name = sym (ap (λ (d : Draft). d.name) is) ∙ drafted_name peer params links;
          meant =
              λ options further.
              meant_of history s params body now links options further
              (good_links body links e limited);
        }

-- ---- changes that are accepted

-- the version has the entry: it is entered and answered
pub planned-entered : (history : List Entry) (swept : ℕ) (entry : Entry) (meant : changes.Outcome)
    (r : ShortReply) (e : Entering)
    → short_said r ≡ meant.reply
    → IsEntering history swept entry e
    → IsPlanned history swept meant.notes (change_made history entry meant)
    (record { reply = r; entering = Some e })
planned-entered history swept entry meant r e said has =
    subst (λ (why : Option Refusal).
    IsPlanned history swept meant.notes (entered_unless why entry meant)
    (record { reply = r; entering = Some e })) (sym has.accepted)
    (record { said = said; notes = (entry, refl, has) })

-- the version that a registration gave
pub registration-HasEntry : (history : List Entry) (swept number : ℕ) (now : Moment) (draft : Draft)
    (entry : Entry) (v : Version)
    → IsRegistrationOf now draft entry
    → VersionStandsFor 0 (history ++ entry ∷ []) v
    → v.swept ≡ swept
    → change_refusal 0 history entry ≡ None
    → number ≡ number_for draft.name now.0 (replay history)
    → HasEntry history swept entry v number kind_of_change.Registration
registration-HasEntry history swept number now draft entry v is stands sweeps accepted numbers =
    let name : draft.name ≡ is.params.name =
    ap (λ (d : Draft). d.name) is.made ∙ drafted_name entry.peer is.params is.links in
    record {
      stands = stands;
      swept = sweeps;
      accepted = accepted;
      about =
          numbers
          ∙ (ap (λ n. number_for n now.0 (replay history)) name
          ∙ (ap (λ (m : Moment). number_for is.params.name m.0 (replay history)) (sym is.moment)
          ∙ ap (number_about (replay history) entry.moment.0) (sym is.change)));
      is_of = ap kind_of (sym is.change);
    }

-- a registration whose draft is of a body that is not refused
pub planned-registered : (history : List Entry) (swept : ℕ) (s : Step) (peer : Peer)
    (params : RegParams) (body : List ℕ) (draft : Draft) (now : Moment) (options : List Opt)
    (further : List Note) (r : Result Outcome Starved)
    → s.peer ≡ peer
    → option_map (drafted peer params) (linked_references body) ≡ Some draft
    → is_refused_as_limited body ≡ false
    → 0 < params.lt
    → ((entry : Entry) (meant : changes.Outcome)
    → IsRegistrationOf now draft entry
    → meant.reply ≡ created_at (number_for draft.name now.0 (replay history)) options
    → IfOk r (IsPlanned history swept meant.notes (change_made history entry meant)))
    → IfOk r
    (IsPlanned history swept further (registration history now.0 s params body options further))
planned-registered history swept s peer params body draft now options further r from made limited
    lasts planned =
    let of = registers history s peer params body draft now from made limited in
    let entry = registering now s params of.links in
    subst (λ (o : changes.Outcome). IfOk r (IsPlanned history swept further o))
    (sym (of.meant options further))
    (planned entry (record {
      reply = created_at (number_after params.name now.0 (history ++ entry ∷ [])) options;
      notes = further;
    }) of.is_of
    (ap (λ n. created_at n options)
    (number_after-registered history entry params of.links refl lasts
    ∙ ap (λ name. number_for name now.0 (replay history)) (sym of.name))))

-- ---- other links

-- the entry that gives the registration of a number these links
abbrev replacing_by : Moment → Step → ℕ → List SubmittedLink → Entry
replacing_by now s number links = entry_of_step now.0 s (change.Replace number links)

-- the version that a replacement gave
pub replacement-HasEntry : (history : List Entry) (swept number : ℕ) (now : Moment)
    (links : List SubmittedLink) (entry : Entry) (v : Version)
    → IsReplacementOf now number links entry
    → VersionStandsFor 0 (history ++ entry ∷ []) v
    → v.swept ≡ swept
    → change_refusal 0 history entry ≡ None
    → HasEntry history swept entry v number kind_of_change.Replacement
replacement-HasEntry history swept number now links entry v is stands sweeps accepted = record {
  stands = stands;
  swept = sweeps;
  accepted = accepted;
  about = ap (number_about (replay history) entry.moment.0) (sym is.change);
  is_of = ap kind_of (sym is.change);
}

-- a replacement whose body is not refused
pub planned-replaced : (history : List Entry) (swept : ℕ) (s : Step) (number : ℕ)
    (body : List ℕ) (now : Moment) (links : List SubmittedLink) (options : List Opt)
    (further : List Note) (r : Result Outcome Starved)
    → linked_references body ≡ Some links
    → is_refused_as_limited body ≡ false
    → ((entry : Entry) (meant : changes.Outcome)
    → IsReplacementOf now number links entry
    → meant.reply ≡ changed_with options
    → IfOk r (IsPlanned history swept meant.notes (change_made history entry meant)))
    → IfOk r
    (IsPlanned history swept further (replacement history now.0 s number body options further))
unfolding replacement
planned-replaced history swept s number body now links options further r made limited planned =
    subst (λ (o : changes.Outcome). IfOk r (IsPlanned history swept further o))
    (sym (ap (replaced_links history now.0 s number options further)
    (good_links body links made limited)))
    (planned (replacing_by now s number links)
    (record { reply = changed_with options; notes = further })
    (record { moment = refl; change = refl }) refl)
