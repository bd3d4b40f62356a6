-- What a row notes of exchanges: nothing, one new admission, or the end of the one that it commits.
use Rattle.std.proofs.Common.{
  ◌≡◌,
  ℕ,
  ◌==◌,
  Bool,
  true,
  false,
  List,
  [],
  ◌∷◌,
  length,
  Option,
  Some,
  None,
  Ok,
  refl,
  sym,
  ap,
  subst,
  ◌∙◌,
}
use Rattle.std.specs.Prelude.{nat_le}
use Rattle.std.proofs.lemmas.Bool.{false≢true}
use Rattle.rd_base.proofs.lemmas.Numbers.{eqb-refl}
use Rattle.message_model.specs.declared.requests.Path.{Path}
use Rattle.message_model.specs.declared.requests.Path.TheVariants as path
use Rattle.message_model.specs.declared.messages.Role.TheVariants as role
use Rattle.message_model.specs.Message.{Message, role_of}
use Rattle.message_model.specs.Reading.{reading}
use Rattle.message_model.specs.Request.{path_in}
use Rattle.message_model.specs.Spelling.{spelling}
use Rattle.event_model.specs.declared.notes.Note.{Note}
use Rattle.event_model.specs.declared.notes.Note.TheVariants as note
use Rattle.event_model.specs.Events.{Event}
use Rattle.event_model.specs.Repeats.{repeated, settled, is_full_of_exchanges}
use Rattle.event_model.specs.AdmissionOrder.{is_aside}
use Rattle.event_model.specs.Fetches.{max_fetches, fetches, is_fetching}
use Rattle.journal_model.specs.declared.steps.Step.{Step}
use Rattle.journal_model.specs.declared.steps.StepKind.{StepKind}
use Rattle.journal_model.specs.declared.steps.StepKind.TheVariants as step
use Rattle.journal_model.specs.declared.rows.Row.{Row}
use Rattle.journal_model.specs.Journal.{events, entries}
use Rattle.journal_model.specs.Effects.{answer, answering}
use Rattle.journal_model.specs.Changes.{Outcome}
use Rattle.journal_model.specs.Registrations.{registering}
use Rattle.journal_model.specs.Commits.{
  settling,
  simple_unless,
  location_outcome,
  write_done,
  commit_effects,
  fetch_room,
}
use Rattle.journal_model.specs.Writes.{
  again_answered,
  is_unproved,
  admitted_unless,
  write_unless,
  write_effects,
}
use Rattle.journal_model.specs.Rows.{effects, row_moment, row}
use Rattle.journal_model.proofs.NoteKinds.{
  of_lookup,
  of_empty,
  of_tick,
  of_response,
  are,
  are-append,
  are-weaker,
}
use Rattle.journal_model.proofs.StepNotes.{
  keep_effects-notes,
  lookup_effects-notes,
  read_effects-notes,
  tick_effects-notes,
}
use Rattle.journal_model.proofs.notes.ChangeNotes.{
  registering-notes,
  location-notes,
  response_effects-notes,
}
use Rattle.journal_model.proofs.notes.BeginNotes.{beginning-notes}
use Rattle.journal_model.proofs.notes.StepTable.{StepNoted, effects-StepNoted}
use Rattle.journal_model.proofs.notes.StepTable as noted
use Rattle.journal_model.specs.Requests.{method_of}

-- it admits nothing, and settles or fails at most what was admitted at a place
abbrev pub ends_at : ℕ → Note → Bool
ends_at place (note.Admitted peer mid) = false
ends_at place (note.Settled p reply) = p == place
ends_at place (note.Failed p) = p == place
ends_at place _ = true

-- nothing; or one new admission; or the end of the one that is committed
pub data Touches (kind : StepKind) (rows : List Row) (moment : ℕ) (s : Step) (notes : List Note) :
    Type 0 where
  aside : are is_aside notes ≡ true → Touches kind rows moment s notes
  admits : (m : Message)
      → kind ≡ step.Admit
      → reading s.datagram ≡ Ok m
      → role_of m.kind m.code ≡ role.Request
      → notes ≡ note.Admitted s.peer m.mid ∷ []
      → repeated moment s.peer m.mid (events rows) ≡ None
      → Touches kind rows moment s notes
  ends : (place : ℕ)
      → kind ≡ step.Commit place
      → are (ends_at place) notes ≡ true
      → Touches kind rows moment s notes

-- notes of kinds that have nothing to do with exchanges
lookup_aside : (n : Note) → of_lookup n ≡ true → is_aside n ≡ true
lookup_aside (note.Admitted peer mid) h = absurd (false≢true h)
lookup_aside (note.Settled place reply) h = absurd (false≢true h)
lookup_aside (note.Failed place) h = absurd (false≢true h)
lookup_aside _ h = refl

empty_aside : (n : Note) → of_empty n ≡ true → is_aside n ≡ true
empty_aside (note.Admitted peer mid) h = absurd (false≢true h)
empty_aside (note.Settled place reply) h = absurd (false≢true h)
empty_aside (note.Failed place) h = absurd (false≢true h)
empty_aside _ h = refl

tick_aside : (n : Note) → of_tick n ≡ true → is_aside n ≡ true
tick_aside (note.Admitted peer mid) h = absurd (false≢true h)
tick_aside (note.Settled place reply) h = absurd (false≢true h)
tick_aside (note.Failed place) h = absurd (false≢true h)
tick_aside _ h = refl

response_aside : (n : Note) → of_response n ≡ true → is_aside n ≡ true
response_aside (note.Admitted peer mid) h = absurd (false≢true h)
response_aside (note.Settled place reply) h = absurd (false≢true h)
response_aside (note.Failed place) h = absurd (false≢true h)
response_aside _ h = refl

-- a write as it is heard
write_touches : (rows : List Row) (moment : ℕ) (s : Step) (m : Message)
    → reading s.datagram ≡ Ok m
    → role_of m.kind m.code ≡ role.Request
    → Touches step.Admit rows moment s (write_effects (events rows) moment s m).notes
unfolding write_effects answering
write_touches rows moment s m read asks = by (repeated moment s.peer m.mid (events rows)) refl
  where
    again : (octets : Option (List ℕ)) → (again_answered s octets).notes ≡ []
    again None = refl
    again (Some octets) = refl

    new : (full unproved : Bool)
        → repeated moment s.peer m.mid (events rows) ≡ None
        → Touches step.Admit rows moment s
        (admitted_unless full unproved (events rows) s m).notes
    new true unproved none = aside refl
    new false true none = aside refl
    new false false none = admits m refl read asks refl none

    by : (first : Option Event)
        → repeated moment s.peer m.mid (events rows) ≡ first
        → Touches step.Admit rows moment s (write_unless first (events rows) moment s m).notes
    by (Some first) found = aside (ap (are is_aside) (again (settled first.place (events rows))))
    by None none =
        new (is_full_of_exchanges moment (events rows)) (is_unproved (events rows) moment s m) none

-- a commit ends its own admission at most
commit_ends : (rows : List Row) (moment place : ℕ) (s : Step) (m : Message)
    → are (ends_at place) (commit_effects rows moment place s m).notes ≡ true
unfolding commit_effects answering
commit_ends rows moment place s m = by (path_in m)
  where
    its : (octets : List ℕ) → are (ends_at place) (note.Settled place octets ∷ []) ≡ true
    its octets = rw (eqb-refl place) refl

    settled_at : (outcome : Outcome)
        → are (ends_at place) outcome.notes ≡ true
        → are (ends_at place) (settling place s m outcome).notes ≡ true
    settled_at outcome h =
        are-append (ends_at place) outcome.notes
        (note.Settled place (spelling (answer s m outcome.reply)) ∷ []) h
        (its (spelling (answer s m outcome.reply)))

    simple : (running too_many : Bool)
        → are (ends_at place) (simple_unless (fetch_room running too_many) (events rows) place s
        m).notes ≡ true
    simple true too_many = rw (eqb-refl place) refl
    simple false true = rw (eqb-refl place) refl
    simple false false = rw (eqb-refl place) refl

    by : (p : Path) → are (ends_at place) (write_done p rows moment place s m).notes ≡ true
    by path.Core = refl
    by path.SimpleRd =
        simple (is_fetching s.peer (events rows))
        (nat_le max_fetches (length (fetches (events rows))))
    by path.Rd =
        settled_at (registering rows moment s m)
        (registering-notes (ends_at place) (λ entry. refl) (λ peer key number octets. refl)
        (λ peer key. refl) rows moment s m)
    by (path.Location number) =
        settled_at (location_outcome (method_of m.code) rows moment s m number)
        (location-notes (ends_at place) (λ entry. refl) (λ peer key number octets. refl)
        (λ peer key. refl) (method_of m.code) rows moment s m number)
    by path.Res = refl
    by path.Ep = refl
    by path.Other = refl

-- any step
effects-Touches : (kind : StepKind) (starved : Bool) (rows : List Row) (moment : ℕ) (s : Step)
    → Touches kind rows moment s (effects kind starved rows moment s).notes
effects-Touches kind starved rows moment s =
    by (effects kind starved rows moment s).notes (effects-StepNoted kind starved rows moment s)
  where
    by : (ns : List Note) → StepNoted kind starved rows moment s ns → Touches kind rows moment s ns
    by ns (noted.nothing blank) = aside (ap (are is_aside) blank)
    by ns (noted.write m here read asks is) =
        subst (λ (k : StepKind). Touches k rows moment s ns) (sym here)
        (subst (Touches step.Admit rows moment s) (sym is)
        (write_touches rows moment s m read asks))
    by ns (noted.lookup m here read at is) =
        aside (are-weaker of_lookup is_aside lookup_aside ns
        (ap (are of_lookup) is ∙ lookup_effects-notes rows moment s m))
    by ns (noted.source m here read at is) =
        aside (are-weaker of_lookup is_aside lookup_aside ns
        (ap (are of_lookup) is ∙ read_effects-notes rows moment s m))
    by ns (noted.empty here all) = aside (are-weaker of_empty is_aside empty_aside ns all)
    by ns (noted.response m here read responds is) =
        aside (are-weaker of_response is_aside response_aside ns
        (ap (are of_response) is ∙ response_effects-notes rows moment s m))
    by ns (noted.commit m place commits read is) =
        ends place commits (ap (are (ends_at place)) is ∙ commit_ends rows moment place s m)
    by ns (noted.failed place commits is) =
        ends place commits (ap (are (ends_at place)) is ∙ rw (eqb-refl place) refl)
    by ns (noted.keep m body tag keeps is) =
        aside (ap (are is_aside) (is ∙ keep_effects-notes s m body tag))
    by ns (noted.tick ticks is) =
        aside (are-weaker of_tick is_aside tick_aside ns
        (ap (are of_tick) is ∙ tick_effects-notes starved rows moment s))
    by ns (noted.begins first begins is) =
        aside (ap (are is_aside) is
        ∙ beginning-notes is_aside (λ entry. refl) starved (entries rows) moment s first)

-- the row of a step
pub row-Touches : (rows : List Row) (s : Step) (starved : Bool)
    → Touches s.kind rows (row rows s starved).moment.0 s (row rows s starved).notes
unfolding row
row-Touches rows s starved = effects-Touches s.kind starved rows (row_moment rows s) s
