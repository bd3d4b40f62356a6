-- A write is admitted only where no kept admission has its peer and Message ID.
use Rattle.std.proofs.Common.{
  ◌≡◌,
  ℕ,
  ◌==◌,
  ◌&&◌,
  ◌||◌,
  Bool,
  true,
  false,
  List,
  [],
  Option,
  Some,
  None,
  refl,
  sym,
  ap,
  subst,
  ◌∙◌,
  eqb-true,
}
use Rattle.std.specs.List.{list_any}
use Rattle.std.proofs.lemmas.Bool.{and_parts, false≢true}
use Rattle.rd_base.specs.declared.peers.Peer.{Peer}
use Rattle.message_model.specs.Message.{Message}
use Rattle.event_model.specs.declared.notes.Note.{Note}
use Rattle.event_model.specs.declared.notes.Note.TheVariants as note
use Rattle.event_model.specs.Same.{is_same_peer}
use Rattle.event_model.specs.Events.{Event}
use Rattle.event_model.specs.Repeats.{is_admission_of, repeated, settled, is_full_of_exchanges}
use Rattle.event_model.proofs.SameLaws.{is_same_peer-Decides}
use Rattle.journal_model.proofs.notes.BeginNotes.{beginning-notes}
use Rattle.journal_model.specs.declared.steps.Step.{Step}
use Rattle.journal_model.specs.declared.steps.StepKind.{StepKind}
use Rattle.journal_model.specs.declared.rows.Row.{Row}
use Rattle.journal_model.specs.Journal.{events, entries}
use Rattle.journal_model.specs.Effects.{answering}
use Rattle.journal_model.specs.Writes.{
  again_answered,
  is_unproved,
  admitted_unless,
  write_unless,
  write_effects,
}
use Rattle.journal_model.specs.Rows.{effects, row_moment, row}
use Rattle.journal_model.specs.PlacedRows.{admits}
use Rattle.journal_model.proofs.NoteKinds.{
  of_lookup,
  of_empty,
  of_tick,
  of_commit,
  of_response,
  are,
  none_of,
}
use Rattle.journal_model.proofs.StepNotes.{
  keep_effects-notes,
  lookup_effects-notes,
  read_effects-notes,
  tick_effects-notes,
}
use Rattle.journal_model.proofs.notes.StepTable.{StepNoted, effects-StepNoted}
use Rattle.journal_model.proofs.notes.StepTable as noted
use Rattle.journal_model.proofs.notes.ChangeNotes.{commit_effects-notes, response_effects-notes}

-- one of the notes admits a write of a peer and a Message ID
abbrev admitted : Peer → ℕ → List Note → Bool
admitted peer mid notes = list_any (is_admission_of peer mid) notes

-- what is noted admits no write of a peer and a Message ID, or one that nothing kept repeats
abbrev Admits : List Row → ℕ → Peer → ℕ → List Note → Type 0
Admits rows moment peer mid notes =
    admitted peer mid notes ≡ true → repeated moment peer mid (events rows) ≡ None

-- notes of a kind that admits nothing
never_of : (kind : Note → Bool)
    → ((peer : Peer) (mid : ℕ) → kind (note.Admitted peer mid) ≡ false)
    → (rows : List Row) (moment : ℕ) (peer : Peer) (mid : ℕ) (notes : List Note)
    → are kind notes ≡ true → Admits rows moment peer mid notes
never_of kind never rows moment peer mid notes h e =
    absurd (false≢true (sym (none_of kind (is_admission_of peer mid) other notes h) ∙ e))
  where
    other : (n : Note) → kind n ≡ true → is_admission_of peer mid n ≡ false
    other (note.Admitted p m) fits = absurd (false≢true (sym (never p m) ∙ fits))
    other _ fits = refl

-- no notes
nothing_noted : (rows : List Row) (moment : ℕ) (peer : Peer) (mid : ℕ) (notes : List Note)
    → notes ≡ []
    → Admits rows moment peer mid notes
nothing_noted rows moment peer mid notes none e =
    absurd (false≢true (sym (ap (admitted peer mid) none) ∙ e))

-- a write as it is heard
write_admits : (rows : List Row) (moment : ℕ) (s : Step) (m : Message) (peer : Peer) (mid : ℕ)
    → Admits rows moment peer mid (write_effects (events rows) moment s m).notes
unfolding write_effects answering
write_admits rows moment s m peer mid = by (repeated moment s.peer m.mid (events rows)) refl
  where
    again : (octets : Option (List ℕ)) → (again_answered s octets).notes ≡ []
    again None = refl
    again (Some octets) = refl

    new : (full unproved : Bool)
        → repeated moment s.peer m.mid (events rows) ≡ None
        → Admits rows moment peer mid (admitted_unless full unproved (events rows) s m).notes
    new true unproved none e = absurd (false≢true e)
    new false true none e = absurd (false≢true e)
    new false false none e =
        let both =
        and_parts (is_same_peer s.peer peer) (m.mid == mid)
        (one (is_same_peer s.peer peer && m.mid == mid) e) in
        subst (λ n. repeated moment peer n (events rows) ≡ None) (eqb-true m.mid mid both.1)
        (subst (λ p. repeated moment p m.mid (events rows) ≡ None)
        ((is_same_peer-Decides s.peer peer).0 both.0) none)
      where
        one : (b : Bool) → (b || false) ≡ true → b ≡ true
        one true h = refl
        one false h = h

    by : (first : Option Event)
        → repeated moment s.peer m.mid (events rows) ≡ first
        → Admits rows moment peer mid (write_unless first (events rows) moment s m).notes
    by (Some first) found =
        nothing_noted rows moment peer mid _ (again (settled first.place (events rows)))
    by None none =
        new (is_full_of_exchanges moment (events rows)) (is_unproved (events rows) moment s m) none

-- any step
effects_admit : (kind : StepKind) (starved : Bool) (rows : List Row) (moment : ℕ) (s : Step)
    (peer : Peer) (mid : ℕ)
    → Admits rows moment peer mid (effects kind starved rows moment s).notes
effects_admit kind starved rows moment s peer mid =
    by (effects kind starved rows moment s).notes (effects-StepNoted kind starved rows moment s)
  where
    by : (ns : List Note) → StepNoted kind starved rows moment s ns → Admits rows moment peer mid ns
    by ns (noted.nothing blank) = nothing_noted rows moment peer mid ns blank
    by ns (noted.write m here read asks is) =
        subst (Admits rows moment peer mid) (sym is) (write_admits rows moment s m peer mid)
    by ns (noted.lookup m here read at is) =
        never_of of_lookup (λ p n. refl) rows moment peer mid ns
        (ap (are of_lookup) is ∙ lookup_effects-notes rows moment s m)
    by ns (noted.source m here read at is) =
        never_of of_lookup (λ p n. refl) rows moment peer mid ns
        (ap (are of_lookup) is ∙ read_effects-notes rows moment s m)
    by ns (noted.empty here all) = never_of of_empty (λ p n. refl) rows moment peer mid ns all
    by ns (noted.response m here read responds is) =
        never_of of_response (λ p n. refl) rows moment peer mid ns
        (ap (are of_response) is ∙ response_effects-notes rows moment s m)
    by ns (noted.commit m place commits read is) =
        never_of of_commit (λ p n. refl) rows moment peer mid ns
        (ap (are of_commit) is ∙ commit_effects-notes rows moment place s m)
    by ns (noted.failed place commits is) =
        never_of of_commit (λ p n. refl) rows moment peer mid ns (ap (are of_commit) is)
    by ns (noted.keep m body tag keeps is) =
        never_of of_lookup (λ p n. refl) rows moment peer mid ns
        (ap (are of_lookup) (is ∙ keep_effects-notes s m body tag))
    by ns (noted.tick ticks is) =
        never_of of_tick (λ p n. refl) rows moment peer mid ns
        (ap (are of_tick) is ∙ tick_effects-notes starved rows moment s)
    by ns (noted.begins first begins is) =
        never_of of_commit (λ p n. refl) rows moment peer mid ns
        (ap (are of_commit) is
        ∙ beginning-notes of_commit (λ entry. refl) starved (entries rows) moment s first)

-- a row that admits a write of a peer and a Message ID finds none that is kept before it
pub row_admits : (rows : List Row) (s : Step) (starved : Bool) (peer : Peer) (mid : ℕ)
    → admits peer mid (row rows s starved) ≡ true
    → repeated (row rows s starved).moment.0 peer mid (events rows) ≡ None
unfolding row
row_admits rows s starved peer mid e =
    effects_admit s.kind starved rows (row_moment rows s) s peer mid e
