-- Journals whose rows say another moment than was passed in: they are refused by the sentence on
-- moments, whatever the steps send and note.
use Rattle.std.proofs.Common.{◌≡◌, ℕ, max, false, List, [], ◌∷◌, ◌++◌, refl, arith}
use Rattle.event_model.specs.declared.notes.Note.{Note}
use Rattle.event_model.specs.declared.notes.Note.TheVariants as note
use Rattle.event_model.proofs.ManyObservers.{peer}
use Rattle.rd_base.specs.declared.peers.Peer.{Peer}
use Rattle.journal_model.specs.declared.steps.StepKind.{StepKind}
use Rattle.journal_model.specs.declared.steps.StepKind.TheVariants as step
use Rattle.journal_model.specs.declared.rows.Row.{Row}
use Rattle.headline_law.specs.Moments.{greatest_handed, Moments}

-- the row of a step to which a moment is passed in, and which says a moment
abbrev pub timed_row : ℕ → ℕ → StepKind → List ℕ → List (Peer × List ℕ) → List Note → Row
timed_row handed said kind datagram sent notes = record {
  step = record {
    kind = kind;
    worker = 0;
    handed = record { 0 = handed };
    word = 0;
    peer = peer 1;
    datagram = datagram;
    drawn = 0;
  };
  moment = record { 0 = said };
  starved = false;
  sent = sent;
  notes = notes;
  drew = 0;
}

-- ---- a repeat that came at once says that it came 247 seconds later, and so is admitted again

abbrev again : List ℕ → Row
again datagram = timed_row 0 247_000 step.Admit datagram [] (note.Admitted (peer 1) 16 ∷ [])

-- An end theorem: nothing here cites it.
pub early_repeat_falls : (datagram : List ℕ) (later before : List Row)
    → greatest_handed before ≡ 0
    → Moments (later ++ again datagram ∷ before) → ⊥
unfolding greatest_handed
early_repeat_falls datagram later before none h =
    let late : ◌≡◌ {A = ℕ} 247_000 (max 0 (greatest_handed before)) =
    h.greatest before (again datagram) (record { later = later; whole = refl }) in
    absurd (omega (arith, late, none))

-- ---- a look to which the moment 10^12 is passed in says 0, and so lists what lapsed long ago

abbrev late_look : List ℕ → List (Peer × List ℕ) → Row
late_look datagram sent = timed_row 1_000_000_000_000 0 step.Look datagram sent []

-- An end theorem: nothing here cites it.
pub late_look_falls : (datagram : List ℕ) (sent : List (Peer × List ℕ)) (later before : List Row)
    → Moments (later ++ late_look datagram sent ∷ before) → ⊥
unfolding greatest_handed
late_look_falls datagram sent later before h =
    let early : ◌≡◌ {A = ℕ} 0 (max 1_000_000_000_000 (greatest_handed before)) =
    h.greatest before (late_look datagram sent) (record { later = later; whole = refl }) in
    absurd (omega (arith, early))

-- ---- time goes back: a tick says the moment that was passed in with it, which is below that of
-- the row before

-- An end theorem: nothing here cites it.
pub falling_moment_falls : (notes : List Note)
    → Moments (timed_row 3 3 step.Tick [] [] notes ∷ timed_row 5 5 step.Tick [] [] [] ∷ []) → ⊥
unfolding greatest_handed
falling_moment_falls notes h =
    let fallen : ◌≡◌ {A = ℕ} 3 5 =
    h.greatest (timed_row 5 5 step.Tick [] [] [] ∷ []) (timed_row 3 3 step.Tick [] [] notes)
    (record { later = []; whole = refl }) in
    absurd (omega (arith, fallen))
