-- Seats and halls that are wrong: what is said of all seats, and of what a hall keeps, refuses
-- each of them.
use Rattle.std.proofs.Common.{◌≡◌, ◌<◌, ◌==◌, false, List, [], ◌∷◌, length}
use Rattle.std.proofs.Common.{refl, sym, ap, ◌∙◌, subst, arith}
use Rattle.std.proofs.lemmas.Bool.{false≢true}
use Rattle.std.proofs.lemmas.List.{length-append}
use Rattle.history_model.specs.declared.entries.Entry.{Entry}
use Rattle.history_model.specs.Live.{IsFront}
use Rattle.journal_model.specs.declared.rows.Row.{Row}
use Rattle.journal_model.specs.declared.steps.StepKind.TheVariants as step
use Rattle.journal_model.specs.Journal.{entries, is_look}
use Rattle.journal_model.specs.Seats.{rows_of}
use Rattle.rd_desk.specs.calls.Shown.{Shown}
use Rattle.version_board.specs.Ends.{PublisherSeen}
use Rattle.rd_seat.specs.Halls.{IsHistoryOfHall}
use Rattle.rd_seat.specs.Runs.{turn, look, IsSeatAfter}
use Rattle.rd_seat.specs.Seats.{SeatSeen}

-- a list is not longer than one that it is a front of
front_within : (front history : List Entry) → IsFront front history
    → length history < length front → ⊥
front_within front history begins longer =
    omega (
      arith,
      longer,
      ap (λ (l : List Entry). length l) begins.1,
      length-append front begins.0,
    )

-- ---- seats

-- a call made a row, and the seat has none of its own
row_dropped_falls : (r : Row) (seat : SeatSeen) → seat.mine ≡ []
    → IsSeatAfter (turn r ∷ []) seat → ⊥
row_dropped_falls r seat none it =
    omega (arith, ap (λ (l : List Row). length l) (sym none ∙ it.rows))

-- one call made a row, and the seat has it twice
row_doubled_falls : (r : Row) (seat : SeatSeen) → seat.mine ≡ r ∷ r ∷ []
    → IsSeatAfter (turn r ∷ []) seat → ⊥
row_doubled_falls r seat twice it =
    omega (arith, ap (λ (l : List Row). length l) (sym twice ∙ it.rows))

-- its one row is of another worker
strange_row_falls : (r : Row) (seat : SeatSeen) → seat.mine ≡ r ∷ [] → seat.seen ≡ r ∷ []
    → (r.step.worker == seat.worker) ≡ false → IsSeatAfter (turn r ∷ []) seat → ⊥
unfolding rows_of
strange_row_falls r seat own seen strange it =
    let all : r ∷ [] ≡ rows_of seat.worker (r ∷ []) =
    sym own ∙ (it.is_seat.mine ∙ ap (rows_of seat.worker) seen) in
    let none : rows_of seat.worker (r ∷ []) ≡ [] = rw strange refl in
    omega (arith, ap (λ (l : List Row). length l) (all ∙ none))

-- a look by a seat that had seen an entry shows no entry
seen_left_out_falls : (rows : List Row) (e : Entry) (seat : SeatSeen) → entries rows ≡ e ∷ []
    → IsSeatAfter (look rows [] ∷ []) seat → ⊥
seen_left_out_falls rows e seat seen it =
    front_within (e ∷ []) [] (subst (λ (es : List Entry). IsFront es []) seen it.fronts.0)
    (omega arith)

-- a later look shows less than an earlier one
look_goes_back_falls : (front : List Entry) (e : Entry) (seat : SeatSeen)
    → IsSeatAfter (look [] [] ∷ look [] (e ∷ front) ∷ []) seat → ⊥
look_goes_back_falls front e seat it =
    front_within (e ∷ front) [] it.fronts.1.0 (omega arith)

-- ---- halls

-- a look stands among the rows of a hall
look_among_rows_falls : (r : Row) (rows : List Row) (desk : Shown PublisherSeen)
    → r.step.kind ≡ step.Look → IsHistoryOfHall (r ∷ rows) desk → ⊥
look_among_rows_falls r rows desk is it =
    false≢true (sym it.no_look.0 ∙ ap is_look is)
