-- The step that enters an entry keeps the rule of the book.
use Rattle.std.proofs.Common.{
  ◌≡◌,
  ℕ,
  ◌+◌,
  ◌<◌,
  ◌==◌,
  Bool,
  true,
  false,
  List,
  [],
  ◌∷◌,
  ◌++◌,
  length,
  refl,
  ap,
  sym,
  ◌∙◌,
  subst,
  arith,
  inl,
  length-append,
  None,
}
use Rattle.std.proofs.lemmas.List.{append-nil}
use Rattle.std.proofs.lemmas.Bool.Decides.{nat_tests}
use mathlib.Core.List.{IsPrefix}
use prog.Atomic.{either}
use Rattle.logbook.specs.Pages.{Cell, cell, keeps, no_nib, step, Moves, Goes}
use Rattle.history_model.specs.declared.entries.Entry.{Entry}
use Rattle.version_board.specs.Books.{IsKept, Enters}
use Rattle.history_model.specs.Replay.{count_after, counted}
use Rattle.history_model.proofs.ReplayLaws.{counted_push}
use Rattle.history_model.proofs.TagLaws.{same_counted}
use Rattle.version_board.proofs.Fronts.{prefix_self}

-- the rule of a book shows nothing, and no answer moves anything
abbrev pub shown : List Entry → List Entry
shown log = []

abbrev pub moved : List Entry → List Entry → ℕ → Type 0
moved xs ys n = Unit {0}

-- in a book with these entries the step enters one more, or finds another number than it expects
pub enters_goes : (log v : List Entry) (e : Entry) (old new : ℕ)
    → counted 0 v ≡ old
    → new ≡ count_after old e
    → IsPrefix v log
    → (b : Bool) → (counted 0 log == old) ≡ b
    → Goes IsKept shown moved 0 (v, (no_nib, None)) (λ n. either (n == old) new n)
    (Enters (step 0 old new e) (v, (no_nib, None))) ((counted 0 log, true) ∷ (0, true) ∷ []) log
enters_goes log v e old new len next pre true is =
    let here : counted 0 log ≡ old = grind (arith, nat_tests) in
    let same : v ≡ log = same_counted 0 log v log pre (prefix_self log) (len ∙ sym here) in
    let n : either (counted 0 log == old) new (counted 0 log) ≡ counted 0 (log ++ e ∷ []) =
    rw is (next ∙ ap (λ k. count_after k e) (sym here) ∙ sym (counted_push 0 log e)) in (
      keeps,
      e ∷ [],
      None,
      tt,
      ap (λ (k : ℕ). (k, true) ∷ (0, true) ∷ []) n,
      inl (refl, refl),
      rw is (ap (λ w. w ++ e ∷ []) (sym same)),
    )
enters_goes log v e old new len next pre false is =
    let all : log ++ [] ≡ log = append-nil log in
    let n : either (counted 0 log == old) new (counted 0 log) ≡ counted 0 (log ++ []) =
    rw is (ap (counted 0) (sym all)) in (
      keeps,
      [],
      None,
      tt,
      ap (λ (k : ℕ). (k, true) ∷ (0, true) ∷ []) n,
      inl (refl, refl),
      rw is (ap (counted 0) all),
    )

-- whatever the book is, the step enters the entry after all that was seen, or finds that the book
-- is longer
pub enters_moves : (v : List Entry) (e : Entry) (old new : ℕ) → counted 0 v ≡ old
    → new ≡ count_after old e
    → Moves IsKept shown moved 0 (v, (no_nib, None)) (λ n. either (n == old) new n)
    (Enters (step 0 old new e) (v, (no_nib, None)))
enters_moves v e old new len next cs log kept pre away =
    let P : List Cell → Type 0 =
    λ c.
    (0 < length c)
    × ((cell c 0).1 ≡ true)
    × Goes IsKept shown moved 0 (v, (no_nib, None)) (λ n. either (n == old) new n)
    (Enters (step 0 old new e) (v, (no_nib, None))) c log in
    subst P (sym kept)
    (omega arith, refl, enters_goes log v e old new len next pre (counted 0 log == old) refl)
