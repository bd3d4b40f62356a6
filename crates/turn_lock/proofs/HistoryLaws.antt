-- The history of a lock is that of its passes.
use Rattle.std.proofs.Common.{
  ◌≡◌,
  ℕ,
  ◌==◌,
  true,
  cond,
  List,
  [],
  ◌∷◌,
  sym,
  refl,
  ◌∙◌,
  ap,
  arith,
  length,
  Option,
}
use Rattle.std.proofs.lemmas.Bool.Decides.{nat_tests}
use Rattle.atomic_table.specs.Table.{State}
use Rattle.turn_lock.specs.Histories.{rows_of}
use Rattle.turn_lock.specs.Rule.{Kept, IsOfPasses, OfEachPass, HistoryOfPasses}
use Rattle.turn_lock.proofs.TakeMoves.{below_more}
use Rattle.turn_lock.specs.declared.views.View.{View}

module _ {T R L : Type 0} (stands : List R → T → Type 0) (number : R → ℕ) (label : T → L) where
  of_passes : (lab : L) (passes : ℕ) (s : State (Option T) (View R L))
      → (k : Kept stands number label lab passes s)
      → IsOfPasses number passes s.views k.history
  of_passes lab passes s k = record {
    below = below_more stands number label (length s.views) passes k.history k.few k.rows;
    own = λ id v at.
        ap (λ (n : ℕ). rows_of number n k.history) (sym (k.number_is id v at))
        ∙ sym (k.only id v at);
  }

  own_is_first : (r : R) (rows : List R)
      → rows_of number (number r) (r ∷ rows) ≡ r ∷ rows_of number (number r) rows
  own_is_first r rows =
      let t : (number r == number r) ≡ true = grind (arith, nat_tests) in
      ap (λ b. cond b (r ∷ rows_of number (number r) rows) (rows_of number (number r) rows)) t

  none_of_any : (passes : ℕ) (views : List (View R L)) (history : List R)
      → IsOfPasses number passes views history
      → OfEachPass passes views (λ v. v.mine ≡ [])
      → history ≡ []
  none_of_any passes views [] of none = refl
  none_of_any passes views (r ∷ rows) of none =
      let its = none (number r) of.below.0 in
      let empty : r ∷ rows_of number (number r) rows ≡ [] =
      sym (own_is_first r rows) ∙ (of.own (number r) its.0 its.1 ∙ its.2)
      in absurd cc

  pub history_of_passes : HistoryOfPasses stands number label
  history_of_passes lab passes s k =
      let of = of_passes lab passes s k in (of, none_of_any passes s.views k.history of)
