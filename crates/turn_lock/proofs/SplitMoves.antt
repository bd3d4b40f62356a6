-- A new pass, and the lock at its start.
use Rattle.std.proofs.Common.{
  ◌≡◌,
  ◌≢◌,
  ℕ,
  ◌+◌,
  ◌≤◌,
  ◌<◌,
  ◌==◌,
  ◌⊎◌,
  true,
  false,
  cond,
  List,
  [],
  ◌∷◌,
  ◌++◌,
  length,
  Option,
  Some,
  sym,
  refl,
  ◌∙◌,
  subst,
  ap,
  arith,
  length-set,
  length-append,
  set,
  ⊎_elim,
  inl,
  inr,
  true≢false,
  zero,
  suc,
}
use Rattle.std.proofs.lemmas.Bool.Decides.{nat_tests}
use mathlib.Core.Option.{some, some-injective, some-ne-none}
use lib.ListN.{get_elem?}
use Rattle.atomic_table.specs.Table.{State, Splits, opening}
use Rattle.atomic_table.proofs.Lists.{at_set, set_here, set_else, at_longer}
use Rattle.turn_lock.specs.Histories.{rows_of, AllBelow}
use Rattle.turn_lock.specs.Rule.{Kept, first_view}
use Rattle.turn_lock.specs.Steps.{kept_view, next_view}
use Rattle.turn_lock.proofs.TakeMoves.{within, below_more, Fits, fits}
use Rattle.turn_lock.specs.declared.views.View.{View}

-- a member of a list with one more at its end
at_end : {A : Type 0} (xs : List A) (a b : A) (j : ℕ)
    → get_elem? (xs ++ a ∷ []) j ≡ some b
    → (get_elem? xs j ≡ some b) ⊎ ((j ≡ length xs) × (a ≡ b))
at_end [] a b zero e = inr (refl, some-injective a b e)
at_end [] a b (suc j) e = absurd (some-ne-none b (sym e))
at_end (x ∷ xs) a b zero e = inl e
at_end (x ∷ xs) a b (suc j) e =
    ⊎_elim (λ t. inl t) (λ t. inr (omega (arith, t.0), t.1)) (at_end xs a b j e)

same_or_not : (i j : ℕ) → (i ≡ j) ⊎ (i ≢ j)
same_or_not zero zero = inl refl
same_or_not zero (suc j) = inr (λ e. omega (arith, e))
same_or_not (suc i) zero = inr (λ e. omega (arith, e))
same_or_not (suc i) (suc j) =
    ⊎_elim (λ e. inl (ap suc e)) (λ n. inr (λ e. n (omega (arith, e)))) (same_or_not i j)

module _ {T R L : Type 0} (stands : List R → T → Type 0) (number : R → ℕ) (label : T → L) where
  below_rest : (n : ℕ) (more old : List R) → AllBelow number n (more ++ old) → AllBelow number n old
  below_rest n [] old h = h
  below_rest n (x ∷ xs) old h = below_rest n xs old h.1

  none_named : (n : ℕ) (xs : List R) → AllBelow number n xs → [] ≡ rows_of number n xs
  none_named n [] h = refl
  none_named n (x ∷ xs) h =
      let less = h.0 in
      let t : (number x == n) ≡ false = grind (arith, nat_tests) in
      none_named n xs h.1 ∙ sym (ap (λ b. cond b (x ∷ rows_of number n xs) (rows_of number n xs)) t)

  module _ (lab : L) (passes : ℕ) (id : ℕ) (v : View R L) (s : State (Option T) (View R L))
      (k : Kept stands number label lab passes s)
      (at : get_elem? s.views id ≡ some v) (last : v.last ≡ true) (idle : v.holding ≡ false)
      (room : v.number + 1 < passes) where
    abbrev front : List (View R L)
    front = set s.views id (kept_view v)

    abbrev views' : List (View R L)
    views' = front ++ next_view v ∷ []

    wide : length front ≡ length s.views
    wide = length-set s.views id (kept_view v)

    long : length views' ≡ length s.views + 1
    long = length-append front (next_view v ∷ []) ∙ ap (λ (n : ℕ). n + 1) wide

    end_is : id + 1 ≡ length s.views
    end_is = k.last id v at last

    seen_below : AllBelow number (length s.views) v.seen
    seen_below =
        let e = k.seen id v at in
        below_rest (length s.views) e.0 v.seen (subst (AllBelow number (length s.views)) e.1 k.rows)

    fits_kept : Fits stands number label lab passes k.history id (kept_view v)
    fits_kept = let f = fits stands number label lab passes s k id v at in record {
      seen = f.seen;
      whole = f.whole;
      number_is = f.number_is;
      mine = f.mine;
      only = f.only;
      label_is = f.label_is;
      passes_is = f.passes_is;
    }

    named : v.number + 1 ≡ length s.views
    named = ap (λ (n : ℕ). n + 1) (k.number_is id v at) ∙ end_is

    fits_next : Fits stands number label lab passes k.history (length s.views) (next_view v)
    fits_next = record {
      seen = k.seen id v at;
      whole = λ h. absurd (true≢false (sym h));
      number_is = named;
      mine =
          subst (λ (n : ℕ). [] ≡ rows_of number n v.seen) (sym named)
          (none_named (length s.views) v.seen seen_below);
      only =
          subst (λ (n : ℕ). [] ≡ rows_of number n k.history) (sym named)
          (none_named (length s.views) k.history k.rows);
      label_is = k.label_is id v at;
      passes_is = k.passes_is id v at;
    }

    -- each view is the part kept, the next one or as before
    by_view : (P : ℕ → View R L → Type 0) → P id (kept_view v) → P (length s.views) (next_view v)
        → ((j : ℕ) (w : View R L) → j ≢ id → get_elem? s.views j ≡ some w → P j w)
        → (j : ℕ) (w : View R L) → get_elem? views' j ≡ some w → P j w
    by_view P one two other j w e = ⊎_elim
        (λ t. ⊎_elim
        (λ (u : (j ≡ id) × (kept_view v ≡ w)). subst (P j) u.1
        (subst (λ (i : ℕ). P i (kept_view v)) (sym u.0) one))
        (λ (u : (j ≢ id) × (get_elem? s.views j ≡ some w)). other j w u.0 u.1)
        (at_set s.views id j (kept_view v) w t))
        (λ (t : (j ≡ length front) × (next_view v ≡ w)). subst (P j) t.1
        (subst (λ (i : ℕ). P i (next_view v)) (sym (t.0 ∙ wide)) two))
        (at_end front (next_view v) w j e)

    fits_each : (j : ℕ) (w : View R L)
        → get_elem? views' j ≡ some w
        → Fits stands number label lab passes k.history j w
    fits_each =
        by_view (λ j w. Fits stands number label lab passes k.history j w) fits_kept fits_next
        (λ j w apart e. fits stands number label lab passes s k j w e)

    held_before : (j : ℕ) (w : View R L)
        → get_elem? views' j ≡ some w
        → w.holding ≡ true
        → get_elem? s.views j ≡ some w
    held_before =
        by_view (λ j w. w.holding ≡ true → get_elem? s.views j ≡ some w)
        (λ h. absurd (true≢false (sym h ∙ idle))) (λ h. absurd (true≢false (sym h)))
        (λ j w apart e h. e)

    there : get_elem? views' id ≡ some (kept_view v)
    there =
        at_longer front (next_view v ∷ []) id (kept_view v)
        (set_here s.views id (kept_view v) (within s.views id v at))

    still : (j : ℕ) (w : View R L)
        → j ≢ id
        → get_elem? s.views j ≡ some w
        → get_elem? views' j ≡ some w
    still j w apart e =
        at_longer front (next_view v ∷ []) j w (set_else s.views id j (kept_view v) apart ∙ e)

    same_view : (j : ℕ) (w : View R L) → j ≡ id → get_elem? s.views j ≡ some w → w ≡ v
    same_view j w here e = some-injective w v (sym e ∙ (ap (get_elem? s.views) here ∙ at))

    -- some view is found again, as it was or as the part kept
    again : (P : View R L → Type 0)
        → (P v → P (kept_view v))
        → ((j : ℕ) × (w : View R L) × (get_elem? s.views j ≡ some w) × P w)
        → (j : ℕ) × (w : View R L) × (get_elem? views' j ≡ some w) × P w
    again P onto some_view = ⊎_elim
        (λ (here : some_view.0 ≡ id). (
          id,
          kept_view v,
          there,
          onto
              (subst P (same_view some_view.0 some_view.1 here some_view.2) some_view.3),
        ))
        (λ (apart : some_view.0 ≢ id). (
          some_view.0,
          some_view.1,
          still some_view.0 some_view.1 apart some_view.2,
          some_view.3,
        ))
        (same_or_not some_view.0 id)

    split_kept : Kept stands number label lab passes record {
      words = s.words;
      homes = s.homes;
      views = views';
    }
    split_kept = record {
      history = k.history;
      held = k.held;
      words = k.words;
      slots = k.slots;
      word = k.word;
      seen = λ j w e. (fits_each j w e).seen;
      all_seen = again (λ w. w.seen ≡ k.history) (λ h. h) k.all_seen;
      holder = λ h. again (λ w. w.holding ≡ true) (λ x. x) (k.holder h);
      idle = λ h. by_view (λ j w. w.holding ≡ false) idle refl (λ j w apart e. k.idle h j w e);
      one = λ i j a b p q x y. k.one i j a b (held_before i a p x) (held_before j b q y) x y;
      home = λ h. let f = k.home h in record {
        value = f.value;
        home = f.home;
        stands_for = f.stands_for;
        label_is = f.label_is;
      };
      whole = λ j w e. (fits_each j w e).whole;
      rows = below_more stands number label (length s.views) (length views') k.history
          (omega (arith, long)) k.rows;
      number_is = λ j w e. (fits_each j w e).number_is;
      mine = λ j w e. (fits_each j w e).mine;
      only = λ j w e. (fits_each j w e).only;
      label_is = λ j w e. (fits_each j w e).label_is;
      few = omega (arith, long, named, room);
      passes_is = λ j w e. (fits_each j w e).passes_is;
      last = by_view (λ j w. w.last ≡ true → j + 1 ≡ length views')
          (λ h. absurd (true≢false (sym h)))
          (λ h. sym long)
          (λ j w apart e h. absurd
          (apart (let a = k.last j w e h in let b = end_is in omega arith)));
    }

  pub splits : (lab : L) (passes : ℕ) (id : ℕ) (v : View R L)
      → v.last ≡ true
      → v.holding ≡ false
      → v.number + 1 < passes
      → Splits (Kept stands number label lab passes) id v (kept_view v) (next_view v)
  splits lab passes id v last idle room s k at = split_kept lab passes id v s k at last idle room

  only_one : (lab : L) (passes : ℕ) (P : ℕ → View R L → Type 0)
      → P 0 (first_view lab passes)
      → (j : ℕ) (w : View R L)
      → get_elem? (first_view lab passes ∷ []) j ≡ some w
      → P j w
  only_one lab passes P p zero w e = subst (P 0) (some-injective (first_view lab passes) w e) p
  only_one lab passes P p (suc j) w e = absurd (some-ne-none w (sym e))

  fits_first : (lab : L) (passes : ℕ) (j : ℕ) (w : View R L)
      → get_elem? (first_view lab passes ∷ []) j ≡ some w
      → Fits stands number label lab passes [] j w
  fits_first lab passes =
      only_one lab passes (λ j w. Fits stands number label lab passes [] j w) (record {
        seen = ([], refl);
        whole = λ h. refl;
        number_is = refl;
        mine = refl;
        only = refl;
        label_is = refl;
        passes_is = refl;
      })

  pub opens : (value : T) (passes : ℕ) (slots : List (Option T))
      → slots ≡ Some value ∷ []
      → stands [] value
      → 1 ≤ passes
      → Kept stands number label (label value) passes
      (opening (0 ∷ []) slots (first_view (label value) passes))
  opens value passes slots e st some_passes =
      subst (λ (xs : List (Option T)).
      Kept stands number label (label value) passes
      (opening (0 ∷ []) xs (first_view (label value) passes))) (sym e) (record {
        history = [];
        held = false;
        words = refl;
        slots = refl;
        word = refl;
        seen = λ j w e. (fits_first (label value) passes j w e).seen;
        all_seen = (0, first_view (label value) passes, refl, refl);
        holder = λ h. absurd (true≢false (sym h));
        idle = λ h. only_one (label value) passes (λ j w. w.holding ≡ false) refl;
        one =
            λ i j a b p q x y.
            absurd
            (true≢false
            (sym x ∙ only_one (label value) passes (λ j w. w.holding ≡ false) refl i a p));
        home = λ h. record { value = value; home = refl; stands_for = st; label_is = refl };
        whole = λ j w e. (fits_first (label value) passes j w e).whole;
        rows = tt;
        number_is = λ j w e. (fits_first (label value) passes j w e).number_is;
        mine = λ j w e. (fits_first (label value) passes j w e).mine;
        only = λ j w e. (fits_first (label value) passes j w e).only;
        label_is = λ j w e. (fits_first (label value) passes j w e).label_is;
        few = some_passes;
        passes_is = λ j w e. (fits_first (label value) passes j w e).passes_is;
        last = only_one (label value) passes (λ j w. w.last ≡ true → j + 1 ≡ 1) (λ h. refl);
      })
