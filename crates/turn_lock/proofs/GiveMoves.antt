-- Giving the turn back keeps the rule.
use Rattle.std.proofs.Common.{
  ◌≡◌,
  ◌≢◌,
  ℕ,
  ◌+◌,
  ◌<◌,
  ◌≤◌,
  ◌==◌,
  Bool,
  true,
  false,
  cond,
  List,
  [],
  ◌∷◌,
  length,
  Option,
  Some,
  sym,
  refl,
  ◌∙◌,
  subst,
  ap,
  arith,
  length-set,
  get_or-set_same,
  set,
  ⊎_elim,
  true≢false,
}
use Rattle.std.proofs.lemmas.Bool.Decides.{nat_tests}
use mathlib.Core.Option.{some, none}
use lib.ListN.{get_elem?}
use Rattle.atomic_table.specs.Table.{State, Me, gives, Allows, step, stepped, rest}
use Rattle.atomic_table.proofs.Lists.{at_set, set_here}
use Rattle.turn_lock.specs.Histories.{rows_of, AllBelow}
use Rattle.turn_lock.specs.Rule.{word_of, Kept}
use Rattle.turn_lock.specs.Steps.{IsReady, Gives}
use Rattle.turn_lock.proofs.TakeMoves.{within, below_more, Fits, fits}
use Rattle.turn_lock.specs.declared.views.View.{View}

not_true : (b : Bool) → b ≢ true → b ≡ false
not_true true n = absurd (n refl)
not_true false n = refl

module _ {T R L : Type 0} (stands : List R → T → Type 0) (number : R → ℕ) (label : T → L) where
  -- the holder's view after it gave the turn back
  abbrev given : View R L → R → View R L
  given v added = record {
    number = v.number;
    seen = added ∷ v.seen;
    mine = added ∷ v.mine;
    label = v.label;
    passes = v.passes;
    holding = false;
    last = v.last;
  }

  own_row : (n : ℕ) (added : R) (xs : List R)
      → number added ≡ n
      → rows_of number n (added ∷ xs) ≡ added ∷ rows_of number n xs
  own_row n added xs e =
      let t : (number added == n) ≡ true = grind (arith, nat_tests) in
      ap (λ b. cond b (added ∷ rows_of number n xs) (rows_of number n xs)) t

  other_row : (n : ℕ) (added : R) (xs : List R)
      → number added ≢ n
      → rows_of number n (added ∷ xs) ≡ rows_of number n xs
  other_row n added xs e =
      let t : (number added == n) ≡ false = grind (arith, nat_tests) in
      ap (λ b. cond b (added ∷ rows_of number n xs) (rows_of number n xs)) t

  module _ (lab : L) (passes : ℕ) (id : ℕ) (m : Me (Option T) (View R L)) (added : R) (new : ℕ)
      (r : IsReady stands number label added m)
      (s : State (Option T) (View R L)) (k : Kept stands number label lab passes s)
      (at : get_elem? s.views id ≡ some m.0) (word : new ≡ word_of (length m.0.seen + 1) false)
    where
      whole : m.0.seen ≡ k.history
      whole = k.whole id m.0 at r.holding

      names_id : number added ≡ id
      names_id = r.number_is ∙ k.number_is id m.0 at

      abbrev views' : List (View R L)
      views' = set s.views id (given m.0 added)

      own_rows : added ∷ m.0.mine ≡ rows_of number m.0.number (added ∷ m.0.seen)
      own_rows =
          ap (λ xs. added ∷ xs) (k.mine id m.0 at)
          ∙ sym (own_row m.0.number added m.0.seen r.number_is)

      fits_given : Fits stands number label lab passes (added ∷ m.0.seen) id (given m.0 added)
      fits_given = record {
        seen = ([], refl);
        whole = λ h. absurd (true≢false (sym h));
        number_is = k.number_is id m.0 at;
        mine = own_rows;
        only = own_rows;
        label_is = k.label_is id m.0 at;
        passes_is = k.passes_is id m.0 at;
      }

      nobody : (j : ℕ) (w : View R L) → j ≢ id → get_elem? s.views j ≡ some w → w.holding ≡ false
      nobody j w apart e = not_true w.holding (λ h. apart (k.one j id w m.0 e at h r.holding))

      fits_other : (j : ℕ) (w : View R L)
          → j ≢ id
          → get_elem? s.views j ≡ some w
          → Fits stands number label lab passes (added ∷ m.0.seen) j w
      fits_other j w apart e =
          let f = fits stands number label lab passes s k j w e in
          let differs : number added ≢ w.number =
          λ q. apart (sym f.number_is ∙ (sym q ∙ names_id))
          in
          record {
            seen = (added ∷ f.seen.0, ap (λ xs. added ∷ xs) (whole ∙ f.seen.1));
            whole = λ h. absurd (true≢false (sym h ∙ nobody j w apart e));
            number_is = f.number_is;
            mine = f.mine;
            only =
                f.only
                ∙ (ap (rows_of number w.number) (sym whole)
                ∙ sym (other_row w.number added m.0.seen differs));
            label_is = f.label_is;
            passes_is = f.passes_is;
          }

      fits_each : (j : ℕ) (w : View R L)
          → get_elem? views' j ≡ some w
          → Fits stands number label lab passes (added ∷ m.0.seen) j w
      fits_each j w e = ⊎_elim
          (λ (t : (j ≡ id) × (given m.0 added ≡ w)). subst
          (Fits stands number label lab passes (added ∷ m.0.seen) j) t.1
          (subst
          (λ (i : ℕ). Fits stands number label lab passes (added ∷ m.0.seen) i (given m.0 added))
          (sym t.0) fits_given))
          (λ (t : (j ≢ id) × (get_elem? s.views j ≡ some w)). fits_other j w t.0 t.1)
          (at_set s.views id j (given m.0 added) w e)

      silent : (j : ℕ) (w : View R L) → get_elem? views' j ≡ some w → w.holding ≡ false
      silent j w e = ⊎_elim
          (λ (t : (j ≡ id) × (given m.0 added ≡ w)). sym (ap (λ (u : View R L). u.holding) t.1))
          (λ (t : (j ≢ id) × (get_elem? s.views j ≡ some w)). nobody j w t.0 t.1)
          (at_set s.views id j (given m.0 added) w e)

      wide : length s.views ≡ length views'
      wide = sym (length-set s.views id (given m.0 added))

      below : AllBelow number (length s.views) (added ∷ m.0.seen)
      below = (
        subst (λ (n : ℕ). n < length s.views) (sym names_id) (within s.views id m.0 at),
        subst (AllBelow number (length s.views)) (sym whole) k.rows,
      )

      below_passes : AllBelow number m.0.passes (added ∷ m.0.seen)
      below_passes =
          subst (λ (n : ℕ). AllBelow number n (added ∷ m.0.seen)) (sym (k.passes_is id m.0 at))
          (below_more stands number label (length s.views) passes (added ∷ m.0.seen) k.few below)

      kept_given : Kept stands number label lab passes
          (stepped s 0 new id ((0, Some r.value) ∷ []) (given m.0 added) gives)
      kept_given = record {
        history = added ∷ m.0.seen;
        held = false;
        words = length-set s.words 0 new ∙ k.words;
        slots = length-set s.homes 0 (some (Some r.value)) ∙ k.slots;
        word = get_or-set_same s.words 0 new 0 (omega (arith, k.words)) ∙ (word ∙ omega arith);
        seen = λ j w e. (fits_each j w e).seen;
        all_seen = (
          id,
          given m.0 added,
          set_here s.views id (given m.0 added) (within s.views id m.0 at),
          refl,
        );
        holder = λ h. absurd (true≢false (sym h));
        idle = λ h. silent;
        one = λ i j a b p q x y. absurd (true≢false (sym x ∙ silent i a p));
        home = λ h. record {
          value = r.value;
          home = set_here s.homes 0 (some (Some r.value)) (omega (arith, k.slots));
          stands_for = r.stands_for;
          label_is = r.label_is ∙ k.label_is id m.0 at;
        };
        whole = λ j w e. (fits_each j w e).whole;
        rows = subst (λ (n : ℕ). AllBelow number n (added ∷ m.0.seen)) wide below;
        number_is = λ j w e. (fits_each j w e).number_is;
        mine = λ j w e. (fits_each j w e).mine;
        only = λ j w e. (fits_each j w e).only;
        label_is = λ j w e. (fits_each j w e).label_is;
        few = subst (λ (n : ℕ). n ≤ passes) wide k.few;
        passes_is = λ j w e. (fits_each j w e).passes_is;
        last = λ j w e x. ⊎_elim
            (λ (t : (j ≡ id) × (given m.0 added ≡ w)).
            (ap (λ (i : ℕ). i + 1) t.0 ∙ k.last id m.0 at (ap (λ (u : View R L). u.last) t.1 ∙ x))
            ∙ wide)
            (λ (t : (j ≢ id) × (get_elem? s.views j ≡ some w)). k.last j w t.1 x ∙ wide)
            (at_set s.views id j (given m.0 added) w e);
      }

  pub gives_allowed : (lab : L) (passes : ℕ) (id : ℕ) (m : Me (Option T) (View R L)) (added : R)
      (new : ℕ)
      → IsReady stands number label added m
      → new ≡ word_of (length m.0.seen + 1) false
      → (picked : Option R) → picked ≡ Some added
      → Allows (Kept stands number label lab passes) 1 id m 0 (λ _. new)
      (Gives stands number label picked (step 1 0 new 0 none) m)
  gives_allowed lab passes id m added new r word picked pick s k wide at small = (
    given m.0 added,
    gives,
    tt,
    subst (λ (xs : List (ℕ × Option T)).
        Kept stands number label lab passes (stepped s 0 new id xs (given m.0 added) gives))
        (sym r.slot)
        (kept_given lab passes id m added new r s k at word),
    (
      added,
      pick,
      record {
        slot = ap rest r.slot;
        holding = refl;
        seen = refl;
        mine = refl;
        own = own_rows lab passes id m added new r s k at word;
        number_is = refl;
        label_is = refl;
        passes_is = refl;
        below = below_passes lab passes id m added new r s k at word;
      },
    ),
  )
