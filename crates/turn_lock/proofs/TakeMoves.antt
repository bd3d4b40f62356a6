-- Taking the turn, or failing to, keeps the rule.
use Rattle.std.proofs.Common.{
  ◌≡◌,
  ℕ,
  ◌+◌,
  ◌%◌,
  ◌<◌,
  ◌≤◌,
  ◌==◌,
  Bool,
  true,
  false,
  List,
  [],
  ◌∷◌,
  length,
  Option,
  Some,
  get_or,
  sym,
  refl,
  ◌∙◌,
  subst,
  ap,
  arith,
  length-set,
  get_or-set_same,
  set,
  ⊎_elim,
  true≢false,
  zero,
  suc,
}
use Rattle.std.specs.Bool.{MatchBool}
use mathlib.Core.Option.{some, none, some-ne-none}
use Rattle.std.proofs.lemmas.Bool.Decides.{nat_tests}
use lib.ListN.{get_elem?}
use prog.Atomic.{either}
use Rattle.atomic_table.specs.Table.{
  State,
  Me,
  Act,
  Valid,
  carried_after,
  keeps,
  takes,
  Allows,
  step,
  stepped,
}
use Rattle.atomic_table.proofs.Lists.{at_set, set_here, set_again}
use Rattle.turn_lock.specs.Histories.{Extends, rows_of, AllBelow}
use Rattle.turn_lock.specs.Rule.{word_of, Kept}
use Rattle.turn_lock.specs.Steps.{Took, Takes, DidNotTake}
use Rattle.turn_lock.specs.declared.views.View.{View}

same_words : (ws : List ℕ) → length ws ≡ 1 → ws ≡ set ws 0 (get_or ws 0 0)
same_words [] h = refl
same_words (w ∷ ws) h = refl

pub within : {A : Type 0} (xs : List A) (i : ℕ) (x : A) → get_elem? xs i ≡ some x → i < length xs
within [] i x e = absurd (some-ne-none x (sym e))
within (y ∷ ys) zero x e = omega arith
within (y ∷ ys) (suc i) x e = let h = within ys i x e in omega arith

pub held_is : (n w : ℕ) (b : Bool) → w ≡ word_of n b → w % 2 ≡ 0 → b ≡ false
held_is n w true e even = absurd (omega (arith, e, even))
held_is n w false e even = refl

odd_word : (n : ℕ) → word_of n false + 1 ≡ word_of n true
odd_word n = omega arith

module _ {T R L : Type 0} (stands : List R → T → Type 0) (number : R → ℕ) (label : T → L) where
  pub below_more : (n m : ℕ) (xs : List R) → n ≤ m → AllBelow number n xs → AllBelow number m xs
  below_more n m [] le h = tt
  below_more n m (x ∷ xs) le h = (omega (arith, h.0), below_more n m xs le h.1)

  -- what the rule says of one view
  pub record Fits (lab : L) (passes : ℕ) (history : List R) (id : ℕ) (v : View R L) : Type 0 where
    pub seen : Extends v.seen history
    pub whole : v.holding ≡ true → v.seen ≡ history
    pub number_is : v.number ≡ id
    pub mine : v.mine ≡ rows_of number v.number v.seen
    pub only : v.mine ≡ rows_of number v.number history
    pub label_is : v.label ≡ lab
    pub passes_is : v.passes ≡ passes

  pub fits : (lab : L) (passes : ℕ) (s : State (Option T) (View R L))
      (k : Kept stands number label lab passes s)
      (id : ℕ) (v : View R L)
      → get_elem? s.views id ≡ some v
      → Fits lab passes k.history id v
  fits lab passes s k id v at = record {
    seen = k.seen id v at;
    whole = k.whole id v at;
    number_is = k.number_is id v at;
    mine = k.mine id v at;
    only = k.only id v at;
    label_is = k.label_is id v at;
    passes_is = k.passes_is id v at;
  }

  -- the holder's view after it took the turn
  abbrev taken : View R L → List R → View R L
  taken v history = record {
    number = v.number;
    seen = history;
    mine = v.mine;
    label = v.label;
    passes = v.passes;
    holding = true;
    last = v.last;
  }

  fits_taken : (lab : L) (passes : ℕ) (history : List R) (id : ℕ) (v : View R L)
      → Fits lab passes history id v
      → Fits lab passes history id (taken v history)
  fits_taken lab passes history id v f = record {
    seen = ([], refl);
    whole = λ h. refl;
    number_is = f.number_is;
    mine = f.only;
    only = f.only;
    label_is = f.label_is;
    passes_is = f.passes_is;
  }

  module _ (lab : L) (passes : ℕ) (id : ℕ) (m : Me (Option T) (View R L)) (old : ℕ)
      (s : State (Option T) (View R L)) (k : Kept stands number label lab passes s)
      (at : get_elem? s.views id ≡ some m.0) (free : k.held ≡ false)
      (here : get_or s.words 0 0 ≡ old) where
    abbrev views' : List (View R L)
    views' = set s.views id (taken m.0 k.history)

    there : get_elem? views' id ≡ some (taken m.0 k.history)
    there = set_here s.views id (taken m.0 k.history) (within s.views id m.0 at)

    fits_each : (j : ℕ) (w : View R L) → get_elem? views' j ≡ some w
        → Fits lab passes k.history j w
    fits_each j w e = ⊎_elim
        (λ t. subst (Fits lab passes k.history j) t.1
        (subst (λ (i : ℕ). Fits lab passes k.history i (taken m.0 k.history)) (sym t.0)
        (fits_taken lab passes k.history id m.0 (fits lab passes s k id m.0 at))))
        (λ t. fits lab passes s k j w t.1)
        (at_set s.views id j (taken m.0 k.history) w e)

    wide : length s.views ≡ length views'
    wide = sym (length-set s.views id (taken m.0 k.history))

    even : old ≡ word_of (length k.history) false
    even = sym here ∙ (k.word ∙ ap (word_of (length k.history)) free)

    kept_taken : Kept stands number label lab passes
        (stepped s 0 (old + 1) id m.1 (taken m.0 k.history) (takes 0 (Some (k.home free).value)))
    kept_taken = record {
      history = k.history;
      held = true;
      words = length-set s.words 0 (old + 1) ∙ k.words;
      slots = length-set s.homes 0 _ ∙ k.slots;
      word =
          get_or-set_same s.words 0 (old + 1) 0 (omega (arith, k.words))
          ∙ (ap (λ (n : ℕ). n + 1) even ∙ odd_word (length k.history));
      seen = λ j w e. (fits_each j w e).seen;
      all_seen = (id, taken m.0 k.history, there, refl);
      holder = λ h. (id, taken m.0 k.history, there, refl);
      idle = λ h. absurd (true≢false h);
      one = λ i j v w a b x y. ⊎_elim
          (λ t. ⊎_elim (λ u. t.0 ∙ sym u.0) (λ u. absurd (true≢false (sym y ∙ k.idle free j w u.1)))
          (at_set s.views id j (taken m.0 k.history) w b))
          (λ t. absurd (true≢false (sym x ∙ k.idle free i v t.1)))
          (at_set s.views id i (taken m.0 k.history) v a);
      home = λ h. absurd (true≢false h);
      whole = λ j w e. (fits_each j w e).whole;
      rows = subst (λ (n : ℕ). AllBelow number n k.history) wide k.rows;
      number_is = λ j w e. (fits_each j w e).number_is;
      mine = λ j w e. (fits_each j w e).mine;
      only = λ j w e. (fits_each j w e).only;
      label_is = λ j w e. (fits_each j w e).label_is;
      few = subst (λ (n : ℕ). n ≤ passes) wide k.few;
      passes_is = λ j w e. (fits_each j w e).passes_is;
      last = λ j w e x. ⊎_elim
          (λ t.
          (ap (λ (i : ℕ). i + 1) t.0 ∙ k.last id m.0 at (ap (λ (u : View R L). u.last) t.1 ∙ x))
          ∙ wide)
          (λ t. k.last j w t.1 x ∙ wide)
          (at_set s.views id j (taken m.0 k.history) w e);
    }

  state_same : (s : State (Option T) (View R L)) (id : ℕ) (m : Me (Option T) (View R L))
      → get_elem? s.views id ≡ some m.0
      → length s.words ≡ 1
      → s ≡ stepped s 0 (get_or s.words 0 0) id m.1 m.0 keeps
  state_same s id m at one i = record {
    words = same_words s.words one i;
    homes = s.homes;
    views = sym (set_again s.views id m.0 at) i;
  }

  kept_same : (lab : L) (passes : ℕ) (id : ℕ) (m : Me (Option T) (View R L))
      (s : State (Option T) (View R L))
      → Kept stands number label lab passes s
      → get_elem? s.views id ≡ some m.0
      → Kept stands number label lab passes (stepped s 0 (get_or s.words 0 0) id m.1 m.0 keeps)
  kept_same lab passes id m s k at =
      subst (λ (x : State (Option T) (View R L)). Kept stands number label lab passes x)
      (state_same s id m at k.words) k

  allowed_by : (lab : L) (passes : ℕ) (id : ℕ) (m : Me (Option T) (View R L)) (old : ℕ)
      → old % 2 ≡ 0
      → m.1 ≡ []
      → (s : State (Option T) (View R L))
      → Kept stands number label lab passes s
      → get_elem? s.views id ≡ some m.0
      → (b : Bool) → (get_or s.words 0 0 == old) ≡ b
      → (w : View R L) × (a : Act (Option T)) × Valid s.homes m.1 a
      × Kept stands number label lab passes
      (stepped s 0 (either b (old + 1) (get_or s.words 0 0)) id m.1 w a)
      × MatchBool b (Took stands number label m (w, carried_after m.1 a) (get_or s.words 0 0))
      (DidNotTake stands number label m (w, carried_after m.1 a))
  allowed_by lab passes id m old even bare s k at true found =
      let here : get_or s.words 0 0 ≡ old = grind (arith, nat_tests) in
      let free : k.held ≡ false =
      held_is (length k.history) (get_or s.words 0 0) k.held k.word
      (subst (λ (n : ℕ). n % 2 ≡ 0) (sym here) even) in
      let f = k.home free in (
        taken m.0 k.history,
        takes 0 (Some f.value),
        f.home,
        kept_taken lab passes id m old s k at free here,
        record {
          value = f.value;
          slot = ap (λ (xs : List (ℕ × Option T)). (0, Some f.value) ∷ xs) bare;
          holding = refl;
          seen = k.seen id m.0 at;
          stands_for = f.stands_for;
          value_label = f.label_is ∙ sym (k.label_is id m.0 at);
          number_is = refl;
          mine = refl;
          own = k.only id m.0 at;
          label_is = refl;
          passes_is = refl;
          below =
              subst (λ (n : ℕ). AllBelow number n k.history) (sym (k.passes_is id m.0 at))
              (below_more (length s.views) passes k.history k.few k.rows);
          word = k.word ∙ ap (word_of (length k.history)) free;
        },
      )
  allowed_by lab passes id m old even bare s k at false found =
      (m.0, keeps, tt, kept_same lab passes id m s k at, refl)

  pub takes_allowed : (lab : L) (passes : ℕ) (id : ℕ) (m : Me (Option T) (View R L)) (old : ℕ)
      → old % 2 ≡ 0
      → m.1 ≡ []
      → Allows (Kept stands number label lab passes) 1 id m 0 (λ n. either (n == old) (old + 1) n)
      (Takes stands number label (step 1 0 old (old + 1) none) m)
  takes_allowed lab passes id m old even bare s k wide at small =
      allowed_by lab passes id m old even bare s k at (get_or s.words 0 0 == old) refl
