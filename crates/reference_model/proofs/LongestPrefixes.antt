-- The longest prefix of a text that begins a text of a kind, and how it is found in parts of the
-- text.
use Rattle.std.proofs.Common.{
  ◌≡◌,
  ℕ,
  zero,
  suc,
  ◌+◌,
  ◌<◌,
  ◌≤◌,
  Bool,
  true,
  false,
  ◌&&◌,
  List,
  [],
  ◌∷◌,
  ◌++◌,
  take,
  length,
  Option,
  Some,
  None,
  refl,
  sym,
  ap,
  ◌∙◌,
  subst,
  ◌⊎◌,
  inl,
  inr,
  append_assoc,
  append-nil,
  zero-add,
  arith,
}
use Rattle.std.proofs.lemmas.Bool.Decides.{nat_tests}
use Rattle.std.proofs.lemmas.List.{length-append}
use Rattle.std.proofs.lemmas.Bool.{and_left}
use Rattle.reference_model.specs.References.{before, after, from_first, has_octet, marked}
use Rattle.reference_model.proofs.ReferenceCuts.{
  cut,
  after_none,
  has_octet-before,
  before-marked,
  after-marked,
  before_alone,
}
use Rattle.rd_base.proofs.lemmas.Options.{some_same}
use Rattle.reference_model.proofs.ReferenceReading.{before-append}

-- the first n octets begin a text that passes the test, and no longer prefix does
pub record IsLongest (accepts : List ℕ → Bool) (text : List ℕ) (n : ℕ) : Type 0 where
  pub within : n ≤ length text
  pub begins : (more : List ℕ) × (accepts (take n text ++ more) ≡ true)
  pub longest : (m : ℕ)
      → n < m
      → m ≤ length text
      → (more : List ℕ)
      → accepts (take m text ++ more) ≡ false

-- a prefix of two texts is a prefix of the first, or the first and a prefix of the second
pub record Reaches (front rest : List ℕ) (m : ℕ) : Type 0 where
  pub after_front : ℕ
  pub whole : m ≡ length front + after_front
  pub parts : take m (front ++ rest) ≡ front ++ take after_front rest

pub take_cases : (front rest : List ℕ) (m : ℕ)
    → ((m ≤ length front) × (take m (front ++ rest) ≡ take m front))
    ⊎ ((length front < m) × Reaches front rest m)
take_cases [] rest zero = inl (omega arith, refl)
take_cases [] rest (suc m) =
    inr (omega arith, record { after_front = suc m; whole = omega arith; parts = refl })
take_cases (c ∷ front) rest zero = inl (omega arith, refl)
take_cases (c ∷ front) rest (suc m) = by_front (take_cases front rest m)
  where
    by_front :
        ((m ≤ length front) × (take m (front ++ rest) ≡ take m front))
        ⊎ ((length front < m) × Reaches front rest m)
        → ((suc m ≤ suc (length front)) × (c ∷ take m (front ++ rest) ≡ c ∷ take m front))
        ⊎ ((suc (length front) < suc m) × Reaches (c ∷ front) rest (suc m))
    by_front (inl x) = inl (omega arith, ap (λ (t : List ℕ). c ∷ t) (x.1))
    by_front (inr x) =
        let r = x.1 in
        let w = r.whole in
        inr (
          omega arith,
          record {
            after_front = r.after_front;
            whole = omega arith;
            parts = ap
                (λ (t : List ℕ). c ∷ t) r.parts;
          },
        )

pub take_front : (front rest : List ℕ) (j : ℕ)
    → take (length front + j) (front ++ rest) ≡ front ++ take j rest
take_front [] rest j = rw zero-add refl
take_front (c ∷ front) rest j =
    let e : suc (length front) + j ≡ suc (length front + j) = omega arith in
    rw e (ap (λ (t : List ℕ). c ∷ t) (take_front front rest j))

pub take_within : (front rest : List ℕ) (n : ℕ)
    → n ≤ length front
    → take n (front ++ rest) ≡ take n front
take_within [] rest zero h = refl
take_within [] rest (suc n) h = absurd (omega arith)
take_within (c ∷ front) rest zero h = refl
take_within (c ∷ front) rest (suc n) h =
    ap (λ (t : List ℕ). c ∷ t) (take_within front rest n (omega arith))

pub has_octet-take : (mark : ℕ) (text : List ℕ) (m : ℕ)
    → has_octet mark text ≡ false
    → has_octet mark (take m text) ≡ false
has_octet-take mark [] zero h = refl
has_octet-take mark [] (suc m) h = refl
has_octet-take mark (c ∷ cs) zero h = refl
has_octet-take mark (c ∷ cs) (suc m) h = grind (arith, nat_tests, has_octet-take mark cs m)

pub from_first-after : (mark : ℕ) (text : List ℕ)
    → from_first mark text ≡ marked mark (after mark text)
unfolding from_first after
from_first-after mark [] = refl
from_first-after mark (c ∷ cs) = grind (arith, nat_tests, from_first-after mark cs)

pub length-cut : (mark : ℕ) (text : List ℕ)
    → length text ≡ length (before mark text) + length (marked mark (after mark text))
length-cut mark text =
    ap length (cut mark text) ∙ length-append (before mark text) (marked mark (after mark text))

-- what follows a prefix that reaches past the mark
pub record PastMark (mark : ℕ) (text : List ℕ) (m : ℕ) (more : List ℕ) : Type 0 where
  pub rest : List ℕ
  pub count : ℕ
  pub is_after : after mark text ≡ Some rest
  pub whole : m ≡ suc (length (before mark text)) + count
  pub short : count ≤ length rest
  pub same_front : before mark (take m text ++ more) ≡ before mark text
  pub same_after : after mark (take m text ++ more) ≡ Some (take count rest ++ more)

-- a prefix with more after it ends before the mark, or past it
abbrev pub EndsBeforeMark : ℕ → List ℕ → ℕ → List ℕ → Type 0
EndsBeforeMark mark text m more =
    (m ≤ length (before mark text))
    × (take m text ≡ take m (before mark text))
    × (before mark (take m text ++ more) ≡ take m (before mark text) ++ before mark more)

pub mark_cases : (mark : ℕ) (text : List ℕ) (m : ℕ) (more : List ℕ)
    → m ≤ length text
    → EndsBeforeMark mark text m more ⊎ PastMark mark text m more
mark_cases mark text m more h = by_front (take_cases front (marked mark (after mark text)) m)
  where
    front : List ℕ
    front = before mark text

    no_mark : has_octet mark front ≡ false
    no_mark = has_octet-before mark text

    taken : take m text ≡ take m (front ++ marked mark (after mark text))
    taken = ap (take m) (cut mark text)

    past : (o : Option (List ℕ))
        → after mark text ≡ o
        → length front < m
        → Reaches front (marked mark o) m
        → PastMark mark text m more
    past None e l r =
        let a = length-cut mark text in
        let b : length (marked mark (after mark text)) ≡ 0 = rw e refl in absurd (omega arith)
    past (Some rest) e l r = at_count r.after_front refl
      where
        at_count : (j : ℕ) → r.after_front ≡ j → PastMark mark text m more
        at_count zero f = let w = r.whole in absurd (omega arith)
        at_count (suc j) f =
            let w = r.whole in
            let a = length-cut mark text in
            let b : length (marked mark (after mark text)) ≡ suc (length rest) = rw e refl in
            let y : take m text ++ more ≡ front ++ mark ∷ (take j rest ++ more) =
            ap (λ (x : List ℕ). x ++ more) (taken
            ∙ ap (λ (o : Option (List ℕ)). take m (front ++ marked mark o)) e
            ∙ r.parts
            ∙ ap (λ (i : ℕ). front ++ take i (mark ∷ rest)) f)
            ∙ append_assoc front (mark ∷ take j rest) more in
            record {
              rest = rest;
              count = j;
              is_after = e;
              whole = omega arith;
              short = omega arith;
              same_front =
                  ap (before mark) y
                  ∙ before-marked mark front (Some (take j rest ++ more)) no_mark;
              same_after =
                  ap (after mark) y ∙ after-marked mark front (Some (take j rest ++ more)) no_mark;
            }

    by_front :
        ((m ≤ length front) × (take m (front ++ marked mark (after mark text)) ≡ take m front))
        ⊎ ((length front < m) × Reaches front (marked mark (after mark text)) m)
        → EndsBeforeMark mark text m more ⊎ PastMark mark text m more
    by_front (inl x) =
        let same : take m text ≡ take m front = taken ∙ x.1 in
        inl (
          x.0,
          same,
          ap (λ (t : List ℕ). before mark (t ++ more)) same
              ∙ before-append mark (take m front) more (has_octet-take mark front m no_mark),
        )
    by_front (inr x) = inr (past (after mark text) refl (x.0) (x.1))

-- a text whose part before the mark passes one test, and whose rest after it another
abbrev pub cut_passes : (List ℕ → Bool) → (Option (List ℕ) → Bool) → ℕ → List ℕ → Bool
cut_passes first second mark text = first (before mark text) && second (after mark text)

pub both_pass : (a b : Bool) → a ≡ true → b ≡ true → (a && b) ≡ true
both_pass a b e f = rw (e, f) refl

pub second_fails : (a b : Bool) → a ≡ true → b ≡ false → (a && b) ≡ false
second_fails a b e f = rw (e, f) refl

pub passes_alone : (first : List ℕ → Bool) (second : Option (List ℕ) → Bool) (mark : ℕ)
    → ((text : List ℕ) → first text ≡ true → has_octet mark text ≡ false)
    → second None ≡ true
    → (text : List ℕ) → first text ≡ true → cut_passes first second mark text ≡ true
passes_alone first second mark no_mark none text h =
    let without = no_mark text h in
    both_pass (first (before mark text)) (second (after mark text))
    (ap first (before_alone mark text without) ∙ h)
    (ap second (after_none mark text without) ∙ none)

-- where the part before the mark does not pass, the fault is in it
pub front_longest_where_ended : (first : List ℕ → Bool) (second : Option (List ℕ) → Bool) (mark : ℕ)
    → ((text : List ℕ)
    → first text ≡ true
    → (more : List ℕ) × (cut_passes first second mark (text ++ more) ≡ true))
    → (text : List ℕ) (n : ℕ)
    → first (before mark text) ≡ false
    → IsLongest first (before mark text) n
    → IsLongest (cut_passes first second mark) text n
front_longest_where_ended first second mark ends text n fails l = record {
  within = let a = length-cut mark text in let b = l.within in omega arith;
  begins = (l.begins.0 ++ ended.0, ap (cut_passes first second mark) spelled ∙ ended.1);
  longest = λ m h k more. at_mark m h more (mark_cases mark text m more k);
}
  where
    front : List ℕ
    front = before mark text

    same : take n text ≡ take n front
    same =
        ap (take n) (cut mark text) ∙ take_within front (marked mark (after mark text)) n l.within

    ended :
        (more : List ℕ)
        × (cut_passes first second mark ((take n front ++ l.begins.0) ++ more) ≡ true)
    ended = ends (take n front ++ l.begins.0) (l.begins.1)

    spelled : take n text ++ (l.begins.0 ++ ended.0) ≡ (take n front ++ l.begins.0) ++ ended.0
    spelled =
        ap (λ (t : List ℕ). t ++ (l.begins.0 ++ ended.0)) same
        ∙ sym (append_assoc (take n front) (l.begins.0) (ended.0))

    at_mark : (m : ℕ)
        → n < m
        → (more : List ℕ)
        → EndsBeforeMark mark text m more ⊎ PastMark mark text m more
        → cut_passes first second mark (take m text ++ more) ≡ false
    at_mark m h more (inl x) =
        and_left (first (before mark (take m text ++ more)))
        (second (after mark (take m text ++ more)))
        (ap first (x.2) ∙ l.longest m h (x.0) (before mark more))
    at_mark m h more (inr p) =
        and_left (first (before mark (take m text ++ more)))
        (second (after mark (take m text ++ more))) (ap first p.same_front ∙ fails)

-- the same, where nothing need follow that part
pub front_longest : (first : List ℕ → Bool) (second : Option (List ℕ) → Bool) (mark : ℕ)
    → ((text : List ℕ) → first text ≡ true → has_octet mark text ≡ false)
    → second None ≡ true
    → (text : List ℕ) (n : ℕ)
    → first (before mark text) ≡ false
    → IsLongest first (before mark text) n
    → IsLongest (cut_passes first second mark) text n
front_longest first second mark no_mark none =
    front_longest_where_ended first second mark (λ text h. (
      [],
      ap (cut_passes first second mark) (append-nil text)
          ∙ passes_alone first second mark no_mark none text h,
    ))

-- where the part before the mark passes, the fault is after it
pub after_longest : (first : List ℕ → Bool) (second : Option (List ℕ) → Bool) (mark : ℕ)
    (text rest : List ℕ) (n : ℕ)
    → first (before mark text) ≡ true
    → after mark text ≡ Some rest
    → IsLongest (λ t. second (Some t)) rest n
    → IsLongest (cut_passes first second mark) text (suc (length (before mark text)) + n)
after_longest first second mark text rest n passes e l = record {
  within =
      let a = length-cut mark text in
      let b : length (marked mark (after mark text)) ≡ suc (length rest) = rw e refl in
      let c = l.within in omega arith;
  begins = (
    l.begins.0,
    both_pass (first (before mark begun)) (second (after mark begun))
        (ap (λ (t : List ℕ). first (before mark t)) spelled
        ∙ ap first (before-marked mark front (Some ended) no_mark)
        ∙ passes) (ap (λ (t : List ℕ). second (after mark t)) spelled
        ∙ ap second (after-marked mark front (Some ended) no_mark)
        ∙ l.begins.1),
  );
  longest = λ m h k more. at_mark m h more (mark_cases mark text m more k);
}
  where
    front : List ℕ
    front = before mark text

    no_mark : has_octet mark front ≡ false
    no_mark = has_octet-before mark text

    ended : List ℕ
    ended = take n rest ++ l.begins.0

    begun : List ℕ
    begun = take (suc (length front) + n) text ++ l.begins.0

    whole : text ≡ front ++ mark ∷ rest
    whole = cut mark text ∙ ap (λ (o : Option (List ℕ)). front ++ marked mark o) e

    spelled : begun ≡ front ++ mark ∷ ended
    spelled =
        let count : suc (length front) + n ≡ length front + suc n = omega arith in
        ap (λ (t : List ℕ). t ++ l.begins.0) (ap (λ (i : ℕ). take i text) count
        ∙ ap (take (length front + suc n)) whole
        ∙ take_front front (mark ∷ rest) (suc n))
        ∙ append_assoc front (mark ∷ take n rest) (l.begins.0)

    at_mark : (m : ℕ)
        → suc (length front) + n < m
        → (more : List ℕ)
        → EndsBeforeMark mark text m more ⊎ PastMark mark text m more
        → cut_passes first second mark (take m text ++ more) ≡ false
    at_mark m h more (inl x) = let y = x.0 in absurd (omega arith)
    at_mark m h more (inr p) =
        let same : rest ≡ p.rest = some_same (sym e ∙ p.is_after) in
        let w = p.whole in
        let s = p.short in
        let fails : second (Some (take p.count rest ++ more)) ≡ false =
        l.longest p.count (omega arith)
        (subst (λ (r : List ℕ). p.count ≤ length r) (sym same) p.short) more in
        second_fails (first (before mark (take m text ++ more)))
        (second (after mark (take m text ++ more))) (ap first p.same_front ∙ passes)
        (ap second p.same_after
        ∙ ap (λ (r : List ℕ). second (Some (take p.count r ++ more))) (sym same)
        ∙ fails)

-- ---- other ways to the longest prefix

-- all of a text that begins one
pub all_longest : (accepts : List ℕ → Bool) (text : List ℕ)
    → (more : List ℕ) × (accepts (text ++ more) ≡ true)
    → IsLongest accepts text (length text)
all_longest accepts text begun = record {
  within = omega arith;
  begins = (begun.0, ap (λ (t : List ℕ). accepts (t ++ begun.0)) (take_all text) ∙ begun.1);
  longest = λ m h k more. absurd (omega arith);
}
  where
    take_all : (t : List ℕ) → take (length t) t ≡ t
    take_all [] = refl
    take_all (c ∷ cs) = ap (λ (t : List ℕ). c ∷ t) (take_all cs)

-- all of a text that passes
pub whole_longest : (accepts : List ℕ → Bool) (text : List ℕ)
    → accepts text ≡ true
    → IsLongest accepts text (length text)
whole_longest accepts text h = all_longest accepts text ([], ap accepts (append-nil text) ∙ h)

-- the same test
pub same_longest : (first second : List ℕ → Bool)
    → ((text : List ℕ) → second text ≡ first text)
    → (text : List ℕ) (n : ℕ)
    → IsLongest first text n
    → IsLongest second text n
same_longest first second same text n l = record {
  within = l.within;
  begins = (l.begins.0, same (take n text ++ l.begins.0) ∙ l.begins.1);
  longest = λ m h k more. same (take m text ++ more) ∙ l.longest m h k more;
}

-- one octet more in front
pub cons_longest : (first second : List ℕ → Bool) (c : ℕ)
    → ((text : List ℕ) → second (c ∷ text) ≡ first text)
    → (text : List ℕ) (n : ℕ)
    → IsLongest first text n
    → IsLongest second (c ∷ text) (suc n)
cons_longest first second c same text n l = record {
  within = let a = l.within in omega arith;
  begins = (l.begins.0, same (take n text ++ l.begins.0) ∙ l.begins.1);
  longest = λ m. at_count m;
}
  where
    at_count : (m : ℕ)
        → suc n < m
        → m ≤ suc (length text)
        → (more : List ℕ)
        → second (take m (c ∷ text) ++ more) ≡ false
    at_count zero h k more = absurd (omega arith)
    at_count (suc m) h k more =
        same (take m text ++ more) ∙ l.longest m (omega arith) (omega arith) more

-- an equal number
pub longest_at : (accepts : List ℕ → Bool) (text : List ℕ) (m n : ℕ)
    → m ≡ n
    → IsLongest accepts text m
    → IsLongest accepts text n
longest_at accepts text m n e l = subst (IsLongest accepts text) e l
