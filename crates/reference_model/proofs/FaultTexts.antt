-- The longest prefixes of texts with percent escapes, of ports, names, IP literals and hosts.
use Rattle.std.proofs.Common.{
  ◌≡◌,
  ℕ,
  zero,
  suc,
  ◌+◌,
  ◌<◌,
  ◌≤◌,
  Bool,
  true,
  false,
  cond,
  ◌&&◌,
  ◌||◌,
  List,
  [],
  ◌∷◌,
  ◌++◌,
  take,
  length,
  refl,
  ap,
  ◌∙◌,
  append-nil,
  arith,
}
use Rattle.std.specs.Prelude.{◌==◌}
use Rattle.std.specs.List.{list_all, prefix_len}
use Rattle.std.specs.Char.{is_ascii_hexdigit, is_ascii_digit}
use Rattle.link_model.specs.Characters.{percent_sign, colon}
use Rattle.reference_model.specs.References.{
  is_text_after_digits,
  is_text_of,
  digits_after,
  is_port_text,
}
use Rattle.reference_model.specs.ReferenceFaults.{prefix_after_digits, text_prefix, port_prefix}
use Rattle.reference_model.proofs.LongestPrefixes.{IsLongest}

-- digits that complete a percent escape
abbrev pub zeros : ℕ → List ℕ
zeros zero = []
zeros (suc k) = 48 ∷ zeros k

-- ---- characters and percent escapes

text_within : (test : ℕ → Bool) (d : ℕ) (text : List ℕ)
    → prefix_after_digits test d text ≤ length text
text_within test d [] = omega arith
text_within test zero (c ∷ cs) =
    by_test (c == percent_sign || test c) (text_within test (digits_after c) cs)
  where
    by_test : (b : Bool)
        → prefix_after_digits test (digits_after c) cs ≤ length cs
        → cond b (suc (prefix_after_digits test (digits_after c) cs)) 0 ≤ suc (length cs)
    by_test true h = omega arith
    by_test false h = omega arith
text_within test (suc d) (c ∷ cs) = by_test (is_ascii_hexdigit c) (text_within test d cs)
  where
    by_test : (b : Bool)
        → prefix_after_digits test d cs ≤ length cs
        → cond b (suc (prefix_after_digits test d cs)) 0 ≤ suc (length cs)
    by_test true h = omega arith
    by_test false h = omega arith

digits_alone : (test : ℕ → Bool) (d : ℕ) → is_text_after_digits test d (zeros d) ≡ true
digits_alone test zero = refl
digits_alone test (suc d) = digits_alone test d

pub text_begins : (test : ℕ → Bool) (d : ℕ) (text : List ℕ)
    → (k : ℕ)
    × (is_text_after_digits test d (take (prefix_after_digits test d text) text ++ zeros k)
    ≡ true)
text_begins test d [] = (d, digits_alone test d)
text_begins test zero (c ∷ cs) =
    by_test (c == percent_sign || test c) refl (text_begins test (digits_after c) cs)
  where
    n : ℕ
    n = prefix_after_digits test (digits_after c) cs

    by_test : (b : Bool)
        → (c == percent_sign || test c) ≡ b
        → (k : ℕ) × (is_text_after_digits test (digits_after c) (take n cs ++ zeros k) ≡ true)
        → (k : ℕ)
        × (is_text_after_digits test 0 (take (cond b (suc n) 0) (c ∷ cs) ++ zeros k) ≡ true)
    by_test true e h = (h.0, rw e (h.1))
    by_test false e h = (0, refl)
text_begins test (suc d) (c ∷ cs) = by_test (is_ascii_hexdigit c) refl (text_begins test d cs)
  where
    n : ℕ
    n = prefix_after_digits test d cs

    by_test : (b : Bool)
        → is_ascii_hexdigit c ≡ b
        → (k : ℕ) × (is_text_after_digits test d (take n cs ++ zeros k) ≡ true)
        → (k : ℕ)
        × (is_text_after_digits test (suc d) (take (cond b (suc n) 0) (c ∷ cs) ++ zeros k)
        ≡ true)
    by_test true e h = (h.0, rw e (h.1))
    by_test false e h = (suc d, digits_alone test (suc d))

text_ends : (test : ℕ → Bool) (d : ℕ) (text : List ℕ) (m : ℕ) (more : List ℕ)
    → prefix_after_digits test d text < m
    → m ≤ length text
    → is_text_after_digits test d (take m text ++ more) ≡ false
text_ends test d [] m more h k = absurd (omega arith)
text_ends test d (c ∷ cs) zero more h k = absurd (omega arith)
text_ends test zero (c ∷ cs) (suc m) more h k =
    by_test (c == percent_sign || test c) h
    (λ x. text_ends test (digits_after c) cs m more x (omega arith))
  where
    n : ℕ
    n = prefix_after_digits test (digits_after c) cs

    by_test : (b : Bool)
        → cond b (suc n) 0 < suc m
        → (n < m → is_text_after_digits test (digits_after c) (take m cs ++ more) ≡ false)
        → (b && is_text_after_digits test (digits_after c) (take m cs ++ more)) ≡ false
    by_test true x f = f (omega arith)
    by_test false x f = refl
text_ends test (suc d) (c ∷ cs) (suc m) more h k =
    by_test (is_ascii_hexdigit c) h (λ x. text_ends test d cs m more x (omega arith))
  where
    n : ℕ
    n = prefix_after_digits test d cs

    by_test : (b : Bool)
        → cond b (suc n) 0 < suc m
        → (n < m → is_text_after_digits test d (take m cs ++ more) ≡ false)
        → (b && is_text_after_digits test d (take m cs ++ more)) ≡ false
    by_test true x f = f (omega arith)
    by_test false x f = refl

pub text_longest : (test : ℕ → Bool) (text : List ℕ)
    → IsLongest (is_text_of test) text (text_prefix test text)
text_longest test text = let b = text_begins test 0 text in record {
  within = text_within test 0 text;
  begins = (zeros (b.0), b.1);
  longest = λ m h k more. text_ends test 0 text m more h k;
}

-- ---- characters alone

pub run_begins : (test : ℕ → Bool) (text : List ℕ)
    → list_all test (take (prefix_len test text) text) ≡ true
run_begins test [] = refl
run_begins test (c ∷ cs) = by_test (test c) refl (run_begins test cs)
  where
    by_test : (b : Bool)
        → test c ≡ b
        → list_all test (take (prefix_len test cs) cs) ≡ true
        → list_all test (take (cond b (1 + prefix_len test cs) 0) (c ∷ cs)) ≡ true
    by_test true e h =
        let one : 1 + prefix_len test cs ≡ suc (prefix_len test cs) = omega arith in rw one (rw e h)
    by_test false e h = refl

pub run_within : (test : ℕ → Bool) (text : List ℕ) → prefix_len test text ≤ length text
run_within test [] = omega arith
run_within test (c ∷ cs) = by_test (test c) (run_within test cs)
  where
    by_test : (b : Bool)
        → prefix_len test cs ≤ length cs
        → cond b (1 + prefix_len test cs) 0 ≤ suc (length cs)
    by_test true h = omega arith
    by_test false h = omega arith

pub run_ends : (test : ℕ → Bool) (text : List ℕ) (m : ℕ) (more : List ℕ)
    → prefix_len test text < m
    → m ≤ length text
    → list_all test (take m text ++ more) ≡ false
run_ends test [] m more h k = absurd (omega arith)
run_ends test (c ∷ cs) zero more h k = absurd (omega arith)
run_ends test (c ∷ cs) (suc m) more h k =
    by_test (test c) h (λ x. run_ends test cs m more x (omega arith))
  where
    by_test : (b : Bool)
        → cond b (1 + prefix_len test cs) 0 < suc m
        → (prefix_len test cs < m → list_all test (take m cs ++ more) ≡ false)
        → (b && list_all test (take m cs ++ more)) ≡ false
    by_test true x f = f (omega arith)
    by_test false x f = refl

-- ---- ports

pub port_longest : (text : List ℕ) → IsLongest is_port_text text (port_prefix text)
port_longest [] = record {
  within = omega arith;
  begins = ([], refl);
  longest = λ m h k more. absurd (omega arith);
}
port_longest (c ∷ cs) = by_colon (c == colon) refl
  where
    by_colon : (b : Bool)
        → (c == colon) ≡ b
        → IsLongest is_port_text (c ∷ cs) (cond b (suc (prefix_len is_ascii_digit cs)) 0)
    by_colon true e = record {
      within = let a = run_within is_ascii_digit cs in omega arith;
      begins = (
        [],
        rw e
            (ap (list_all is_ascii_digit) (append-nil (take (prefix_len is_ascii_digit cs) cs))
            ∙ run_begins is_ascii_digit cs),
      );
      longest = λ m. at_colon m;
    }
      where
        at_colon : (m : ℕ)
            → suc (prefix_len is_ascii_digit cs) < m
            → m ≤ suc (length cs)
            → (more : List ℕ)
            → is_port_text (take m (c ∷ cs) ++ more) ≡ false
        at_colon zero h k more = absurd (omega arith)
        at_colon (suc m) h k more =
            rw e (run_ends is_ascii_digit cs m more (omega arith) (omega arith))
    by_colon false e = record {
      within = omega arith;
      begins = ([], refl);
      longest = λ m. at_other m;
    }
      where
        at_other : (m : ℕ)
            → 0 < m
            → m ≤ suc (length cs)
            → (more : List ℕ)
            → is_port_text (take m (c ∷ cs) ++ more) ≡ false
        at_other zero h k more = absurd (omega arith)
        at_other (suc m) h k more = rw e refl
