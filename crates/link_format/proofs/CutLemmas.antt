-- A text cut at a separator, by how many octets stand before it.
use Rattle.std.proofs.Common.{
  ◌≡◌,
  ℕ,
  zero,
  suc,
  ◌+◌,
  ◌-◌,
  ◌≤◌,
  ◌<◌,
  Bool,
  true,
  false,
  List,
  [],
  ◌∷◌,
  length,
  take,
  drop,
  Option,
  Some,
  None,
  refl,
  sym,
  ap,
  ◌∙◌,
  subst,
  ◌⊎◌,
  inl,
  inr,
  arith,
}
use Rattle.std.specs.Prelude.{◌==◌, if◌then◌else◌}
use Rattle.std.proofs.lemmas.Bool.{eqb-true, and_parts, cases_lt}
use Rattle.std.proofs.lemmas.Bool.Decides.{nat_tests}
use Rattle.std.proofs.Math.Bool.{and-false}
use Rattle.std.specs.Prelude.{slice_index}
use Rattle.std.specs.Str.{IsCharBoundary}
use Rattle.link_format.specs.Cuts.{
  quotes_after,
  is_separator,
  octets_before,
  onto_before,
  cut,
  from_separator,
}
use Rattle.link_model.specs.Characters.{quote_mark, backslash}
use Rattle.link_format.specs.declared.cuts.Quotes.{Quotes}
use Rattle.link_format.specs.declared.cuts.Quotes.TheVariants.{
  Unread,
  Leading,
  Outside,
  Inside,
  Escaped,
}

pub octets_before_end : (separator : ℕ) (quotes : Quotes) → octets_before separator quotes [] ≡ 0
unfolding octets_before
octets_before_end separator quotes = refl

pub octets_before_there : (separator : ℕ) (quotes : Quotes) (b : ℕ) (bs : List ℕ)
    → is_separator separator quotes b ≡ true
    → octets_before separator quotes (b ∷ bs) ≡ 0
unfolding octets_before
octets_before_there separator quotes b bs e = rw e refl

pub octets_before_step : (separator : ℕ) (quotes : Quotes) (b : ℕ) (bs : List ℕ)
    → is_separator separator quotes b ≡ false
    → octets_before separator quotes (b ∷ bs)
    ≡ suc (octets_before separator (quotes_after quotes b) bs)
unfolding octets_before
octets_before_step separator quotes b bs e = rw e refl

-- what a cut is by the number of octets before it
pub record CutAt (separator : ℕ) (text : List ℕ) (n : ℕ) (parts : List ℕ × Option (List ℕ)) : Type 0
  where
    pub within : n ≤ length text
    pub before : parts.0 ≡ take n text
    pub whole : n ≡ length text → parts.1 ≡ None
    pub after : n < length text → parts.1 ≡ Some (drop (suc n) text)
    pub there : n < length text → slice_index text n ≡ separator

pub cut_at : (separator : ℕ) (quotes : Quotes) (text : List ℕ)
    → CutAt separator text (octets_before separator quotes text) (cut separator quotes text)
unfolding octets_before cut
cut_at separator quotes [] = record {
  within = omega arith;
  before = refl;
  whole = λ _. refl;
  after = λ h. absurd (omega arith);
  there = λ h. absurd (omega arith);
}
cut_at separator quotes (b ∷ bs) =
    by_test (is_separator separator quotes b) refl (cut_at separator (quotes_after quotes b) bs)
  where
    further : (n : ℕ) (parts : List ℕ × Option (List ℕ))
        → CutAt separator bs n parts
        → CutAt separator (b ∷ bs) (suc n) (onto_before b parts)
    further n parts c = record {
      within = let w = c.within in omega arith;
      before = ap (λ (x : List ℕ). b ∷ x) c.before;
      whole = λ h. c.whole (omega arith);
      after = λ h. c.after (omega arith);
      there = λ h. c.there (omega arith);
    }

    by_test : (t : Bool)
        → is_separator separator quotes b ≡ t
        → CutAt separator bs (octets_before separator (quotes_after quotes b) bs)
        (cut separator (quotes_after quotes b) bs)
        → CutAt separator (b ∷ bs)
        (if t then 0 else suc (octets_before separator (quotes_after quotes b) bs))
        (if t then ([], Some bs) else onto_before b (cut separator (quotes_after quotes b) bs))
    by_test true e c = record {
      within = omega arith;
      before = refl;
      whole = λ h. absurd (omega arith);
      after = λ h. refl;
      there = λ h. eqb-true b separator ((and_parts (b == separator) _ e).0);
    }
    by_test false e c =
        further (octets_before separator (quotes_after quotes b) bs)
        (cut separator (quotes_after quotes b) bs) c

-- before a separator of ASCII a character ends
pub boundary : (separator n : ℕ) (text : List ℕ) (parts : List ℕ × Option (List ℕ))
    → CutAt separator text n parts
    → separator < 128
    → IsCharBoundary text n
boundary separator n text parts c low =
    (c.within, λ below high. let e = c.there below in absurd (omega arith))

-- a count of octets has come to this rest of a text
pub record Counted (separator : ℕ) (first : Quotes) (text : List ℕ) (quotes : Quotes)
    (rest : List ℕ) : Type 0 where
  pub within : length rest ≤ length text
  pub counted :
      octets_before separator first text + length rest
      ≡ length text + octets_before separator quotes rest

pub counted_start : (separator : ℕ) (quotes : Quotes) (text : List ℕ)
    → Counted separator quotes text quotes text
counted_start separator quotes text = record { within = omega arith; counted = omega arith }

pub counted_step : (separator : ℕ) (first : Quotes) (text : List ℕ) (quotes : Quotes)
    (rest : List ℕ) (b : ℕ) (bs : List ℕ)
    → Counted separator first text quotes rest
    → rest ≡ b ∷ bs
    → is_separator separator quotes b ≡ false
    → Counted separator first text (quotes_after quotes b) bs
counted_step separator first text quotes rest b bs c e f =
    at_cons (subst (λ (r : List ℕ). Counted separator first text quotes r) e c)
  where
    at_cons : Counted separator first text quotes (b ∷ bs)
        → Counted separator first text (quotes_after quotes b) bs
    at_cons c =
        let s = octets_before_step separator quotes b bs f in
        let w = c.within in let k = c.counted in record {
          within = omega arith;
          counted = omega arith;
        }

-- an octet that is not the separator
other : (separator : ℕ) (quotes : Quotes) (b : ℕ)
    → (b ≡ separator → ⊥)
    → is_separator separator quotes b ≡ false
other separator quotes b h =
    let e : (b == separator) ≡ false = grind (arith, nat_tests) in rw e refl

not_equal : (a b : ℕ) → (a ≡ b → ⊥) → (a == b) ≡ false
not_equal a b h = grind (arith, nat_tests)

equal : (a b : ℕ) → a ≡ b → (a == b) ≡ true
equal a b h = grind (arith, nat_tests)

-- where quotation marks mean nothing
pub unread_step : (separator : ℕ) (text rest : List ℕ) (b : ℕ) (bs : List ℕ)
    → Counted separator Unread text Unread rest
    → rest ≡ b ∷ bs
    → (b ≡ separator → ⊥)
    → Counted separator Unread text Unread bs
unread_step separator text rest b bs c e h =
    counted_step separator Unread text Unread rest b bs c e (other separator Unread b h)

pub unread_there : (separator : ℕ) (text rest : List ℕ) (b : ℕ) (bs : List ℕ)
    → Counted separator Unread text Unread rest
    → rest ≡ b ∷ bs
    → b ≡ separator
    → length text - length rest ≡ octets_before separator Unread text
unread_there separator text rest b bs c e h =
    let s : octets_before separator Unread rest ≡ 0 =
    ap (octets_before separator Unread) e
    ∙ octets_before_there separator Unread b bs (let t = equal b separator h in rw t refl) in
    let w = c.within in
    let k = c.counted in
    omega arith

pub counted_end : (separator : ℕ) (first : Quotes) (text : List ℕ) (quotes : Quotes) (rest : List ℕ)
    → Counted separator first text quotes rest
    → length rest ≡ 0
    → length text ≡ octets_before separator first text
counted_end separator first text quotes [] c e =
    let s = octets_before_end separator quotes in let k = c.counted in omega arith
counted_end separator first text quotes (b ∷ bs) c e = absurd (omega arith)

-- a quoted string that is not closed
pub inside_end : (separator : ℕ) (text rest : List ℕ)
    → Counted separator Inside text Inside rest
    → length rest ≡ 0
    → octets_before separator Inside text + length rest
    ≡ length text + octets_before separator Outside rest
inside_end separator text [] c e =
    let s = octets_before_end separator Inside in
    let t = octets_before_end separator Outside in let k = c.counted in omega arith
inside_end separator text (b ∷ bs) c e = absurd (omega arith)

-- within quoted strings
module _ (separator : ℕ) (text rest : List ℕ) (b : ℕ) (bs : List ℕ)
    (c : Counted separator Inside text Inside rest) (e : rest ≡ b ∷ bs) where
  pub inside_plain : (b ≡ quote_mark → ⊥)
      → (b ≡ backslash → ⊥)
      → Counted separator Inside text Inside bs
  inside_plain q k =
      let is_plain : quotes_after Inside b ≡ Inside =
      rw (not_equal b quote_mark q, not_equal b backslash k) refl in
      subst (λ (s : Quotes). Counted separator Inside text s bs) is_plain
      (counted_step separator Inside text Inside rest b bs c e (and-false (b == separator)))

  pub inside_closed : b ≡ quote_mark → Counted separator Inside text Outside bs
  inside_closed q =
      let closes : quotes_after Inside b ≡ Outside = rw (equal b quote_mark q) refl in
      subst (λ (s : Quotes). Counted separator Inside text s bs) closes
      (counted_step separator Inside text Inside rest b bs c e (and-false (b == separator)))

  -- the octet after a backslash is not read
  pub inside_escape : b ≡ backslash
      → (after : List ℕ)
      → after ≡ drop 1 bs
      → Counted separator Inside text Inside after
  inside_escape k after f =
      subst (λ (r : List ℕ). Counted separator Inside text Inside r) (sym f) (behind bs escaped)
    where
      escapes : (d : ℕ) → d ≡ backslash → quotes_after Inside d ≡ Escaped
      escapes d h = rw h refl

      escaped : Counted separator Inside text Escaped bs
      escaped =
          subst (λ (s : Quotes). Counted separator Inside text s bs) (escapes b k)
          (counted_step separator Inside text Inside rest b bs c e (and-false (b == separator)))

      at_end : Counted separator Inside text Escaped [] → Counted separator Inside text Inside []
      at_end d =
          let m = octets_before_end separator Escaped in
          let n = octets_before_end separator Inside in
          let w = d.within in let k = d.counted in record {
            within = w;
            counted = omega arith;
          }

      behind : (cs : List ℕ)
          → Counted separator Inside text Escaped cs
          → Counted separator Inside text Inside (drop 1 cs)
      behind [] d = at_end d
      behind (x ∷ xs) d =
          counted_step separator Inside text Escaped (x ∷ xs) x xs d refl
          (and-false (x == separator))

-- outside quoted strings
module _ (separator : ℕ) (first rest : List ℕ) (c : Counted separator Outside first Outside rest)
  where
    pub outside_end : (n : ℕ)
        → length first ≤ n
        → length rest ≡ 0
        → n + length first ≡ n + octets_before separator Outside first
    outside_end n room e =
        let k = counted_end separator Outside first Outside rest c e in omega arith

    module _ (b : ℕ) (bs : List ℕ) (e : rest ≡ b ∷ bs) where
      pub outside_there : (n : ℕ)
          → length first ≤ n
          → b ≡ separator
          → n - length rest + length first ≡ n + octets_before separator Outside first
      outside_there n room h =
          let s : octets_before separator Outside rest ≡ 0 =
          ap (octets_before separator Outside) e
          ∙ octets_before_there separator Outside b bs
          (let t = equal b separator h in rw t refl) in
          let w = c.within in
          let k = c.counted in
          omega arith

      pub outside_plain : (b ≡ separator → ⊥)
          → (b ≡ quote_mark → ⊥)
          → Counted separator Outside first Outside bs
      outside_plain h q =
          let is_plain : quotes_after Outside b ≡ Outside = rw (not_equal b quote_mark q) refl in
          subst (λ (s : Quotes). Counted separator Outside first s bs) is_plain
          (counted_step separator Outside first Outside rest b bs c e
          (other separator Outside b h))

      -- a quoted string is read to its end
      pub outside_quoted : (b ≡ separator → ⊥)
          → b ≡ quote_mark
          → (after : List ℕ)
          → length after ≤ length bs
          → octets_before separator Inside bs + length after
          ≡ length bs + octets_before separator Outside after
          → Counted separator Outside first Outside after
      outside_quoted h q after less read =
          let opens : quotes_after Outside b ≡ Inside = rw (equal b quote_mark q) refl in
          let opened =
          subst (λ (s : Quotes). Counted separator Outside first s bs) opens
          (counted_step separator Outside first Outside rest b bs c e (other separator Outside
          b h)) in
          let w = opened.within in
          let k = opened.counted in
          record { within = omega arith; counted = omega arith }

-- ---- a text whose first octet is read otherwise

-- it is no separator and no quotation mark
pub leading : (separator n : ℕ) (text after : List ℕ)
    → after ≡ drop 1 text
    → n + length after ≡ length text + octets_before separator Outside after
    → n ≡ octets_before separator Leading text
leading separator n [] after e h =
    let l = ap length e in
    let s : octets_before separator Outside after ≡ 0 =
    ap (octets_before separator Outside) e ∙ octets_before_end separator Outside in
    let t = octets_before_end separator Leading in omega arith
leading separator n (b ∷ bs) after e h =
    let l = ap length e in
    let s : octets_before separator Outside after ≡ octets_before separator Outside bs =
    ap (octets_before separator Outside) e in
    let t = octets_before_step separator Leading b bs (and-false (b == separator)) in
    omega arith

-- it stands after a backslash in a quoted string
pub escaped : (separator n : ℕ) (text inside after : List ℕ)
    → inside ≡ drop 1 text
    → length after ≤ length inside
    → octets_before separator Inside inside + length after
    ≡ length inside + octets_before separator Outside after
    → n + length after ≡ length text + octets_before separator Outside after
    → n ≡ octets_before separator Escaped text
escaped separator n [] inside after e less read h =
    let l = ap length e in
    let s : octets_before separator Inside inside ≡ 0 =
    ap (octets_before separator Inside) e ∙ octets_before_end separator Inside in
    let t = octets_before_end separator Escaped in omega arith
escaped separator n (b ∷ bs) inside after e less read h =
    let l = ap length e in
    let s : octets_before separator Inside inside ≡ octets_before separator Inside bs =
    ap (octets_before separator Inside) e in
    let t = octets_before_step separator Escaped b bs (and-false (b == separator)) in
    omega arith

-- a cut at the number of octets that was counted in the same octets
pub cut_counted : (separator : ℕ) (quotes : Quotes) (bytes text : List ℕ) (n : ℕ)
    → n ≡ octets_before separator quotes bytes
    → bytes ≡ text
    → CutAt separator text n (cut separator quotes text)
cut_counted separator quotes bytes text n e f =
    subst (λ (m : ℕ). CutAt separator text m (cut separator quotes text))
    (sym (e ∙ ap (λ (t : List ℕ). octets_before separator quotes t) f))
    (cut_at separator quotes text)

drop_there : (n : ℕ) (text : List ℕ)
    → n < length text
    → drop n text ≡ slice_index text n ∷ drop (suc n) text
drop_there n [] h = absurd (omega arith)
drop_there zero (b ∷ bs) h = refl
drop_there (suc n) (b ∷ bs) h = drop_there n bs (omega arith)

drop_whole : (n : ℕ) (text : List ℕ) → n ≡ length text → drop n text ≡ []
drop_whole zero [] h = refl
drop_whole (suc n) [] h = absurd (omega arith)
drop_whole zero (b ∷ bs) h = absurd (omega arith)
drop_whole (suc n) (b ∷ bs) h = drop_whole n bs (omega arith)

-- what stands from a separator on is what stands after the octets before it
pub rest_at : (separator n : ℕ) (text : List ℕ) (parts : List ℕ × Option (List ℕ))
    → CutAt separator text n parts
    → drop n text ≡ from_separator separator parts.1
rest_at separator n text parts c = by_order (cases_lt n (length text))
  where
    by_order : (n < length text) ⊎ (length text ≤ n)
        → drop n text ≡ from_separator separator parts.1
    by_order (inl h) =
        drop_there n text h
        ∙ ap (λ (b : ℕ). b ∷ drop (suc n) text) (c.there h)
        ∙ ap (from_separator separator) (sym (c.after h))
    by_order (inr h) =
        let w = c.within in
        let e : n ≡ length text = omega arith in
        drop_whole n text e ∙ ap (from_separator separator) (sym (c.whole e))
