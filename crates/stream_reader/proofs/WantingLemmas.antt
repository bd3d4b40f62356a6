-- Octets that are fewer than are wanted of a message are less than one (RFC 8323 section 3.2).
use Rattle.std.proofs.Common.{
  ◌≡◌,
  ℕ,
  ◌+◌,
  ◌/◌,
  ◌%◌,
  ◌<◌,
  ◌≤◌,
  ◌==◌,
  lit≤,
  Bool,
  true,
  false,
  cond,
  nat_lt,
  nat_le,
  Option,
  Some,
  None,
  List,
  [],
  ◌∷◌,
  ◌++◌,
  length,
  drop,
  take,
  refl,
  sym,
  ap,
  subst,
  ◌∙◌,
  ◌⊎◌,
  inl,
  inr,
  append_assoc,
  arith,
}
use Rattle.std.proofs.lemmas.Bool.{ltb-true, ltb-false, lt-ltb, le-ltb}
use Rattle.std.proofs.lemmas.List.{
  length-append,
  length-drop,
  length-take,
  take-append-le,
  take-append-drop,
  nil_from_length,
}
use Rattle.stream_model.specs.declared.messages.Judged.TheVariants as judged
use Rattle.stream_model.specs.declared.messages.StreamBad.{StreamBad}
use Rattle.stream_model.specs.declared.messages.StreamBad.TheVariants as bad
use Rattle.stream_model.specs.Faults.{message_fault}
use Rattle.stream_model.specs.Judging.{
  judge,
  FrontsMore,
  judge_after,
  judge_lengths,
  judge_body,
  verdict_by,
  extension_size,
  length_said,
}
use Rattle.stream_reader.specs.Wanting.{wanted_of, has_short_token}

-- ---- what less than a message says

pub extension_few : (nibble : ℕ) → extension_size nibble ≤ 4
unfolding extension_size
extension_few nibble = by (nat_lt nibble 13) (nibble == 13) (nibble == 14)
  where
    by : (p q r : Bool) → cond p 0 (cond q 1 (cond r 2 4)) ≤ 4
    by true q r = lit≤ tt
    by false true r = lit≤ tt
    by false false true = lit≤ tt
    by false false false = lit≤ tt

verdict_not_more : (fault : Option StreamBad) → verdict_by fault ≡ judged.More → ⊥
verdict_not_more None e = absurd cc
verdict_not_more (Some why) e = absurd cc

body_not_more : (is_first : Bool) (token : ℕ) (octets : List ℕ)
    → 0 < length octets
    → judge_body is_first token octets ≡ judged.More
    → ⊥
body_not_more is_first token [] some e = absurd (omega (arith, some))
body_not_more is_first token (c ∷ octets) some e =
    verdict_not_more (message_fault is_first c (drop token octets)) e

-- The lengths are good, and octets behind the first one are fewer than they say.
record IsShort (extension token size : ℕ) (octets : List ℕ) : Type 0 where
  token_is : nat_lt 8 token ≡ false
  size_is : nat_lt 1152 (extension + token + size + 2) ≡ false
  few : length octets < extension + token + size + 1

short_of_more : (is_first : Bool) (extension token size : ℕ) (octets : List ℕ)
    → extension ≤ length octets
    → judge_lengths is_first extension token size octets ≡ judged.More
    → IsShort extension token size octets
short_of_more is_first extension token size octets within e =
    by (nat_lt 8 token) (nat_lt 1152 (extension + token + size + 2))
    (nat_lt (length octets) (extension + token + size + 1)) refl refl refl e
  where
    by : (p q r : Bool)
        → nat_lt 8 token ≡ p
        → nat_lt 1152 (extension + token + size + 2) ≡ q
        → nat_lt (length octets) (extension + token + size + 1) ≡ r
        → cond p (judged.Bad bad.Format)
        (cond q (judged.Bad bad.Size)
        (cond r judged.More (judge_body is_first token (drop extension octets))))
        ≡ judged.More
        → IsShort extension token size octets
    by true q r ep eq er e = absurd cc
    by false true r ep eq er e = absurd cc
    by false false true ep eq er e = record {
      token_is = ep;
      size_is = eq;
      few = ltb-true _ _ er;
    }
    by false false false ep eq er e =
        absurd (body_not_more is_first token (drop extension octets)
        (rw (length-drop extension octets) (omega (arith, ltb-false _ _ er))) e)

more_of_short : (is_first : Bool) (extension token size : ℕ) (octets : List ℕ)
    → IsShort extension token size octets
    → judge_lengths is_first extension token size octets ≡ judged.More
more_of_short is_first extension token size octets s =
    rw (s.token_is, s.size_is, lt-ltb (length octets) (extension + token + size + 1) s.few) refl

-- The length that octets behind the first one say, where they are enough.
abbrev said : ℕ → List ℕ → ℕ
said nibble octets = length_said nibble (take (extension_size nibble) octets)

-- Octets behind the first one that are less than a message: its lengths are not there, or they are
-- good.
record IsLessOfAll (nibble token : ℕ) (octets : List ℕ) : Type 0 where
  within : extension_size nibble ≤ length octets
  short : IsShort (extension_size nibble) token (said nibble octets) octets

after_cases : (is_first : Bool) (nibble token : ℕ) (octets : List ℕ)
    → judge_after is_first nibble token octets ≡ judged.More
    → (length octets < extension_size nibble) ⊎ IsLessOfAll nibble token octets
after_cases is_first nibble token octets e =
    by (nat_lt (length octets) (extension_size nibble)) refl e
  where
    by : (p : Bool)
        → nat_lt (length octets) (extension_size nibble) ≡ p
        → cond p judged.More
        (judge_lengths is_first (extension_size nibble) token (said nibble octets) octets)
        ≡ judged.More
        → (length octets < extension_size nibble) ⊎ IsLessOfAll nibble token octets
    by true ep e = inl (ltb-true _ _ ep)
    by false ep e =
        let within = ltb-false _ _ ep in
        let size = said nibble octets in
        inr (record {
          within = within;
          short =
              short_of_more is_first (extension_size nibble) token (said nibble octets) octets
              within
              e;
        })

few_more : (is_first : Bool) (nibble token : ℕ) (octets : List ℕ)
    → length octets < extension_size nibble
    → judge_after is_first nibble token octets ≡ judged.More
few_more is_first nibble token octets few =
    rw (lt-ltb (length octets) (extension_size nibble) few) refl

less_more : (is_first : Bool) (nibble token : ℕ) (octets : List ℕ)
    → IsLessOfAll nibble token octets
    → judge_after is_first nibble token octets ≡ judged.More
less_more is_first nibble token octets s =
    rw (le-ltb (length octets) (extension_size nibble) s.within)
    (more_of_short is_first (extension_size nibble) token (said nibble octets) octets s.short)

-- More octets say the same length.
same_said : (nibble : ℕ) (octets more : List ℕ)
    → extension_size nibble ≤ length octets
    → said nibble (octets ++ more) ≡ said nibble octets
same_said nibble octets more within =
    ap (length_said nibble) (take-append-le (extension_size nibble) octets more within)

-- ---- fronts of less than a message

front_after : (is_first : Bool) (nibble token : ℕ) (front rest : List ℕ)
    → judge_after is_first nibble token (front ++ rest) ≡ judged.More
    → judge_after is_first nibble token front ≡ judged.More
front_after is_first nibble token front rest e =
    by (nat_lt (length front) (extension_size nibble)) refl
  where
    size : length (front ++ rest) ≡ length front + length rest
    size = length-append front rest

    whole : extension_size nibble ≤ length front
        → (length (front ++ rest) < extension_size nibble)
        ⊎ IsLessOfAll nibble token (front ++ rest)
        → judge_after is_first nibble token front ≡ judged.More
    whole within (inl few) = absurd (omega (arith, within, few, size))
    whole within (inr s) =
        let same = same_said nibble front rest within in
        less_more is_first nibble token front (record {
          within = within;
          short = record {
            token_is = s.short.token_is;
            size_is = subst
                (λ (n : ℕ). nat_lt 1152 (extension_size nibble + token + n + 2) ≡ false)
                same s.short.size_is;
            few = omega (arith, s.short.few, same, size);
          };
        })

    by : (p : Bool)
        → nat_lt (length front) (extension_size nibble) ≡ p
        → judge_after is_first nibble token front ≡ judged.More
    by true ep = few_more is_first nibble token front (ltb-true _ _ ep)
    by false ep = whole (ltb-false _ _ ep) (after_cases is_first nibble token (front ++ rest) e)

pub front_of_more : (is_first : Bool) (front rest : List ℕ)
    → judge is_first (front ++ rest) ≡ judged.More
    → judge is_first front ≡ judged.More
unfolding judge
front_of_more is_first [] rest e = refl
front_of_more is_first (b ∷ front) rest e = front_after is_first (b / 16) (b % 16) front rest e

-- ---- fewer octets than are wanted

pub wanted_positive : (octets : List ℕ) → 0 < wanted_of octets
unfolding wanted_of
wanted_positive [] = omega arith
wanted_positive (b ∷ octets) = by (nat_lt (length octets) (extension_size (b / 16)))
  where
    by : (p : Bool)
        → 0 < cond p (extension_size (b / 16) + 1)
        (extension_size (b / 16) + b % 16 + said (b / 16) octets + 2)
    by true = omega arith
    by false = omega arith

-- What is wanted of octets behind the first one.
abbrev wanted_after : ℕ → ℕ → List ℕ → ℕ
wanted_after nibble token octets =
    cond (nat_lt (length octets) (extension_size nibble)) (extension_size nibble + 1)
    (extension_size nibble + token + said nibble octets + 2)

wanted_lengths : (nibble token : ℕ) (octets : List ℕ)
    → length octets < extension_size nibble
    → wanted_after nibble token octets ≡ extension_size nibble + 1
wanted_lengths nibble token octets few =
    rw (lt-ltb (length octets) (extension_size nibble) few) refl

wanted_all : (nibble token : ℕ) (octets : List ℕ)
    → extension_size nibble ≤ length octets
    → wanted_after nibble token octets ≡ extension_size nibble + token + said nibble octets + 2
wanted_all nibble token octets within =
    rw (le-ltb (length octets) (extension_size nibble) within) refl

-- Less than a message is less than what is wanted, and that is no more than a message may have.
pub record IsRoomFor (octets : List ℕ) : Type 0 where
  pub less : length octets < wanted_of octets
  pub few : wanted_of octets ≤ 1152

pub room_for : (is_first : Bool) (octets : List ℕ)
    → judge is_first octets ≡ judged.More
    → IsRoomFor octets
unfolding judge wanted_of
room_for is_first [] e = record { less = omega arith; few = omega arith }
room_for is_first (b ∷ octets) e = by (after_cases is_first (b / 16) (b % 16) octets e)
  where
    by : (length octets < extension_size (b / 16)) ⊎ IsLessOfAll (b / 16) (b % 16) octets
        → IsRoomFor (b ∷ octets)
    by (inl few) =
        let wanted = wanted_lengths (b / 16) (b % 16) octets few in
        let most = extension_few (b / 16) in
        record { less = rw wanted (omega (arith, few)); few = rw wanted (omega (arith, most)) }
    by (inr s) =
        let wanted = wanted_all (b / 16) (b % 16) octets s.within in
        record {
          less = rw wanted (omega (arith, s.short.few));
          few = rw wanted (ltb-false _ _ s.short.size_is);
        }

-- More octets that are fewer than are wanted.
pub waits : (is_first : Bool) (octets more : List ℕ)
    → judge is_first octets ≡ judged.More
    → length (octets ++ more) < wanted_of octets
    → judge is_first (octets ++ more) ≡ judged.More
unfolding judge wanted_of
waits is_first [] [] e few = refl
waits is_first [] (x ∷ more) e few = absurd (omega (arith, few))
waits is_first (b ∷ octets) more e few = by (after_cases is_first (b / 16) (b % 16) octets e)
  where
    size : length (octets ++ more) ≡ length octets + length more
    size = length-append octets more

    by : (length octets < extension_size (b / 16)) ⊎ IsLessOfAll (b / 16) (b % 16) octets
        → judge_after is_first (b / 16) (b % 16) (octets ++ more) ≡ judged.More
    by (inl short) =
        let wanted = wanted_lengths (b / 16) (b % 16) octets short in
        few_more is_first (b / 16) (b % 16) (octets ++ more) (omega (arith, few, wanted))
    by (inr s) =
        let wanted = wanted_all (b / 16) (b % 16) octets s.within in
        let same = same_said (b / 16) octets more s.within in
        less_more is_first (b / 16) (b % 16) (octets ++ more) (record {
          within = omega (arith, s.within, size);
          short = record {
            token_is = s.short.token_is;
            size_is = subst
                (λ (n : ℕ). nat_lt 1152 (extension_size (b / 16) + b % 16 + n + 2) ≡ false)
                (sym same) s.short.size_is;
            few = omega (arith, few, wanted, same);
          };
        })

pub same_wanted : (octets more : List ℕ)
    → length (octets ++ more) < wanted_of octets
    → wanted_of (octets ++ more) ≡ wanted_of octets
unfolding wanted_of
same_wanted [] [] few = refl
same_wanted [] (x ∷ more) few = absurd (omega (arith, few))
same_wanted (b ∷ octets) more few = by (nat_lt (length octets) (extension_size (b / 16))) refl
  where
    size : length (octets ++ more) ≡ length octets + length more
    size = length-append octets more

    by : (p : Bool)
        → nat_lt (length octets) (extension_size (b / 16)) ≡ p
        → wanted_after (b / 16) (b % 16) (octets ++ more)
        ≡ wanted_after (b / 16) (b % 16) octets
    by true ep =
        let wanted = wanted_lengths (b / 16) (b % 16) octets (ltb-true _ _ ep) in
        wanted_lengths (b / 16) (b % 16) (octets ++ more) (omega (arith, few, wanted))
        ∙ sym wanted
    by false ep =
        let within = ltb-false _ _ ep in
        wanted_all (b / 16) (b % 16) (octets ++ more) (omega (arith, within, size))
        ∙ ap (λ (n : ℕ). extension_size (b / 16) + b % 16 + n + 2)
        (same_said (b / 16) octets more within)
        ∙ sym (wanted_all (b / 16) (b % 16) octets within)

-- ---- up to what is wanted

-- Two fronts of the same octets: the first is one of the second, or begins with it.
two_fronts : (front rest octets more : List ℕ)
    → front ++ rest ≡ octets ++ more
    → ((between : List ℕ) × (front ++ between ≡ octets))
    ⊎ ((between : List ℕ) × (octets ++ between ≡ front))
two_fronts [] rest octets more e = inl (octets, refl)
two_fronts (x ∷ front) rest [] more e = inr (x ∷ front, refl)
two_fronts (x ∷ front) rest (y ∷ octets) more e =
    let first : x ≡ y = cc in
    let others : front ++ rest ≡ octets ++ more = cc in
    behind first (two_fronts front rest octets more others)
  where
    behind : x ≡ y
        → ((between : List ℕ) × (front ++ between ≡ octets))
        ⊎ ((between : List ℕ) × (octets ++ between ≡ front))
        → ((between : List ℕ) × (x ∷ front ++ between ≡ y ∷ octets))
        ⊎ ((between : List ℕ) × (y ∷ octets ++ between ≡ x ∷ front))
    behind first (inl s) = inl (s.0, let same = s.1 in cc)
    behind first (inr s) = inr (s.0, let same = s.1 in cc)

pub fronts_wanted : (is_first : Bool) (octets more : List ℕ)
    → judge is_first octets ≡ judged.More
    → length (octets ++ more) ≤ wanted_of octets
    → FrontsMore is_first (octets ++ more)
fronts_wanted is_first octets more e few =
    λ front rest same some. by front rest same some (two_fronts front rest octets more same)
  where
    by : (front rest : List ℕ)
        → front ++ rest ≡ octets ++ more
        → 0 < length rest
        → ((between : List ℕ) × (front ++ between ≡ octets))
        ⊎ ((between : List ℕ) × (octets ++ between ≡ front))
        → judge is_first front ≡ judged.More
    by front rest same some (inl s) =
        front_of_more is_first front s.0 (ap (judge is_first) s.1 ∙ e)
    by front rest same some (inr s) =
        let sizes : length front + length rest ≡ length (octets ++ more) =
        sym (length-append front rest) ∙ ap (λ (l : List ℕ). length l) same in
        let front_size : length (octets ++ s.0) ≡ length front =
        ap (λ (l : List ℕ). length l) s.1 in
        ap (judge is_first) (sym s.1)
        ∙ waits is_first octets s.0 e (omega (arith, sizes, some, few, front_size))

-- ---- a message that stands whole in a piece

-- The first octet alone has no front but nothing.
pub one_front : (is_first : Bool) (octets : List ℕ) → FrontsMore is_first (take 1 octets)
unfolding judge
one_front is_first octets = λ front more same some.
    let size = length-take 1 octets in
    let sizes : length front + length more ≡ length (take 1 octets) =
    sym (length-append front more) ∙ ap (λ (l : List ℕ). length l) same in
    let none : front ≡ [] = nil_from_length front (omega (arith, size, sizes, some)) in
    ap (judge is_first) none

front_below : (is_first : Bool) (b : ℕ) (front rest : List ℕ)
    → length (b ∷ front) < wanted_of (b ∷ front ++ rest)
    → wanted_of (b ∷ front ++ rest) ≤ 1152
    → wanted_of (b ∷ front ++ rest) ≤ length (b ∷ front ++ rest)
    → nat_le (b % 16) 8 ≡ true
    → judge is_first (b ∷ front) ≡ judged.More
unfolding judge wanted_of
front_below is_first b front rest less few within short =
    by (nat_lt (length front) (extension_size (b / 16))) refl
  where
    size : length (front ++ rest) ≡ length front + length rest
    size = length-append front rest

    by : (p : Bool)
        → nat_lt (length front) (extension_size (b / 16)) ≡ p
        → judge_after is_first (b / 16) (b % 16) front ≡ judged.More
    by true ep = few_more is_first (b / 16) (b % 16) front (ltb-true _ _ ep)
    by false ep =
        let enough = ltb-false _ _ ep in
        let all : extension_size (b / 16) ≤ length (front ++ rest) =
        omega (arith, enough, size) in
        let wanted = wanted_all (b / 16) (b % 16) (front ++ rest) all in
        let same = same_said (b / 16) front rest enough in
        let token : b % 16 ≤ 8 = grind (arith, short) in
        less_more is_first (b / 16) (b % 16) front (record {
          within = enough;
          short = record {
            token_is = le-ltb 8 (b % 16) token;
            size_is = le-ltb 1152 (extension_size (b / 16) + b % 16 + said (b / 16) front + 2)
                (omega (arith, few, wanted, same));
            few = omega (arith, less, wanted, same);
          };
        })

pub leap_fronts : (is_first : Bool) (octets : List ℕ)
    → wanted_of octets ≤ 1152
    → wanted_of octets ≤ length octets
    → has_short_token octets ≡ true
    → FrontsMore is_first (take (wanted_of octets) octets)
unfolding judge
leap_fronts is_first octets few within short = λ front more same some.
    by octets few within short front (more ++ drop (wanted_of octets) octets)
    (sym (append_assoc front more (drop (wanted_of octets) octets))
    ∙ ap (λ (l : List ℕ). l ++ drop (wanted_of octets) octets) same
    ∙ take-append-drop (wanted_of octets) octets)
    (let size = length-take (wanted_of octets) octets in
    let sizes : length front + length more ≡ length (take (wanted_of octets) octets) =
    sym (length-append front more) ∙ ap (λ (l : List ℕ). length l) same in
    omega (arith, size, sizes, some, within))
  where
    by : (piece : List ℕ)
        → wanted_of piece ≤ 1152
        → wanted_of piece ≤ length piece
        → has_short_token piece ≡ true
        → (front rest : List ℕ)
        → front ++ rest ≡ piece
        → length front < wanted_of piece
        → judge is_first front ≡ judged.More
    by piece few within short [] rest same less = refl
    by [] few within short (b ∷ front) rest same less = absurd cc
    by (x ∷ piece) few within short (b ∷ front) rest same less =
        front_below is_first b front rest
        (subst (λ (l : List ℕ). length (b ∷ front) < wanted_of l) (sym same) less)
        (subst (λ (l : List ℕ). wanted_of l ≤ 1152) (sym same) few)
        (subst (λ (l : List ℕ). wanted_of l ≤ length l) (sym same) within)
        (subst (λ (l : List ℕ). has_short_token l ≡ true) (sym same) short)
