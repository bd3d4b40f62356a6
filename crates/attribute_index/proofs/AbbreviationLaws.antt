-- Abbreviations: where those of two names and values differ, they are ordered as these are.
use Rattle.std.proofs.Common.{
  ◌≡◌,
  ℕ,
  zero,
  suc,
  ◌+◌,
  ◌*◌,
  ◌/◌,
  ◌%◌,
  ◌<◌,
  ◌≤◌,
  ◌-◌,
  arith,
  drop,
  length,
  get_or,
  List,
  [],
  ◌∷◌,
  ◌++◌,
  map,
  nat_cmp,
  refl,
  sym,
  ap,
  ◌∙◌,
  subst,
}
use Rattle.std.proofs.Math.Seq.{drop-drop, drop-nil}
use Rattle.std.specs.declared.cmp.Ordering.{Ordering}
use Rattle.std.specs.declared.cmp.Ordering.TheVariants.{Less, Equal, Greater}
use Rattle.std.specs.Ordering.{ordering_then, MatchOrdering}
use Rattle.std.specs.Cmp.{ranks}
use Rattle.std.specs.Cmp.Lexicographic.{slice_cmp}
use Rattle.std.specs.List.{AllByRecursion}
use Rattle.attribute_index.specs.declared.abbreviations.Abbreviation.{Abbreviation}
use Rattle.attribute_index.specs.declared.abbreviations.Last.{Last}
use Rattle.attribute_index.specs.declared.abbreviations.Last.TheVariants.{Own, Raised}
use Rattle.attribute_index.specs.Abbreviations.{
  IsAbbreviation,
  Spells,
  abbreviation_cmp,
  symbols_of,
  symbols_to,
  raised,
  digit_of,
  spelled,
  AreOctets,
  digits_in,
  digits_of,
  octets_in,
  digits_behind,
  told_by,
}
use Rattle.attribute_index.specs.Rows.{value_cmp}

-- ---- numbers

is_less : (x y : ℕ) (r : Ordering) → MatchOrdering r (x < y) (x ≡ y) (y < x) → x < y → r ≡ Less
is_less x y Less h below = refl
is_less x y Equal h below = absurd (omega arith)
is_less x y Greater h below = absurd (omega arith)

is_equal : (x y : ℕ) (r : Ordering) → MatchOrdering r (x < y) (x ≡ y) (y < x) → x ≡ y → r ≡ Equal
is_equal x y Less h same = absurd (omega arith)
is_equal x y Equal h same = refl
is_equal x y Greater h same = absurd (omega arith)

is_greater : (x y : ℕ) (r : Ordering) → MatchOrdering r (x < y) (x ≡ y) (y < x) → y < x
    → r ≡ Greater
is_greater x y Less h above = absurd (omega arith)
is_greater x y Equal h above = absurd (omega arith)
is_greater x y Greater h above = refl

-- numbers lie as those do that are one more
lifted : (x y : ℕ) (r : Ordering) → MatchOrdering r (x < y) (x ≡ y) (y < x)
    → nat_cmp (x + 1) (y + 1) ≡ r
lifted x y Less h =
    is_less (x + 1) (y + 1) (nat_cmp (x + 1) (y + 1)) (ranks (x + 1) (y + 1)) (omega arith)
lifted x y Equal h =
    is_equal (x + 1) (y + 1) (nat_cmp (x + 1) (y + 1)) (ranks (x + 1) (y + 1)) (omega arith)
lifted x y Greater h =
    is_greater (x + 1) (y + 1) (nat_cmp (x + 1) (y + 1)) (ranks (x + 1) (y + 1)) (omega arith)

-- ---- symbols

pub joined_orders : (r s t : Ordering)
    → ordering_then (ordering_then r s) t ≡ ordering_then r (ordering_then s t)
joined_orders Less s t = refl
joined_orders Equal s t = refl
joined_orders Greater s t = refl

lifted_texts : (xs ys : List ℕ)
    → slice_cmp nat_cmp (map (λ octet. octet + 1) xs) (map (λ octet. octet + 1) ys)
    ≡ slice_cmp nat_cmp xs ys
lifted_texts [] [] = refl
lifted_texts [] (y ∷ ys) = refl
lifted_texts (x ∷ xs) [] = refl
lifted_texts (x ∷ xs) (y ∷ ys) =
    ap (λ r. ordering_then r
    (slice_cmp nat_cmp (map (λ octet. octet + 1) xs) (map (λ octet. octet + 1) ys)))
    (lifted x y (nat_cmp x y) (ranks x y))
    ∙ ap (ordering_then (nat_cmp x y)) (lifted_texts xs ys)

-- names and values are ordered as their symbols
pub symbols_cmp : (xs us ys vs : List ℕ)
    → slice_cmp nat_cmp (symbols_of (xs, us)) (symbols_of (ys, vs)) ≡ value_cmp (xs, us) (ys, vs)
symbols_cmp [] us [] vs = lifted_texts us vs
symbols_cmp [] us (y ∷ ys) vs =
    ap (λ r. ordering_then r
    (slice_cmp nat_cmp (map (λ octet. octet + 1) us) (symbols_of (ys, vs))))
    (is_less 0 (y + 1) (nat_cmp 0 (y + 1)) (ranks 0 (y + 1)) (omega arith))
symbols_cmp (x ∷ xs) us [] vs =
    ap (λ r. ordering_then r
    (slice_cmp nat_cmp (symbols_of (xs, us)) (map (λ octet. octet + 1) vs)))
    (is_greater (x + 1) 0 (nat_cmp (x + 1) 0) (ranks (x + 1) 0) (omega arith))
symbols_cmp (x ∷ xs) us (y ∷ ys) vs =
    ap (λ r. ordering_then r (slice_cmp nat_cmp (symbols_of (xs, us)) (symbols_of (ys, vs))))
    (lifted x y (nat_cmp x y) (ranks x y))
    ∙ ap (ordering_then (nat_cmp x y)) (symbols_cmp xs us ys vs)
    ∙ sym (joined_orders (nat_cmp x y) (slice_cmp nat_cmp xs ys) (slice_cmp nat_cmp us vs))

-- each symbol has a digit below the base
abbrev pub AreSymbols : List ℕ → Type 0
AreSymbols symbols = AllByRecursion (λ symbol. symbol < 255) symbols

-- and so it has where it is one more
abbrev AreLow : List ℕ → Type 0
AreLow symbols = AllByRecursion (λ symbol. symbol < 254) symbols

low_text : (text : List ℕ) → AreOctets text → AreLow (map (λ octet. octet + 1) text)
low_text [] h = tt
low_text (octet ∷ text) h =
    let small : octet < 245 = h.0 in (omega arith, low_text text h.1)

low_symbols : (name value : List ℕ) → AreOctets name → AreOctets value
    → AreLow (symbols_of (name, value))
low_symbols [] value h k = (omega arith, low_text value k)
low_symbols (octet ∷ name) value h k =
    let small : octet < 245 = h.0 in (omega arith, low_symbols name value h.1 k)

low_fits : (symbols : List ℕ) → AreLow symbols → AreSymbols symbols
low_fits [] h = tt
low_fits (symbol ∷ symbols) h =
    let small : symbol < 254 = h.0 in (omega arith, low_fits symbols h.1)

raised_fits : (symbols : List ℕ) → AreLow symbols → AreSymbols (raised symbols)
raised_fits [] h = tt
raised_fits (symbol ∷ []) h = let small : symbol < 254 = h.0 in (omega arith, tt)
raised_fits (symbol ∷ next ∷ symbols) h =
    let small : symbol < 254 = h.0 in (omega arith, raised_fits (next ∷ symbols) h.1)

pub are_symbols : (name value : List ℕ) → AreOctets name → AreOctets value
    → AreSymbols (symbols_of (name, value))
are_symbols name value h k = low_fits (symbols_of (name, value)) (low_symbols name value h k)

pub are_raised : (name value : List ℕ) → AreOctets name → AreOctets value
    → AreSymbols (raised (symbols_of (name, value)))
are_raised name value h k = raised_fits (symbols_of (name, value)) (low_symbols name value h k)

pub symbols_behind : (n : ℕ) (symbols : List ℕ) → AreSymbols symbols → AreSymbols (drop n symbols)
symbols_behind zero symbols h = h
symbols_behind (suc n) [] h = h
symbols_behind (suc n) (symbol ∷ symbols) h = symbols_behind n symbols h.1

pub digit_bound : (symbols : List ℕ) → AreSymbols symbols → digit_of symbols < 256
digit_bound [] h = omega arith
digit_bound (symbol ∷ symbols) h = let small : symbol < 255 = h.0 in omega arith

next_behind : (n : ℕ) (symbols : List ℕ) → drop (suc n) symbols ≡ drop 1 (drop n symbols)
next_behind zero symbols = refl
next_behind (suc n) [] = refl
next_behind (suc n) (symbol ∷ symbols) = next_behind n symbols

-- ---- numbers that symbols spell

-- what an answer says of symbols: the order of all, or that what is behind them is to be ordered
abbrev pub Says : Ordering → List ℕ → List ℕ → List ℕ → List ℕ → Type 0
Says r xs ys ps qs =
    MatchOrdering r (slice_cmp nat_cmp xs ys ≡ Less)
    (slice_cmp nat_cmp xs ys ≡ slice_cmp nat_cmp ps qs) (slice_cmp nat_cmp xs ys ≡ Greater)

by_digit : (ps qs : List ℕ) (r : Ordering)
    → MatchOrdering r (digit_of ps < digit_of qs) (digit_of ps ≡ digit_of qs)
    (digit_of qs < digit_of ps) → Says r ps qs (drop 1 ps) (drop 1 qs)
by_digit [] [] Less h = absurd (omega arith)
by_digit [] [] Equal h = refl
by_digit [] [] Greater h = absurd (omega arith)
by_digit [] (q ∷ qs) Less h = refl
by_digit [] (q ∷ qs) Equal h = absurd (omega arith)
by_digit [] (q ∷ qs) Greater h = absurd (omega arith)
by_digit (p ∷ ps) [] Less h = absurd (omega arith)
by_digit (p ∷ ps) [] Equal h = absurd (omega arith)
by_digit (p ∷ ps) [] Greater h = refl
by_digit (p ∷ ps) (q ∷ qs) Less h =
    ap (λ r. ordering_then r (slice_cmp nat_cmp ps qs))
    (is_less p q (nat_cmp p q) (ranks p q) (omega arith))
by_digit (p ∷ ps) (q ∷ qs) Equal h =
    ap (λ r. ordering_then r (slice_cmp nat_cmp ps qs))
    (is_equal p q (nat_cmp p q) (ranks p q) (omega arith))
by_digit (p ∷ ps) (q ∷ qs) Greater h =
    ap (λ r. ordering_then r (slice_cmp nat_cmp ps qs))
    (is_greater p q (nat_cmp p q) (ranks p q) (omega arith))

-- one digit more
by_more : (a b d e : ℕ) (xs ys ps qs : List ℕ) (q r : Ordering)
    → MatchOrdering q (a < b) (a ≡ b) (b < a)
    → MatchOrdering r (a * 256 + d < b * 256 + e) (a * 256 + d ≡ b * 256 + e)
    (b * 256 + e < a * 256 + d)
    → d < 256 → e < 256 → d ≡ digit_of ps → e ≡ digit_of qs → Says q xs ys ps qs
    → Says r xs ys (drop 1 ps) (drop 1 qs)
by_more a b d e xs ys ps qs Less Less h k d_small e_small d_is e_is says = says
by_more a b d e xs ys ps qs Less Equal h k d_small e_small d_is e_is says = absurd (omega arith)
by_more a b d e xs ys ps qs Less Greater h k d_small e_small d_is e_is says = absurd (omega arith)
by_more a b d e xs ys ps qs Equal Less h k d_small e_small d_is e_is says =
    says ∙ by_digit ps qs Less (omega arith)
by_more a b d e xs ys ps qs Equal Equal h k d_small e_small d_is e_is says =
    says ∙ by_digit ps qs Equal (omega arith)
by_more a b d e xs ys ps qs Equal Greater h k d_small e_small d_is e_is says =
    says ∙ by_digit ps qs Greater (omega arith)
by_more a b d e xs ys ps qs Greater Less h k d_small e_small d_is e_is says = absurd (omega arith)
by_more a b d e xs ys ps qs Greater Equal h k d_small e_small d_is e_is says = absurd (omega arith)
by_more a b d e xs ys ps qs Greater Greater h k d_small e_small d_is e_is says = says

-- symbols are ordered as the numbers that they spell, where these differ
pub by_numbers : (n : ℕ) (xs ys : List ℕ) (r : Ordering) → AreSymbols xs → AreSymbols ys
    → MatchOrdering r (spelled n xs < spelled n ys) (spelled n xs ≡ spelled n ys)
    (spelled n ys < spelled n xs) → Says r xs ys (drop n xs) (drop n ys)
unfolding spelled
by_numbers zero xs ys Less x_fits y_fits h = absurd (omega arith)
by_numbers zero xs ys Equal x_fits y_fits h = refl
by_numbers zero xs ys Greater x_fits y_fits h = absurd (omega arith)
by_numbers (suc n) xs ys r x_fits y_fits h =
    subst (λ (ps : List ℕ). Says r xs ys ps (drop (suc n) ys)) (sym (next_behind n xs))
    (subst (λ (qs : List ℕ). Says r xs ys (drop 1 (drop n xs)) qs) (sym (next_behind n ys))
    (by_more (spelled n xs) (spelled n ys) (digit_of (drop n xs)) (digit_of (drop n ys)) xs ys
    (drop n xs) (drop n ys) (nat_cmp (spelled n xs) (spelled n ys)) r
    (ranks (spelled n xs) (spelled n ys)) h
    (digit_bound (drop n xs) (symbols_behind n xs x_fits))
    (digit_bound (drop n ys) (symbols_behind n ys y_fits)) refl refl
    (by_numbers n xs ys (nat_cmp (spelled n xs) (spelled n ys)) x_fits y_fits
    (ranks (spelled n xs) (spelled n ys)))))

-- where the last digit is 0, there is no symbol for it
pub last_none : (n : ℕ) (symbols : List ℕ) → AreSymbols symbols
    → spelled (suc n) symbols % 256 ≡ 0 → drop n symbols ≡ []
unfolding spelled
last_none n symbols fits zero_is =
    none (drop n symbols) (spelled n symbols)
    (digit_bound (drop n symbols) (symbols_behind n symbols fits)) zero_is
  where
    none : (ss : List ℕ) (a : ℕ) → digit_of ss < 256 → (a * 256 + digit_of ss) % 256 ≡ 0 → ss ≡ []
    none [] a small h = refl
    none (s ∷ ss) a small h = absurd (omega arith)

-- and where there is none, it is 0
none_last : (n : ℕ) (symbols : List ℕ) → drop n symbols ≡ [] → spelled (suc n) symbols % 256 ≡ 0
unfolding spelled
none_last n symbols none =
    ap (λ (ss : List ℕ). (spelled n symbols * 256 + digit_of ss) % 256) none
    ∙ whole (spelled n symbols)
  where
    whole : (a : ℕ) → (a * 256 + 0) % 256 ≡ 0
    whole a = omega arith

-- where there is none, there is none behind it
none_next : (n : ℕ) (symbols : List ℕ) → drop n symbols ≡ [] → drop (suc n) symbols ≡ []
none_next n symbols none = next_behind n symbols ∙ ap (λ (ss : List ℕ). drop 1 ss) none

-- ---- abbreviations

says_more : (q r : Ordering) (xs ys ps qs us vs : List ℕ) → Says q xs ys ps qs → Says r ps qs us vs
    → Says (ordering_then q r) xs ys us vs
says_more Less r xs ys ps qs us vs h k = h
says_more Equal Less xs ys ps qs us vs h k = h ∙ k
says_more Equal Equal xs ys ps qs us vs h k = h ∙ k
says_more Equal Greater xs ys ps qs us vs h k = h ∙ k
says_more Greater r xs ys ps qs us vs h k = h

says_part : (a b from : ℕ) (xs ys : List ℕ) → AreSymbols xs → AreSymbols ys
    → a ≡ spelled 8 (drop from xs) → b ≡ spelled 8 (drop from ys)
    → Says (nat_cmp a b) (drop from xs) (drop from ys) (drop (from + 8) xs) (drop (from + 8) ys)
says_part a b from xs ys x_fits y_fits a_is b_is =
    subst (λ (ps : List ℕ). Says (nat_cmp a b) (drop from xs) (drop from ys) ps
    (drop (from + 8) ys)) (drop-drop 8 from xs)
    (subst (λ (qs : List ℕ). Says (nat_cmp a b) (drop from xs) (drop from ys)
    (drop 8 (drop from xs)) qs) (drop-drop 8 from ys)
    (by_numbers 8 (drop from xs) (drop from ys) (nat_cmp a b) (symbols_behind from xs x_fits)
    (symbols_behind from ys y_fits)
    (subst (λ (n : ℕ). MatchOrdering (nat_cmp a b) (n < spelled 8 (drop from ys))
    (n ≡ spelled 8 (drop from ys)) (spelled 8 (drop from ys) < n)) a_is
    (subst (λ (n : ℕ). MatchOrdering (nat_cmp a b) (a < n) (a ≡ n) (n < a)) b_is (ranks a b)))))

equal_parts : (q r : Ordering) → ordering_then q r ≡ Equal → (q ≡ Equal) × (r ≡ Equal)
equal_parts Less r h = absurd cc
equal_parts Equal r h = (refl, h)
equal_parts Greater r h = absurd cc

equal_numbers : (x y : ℕ) (r : Ordering) → MatchOrdering r (x < y) (x ≡ y) (y < x)
    → r ≡ Equal → x ≡ y
equal_numbers x y Less h k = absurd cc
equal_numbers x y Equal h k = h
equal_numbers x y Greater h k = absurd cc

-- abbreviations that compare equal have equal last numbers
equal_thirds : (f g : Abbreviation) → abbreviation_cmp f g ≡ Equal → f.third ≡ g.third
equal_thirds f g h =
    let rest = (equal_parts (nat_cmp f.first g.first)
    (ordering_then (nat_cmp f.second g.second) (nat_cmp f.third g.third)) h).1 in
    equal_numbers f.third g.third (nat_cmp f.third g.third) (ranks f.third g.third)
    (equal_parts (nat_cmp f.second g.second) (nat_cmp f.third g.third) rest).1

-- where the last digit is 0, there are fewer than 24 symbols
third_none : (f : Abbreviation) (xs : List ℕ) → Spells f xs → AreSymbols xs
    → f.third % 256 ≡ 0 → drop 23 xs ≡ []
third_none f xs spells fits h =
    sym (drop-drop 7 16 xs)
    ∙ last_none 7 (drop 16 xs) (symbols_behind 16 xs fits)
    (ap (λ (n : ℕ). n % 256) (sym spells.third) ∙ h)

none_third : (f : Abbreviation) (xs : List ℕ) → Spells f xs → drop 23 xs ≡ [] → f.third % 256 ≡ 0
none_third f xs spells none =
    ap (λ (n : ℕ). n % 256) spells.third
    ∙ none_last 7 (drop 16 xs) (drop-drop 7 16 xs ∙ none)

-- of symbols that are spelled alike one has fewer than 24 where the other has
pub none_alike : (f g : Abbreviation) (xs ys : List ℕ) → Spells f xs → Spells g ys → AreSymbols xs
    → abbreviation_cmp f g ≡ Equal → drop 23 ys ≡ [] → drop 23 xs ≡ []
none_alike f g xs ys left right fits same none =
    third_none f xs left fits
    (ap (λ (n : ℕ). n % 256) (equal_thirds f g same) ∙ none_third g ys right none)

alike_none : (f g : Abbreviation) (xs ys : List ℕ) → Spells f xs → Spells g ys → AreSymbols ys
    → abbreviation_cmp f g ≡ Equal → drop 23 xs ≡ [] → drop 23 ys ≡ []
alike_none f g xs ys left right fits same none =
    third_none g ys right fits
    (ap (λ (n : ℕ). n % 256) (sym (equal_thirds f g same)) ∙ none_third f xs left none)

module _ (f g : Abbreviation) (xs ys : List ℕ) (left : Spells f xs) (right : Spells g ys)
    (x_fits : AreSymbols xs) (y_fits : AreSymbols ys) where
  by_spelled : Says (abbreviation_cmp f g) xs ys (drop 24 xs) (drop 24 ys)
  by_spelled =
      says_more (nat_cmp f.first g.first)
      (ordering_then (nat_cmp f.second g.second) (nat_cmp f.third g.third)) xs ys (drop 8 xs)
      (drop 8 ys) (drop 24 xs) (drop 24 ys)
      (says_part f.first g.first 0 xs ys x_fits y_fits left.first right.first)
      (says_more (nat_cmp f.second g.second) (nat_cmp f.third g.third) (drop 8 xs) (drop 8 ys)
      (drop 16 xs) (drop 16 ys) (drop 24 xs) (drop 24 ys)
      (says_part f.second g.second 8 xs ys x_fits y_fits left.second right.second)
      (says_part f.third g.third 16 xs ys x_fits y_fits left.third right.third))

  -- where abbreviations differ, symbols are ordered as they are
  pub spelled_apart : (r : Ordering) → r ≡ abbreviation_cmp f g → (r ≡ Equal → ⊥)
      → r ≡ slice_cmp nat_cmp xs ys
  spelled_apart r is apart =
      by r (subst (λ (q : Ordering). Says q xs ys (drop 24 xs) (drop 24 ys)) (sym is) by_spelled)
      apart
    where
      by : (q : Ordering) → Says q xs ys (drop 24 xs) (drop 24 ys) → (q ≡ Equal → ⊥)
          → q ≡ slice_cmp nat_cmp xs ys
      by Less h k = sym h
      by Equal h k = absurd (k refl)
      by Greater h k = sym h

  -- where both are short if they are spelled alike, symbols are ordered as abbreviations
  spelled_short : (abbreviation_cmp f g ≡ Equal → (drop 23 xs ≡ []) × (drop 23 ys ≡ []))
      → abbreviation_cmp f g ≡ slice_cmp nat_cmp xs ys
  spelled_short short = by (abbreviation_cmp f g) refl by_spelled
    where
      by : (q : Ordering) → abbreviation_cmp f g ≡ q → Says q xs ys (drop 24 xs) (drop 24 ys)
          → q ≡ slice_cmp nat_cmp xs ys
      by Less is h = sym h
      by Equal is h =
          let none = short is in
          sym (h ∙ ap (λ (ps : List ℕ). slice_cmp nat_cmp ps (drop 24 ys)) (none_next 23 xs none.0)
          ∙ ap (λ (qs : List ℕ). slice_cmp nat_cmp [] qs) (none_next 23 ys none.1))
      by Greater is h = sym h

  -- where one of both has fewer than 24 symbols, they are ordered as abbreviations
  pub spelled_first : drop 23 xs ≡ [] → abbreviation_cmp f g ≡ slice_cmp nat_cmp xs ys
  spelled_first none =
      spelled_short (λ same. (none, alike_none f g xs ys left right y_fits same none))

  pub spelled_second : drop 23 ys ≡ [] → abbreviation_cmp f g ≡ slice_cmp nat_cmp xs ys
  spelled_second none =
      spelled_short (λ same. (none_alike f g xs ys left right x_fits same none, none))

-- the symbols of a value
pub value_symbols : (f : Abbreviation) (v : List ℕ × List ℕ) → IsAbbreviation f v
    → AreSymbols (symbols_of v)
value_symbols f v is = are_symbols v.0 v.1 is.name_octets is.value_octets

module _ (f g : Abbreviation) (v w : List ℕ × List ℕ) (left : IsAbbreviation f v)
    (right : IsAbbreviation g w) where
  -- where abbreviations differ, values are ordered as they are
  pub by_abbreviations_apart : (r : Ordering)
      → r ≡ abbreviation_cmp f g
      → (r ≡ Equal → ⊥)
      → r ≡ value_cmp v w
  by_abbreviations_apart r is apart =
      spelled_apart f g (symbols_of v) (symbols_of w) left.spells right.spells
      (value_symbols f v left) (value_symbols g w right) r is apart
      ∙ symbols_cmp v.0 v.1 w.0 w.1

  -- where one of both has fewer than 24 symbols, so they are where they are equal
  pub by_abbreviations_first : drop 23 (symbols_of v) ≡ [] → abbreviation_cmp f g ≡ value_cmp v w
  by_abbreviations_first none =
      spelled_first f g (symbols_of v) (symbols_of w) left.spells right.spells
      (value_symbols f v left) (value_symbols g w right) none
      ∙ symbols_cmp v.0 v.1 w.0 w.1

  pub by_abbreviations_second : drop 23 (symbols_of w) ≡ []
      → abbreviation_cmp f g ≡ value_cmp v w
  by_abbreviations_second none =
      spelled_second f g (symbols_of v) (symbols_of w) left.spells right.spells
      (value_symbols f v left) (value_symbols g w right) none
      ∙ symbols_cmp v.0 v.1 w.0 w.1

-- where the last digit is 0, nothing is left out
pub whole_abbreviation : (f : Abbreviation) (value : List ℕ × List ℕ)
    → IsAbbreviation f value
    → f.third % 256 ≡ 0
    → drop 23 (symbols_of value) ≡ []
whole_abbreviation f value is h =
    third_none f (symbols_of value) is.spells (value_symbols f value is) h

-- ---- what they tell

-- the digits of so many first symbols
abbrev first_digits : ℕ → List ℕ → List ℕ
first_digits zero symbols = []
first_digits (suc n) symbols = digit_of symbols ∷ first_digits n (drop 1 symbols)

one_less : (n : ℕ) (symbols : List ℕ) → drop n (drop 1 symbols) ≡ drop (suc n) symbols
one_less n [] = drop-nil n
one_less n (symbol ∷ symbols) = refl

-- one digit more
digit_more : (n : ℕ) (symbols : List ℕ)
    → first_digits (suc n) symbols ≡ first_digits n symbols ++ (digit_of (drop n symbols) ∷ [])
digit_more zero symbols = refl
digit_more (suc n) symbols =
    ap (λ (ds : List ℕ). digit_of symbols ∷ ds) (digit_more n (drop 1 symbols))
    ∙ ap (λ (ss : List ℕ). digit_of symbols
    ∷ (first_digits n (drop 1 symbols) ++ (digit_of ss ∷ []))) (one_less n symbols)

digits_joined : (n m : ℕ) (symbols : List ℕ)
    → first_digits n symbols ++ first_digits m (drop n symbols) ≡ first_digits (n + m) symbols
digits_joined zero m symbols =
    let e : m ≡ 0 + m = omega arith in ap (λ (k : ℕ). first_digits k symbols) e
digits_joined (suc n) m symbols =
    let e : suc (n + m) ≡ suc n + m = omega arith in
    ap (λ (ss : List ℕ). digit_of symbols
    ∷ (first_digits n (drop 1 symbols) ++ first_digits m ss)) (sym (one_less n symbols))
    ∙ ap (λ (ds : List ℕ). digit_of symbols ∷ ds) (digits_joined n m (drop 1 symbols))
    ∙ ap (λ (k : ℕ). first_digits k symbols) e

-- the digits of a number are those of the symbols that it spells
digits_spelled : (n : ℕ) (symbols : List ℕ) → AreSymbols symbols
    → digits_in n (spelled n symbols) ≡ first_digits n symbols
unfolding spelled digits_in
digits_spelled zero symbols fits = refl
digits_spelled (suc n) symbols fits =
    let front : (spelled n symbols * 256 + digit_of (drop n symbols)) / 256 ≡ spelled n symbols =
    front_of (spelled n symbols) (digit_of (drop n symbols))
    (digit_bound (drop n symbols) (symbols_behind n symbols fits)) in
    let last : (spelled n symbols * 256 + digit_of (drop n symbols)) % 256
    ≡ digit_of (drop n symbols) =
    last_of (spelled n symbols) (digit_of (drop n symbols))
    (digit_bound (drop n symbols) (symbols_behind n symbols fits)) in
    ap (λ (m : ℕ). digits_in n m
    ++ ((spelled n symbols * 256 + digit_of (drop n symbols)) % 256 ∷ [])) front
    ∙ ap (λ (d : ℕ). digits_in n (spelled n symbols) ++ (d ∷ [])) last
    ∙ ap (λ (ds : List ℕ). ds ++ (digit_of (drop n symbols) ∷ []))
    (digits_spelled n symbols fits)
    ∙ sym (digit_more n symbols)
  where
    front_of : (a d : ℕ) → d < 256 → (a * 256 + d) / 256 ≡ a
    front_of a d small = omega arith

    last_of : (a d : ℕ) → d < 256 → (a * 256 + d) % 256 ≡ d
    last_of a d small = omega arith

octet_told : (octet : ℕ) (digits : List ℕ)
    → octets_in ((octet + 1 + 1) ∷ digits) ≡ octet ∷ octets_in digits
octet_told octet digits =
    let e : octet + 1 + 1 ≡ suc (suc octet) = omega arith in
    ap (λ (d : ℕ). octets_in (d ∷ digits)) e

octet_passed : (octet : ℕ) (digits : List ℕ)
    → digits_behind ((octet + 1 + 1) ∷ digits) ≡ digits_behind digits
octet_passed octet digits =
    let e : octet + 1 + 1 ≡ suc (suc octet) = omega arith in
    ap (λ (d : ℕ). digits_behind (d ∷ digits)) e

text_told : (n : ℕ) (text : List ℕ) → drop n (map (λ octet. octet + 1) text) ≡ []
    → octets_in (first_digits n (map (λ octet. octet + 1) text)) ≡ text
text_told zero [] none = refl
text_told zero (octet ∷ text) none = absurd cc
text_told (suc n) [] none = refl
text_told (suc n) (octet ∷ text) none =
    octet_told octet (first_digits n (map (λ octet. octet + 1) text))
    ∙ ap (λ (os : List ℕ). octet ∷ os) (text_told n text none)

name_told : (n : ℕ) (name value : List ℕ) → drop n (symbols_of (name, value)) ≡ []
    → octets_in (first_digits n (symbols_of (name, value))) ≡ name
name_told zero [] value none = absurd cc
name_told zero (octet ∷ name) value none = absurd cc
name_told (suc n) [] value none = refl
name_told (suc n) (octet ∷ name) value none =
    octet_told octet (first_digits n (symbols_of (name, value)))
    ∙ ap (λ (os : List ℕ). octet ∷ os) (name_told n name value none)

value_told : (n : ℕ) (name value : List ℕ) → drop n (symbols_of (name, value)) ≡ []
    → octets_in (digits_behind (first_digits n (symbols_of (name, value)))) ≡ value
value_told zero [] value none = absurd cc
value_told zero (octet ∷ name) value none = absurd cc
value_told (suc n) [] value none = text_told n value none
value_told (suc n) (octet ∷ name) value none =
    ap octets_in (octet_passed octet (first_digits n (symbols_of (name, value))))
    ∙ value_told n name value none

digits_part : (number from : ℕ) (symbols : List ℕ) → AreSymbols symbols
    → number ≡ spelled 8 (drop from symbols)
    → digits_in 8 number ≡ first_digits 8 (drop from symbols)
digits_part number from symbols fits is =
    ap (digits_in 8) is ∙ digits_spelled 8 (drop from symbols) (symbols_behind from symbols fits)

digits_all : (f : Abbreviation) (symbols : List ℕ) → AreSymbols symbols → Spells f symbols
    → digits_of f ≡ first_digits 24 symbols
digits_all f symbols fits spells =
    ap (λ (ds : List ℕ). ds ++ (digits_in 8 f.second ++ digits_in 8 f.third))
    (digits_part f.first 0 symbols fits spells.first)
    ∙ ap (λ (ds : List ℕ). first_digits 8 symbols ++ (ds ++ digits_in 8 f.third))
    (digits_part f.second 8 symbols fits spells.second)
    ∙ ap (λ (ds : List ℕ). first_digits 8 symbols ++ (first_digits 8 (drop 8 symbols) ++ ds))
    (digits_part f.third 16 symbols fits spells.third
    ∙ ap (first_digits 8) (sym (drop-drop 8 8 symbols)))
    ∙ ap (λ (ds : List ℕ). first_digits 8 symbols ++ ds) (digits_joined 8 8 (drop 8 symbols))
    ∙ digits_joined 8 16 symbols

-- an abbreviation tells a value that has fewer than 24 symbols
pub told_whole : (f : Abbreviation) (v : List ℕ × List ℕ) → IsAbbreviation f v
    → drop 23 (symbols_of v) ≡ [] → told_by f ≡ v
told_whole f v is none =
    let digits = digits_all f (symbols_of v) (value_symbols f v is) is.spells in
    let all = none_next 23 (symbols_of v) none in
    ap (λ (ds : List ℕ). (octets_in ds, octets_in (digits_behind ds))) digits
    ∙ ap (λ (name : List ℕ). (name, octets_in (digits_behind (first_digits 24 (symbols_of v)))))
    (name_told 24 v.0 v.1 all)
    ∙ ap (λ (value : List ℕ). (v.0, value)) (value_told 24 v.0 v.1 all)

-- ---- how they are spelled

-- below what so many digits spell
abbrev pub limit : ℕ → ℕ
limit zero = 1
limit (suc n) = limit n * 256

limit_rises : (n k : ℕ) → limit n ≤ limit (n + k)
limit_rises n zero =
    let e : n + 0 ≡ n = omega arith in subst (λ (m : ℕ). limit n ≤ limit m) (sym e) (omega arith)
limit_rises n (suc k) =
    let e : n + suc k ≡ suc (n + k) = omega arith in
    let more : limit n ≤ limit (n + k) = limit_rises n k in
    subst (λ (m : ℕ). limit n ≤ limit m) (sym e) (omega arith)

-- there is room for one digit more, and for its product
pub limit_room : (n : ℕ) → n < 8 → limit n ≤ 72057594037927936
limit_room n h =
    let e : n + (7 - n) ≡ 7 = omega arith in
    subst (λ (m : ℕ). limit n ≤ limit m) e (limit_rises n (7 - n))

pub spelled_more : (n from number digit : ℕ) (symbols : List ℕ)
    → number ≡ spelled n (drop from symbols) → digit ≡ digit_of (drop (from + n) symbols)
    → number * 256 + digit ≡ spelled (n + 1) (drop from symbols)
unfolding spelled
spelled_more n from number digit symbols number_is digit_is =
    let e : suc n ≡ n + 1 = omega arith in
    let here : digit_of (drop n (drop from symbols)) ≡ digit_of (drop (from + n) symbols) =
    ap digit_of (drop-drop n from symbols) in
    let sum : number * 256 + digit
    ≡ spelled n (drop from symbols) * 256 + digit_of (drop n (drop from symbols)) =
    omega arith in
    sum ∙ ap (λ (m : ℕ). spelled m (drop from symbols)) e

pub spelled_none : (symbols : List ℕ) → 0 ≡ spelled 0 symbols
unfolding spelled
spelled_none symbols = refl

-- ---- digits of names and values

pub octet_bound : (n : ℕ) (text : List ℕ) → AreOctets text → n < length text → get_or text n 0 < 245
octet_bound n [] h k = absurd (omega arith)
octet_bound zero (octet ∷ text) h k = h.0
octet_bound (suc n) (octet ∷ text) h k = octet_bound n text h.1 (omega arith)

text_digit : (n : ℕ) (text : List ℕ) → n < length text
    → digit_of (drop n (map (λ octet. octet + 1) text)) ≡ get_or text n 0 + 2
text_digit n [] h = absurd (omega arith)
text_digit zero (octet ∷ text) h = omega arith
text_digit (suc n) (octet ∷ text) h = text_digit n text (omega arith)

pub name_digit : (n : ℕ) (name value : List ℕ) → n < length name
    → digit_of (drop n (symbols_of (name, value))) ≡ get_or name n 0 + 2
name_digit n [] value h = absurd (omega arith)
name_digit zero (octet ∷ name) value h = omega arith
name_digit (suc n) (octet ∷ name) value h = name_digit n name value (omega arith)

pub value_digit : (n k : ℕ) (name value : List ℕ) → n ≡ length name + (k + 1) → k < length value
    → digit_of (drop n (symbols_of (name, value))) ≡ get_or value k 0 + 2
value_digit zero k name value e h = absurd (omega arith)
value_digit (suc n) k [] value e h =
    let same : n ≡ k = omega arith in
    subst (λ (m : ℕ). digit_of (drop m (map (λ octet. octet + 1) value)) ≡ get_or value k 0 + 2)
    (sym same) (text_digit k value h)
value_digit (suc n) k (octet ∷ name) value e h = value_digit n k name value (omega arith) h

-- past the last symbol
none_past : (n : ℕ) (symbols : List ℕ) → length symbols ≤ n → drop n symbols ≡ []
none_past zero [] h = refl
none_past (suc n) [] h = refl
none_past zero (symbol ∷ symbols) h = absurd (omega arith)
none_past (suc n) (symbol ∷ symbols) h = none_past n symbols (omega arith)

text_count : (text : List ℕ) → length (map (λ octet. octet + 1) text) ≡ length text
text_count [] = refl
text_count (octet ∷ text) = ap suc (text_count text)

symbols_count : (name value : List ℕ)
    → length (symbols_of (name, value)) ≡ length name + length value + 1
symbols_count [] value = let e = text_count value in omega (arith, e)
symbols_count (octet ∷ name) value = let e = symbols_count name value in omega (arith, e)

raised_count : (symbols : List ℕ) → length (raised symbols) ≡ length symbols
raised_count [] = refl
raised_count (symbol ∷ []) = refl
raised_count (symbol ∷ next ∷ symbols) = ap suc (raised_count (next ∷ symbols))

count_to : (last : Last) (name value : List ℕ)
    → length (symbols_to last (name, value)) ≡ length name + length value + 1
count_to Own name value = symbols_count name value
count_to Raised name value =
    raised_count (symbols_of (name, value)) ∙ symbols_count name value

spelled_nothing : (n : ℕ) → 0 ≡ spelled n []
unfolding spelled
spelled_nothing zero = refl
spelled_nothing (suc n) =
    let none : digit_of (drop n []) ≡ 0 = ap digit_of (drop-nil n) in
    let rest : 0 ≡ spelled n [] = spelled_nothing n in
    omega arith

pub spelled_past : (n from : ℕ) (last : Last) (name value : List ℕ)
    → length name + length value < from
    → 0 ≡ spelled n (drop from (symbols_to last (name, value)))
spelled_past n from last name value h =
    let count = count_to last name value in
    spelled_nothing n
    ∙ ap (λ (ss : List ℕ). spelled n ss)
    (sym (none_past from (symbols_to last (name, value)) (omega (arith, count, h))))

-- ---- the last symbol

-- where the last symbol is raised, its digit is one more
raised_last : (n : ℕ) (symbols : List ℕ) → n + 1 ≡ length symbols
    → digit_of (drop n (raised symbols)) ≡ digit_of (drop n symbols) + 1
raised_last n [] e = absurd (omega arith)
raised_last zero (symbol ∷ []) e = refl
raised_last (suc n) (symbol ∷ []) e = absurd (omega arith)
raised_last zero (symbol ∷ next ∷ symbols) e = absurd (omega arith)
raised_last (suc n) (symbol ∷ next ∷ symbols) e = raised_last n (next ∷ symbols) (omega arith)

-- and the others are as they were
raised_other : (n : ℕ) (symbols : List ℕ) → (n + 1 ≡ length symbols → ⊥)
    → digit_of (drop n (raised symbols)) ≡ digit_of (drop n symbols)
raised_other n [] e = refl
raised_other zero (symbol ∷ []) e = absurd (e refl)
raised_other (suc n) (symbol ∷ []) e = refl
raised_other zero (symbol ∷ next ∷ symbols) e = refl
raised_other (suc n) (symbol ∷ next ∷ symbols) e =
    raised_other n (next ∷ symbols) (λ k. e (omega arith))

pub digit_last : (n : ℕ) (name value : List ℕ) → n ≡ length name + length value
    → digit_of (drop n (raised (symbols_of (name, value))))
    ≡ digit_of (drop n (symbols_of (name, value))) + 1
digit_last n name value e =
    let count = symbols_count name value in
    raised_last n (symbols_of (name, value)) (omega (arith, count, e))

pub digit_other : (n : ℕ) (name value : List ℕ) → (n ≡ length name + length value → ⊥)
    → digit_of (drop n (raised (symbols_of (name, value))))
    ≡ digit_of (drop n (symbols_of (name, value)))
digit_other n name value other =
    let count = symbols_count name value in
    raised_other n (symbols_of (name, value)) (λ e. other (omega (arith, count, e)))
