-- Cutting a text at the first octet of a kind, and putting the parts together.
use Rattle.std.proofs.Common.{
  ◌≡◌,
  ℕ,
  true,
  false,
  ◌||◌,
  List,
  [],
  ◌∷◌,
  ◌++◌,
  Option,
  Some,
  None,
  unwrap_or,
  refl,
  arith,
}
use Rattle.std.proofs.lemmas.Bool.Decides.{nat_tests}
use Rattle.link_model.specs.Characters.{slash, is_empty}
use Rattle.reference_model.specs.References.{
  begins_with,
  before,
  after,
  from_first,
  has_octet,
  marked,
}

-- a text is what stands before its first mark, and the mark with what is after it
pub cut : (mark : ℕ) (text : List ℕ) → text ≡ before mark text ++ marked mark (after mark text)
unfolding before after
cut mark [] = refl
cut mark (c ∷ cs) = grind (arith, nat_tests, cut mark cs)

-- what stands before the first mark has no mark
pub has_octet-before : (mark : ℕ) (text : List ℕ) → has_octet mark (before mark text) ≡ false
unfolding before
has_octet-before mark [] = refl
has_octet-before mark (c ∷ cs) = grind (arith, nat_tests, has_octet-before mark cs)

-- where the mark stands, something is after it
pub after_some : (mark : ℕ) (text : List ℕ)
    → has_octet mark text ≡ true
    → after mark text ≡ Some (unwrap_or (after mark text) [])
unfolding after
after_some mark [] h = grind (arith, nat_tests)
after_some mark (c ∷ cs) h = grind (arith, nat_tests, after_some mark cs)

pub after_none : (mark : ℕ) (text : List ℕ) → has_octet mark text ≡ false → after mark text ≡ None
unfolding after
after_none mark [] h = refl
after_none mark (c ∷ cs) h = grind (arith, nat_tests, after_none mark cs)

-- a mark after a text without one is the first
pub before-marked : (mark : ℕ) (text : List ℕ) (rest : Option (List ℕ))
    → has_octet mark text ≡ false
    → before mark (text ++ marked mark rest) ≡ text
unfolding before
before-marked mark [] None h = refl
before-marked mark [] (Some rest) h = grind (arith, nat_tests)
before-marked mark (c ∷ cs) rest h = grind (arith, nat_tests, before-marked mark cs rest)

pub after-marked : (mark : ℕ) (text : List ℕ) (rest : Option (List ℕ))
    → has_octet mark text ≡ false
    → after mark (text ++ marked mark rest) ≡ rest
unfolding after
after-marked mark [] None h = refl
after-marked mark [] (Some rest) h = grind (arith, nat_tests)
after-marked mark (c ∷ cs) rest h = grind (arith, nat_tests, after-marked mark cs rest)

-- a text is what stands before its first mark, and what begins with it
pub cut_from : (mark : ℕ) (text : List ℕ) → text ≡ before mark text ++ from_first mark text
unfolding before from_first
cut_from mark [] = refl
cut_from mark (c ∷ cs) = grind (arith, nat_tests, cut_from mark cs)

-- the mark stands in two texts where it stands in one
pub has_octet-append : (mark : ℕ) (a b : List ℕ)
    → has_octet mark (a ++ b) ≡ (has_octet mark a || has_octet mark b)
has_octet-append mark [] b = refl
has_octet-append mark (c ∷ a) b = grind (arith, nat_tests, has_octet-append mark a b)

-- what stands before one mark has no other octet than the text
pub has_octet-before_other : (mark other : ℕ) (text : List ℕ)
    → has_octet other (before mark text) ≡ true
    → has_octet other text ≡ true
unfolding before
has_octet-before_other mark other [] h = h
has_octet-before_other mark other (c ∷ cs) h =
    grind (arith, nat_tests, has_octet-before_other mark other cs)

-- where the mark does not stand, all of the text stands before it
pub before_alone : (mark : ℕ) (text : List ℕ)
    → has_octet mark text ≡ false
    → before mark text ≡ text
unfolding before
before_alone mark [] h = refl
before_alone mark (c ∷ cs) h = grind (arith, nat_tests, before_alone mark cs)

-- a text from its first slash on is empty or begins with a slash
pub from_first_fits : (text : List ℕ)
    → (is_empty (from_first slash text) || begins_with slash (from_first slash text)) ≡ true
unfolding from_first
from_first_fits [] = refl
from_first_fits (c ∷ cs) = grind (arith, nat_tests, from_first_fits cs)
