-- Entries and carriers, computed.
use Rattle.std.proofs.Common.{◌≡◌, ℕ, true, false, List, [], ◌∷◌, refl, codes}
use Rattle.record_model.specs.Matching.{matches_value}
use Rattle.attribute_index.specs.Entries.{Entry, carriers_of, entries_of, has_entry, values_of}

-- an entry of texts
abbrev entry : List ℕ → List ℕ → ℕ → Entry
entry name value number = record { name = name; value = value; number = number }

-- ---- the values by which an attribute is found

parts_repeat : values_of (codes "rt") (codes "a b a") ≡ codes "a" ∷ codes "b" ∷ codes "a" ∷ []
unfolding values_of
parts_repeat = refl

spaces_around : values_of (codes "if") (codes "  a   b ") ≡ codes "a" ∷ codes "b" ∷ []
unfolding values_of
spaces_around = refl

no_part : values_of (codes "rel") (codes "  ") ≡ []
unfolding values_of
no_part = refl

empty_list : values_of (codes "rev") [] ≡ []
unfolding values_of
empty_list = refl

-- other names have their whole value, the empty one too
whole_value : values_of (codes "title") (codes "a b") ≡ codes "a b" ∷ []
unfolding values_of
whole_value = refl

empty_value : values_of (codes "ct") [] ≡ [] ∷ []
unfolding values_of
empty_value = refl

entries_of_parts : entries_of (record { name = codes "rt"; value = codes "b a" }) 7
    ≡ entry (codes "rt") (codes "b") 7 ∷ entry (codes "rt") (codes "a") 7 ∷ []
unfolding entries_of values_of
entries_of_parts = refl

-- ---- what an index has

-- an index of five entries, in their order
abbrev some : List Entry
some =
    entry (codes "ct") (codes "4") 9 ∷ entry (codes "ct") (codes "40") 2 ∷ entry (codes "ct")
    (codes "40") 5 ∷ entry (codes "rt") (codes "4") 1
    ∷ entry (codes "rt") (codes "light") 2
    ∷ []

there : has_entry some (entry (codes "ct") (codes "40") 5) ≡ true
there = refl

other_number : has_entry some (entry (codes "ct") (codes "40") 9) ≡ false
other_number = refl

other_value : has_entry some (entry (codes "ct") (codes "41") 5) ≡ false
other_value = refl

other_name : has_entry some (entry (codes "rt") (codes "40") 5) ≡ false
other_name = refl

-- ---- carriers

exact : carriers_of (codes "ct") (codes "40") some ≡ 2 ∷ 5 ∷ []
unfolding carriers_of matches_value
exact = refl

exact_takes_no_longer : carriers_of (codes "ct") (codes "4") some ≡ 9 ∷ []
unfolding carriers_of matches_value
exact_takes_no_longer = refl

wildcard : carriers_of (codes "ct") (codes "4*") some ≡ 9 ∷ 2 ∷ 5 ∷ []
unfolding carriers_of matches_value
wildcard = refl

every_value : carriers_of (codes "rt") (codes "*") some ≡ 1 ∷ 2 ∷ []
unfolding carriers_of matches_value
every_value = refl

longer_than_each : carriers_of (codes "rt") (codes "lights*") some ≡ []
unfolding carriers_of matches_value
longer_than_each = refl

empty_pattern : carriers_of (codes "ct") [] some ≡ []
unfolding carriers_of matches_value
empty_pattern = refl

no_such_name : carriers_of (codes "r") (codes "*") some ≡ []
unfolding carriers_of matches_value
no_such_name = refl
