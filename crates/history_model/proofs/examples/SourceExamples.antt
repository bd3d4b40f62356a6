-- The source of a registration, computed (RFC 9176 section 5.3, RFC 6690 section 2).
use Rattle.std.proofs.Common.{◌≡◌, ℕ, List, [], ◌∷◌, codes, option_map, refl, Some, None}
use Rattle.record_model.specs.Bodies.{linked_references}
use Rattle.history_model.specs.declared.entries.Entry.{Entry}
use Rattle.history_model.specs.Sources.{source}
use Rattle.history_model.proofs.HistoryLiterals.{history_on_literals}
use Rattle.history_model.proofs.Samples.{
  device,
  moved,
  registers,
  updates,
  replaces,
  removes,
  for_ten_minutes,
  two_links,
  registers_two,
}

-- the links as they were submitted
of_two : source 1 (registers_two 1000 ∷ []) 1000 ≡ Some two_links
unfolding history_on_literals
of_two = refl

-- until the last millisecond of the lease
before_lapse : source 1 (registers_two 1000 ∷ []) 600_999 ≡ Some two_links
unfolding history_on_literals
before_lapse = refl

at_lapse : source 1 (registers_two 1000 ∷ []) 601_000 ≡ None
unfolding history_on_literals
at_lapse = refl

-- nothing of a number that nobody has, or that was removed
of_next_number : source 2 (registers_two 1000 ∷ []) 1000 ≡ None
unfolding history_on_literals
of_next_number = refl

of_removed : source 1 (registers_two 1000 ∷ removes 2000 1 ∷ []) 2000 ≡ None
unfolding history_on_literals
of_removed = refl

-- a registration without links has an empty source
of_no_links : source 1 (registers 1000 device for_ten_minutes [] ∷ []) 1000 ≡ Some []
unfolding history_on_literals
of_no_links = refl

-- no reference is resolved, whatever the base
abbrev referring : List Entry
referring =
    registers 1000 device (codes "ep=n" ∷ codes "base=coap://h/c/d" ∷ [])
    (codes "</a/../b>,<x>;anchor=\"\",<http://e.org/./z>,<//k/y>")
    ∷ []

of_references :
    source 1 referring 1000
    ≡ Some (codes "</a/../b>,<x>;anchor=\"\",<http://e.org/./z>,<//k/y>")
unfolding history_on_literals
of_references = refl

-- the first anchor stands last and in quotes, and a later one is gone; all else stays as written
abbrev of_two_anchors : List ℕ
of_two_anchors = codes "<x>;anchor=a;title=\"5\\\"\";anchor=b;obs"

abbrev anchored : List Entry
anchored = registers 1000 device for_ten_minutes of_two_anchors ∷ []

first_anchor : source 1 anchored 1000 ≡ Some (codes "<x>;title=\"5\\\"\";obs;anchor=\"a\"")
unfolding history_on_literals
first_anchor = refl

-- read again, a source gives the links that were submitted
read_again :
    option_map linked_references (source 1 anchored 1000)
    ≡ Some (linked_references of_two_anchors)
unfolding history_on_literals
read_again = refl

-- an update leaves it, also one that changes the base
after_update : source 1 (registers_two 1000 ∷ updates 2000 moved 1 [] ∷ []) 2000 ≡ Some two_links
unfolding history_on_literals
after_update = refl

-- other links have their own
after_replacement :
    source 1 (registers_two 1000 ∷ replaces 2000 moved 1 (codes "</t>") ∷ []) 2000
    ≡ Some (codes "</t>")
unfolding history_on_literals
after_replacement = refl
