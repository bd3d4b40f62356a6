-- Faults of bodies and their offsets, computed.
use Rattle.std.proofs.Common.{◌≡◌, codes, Some, None, refl}
use Rattle.record_model.specs.BodyFaults.{no_document, no_reference, not_limited, body_fault}
use Rattle.record_model.proofs.RecordLiterals.{record_on_literals}

-- links of references
nothing_wrong : body_fault (codes "</a/../b>,<x>;anchor=\"\",<http://e.org/./z>,<//k/y>") ≡ None
unfolding record_on_literals
nothing_wrong = refl

-- a name is missing
cut_off : body_fault (codes "<t>;") ≡ Some (no_document 4)
unfolding record_on_literals
cut_off = refl

-- a space after a link
space_after : body_fault (codes "<a> ,<b>") ≡ Some (no_document 3)
unfolding record_on_literals
space_after = refl

-- a target that is no reference begins after its bracket
target : body_fault (codes "<a>,<1a:b>") ≡ Some (no_reference 5)
unfolding record_on_literals
target = refl

-- an anchor after its quote
quoted_anchor : body_fault (codes "<a>;rt=b;anchor=\"c d\"") ≡ Some (no_reference 17)
unfolding record_on_literals
quoted_anchor = refl

-- an anchor without quotes
anchor : body_fault (codes "<a>;anchor=1:2") ≡ Some (no_reference 11)
unfolding record_on_literals
anchor = refl

-- a later anchor does not count
later_anchor : body_fault (codes "<a>;anchor=b;anchor=1:2") ≡ None
unfolding record_on_literals
later_anchor = refl

-- an anchor without value is the empty reference
no_value : body_fault (codes "<a>;anchor") ≡ None
unfolding record_on_literals
no_value = refl

-- a link that is not limited
limited : body_fault (codes "<a>,<t>;anchor=\"coap://e/\"") ≡ Some (not_limited 1)
unfolding record_on_literals
limited = refl

-- comes after each reference
reference_first : body_fault (codes "<t>;anchor=\"coap://e/\",<1:2>") ≡ Some (no_reference 24)
unfolding record_on_literals
reference_first = refl

-- and the document before all
document_first : body_fault (codes "<1:2>,<t>;anchor=\"coap://e/\",<") ≡ Some (no_document 30)
unfolding record_on_literals
document_first = refl
