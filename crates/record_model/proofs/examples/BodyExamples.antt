-- Bodies of registrations, computed.
use Rattle.std.proofs.Common.{
  ◌≡◌,
  ℕ,
  List,
  [],
  ◌∷◌,
  Option,
  Some,
  None,
  Bool,
  true,
  false,
  option_map,
  map,
  refl,
  codes,
}
use Rattle.link_model.specs.Quoting.{submitted_links}
use Rattle.record_model.specs.Bodies.{linked_references, is_limited}
use Rattle.record_model.proofs.RecordLiterals.{record_on_literals}

-- whether each link of a body that is accepted so far is within the Limited Link Format
abbrev limited_links : List ℕ → Option (List Bool)
limited_links body = option_map (map is_limited) (linked_references body)

attributes_without_anchors :
    submitted_links (codes "<x>;rt=\"a\\\"b\";anchor=\"coap://e/\";obs;anchor=%;ct=0")
    ≡ Some (record {
      target_ref = codes "x";
      anchor_ref = Some (codes "coap://e/");
      raw = codes ";rt=\"a\\\"b\";obs;ct=0";
      pairs =
          record { name = codes "rt"; value = codes "a\"b" }
          ∷ record { name = codes "obs"; value = [] }
          ∷ record { name = codes "ct"; value = codes "0" }
          ∷ [];
    } ∷ [])
unfolding record_on_literals
attributes_without_anchors = refl

four_links :
    limited_links (codes "</a/../b>,<x>;anchor=\"\",<http://e.org/./z>,<//k/y>")
    ≡ Some (true ∷ true ∷ true ∷ true ∷ [])
unfolding record_on_literals
four_links = refl

anchor_with_scheme : limited_links (codes "<t>;anchor=\"coap://e/\"") ≡ Some (false ∷ [])
unfolding record_on_literals
anchor_with_scheme = refl

both_with_scheme : limited_links (codes "<coap://f/t>;anchor=\"coap://e/\"") ≡ Some (true ∷ [])
unfolding record_on_literals
both_with_scheme = refl

no_document : linked_references (codes "<t>;") ≡ None
unfolding record_on_literals
no_document = refl

no_reference : linked_references (codes "<1a:b>") ≡ None
unfolding record_on_literals
no_reference = refl

anchor_no_reference : linked_references (codes "<a>;anchor=\"a b\"") ≡ None
unfolding record_on_literals
anchor_no_reference = refl

later_anchor_no_reference : limited_links (codes "<a>;anchor=b;anchor=\"c d\"") ≡ Some (true ∷ [])
unfolding record_on_literals
later_anchor_no_reference = refl
