-- A reference that is known to have neither query nor fragment.
use Rattle.std.proofs.Common.{
  ◌≡◌,
  ℕ,
  Bool,
  true,
  false,
  List,
  [],
  ◌∷◌,
  Option,
  Some,
  None,
  is_none,
  refl,
  sym,
  ap,
  ◌∙◌,
  arith,
}
use Rattle.std.specs.Prelude.{if◌then◌else◌}
use Rattle.std.proofs.lemmas.Bool.{and_parts}
use Rattle.std.proofs.lemmas.Bool.Decides.{nat_tests}
use Rattle.link_model.specs.Characters.{question_mark, number_sign}
use Rattle.reference_model.specs.References.{
  Components,
  before,
  after,
  without_fragment,
  without_query,
  components,
  recomposed,
  is_allowed,
  reference,
  IsReference,
}
use Rattle.reference_model.proofs.ReferenceLaws.{recomposed-components}
use Rattle.ref_resolve.specs.ComponentsOfParts.{is_without_query}

none_of : (o : Option (List ℕ)) → is_none o ≡ true → o ≡ None
none_of None h = refl
none_of (Some text) h = cc

-- a text without the mark is all that stands before it
whole_before : (mark : ℕ) (text : List ℕ) → after mark text ≡ None → before mark text ≡ text
unfolding before after
whole_before mark [] h = refl
whole_before mark (c ∷ cs) h = grind (arith, nat_tests, whole_before mark cs, h)

-- what is known of components that are allowed, and have neither query nor fragment
record IsKnown (allowed : Bool) (c : Components) : Type 0 where
  allowed_so : allowed ≡ true
  query : c.query ≡ None
  fragment : c.fragment ≡ None

known_where_some : (allowed : Bool) (c : Components)
    → is_without_query (if allowed then Some c else None) ≡ true
    → IsKnown allowed c
known_where_some true c h =
    let parts = and_parts (is_none c.query) (is_none c.fragment) h in
    record {
      allowed_so = refl;
      query = none_of c.query parts.0;
      fragment = none_of c.fragment parts.1;
    }
known_where_some false c h = cc

known : (text : List ℕ)
    → is_without_query (reference text) ≡ true
    → IsKnown (is_allowed (components text)) (components text)
unfolding reference
known text h = known_where_some (is_allowed (components text)) (components text) h

pub no_fragment : (text : List ℕ)
    → is_without_query (reference text) ≡ true
    → after number_sign text ≡ None
unfolding components
no_fragment text h = (known text h).fragment

pub no_query : (text : List ℕ)
    → is_without_query (reference text) ≡ true
    → after question_mark (without_fragment text) ≡ None
unfolding components
no_query text h = (known text h).query

pub whole_text : (text : List ℕ)
    → is_without_query (reference text) ≡ true
    → without_query text ≡ text
whole_text text h =
    whole_before question_mark (without_fragment text) (no_query text h)
    ∙ whole_before number_sign text (no_fragment text h)

pub read_known : (text : List ℕ) (c : Components)
    → c ≡ components text
    → is_without_query (reference text) ≡ true
    → IsReference text c
read_known text c e h = record {
  spelled = sym (ap recomposed e ∙ recomposed-components text);
  allowed = ap is_allowed e ∙ (known text h).allowed_so;
}
