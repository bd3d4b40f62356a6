-- One step over the parameters of a link, by the parts of its first parameter.
use Rattle.std.proofs.Common.{
  ◌≡◌,
  ℕ,
  Bool,
  true,
  false,
  ◌&&◌,
  List,
  [],
  ◌∷◌,
  ◌++◌,
  Option,
  Some,
  None,
  option_and_then,
  is_some,
  refl,
  sym,
  ap,
  ◌∙◌,
  subst,
  append-nil,
}
use Rattle.std.specs.Prelude.{◌==◌, not, if◌then◌else◌}
use Rattle.std.specs.List.{list_all}
use Rattle.std.proofs.lemmas.Bool.{and_parts, false≢true, eqb-true}
use Rattle.link_model.specs.Characters.{
  asterisk,
  semicolon,
  equals_sign,
  is_empty,
  is_attribute_name_character,
}
use Rattle.link_model.specs.Documents.{
  Parameter,
  value_text,
  parameter_text,
  parameters_text,
  are_name_characters,
  is_parameter_name,
  is_value,
  is_parameter,
}
use Rattle.rd_base.proofs.lemmas.Options.{some_same, none_some}
use Rattle.rd_base.proofs.lemmas.Numbers.{other_octet}
use Rattle.link_format.specs.declared.cuts.Quotes.TheVariants.{Unread, Leading, Outside}
use Rattle.link_format.specs.Cuts.{cut, from_separator}
use Rattle.link_format.specs.Parts.{parts_named, parameter_parts}
use Rattle.link_format.specs.LinksOfText.{listed, parameters_of, parameters_in}
use Rattle.link_format.proofs.PassedTexts.{
  onto_front,
  cut_there,
  cut_end,
  passes_unread,
  passes_leading,
}
use Rattle.link_format.proofs.LinkLaws.{parameters_of-alike, parameters_spelled}

-- ---- a name and its value

no_equals_further : (name : List ℕ)
    → are_name_characters name ≡ true
    → list_all (λ b. not (b == equals_sign)) name ≡ true
no_equals_further [] h = refl
no_equals_further (b ∷ name) h = by_test (λ k. no_equals_further name k) (b == asterisk) refl h
  where
    no_more : (rest : List ℕ)
        → is_empty rest ≡ true
        → list_all (λ b. not (b == equals_sign)) rest ≡ true
    no_more [] e = refl
    no_more (c ∷ cs) e = absurd (false≢true e)

    by_test : (are_name_characters name ≡ true → list_all (λ b. not (b == equals_sign)) name ≡ true)
        → (t : Bool)
        → (b == asterisk) ≡ t
        → (if t then is_empty name else is_attribute_name_character b && are_name_characters name)
        ≡ true
        → (not (b == equals_sign) && list_all (λ b. not (b == equals_sign)) name) ≡ true
    by_test again true e h =
        let other : (b == equals_sign) ≡ false =
        ap (λ (x : ℕ). x == equals_sign) (eqb-true b asterisk e) in
        rw (other, no_more name h) refl
    by_test again false e h =
        let parts = and_parts (is_attribute_name_character b) (are_name_characters name) h in
        let other : (b == equals_sign) ≡ false =
        other_octet is_attribute_name_character b equals_sign parts.0 refl in
        rw (other, again parts.1) refl

no_equals : (name : List ℕ)
    → is_parameter_name name ≡ true
    → list_all (λ b. not (b == equals_sign)) name ≡ true
no_equals [] h = absurd (false≢true h)
no_equals (b ∷ name) h =
    let parts = and_parts (is_attribute_name_character b) (are_name_characters name) h in
    let other : (b == equals_sign) ≡ false =
    other_octet is_attribute_name_character b equals_sign parts.0 refl in
    rw (other, no_equals_further name parts.1) refl

cut_value : (value : Option (List ℕ)) → cut equals_sign Unread (value_text value) ≡ ([], value)
cut_value None = cut_end equals_sign Unread
cut_value (Some value) = cut_there equals_sign Unread equals_sign value refl

cut_named : (p : Parameter)
    → is_parameter p ≡ true
    → cut equals_sign Unread (p.name ++ value_text p.value) ≡ (p.name, p.value)
cut_named p h =
    let parts = and_parts (is_parameter_name p.name) (is_value p.value) h in
    (passes_unread equals_sign p.name (no_equals p.name parts.0)).on (value_text p.value)
    ∙ ap (onto_front p.name) (cut_value p.value)
    ∙ ap (λ (t : List ℕ). (t, p.value)) (append-nil p.name)

-- ---- the parts of the first parameter

cut_parameters : (parameters : List Parameter)
    → ((cut semicolon Outside (parameters_text parameters)).0 ≡ [])
    × (from_separator semicolon (cut semicolon Outside (parameters_text parameters)).1
    ≡ parameters_text parameters)
cut_parameters [] =
    let e = cut_end semicolon Outside in (
      ap (λ (p : List ℕ × Option (List ℕ)). p.0) e,
      ap
          (λ (p : List ℕ × Option (List ℕ)). from_separator semicolon p.1) e,
    )
cut_parameters (p ∷ parameters) =
    let e =
    cut_there semicolon Outside semicolon
    ((p.name ++ value_text p.value) ++ parameters_text parameters) refl in (
      ap (λ (p : List ℕ × Option (List ℕ)). p.0) e,
      ap
          (λ (p : List ℕ × Option (List ℕ)). from_separator semicolon p.1) e,
    )

cut_first : (p : Parameter) (parameters : List Parameter) → is_parameter p ≡ true → let first =
    cut semicolon Leading (parameters_text (p ∷ parameters)) in (first.0 ≡ parameter_text p)
    × (from_separator semicolon first.1 ≡ parameters_text parameters)
cut_first p parameters h =
    let e = (passes_leading p h).on (parameters_text parameters) in
    let rest = cut_parameters parameters in (
      ap (λ (p : List ℕ × Option (List ℕ)). p.0) e
          ∙ ap (λ (t : List ℕ). parameter_text p ++ t) rest.0
          ∙ append-nil (parameter_text p),
      ap (λ (p : List ℕ × Option (List ℕ)). from_separator semicolon p.1) e ∙ rest.1,
    )

abbrev Parts : Type 0
Parts = List ℕ × List ℕ × Option (List ℕ) × List ℕ

pub first_parameter : (p : Parameter) (parameters : List Parameter)
    → is_parameter p ≡ true
    → parameter_parts (parameters_text (p ∷ parameters))
    ≡ Some (parameter_text p, p.name, p.value, parameters_text parameters)
unfolding parameter_parts
first_parameter p parameters h =
    let first = cut_first p parameters h in
    let further : List ℕ =
    from_separator semicolon (cut semicolon Leading (parameters_text (p ∷ parameters))).1 in
    ap (λ (t : List ℕ).
    option_and_then (λ (inner : List ℕ). Some (parts_named t further inner))
    (cut semicolon Unread t).1) first.0
    ∙ ap (λ (q : List ℕ × Option (List ℕ)).
    option_and_then
    (λ (inner : List ℕ). Some (parts_named (parameter_text p) further inner)) q.1)
    (cut_there semicolon Unread semicolon (p.name ++ value_text p.value) refl)
    ∙ ap (λ (q : List ℕ × Option (List ℕ)). let all : Parts =
    (parameter_text p, q.0, q.1, further) in Some all) (cut_named p h)
    ∙ ap (λ (t : List ℕ). let all : Parts = (parameter_text p, p.name, p.value, t) in Some all)
    first.1

no_parameter_parts : parameter_parts [] ≡ None
unfolding parameter_parts
no_parameter_parts =
    let e = cut_end semicolon Leading in
    let further : List ℕ = from_separator semicolon (cut semicolon Leading []).1 in
    ap (λ (t : List ℕ).
    option_and_then (λ (inner : List ℕ). Some (parts_named t further inner))
    (cut semicolon Unread t).1) (ap (λ (p : List ℕ × Option (List ℕ)). p.0) e)
    ∙ ap (λ (q : List ℕ × Option (List ℕ)).
    option_and_then (λ (inner : List ℕ). Some (parts_named [] further inner)) q.1)
    (cut_end semicolon Unread)

-- ---- one step

-- what the parts of the first parameter say of a text
pub record NextParameter (text raw name : List ℕ) (value : Option (List ℕ)) (rest : List ℕ) : Type 0
  where
    pub first : parameters_in text ≡ record { name = name; value = value } ∷ parameters_in rest
    pub left : is_some (parameters_of rest) ≡ true
    pub spelled : raw ≡ parameter_text (record { name = name; value = value })

of_spelled : (p : Parameter) (parameters : List Parameter)
    → list_all is_parameter parameters ≡ true
    → (text : List ℕ)
    → parameters_of text ≡ Some (p ∷ parameters)
    → NextParameter text (parameter_text p) p.name p.value (parameters_text parameters)
of_spelled p parameters h text e =
    let rest : parameters_of (parameters_text parameters) ≡ Some parameters =
    parameters_of-alike parameters h in
    record {
      first = ap listed e ∙ ap (λ (ps : List Parameter). p ∷ ps) (sym (ap listed rest));
      left = ap is_some rest;
      spelled = refl;
    }

pub next_parameter : (text raw name : List ℕ) (value : Option (List ℕ)) (rest : List ℕ)
    → is_some (parameters_of text) ≡ true
    → parameter_parts text ≡ Some (raw, name, value, rest)
    → NextParameter text raw name value rest
next_parameter text raw name value rest h e = by_parameters (parameters_of text) refl h
  where
    by_parameters : (o : Option (List Parameter))
        → parameters_of text ≡ o
        → is_some o ≡ true
        → NextParameter text raw name value rest
    by_parameters None f h = absurd (false≢true h)
    by_parameters (Some []) f h =
        absurd (none_some (sym no_parameter_parts
        ∙ ap parameter_parts (sym ((parameters_spelled text [] f).text_is))
        ∙ e))
    by_parameters (Some (p ∷ parameters)) f h =
        let s = parameters_spelled text (p ∷ parameters) f in
        let parts = and_parts (is_parameter p) (list_all is_parameter parameters) s.each in
        let same =
        some_same
        (sym (first_parameter p parameters parts.0) ∙ ap parameter_parts (sym s.text_is) ∙
        e) in
        subst (λ (q : Parts). NextParameter text q.0 q.1 q.2 q.3) same
        (of_spelled p parameters parts.1 text f)

pub no_parameter : (text : List ℕ)
    → is_some (parameters_of text) ≡ true
    → parameter_parts text ≡ None
    → parameters_in text ≡ []
no_parameter text h e = by_parameters (parameters_of text) refl h
  where
    by_parameters : (o : Option (List Parameter))
        → parameters_of text ≡ o
        → is_some o ≡ true
        → listed (parameters_of text) ≡ []
    by_parameters None f h = absurd (false≢true h)
    by_parameters (Some []) f h = ap listed f
    by_parameters (Some (p ∷ parameters)) f h =
        let s = parameters_spelled text (p ∷ parameters) f in
        let parts = and_parts (is_parameter p) (list_all is_parameter parameters) s.each in
        absurd (none_some
        (sym e ∙ ap parameter_parts s.text_is ∙ first_parameter p parameters parts.0))
