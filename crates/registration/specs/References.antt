-- The result of writing a reference against a base (RFC 3986 section 5.2).
use Rattle.std.specs.Prelude.{
  ◌≡◌,
  ⊤,
  ℕ,
  Bool,
  true,
  false,
  List,
  Option,
  Some,
  None,
  Result,
  Ok,
  Err,
}
use Rattle.rd_base.specs.declared.out_of_memory.Starved.{Starved}
use Rattle.ref_resolve.specs.declared.components.Parts.{Parts}
use Rattle.ref_resolve.specs.ComponentsOfParts.{components_of}
use Rattle.record_model.specs.Bodies.{is_reference, is_uri}
use Rattle.record_model.specs.Records.{based}
use Rattle.reference_model.specs.References.{IsReference}

-- States that the text is a URI-reference, whether it has a scheme, and that `referred` is the text
-- against each base that spells these parts.
pub record IsReferred (base : Parts) (submitted referred : List ℕ) (has_scheme : Bool) : Type 0
  where
    pub reference : is_reference submitted ≡ true
    pub scheme : is_uri submitted ≡ has_scheme
    pub text : (spelled : List ℕ)
        → IsReference spelled (components_of base)
        → referred ≡ based spelled submitted

-- States what is written for a text against a base. Says nothing about it if the text is no
-- URI-reference. Running out of memory has no cause.
abbrev pub Refers : Parts → List ℕ → List ℕ → Result (Option Bool) Starved → Type 0
Refers base text referred (Ok None) = is_reference text ≡ false
Refers base text referred (Ok (Some has_scheme)) = IsReferred base text referred has_scheme
Refers base text referred (Err starved) = ⊤
