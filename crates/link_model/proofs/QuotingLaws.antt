-- A quoted text is a quoted string of the grammar, and says what was quoted.
use Rattle.std.proofs.Common.{
  ◌≡◌,
  ℕ,
  true,
  false,
  List,
  [],
  ◌∷◌,
  ◌++◌,
  flat_map,
  refl,
  ap,
  ◌∙◌,
  append_assoc,
  arith,
}
use Rattle.std.specs.List.{list_all}
use Rattle.std.proofs.lemmas.Bool.{and_parts}
use Rattle.std.proofs.lemmas.Bool.Decides.{nat_tests}
use Rattle.link_model.specs.Characters.{quote_mark, is_not_control}
use Rattle.link_model.specs.Documents.{closes_quotes, is_quoted_string}
use Rattle.link_model.specs.Quoting.{content_up_to_quote, escaped_character, quoted, unquoted}

content-one : (c : ℕ) (rest : List ℕ)
    → content_up_to_quote false (escaped_character c ++ rest) ≡ c ∷ content_up_to_quote false rest
content-one c rest = grind (arith, nat_tests)

content-escaped : (text : List ℕ)
    → content_up_to_quote false (flat_map escaped_character text ++ quote_mark ∷ []) ≡ text
content-escaped [] = refl
content-escaped (c ∷ text) =
    rw append_assoc (content-one c (flat_map escaped_character text ++ quote_mark ∷ [])
    ∙ ap (λ (rest : List ℕ). c ∷ rest) (content-escaped text))

-- what was quoted is what the quoted text says, whatever its octets are
pub unquoted-quoted : (text : List ℕ) → unquoted (quoted text) ≡ text
unfolding quoted unquoted
unquoted-quoted text = content-escaped text

closes-one : (c : ℕ) (rest : List ℕ)
    → is_not_control c ≡ true
    → closes_quotes false rest ≡ true
    → closes_quotes false (escaped_character c ++ rest) ≡ true
closes-one c rest allowed rest_closes = grind (arith, nat_tests)

closes-escaped : (text : List ℕ)
    → list_all is_not_control text ≡ true
    → closes_quotes false (flat_map escaped_character text ++ quote_mark ∷ []) ≡ true
closes-escaped [] h = refl
closes-escaped (c ∷ text) h =
    let parts = and_parts (is_not_control c) (list_all is_not_control text) h in
    rw append_assoc (closes-one c (flat_map escaped_character text ++ quote_mark ∷ []) (parts.0)
    (closes-escaped text (parts.1)))

-- a quoted text without control characters is a quoted string of the grammar
pub is_quoted_string-quoted : (text : List ℕ)
    → list_all is_not_control text ≡ true
    → is_quoted_string (quoted text) ≡ true
unfolding quoted
is_quoted_string-quoted text h = closes-escaped text h
