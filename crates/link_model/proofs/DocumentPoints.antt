-- What is left of links at a point of the grammar, and its text.
use Rattle.std.proofs.Common.{
  ℕ,
  Bool,
  true,
  false,
  ◌&&◌,
  ◌||◌,
  List,
  [],
  ◌∷◌,
  ◌++◌,
  Option,
  Some,
  None,
}
use Rattle.std.specs.List.{list_all}
use Rattle.link_model.specs.Characters.{comma, greater_than_sign, is_empty, is_token_character}
use Rattle.link_model.specs.Documents.{
  Parameter,
  Link,
  value_text,
  parameters_text,
  link_text,
  are_name_characters,
  is_token,
  closes_quotes,
  is_quoted_string,
  is_value,
  is_parameter,
  is_link,
}
use Rattle.link_model.specs.DocumentReading.{
  Point,
  at_beginning,
  at_link,
  at_target,
  after_part,
  at_name,
  within_name,
  after_name,
  at_value,
  in_token,
  in_quotes,
  after_backslash,
}

-- the text of further links, each after its comma
abbrev pub further : List Link → List ℕ
further [] = []
further (l ∷ links) = comma ∷ (link_text l ++ further links)

-- the text of links, from the first on
abbrev pub links_text : List Link → List ℕ
links_text [] = []
links_text (l ∷ links) = link_text l ++ further links

-- the text of parameters of which the first has its name and its value left, or its value alone
abbrev pub text_in_name : List Parameter → List ℕ
text_in_name [] = []
text_in_name (p ∷ parameters) = (p.name ++ value_text p.value) ++ parameters_text parameters

-- what is left of a value, where there is one
abbrev pub present_text : Option (List ℕ) → List ℕ
present_text None = []
present_text (Some value) = value

-- the text of parameters of which the first has its value left
abbrev pub text_in_value : List Parameter → List ℕ
text_in_value [] = []
text_in_value (p ∷ parameters) = present_text p.value ++ parameters_text parameters

-- the text that the first link has left at a point
abbrev pub link_rest : Point → Link → List ℕ
link_rest at_beginning l = link_text l
link_rest at_link l = link_text l
link_rest at_target l = l.target ++ greater_than_sign ∷ parameters_text l.parameters
link_rest after_part l = parameters_text l.parameters
link_rest at_name l = text_in_name l.parameters
link_rest within_name l = text_in_name l.parameters
link_rest after_name l = text_in_name l.parameters
link_rest at_value l = text_in_value l.parameters
link_rest in_token l = text_in_value l.parameters
link_rest in_quotes l = text_in_value l.parameters
link_rest after_backslash l = text_in_value l.parameters

-- the text of what is left of links at a point
abbrev pub text_at : Point → List Link → List ℕ
text_at point [] = []
text_at point (l ∷ links) = link_rest point l ++ further links

-- the test, where there is a value
abbrev pub present_and : (List ℕ → Bool) → Option (List ℕ) → Bool
present_and test None = false
present_and test (Some value) = test value

-- what may be left of a link's first parameter at a point
abbrev pub fits_parameter : Point → Parameter → Bool
fits_parameter at_name p = is_parameter p
fits_parameter within_name p = are_name_characters p.name && is_value p.value
fits_parameter after_name p = is_empty p.name && is_value p.value
fits_parameter at_value p =
    is_empty p.name && present_and (λ value. is_token value || is_quoted_string value) p.value
fits_parameter in_token p = is_empty p.name && present_and (list_all is_token_character) p.value
fits_parameter in_quotes p = is_empty p.name && present_and (closes_quotes false) p.value
fits_parameter after_backslash p = is_empty p.name && present_and (closes_quotes true) p.value
fits_parameter _ p = false

-- what may be left of a link's parameters at a point within one
abbrev pub fits_parameters : Point → List Parameter → Bool
fits_parameters point [] = false
fits_parameters point (p ∷ parameters) = fits_parameter point p && list_all is_parameter parameters

-- what may be left of a link at a point
abbrev pub fits_link : Point → Link → Bool
fits_link at_beginning l = is_link l
fits_link at_link l = is_link l
fits_link at_target l = is_link l
fits_link after_part l = is_empty l.target && list_all is_parameter l.parameters
fits_link at_name l = is_empty l.target && fits_parameters at_name l.parameters
fits_link within_name l = is_empty l.target && fits_parameters within_name l.parameters
fits_link after_name l = is_empty l.target && fits_parameters after_name l.parameters
fits_link at_value l = is_empty l.target && fits_parameters at_value l.parameters
fits_link in_token l = is_empty l.target && fits_parameters in_token l.parameters
fits_link in_quotes l = is_empty l.target && fits_parameters in_quotes l.parameters
fits_link after_backslash l = is_empty l.target && fits_parameters after_backslash l.parameters

-- the point where no link need be left
abbrev pub is_beginning : Point → Bool
is_beginning at_beginning = true
is_beginning _ = false

-- what may be left of links at a point
abbrev pub fits_at : Point → List Link → Bool
fits_at point [] = is_beginning point
fits_at point (l ∷ links) = fits_link point l && list_all is_link links
