-- The reading of link documents: functions that compute what Documents defines.
use Rattle.std.specs.Prelude.{
  ℕ,
  min,
  Bool,
  ◌||◌,
  ◌==◌,
  List,
  [],
  ◌∷◌,
  Option,
  Some,
  None,
  option_map,
  option_and_then,
  if◌then◌else◌,
}
use Rattle.std.specs.Str.{is_utf8}
use Rattle.link_model.specs.Characters.{
  quote_mark,
  asterisk,
  comma,
  backslash,
  semicolon,
  less_than_sign,
  equals_sign,
  greater_than_sign,
  is_not_control,
  is_attribute_name_character,
  is_token_character,
  is_target_character,
}
use Rattle.link_model.specs.Utf8Prefix.{one_more, utf8_prefix}
use Rattle.link_model.specs.Documents.{Parameter, Link}

-- The points of the grammar, each described by what may follow there.
pub data Point : Type 0 where
  -- The end of the document, or a link.
  at_beginning : Point
  -- A link.
  at_link : Point
  -- A character of a target, or its end.
  at_target : Point
  -- A parameter, a further link, or the end.
  after_part : Point
  -- The first character of a name.
  at_name : Point
  -- A further character of a name, an asterisk, or what may follow a name.
  within_name : Point
  -- An equals sign, or what may follow a parameter.
  after_name : Point
  -- The first character of a value.
  at_value : Point
  -- A further character of a token, or what may follow a parameter.
  in_token : Point
  -- A character of a quoted string, a backslash, or the closing quote.
  in_quotes : Point
  -- The character that a backslash escapes.
  after_backslash : Point

-- Returns the point, if the test holds.
abbrev pub point_if : Bool → Point → Option Point
point_if allowed point = if allowed then Some point else None

-- Returns the point after what may follow a link's target or a whole parameter.
abbrev pub point_after_part : ℕ → Option Point
point_after_part c = if c == semicolon then Some at_name else point_if (c == comma) at_link

-- Returns the point after what may follow a parameter's name.
abbrev pub point_after_name : ℕ → Option Point
point_after_name c = if c == equals_sign then Some at_value else point_after_part c

-- Returns the point after an octet, or `None` if the octet is not allowed at this point (RFC 6690
-- section 2).
unfoldable pub point_after : Point → ℕ → Option Point
point_after at_beginning c = point_if (c == less_than_sign) at_target
point_after at_link c = point_if (c == less_than_sign) at_target
point_after at_target c =
    if c == greater_than_sign then Some after_part else point_if (is_target_character c) at_target
point_after after_part c = point_after_part c
point_after at_name c = point_if (is_attribute_name_character c) within_name
point_after within_name c =
    if is_attribute_name_character c
    then Some within_name
    else (if c == asterisk then Some after_name else point_after_name c)
point_after after_name c = point_after_name c
point_after at_value c =
    if c == quote_mark then Some in_quotes else point_if (is_token_character c) in_token
point_after in_token c = if is_token_character c then Some in_token else point_after_part c
point_after in_quotes c =
    if c == quote_mark
    then Some after_part
    else
    (if c == backslash then Some after_backslash else point_if (is_not_control c) in_quotes)
point_after after_backslash c = point_if (is_not_control c) in_quotes

-- Returns a link of which nothing is read, with these parameters.
abbrev pub link_of : List Parameter → Link
link_of parameters = record { target = []; parameters = parameters }

-- Returns a parameter of which nothing is read, with this value.
abbrev pub parameter_of : Option (List ℕ) → Parameter
parameter_of value = record { name = []; value = value }

-- Returns the links with the octet in front of what is read of the first link's target.
abbrev pub onto_target : ℕ → List Link → List Link
onto_target c [] = []
onto_target c (l ∷ links) = record l { target = c ∷ l.target } ∷ links

-- Returns the links with the parameter in front of those that are read of the first link.
abbrev pub onto_parameters : Parameter → List Link → List Link
onto_parameters p [] = []
onto_parameters p (l ∷ links) = record l { parameters = p ∷ l.parameters } ∷ links

-- Returns the parameters with the function applied to the first.
abbrev pub at_first_parameter : (Parameter → Parameter) → List Parameter → List Parameter
at_first_parameter f [] = []
at_first_parameter f (p ∷ parameters) = f p ∷ parameters

-- Returns the links with the function applied to the first parameter of the first link.
abbrev pub at_first : (Parameter → Parameter) → List Link → List Link
at_first f [] = []
at_first f (l ∷ links) = record l { parameters = at_first_parameter f l.parameters } ∷ links

-- Returns the links with the octet in front of what is read of a name.
abbrev pub onto_name : ℕ → List Link → List Link
onto_name c links = at_first (λ p. record p { name = c ∷ p.name }) links

-- Returns the links with the octet in front of what is read of a value.
abbrev pub onto_value : ℕ → List Link → List Link
onto_value c links =
    at_first (λ p. record p { value = option_map (λ value. c ∷ value) p.value }) links

-- Returns the links if a parameter has ended and this octet follows: the comma of a further link,
-- or the semicolon of a further parameter.
abbrev pub after_parameter : Parameter → ℕ → List Link → List Link
after_parameter p c links = if c == comma then link_of (p ∷ []) ∷ links else onto_parameters p links

-- Returns the links if a parameter's name has ended and this octet follows.
abbrev pub after_whole_name : ℕ → List Link → List Link
after_whole_name c links =
    if c == equals_sign then links else after_parameter (parameter_of None) c links

-- Returns the links that are read from an octet at a point on, if those from after it on are read.
unfoldable pub with_octet : Point → ℕ → List Link → List Link
with_octet at_beginning c links = links
with_octet at_link c links = links
with_octet at_target c links = if c == greater_than_sign then links else onto_target c links
with_octet after_part c links = if c == comma then link_of [] ∷ links else links
with_octet at_name c links = onto_name c links
with_octet within_name c links =
    if is_attribute_name_character c || c == asterisk
    then onto_name c links
    else after_whole_name c links
with_octet after_name c links = after_whole_name c links
with_octet at_value c links = onto_value c links
with_octet in_token c links =
    if is_token_character c
    then onto_value c links
    else after_parameter (parameter_of (Some [])) c links
with_octet in_quotes c links =
    if c == quote_mark
    then onto_parameters (parameter_of (Some (c ∷ []))) links
    else onto_value c links
with_octet after_backslash c links = onto_value c links

-- Returns the links that are read if the document ends at the point, or `None` if it cannot end
-- there.
unfoldable pub links_at_end : Point → Option (List Link)
links_at_end at_beginning = Some []
links_at_end after_part = Some (link_of [] ∷ [])
links_at_end within_name = Some (link_of (parameter_of None ∷ []) ∷ [])
links_at_end after_name = Some (link_of (parameter_of None ∷ []) ∷ [])
links_at_end in_token = Some (link_of (parameter_of (Some []) ∷ []) ∷ [])
links_at_end _ = None

-- Returns the links that the octets from a point on spell, the first of them from that point on.
unfoldable pub links_from : Point → List ℕ → Option (List Link)
links_from point [] = links_at_end point
links_from point (c ∷ cs) =
    option_and_then (λ next. option_map (with_octet point c) (links_from next cs))
    (point_after point c)

-- Returns the links of a document, or `None` if the octets are none: `IsDocument` as a function.
unfoldable pub document : List ℕ → Option (List Link)
document bytes = if is_utf8 bytes then links_from at_beginning bytes else None

-- Returns how many octets may follow one another from the point on.
unfoldable pub prefix_from : Point → List ℕ → ℕ
prefix_from point [] = 0
prefix_from point (c ∷ cs) = one_more (point_after point c) (λ next. prefix_from next cs)

-- Returns the length of the longest prefix that begins some document: `IsGoodPrefix` as a function.
unfoldable pub good_prefix : List ℕ → ℕ
good_prefix bytes = min (utf8_prefix bytes) (prefix_from at_beginning bytes)
