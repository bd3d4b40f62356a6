-- The links of a text and the parameters of a link's text, as lists.
use Rattle.std.specs.Prelude.{ℕ, List, [], ◌∷◌, Option, Some, None, option_and_then}
use Rattle.link_model.specs.Documents.{Parameter, Link}
use Rattle.link_model.specs.DocumentReading.{at_beginning, after_part, links_from}

-- Returns the list, or the empty list if there is none.
abbrev pub listed : {A : Type 0} → Option (List A) → List A
listed None = []
listed (Some items) = items

-- Returns the links that a text spells, or `None` if it does not spell a list of links.
abbrev pub links_of : List ℕ → Option (List Link)
links_of text = links_from at_beginning text

-- Returns the links of a text, or the empty list if it does not spell a list of links.
abbrev pub links_in : List ℕ → List Link
links_in text = listed (links_of text)

-- Returns the parameters of a single link, or `None` if there is not exactly one link.
abbrev pub lone_parameters : List Link → Option (List Parameter)
lone_parameters (l ∷ []) = Some l.parameters
lone_parameters _ = None

-- Returns the parameters that a text after a target spells, or `None` if it does not spell a list
-- of parameters.
unfoldable pub parameters_of : List ℕ → Option (List Parameter)
parameters_of text = option_and_then lone_parameters (links_from after_part text)

-- Returns the parameters of a text after a target, or the empty list if it spells no such list.
abbrev pub parameters_in : List ℕ → List Parameter
parameters_in text = listed (parameters_of text)
