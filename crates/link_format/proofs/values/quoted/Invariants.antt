-- What is written and the spelling of the characters left make the quoted text.
use Rattle.std.proofs.Common.{◌≡◌, ◌∷◌, ◌++◌, length, flat_map}
use Rattle.std.specs.String.{string_bytes}
use Rattle.std.specs.Str.Iter.{chars_rest}
use Rattle.link_model.specs.Characters.{quote_mark}
use Rattle.link_model.specs.Quoting.{escaped_character}
use Rattle.link_format.proofs.values.quoted.Given as goal

abbrev pub invariant-characters : goal.invariant-characters
invariant-characters l =
    string_bytes l.text ++ flat_map escaped_character (chars_rest l.characters)
    ≡ quote_mark ∷ flat_map escaped_character l.value

abbrev pub decreases-characters : goal.decreases-characters
decreases-characters l = length (chars_rest l.characters)
