-- What is written and the spelling of the characters left make the text.
use Rattle.std.proofs.Common.{◌≡◌, ◌++◌, length, flat_map}
use Rattle.std.specs.String.{string_bytes}
use Rattle.std.specs.Str.Iter.{chars_rest}
use Rattle.rd_base.specs.LinkLines.{escaped_character}
use Rattle.rd_base.proofs.spans.push_escaped_text.Given as goal

abbrev pub invariant-characters : goal.invariant-characters
invariant-characters l =
    string_bytes l.text ++ flat_map escaped_character (chars_rest l.characters)
    ≡ string_bytes l.fn.text ++ flat_map escaped_character l.more

abbrev pub decreases-characters : goal.decreases-characters
decreases-characters l = length (chars_rest l.characters)
