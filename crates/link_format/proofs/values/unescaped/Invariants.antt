-- What is written and what the characters left say is the content.
use Rattle.std.proofs.Common.{◌≡◌, false, ◌++◌, length}
use Rattle.std.specs.Str.Iter.{chars_rest}
use Rattle.link_model.specs.Quoting.{content_up_to_quote}
use Rattle.link_format.proofs.values.unescaped.Given as goal

abbrev pub invariant-characters : goal.invariant-characters
invariant-characters l =
    l.text ++ content_up_to_quote l.escaped (chars_rest l.characters)
    ≡ content_up_to_quote false l.inner

abbrev pub decreases-characters : goal.decreases-characters
decreases-characters l = length (chars_rest l.characters)
