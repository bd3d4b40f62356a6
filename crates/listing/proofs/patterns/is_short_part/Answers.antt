-- Another text is no part of a value that is no longer.
use Rattle.std.proofs.Common.{◌∙◌, sym}
use Rattle.std.proofs.lemmas.Bool.{and_left}
use Rattle.listing.proofs.PartSizes.{same_or_none}
use Rattle.listing.proofs.patterns.is_short_part.Goals as goal

pub returns-else-same_text : goal.returns-else-same_text
returns-else-same_text c =
    c.if-same_text.false
    ∙ sym (and_left _ _ (sym c.same_text.ensures ∙ c.if-same_text.false))
    ∙ same_or_none c.args.value.now c.args.text.now c.requires
