-- The pattern that was cut says of each part what the pattern says.
use Rattle.std.proofs.Common.{◌∙◌, rules}
use Rattle.listing.specs.Patterns.{fits}
use Rattle.listing.proofs.PatternLaws.{named_part}
use Rattle.listing.proofs.patterns.matches_named.Goals as goal

pub returns-then-is_list_name : goal.returns-then-is_list_name
returns-then-is_list_name c =
    c.fits_part.ensures
    ∙ named_part c.args.name.now c.args.pattern.now c.args.value.now (fits c.of.result)
    (search rules) c.of.ensures
