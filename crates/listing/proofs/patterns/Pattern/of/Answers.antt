use Rattle.listing.proofs.PatternLaws.{by_front, by_whole}
use Rattle.listing.proofs.patterns.Pattern.of.Goals as goal

pub returns-in-Some : goal.returns-in-Some
returns-in-Some c value = by_front c.args.text.now value c.in-Some.front.now c.in-Some.ensures

pub returns-in-None : goal.returns-in-None
returns-in-None c value = by_whole c.args.text.now value c.in-None.ensures
