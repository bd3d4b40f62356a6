use Rattle.std.proofs.Common.{◌∙◌, sym}
use Rattle.listing.proofs.PatternLaws.{other_end}
use Rattle.listing.proofs.patterns.ends_with_wildcard.Goals as goal

pub returns-in-Some : goal.returns-in-Some
returns-in-Some c other =
    other_end c.args.pattern.now c.in-Some.field-0-1.now c.in-Some.last.now
    (sym c.as_bytes.ensures.value ∙ c.in-Some.ensures.cases.0) other
