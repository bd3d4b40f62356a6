use Rattle.std.proofs.Common.{rules}
use Rattle.std.proofs.lemmas.Str.Pattern.{strip_suffix_char}
use Rattle.link_model.specs.Characters.{asterisk}
use Rattle.listing.proofs.PatternLaws.{before_end}
use Rattle.listing.proofs.patterns.before_wildcard.Goals as goal

pub returns : goal.returns
returns c =
    before_end c.args.pattern.now c.strip_suffix.result
    (strip_suffix_char asterisk c.args.pattern.now c.strip_suffix.result
    c.strip_suffix.ensures.cases (search rules))
