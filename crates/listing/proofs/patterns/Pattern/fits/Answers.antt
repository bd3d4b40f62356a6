use Rattle.std.proofs.Common.{◌∙◌, sym, ap}
use Rattle.std.proofs.lemmas.Str.Pattern.{starts_text}
use Rattle.listing.specs.Patterns.{fits}
use Rattle.listing.proofs.patterns.Pattern.fits.Goals as goal

pub returns-in-Front : goal.returns-in-Front
returns-in-Front c =
    starts_text c.starts_with.result c.in-Front.front.now c.args.value.now
    c.starts_with.ensures.cases
    ∙ ap (λ pattern. fits pattern c.args.value.now) (sym c.in-Front.is)
