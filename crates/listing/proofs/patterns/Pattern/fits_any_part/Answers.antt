-- A value without a space is its one part.
use Rattle.std.proofs.Common.{◌≢◌, [], ◌∙◌, ap, sym, rules}
use Rattle.std.proofs.Math.Bool.{or-false}
use Rattle.std.specs.List.{list_any}
use Rattle.listing.specs.Patterns.{fits}
use Rattle.listing.proofs.PartCuts.{none_found, one_part}
use Rattle.listing.proofs.patterns.Pattern.fits_any_part.Goals as goal

pub returns : goal.returns
returns c =
    let value = c.args.value.now in
    let some : value ≢ [] = search rules in
    c.fits.ensures
    ∙ sym (or-false (fits c.args.self.now value))
    ∙ ap (list_any (fits c.args.self.now))
    (sym (one_part value (none_found value (sym c.has_space.ensures ∙ c.if-has_space.false))
    some))
