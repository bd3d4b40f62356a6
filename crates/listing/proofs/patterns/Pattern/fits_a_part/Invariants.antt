use Rattle.std.proofs.Common.{◌≡◌, length}
use Rattle.std.specs.List.{list_any}
use denote.Text.{Utf8}
use denote.Shadow.{shadow}
use Rattle.record_model.specs.Matching as model
use Rattle.listing.specs.Patterns.{fits}
use Rattle.listing.proofs.patterns.Pattern.fits_a_part.Given as goal

abbrev pub invariant-parts : goal.invariant-parts
invariant-parts l = record {
  text : shadow (Utf8 l.rest);
  same :
      list_any (fits l.self) (model.parts_of l.value)
      ≡ list_any (fits l.self) (model.parts_of l.rest);
}

abbrev pub decreases-parts : goal.decreases-parts
decreases-parts l = length l.rest
