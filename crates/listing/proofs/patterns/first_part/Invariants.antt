use Rattle.std.proofs.Common.{◌≡◌, ◌≤◌, length}
use denote.Text.{Utf8}
use denote.Shadow.{shadow}
use Rattle.record_model.specs.Matching.{parts_of}
use Rattle.listing.proofs.patterns.first_part.Given as goal

abbrev pub invariant-parts : goal.invariant-parts
invariant-parts l = record {
  text : shadow (Utf8 l.rest);
  same : parts_of l.value ≡ parts_of l.rest;
  few : length l.rest ≤ length l.value;
}

abbrev pub decreases-parts : goal.decreases-parts
decreases-parts l = length l.rest
