-- What is left has the same segments, but for the dot segments that stand first.
use Rattle.std.proofs.Common.{◌≡◌, length}
use Rattle.std.specs.Str.{IsUtf8}
use Rattle.reference_model.specs.Resolution.{segments_of, with_closing_slash, without_leading_dots}
use Rattle.ref_resolve.proofs.dot_segments.without_leading_dots.Given as goal

abbrev pub decreases-segments : goal.decreases-segments
decreases-segments l = length l.rest

abbrev pub invariant-segments : goal.invariant-segments
invariant-segments l = record {
  utf8 : IsUtf8 l.rest;
  same :
      without_leading_dots (with_closing_slash (segments_of l.path))
      ≡ without_leading_dots (with_closing_slash (segments_of l.rest));
}
