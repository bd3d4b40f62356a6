-- The path so far and the segments left make the same path, and nothing before it has changed.
use Rattle.std.proofs.Common.{◌≡◌, ◌≤◌, ◌||◌, true, length, take, drop}
use Rattle.std.specs.Prelude.{fold}
use Rattle.std.specs.Str.{IsUtf8}
use Rattle.std.specs.String.{string_bytes}
use Rattle.link_model.specs.Characters.{slash, is_empty}
use Rattle.reference_model.specs.References.{begins_with}
use Rattle.ref_resolve.specs.Paths.{path_with, closed_segments}
use Rattle.ref_resolve.proofs.dot_segments.append_segments.Given as goal

abbrev pub decreases-segments : goal.decreases-segments
decreases-segments l = length l.rest

abbrev pub invariant-segments : goal.invariant-segments
invariant-segments l = record {
  utf8 : IsUtf8 l.rest;
  slash : (is_empty l.rest || begins_with slash l.rest) ≡ true;
  within : l.start ≤ length (string_bytes l.text);
  front : take l.start (string_bytes l.text) ≡ take l.start (string_bytes l.initial.text);
  path :
      fold path_with (drop l.start (string_bytes l.text)) (closed_segments l.rest)
      ≡ fold path_with (drop l.start (string_bytes l.initial.text)) (closed_segments l.path);
}
