-- The octets left are judged after so many missing digits, and as many as were read stand before
-- them.
use Rattle.std.proofs.Common.{◌≡◌, ◌+◌, length}
use Rattle.reference_model.specs.References.{is_text_of, is_text_after_digits}
use Rattle.reference_model.specs.ReferenceFaults.{text_prefix, prefix_after_digits}
use Rattle.ref_resolve.specs.Classes.{stands_in}
use Rattle.ref_resolve.proofs.reach.text_reach.Given as goal

abbrev pub decreases-octets : goal.decreases-octets
decreases-octets l = length l.rest

abbrev pub invariant-octets : goal.invariant-octets
invariant-octets l = record {
  whole :
      is_text_after_digits (stands_in l.class) l.digits l.rest
      ≡ is_text_of (stands_in l.class) l.text;
  at :
      l.at + prefix_after_digits (stands_in l.class) l.digits l.rest
      ≡ text_prefix (stands_in l.class) l.text;
  bound : l.at + length l.rest ≡ length l.text;
}
