-- The text is what is left and octets after it, of which none is a slash.
use Rattle.std.proofs.Common.{◌≡◌, ◌++◌, ℕ, List, length}
use Rattle.link_model.specs.Characters.{slash}
use Rattle.ref_resolve.specs.Paths.{before_last}
use Rattle.ref_resolve.proofs.dot_segments.last_slash.Given as goal

abbrev pub decreases-octets : goal.decreases-octets
decreases-octets l = length l.rest

abbrev pub invariant-octets : goal.invariant-octets
invariant-octets l = record {
  joined : (after : List ℕ) × (l.text ≡ l.rest ++ after);
  before : before_last slash l.rest ≡ before_last slash l.text;
}
