use Rattle.std.proofs.Common.{◌≡◌, length}
use Rattle.capture_file.specs.Checksums.{sum_of}
use Rattle.capture_file.proofs.checksums.summed.Given as goal

-- what is left adds up to the whole
abbrev pub invariant-words : goal.invariant-words
invariant-words l = sum_of l.sum l.rest ≡ sum_of l.fn.sum l.fn.octets

-- each word takes two octets
abbrev pub decreases-words : goal.decreases-words
decreases-words l = length l.rest
