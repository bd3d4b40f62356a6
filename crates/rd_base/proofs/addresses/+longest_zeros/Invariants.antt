use Rattle.std.proofs.Common.{length}
use Rattle.rd_base.proofs.addresses.+longest_zeros.Given as goal

-- proposed from what the function passes where it calls itself
abbrev pub decreases-longest_zeros : goal.decreases-longest_zeros
decreases-longest_zeros l = length l.groups.now
