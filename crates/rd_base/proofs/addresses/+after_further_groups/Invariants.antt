use Rattle.std.proofs.Common.{length}
use Rattle.rd_base.proofs.addresses.+after_further_groups.Given as goal

-- proposed from what the function passes where it calls itself
abbrev pub decreases-after_further_groups : goal.decreases-after_further_groups
decreases-after_further_groups l = length l.groups.now
