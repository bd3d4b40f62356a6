use Rattle.std.proofs.Common.{length}
use Rattle.rd_base.proofs.addresses.+zeros_first.Given as goal

-- proposed from what the function passes where it calls itself
abbrev pub decreases-zeros_first : goal.decreases-zeros_first
decreases-zeros_first l = length l.groups.now
