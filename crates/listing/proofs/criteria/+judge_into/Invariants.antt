use Rattle.std.proofs.Common.{length}
use Rattle.listing.proofs.criteria.+judge_into.Given as goal

abbrev pub decreases-judge_into : goal.decreases-judge_into
decreases-judge_into l = length l.criteria.now
