use Rattle.std.proofs.Common.{length}
use Rattle.registrant.proofs.AskLaws.{IsPutting}
use Rattle.registrant.proofs.asks.put_options.Given as goal

-- the options that are put, and those that are left
abbrev pub invariant-options : goal.invariant-options
invariant-options l = IsPutting l.initial.message l.message l.options l.left

abbrev pub decreases-options : goal.decreases-options
decreases-options l = length l.left
