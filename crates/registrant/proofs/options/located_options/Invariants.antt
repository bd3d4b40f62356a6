use Rattle.std.proofs.Common.{length, nat_le, [], List, ℕ}
use Rattle.message_model.specs.OptionTable as table
use Rattle.client_model.specs.declared.asks.TheConstants.{MAX_PART}
use Rattle.registrant.proofs.OptionLaws.{IsAdding}
use Rattle.registrant.proofs.options.located_options.Given as goal

-- the segments that were added, and those that are left
abbrev pub invariant-segments : goal.invariant-segments
invariant-segments l =
    IsAdding (λ (segment : List ℕ). nat_le (length segment) MAX_PART) table.uri_path [] l.options
    l.path
    l.left

abbrev pub decreases-segments : goal.decreases-segments
decreases-segments l = length l.left
