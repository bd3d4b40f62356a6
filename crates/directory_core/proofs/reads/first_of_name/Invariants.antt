use Rattle.std.proofs.Common.{◌≡◌, length}
use Rattle.directory_core.specs.NameSlots.{first_live_named}
use Rattle.directory_core.proofs.reads.first_of_name.Given as goal

abbrev pub invariant-numbers : goal.invariant-numbers
invariant-numbers g l =
    first_live_named l.records l.name l.now.0 l.numbers
    ≡ first_live_named l.records l.name l.now.0 l.fn.numbers

abbrev pub decreases-numbers : goal.decreases-numbers
decreases-numbers g l = length l.numbers
