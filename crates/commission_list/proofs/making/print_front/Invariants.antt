use Rattle.std.proofs.Common.{◌≡◌, ◌-◌, ℕ, List, length}
use Rattle.commission_list.specs.Makings.{Printed}
use Rattle.commission_list.proofs.MakingLaws.{Fronted}
use Rattle.commission_list.proofs.making.print_front.Given as goal

-- the lines so far were written, and no call failed
abbrev pub invariant-outcomes : goal.invariant-outcomes
invariant-outcomes g l = record {
  written :
      (text : List ℕ)
      → Printed 1 l.outcomes l.fn.printed text
      → Fronted l.outcomes text l.printed (g.K.Sink.holds l.fn.out) (g.K.Sink.holds l.out);
  counts : g.K.Sink.faults l.out ≡ g.K.Sink.faults l.fn.out;
}

abbrev pub decreases-outcomes : goal.decreases-outcomes
decreases-outcomes g l = length l.outcomes - l.printed
