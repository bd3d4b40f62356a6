use Rattle.std.proofs.Common.{◌-◌, List, length, take}
use Rattle.client_model.specs.declared.asks.Ask.{Ask}
use Rattle.commissioner.specs.declared.steps.Step.{Step}
use Rattle.commissioner.specs.Happening.{AreLines, KeepsDecided}
use Rattle.commissioner.proofs.AsideLaws.{NoneDecided}
use Rattle.commissioner.proofs.polls.put_aside.Given as goal

abbrev pub invariant-lines : goal.invariant-lines
invariant-lines l = record {
  none : NoneDecided (take l.at l.lines.items);
  kept :
      (asks : List Ask) (past : List Step)
      → AreLines past asks 0 l.initial.lines.items l.initial.outcomes
      → AreLines past asks 0 l.lines.items l.outcomes;
  keeps : KeepsDecided l.initial.outcomes l.outcomes;
}

abbrev pub decreases-lines : goal.decreases-lines
decreases-lines l = length l.lines.items - l.at
