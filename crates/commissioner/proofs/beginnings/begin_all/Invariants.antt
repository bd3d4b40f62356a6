use Rattle.std.proofs.Common.{◌≡◌, List, Option}
use Rattle.client_model.specs.declared.asks.Ask.{Ask}
use Rattle.client_model.specs.declared.outcomes.Outcome.{Outcome}
use Rattle.registrant.specs.Turns.{seen}
use Rattle.commissioner.specs.declared.steps.Step.{Step}
use Rattle.commissioner.specs.Happening.{AreOpen}
use Rattle.commissioner.proofs.BeginLaws.{BeginsSo}
use Rattle.commissioner.proofs.beginnings.begin_all.Given as goal

abbrev pub invariant-lines : goal.invariant-lines
invariant-lines g l = record {
  begun :
      (asks : List Ask) (past : List Step) (outcomes : List (Option Outcome))
      → AreOpen past asks 0 l.fn.lines outcomes
      → BeginsSo asks past outcomes l.at l.lines
      (seen g.L.Link.coming g.L.Link.gone g.L.Link.recv_faults g.L.Link.send_faults
      g.C.Clock.times g.C.Clock.words l.fn.link l.fn.clock)
      (seen g.L.Link.coming g.L.Link.gone g.L.Link.recv_faults g.L.Link.send_faults
      g.C.Clock.times g.C.Clock.words l.link l.clock);
  receives : g.L.Link.recv_faults l.link ≡ g.L.Link.recv_faults l.fn.link;
}
