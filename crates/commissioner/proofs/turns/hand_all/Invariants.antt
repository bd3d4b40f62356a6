use Rattle.std.proofs.Common.{◌≡◌, List, Option}
use Rattle.udp_link.specs.Told.{Stays}
use Rattle.client_model.specs.declared.asks.Ask.{Ask}
use Rattle.client_model.specs.declared.outcomes.Outcome.{Outcome}
use Rattle.commissioner.specs.declared.steps.Step.{Step}
use Rattle.commissioner.specs.Lines.{event_of}
use Rattle.commissioner.specs.Happening.{AreOpen}
use Rattle.commissioner.proofs.EventLaws.{Handing}
use Rattle.commissioner.proofs.turns.hand_all.Given as goal

abbrev pub invariant-lines : goal.invariant-lines
invariant-lines g l = record {
  handed :
      (asks : List Ask) (past : List Step) (outcomes : List (Option Outcome))
      → AreOpen past asks 0 l.fn.lines outcomes
      → Handing (event_of l.taken) past asks l.line-index l.lines outcomes
      (g.L.Link.gone l.fn.link) (g.L.Link.send_faults l.fn.link)
      (g.L.Link.gone l.link) (g.L.Link.send_faults l.link);
  coming : Stays (g.L.Link.coming l.fn.link) (g.L.Link.coming l.link);
  receives : g.L.Link.recv_faults l.link ≡ g.L.Link.recv_faults l.fn.link;
}
