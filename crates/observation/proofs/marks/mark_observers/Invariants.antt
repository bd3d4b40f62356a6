use Rattle.observation.proofs.MarkLaws.{Walked}
use Rattle.observation.proofs.marks.mark_observers.Given as goal

abbrev pub invariant-observers : goal.invariant-observers
invariant-observers l = Walked l.watches l.initial.observers l.observers l.index
