use Rattle.trace_replay.specs.Machines.{IsMachine}
use Rattle.rd_show.proofs.conversation.Conversation.hear.Given as goal

-- the machine stands after a journal
abbrev pub invariant-parts : goal.invariant-parts
invariant-parts l =
    (goal.iterator-parts).can_next l.part-iterator
    × (goal.iterator-parts).is_finite l.part-iterator
    × IsMachine l.self.machine
