use Rattle.std.proofs.Common.{◌≡◌, ◌≤◌, ◌-◌, take, length}
use Rattle.trace_replay.specs.Machines.{lines_sent}
use Rattle.trace_replay.proofs.machine.Machine.sent_text.Given as goal

-- the lines of the first datagrams
abbrev pub invariant-datagrams : goal.invariant-datagrams
invariant-datagrams l =
    (l.index ≤ length l.self.sent) × (l.text ≡ lines_sent l.worker (take l.index l.self.sent))

abbrev pub decreases-datagrams : goal.decreases-datagrams
decreases-datagrams l = length l.self.sent - l.index
