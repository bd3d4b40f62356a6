use Rattle.std.proofs.Common.{◌≡◌, ◌≤◌, ◌+◌, ◌-◌, drop, length}
use Rattle.trace_model.specs.Made.{octets_sent}
use Rattle.trace_replay.proofs.made.octets_of.Given as goal

-- the octets of the first datagrams, with those of the others
abbrev pub invariant-datagrams : goal.invariant-datagrams
invariant-datagrams l =
    (l.index ≤ length l.sent) × (l.octets + octets_sent (drop l.index l.sent) ≡ octets_sent l.sent)

abbrev pub decreases-datagrams : goal.decreases-datagrams
decreases-datagrams l = length l.sent - l.index
