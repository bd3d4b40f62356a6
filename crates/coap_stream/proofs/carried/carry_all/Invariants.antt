use Rattle.std.proofs.Common.{◌≤◌, ◌-◌, length, take}
use Rattle.coap_stream.specs.Made.{Speaks, voice_seen}
use Rattle.coap_stream.specs.Talks.{replies_to}
use Rattle.coap_stream.proofs.carried.carry_all.Given as goal

-- The first datagrams were written.
abbrev pub invariant-datagrams : goal.invariant-datagrams
invariant-datagrams g l = (l.index ≤ length l.outbox)
    × Speaks (voice_seen g.K.Sink l.fn.out l.still)
    (replies_to l.line l.most (take l.index l.outbox))
    (voice_seen g.K.Sink l.out l.holds)

abbrev pub decreases-datagrams : goal.decreases-datagrams
decreases-datagrams g l = length l.outbox - l.index
