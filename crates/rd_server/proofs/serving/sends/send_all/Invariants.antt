use Rattle.std.proofs.Common.{◌≡◌, ◌≤◌, ◌-◌, List, length, take}
use Rattle.rd_server.specs.serving.Sendings.{Sending, all_sent}
use Rattle.rd_server.specs.serving.Workers.{Sends, link_seen}
use Rattle.rd_server.specs.serving.Sums.{CountsSendings}
use Rattle.rd_server.proofs.serving.sends.send_all.Given as goal

-- the first datagrams were sent
abbrev pub invariant-datagrams : goal.invariant-datagrams
invariant-datagrams g l = (l.index ≤ length l.out) × (sendings : List Sending)
    × (all_sent sendings ≡ take l.index l.out)
    × Sends sendings (link_seen g.L.Link l.fn.link) (link_seen g.L.Link l.link)
    × CountsSendings sendings 0 l.fn.served l.served

abbrev pub decreases-datagrams : goal.decreases-datagrams
decreases-datagrams g l = length l.out - l.index
