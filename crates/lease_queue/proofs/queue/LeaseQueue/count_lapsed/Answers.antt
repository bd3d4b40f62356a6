use Rattle.std.proofs.Common.{◌≡◌, length, sym, ap, ◌∙◌, arith}
use Rattle.lease_queue.specs.Leases.{lapsed_at}
use Rattle.lease_queue.proofs.QueueLaws.{lapsed_within, keys_count}
use Rattle.lease_queue.proofs.queue.LeaseQueue.count_lapsed.Goals as goal

pub count-requires-clause-bound : goal.count-requires-clause-bound
count-requires-clause-bound c =
    let lapsed : length c.lapsed.result ≡ length (lapsed_at c.args.now.0 c.args.self.now) =
    ap length c.lapsed.ensures in
    let all : length c.args.self.now ≡ length c.self.inside.leases =
    ap length (sym c.self.view_is) ∙ keys_count c.self.inside.leases in
    omega (arith, lapsed, all, c.len-most.ensures, lapsed_within c.args.now.0 c.args.self.now)
