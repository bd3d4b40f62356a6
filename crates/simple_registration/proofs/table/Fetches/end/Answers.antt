use Rattle.std.proofs.Common.{subst, sym, ap, length, arith}
use Rattle.simple_registration.specs.Table.{is_of}
use Rattle.simple_registration.specs.FetchEvents.{FetchesStandFor}
use Rattle.rd_base.proofs.lemmas.Firsts.{length-without_first}
use Rattle.simple_registration.proofs.CallLaws.{ends}
use Rattle.simple_registration.proofs.table.Fetches.end.Goals as goal

pub invariant_of-self : goal.invariant_of-self
invariant_of-self c =
    let room = c.drop_first.ensures.capacity in
    let fewer = ap length c.drop_first.ensures.items in
    let few = length-without_first (is_of c.args.peer.now) c.self.inside.rows.items in
    let ok = c.self.inside.rows.ok.0 in
    let ok_now = c.drop_first.new.rows.ok.0 in
    let before = c.self.invariant in
    (omega (arith, room, before), omega (arith, before, fewer, few, ok, ok_now))

pub returns : goal.returns
returns c octets events e stands is =
    ends octets events c.self.inside.rows.items c.drop_first.new.rows.items c.self.inside.started
    c.args.peer.now e c.drop_first.ensures.items is
    (subst (FetchesStandFor octets events) (sym c.self.view_is) stands)
