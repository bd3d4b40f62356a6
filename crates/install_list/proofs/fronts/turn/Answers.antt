use Rattle.std.proofs.Common.{drop}
use Rattle.install_list.proofs.PutLaws.{rest_turned}
use Rattle.install_list.proofs.fronts.turn.Goals as goal

pub returns-in-Ok-false-clause-turned : goal.returns-in-Ok-false-clause-turned
returns-in-Ok-false-clause-turned g c =
    let before = c.args.front.now in
    let after = c.put_next.new.self in
    rest_turned before.verb c.rest.result (drop before.written before.numbers.items)
    (drop after.written after.numbers.items) before.is_undone after.is_undone
    (g.K.Sink.holds c.args.out.now) (g.K.Sink.holds c.put_next.new.out)
    c.in-Ok-false.ensures.next c.rest.ensures.rest
