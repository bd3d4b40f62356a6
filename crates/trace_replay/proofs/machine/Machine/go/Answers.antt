use Rattle.std.proofs.Common.{refl}
use Rattle.trace_replay.proofs.MachineLaws.{lent_at, went}
use Rattle.trace_replay.proofs.machine.Machine.go.Goals as goal

pub returns : goal.returns
returns c = λ workers rows at.
    went workers rows c.args.worker c.args.moment c.later-self.result c.args.self.now _
    c.in-Some.goer.now c.go.new.self at
    (lent_at c.args.worker c.from.result c.args.moment.0 c.later-self.result c.args.self.now _
    c.in-Some.goer.now c.go.new.self c.from.ensures (c.in-Some.ensures.variant.0 refl)
    c.in-Some.ensures.value c.later-self.ensures
    c.requires.moment refl refl)
    c.if-not-is_busy.ensures c.in_ok-go.ensures
