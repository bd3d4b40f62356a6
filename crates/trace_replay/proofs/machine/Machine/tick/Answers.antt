use Rattle.std.proofs.Common.{refl}
use Rattle.trace_replay.proofs.MachineLaws.{lent_at, ticked}
use Rattle.trace_replay.proofs.machine.Machine.tick.Goals as goal

pub returns : goal.returns
returns c = λ workers rows at.
    ticked workers rows c.args.worker c.args.moment c.args.word c.later-self.result c.args.self.now
    _ c.in-Some.ticker.now c.tick.new.self at
    (lent_at c.args.worker c.from.result c.args.moment.0 c.later-self.result c.args.self.now _
    c.in-Some.ticker.now c.tick.new.self c.from.ensures (c.in-Some.ensures.variant.0 refl)
    c.in-Some.ensures.value c.later-self.ensures
    c.requires.moment refl refl)
    c.in_ok-tick.ensures
