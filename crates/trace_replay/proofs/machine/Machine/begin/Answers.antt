use Rattle.std.proofs.Common.{refl}
use Rattle.trace_replay.proofs.MachineLaws.{lent_at, began}
use Rattle.trace_replay.proofs.machine.Machine.begin.Goals as goal

pub returns : goal.returns
returns c = λ workers rows at.
    began workers rows c.args.worker c.args.moment c.args.first c.later-self.result c.args.self.now
    _ c.in-Some.beginner.now at
    (lent_at c.args.worker c.from.result c.args.moment.0 c.later-self.result c.args.self.now _
    c.in-Some.beginner.now c.in-Some.beginner.now c.from.ensures (c.in-Some.ensures.variant.0 refl)
    c.in-Some.ensures.value c.later-self.ensures
    c.requires.moment refl refl)
    c.requires.empty c.in_ok-begin.ensures
