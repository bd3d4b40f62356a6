use Rattle.std.proofs.Common.{refl, arith}
use Rattle.trace_replay.proofs.MachineLaws.{version_in_time, lent_at, came}
use Rattle.trace_replay.proofs.machine.Machine.come.Goals as goal

pub hear-requires-clause-after_at : goal.hear-requires-clause-after_at
hear-requires-clause-after_at c =
    (version_in_time c.args.self.now c.later-self.result.0 c.requires.stands
    (omega (arith, c.later-self.ensures))).0

pub hear-requires-clause-after_sweep : goal.hear-requires-clause-after_sweep
hear-requires-clause-after_sweep c =
    (version_in_time c.args.self.now c.later-self.result.0 c.requires.stands
    (omega (arith, c.later-self.ensures))).1

pub returns : goal.returns
returns c = λ workers rows at.
    came workers rows c.args.worker c.args.moment c.args.peer c.args.datagram
    c.as_slice-datagram.result.now c.args.word c.later-self.result c.args.self.now _
    c.in-Some.hearer.now c.hear.new.self at
    (lent_at c.args.worker c.from.result c.args.moment.0 c.later-self.result c.args.self.now _
    c.in-Some.hearer.now c.hear.new.self c.from.ensures (c.in-Some.ensures.variant.0 refl)
    c.in-Some.ensures.value c.later-self.ensures
    c.requires.moment refl refl)
    c.as_slice-datagram.ensures.value c.if-is_busy.ensures c.in_ok-hear.ensures
