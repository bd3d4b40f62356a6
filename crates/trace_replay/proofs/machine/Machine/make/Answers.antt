use Rattle.std.proofs.Common.{refl}
use Rattle.trace_replay.proofs.MachineLaws.{made_machine}
use Rattle.trace_replay.proofs.machine.Machine.make.Goals as goal

pub returns : goal.returns
returns c =
    made_machine c.args.workers _ c.in_ok-make.ensures.stands refl c.in_ok-workers_of.ensures.number
    c.in_ok-workers_of.ensures.each
