use Rattle.std.proofs.Common.{◌≡◌, false}
use Rattle.std.proofs.lemmas.Result.{IfOk-weaker}
use Rattle.rd_desk.specs.calls.Stepping.{is_starved_step}
use Rattle.trace_replay.proofs.WorkerSteps.{begun}
use Rattle.trace_replay.proofs.workers.Worker.begin.Goals as goal

pub returns : goal.returns
returns c =
    IfOk-weaker c.unstarved.result (λ done. is_starved_step c.begin.result ≡ false) _
    (λ done fed rows s kind it.
    begun rows s c.args.now c.args.desk.now.tables c.begin.new.self.tables c.args.self.now
    c.args.first (is_starved_step c.begin.result) fed kind it
    (c.begin.ensures.made rows s kind))
    c.unstarved.ensures
