use Rattle.std.proofs.Common.{◌≡◌, false, refl}
use Rattle.std.proofs.lemmas.Result.{IfOk-weaker}
use Rattle.rd_desk.specs.calls.Stepping.{is_starved_step}
use Rattle.trace_replay.proofs.WorkerSteps.{ticked}
use Rattle.trace_replay.proofs.workers.Worker.tick.Goals as goal

pub returns : goal.returns
returns c =
    IfOk-weaker c.unstarved.result (λ done. is_starved_step c.tick.result ≡ false) _
    (λ done fed rows s kind word it.
    ticked rows s c.args.now c.args.desk.now.tables c.tick.new.self.tables c.args.self.now
    (record { mids = c.tick.new.mids; job = c.args.self.now.job }) c.tick.new.out
    (is_starved_step c.tick.result) fed refl kind it
    (c.tick.ensures.made rows s kind word))
    c.unstarved.ensures
