use Rattle.std.proofs.Common.{refl, ◌∙◌}
use Rattle.message_model.specs.Spelling.{spelling}
use Rattle.rd_request.specs.Accepted.{message_of}
use Rattle.trace_replay.proofs.WorkerSteps.{looked_done, looked_held}
use Rattle.trace_replay.proofs.workers.Worker.look.Goals as goal

pub returns-in-Done : goal.returns-in-Done
returns-in-Done c rows s kind by of it =
    looked_done rows s c.args.now c.args.desk.now.tables c.args.self.now
    (record { mids = c.answer_look.new.mids; job = c.args.self.now.job }) c.deref.result.now
    c.args.peer (spelling (message_of c.args.request.now)) c.args.out.now c.answer_look.new.out
    (c.deref.ensures ∙ c.version.ensures.value) kind by of c.requires.empty refl it
    (c.in-Done.ensures.sends s) c.in-Done.ensures.held

pub returns-in-Held : goal.returns-in-Held
returns-in-Held c rows s kind by of it =
    looked_held rows s c.args.now c.args.desk.now.tables c.args.self.now _ c.deref.result.now
    c.args.peer (spelling (message_of c.args.request.now)) c.in-Held.job c.args.out.now
    c.answer_look.new.out
    (c.deref.ensures ∙ c.version.ensures.value) kind by of c.requires.empty refl it
    (λ history stands mine. c.in-Held.ensures.sends s history stands mine)
    c.in-Held.ensures.held
