use Rattle.std.proofs.Common.{refl, ap}
use Rattle.journal_model.specs.Journal.{is_look}
use Rattle.trace_replay.proofs.WorkerSteps.{called, admitted_write, admitted_nothing}
use Rattle.trace_replay.proofs.workers.Worker.admit.Goals as goal

pub returns-in-Done : goal.returns-in-Done
returns-in-Done c rows s kind by of word it =
    let call =
    called rows s c.args.arrival.moment c.args.desk.now.tables c.args.self.now (ap is_look kind) it
    in
    admitted_nothing rows s c.args.arrival.moment c.args.desk.now.tables
    c.admit_arrival.new.self.tables
    c.args.self.now (record { mids = c.admit_arrival.new.mids; job = c.args.self.now.job })
    c.admit_arrival.new.out kind refl it
    (c.in-Done.ensures.held rows s kind by of call)
    (c.in-Done.ensures.made rows s kind by of word call)

pub returns-in-Held : goal.returns-in-Held
returns-in-Held c rows s kind by of word it =
    let call =
    called rows s c.args.arrival.moment c.args.desk.now.tables c.args.self.now (ap is_look kind) it
    in
    admitted_write rows s c.args.arrival.moment c.args.desk.now.tables
    c.admit_arrival.new.self.tables c.args.self.now
    _ c.in-Held.job c.admit_arrival.new.out kind refl it
    (c.in-Held.ensures.held rows s kind by of call)
    (c.in-Held.ensures.made rows s kind by of word call)
