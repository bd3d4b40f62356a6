use Rattle.std.proofs.Common.{Err, subst}
use Rattle.std.proofs.KnownBytes.{Appends-nil}
use Rattle.line_model.specs.Lines.{line_of}
use Rattle.trace_model.specs.Steps.{step_of_line}
use Rattle.trace_replay.specs.declared.troubles.Trouble.{Trouble}
use Rattle.trace_replay.specs.Machines.{PerformsFor}
use Rattle.trace_replay.proofs.LineDone.{line_done, line_bad}
use Rattle.trace_replay.proofs.sessions.Session.do_line.Goals as goal

pub returns-in-Ok-clause-done : goal.returns-in-Ok-clause-done
returns-in-Ok-clause-done g c workers rows st =
    line_done workers rows _ _
    (record {
      machine = c.perform.new.machine;
      line = c.in-Some.next;
      pending =
          c.args.self.now.pending;
    }) _ _ c.in-Ok.worker c.send.result
    c.in-Some.ensures.1 (c.in-Ok.ensures workers rows st) c.send.ensures.written

pub returns-in-Err-Bad-clause-done : goal.returns-in-Err-Bad-clause-done
returns-in-Err-Bad-clause-done g c workers rows st =
    let said = step_of_line workers rows (line_of c.args.line.now) in
    let done = c.perform.new.machine in (
      line_bad workers rows said done c.args.self.now.line c.in-Err-Bad.why
          (subst (λ (t : Trouble). PerformsFor workers rows said done (Err t))
          c.in-Err-Bad.field-0-is (c.in-Err-Bad.ensures workers rows st)),
      Appends-nil (g.K.Sink.holds c.args.out.now),
    )
