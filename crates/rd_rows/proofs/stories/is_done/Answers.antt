-- What a line leaves of the machine: it is after some journal again.
use Rattle.std.proofs.Common.{Ok, Err, ap, ◌∙◌, subst}
use Rattle.trace_model.specs.Steps.{step_of_line}
use Rattle.trace_replay.specs.Machines.{Performs}
use Rattle.trace_replay.proofs.MachineLaws.{done-IsMachine, bad-IsMachine}
use Rattle.rd_rows.proofs.stories.is_done.Goals as goal

pub returns-in-Ok : goal.returns-in-Ok
returns-in-Ok c =
    let (workers, rows, at) = c.requires.stands in
    done-IsMachine workers rows (step_of_line workers rows (Ok c.args.line)) c.perform.new.self
    c.in-Ok.field-0 (rw c.in-Ok.is at (c.perform.ensures workers rows at))

pub returns-in-Err-Bad : goal.returns-in-Err-Bad
returns-in-Err-Bad c =
    let (workers, rows, at) = c.requires.stands in
    let made = step_of_line workers rows (Ok c.args.line) in
    bad-IsMachine workers rows made c.perform.new.self c.in-Err-Bad.field-0-0
    (subst (Performs workers rows made c.perform.new.self)
    (c.in-Err-Bad.is ∙ ap (λ t. Err t) c.in-Err-Bad.field-0-is) (c.perform.ensures workers rows at))
