use Rattle.std.proofs.Common.{sym, ◌∙◌}
use Rattle.observers.specs.Standing.{is_named}
use Rattle.observation.proofs.WalkLaws.{full-Some, full-None}
use Rattle.observation.proofs.joining.is_full_beside.Goals as goal

pub returns-in-Some : goal.returns-in-Some
returns-in-Some c peer token is =
    full-Some (is_named peer token) c.args.observers.now c.in-Some.field-0 c.len.result
    (sym c.in-Some.is ∙ is) c.len.ensures

pub returns-in-None : goal.returns-in-None
returns-in-None c peer token is =
    full-None (is_named peer token) c.args.observers.now c.len-in-None.result
    (sym c.in-None.is ∙ is) c.len-in-None.ensures
