-- What is left has the first fault of all.
use Rattle.std.proofs.Common.{sym, ◌∙◌}
use Rattle.query_text.proofs.WalkLaws.{passed}
use Rattle.query_text.proofs.RuleLaws.{same_fault}
use Rattle.query_text.proofs.faults.fault.Goals as goal

pub options-preserved : goal.options-preserved
options-preserved g c =
    let past = rw c.in-Ok-Some.field-0-is at c.in-Ok-Some.ensures.step in
    record {
      same =
          passed c.options.walk (g.Q.Pieces.left c.options.queries) c.step.new.self
          (g.Q.Pieces.left c.step.new.queries) c.in-Ok-Some.field-0-0 past
          ∙ c.options.invariant.same;
      room = c.in-Ok-Some.ensures.room;
    }

pub returns-in-Ok-None : goal.returns-in-Ok-None
returns-in-Ok-None g c =
    let ended = rw c.in-Ok-None.field-0-is at c.in-Ok-None.ensures.step in
    sym ended.1
    ∙ (c.options.invariant.same ∙ same_fault c.args.kind (g.Q.Pieces.left c.args.queries))

pub returns-in-Err : goal.returns-in-Err
returns-in-Err g c =
    sym c.in-Err.ensures.step
    ∙ (c.options.invariant.same ∙ same_fault c.args.kind (g.Q.Pieces.left c.args.queries))
