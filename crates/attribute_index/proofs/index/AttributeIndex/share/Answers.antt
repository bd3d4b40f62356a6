use Rattle.attribute_index.proofs.RowLaws.{ascends_rows}
use Rattle.attribute_index.proofs.index.AttributeIndex.share.Goals as goal

pub returns-clause-ascends : goal.returns-clause-ascends
returns-clause-ascends c =
    rw c.in_ok-share.ensures.same (ascends_rows c.self.inside.rows c.self.invariant)
