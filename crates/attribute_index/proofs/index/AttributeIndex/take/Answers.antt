use Rattle.attribute_index.proofs.RowLaws.{ascends_rows}
use Rattle.attribute_index.proofs.index.AttributeIndex.take.Goals as goal

pub returns-clause-ascends : goal.returns-clause-ascends
returns-clause-ascends c =
    ascends_rows c.in_ok-edited.field-0 c.in_ok-edited.ensures.ascends
