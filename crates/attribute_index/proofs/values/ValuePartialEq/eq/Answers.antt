use Rattle.std.proofs.Common.{◌≡◌, ap, ◌∙◌}
use Rattle.std.specs.Ordering.{is_eq}
use Rattle.attribute_index.proofs.RowLaws.{same_at}
use Rattle.attribute_index.proofs.values.ValuePartialEq.eq.Goals as goal

pub returns : goal.returns
returns c =
    c.is_eq.ensures ∙ ap is_eq c.order.ensures ∙ same_at c.args.self.now c.args.other.now
