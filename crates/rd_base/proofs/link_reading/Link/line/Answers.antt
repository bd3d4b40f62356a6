-- What stands at the span of the line is the line.
use Rattle.std.proofs.Common.{ap, ◌∙◌}
use Rattle.rd_base.specs.LinkLines.{link_line}
use Rattle.rd_base.proofs.LinkTextLemmas.{line-shown}
use Rattle.rd_base.proofs.link_reading.Link.line.Goals as goal

pub returns : goal.returns
returns c =
    c.at.ensures
    ∙ rw c.as_str.ensures.value
    (line-shown _ _ _ _ _ c.self.invariant ∙ ap link_line c.self.view_is)
