-- The first stands at its spans, and so do those that are left.
use Rattle.std.proofs.Common.{subst}
use Rattle.std.proofs.lemmas.List.Elements.{All-head, All-tail}
use Rattle.std.specs.List.{All}
use Rattle.rd_base.specs.LinkTexts.{HoldsIn}
use Rattle.rd_base.proofs.link_reading.LinksIterator.next.Goals as goal

pub invariant_of-self : goal.invariant_of-self
invariant_of-self c =
    All-tail (HoldsIn c.self.inside.texts.now) c.in_ok-spans.spans.now c.in_ok-spans.rest.now
    (subst (All (HoldsIn c.self.inside.texts.now)) c.in_ok-spans.ensures.cases.0
    c.self.invariant)

pub invariant_of-result : goal.invariant_of-result
invariant_of-result c =
    All-head (HoldsIn c.self.inside.texts.now) c.in_ok-spans.spans.now c.in_ok-spans.rest.now
    (subst (All (HoldsIn c.self.inside.texts.now)) c.in_ok-spans.ensures.cases.0
    c.self.invariant)
