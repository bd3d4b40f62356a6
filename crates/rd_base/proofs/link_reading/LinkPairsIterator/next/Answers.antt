-- Those that are left stand where they stood.
use Rattle.std.proofs.Common.{subst}
use Rattle.std.proofs.lemmas.List.Elements.{All-tail}
use Rattle.std.specs.List.{All}
use Rattle.rd_base.specs.LinkTexts.{HoldsPair}
use Rattle.rd_base.proofs.link_reading.LinkPairsIterator.next.Goals as goal

pub invariant_of-self : goal.invariant_of-self
invariant_of-self c =
    All-tail (HoldsPair c.self.inside.raw.now c.self.inside.apart.now) c.in_ok-first.first.now
    c.in_ok-first.rest.now
    (subst (All (HoldsPair c.self.inside.raw.now c.self.inside.apart.now))
    c.in_ok-first.ensures.cases.0 c.self.invariant)
