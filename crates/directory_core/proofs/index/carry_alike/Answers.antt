use Rattle.std.proofs.Common.{sym, ◌∙◌}
use Rattle.std.proofs.lemmas.Bool.{false≢true}
use Rattle.directory_core.proofs.IndexLaws.{alike_ended, alike_fewer, alike_more, alike_not}
use Rattle.directory_core.proofs.index.carry_alike.Goals as goal

pub links-preserved : goal.links-preserved
links-preserved c =
    alike_more c.links.left c.links.right c.next.new.self c.next-in-Some.new.self c.in-Some.link
    c.in-Some-next.other _ c.in-Some.ensures.steps c.in-Some-next.ensures.steps
    (c.carries_alike.ensures.0 c.if-not-carries_alike.false) c.links.invariant

pub returns-then-not-carries_alike : goal.returns-then-not-carries_alike
returns-then-not-carries_alike c =
    alike_not c.links.left c.links.right c.next.new.self c.next-in-Some.new.self c.in-Some.link
    c.in-Some-next.other _ c.in-Some.ensures.steps c.in-Some-next.ensures.steps
    (λ same. false≢true (sym c.if-not-carries_alike.true ∙ c.carries_alike.ensures.1 same))
    c.links.invariant

pub returns-in_default-next : goal.returns-in_default-next
returns-in_default-next c =
    alike_fewer c.links.left c.links.right c.next.new.self c.in-Some.link _ c.in-Some.ensures.steps
    c.in_default-next.ensures.steps.0 c.links.invariant

pub returns : goal.returns
returns c =
    alike_ended c.links.left c.links.right c.is_empty.result _ c.in_default.ensures.steps.0
    c.is_empty.ensures c.links.invariant
