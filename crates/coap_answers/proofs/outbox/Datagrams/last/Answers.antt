use Rattle.std.proofs.Common.{[], ◌∷◌, ◌-◌, length, ap, ◌∙◌, arith}
use Rattle.std.proofs.lemmas.List.{length-append}
use Rattle.coap_answers.proofs.OutboxLaws.{last_found}
use Rattle.coap_answers.proofs.outbox.Datagrams.last.Goals as goal

pub returns-then-count-eq0-clause-last : goal.returns-then-count-eq0-clause-last
returns-then-count-eq0-clause-last c front peer octets is =
    let size = ap length is ∙ length-append front ((peer, octets) ∷ []) in
    absurd (omega (arith, size, c.len-count.ensures.count, c.if-count-eq0.true))

pub returns-in-Some-clause-last : goal.returns-in-Some-clause-last
returns-in-Some-clause-last c front peer octets is =
    last_found _ c.args.self.now front peer octets (c.len-count.result - 1) c.in-Some.ensures
    (omega (arith, c.len-count.ensures.count, c.if-count-eq0.false)) is

pub returns-in-Some-clause-none : goal.returns-in-Some-clause-none
returns-in-Some-clause-none c is =
    let size = ap length is in
    absurd (omega (arith, size, c.len-count.ensures.count, c.if-count-eq0.false))

pub returns-in-None-clause-last : goal.returns-in-None-clause-last
returns-in-None-clause-last c front peer octets is =
    last_found _ c.args.self.now front peer octets (c.len-count.result - 1) c.in-None.ensures
    (omega (arith, c.len-count.ensures.count, c.if-count-eq0.false)) is
