-- A quoted string read to its end, octet by octet.
use Rattle.link_format.proofs.CutLemmas.{inside_plain, inside_closed, inside_escape, inside_end}
use Rattle.link_format.proofs.cuts.after_quotes.Goals as goal

pub octets-preserved-then-octet-eq92 : goal.octets-preserved-then-octet-eq92
octets-preserved-then-octet-eq92 c separator =
    inside_escape separator c.args.text.now c.octets.rest.now c.in-Some.octet.now c.in-Some.more.now
    (c.octets.invariant separator) c.in-Some.ensures.cases.0 c.if-octet-eq92.true
    c.after_octet-rest.result.now c.after_octet-rest.ensures

pub octets-preserved : goal.octets-preserved
octets-preserved c separator =
    inside_plain separator c.args.text.now c.octets.rest.now c.in-Some.octet.now c.in-Some.more.now
    (c.octets.invariant separator) c.in-Some.ensures.cases.0 c.if-octet-eq34.false
    c.if-octet-eq92.false

pub returns-then-octet-eq34-clause-within : goal.returns-then-octet-eq34-clause-within
returns-then-octet-eq34-clause-within c =
    (inside_closed 0 c.args.text.now c.octets.rest.now c.in-Some.octet.now c.in-Some.more.now
    (c.octets.invariant 0) c.in-Some.ensures.cases.0 c.if-octet-eq34.true).within

pub returns-then-octet-eq34-clause-counted : goal.returns-then-octet-eq34-clause-counted
returns-then-octet-eq34-clause-counted c separator =
    (inside_closed separator c.args.text.now c.octets.rest.now c.in-Some.octet.now
    c.in-Some.more.now (c.octets.invariant separator) c.in-Some.ensures.cases.0
    c.if-octet-eq34.true).counted

pub returns-clause-counted : goal.returns-clause-counted
returns-clause-counted c separator =
    inside_end separator c.args.text.now c.octets.rest.now (c.octets.invariant separator)
    c.in_default.ensures.cases
