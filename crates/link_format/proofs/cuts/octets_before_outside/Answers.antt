-- The octets before a separator outside quoted strings, with each quoted string read to its end.
use Rattle.link_format.proofs.CutLemmas.{outside_there, outside_quoted, outside_plain, outside_end}
use Rattle.link_format.proofs.cuts.octets_before_outside.Goals as goal

pub octets-preserved-then-octet-eq34 : goal.octets-preserved-then-octet-eq34
octets-preserved-then-octet-eq34 c =
    outside_quoted c.args.separator c.args.outside.now c.octets.rest.now c.octets.invariant
    c.in-Some.octet.now c.in-Some.more.now c.in-Some.ensures.cases.0 c.if-octet-separator.false
    c.if-octet-eq34.true
    c.after_quotes-rest.result.now c.after_quotes-rest.ensures.within
    (c.after_quotes-rest.ensures.counted c.args.separator)

pub octets-preserved : goal.octets-preserved
octets-preserved c =
    outside_plain c.args.separator c.args.outside.now c.octets.rest.now c.octets.invariant
    c.in-Some.octet.now c.in-Some.more.now c.in-Some.ensures.cases.0 c.if-octet-separator.false
    c.if-octet-eq34.false

pub returns-then-octet-separator-clause-value : goal.returns-then-octet-separator-clause-value
returns-then-octet-separator-clause-value c =
    outside_there c.args.separator c.args.outside.now c.octets.rest.now c.octets.invariant
    c.in-Some.octet.now c.in-Some.more.now c.in-Some.ensures.cases.0 _ c.requires
    c.if-octet-separator.true

pub returns-clause-value : goal.returns-clause-value
returns-clause-value c =
    outside_end c.args.separator c.args.outside.now c.octets.rest.now c.octets.invariant _
    c.requires c.in_default.ensures.cases
