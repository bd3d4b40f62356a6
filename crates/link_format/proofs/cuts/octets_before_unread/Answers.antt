-- The octets before a separator, counted one by one.
use Rattle.link_format.specs.declared.cuts.Quotes.TheVariants.{Unread}
use Rattle.link_format.proofs.CutLemmas.{unread_step, unread_there, counted_end}
use Rattle.link_format.proofs.cuts.octets_before_unread.Goals as goal

pub octets-preserved : goal.octets-preserved
octets-preserved c =
    unread_step c.args.separator c.args.text.now c.octets.rest.now c.in-Some.octet.now
    c.in-Some.more.now c.octets.invariant c.in-Some.ensures.cases.0 c.if-octet-separator.false

pub returns-then-octet-separator-clause-value : goal.returns-then-octet-separator-clause-value
returns-then-octet-separator-clause-value c =
    unread_there c.args.separator c.args.text.now c.octets.rest.now c.in-Some.octet.now
    c.in-Some.more.now c.octets.invariant c.in-Some.ensures.cases.0 c.if-octet-separator.true

pub returns-clause-value : goal.returns-clause-value
returns-clause-value c =
    counted_end c.args.separator Unread c.args.text.now Unread c.octets.rest.now c.octets.invariant
    c.in_default.ensures.cases
