-- One octet more, and the one that ends the text.
use Rattle.std.proofs.Common.{sym, ◌∙◌, arith, ap, length}
use Rattle.ref_resolve.specs.Classes.{stands_in}
use Rattle.ref_resolve.proofs.ReachLaws.{ended, one_more}
use Rattle.ref_resolve.proofs.reach.text_reach.Goals as goal

pub returns-in-None-clause-whole : goal.returns-in-None-clause-whole
returns-in-None-clause-whole c =
    (ended (stands_in c.args.class) c.octets.digits c.octets.at c.in-Some.octet.now
    c.octets.rest.now c.in-Some.more.now c.args.text.now (c.in-Some.ensures.cases.0)
    (sym c.next_digits.ensures ∙ c.in-None.is) c.octets.invariant.whole c.octets.invariant.at).0

pub returns-in-None-clause-at : goal.returns-in-None-clause-at
returns-in-None-clause-at c =
    (ended (stands_in c.args.class) c.octets.digits c.octets.at c.in-Some.octet.now
    c.octets.rest.now c.in-Some.more.now c.args.text.now (c.in-Some.ensures.cases.0)
    (sym c.next_digits.ensures ∙ c.in-None.is) c.octets.invariant.whole c.octets.invariant.at).1

pub octets-preserved : goal.octets-preserved
octets-preserved c =
    let more =
    one_more (stands_in c.args.class) c.octets.digits c.octets.at c.in-Some.octet.now
    c.in-Some-next_digits.missing c.octets.rest.now c.in-Some.more.now c.args.text.now
    (c.in-Some.ensures.cases.0) (sym c.next_digits.ensures ∙ c.in-Some-next_digits.is)
    c.octets.invariant.whole c.octets.invariant.at in
    let shorter = ap length (c.in-Some.ensures.cases.0) in
    record { whole = more.0; at = more.1; bound = omega (arith, shorter) }
