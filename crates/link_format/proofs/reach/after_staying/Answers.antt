-- One octet more stays.
use Rattle.link_format.specs.Points.{point_in}
use Rattle.link_format.proofs.WalkLemmas.{none_over, one_over}
use Rattle.link_format.proofs.reach.after_staying.Goals as goal

pub staying-init : goal.staying-init
staying-init c = none_over (point_in c.args.point) c.args.octets.now

pub staying-preserved : goal.staying-preserved
staying-preserved c =
    one_over (point_in c.args.point) c.args.octets.now c.staying.rest.now c.in-Some.more.now
    c.in-Some.octet.now c.staying.invariant c.in-Some.ensures.cases.0
    (c.stays.ensures.point c.if-not-stays.false) (c.stays.ensures.tails c.if-not-stays.false)
