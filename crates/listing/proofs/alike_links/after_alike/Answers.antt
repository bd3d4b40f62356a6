-- One link more of each is left out.
use Rattle.listing.proofs.AlikeLaws.{AreLeftAlike-more}
use Rattle.listing.proofs.alike_links.after_alike.Goals as goal

pub links-preserved : goal.links-preserved
links-preserved c =
    AreLeftAlike-more c.args.old c.args.new c.in-Some.link c.in-Some-split_first.other
    c.in-Some.more c.in-Some-split_first.further c.links.left c.links.others c.in-Some.ensures
    c.in-Some-split_first.ensures
    (c.are_alike.ensures c.if-not-are_alike.false) c.links.invariant
