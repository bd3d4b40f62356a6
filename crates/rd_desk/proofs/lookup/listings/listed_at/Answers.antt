use Rattle.std.proofs.Common.{◌∙◌}
use Rattle.rd_desk.specs.parts.Lookups.{answer_at}
use Rattle.rd_desk.proofs.parts.LookupLaws.{answer_same}
use Rattle.rd_desk.proofs.lookup.listings.listed_at.Goals as goal

pub returns : goal.returns
returns c history stands =
    answer_same _ (answer_at history c.args.now.0 c.args.query.now)
    (c.in_ok-body.ensures.ok ∙ c.in_ok-octets.ensures history stands)
    (c.tag-tag.ensures 0 history stands)
