use Rattle.listing.proofs.OwnLaws.{all_lines}
use Rattle.listing.proofs.own_links.page_bounds.Goals as goal

pub returns-in-None : goal.returns-in-None
returns-in-None c = all_lines c.args.query.now.page c.args.query.now.count c.in-None.is
