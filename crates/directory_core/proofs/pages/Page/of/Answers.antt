use Rattle.directory_core.proofs.PageLaws.{page_begins}
use Rattle.directory_core.proofs.pages.Page.of.Goals as goal

pub returns : goal.returns
returns c lines below =
    page_begins c.args.query.now c.new.result c.page_bounds-skip.result.0
    c.page_bounds-skip.result.1 lines c.new.ensures (c.page_bounds-skip.ensures lines below)
