-- What was read is the one list of the body's links, and the offset is that of the longest
-- beginning of a document.
use Rattle.link_format.proofs.CheckLemmas.{links_found, links_only, prefix_found}
use Rattle.link_format.proofs.documents.check.Goals as goal

pub returns-clause-found : goal.returns-clause-found
returns-clause-found c = links_found c.args.body.now c.read.result c.read.ensures.ok

pub returns-clause-only : goal.returns-clause-only
returns-clause-only c =
    links_only c.args.body.now c.read.result c.read.ensures.ok c.read.ensures.refused

pub returns-clause-longest : goal.returns-clause-longest
returns-clause-longest c =
    prefix_found c.args.body.now (λ bad. bad.at) c.read.result c.read.ensures.offset
