use Rattle.listing.proofs.StepLaws.{gives_nothing}
use Rattle.listing.proofs.parts.lines.Goals as goal

pub returns-in-Discovery-clause-text : goal.returns-in-Discovery-clause-text
returns-in-Discovery-clause-text c =
    gives_nothing c.args.query.now c.args.record_of.now c.args.into.now c.args.skip c.args.most
    c.in-Discovery.is
