use Rattle.hosting.specs.Refusals.{most_of}
use Rattle.hosting.proofs.guards.Guard.refusal.Goals as goal

pub returns : goal.returns
returns g c = c.past_share.ensures (most_of c.args.self.now.criteria)
