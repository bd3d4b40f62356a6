use Rattle.history_model.specs.Live.{last_moment}
use Rattle.serve_tests.proofs.versions.full.Goals as goal

pub registered-requires-clause-at : goal.registered-requires-clause-at
unfolding last_moment
registered-requires-clause-at c = c.in_ok-empty.ensures.stands.at
