use Rattle.history_model.specs.Live.{last_moment}
use Rattle.serve_tests.proofs.versions.crowded.Goals as goal

pub names-init : goal.names-init
unfolding last_moment
names-init c = (c.in_ok-version.ensures.stands.at, c.in_ok-version.ensures.unswept)
