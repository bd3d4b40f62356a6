use Rattle.headline_law.proofs.WholeHeadlineLaw.{trace-WholeHeadline}
use Rattle.trace_replay.proofs.replays.replay.Goals as goal

pub returns-clause-headline : goal.returns-clause-headline
returns-clause-headline g c workers bytes = trace-WholeHeadline workers bytes
