use Rattle.std.proofs.Common.{length}
use Rattle.recording.proofs.recorders.Recorder.feed.Given as goal

-- each part takes an octet or more
abbrev pub decreases-parts : goal.decreases-parts
decreases-parts l = length l.rest
