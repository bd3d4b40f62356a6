use Rattle.std.proofs.Common.{length}
use Rattle.recording.proofs.transcripts.Transcript.feed.Given as goal

-- each line takes an octet or more
abbrev pub decreases-lines : goal.decreases-lines
decreases-lines l = length l.rest
