use Rattle.std.proofs.Common.{length}
use Rattle.recording.proofs.words.words_read.Given as goal

-- each turn takes a word or two
abbrev pub decreases-words : goal.decreases-words
decreases-words l = length l.left
