use Rattle.std.proofs.Common.{length}
use Rattle.hosting.specs.Words.{IsAsked}
use Rattle.hosting.proofs.word_faults.wrong_words.Given as goal

abbrev pub invariant-words : goal.invariant-words
invariant-words l = IsAsked l.asked

abbrev pub decreases-words : goal.decreases-words
decreases-words l = length l.left
