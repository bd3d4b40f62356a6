use Rattle.std.proofs.Common.{◌≡◌, length, map}
use Rattle.std.specs.String.{string_bytes}
use Rattle.hosting.specs.Words.{IsAsked, asked_by, nothing_asked}
use Rattle.hosting.proofs.plans.words_ask.Given as goal

-- the words that are left ask for the rest, beside what was asked for so far
abbrev pub invariant-words : goal.invariant-words
invariant-words l = record {
  rest :
      asked_by nothing_asked (map string_bytes l.words)
      ≡ asked_by l.asked (map string_bytes l.left);
  within : IsAsked l.asked;
}

abbrev pub decreases-words : goal.decreases-words
decreases-words l = length l.left
