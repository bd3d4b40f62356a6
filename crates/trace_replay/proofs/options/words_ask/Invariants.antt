use Rattle.std.proofs.Common.{◌≡◌, Some, length, map}
use Rattle.std.specs.String.{string_bytes}
use Rattle.trace_replay.specs.Options.{words_after}
use Rattle.trace_replay.proofs.options.words_ask.Given as goal

-- the words that are left go on from what was asked for so far
abbrev pub invariant-words : goal.invariant-words
invariant-words g l =
    words_after g.A.Asked.is_option g.A.Asked.given (Some l.fn.nothing) (map string_bytes l.words)
    ≡ words_after g.A.Asked.is_option g.A.Asked.given (Some l.asked) (map string_bytes l.left)

abbrev pub decreases-words : goal.decreases-words
decreases-words g l = length l.left
