use Rattle.std.proofs.Common.{◌≡◌, ℕ, List, ◌++◌, length}
use Rattle.stream_model.specs.declared.messages.Judged.TheVariants as judged
use Rattle.stream_reader.specs.Reading.{held_as, stream_after}
use Rattle.tcp_door.specs.Waiting.{HasBefore, IsAnyOf}
use Rattle.tcp_door.proofs.heeding.heed.Given as goal

-- So many messages ended, and the last of them stands before what is left.
abbrev pub invariant-messages : goal.invariant-messages
invariant-messages l = record {
  behind : length l.rest ≡ 0 → held_as l.reader ≡ judged.Whole;
  ends : (n : ℕ)
      × ((further : List ℕ)
      → HasBefore n (stream_after l.fn.reader (l.fn.piece ++ further))
      (stream_after l.reader (l.rest ++ further)))
      × IsAnyOf l.any n;
}

abbrev pub decreases-messages : goal.decreases-messages
decreases-messages l = length l.rest
