use Rattle.std.proofs.Common.{◌≡◌, ◌≤◌, ◌+◌, ◌++◌, length}
use Rattle.event_model.specs.KeptAnswers.{max_answers}
use Rattle.transfers.specs.Keeping.{values, AreBelow}
use Rattle.transfers.proofs.caching.copied.Given as goal

abbrev pub invariant-last : goal.invariant-last
invariant-last l = record {
  answers : values l.cache.entries ≡ values l.left ++ values l.copy.entries;
  numbers : AreBelow l.number l.copy.entries;
  counted : length l.copy.entries ≡ l.number;
  few : l.number + length l.left ≤ 64;
  room : l.copy.cap ≡ max_answers;
}

abbrev pub decreases-last : goal.decreases-last
decreases-last l = length l.left
