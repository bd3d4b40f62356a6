use Rattle.std.proofs.Common.{◌≡◌, ◌+◌, length}
use Rattle.std.specs.Vec.Iter.{into_iter_items}
use Rattle.event_model.specs.KeptAnswers.{max_answers}
use Rattle.transfers.specs.Keeping.{kept_each, values, AreBelow}
use Rattle.transfers.proofs.caching.keep_each.Given as goal

abbrev pub invariant-answers : goal.invariant-answers
invariant-answers l = record {
  answers :
      kept_each l.now.0 (into_iter_items l.answer-iterator) (values l.cache.entries)
      ≡ kept_each l.now.0 l.fn.more (values l.initial.cache.entries);
  numbers : AreBelow l.number l.cache.entries;
  counted : l.number + length (into_iter_items l.answer-iterator) ≡ 64 + length l.fn.more;
  room : l.cache.cap ≡ max_answers;
}
