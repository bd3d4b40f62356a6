use Rattle.std.proofs.Common.{ℕ, ◌+◌, nat_eq, sym, ap, subst, ◌∙◌}
use Rattle.lru.specs.LruCache.{LruCache, put_entries}
use Rattle.event_model.specs.KeptAnswers.{KeptAnswer}
use Rattle.transfers.specs.Keeping.{values, AreBelow}
use Rattle.transfers.proofs.NumberLaws.{keep-values, keep-numbers}
use Rattle.transfers.proofs.caching.keep.Goals as goal

pub returns-clause-answers : goal.returns-clause-answers
returns-clause-answers c =
    ap (λ (s : LruCache ℕ KeptAnswer). values s.entries) c.in_ok-put.ensures.entries
    ∙ (ap (λ n. values (put_entries nat_eq c.args.cache.now n c.args.kept))
    c.number_for-found.ensures
    ∙ keep-values c.args.cache.now c.args.number c.args.kept c.known.ensures.distinct
    c.known.ensures.few c.requires.room c.requires.fresh)

pub returns-clause-numbers : goal.returns-clause-numbers
returns-clause-numbers c =
    subst (λ (s : LruCache ℕ KeptAnswer). AreBelow (c.args.number + 1) s.entries)
    (sym c.in_ok-put.ensures.entries)
    (subst (λ n. AreBelow (c.args.number + 1) (put_entries nat_eq c.args.cache.now n c.args.kept))
    (sym c.number_for-found.ensures)
    (keep-numbers c.args.cache.now c.args.number c.args.kept c.known.ensures.distinct
    c.requires.fresh))
