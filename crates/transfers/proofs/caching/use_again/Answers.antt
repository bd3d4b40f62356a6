use Rattle.std.proofs.Common.{nat_eq, ap, ◌∙◌}
use Rattle.std.specs.Map.{set_value}
use Rattle.lru.specs.LruCache.{lru_cache, promoted}
use Rattle.rd_base.proofs.lemmas.Options.{none_some, some_same}
use Rattle.transfers.specs.Keeping.{used_at}
use Rattle.transfers.proofs.NumberLaws.{lookup-found, set-promoted}
use Rattle.transfers.proofs.caching.use_again.Goals as goal

pub returns-in-Some-clause-used : goal.returns-in-Some-clause-used
returns-in-Some-clause-used c p there =
    let same =
    some_same
    (c.in-Some.ensures.value ∙ lookup-found (nat_eq c.args.number) c.args.cache.now.entries
    p there) in
    ap (λ x.
    lru_cache (set_value (nat_eq c.args.number)
    (promoted (nat_eq c.args.number) c.args.cache.now.entries) x)
    c.args.cache.now.cap) (c.use_again.ensures ∙ ap (used_at c.args.now.0) same)
    ∙ ap (λ es. lru_cache es c.args.cache.now.cap)
    (set-promoted (nat_eq c.args.number) c.args.cache.now.entries p (used_at c.args.now.0 p.1)
    there)

pub returns-in_default-clause-used : goal.returns-in_default-clause-used
returns-in_default-clause-used c p there =
    absurd (none_some (c.in_default.ensures.value
    ∙ lookup-found (nat_eq c.args.number) c.args.cache.now.entries p there))
