use Rattle.std.proofs.Common.{ℕ, ◌≤◌, nat_eq, length, is_some, option_map, sym, ap, ◌∙◌, arith}
use Rattle.std.specs.Map.{lookup, remove_entry}
use Rattle.lru.specs.LruCache.{LruCache}
use Rattle.event_model.specs.KeptAnswers.{KeptAnswer}
use Rattle.transfers.specs.Keeping.{is_kept_as, used_at, values, after_reading}
use Rattle.transfers.proofs.NumberLaws.{
  live-none,
  live-old,
  live-young,
  found_entry,
  values-used,
  lookup-first,
}
use Rattle.transfers.proofs.caching.read.Goals as goal

pub returns-in_default-clause-found : goal.returns-in_default-clause-found
returns-in_default-clause-found c =
    ap is_some (sym (live-none c.args.now.0 (c.args.peer, c.args.key.now) c.args.cache.now.entries
    (sym c.in_default.ensures)))

pub returns-in_default-clause-value : goal.returns-in_default-clause-value
returns-in_default-clause-value c =
    ap (option_map (used_at c.args.now.0))
    (sym (live-none c.args.now.0 (c.args.peer, c.args.key.now) c.args.cache.now.entries
    (sym c.in_default.ensures)))

pub returns-in_default-clause-answers : goal.returns-in_default-clause-answers
returns-in_default-clause-answers c =
    ap (λ o. after_reading c.args.now.0 o (values c.args.cache.now.entries))
    (sym (live-none c.args.now.0 (c.args.peer, c.args.key.now) c.args.cache.now.entries
    (sym c.in_default.ensures)))

pub returns-then-not-is_young-clause-found : goal.returns-then-not-is_young-clause-found
returns-then-not-is_young-clause-found c =
    ap is_some (sym (live-old c.args.now.0 (c.args.peer, c.args.key.now) c.args.cache.now.entries
    (c.in-Some.number, c.in-Some.kept.now) (sym c.in-Some.ensures)
    (sym c.is_young.ensures ∙ c.if-not-is_young.true)))

pub returns-then-not-is_young-clause-value : goal.returns-then-not-is_young-clause-value
returns-then-not-is_young-clause-value c =
    ap (option_map (used_at c.args.now.0))
    (sym (live-old c.args.now.0 (c.args.peer, c.args.key.now) c.args.cache.now.entries
    (c.in-Some.number, c.in-Some.kept.now) (sym c.in-Some.ensures)
    (sym c.is_young.ensures ∙ c.if-not-is_young.true)))

pub returns-then-not-is_young-clause-answers : goal.returns-then-not-is_young-clause-answers
returns-then-not-is_young-clause-answers c =
    ap (λ o. after_reading c.args.now.0 o (values c.args.cache.now.entries))
    (sym (live-old c.args.now.0 (c.args.peer, c.args.key.now) c.args.cache.now.entries
    (c.in-Some.number, c.in-Some.kept.now) (sym c.in-Some.ensures)
    (sym c.is_young.ensures ∙ c.if-not-is_young.true)))

pub returns-clause-found : goal.returns-clause-found
returns-clause-found c =
    ap is_some (sym (live-young c.args.now.0 (c.args.peer, c.args.key.now) c.args.cache.now.entries
    (c.in-Some.number, c.in-Some.kept.now) (sym c.in-Some.ensures)
    (sym c.is_young.ensures ∙ c.if-not-is_young.false)))

pub returns-clause-value : goal.returns-clause-value
returns-clause-value c =
    let entry =
    (found_entry (is_kept_as (c.args.peer, c.args.key.now)) c.args.cache.now.entries
    (c.in-Some.number, c.in-Some.kept.now) c.known.ensures.distinct (sym
    c.in-Some.ensures)).0 in
    ap (λ (s : LruCache ℕ KeptAnswer). lookup (nat_eq c.in-Some.number) s.entries)
    (c.use_again.ensures.used (c.in-Some.number, c.in-Some.kept.now) entry)
    ∙ (lookup-first c.in-Some.number (used_at c.args.now.0 c.in-Some.kept.now)
    (remove_entry (nat_eq c.in-Some.number) c.args.cache.now.entries)
    ∙ ap (option_map (used_at c.args.now.0))
    (sym (live-young c.args.now.0 (c.args.peer, c.args.key.now) c.args.cache.now.entries
    (c.in-Some.number, c.in-Some.kept.now) (sym c.in-Some.ensures)
    (sym c.is_young.ensures ∙ c.if-not-is_young.false))))

pub returns-clause-answers : goal.returns-clause-answers
returns-clause-answers c =
    let entry =
    (found_entry (is_kept_as (c.args.peer, c.args.key.now)) c.args.cache.now.entries
    (c.in-Some.number, c.in-Some.kept.now) c.known.ensures.distinct (sym
    c.in-Some.ensures)).0 in
    let few = c.known.ensures.few in
    let room = c.requires in
    let at_most : length c.args.cache.now.entries ≤ 64 = omega (arith, few, room) in
    ap (λ (s : LruCache ℕ KeptAnswer). values s.entries)
    (c.use_again.ensures.used (c.in-Some.number, c.in-Some.kept.now) entry)
    ∙ (values-used c.args.now.0 (c.args.peer, c.args.key.now) c.args.cache.now.entries
    (c.in-Some.number, c.in-Some.kept.now) c.known.ensures.distinct at_most
    (sym c.in-Some.ensures)
    ∙ ap (λ o. after_reading c.args.now.0 o (values c.args.cache.now.entries))
    (sym (live-young c.args.now.0 (c.args.peer, c.args.key.now) c.args.cache.now.entries
    (c.in-Some.number, c.in-Some.kept.now) (sym c.in-Some.ensures)
    (sym c.is_young.ensures ∙ c.if-not-is_young.false))))
