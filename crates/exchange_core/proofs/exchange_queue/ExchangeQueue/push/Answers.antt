use Rattle.std.proofs.Common.{
  ◌≡◌,
  ◌<◌,
  ◌+◌,
  ◌^◌,
  ◌∷◌,
  length,
  get_or,
  set,
  refl,
  sym,
  ap,
  subst,
  ◌∙◌,
  arith,
}
use Rattle.exchange_core.specs.Buckets.{buckets, bucket, AreFoundBy}
use Rattle.exchange_core.proofs.ChainLaws.{AreLinked-length, AreFoundBy-same, AreFoundBy-pushed}
use Rattle.exchange_core.proofs.exchange_queue.ExchangeQueue.push.Goals as goal

pub push-requires-clause-counted : goal.push-requires-clause-counted
push-requires-clause-counted c =
    let many =
    AreLinked-length c.count_on.new.chains.first c.count_on.new.chains.older.items
    c.self.inside.rows.items c.count_on.ensures.found.links in
    let counted = c.count_on.ensures.counted in
    omega (arith, many, counted)

pub push-requires-clause-room : goal.push-requires-clause-room
push-requires-clause-room c =
    let many =
    AreLinked-length c.count_on.new.chains.first c.count_on.new.chains.older.items
    c.self.inside.rows.items c.count_on.ensures.found.links in
    let room = c.count_on.ensures.room in
    let was = c.self.invariant.1 in
    let view = ap length c.self.view_is in
    let asked = c.requires in
    omega (arith, many, room, was, view, asked)

pub invariant_of-self : goal.invariant_of-self
invariant_of-self c =
    let first = c.count_on.new.chains.first in
    let latest = c.count_on.new.chains.latest.items in
    let older = c.count_on.new.chains.older.items in
    let xs = c.self.inside.rows.items in
    let many = AreLinked-length first older xs c.count_on.ensures.found.links in
    let was = c.self.invariant in
    let view = ap length c.self.view_is in
    let asked = c.requires in
    let ok = c.self.inside.rows.ok.0 in
    let room = c.push_front_reserved.ensures.capacity in
    let long = c.push_front_reserved.ensures.len in
    let kept = c.count_on.ensures.room in
    let kept_more = c.push.ensures.room in
    let counted = c.count_on.ensures.counted in
    let within : bucket c.args.exchange < buckets =
    (let at = c.bucket.ensures.bucket in let low = c.bucket.ensures.within in omega (
      arith,
      at,
      low,
    )) in (
      omega (arith, was.0, room),
      omega (arith, was.1, kept, kept_more),
      omega (arith, long, ok, view, asked),
      AreFoundBy-same c.push.ensures.first
          (c.push.ensures.latest
          ∙ (ap (λ b. set latest b (first + length older)) c.bucket.ensures.bucket
          ∙ ap (λ n. set latest (bucket c.args.exchange) (first + n)) many))
          (c.push.ensures.older ∙ ap (λ b. get_or latest b 0 ∷ older) c.bucket.ensures.bucket)
          c.push_front_reserved.ensures.items
          (AreFoundBy-pushed first latest older c.args.exchange xs within (omega (arith, counted))
          c.count_on.ensures.found),
    )
