use Rattle.std.proofs.Common.{◌≤◌, length, ap, subst, sym, ◌∙◌, arith}
use Rattle.exchange_core.specs.declared.writes.Keyed.TheVariants as keyed
use Rattle.exchange_core.specs.Table.{Table, young}
use Rattle.exchange_core.specs.ExchangeEvents.{IsKeyedAt, MayBeAdmitted}
use Rattle.exchange_core.proofs.TableLaws.{repeat-not_fresh}
use Rattle.exchange_core.proofs.KeyedLaws.{
  repeat-IsKeyedAt,
  full-IsKeyedAt,
  fresh-MayBeAdmitted,
}
use Rattle.exchange_core.proofs.table.Exchanges.unadmitted.Goals as goal

pub returns-in-Some-clause-some : goal.returns-in-Some-clause-some
returns-in-Some-clause-some c =
    let here : Table = record {
      moment = c.self.inside.moment.0;
      exchanges = c.self.inside.queue;
    } in (
      subst (λ (t : Table). IsKeyedAt c.args.now.0 c.args.peer c.args.mid t t c.in-Some.repeat)
          c.self.view_is
          (repeat-IsKeyedAt c.args.now.0 c.args.peer c.args.mid here c.in-Some.repeat
          c.self.invariant
          (subst (λ (t : Table). t.moment ≤ c.args.now.0) (sym c.self.view_is) c.requires)
          c.in-Some.ensures),
      λ fresh.
          repeat-not_fresh c.args.now.0 c.args.peer c.args.mid here.exchanges c.in-Some.repeat
          c.in-Some.ensures fresh,
    )

pub returns-then-len-eq-MAX_EXCHANGES-clause-some :
    goal.returns-then-len-eq-MAX_EXCHANGES-clause-some
returns-then-len-eq-MAX_EXCHANGES-clause-some c =
    let here : Table = record {
      moment = c.self.inside.moment.0;
      exchanges = c.self.inside.queue;
    } in
    let kept = ap (λ (t : Table). length t.exchanges) c.self-2.view_is in
    let moment = c.age.ensures.moment in (
      subst (λ (t : Table).
          IsKeyedAt c.args.now.0 c.args.peer c.args.mid t c.age.new.self keyed.FullExchanges)
          c.self.view_is
          (full-IsKeyedAt c.args.now.0 c.args.peer c.args.mid here c.age.new.self c.self.invariant
          c.in_default.ensures (c.age.ensures.left
          ∙ ap (λ (t : Table). young c.args.now.0 t.exchanges) (sym c.self.view_is))
          (omega (arith, moment)) (let many = c.len.ensures.many in omega
          (arith, kept, many, c.if-len-eq-MAX_EXCHANGES.true))),
      λ fresh. absurd cc,
    )

pub returns-clause-none : goal.returns-clause-none
returns-clause-none c =
    let here : Table = record {
      moment = c.self.inside.moment.0;
      exchanges = c.self.inside.queue;
    } in
    let kept = ap (λ (t : Table). length t.exchanges) c.self-2.view_is in
    let within = c.len.ensures.within in
    subst (λ (t : Table). MayBeAdmitted c.args.now.0 c.args.peer c.args.mid t c.age.new.self)
    c.self.view_is
    (fresh-MayBeAdmitted c.args.now.0 c.args.peer c.args.mid here c.age.new.self c.self.invariant
    c.in_default.ensures
    (c.age.ensures.left
    ∙ ap (λ (t : Table). young c.args.now.0 t.exchanges) (sym c.self.view_is))
    (let many = c.len.ensures.many in omega
    (arith, kept, many, c.if-len-eq-MAX_EXCHANGES.false, within))
    c.age.ensures.moment)
