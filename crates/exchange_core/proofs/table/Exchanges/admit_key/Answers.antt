use Rattle.std.proofs.Common.{◌∷◌, length, ap, ◌∙◌, arith}
use Rattle.exchange_core.specs.Table.{Table, admitted_now}
use Rattle.exchange_core.proofs.table.Exchanges.admit_key.Goals as goal

pub returns-in-Some : goal.returns-in-Some
returns-in-Some c = c.in-Some.ensures.some.0

pub push-requires : goal.push-requires
push-requires c =
    let may = c.in_default.ensures.none in
    let kept = ap (λ (t : Table). length t.exchanges) c.self.view_is in
    omega (arith, kept, may.room)

pub returns : goal.returns
returns c =
    let may = c.in_default.ensures.none in
    may.admitted (record { moment = c.self.inside.moment.0; exchanges = c.push.new.self })
    (c.push.ensures
    ∙ (ap (λ x. x ∷ c.self.inside.queue) c.in_flight.ensures
    ∙ ap (λ (t : Table). admitted_now c.args.peer c.args.mid c.args.now.0 ∷ t.exchanges)
    c.self.view_is))
    (ap (λ (t : Table). t.moment) c.self.view_is)
