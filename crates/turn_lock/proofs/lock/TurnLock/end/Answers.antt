use Rattle.turn_lock.proofs.Endings.{if_free, left_value, left_label}
use Rattle.turn_lock.proofs.lock.TurnLock.end.Goals as goal

pub returns-clause-value : goal.returns-clause-value
returns-clause-value g c =
    let t = g.T.Replays in
    let lab = t.label c.args.self.table.shared.key.value.value in
    let passes = c.args.self.table.shared.key.passes in
    let closed = c.close_with.result in
    let seat = c.into_inner-seat.result in
    let kept = c.close_with.ensures.values.2 in
    rw (← c.into_inner-seat.ensures)
    (if_free c.left.result
    (left_value t.stands t.number t.label lab passes closed seat.id seat.me.0 kept)
    c.left.ensures.free)

pub returns-clause-value_label : goal.returns-clause-value_label
returns-clause-value_label g c =
    let t = g.T.Replays in
    let lab = t.label c.args.self.table.shared.key.value.value in
    let passes = c.args.self.table.shared.key.passes in
    let closed = c.close_with.result in
    let seat = c.into_inner-seat.result in
    let kept = c.close_with.ensures.values.2 in
    rw (← c.into_inner-seat.ensures)
    (if_free c.left.result
    (left_label t.stands t.number t.label lab passes closed seat.id seat.me.0 kept)
    c.left.ensures.free)
