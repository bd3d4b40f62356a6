use Rattle.std.proofs.Common.{◌<◌, ◌+◌, length, refl, sym, subst, ◌∙◌, arith}
use Rattle.observation.proofs.MarkLaws.{Walked, walked-marked, walked-other, walked-all}
use Rattle.observation.proofs.marks.mark_observers.Goals.{in-Some, in_default}
use Rattle.observation.proofs.marks.mark_observers.Goals as goal

pub observers-init : goal.observers-init
observers-init c = record { handed_on = tt; later = refl; len = refl }

pub observers-preserved : goal.observers-preserved
observers-preserved c =
    let end = c.len-index-end.ensures in
    let below = c.observers-test.true in
    let len = c.observers.invariant.len in
    let inside : c.observers.index < length c.observers.observers =
    omega (arith, end, below, len) in
    elim c.match-slot_to_mark.branch [
      | in-Some w ↦
          subst (λ ws. Walked c.args.watches.now c.args.observers.now ws (c.observers.index + 1))
          (sym (w.observers-is ∙ w.mark.ensures.marked))
          (walked-marked c.args.watches.now c.args.observers.now c.observers.observers
          c.observers.index w.in-Some.slot inside w.in-Some.ensures.marked
          w.in-Some.ensures.own c.observers.invariant)
      | in_default w ↦
          subst (λ ws. Walked c.args.watches.now c.args.observers.now ws (c.observers.index + 1))
          (sym w.observers-is)
          (walked-other c.args.watches.now c.args.observers.now c.observers.observers
          c.observers.index inside w.in_default.ensures.own c.observers.invariant)
    ]

pub returns : goal.returns
returns c =
    let end = c.len-index-end.ensures in
    let past = c.observers-test.false in
    let len = c.observers.invariant.len in
    walked-all c.args.watches.now c.args.observers.now c.observers.observers c.observers.index
    (omega (arith, end, past, len)) c.observers.invariant
