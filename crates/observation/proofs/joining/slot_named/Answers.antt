use Rattle.std.proofs.Common.{Some, option_map, sym, ap, ◌∙◌, arith}
use Rattle.observers.specs.Standing.{Standing, is_named}
use Rattle.observation.proofs.WalkLaws.{find-here, find-later, past-all}
use Rattle.observation.proofs.joining.slot_named.Goals.{in-Some+else-is_of, in_default}
use Rattle.observation.proofs.joining.slot_named.Goals as goal

pub returns-then-is_of : goal.returns-then-is_of
returns-then-is_of c =
    ap (λ (x : Standing). Some x.slot) c.observer.view_is
    ∙ ap (option_map (λ (x : Standing). x.slot))
    (sym (find-here (is_named c.args.peer.now c.args.token.now) c.args.observers.now
    c.observers.index c.in-Some.observer.now (sym c.in-Some.ensures)
    (sym c.is_of.ensures ∙ c.if-is_of.true))
    ∙ c.observers.invariant)

pub observers-preserved : goal.observers-preserved
observers-preserved c = elim c.match-at.branch [
  | in-Some+else-is_of w ↦ find-later (is_named c.args.peer.now c.args.token.now)
      c.args.observers.now c.observers.index w.in-Some.observer.now (sym w.in-Some.ensures)
      (sym w.is_of.ensures ∙ w.if-is_of.false)
      ∙ c.observers.invariant
  | in_default w ↦
      let over = past-all c.args.observers.now c.observers.index w.in_default.ensures in
      let len = c.len-index-end.ensures in
      let inside = c.observers-test.true in
      absurd (omega (arith, over, len, inside))
]
