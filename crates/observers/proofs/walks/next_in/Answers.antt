use Rattle.std.proofs.Common.{arith, sym, ◌∙◌}
use Rattle.observers.proofs.WalkLaws.{get-slice, next-here, next-later, next-none}
use Rattle.observers.proofs.walks.next_in.Goals.{in-Some+else-is_free, in_default}
use Rattle.observers.proofs.walks.next_in.Goals as goal

pub returns-then-is_free : goal.returns-then-is_free
returns-then-is_free c =
    next-here c.args.observers.now c.observers.index c.in-Some.observer.now
    (get-slice c.args.observers.now c.observers.index c.in-Some.observer.now
    c.observers-test.true c.in-Some.ensures.lookup.1)
    (sym (c.is_free.ensures c.args.observers.now c.requires) ∙ c.if-is_free.true)
    ∙ c.observers.invariant

pub observers-preserved : goal.observers-preserved
observers-preserved c = elim c.match-get.branch [
  | in-Some+else-is_free w ↦ next-later c.args.observers.now c.observers.index
      w.in-Some.observer.now
      (get-slice c.args.observers.now c.observers.index w.in-Some.observer.now c.observers-test.true
      w.in-Some.ensures.lookup.1)
      (sym (w.is_free.ensures c.args.observers.now c.requires) ∙ w.if-is_free.false)
      ∙ c.observers.invariant
  | in_default w ↦ let over =
      w.in_default.ensures.lookup.3 in let inside =
      c.observers-test.true in absurd (omega (arith, over, inside))
]

pub returns : goal.returns
returns c =
    sym (next-none c.args.observers.now c.observers.index c.observers-test.false)
    ∙ c.observers.invariant
