use Rattle.std.proofs.Common.{sym, ◌∙◌, arith}
use Rattle.std.proofs.lemmas.Bool.{false≢true}
use Rattle.watch_table.proofs.SlotLaws.{slot-here, slot-next}
use Rattle.watch_table.proofs.slots.find_slot.Goals.{in-Some+else-is_of, in_default}
use Rattle.watch_table.proofs.slots.find_slot.Goals as goal

pub returns-then-is_of : goal.returns-then-is_of
returns-then-is_of c =
    slot-here c.args.query.now c.args.watches.now.entries c.watches.index
    (c.in-Some.slot.now, c.in-Some.watch.now) c.in-Some.ensures.entry
    (sym c.is_of.ensures ∙ c.if-is_of.true)
    ∙ c.watches.invariant

pub watches-preserved : goal.watches-preserved
watches-preserved c = elim c.match-get_index.branch [
  | in-Some+else-is_of w ↦ slot-next c.args.query.now c.args.watches.now.entries c.watches.index
      (w.in-Some.slot.now, w.in-Some.watch.now) w.in-Some.ensures.entry
      (sym w.is_of.ensures ∙ w.if-is_of.false)
      ∙ c.watches.invariant
  | in_default w ↦ let end =
      c.len-index-end.ensures.len in let inside =
      c.watches-test.true in absurd
      (false≢true (w.in_default.ensures.found.1 (omega (arith, end, inside))))
]
