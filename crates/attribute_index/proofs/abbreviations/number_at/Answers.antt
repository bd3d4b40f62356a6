use Rattle.std.proofs.Common.{◌≡◌, ◌<◌, ◌+◌, ◌*◌, suc, arith, subst}
use Rattle.attribute_index.specs.Abbreviations.{symbols_to}
use Rattle.attribute_index.proofs.AbbreviationLaws.{
  limit,
  limit_room,
  spelled_more,
  spelled_none,
  spelled_past,
}
use Rattle.attribute_index.proofs.abbreviations.number_at.Goals as goal

pub loop-i-init : goal.loop-i-init
loop-i-init c = record { spells = spelled_none _; below = omega arith }

pub overflow_mul-number : goal.overflow_mul-number
overflow_mul-number c = let room = limit_room c.loop-i.i (omega arith) in omega arith

pub overflow_add-number : goal.overflow_add-number
overflow_add-number c = let room = limit_room c.loop-i.i (omega arith) in omega arith

pub loop-i-preserved : goal.loop-i-preserved
loop-i-preserved c =
    let e : suc c.loop-i.i ≡ c.loop-i.i + 1 = omega arith in
    let here : c.loop-i.number * 256 + c.digit_to.result < limit (suc c.loop-i.i) = omega arith in
    record {
      spells =
          spelled_more c.loop-i.i c.args.from c.loop-i.number c.digit_to.result
          (symbols_to c.args.last (c.args.name.now, c.args.value.now)) c.loop-i.invariant.spells
          c.digit_to.ensures.digit;
      below = subst (λ n. c.loop-i.number * 256 + c.digit_to.result < limit n) e here;
    }

pub returns-then-name-value : goal.returns-then-name-value
returns-then-name-value c =
    spelled_past 8 c.args.from c.args.last c.args.name.now c.args.value.now (omega arith)
