use Rattle.std.proofs.Common.{refl}
use Rattle.registrant.proofs.AskLaws.{opened_long, finished_long, finished_short}
use Rattle.registrant.proofs.asks.is_short.Goals as goal

pub returns-in-Ok-finish : goal.returns-in-Ok-finish
returns-in-Ok-finish c =
    finished_short
    c.args.ask.now
    0
    _
    c.in-Ok.message
    c.as_slice.result.now
    c.in-Ok-finish.field-0.now
    refl
    c.in-Ok.ensures.ok
    c.as_slice.ensures.value
    c.in-Ok-finish.ensures.spelled
    c.in-Ok-finish.ensures.short

pub returns-in-Err-finish : goal.returns-in-Err-finish
returns-in-Err-finish c =
    finished_long
    c.args.ask.now
    0
    _
    c.in-Ok.message
    c.as_slice.result.now
    refl
    c.in-Ok.ensures.ok
    c.as_slice.ensures.value
    c.in-Err-finish.ensures.too_long

pub returns-in-Err : goal.returns-in-Err
returns-in-Err c = opened_long c.args.ask.now 0 _ refl c.in-Err.ensures.too_long
