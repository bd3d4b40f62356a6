use Rattle.registrant.proofs.AskLaws.{never_long, finished_never_long}
use Rattle.registrant.proofs.asks.spelled.Goals as goal

pub unreachable-requires : goal.unreachable-requires
unreachable-requires c =
    never_long
    c.args.ask.now
    c.args.mid
    c.args.token.now
    c.told-token
    c.requires
    c.in_default.ensures.too_long

pub unreachable-requires-in-Err : goal.unreachable-requires-in-Err
unreachable-requires-in-Err c =
    finished_never_long
    c.args.ask.now
    c.args.mid
    c.args.token.now
    c.in-Ok.message
    c.as_slice.result.now
    c.told-token
    c.requires
    c.in-Ok.ensures.ok
    c.as_slice.ensures.value
    c.in-Err.ensures.too_long
