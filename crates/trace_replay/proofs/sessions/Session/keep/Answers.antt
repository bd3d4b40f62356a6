use Rattle.std.proofs.Common.{arith, sym, refl}
use Rattle.trace_replay.proofs.Journeys.{kept, too_long_at, unkept}
use Rattle.trace_replay.proofs.sessions.Session.keep.Goals as goal

pub returns-then-len-rest-gt-MAX_LINE-clause-fed :
    goal.returns-then-len-rest-gt-MAX_LINE-clause-fed
returns-then-len-rest-gt-MAX_LINE-clause-fed c workers point held at =
    too_long_at workers point c.args.rest.now held c.args.self.now c.args.self.now at
    (sym c.requires) (omega (arith, c.len.ensures.value))

pub returns-in_default-clause-fed : goal.returns-in_default-clause-fed
returns-in_default-clause-fed c workers point held at =
    unkept workers point c.args.rest.now held c.args.self.now

pub returns-clause-fed : goal.returns-clause-fed
returns-clause-fed c workers point held at =
    kept workers point c.args.rest.now c.args.self.now _ held at (sym c.requires) refl refl
    c.in-Ok.ensures.ok
