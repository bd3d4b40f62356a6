use Rattle.std.proofs.Common.{Bool, List, length, drop}
use Rattle.journal_model.specs.declared.steps.Step.{Step}
use Rattle.journal_model.specs.declared.rows.Row.{Row}
use Rattle.journal_model.specs.Effects.{nothing}
use Rattle.coap_answers.specs.declared.mids.Mids.{Mids}
use Rattle.rd_desk.specs.parts.UnderWay.{UnderWay}
use Rattle.rd_desk.proofs.ticking.AgainWalk.{AgainUpTo}
use Rattle.rd_desk.proofs.tables.Tables.notifications_again.Given as goal

-- the notifications of the observers before the index are done with
abbrev pub invariant-observers : goal.invariant-observers
invariant-observers l =
    (rows : List Row) (s : Step) (starved : Bool) (mids : Mids)
    → UnderWay rows s starved nothing l.initial.self l.initial.out mids
    → AgainUpTo rows s starved l.self l.out mids l.index

abbrev pub decreases-observers : goal.decreases-observers
decreases-observers l = length (drop l.index l.self.watching.observers)
