use Rattle.std.proofs.Common.{◌+◌, ◌-◌, ◌≤◌, Bool, List, length}
use Rattle.event_model.specs.Fetches.{fetches}
use Rattle.journal_model.specs.declared.steps.Step.{Step}
use Rattle.journal_model.specs.declared.rows.Row.{Row}
use Rattle.journal_model.specs.Effects.{Effects}
use Rattle.journal_model.specs.Journal.{events}
use Rattle.coap_answers.specs.declared.mids.Mids.{Mids}
use Rattle.coap_answers.specs.Outboxes.{most_datagrams}
use Rattle.rd_desk.specs.parts.Resending.{LeavesFetches, Resending}
use Rattle.rd_desk.specs.parts.UnderWay.{UnderWay}
use Rattle.rd_desk.proofs.tables.Tables.requests_again.Given as goal

-- the requests of the fetches before the index are done with, and no more are left than steps
abbrev pub invariant-fetches : goal.invariant-fetches
invariant-fetches l =
    (rows : List Row) (s : Step) (starved : Bool) (done : Effects) (mids : Mids)
    → LeavesFetches rows s starved done
    → length done.sent + length (fetches (events rows)) ≤ most_datagrams
    → UnderWay rows s starved done l.initial.self l.initial.out mids
    → Resending rows s starved done l.self l.out mids l.index (l.count - l.step)
