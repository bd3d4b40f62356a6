use Rattle.std.proofs.Common.{◌≡◌, ℕ, ◌-◌, Bool, List, length}
use Rattle.rd_base.specs.declared.peers.Peer.{Peer}
use Rattle.history_model.specs.Listing.{tag}
use Rattle.journal_model.specs.declared.steps.Step.{Step}
use Rattle.journal_model.specs.declared.rows.Row.{Row}
use Rattle.journal_model.specs.Effects.{Effects}
use Rattle.journal_model.specs.Journal.{entries}
use Rattle.journal_model.specs.Rows.{row_moment}
use Rattle.rd_desk.specs.calls.Desks.{StandsFor}
use Rattle.rd_desk.specs.parts.Planning.{PlannedUpTo}
use Rattle.rd_desk.specs.parts.UnderWay.{UnderWay}
use Rattle.rd_desk.proofs.tables.Tables.plan_all.Given as goal

-- the plan is made up to the index, and nothing changed but bodies that are kept
abbrev pub invariant-due : goal.invariant-due
invariant-due l =
    ((rows : List Row) (s : Step) (starved : Bool) (whole first : Effects)
    (out : List (Peer × List ℕ))
    → s.word ≡ l.word
    → UnderWay rows s starved first l.initial.self out l.mids
    → l.tag.0 ≡ tag (entries rows) (row_moment rows s)
    → PlannedUpTo rows s starved l.tag.0 whole first l.initial.self.watching.observers
    l.initial.self.observed l.initial.plan 0
    → PlannedUpTo rows s starved l.tag.0 whole first l.initial.self.watching.observers
    l.initial.self.observed l.plan l.from)
    × ((rows : List Row) → StandsFor rows l.initial.self → StandsFor rows l.self)
    × (l.self ≡ record l.initial.self { watching = l.self.watching })
    × (l.self.watching.observers ≡ l.initial.self.watching.observers)

abbrev pub decreases-due : goal.decreases-due
decreases-due l = length l.self.watching.observers - l.from
