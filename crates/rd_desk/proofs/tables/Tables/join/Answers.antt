use Rattle.std.proofs.Common.{ℕ, Option, Some, true, false, Bool, refl, ap, subst, ◌∙◌}
use Rattle.std.specs.Arc.{arc_value}
use Rattle.event_model.specs.Observers.{observers}
use Rattle.journal_model.specs.Effects.{nothing, joined, noting}
use Rattle.journal_model.specs.Journal.{events}
use Rattle.journal_model.specs.UnfinishedRow.{making}
use Rattle.observation.specs.Joining.{observer_joining, joining_notes}
use Rattle.observation.specs.Watching.{WatchingStandsFor}
use Rattle.rd_desk.proofs.parts.LookupLaws.{left_more, added_more, given_room, value-is}
use Rattle.rd_desk.proofs.tables.Tables.join.Goals as goal

pub returns-then-not-added-clause-value : goal.returns-then-not-added-clause-value
returns-then-not-added-clause-value c rows s starved out mids way =
    given_room rows s starved _ c.args.self.now out mids c.args.query.now
    (c.args.joining.peer, c.args.joining.token) c.in_ok-added.added false c.self.view_is
    c.in_ok-added.ensures.room c.if-not-added.true way

pub returns-then-not-added-clause-way : goal.returns-then-not-added-clause-way
returns-then-not-added-clause-way c rows s starved out mids way =
    left_more rows s starved _ c.args.self.now c.join.new.self out mids
    (c.args.joining.peer, c.args.joining.token) c.self.view_is
    (λ h. subst (λ (b : Bool).
    WatchingStandsFor (making rows s starved (joined nothing
    (noting (joining_notes b (observer_joining c.args.query.now c.args.joining)
    (arc_value c.args.joining.body)
    (observers (events (making rows s starved nothing)))))))
    c.join.new.self)
    c.if-not-added.true (c.in_ok-added.ensures.stands rows s starved nothing h)) way

pub returns-clause-value : goal.returns-clause-value
returns-clause-value c rows s starved out mids way =
    ap (λ (n : ℕ). let o : Option ℕ = Some n in o)
    (value-is rows s starved _ c.args.self.now _ _ out mids c.self.view_is refl refl way)
    ∙ given_room rows s starved _ c.args.self.now out mids c.args.query.now
    (c.args.joining.peer, c.args.joining.token) c.in_ok-added.added true c.self.view_is
    c.in_ok-added.ensures.room c.if-not-added.false way

pub returns-clause-way : goal.returns-clause-way
returns-clause-way c rows s starved out mids way =
    added_more rows s starved _ c.args.self.now c.join.new.self _ out mids
    (observer_joining c.args.query.now c.args.joining) (arc_value c.args.joining.body)
    c.self.view_is refl
    (λ h. subst (λ (b : Bool).
    WatchingStandsFor (making rows s starved (joined nothing
    (noting (joining_notes b (observer_joining c.args.query.now c.args.joining)
    (arc_value c.args.joining.body)
    (observers (events (making rows s starved nothing)))))))
    c.join.new.self)
    c.if-not-added.false (c.in_ok-added.ensures.stands rows s starved nothing h)) way
