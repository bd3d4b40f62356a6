use Rattle.std.proofs.Common.{◌≡◌, List, [], sym, ap, subst, ◌∙◌}
use Rattle.event_model.specs.declared.notes.Note.{Note}
use Rattle.journal_model.specs.Effects.{Effects, joined, noting}
use Rattle.journal_model.specs.Journal.{entries}
use Rattle.rd_desk.specs.parts.Outcomes.{IsEntering, AreNotes}
use Rattle.rd_desk.specs.parts.UnderWay.{UnderWay}
use Rattle.rd_desk.proofs.parts.EffectLaws.{joined-nothing}
use Rattle.rd_desk.proofs.tables.Tables.register_fetched.Goals as goal

pub returns-in-Some-clause-way : goal.returns-in-Some-clause-way
returns-in-Some-clause-way c rows s starved done meant out mids none timed planned way =
    let it =
    subst (AreNotes (entries rows) c.args.self.now.version.swept [] meant.notes) c.in-Some.is
    planned.notes in
    subst (λ (ns : List Note).
    UnderWay rows s starved (joined done (noting ns)) c.enter.new.self out mids) (sym it.1)
    (c.enter.ensures.way rows s starved done it.0 out mids none (timed it.0 it.1)
    (subst (IsEntering (entries rows) c.args.self.now.version.swept it.0)
    (sym c.in-Some.entering-is) it.2) way)

pub returns-in_default-clause-way : goal.returns-in_default-clause-way
returns-in_default-clause-way c rows s starved done meant out mids none timed planned way =
    let nothing_noted : meant.notes ≡ [] =
    subst (AreNotes (entries rows) c.args.self.now.version.swept [] meant.notes) c.in_default.is
    planned.notes in
    subst (λ (e : Effects). UnderWay rows s starved e c.args.self.now out mids)
    (sym (ap (λ (ns : List Note). joined done (noting ns)) nothing_noted ∙ joined-nothing done))
    way
