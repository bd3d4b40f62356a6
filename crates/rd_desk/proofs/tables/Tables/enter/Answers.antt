use Rattle.std.proofs.Common.{◌≤◌, sym, ap, subst, ◌∙◌, arith}
use Rattle.std.specs.Arc.{arc_value}
use Rattle.history_model.specs.Versions.{Version, VersionStandsFor}
use Rattle.journal_model.specs.Journal.{entries}
use Rattle.rd_desk.specs.parts.Outcomes.{HasEntry}
use Rattle.rd_desk.proofs.changes.EntryLaws.{way_entered}
use Rattle.rd_desk.proofs.tables.Tables.enter.Goals as goal

pub returns-clause-way : goal.returns-clause-way
returns-clause-way c rows s starved done entry out mids none at is way =
    let same = ap arc_value (sym c.replace-before.ensures.after) in
    way_entered rows s starved done entry _ c.args.self.now (arc_value c.replace-before.new.dest)
    c.args.entering.number c.args.entering.kind c.enter.new.self _ _ out mids c.self.view_is
    none at
    (subst (λ (v : Version). v.at ≤ c.args.self.now.moment) same
    (let made = c.requires.0 in omega (arith, made)))
    (subst (λ (v : Version). v.swept ≤ c.args.self.now.moment) same c.requires.1)
    (subst (λ (v : Version).
    HasEntry (entries rows) c.args.self.now.version.swept entry v c.args.entering.number
    c.args.entering.kind) same is)
    (λ history stands. c.record_of.ensures 0 history (subst (VersionStandsFor 0 history)
    (sym (c.deref.ensures ∙ ap arc_value c.replace-before.ensures.value)) stands))
    (λ history stands. c.record_of-2.ensures 0 history
    (subst (VersionStandsFor 0 history) (sym c.deref-2.ensures) stands))
    (λ journal desk kind into h.
    c.enter.ensures rows s starved done entry journal desk none kind into h) way
