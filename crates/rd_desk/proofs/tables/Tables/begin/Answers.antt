use Rattle.std.proofs.Common.{[], true, false, Option, Some, refl, sym, ap, subst, ◌∙◌}
use Rattle.std.specs.Prelude.{IfSome}
use Rattle.std.specs.Arc.{arc_value}
use Rattle.history_model.specs.Versions.{VersionStandsFor}
use Rattle.directory_core.specs.Boards.{HasOneMore}
use Rattle.journal_model.specs.Beginnings.{begin_entry}
use Rattle.journal_model.specs.Effects.{nothing}
use Rattle.journal_model.specs.Journal.{entries}
use Rattle.journal_model.specs.Rows.{row_moment}
use Rattle.rd_desk.specs.declared.write.outcomes.Entering.{Entering}
use Rattle.rd_desk.specs.calls.Desks.{Seen}
use Rattle.rd_desk.specs.parts.Beginnings.{IsBegun}
use Rattle.rd_desk.proofs.changes.StagingLaws.{laid_planned}
use Rattle.rd_desk.proofs.parts.BeginLaws.{starved_made, ready_here, refused_made, begun_made}
use Rattle.rd_desk.proofs.tables.Tables.begin.Goals as goal

pub returns-in_default-clause-made : goal.returns-in_default-clause-made
returns-in_default-clause-made g c rows s kind call =
    starved_made rows s c.args.first c.args.now c.args.self.now c.pass.new.self c.args.mids.now kind
    call (c.pass.ensures.way rows s true [] c.args.mids.now refl call)

pub returns-in_default-ready-clause-made : goal.returns-in_default-ready-clause-made
returns-in_default-ready-clause-made g c rows s kind call =
    let way = c.pass.ensures.way rows s false [] c.args.mids.now refl call in
    refused_made rows s c.args.first c.pass.new.self.version.swept c.args.now c.args.self.now
    c.pass.new.self c.args.mids.now c.in-Ok.ready kind call c.in_default-ready.is
    (ready_here rows s false c.args.first c.pass.new.self c.deref.result.now c.self.inside.moment.0
    c.args.mids.now c.in-Ok.ready (c.deref.ensures ∙ ap (λ (d : Seen). d.version) c.self.view_is)
    (ap (λ (d : Seen). d.moment) c.self.view_is)
    (λ history stands. c.in-Ok.ensures.begun history s stands) way) way

pub returns-in_default-lay-clause-made : goal.returns-in_default-lay-clause-made
returns-in_default-lay-clause-made g c rows s kind call =
    starved_made rows s c.args.first c.args.now c.args.self.now c.pass.new.self c.args.mids.now kind
    call (c.pass.ensures.way rows s true [] c.args.mids.now refl call)

pub returns-clause-made : goal.returns-clause-made
returns-clause-made g c rows s kind call =
    let way = c.pass.ensures.way rows s false [] c.args.mids.now refl call in
    let entry = begin_entry (row_moment rows s) s c.args.first in
    let has =
    subst (λ (ready : Option Entering).
    IsBegun (entries rows) c.pass.new.self.version.swept entry ready) c.in-Some.is
    (ready_here rows s false c.args.first c.pass.new.self c.deref.result.now c.self.inside.moment.0
    c.args.mids.now c.in-Ok.ready (c.deref.ensures ∙ ap (λ (d : Seen). d.version) c.self.view_is)
    (ap (λ (d : Seen). d.moment) c.self.view_is)
    (λ history stands. c.in-Ok.ensures.begun history s stands) way) in
    begun_made rows s c.args.first c.pass.new.self.version.swept c.args.now c.args.self.now
    c.enter.new.self c.args.mids.now c.in-Some.entering kind call has
    (c.enter.ensures.way rows s false nothing entry [] c.args.mids.now refl refl has way)

pub returns-clause-laid : goal.returns-clause-laid
returns-clause-laid g c =
    laid_planned c.args.self.now.version c.enter.new.self.version (Some c.in-Some.entering) _ _ _
    c.in-Ok-lay.ensures.laid c.enter.ensures.version
    (λ history stands. subst (λ (ready : Option Entering).
    IfSome ready (λ e. HasOneMore history (arc_value e.version))) c.in-Some.is
    (c.in-Ok.ensures.next history (subst (VersionStandsFor 0 history)
    (sym (c.deref.ensures ∙ ap (λ (d : Seen). d.version) c.self.view_is ∙ c.pass.ensures.version))
    stands))) (λ none. absurd cc)
