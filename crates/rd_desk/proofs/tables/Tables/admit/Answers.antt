use Rattle.std.proofs.Common.{false, ap, subst, sym}
use Rattle.message_model.specs.Reading.{reading}
use Rattle.rd_desk.specs.calls.Admitting.{is_starved_admission}
use Rattle.rd_desk.proofs.parts.HearingLaws.{admission_made, admission_notes}
use Rattle.history_model.specs.Versions.{Version}
use Rattle.rd_desk.specs.calls.Shown.{AreToldOf}
use Rattle.rd_desk.proofs.changes.StagingLaws.{laid_from}
use Rattle.rd_desk.proofs.tables.Tables.admit.Goals as goal

pub returns-clause-made : goal.returns-clause-made
returns-clause-made g c rows s kind of datagram worded call =
    admission_made rows s (is_starved_admission c.hear.result) c.args.arrival.moment
    (reading c.args.arrival.datagram.now) c.args.self.now c.hear.new.self c.hear.new.out
    c.args.mids.now
    c.hear.new.mids kind (ap reading datagram) call
    (c.hear.ensures.way rows s of worded
    (c.pass.ensures.way rows s (is_starved_admission c.hear.result) c.args.out.now
    c.args.mids.now c.requires.empty call))

pub returns-clause-held : goal.returns-clause-held
returns-clause-held g c rows s kind of datagram call =
    admission_notes rows s (is_starved_admission c.hear.result) c.hear.result
    (reading c.args.arrival.datagram.now) kind (ap reading datagram)
    (c.hear.ensures.held rows s of datagram
    (c.pass.ensures.way rows s (is_starved_admission c.hear.result) c.args.out.now
    c.args.mids.now c.requires.empty call))

pub returns-clause-unstarved : goal.returns-clause-unstarved
returns-clause-unstarved g c rows s of datagram call silent =
    c.hear.ensures.unstarved rows s of
    (c.pass.ensures.way rows s false c.args.out.now c.args.mids.now c.requires.empty call)
    silent

-- what is laid: time that passes leaves the version

pub hear-requires-clause-told : goal.hear-requires-clause-told
hear-requires-clause-told g c =
    subst (λ (v : Version). AreToldOf v (g.B.Board.told c.args.board.now))
    (sym c.pass.ensures.version) c.requires.told

pub returns-clause-laid : goal.returns-clause-laid
returns-clause-laid g c =
    laid_from c.args.self.now.version _ _ _ _ _ c.pass.ensures.version c.hear.ensures.laid
