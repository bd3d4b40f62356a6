use Rattle.std.proofs.Common.{sym, subst, ap}
use Rattle.journal_model.specs.Rows.{row}
use Rattle.journal_model.proofs.entries.RowLaws.{row-single}
use Rattle.rd_desk.specs.calls.Desks.{Seen}
use Rattle.rd_desk.specs.calls.Shown.{AreToldOf}
use Rattle.rd_desk.specs.calls.Stepping.{is_starved_step}
use Rattle.rd_desk.specs.calls.Staging.{LeavesStaged}
use Rattle.rd_desk.specs.calls.Steps.{IsCalled}
use Rattle.rd_desk.proofs.changes.StagingLaws.{made_staged}
use Rattle.rd_desk.proofs.desk.Desk.commit.Goals as goal

pub commit-requires-clause-told : goal.commit-requires-clause-told
commit-requires-clause-told g c =
    subst (λ x. AreToldOf x.tables.version (g.B.Board.told x.board)) (sym c.self.view_is)
    c.requires.told

pub returns-clause-made : goal.returns-clause-made
returns-clause-made g c rows s place m kind of datagram word read opened called =
    c.commit.ensures.made rows s place m kind of datagram word read opened
    (subst (λ (d : Seen). IsCalled rows s c.args.now c.args.mids.now d)
    (sym (ap (λ x. x.tables) c.self.view_is)) called)

pub returns-clause-staged : goal.returns-clause-staged
returns-clause-staged g c rows s place m kind of datagram word read opened called =
    let here =
    subst (λ (d : Seen). IsCalled rows s c.args.now c.args.mids.now d)
    (sym (ap (λ x. x.tables) c.self.view_is)) called in
    let made = c.commit.ensures.made rows s place m kind of datagram word read opened here in
    subst (λ x. LeavesStaged
    (row rows s (is_starved_step c.commit.result)).notes c.commit.new.self.version
    (g.B.Board.staged x.board) (g.B.Board.staged c.commit.new.board)
    (g.B.Board.has_staged c.commit.new.board)) c.self.view_is
    (made_staged rows (row rows s (is_starved_step c.commit.result)) _ c.commit.new.self _ _ _
    (row-single rows s (is_starved_step c.commit.result)) here.stands made.stands
    c.commit.ensures.laid)
