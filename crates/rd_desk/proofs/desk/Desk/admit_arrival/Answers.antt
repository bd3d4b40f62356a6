use Rattle.std.proofs.Common.{sym, subst, ap}
use Rattle.journal_model.specs.Rows.{row}
use Rattle.rd_desk.specs.calls.Admitting.{is_starved_admission}
use Rattle.journal_model.proofs.entries.RowLaws.{row-single}
use Rattle.rd_desk.specs.calls.Desks.{Seen}
use Rattle.rd_desk.specs.calls.Shown.{AreToldOf}
use Rattle.rd_desk.specs.calls.Staging.{LeavesStaged}
use Rattle.rd_desk.specs.calls.Steps.{IsCalled}
use Rattle.rd_desk.proofs.changes.StagingLaws.{made_staged}
use Rattle.rd_desk.proofs.desk.Desk.admit_arrival.Goals as goal

pub admit-requires-clause-told : goal.admit-requires-clause-told
admit-requires-clause-told g c =
    subst (λ x. AreToldOf x.tables.version (g.B.Board.told x.board)) (sym c.self.view_is)
    c.requires.told

pub returns-clause-made : goal.returns-clause-made
returns-clause-made g c rows s kind of datagram worded called =
    c.admit.ensures.made rows s kind of datagram worded
    (subst (λ (d : Seen). IsCalled rows s c.args.arrival.moment c.args.mids.now d)
    (sym (ap (λ x. x.tables) c.self.view_is)) called)

pub returns-clause-held : goal.returns-clause-held
returns-clause-held g c rows s kind of datagram called =
    c.admit.ensures.held rows s kind of datagram
    (subst (λ (d : Seen). IsCalled rows s c.args.arrival.moment c.args.mids.now d)
    (sym (ap (λ x. x.tables) c.self.view_is)) called)

pub returns-clause-unstarved : goal.returns-clause-unstarved
returns-clause-unstarved g c rows s of datagram called silent =
    c.admit.ensures.unstarved rows s of datagram
    (subst (λ (d : Seen). IsCalled rows s c.args.arrival.moment c.args.mids.now d)
    (sym (ap (λ x. x.tables) c.self.view_is)) called) silent

pub returns-clause-staged : goal.returns-clause-staged
returns-clause-staged g c rows s kind of datagram worded called =
    let here =
    subst (λ (d : Seen). IsCalled rows s c.args.arrival.moment c.args.mids.now d)
    (sym (ap (λ x. x.tables) c.self.view_is)) called in
    let made = c.admit.ensures.made rows s kind of datagram worded here in
    subst (λ x. LeavesStaged
    (row rows s (is_starved_admission c.admit.result)).notes c.admit.new.self.version
    (g.B.Board.staged x.board) (g.B.Board.staged c.admit.new.board)
    (g.B.Board.has_staged c.admit.new.board)) c.self.view_is
    (made_staged rows (row rows s (is_starved_admission c.admit.result)) _ c.admit.new.self _ _ _
    (row-single rows s (is_starved_admission c.admit.result)) here.stands made.stands
    c.admit.ensures.laid)
