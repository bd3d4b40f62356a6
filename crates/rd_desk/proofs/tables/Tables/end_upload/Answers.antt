use Rattle.rd_desk.proofs.changes.UploadLaws.{way_finished}
use Rattle.rd_desk.proofs.tables.Tables.end_upload.Goals as goal

pub returns-clause-way : goal.returns-clause-way
returns-clause-way c =
    λ rows s starved done out mids by way.
    way_finished rows s starved done _ c.args.self.now c.end_upload.new.self out mids c.args.peer
    c.args.key.now c.self.view_is by
    (λ at past e says h. c.end_upload.ensures.stands at past e says h) way
