use Rattle.rd_desk.specs.calls.Stepping.{is_starved_step}
use Rattle.rd_desk.proofs.changes.CommitLaws.{commit_made}
use Rattle.rd_desk.proofs.tables.Tables.commit.Goals as goal

pub returns-clause-made : goal.returns-clause-made
returns-clause-made g c =
    λ rows s place m kind by datagram word read opened call.
    commit_made rows s (is_starved_step c.commit_write.result) place c.args.now c.args.job
    c.args.self.now c.commit_write.new.self c.commit_write.new.out c.args.mids.now
    c.commit_write.new.mids kind datagram call
    (c.commit_write.ensures.way rows s place m by word read opened
    (c.pass.ensures.way rows s (is_starved_step c.commit_write.result) c.args.out.now
    c.args.mids.now c.requires.empty call))
