use Rattle.std.proofs.Common.{ap, sym, ◌∙◌}
use Rattle.message_model.specs.Reading.{reading}
use Rattle.rd_request.specs.Accepted.{message_of}
use Rattle.rd_desk.specs.calls.WriteJobs.{Write}
use Rattle.rd_request.proofs.KeptRequestLaws.{read_kept, writes_kept}
use Rattle.rd_desk.proofs.write.write_jobs.WriteJob.request.Goals as goal

pub returns-clause-read : goal.returns-clause-read
returns-clause-read c =
    ap (λ (j : Write). reading j.datagram) (sym c.self.view_is)
    ∙ read_kept c.self.inside.request (message_of c.request.result) c.request.ensures
    c.self.invariant.0

pub returns-clause-writes : goal.returns-clause-writes
returns-clause-writes c =
    writes_kept c.self.inside.request (message_of c.request.result) c.request.ensures
    c.self.invariant.0 c.self.invariant.1
