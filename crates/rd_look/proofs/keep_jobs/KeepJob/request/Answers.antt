use Rattle.std.proofs.Common.{ap, sym, ◌∙◌}
use Rattle.message_model.specs.Reading.{reading}
use Rattle.rd_request.specs.Accepted.{message_of}
use Rattle.rd_look.specs.KeepJobs.{Keep}
use Rattle.rd_request.proofs.KeptRequestLaws.{read_kept}
use Rattle.rd_look.proofs.keep_jobs.KeepJob.request.Goals as goal

pub returns : goal.returns
returns c =
    ap (λ (j : Keep). reading j.datagram) (sym c.self.view_is)
    ∙ read_kept c.self.inside.request (message_of c.request.result) c.request.ensures
    c.self.invariant.0
