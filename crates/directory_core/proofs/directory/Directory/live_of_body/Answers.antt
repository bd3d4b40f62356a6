use Rattle.std.proofs.Common.{sym, subst}
use Rattle.rd_base.specs.declared.records.Record.{Record}
use Rattle.registration.specs.Submissions.{IsOfBody}
use Rattle.directory_core.proofs.directory.Directory.live_of_body.Goals as goal

pub returns-in-Some : goal.returns-in-Some
returns-in-Some c =
    subst (λ (r : Record). IsOfBody r) (sym c.as_record.ensures)
    (record {
      against = c.in-Some.ensures.sound.against;
      links = c.in-Some.ensures.sound.of_body;
    })
