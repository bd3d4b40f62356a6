use Rattle.std.proofs.Common.{Some, ap, ◌∙◌}
use Rattle.rd_base.specs.declared.records.Record.{Record}
use Rattle.history_model.proofs.VersionParts.{numbered-VersionStandsFor}
use Rattle.directory_core.proofs.directory.Directory.record_of.Goals as goal

pub returns-in-Some : goal.returns-in-Some
returns-in-Some c first history stands =
    ap (λ (r : Record). Some r) c.as_record.ensures
    ∙ c.in-Some.ensures.value
    ∙ numbered-VersionStandsFor first history c.args.self.now c.args.number c.args.now.0 stands
    c.requires.after_sweep

pub returns-in-None : goal.returns-in-None
returns-in-None c first history stands =
    c.in-None.ensures.value
    ∙ numbered-VersionStandsFor first history c.args.self.now c.args.number c.args.now.0 stands
    c.requires.after_sweep
