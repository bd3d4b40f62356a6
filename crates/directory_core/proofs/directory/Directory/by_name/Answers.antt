use Rattle.std.proofs.Common.{Option, Some, option_map, ap, ◌∙◌}
use Rattle.rd_base.specs.declared.records.Record.{Record}
use Rattle.directory_core.proofs.ReadLaws.{named_in_live}
use Rattle.directory_core.proofs.directory.Directory.by_name.Goals as goal

pub returns-in-Some : goal.returns-in-Some
returns-in-Some c first history stands =
    ap (λ (r : Record). Some r.number) c.as_record.ensures
    ∙ ap (λ (o : Option Record). option_map (λ (r : Record). r.number) o) c.in-Some.ensures.value
    ∙ named_in_live first history c.args.self.now c.args.name.now c.args.now.0 stands
    c.requires.after_sweep

pub returns-in-None : goal.returns-in-None
returns-in-None c first history stands =
    ap (λ (o : Option Record). option_map (λ (r : Record). r.number) o) c.in-None.ensures.value
    ∙ named_in_live first history c.args.self.now c.args.name.now c.args.now.0 stands
    c.requires.after_sweep
