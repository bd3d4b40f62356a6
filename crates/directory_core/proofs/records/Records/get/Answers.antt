use Rattle.std.proofs.Common.{ap, ◌∙◌}
use Rattle.history_model.specs.Replay.{numbered}
use Rattle.directory_core.proofs.RecordMapLaws.{numbered-lookup}
use Rattle.directory_core.proofs.records.Records.get.Goals as goal

pub returns : goal.returns
returns c =
    c.get.ensures
    ∙ numbered-lookup c.args.number c.self.inside.pairs c.self.invariant.0
    ∙ ap (numbered c.args.number) c.self.view_is
