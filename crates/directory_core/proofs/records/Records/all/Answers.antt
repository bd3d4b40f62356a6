use Rattle.std.proofs.Common.{ap, ◌∙◌}
use Rattle.std.specs.Map.{values_of}
use Rattle.directory_core.proofs.records.Records.all.Goals as goal

pub returns : goal.returns
returns c = ap values_of c.all.ensures.pairs ∙ c.self.view_is
