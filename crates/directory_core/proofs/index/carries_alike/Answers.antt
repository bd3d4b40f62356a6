use Rattle.std.proofs.Common.{sym, ◌∙◌}
use Rattle.directory_core.proofs.IndexLaws.{pairs_decided}
use Rattle.directory_core.proofs.index.carries_alike.Goals as goal

pub returns : goal.returns
returns c =
    let decided = pairs_decided c.pairs.result c.pairs-2.result c.eq.result c.eq.ensures in (
      λ same. sym c.pairs.ensures
          ∙ (decided.0 same ∙ c.pairs-2.ensures),
      λ same. decided.1
          (c.pairs.ensures ∙ (same ∙ sym c.pairs-2.ensures)),
    )
