use Rattle.std.proofs.Common.{sym, ap, ◌∙◌, subst}
use Rattle.std.specs.Ordering.{nat_cmp}
use Rattle.std.specs.Map.{lookup}
use Rattle.std.specs.BTreeMap.{is_at}
use Rattle.chunk_map.specs.Sorted.{IsAscending}
use Rattle.history_model.specs.Replay.{numbered}
use Rattle.directory_core.proofs.RecordMapLaws.{numbered-lookup}
use Rattle.directory_core.proofs.records.Records.seeker.Goals as goal

pub returns-clause-found : goal.returns-clause-found
returns-clause-found c n =
    ap (λ es. lookup (is_at (nat_cmp n)) es) c.all.ensures.pairs
    ∙ numbered-lookup n c.self.inside.pairs c.self.invariant.0
    ∙ ap (numbered n) c.self.view_is

pub returns-clause-ascends : goal.returns-clause-ascends
returns-clause-ascends c =
    subst (λ es. IsAscending nat_cmp es) (sym c.all.ensures.pairs) c.all.ensures.ascends
