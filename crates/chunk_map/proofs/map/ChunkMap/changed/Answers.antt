use Rattle.std.proofs.Common.{length}
use Rattle.chunk_map.specs.Levels.{pairs_in}
use Rattle.chunk_map.proofs.ChangeLaws.{ascends_changed, counted_alike}
use Rattle.chunk_map.proofs.map.ChunkMap.changed.Goals as goal

pub returns-clause-ascends : goal.returns-clause-ascends
returns-clause-ascends g c =
    ascends_changed g.met.K.Ord.total (g.C.Change.gives c.args.change)
    (pairs_in c.self.inside.levels) c.args.key.now (pairs_in c.in_ok-levels.levels)
    c.self.invariant.1 c.in_ok-levels.ensures.pairs

pub invariant_of-result : goal.invariant_of-result
invariant_of-result g c = (
  c.in_ok-levels.ensures.whole,
  ascends_changed g.met.K.Ord.total (g.C.Change.gives c.args.change) (pairs_in c.self.inside.levels)
      c.args.key.now (pairs_in c.in_ok-levels.levels) c.self.invariant.1
      c.in_ok-levels.ensures.pairs,
  counted_alike c.in_ok-levels.tally (length (pairs_in c.self.inside.levels)) c.self.inside.count
      (length (pairs_in c.in_ok-levels.levels)) c.in_ok-count.count c.self.invariant.2
      c.in_ok-levels.ensures.counted c.in_ok-count.ensures,
)
