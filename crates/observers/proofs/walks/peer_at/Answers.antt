use Rattle.std.proofs.Common.{ap, ◌∙◌}
use Rattle.observers.proofs.WalkLaws.{got-any}
use Rattle.observers.proofs.walks.peer_at.Goals as goal

pub returns : goal.returns
returns c w there =
    c.peer.ensures
    ∙ ap (λ x. x.peer) (got-any c.args.observers.now c.args.index w _ c.index-observers-index.result
    c.index-observers-index.is there)
