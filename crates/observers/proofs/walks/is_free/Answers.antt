use Rattle.observers.proofs.AwaitedLaws.{free-ready}
use Rattle.observers.proofs.walks.is_free.Goals as goal

pub returns : goal.returns
returns c ws tells =
    free-ready ws c.args.awaited.now c.args.observer.now c.peer.result.now c.is_among.result tells
    c.if-not-is_due.ensures c.peer.ensures c.is_among.ensures
