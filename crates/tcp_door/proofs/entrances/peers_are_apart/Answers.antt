use Rattle.std.proofs.Common.{ap, arith, sym, ◌∙◌}
use Rattle.tcp_door.specs.Peers.{number_of}
use Rattle.tcp_door.proofs.entrances.peers_are_apart.Goals as goal

pub returns : goal.returns
returns c a b n m p q few less first second same =
    let numbers = sym first.numbered ∙ ap number_of same ∙ second.numbered in
    (omega (arith, few, less, numbers), omega (arith, few, less, numbers))
