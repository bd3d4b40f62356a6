use Rattle.std.proofs.Common.{◌∙◌, ap, ok_or}
use Rattle.rd_base.specs.Peers.{peer_of}
use Rattle.rd_base.proofs.PeerNames.{read_printed}
use Rattle.rd_base.proofs.peer_spelling.peer_read.Goals as goal

pub returns-clause-printed : goal.returns-clause-printed
returns-clause-printed c =
    read_printed _ _ _ (c.peer_read_ascii.ensures.value
    ∙ ap (λ t. ok_or (peer_of t) (record {})) c.as_bytes.ensures.value)
