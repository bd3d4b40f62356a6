-- What the job of an admitted write shows.
use Rattle.std.specs.Prelude.{ℕ, List}
use Rattle.rd_base.specs.declared.peers.Peer.{Peer}

-- A write to be done: its sender, its datagram, and the moment of its admission.
pub record Write : Type 0 where
  pub peer : Peer
  pub datagram : List ℕ
  pub admitted : ℕ
