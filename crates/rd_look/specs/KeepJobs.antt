-- What the job to keep a body shows.
use Rattle.std.specs.Prelude.{ℕ, List}
use Rattle.rd_base.specs.declared.peers.Peer.{Peer}
use Rattle.event_model.specs.KeptAnswers.{Answer}

-- A body to be kept under its tag, with the peer that requested it, and the datagram of the
-- request.
pub record Keep : Type 0 where
  pub peer : Peer
  pub datagram : List ℕ
  pub answer : Answer
