-- What a door opens.
use Rattle.std.specs.Prelude.{◌≡◌, ℕ, ◌+◌, ◌≤◌, Option, Some, None}
use Rattle.rd_base.specs.declared.peers.Peer.{Peer}
use Rattle.rd_base.specs.Outside.{Rose}
use Rattle.tcp_door.specs.Peers.{IsNoDevice, number_of}

-- The number of connections that a door opened, and the number of openings that failed.
pub record Counts : Type 0 where
  pub opened : ℕ
  pub faults : ℕ

-- A connection that was opened under the number of those before it, with a peer that no device has.
pub record IsOpened (old new : Counts) (peer : Peer) : Type 0 where
  pub counted : new.opened ≡ old.opened + 1
  pub number : number_of peer ≡ old.opened
  pub strange : IsNoDevice peer
  pub faults : new.faults ≡ old.faults

-- No connection was opened, which happens only if the count of faults rose.
pub record IsFailed (old new : Counts) : Type 0 where
  pub opened : new.opened ≡ old.opened
  pub kept : old.faults ≤ new.faults
  pub rose : Rose old.faults new.faults

-- States that a door opened a connection with this peer, or none.
abbrev pub Opens : Counts → Counts → Option Peer → Type 0
Opens old new (Some peer) = IsOpened old new peer
Opens old new None = IsFailed old new
