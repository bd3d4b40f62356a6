-- Doors at which several workers take connections, each in a lane of its own.
use Rattle.std.specs.Prelude.{◌≡◌, ℕ, ◌+◌, ◌*◌, ◌≤◌, ◌<◌}
use Rattle.rd_base.specs.declared.peers.Peer.{Peer}
use Rattle.rd_base.specs.Outside.{Rose}
use Rattle.tcp_door.specs.declared.entrances.Knock.{Knock}
use Rattle.tcp_door.specs.declared.entrances.Knock.TheVariants as knock
use Rattle.tcp_door.specs.Peers.{IsNoDevice, number_of}

-- The number of lanes.
abbrev pub lanes : ℕ
lanes = 16

-- A door of a lane: how many connections it opened, and how many calls failed.
pub record LaneSeen : Type 0 where
  pub lane : ℕ
  pub opened : ℕ
  pub faults : ℕ

-- A peer that stands for the connection of a lane with this number. No device has it.
pub record IsPeerOf (lane number : ℕ) (peer : Peer) : Type 0 where
  pub numbered : number_of peer ≡ number * lanes + lane
  pub strange : IsNoDevice peer

-- A connection that was opened under the number of those of its lane before it.
pub record IsLet (old new : LaneSeen) (peer : Peer) : Type 0 where
  pub lane : new.lane ≡ old.lane
  pub opened : new.opened ≡ old.opened + 1
  pub faults : new.faults ≡ old.faults
  pub of_lane : IsPeerOf old.lane old.opened peer

-- A call that failed.
pub record IsShut (old new : LaneSeen) : Type 0 where
  pub lane : new.lane ≡ old.lane
  pub opened : new.opened ≡ old.opened
  pub kept : old.faults ≤ new.faults
  pub rose : Rose old.faults new.faults

-- States the result of asking a door for a connection.
abbrev pub Knocks : {S K : Type 0} → LaneSeen → LaneSeen → Knock S K → Type 0
Knocks old new (knock.One peer source sink) = IsLet old new peer
Knocks old new knock.Nothing = new ≡ old
Knocks old new knock.Failed = IsShut old new

-- States that two connections have one peer only if they are the same one of the same lane.
abbrev pub PeersAreApart : Type 0
PeersAreApart = (a b n m : ℕ) (p q : Peer)
    → a < lanes → b < lanes → IsPeerOf a n p → IsPeerOf b m q → p ≡ q
    → (a ≡ b) × (n ≡ m)
