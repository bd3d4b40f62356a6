-- The base of a registration: the one that is given, or that of the peer that sent it (RFC 9176
-- section 5).
use Rattle.std.specs.Prelude.{
  ℕ,
  Bool,
  true,
  false,
  ◌||◌,
  List,
  Option,
  Some,
  None,
  is_some,
  unwrap_or,
}
use Rattle.rd_base.specs.declared.peers.Peer.{Peer}
use Rattle.rd_base.specs.Bases.{base_of}

-- Returns the base of a registration: the one that is given, or else that of the peer.
abbrev pub registered_base : Option (List ℕ) → Peer → List ℕ
registered_base given peer = unwrap_or given (base_of peer)

-- Returns the base after an update: the one that the update gives. Otherwise a base that was given
-- stays, and any other becomes that of the peer.
abbrev pub updated_base : Option (List ℕ) → Bool → List ℕ → Peer → List ℕ
updated_base (Some text) was_given old peer = text
updated_base None true old peer = old
updated_base None false old peer = base_of peer

-- Returns whether the base after an update is one that was given.
abbrev pub updated_base_given : Option (List ℕ) → Bool → Bool
updated_base_given given was_given = is_some given || was_given
