-- When two peers, two requests, or two queries are the same.
use Rattle.std.specs.Prelude.{
  ℕ,
  Bool,
  true,
  false,
  ◌&&◌,
  ◌==◌,
  List,
  [],
  ◌∷◌,
  Option,
  Some,
  None,
  bytes_eq,
}
use Rattle.rd_base.specs.declared.peers.Host.{Host}
use Rattle.rd_base.specs.declared.peers.Host.TheVariants as host
use Rattle.rd_base.specs.declared.peers.Peer.{Peer}
use Rattle.rd_base.specs.declared.queries.Kind.{Kind}
use Rattle.rd_base.specs.declared.queries.Kind.TheVariants as kind
use Rattle.rd_base.specs.declared.queries.Criterion.{Criterion}
use Rattle.rd_base.specs.declared.queries.Query.{Query}

-- Returns whether the addresses are the same.
abbrev pub is_same_host : Host → Host → Bool
is_same_host (host.V4 octets) (host.V4 others) = bytes_eq octets others
is_same_host (host.V4 octets) (host.V6 groups) = false
is_same_host (host.V6 groups) (host.V4 octets) = false
is_same_host (host.V6 groups) (host.V6 others) = bytes_eq groups others

-- Returns whether address and port are the same.
abbrev pub is_same_peer : Peer → Peer → Bool
is_same_peer peer other = is_same_host peer.host other.host && peer.port == other.port

-- The name of a request: its peer and its key (RFC 7959 section 2.4).
abbrev pub RequestName : Type 0
RequestName = Peer × List ℕ

-- Returns whether two names have the same peer and the same octets, which are a request key or a
-- token.
abbrev pub is_same_request : RequestName → RequestName → Bool
is_same_request name other = is_same_peer name.0 other.0 && bytes_eq name.1 other.1

-- Returns whether the kinds of lookup are the same.
abbrev pub is_same_kind : Kind → Kind → Bool
is_same_kind kind.Resource kind.Resource = true
is_same_kind kind.Endpoint kind.Endpoint = true
is_same_kind kind.Discovery kind.Discovery = true
is_same_kind _ _ = false

-- Returns whether the criteria are the same, in the same order.
abbrev pub are_same_criteria : List Criterion → List Criterion → Bool
are_same_criteria [] [] = true
are_same_criteria [] (other ∷ others) = false
are_same_criteria (criterion ∷ criteria) [] = false
are_same_criteria (criterion ∷ criteria) (other ∷ others) =
    bytes_eq criterion.name other.name
    && bytes_eq criterion.pattern other.pattern
    && are_same_criteria criteria others

-- Returns whether the numbers are the same, or there are none.
abbrev pub is_same_number : Option ℕ → Option ℕ → Bool
is_same_number None None = true
is_same_number None (Some n) = false
is_same_number (Some n) None = false
is_same_number (Some n) (Some m) = n == m

-- Returns whether two queries are the same: kind, criteria in their order, page and count, as they
-- are read.
abbrev pub is_same_query : Query → Query → Bool
is_same_query query other =
    is_same_kind query.kind other.kind && are_same_criteria query.criteria other.criteria
    && is_same_number query.page other.page && is_same_number query.count other.count
