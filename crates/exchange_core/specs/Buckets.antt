-- How exchanges are found by peer and Message ID: each has a bucket, and each bucket knows its
-- latest exchange.
use Rattle.std.specs.Prelude.{
  ◌≡◌,
  ℕ,
  ◌+◌,
  ◌*◌,
  ◌/◌,
  ◌%◌,
  ◌^◌,
  ◌<◌,
  ◌==◌,
  List,
  [],
  ◌∷◌,
  length,
  fold,
  Option,
  Some,
  None,
  slice_index,
  bit_xor,
  if◌then◌else◌,
}
use Rattle.exchange_core.specs.declared.buckets.TheConstants.{BUCKETS}
use Rattle.rd_base.specs.declared.peers.Host.{Host}
use Rattle.rd_base.specs.declared.peers.Host.TheVariants as host
use Rattle.rd_base.specs.declared.peers.Peer.{Peer}
use Rattle.event_model.specs.Repeats.{Exchange}

-- The number of buckets.
abbrev pub buckets : ℕ
buckets = BUCKETS

-- Returns a hash after one more number: a product whose upper half is mixed into the lower.
unfoldable pub mixed : ℕ → ℕ → ℕ
mixed hash word =
    let product = (bit_xor hash word * 0x9e37_79b9_7f4a_7c15) % 2 ^ 64 in
    bit_xor product (product / 2 ^ 32)

-- Returns the hash of an address.
unfoldable pub host_hash : Host → ℕ
host_hash (host.V4 octets) = fold mixed 4 octets
host_hash (host.V6 groups) = fold mixed 6 groups

-- Returns the bucket of a peer and a Message ID.
unfoldable pub bucket_of : Peer → ℕ → ℕ
bucket_of peer mid = mixed (mixed (host_hash peer.host) peer.port) mid % buckets

-- Returns the bucket of an exchange.
abbrev pub bucket : Exchange → ℕ
bucket x = bucket_of x.peer x.mid

-- Returns the number of the latest exchange in a bucket. Exchanges are numbered in the order of
-- their admission, and the oldest has the number `first`.
unfoldable pub latest_in : ℕ → ℕ → List Exchange → Option ℕ
latest_in first b [] = None
latest_in first b (x ∷ before) =
    if bucket x == b then Some (first + length before) else latest_in first b before

-- States that a number is this one, or that it is below the first if there is none.
abbrev pub Says : ℕ → ℕ → Option ℕ → Type 0
Says first n None = n < first
Says first n (Some m) = n ≡ m

-- States that each exchange, the latest first, has the number of the next older one in its bucket.
unfoldable pub AreLinked : ℕ → List ℕ → List Exchange → Type 0
AreLinked first [] [] = Unit {0}
AreLinked first (n ∷ ns) (x ∷ before) =
    Says first n (latest_in first (bucket x) before) × AreLinked first ns before
AreLinked first _ _ = ⊥

-- The exchanges, the latest first, that are found by these numbers. Each bucket has the number of
-- its latest exchange, and each exchange has that of the next older one in its bucket.
pub record AreFoundBy (first : ℕ) (latest older : List ℕ) (xs : List Exchange) : Type 0 where
  pub as_many : length latest ≡ buckets
  pub heads : (b : ℕ) → b < buckets → Says first (slice_index latest b) (latest_in first b xs)
  pub links : AreLinked first older xs
  pub some : 0 < first
  pub counted : first + length xs < 2 ^ 64
