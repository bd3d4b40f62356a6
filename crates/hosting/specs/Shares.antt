-- The share of a sender in what all senders share, by the history of its requests.
use Rattle.std.specs.Prelude.{◌≡◌, ◌≤◌, ◌<◌, ℕ, ◌+◌, ◌*◌, ◌-◌, ◌/◌, ◌%◌, ◌^◌, Bool, true, false}
use Rattle.std.specs.Prelude.{◌&&◌, List, Option, Some, None, Contains, count_by, nat_eq, ◌==◌}
use Rattle.std.specs.Prelude.{slice_index, if◌then◌else◌}
use Rattle.std.specs.Map.{lookup}
use Rattle.rd_base.specs.declared.peers.Host.{Host}
use Rattle.rd_base.specs.declared.peers.Host.TheVariants as host
use Rattle.hosting.specs.declared.shares.Tally.{Tally}
use Rattle.hosting.specs.declared.shares.Heard.{Heard}
use Rattle.hosting.specs.declared.shares.Heard.TheVariants as heard

-- Returns a source as a number: the first 64 bits of an IPv6 address. For an IPv4 address, these
-- are the bits of the IPv6 network that belongs to it (RFC 3056 section 2), so that both families
-- are of one kind.
abbrev pub source_of : Host → ℕ
source_of (host.V4 octets) =
    0x2002 * 2 ^ 48 + (slice_index octets 0 * 2 ^ 40 + slice_index octets 1 * 2 ^ 32
    + (slice_index octets 2 * 2 ^ 24 + slice_index octets 3 * 2 ^ 16))
source_of (host.V6 groups) =
    slice_index groups 0 * 2 ^ 48 + slice_index groups 1 * 2 ^ 32
    + (slice_index groups 2 * 2 ^ 16 + slice_index groups 3)

-- Returns the length of a window, in seconds: EXCHANGE_LIFETIME (RFC 7252 section 4.8.2).
abbrev pub window_seconds : ℕ
window_seconds = 247

-- Return the window of a moment in milliseconds, and how many seconds are left of it.
abbrev pub window_at : ℕ → ℕ
window_at moment = moment / (1000 * window_seconds)

abbrev pub seconds_left : ℕ → ℕ
seconds_left moment = window_seconds - moment / 1000 % window_seconds

-- Describes a request that a share received: its window and its source.
abbrev pub Asked : Type 0
Asked = ℕ × ℕ

-- Counts the requests of a source that arrived in a window.
abbrev pub asked_in : ℕ → ℕ → List Asked → ℕ
asked_in window source came = count_by (λ asked. asked.0 == window && asked.1 == source) came

-- Returns how many requests a tally counts in a window.
abbrev pub counted_in : ℕ → Option Tally → ℕ
counted_in window None = 0
counted_in window (Some tally) = if tally.window == window then tally.number else 0

-- Returns how many passed requests of a source are remembered in a window.
abbrev pub remembered : ℕ → ℕ → List (ℕ × Tally) → ℕ
remembered window source entries = counted_in window (lookup (nat_eq source) entries)

-- States that no tally exceeds the number of requests that arrived.
pub record AreWithin (entries : List (ℕ × Tally)) (came : List Asked) : Type 0 where
  pub each : (source : ℕ) → (tally : Tally) → Contains entries (source, tally)
      → tally.number ≤ asked_in tally.window source came

-- States that this is the answer of a share to a request. It depends on whether the request is a
-- retransmission of a remembered one that passed in this window, on the size of the share, and on
-- what is remembered of the source before and after the request.
abbrev pub IsHeard : Heard → Bool → ℕ → ℕ → ℕ → Type 0
IsHeard heard.Counted told bound before now =
    (told ≡ false) × ((before < bound) × (now ≡ before + 1))
IsHeard heard.Uncounted told bound before now =
    (told ≡ false) × ((before < bound) × (now ≡ before))
IsHeard heard.Again told bound before now = (told ≡ true) × (now ≡ before)
IsHeard heard.Past told bound before now =
    (told ≡ false) × ((bound ≤ before) × (now ≡ before))
