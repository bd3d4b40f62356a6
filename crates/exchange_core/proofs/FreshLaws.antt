-- A write that is answered as a new one repeats none.
use Rattle.std.proofs.Common.{◌≡◌, ℕ, List, Option, Some, None, refl}
use Rattle.rd_base.specs.declared.peers.Peer.{Peer}
use Rattle.event_model.specs.Events.{Event}
use Rattle.event_model.specs.Repeats.{repeated, settled}
use Rattle.exchange_core.specs.declared.writes.Keyed.TheVariants as keyed
use Rattle.exchange_core.specs.Table.{repeating}
use Rattle.exchange_core.specs.ExchangeEvents.{keyed_as, keyed_after}

-- a write that is answered as a new one is no repeat
-- An end theorem: nothing here cites it.
pub fresh-no_repeat : (now : ℕ) (peer : Peer) (mid : ℕ) (events : List Event)
    → keyed.Fresh ≡ keyed_after now peer mid events
    → repeated now peer mid events ≡ None
unfolding keyed_after
fresh-no_repeat now peer mid events fresh = by (repeated now peer mid events) fresh
  where
    same : (r : Option (List ℕ)) → keyed.Fresh ≡ repeating r → ⊥
    same None e = absurd cc
    same (Some reply) e = absurd cc

    by : (r : Option Event) → keyed.Fresh ≡ keyed_as r now events → r ≡ None
    by None e = refl
    by (Some a) e = absurd (same (settled a.place events) e)
