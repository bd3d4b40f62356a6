-- Which parts of a server's links may cross threads, each in one step: a `search` through all of
-- them at once finds no end.
use Rattle.std.proofs.Common.{rules}
use denote.RattleType.{RattleType}
use denote.Ref.{NamedLft}
use denote.Param.Send.{IsSend, IsSync, sendable}
use Rattle.std.proofs.Crossing as std
use Rattle.std.proofs.MapsCrossingOver as over
use Rattle.lru.proofs.Crosses.{KeyRef-send, KeyRef-sync, List-send, Deed-send}
use Rattle.hosting.specs.contracts.share_logs.ShareLog as ShareLog
use Rattle.hosting.specs.contracts.shares.Told as Told
use Rattle.hosting.specs.contracts.shares.Tally as Tally
use Rattle.hosting.specs.contracts.shares.Share as Share
use Rattle.hosting.specs.contracts.guards.Shares as Shares
use Rattle.hosting.specs.contracts.guards.Guard as Guard
use Rattle.hosting.specs.contracts.guarded_links.GuardedLink as GuardedLink
use Rattle.hosting.specs.contracts.counts.Counts as Counts
use Rattle.hosting.specs.contracts.counted_links.Teller as Teller
use Rattle.hosting.specs.contracts.counted_links.CountedLink as CountedLink

log_send : IsSend (ShareLog.the_field).row
log_send = search rules

told_send : IsSend (Told.the_field).row
told_send = search sendable depth 20

told_sync : IsSync (Told.the_field).row
told_sync = search sendable depth 20

tally_send : IsSend (Tally.the_field).row
tally_send = search sendable depth 20

-- what a cache stands on
ruleset caches =
    (sendable, std.crosses, over.crosses, KeyRef-send, KeyRef-sync, List-send, Deed-send)

share_send : IsSend (Share.the_field).row
share_send = search (caches, told_send, told_sync, tally_send, log_send) depth 40

shares_send : IsSend (Shares.the_field).row
shares_send = search (sendable, share_send) depth 20

guard_sync : IsSync (Guard.the_field).row
guard_sync = search (sendable, std.crosses, shares_send) depth 20

counts_sync : IsSync (Counts.the_field).row
counts_sync = search (sendable, std.crosses) depth 20

-- a guarded link may, where the link over which it stands and its clock may
pub guarded_send : (κ : NamedLft) (R L C : RattleType) → IsSync R → IsSend L → IsSend C
    → IsSend (GuardedLink.the_row κ R L C)
guarded_send κ R L C r l c = search (sendable, guard_sync, counts_sync) depth 20

teller_send : (κ : NamedLft) (C W : RattleType) → IsSend C → IsSend W
    → IsSend (Teller.the_field κ C W).row
teller_send κ C W c w = search (sendable, std.crosses, counts_sync) depth 20

-- a counted link may, where the link over which it stands, its clock and its output may
pub counted_send : (κ : NamedLft) (L C W : RattleType) → IsSend L → IsSend C → IsSend W
    → IsSend (CountedLink.the_row κ L C W)
counted_send κ L C W l c w = search (sendable, std.crosses, teller_send) depth 20
