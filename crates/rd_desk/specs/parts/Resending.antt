-- What a tick does with the requests of fetches, fetch after fetch (RFC 7252 section 4.2, RFC 9176
-- section 5.1).
use Rattle.std.specs.Prelude.{◌≡◌, ℕ, ◌+◌, ◌≤◌, Bool, List, length, drop}
use Rattle.std.specs.List.{AllByRecursion}
use Rattle.rd_base.specs.declared.peers.Peer.{Peer}
use Rattle.event_model.specs.Events.{Event}
use Rattle.event_model.specs.Fetches.{fetches, last_request}
use Rattle.journal_model.specs.declared.steps.Step.{Step}
use Rattle.journal_model.specs.declared.rows.Row.{Row}
use Rattle.journal_model.specs.Effects.{Effects, joined}
use Rattle.journal_model.specs.Journal.{events}
use Rattle.journal_model.specs.Rows.{row_moment}
use Rattle.journal_model.specs.Ticks.{each_of, fetch_again, requests_again}
use Rattle.journal_model.specs.UnfinishedRow.{making}
use Rattle.simple_registration.specs.FetchEvents.{fetch_due}
use Rattle.coap_answers.specs.declared.mids.Mids.{Mids}
use Rattle.coap_answers.specs.Outboxes.{most_datagrams}
use Rattle.rd_desk.specs.calls.Desks.{Seen}
use Rattle.rd_desk.specs.parts.UnderWay.{UnderWay}

-- A fetch of a peer that is as it was before the current row. Its last request is the same, and the
-- same is due for it.
pub record IsAsBefore (rows : List Row) (s : Step) (starved : Bool) (done : Effects) (peer : Peer) :
    Type 0 where
  pub request :
      last_request peer (events (making rows s starved done)) ≡ last_request peer (events rows)
  pub due : (e : Event)
      → fetch_due (row_moment rows s) peer e (events (making rows s starved done))
      ≡ fetch_due (row_moment rows s) peer e (events rows)

-- The effects of the row so far, if they leave all fetches unchanged.
pub record LeavesFetches (rows : List Row) (s : Step) (starved : Bool) (done : Effects) : Type 0
  where
    pub running : fetches (events (making rows s starved done)) ≡ fetches (events rows)
    pub same : (peer : Peer) → IsAsBefore rows s starved done peer

-- Returns the fetches from an index on.
abbrev pub fetches_left : List Row → Step → Bool → Effects → ℕ → List Peer
fetches_left rows s starved done index = drop index (fetches (events (making rows s starved done)))

-- Returns what a tick does with the fetch of a peer.
abbrev pub request_done : List Row → Step → Peer → Effects
request_done rows s peer =
    fetch_again rows (row_moment rows s) peer (last_request peer (events rows))

-- A tick that has done the requests of the fetches before an index, after what the row did first.
-- The remaining fetches come next, at most `most`. Each is as it was before the row, and the outbox
-- has room for a request to each.
pub record Resending (rows : List Row) (s : Step) (starved : Bool) (first : Effects) (desk : Seen)
    (out : List (Peer × List ℕ)) (mids : Mids) (index most : ℕ) : Type 0 where
  pub done : Effects
  pub way : UnderWay rows s starved done desk out mids
  pub whole :
      joined first (requests_again rows (row_moment rows s))
      ≡ joined done (each_of (request_done rows s) (fetches_left rows s starved done index))
  pub same : AllByRecursion (IsAsBefore rows s starved done)
      (fetches_left rows s starved done index)
  pub room : length done.sent + length (fetches_left rows s starved done index) ≤ most_datagrams
  pub few : length (fetches_left rows s starved done index) ≤ most
