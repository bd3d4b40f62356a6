-- What one part of a step sends and draws.
use Rattle.std.specs.Prelude.{◌≡◌, ℕ, Bool, true, ◌&&◌, List, ◌++◌}
use Rattle.std.specs.List.{list_any, AllByRecursion}
use Rattle.rd_base.specs.declared.peers.Peer.{Peer}
use Rattle.event_model.specs.declared.notes.Note.{Note}
use Rattle.event_model.specs.declared.notes.Note.TheVariants as note
use Rattle.event_model.specs.Same.{is_same_peer}
use Rattle.journal_model.specs.declared.steps.Step.{Step}
use Rattle.journal_model.specs.Effects.{Effects}
use Rattle.journal_model.specs.Ticks.{is_confirmable_with}
use Rattle.journal_model.specs.UnfinishedRow.{drawing}
use Rattle.coap_answers.specs.declared.mids.Mids.{Mids}

-- A step of this peer, and of the worker with these Message IDs, which has drawn as many as the
-- step says.
pub record IsStepOf (s : Step) (peer : Peer) (mids : Mids) : Type 0 where
  pub peer_is : s.peer ≡ peer
  pub worker : s.worker ≡ mids.worker
  pub drawn : s.drawn ≡ mids.drawn

-- Effects whose datagrams are sent after the others, and whose Message IDs are drawn.
pub record Sends (e : Effects) (before now : List (Peer × List ℕ)) (mids_before mids : Mids) : Type
    0 where
  pub sent : now ≡ before ++ e.sent
  pub worker : mids.worker ≡ mids_before.worker
  pub drawn : mids.drawn ≡ drawing e.drew mids_before.drawn

-- Returns whether a confirmable message with a Message ID is sent to a peer.
abbrev pub is_confirmable_sent : List (Peer × List ℕ) → Peer → ℕ → Bool
is_confirmable_sent sent peer mid =
    list_any (λ d. is_same_peer d.0 peer && is_confirmable_with mid d.1) sent

-- States that the request of a fetch that a note records is sent.
abbrev pub IsRequestSent : List (Peer × List ℕ) → Note → Type 0
IsRequestSent sent (note.Asked peer token mid params number) =
    is_confirmable_sent sent peer mid ≡ true
IsRequestSent sent _ = Unit {0}

-- States that the noted requests of fetches are sent.
abbrev pub AreRequestsSent : Effects → Type 0
AreRequestsSent e = AllByRecursion (IsRequestSent e.sent) e.notes
