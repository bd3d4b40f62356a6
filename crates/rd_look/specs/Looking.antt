-- What a look finds, and how the look ends.
use Rattle.std.specs.Prelude.{◌≡◌, ℕ, Bool, true, false, List, Option, Some, None}
use Rattle.rd_base.specs.declared.peers.Peer.{Peer}
use Rattle.message_model.specs.Message.{Message}
use Rattle.event_model.specs.KeptAnswers.{Answer}
use Rattle.journal_model.specs.declared.steps.Step.{Step}
use Rattle.journal_model.specs.Effects.{Effects, without_memory}
use Rattle.journal_model.specs.Requests.{asked_block}
use Rattle.journal_model.specs.Bodies.{body_reply, is_long}
use Rattle.journal_model.specs.Looks.{
  Look,
  answered,
  still_valid,
  not_live,
  unless_long,
  look_sent,
  body_held,
}
use Rattle.rd_look.specs.declared.looks.Found.{Found}
use Rattle.rd_look.specs.declared.looks.Found.TheVariants as found
use Rattle.rd_look.specs.declared.looks.Looked.{Looked}
use Rattle.rd_look.specs.declared.looks.Looked.TheVariants as ended

-- Returns the result of a look that found this. The look answers 2.03 if the client has the body,
-- and 4.04 if the registration is not live. Otherwise it answers with the body, or holds a listing
-- or source that is longer than the requested block.
abbrev pub look_found : Message → Found → Look
look_found m (found.Valid current) = answered (still_valid current.0)
look_found m (found.Links links) =
    unless_long (is_long (asked_block m) links.octets) m
    (record { body = links.octets; tag = links.tag.0 })
look_found m (found.OwnLinks octets) = answered (body_reply None None (asked_block m) octets)
look_found m found.NotLive = answered not_live

-- Returns whether memory ran out.
abbrev pub is_starved_look : Looked → Bool
is_starved_look ended.Done = false
is_starved_look (ended.Held job) = false
is_starved_look ended.Starved = true

-- Returns what a look with this result sends. If memory ran out, it answers 5.00.
abbrev pub look_done : Bool → Step → Message → Look → Effects
look_done true s m given = without_memory s m
look_done false s m given = look_sent s m (Some given)

-- Returns the body that the look leaves to be kept, if there is one. It leaves none if memory ran
-- out.
abbrev pub look_left : Bool → Look → Option Answer
look_left true given = None
look_left false given = body_held (Some given)

-- States that the look leaves to the worker a job to keep this body, which a peer requested by a
-- datagram. If there is no body, it leaves no job.
abbrev pub IsHeld : Peer → List ℕ → Option Answer → Looked → Type 0
IsHeld peer datagram None ended.Done = Unit {0}
IsHeld peer datagram None ended.Starved = Unit {0}
IsHeld peer datagram None (ended.Held job) = ⊥
IsHeld peer datagram (Some answer) (ended.Held job) = job ≡ record {
  peer = peer;
  datagram = datagram;
  answer = answer;
}
IsHeld peer datagram (Some answer) ended.Done = ⊥
IsHeld peer datagram (Some answer) ended.Starved = ⊥
