-- What a tick plans for its notifications before anything changes, and how it carries out the plan
-- (RFC 7641 sections 1.3 and 4.2).
use Rattle.std.specs.Prelude.{
  ◌≡◌,
  ℕ,
  ◌+◌,
  ◌%◌,
  ◌^◌,
  ◌<◌,
  ◌≤◌,
  ◌&&◌,
  ◌||◌,
  nat_lt,
  Bool,
  true,
  false,
  List,
  [],
  ◌∷◌,
  ◌++◌,
  length,
  drop,
  fold,
  filter_map,
  slice_get,
  Option,
  Some,
  None,
  if◌then◌else◌,
}
use Rattle.std.specs.Arc.{arc_value}
use Rattle.std.specs.List.{list_any, AllByRecursion}
use Rattle.rd_base.specs.declared.peers.Peer.{Peer}
use Rattle.message_model.specs.declared.blocks.Block.{Block}
use Rattle.message_model.specs.Spelling.{spelling}
use Rattle.event_model.specs.declared.notes.Note.TheVariants as note
use Rattle.event_model.specs.declared.notes.Observer.{Observer}
use Rattle.event_model.specs.Events.{Event}
use Rattle.event_model.specs.Flights.{Sent}
use Rattle.event_model.specs.KeptAnswers.{KeptAnswer}
use Rattle.event_model.specs.Observers.{observers, observe_values_sent}
use Rattle.event_model.specs.Same.{is_same_peer}
use Rattle.journal_model.specs.declared.steps.Step.{Step}
use Rattle.journal_model.specs.declared.rows.Row.{Row}
use Rattle.journal_model.specs.Bodies.{body_reply, is_long}
use Rattle.journal_model.specs.Effects.{Effects, joined, noting}
use Rattle.journal_model.specs.Journal.{entry_noted, events, transitions}
use Rattle.journal_model.specs.Rows.{row_moment}
use Rattle.journal_model.specs.Ticks.{
  ticking,
  is_confirmable_with,
  first_block,
  notifications_again,
  notifications,
  notification_next,
}
use Rattle.journal_model.specs.UnfinishedRow.{making}
use Rattle.exchange_core.specs.Retransmissions.{Resends}
use Rattle.transfers.specs.Keeping.{NamedAnswer, kept_each}
use Rattle.observers.specs.Standing.{Standing, is_awaited}
use Rattle.coap_answers.specs.declared.mids.Mids.{Mids}
use Rattle.coap_answers.specs.Writing.{notification_saying}
use Rattle.observation.specs.Notifications.{next_notified}
use Rattle.observation.specs.Watching.{Watching, WatchingStandsFor}
use Rattle.rd_desk.specs.declared.tick.planning.Plan.{Plan}
use Rattle.rd_desk.specs.declared.tick.planning.Planned.{Planned}
use Rattle.rd_desk.specs.declared.tick.planning.Planned.TheVariants as planned
use Rattle.rd_desk.specs.calls.Desks.{Seen}
use Rattle.rd_desk.specs.parts.UnderWay.{UnderWay}

-- ---- one notification

-- Returns the block that an observer gets, by the exponent of the size that it requested. It is the
-- first block, of a size that exists (RFC 7959 section 2.2).
abbrev pub block_of_notification : ℕ → Option Block
block_of_notification szx = Some (record {
  num = 0;
  more = false;
  szx = if nat_lt szx 6 then szx
      else 6;
})

-- Returns the block that a notification names. It names the first block if its body is longer than
-- that, and none otherwise.
abbrev pub block_named : ℕ → List ℕ → Option Block
block_named szx body = if is_long (block_of_notification szx) body then block_of_notification szx
    else None

-- Returns the octets of a notification to an observer, with a body.
abbrev pub notification_spelled : Standing → List ℕ → ℕ → ℕ → List ℕ → List ℕ
notification_spelled x current mid observe body =
    spelling (notification_saying mid x.token
    (body_reply (Some current) (Some observe) (block_named x.szx body) body))

-- Returns the answer that is kept of a notification, if its body is longer than the block.
abbrev pub kept_by : Standing → List ℕ → List ℕ → List NamedAnswer
kept_by x body current =
    if is_long (block_of_notification x.szx) body
    then record { name = (x.peer, x.key); answer = record { body = body; tag = current } } ∷ []
    else []

-- A notification to an observer that is added to a plan.
pub record AddsNotification (x : Standing) (now word : ℕ) (current body : List ℕ) (mid observe : ℕ)
    (sent : Sent) (before after : Plan) : Type 0 where
  pub mid_is : sent.mid ≡ mid
  pub octets : sent.octets ≡ notification_spelled x current mid observe body
  pub short : length sent.octets ≤ 1_280
  pub resends : (first : Event)
      → first.moment ≡ now
      → first.word ≡ word
      → Resends first [] sent.resend
  pub peers : after.peers.items ≡ before.peers.items ++ x.peer ∷ []
  pub kept : after.kept.items ≡ before.kept.items ++ kept_by x body current

-- ---- carrying out a plan

-- Returns the effects of building a notification with a body for an observer. It is sent and noted,
-- and draws a Message ID.
abbrev pub forming_for : Observer → List ℕ → Sent → Effects
forming_for o body sent = record {
  sent = (o.peer, sent.octets) ∷ [];
  notes = note.Formed o.peer o.token body (Some sent.mid) ∷ [];
  drew = 1;
}

-- Returns the answer that is kept of a notification to an observer, if its body is longer than the
-- block.
abbrev pub kept_of : Observer → List ℕ → List ℕ → List NamedAnswer
kept_of o body current =
    if is_long (first_block o) body
    then record { name = (o.peer, o.key); answer = record { body = body; tag = current } } ∷ []
    else []

-- Returns the effects of keeping that answer, which is noted.
abbrev pub keeping_noted : List NamedAnswer → Effects
keeping_noted [] = noting []
keeping_noted (a ∷ more) = noting (note.Kept a.name.0 a.name.1 a.answer.body a.answer.tag ∷ [])

-- Returns the effects of what is planned for an observer, if this is the tag of listings.
abbrev pub planned_done : List ℕ → Observer → Planned → Effects
planned_done current o planned.Unchanged = noting (note.Unchanged o.peer o.token ∷ [])
planned_done current o (planned.Notified sent body) =
    joined (forming_for o (arc_value body) sent)
    (keeping_noted (kept_of o (arc_value body) current))

-- Returns the answers that are kept when this is done.
abbrev pub planned_kept : List ℕ → Observer → Planned → List NamedAnswer
planned_kept current o planned.Unchanged = []
planned_kept current o (planned.Notified sent body) = kept_of o (arc_value body) current

-- A notification that the row, which did this so far, may send to an observer. The row has not sent
-- a confirmable message with its Message ID to that peer. The notification is confirmable, its
-- timeout starts in this row, and it has at most 1,280 octets.
pub record MayBeSent (rows : List Row) (s : Step) (done : Effects) (o : Observer) (sent : Sent) :
    Type 0 where
  pub unsent :
      list_any (λ d. is_same_peer d.0 o.peer && is_confirmable_with sent.mid d.1) done.sent ≡ false
  pub confirmable : is_confirmable_with sent.mid sent.octets ≡ true
  pub resends : (first : Event)
      → first.moment ≡ row_moment rows s
      → first.word ≡ s.word
      → Resends first [] sent.resend
  pub short : length sent.octets ≤ 1_280

-- States that what is planned for an observer may be done, in a row that did this so far.
abbrev pub MayBeDone : List Row → Step → Effects → Observer → Planned → Type 0
MayBeDone rows s done o planned.Unchanged = Unit {0}
MayBeDone rows s done o (planned.Notified sent body) = MayBeSent rows s done o sent

-- The next observer from an index on that is due and has no notification in flight, after what the
-- row did so far. What is planned may be done for it.
pub record IsNext (rows : List Row) (s : Step) (starved : Bool) (done : Effects) (from : ℕ)
    (p : Planned) : Type 0 where
  pub index : ℕ
  pub observer : Observer
  pub next :
      next_notified from (events (making rows s starved done))
      (transitions (making rows s starved done))
      ≡ Some index
  pub got : slice_get (observers (events (making rows s starved done))) index ≡ Some observer
  pub may : MayBeDone rows s done observer p
  pub room : length done.sent < 1_152

-- States that the planned items, one after the other, are all that a row does after what it did so
-- far. Doing them keeps these answers.
abbrev pub AreDone : List Row
    → Step
    → Bool
    → List ℕ
    → Effects
    → Effects
    → ℕ
    → List Planned
    → List NamedAnswer
    → Type 0
AreDone rows s starved current whole done from [] kept = (done ≡ whole) × (kept ≡ [])
AreDone rows s starved current whole done from (p ∷ ps) kept =
    (it : IsNext rows s starved done from p)
    × (later : List NamedAnswer)
    × (kept ≡ planned_kept current it.observer p ++ later)
    × AreDone rows s starved current whole (joined done (planned_done current it.observer p))
    (it.index + 1) ps later

-- A plan that is made up to an observer, after the retransmissions of notifications. It would leave
-- these observers, which stand for the journal with the row so far and are the same clients as
-- before. The plan's notifications are to these peers, and the observers from this index on are
-- unchanged.
pub record PlannedUpTo (rows : List Row) (s : Step) (starved : Bool) (current : List ℕ)
    (whole first : Effects) (ws : List Standing) (given : ℕ) (p : Plan)
    (from : ℕ) : Type 0 where
  pub begins : first ≡ notifications_again rows (row_moment rows s)
  pub done : Effects
  pub watching : Watching
  pub stands : WatchingStandsFor (making rows s starved done) watching
  pub standing :
      observers (events (making rows s starved done))
      ≡ observers (events (making rows s starved first))
  pub same : drop from watching.observers ≡ drop from ws
  pub awaited : (peer : Peer)
      → is_awaited peer watching.observers
      ≡ (is_awaited peer ws || list_any (λ q. is_same_peer q peer) p.peers.items)
  pub drew : done.drew ≡ length p.peers.items
  pub few : length p.peers.items ≤ 64
  pub sent : AllByRecursion (λ d. is_awaited d.0 watching.observers ≡ true) done.sent
  pub size : length done.sent ≤ 1_024 + length p.peers.items
  pub silent : filter_map entry_noted done.notes ≡ []
  pub observed :
      observe_values_sent (events (making rows s starved done))
      ≡ (given + length p.peers.items) % 2 ^ 64
  pub left :
      whole
      ≡ fold (notification_next (ticking rows (row_moment rows s) s)) done
      (drop from (observers (events (making rows s starved done))))
  pub plan : (more : List Planned) (later : List NamedAnswer)
      → AreDone rows s starved current whole done from more later
      → AreDone rows s starved current whole first 0 (p.items.items ++ more) (p.kept.items ++ later)

-- Returns a desk with these kept answers.
abbrev pub with_answers : List KeptAnswer → Seen → Seen
with_answers xs d = record d { transfers = record { uploads = d.transfers.uploads; answers = xs } }

-- A plan that is carried out up to an observer. With kept answers that become those that are ready,
-- the desk stands for the journal with the row so far.
pub record CarryingOut (rows : List Row) (s : Step) (starved : Bool) (current : List ℕ)
    (whole : Effects) (ready : List KeptAnswer) (desk : Seen) (out : List (Peer × List ℕ))
    (mids : Mids) (from : ℕ) (ps : List Planned) : Type 0 where
  pub done : Effects
  pub kept : List NamedAnswer
  pub answers : List KeptAnswer
  pub way : UnderWay rows s starved done (with_answers answers desk) out mids
  pub plan : AreDone rows s starved current whole done from ps kept
  pub becomes : kept_each (row_moment rows s) kept answers ≡ ready

-- Returns what a row does with notifications: it retransmits, and then sends new ones. If memory
-- ran out, it only retransmits.
abbrev pub notifications_done : Bool → List Row → Step → Effects
notifications_done true rows s = notifications_again rows (row_moment rows s)
notifications_done false rows s =
    notifications (ticking rows (row_moment rows s) s)
    (notifications_again rows (row_moment rows s))
