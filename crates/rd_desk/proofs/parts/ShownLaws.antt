-- What is shown of an observer is what the journal says of it.
use Rattle.std.proofs.Common.{
  ◌≡◌,
  ℕ,
  List,
  Option,
  Some,
  None,
  is_some,
  option_map,
  slice_get,
  length,
  refl,
  sym,
  ap,
  ◌∙◌,
}
use Rattle.event_model.specs.declared.notes.Observer.{Observer}
use Rattle.event_model.specs.Flights.{OctetsSent, waiting_notification, flight, notification_sent}
use Rattle.event_model.specs.Events.{Event}
use Rattle.event_model.specs.Observers.{observers}
use Rattle.journal_model.specs.declared.rows.Row.{Row}
use Rattle.journal_model.specs.Journal.{events, transitions}
use Rattle.journal_model.specs.Ticks.{octets_sent}
use Rattle.observers.specs.Standing as kept
use Rattle.observers.proofs.StandLaws.{length-StandsFor}
use Rattle.observation.specs.Watching.{Watching, WatchingStandsFor}
use Rattle.observation.proofs.TickLaws.{kept-StandsFor}
use Rattle.rd_desk.specs.declared.watchers.Watcher.{Watcher}
use Rattle.rd_desk.specs.calls.ShownObservers.{IsShownAs, IsObserverAfter}

there_alike : {X Y : Type 0} (f : X → Y) (o : Option X) → is_some (option_map f o) ≡ is_some o
there_alike f None = refl
there_alike f (Some x) = refl

-- a notification waits where one is in flight
waits : (octets : OctetsSent) (past : List Event) (o : Observer)
    → is_some (waiting_notification octets past o) ≡ is_some (flight o past)
unfolding waiting_notification
waits octets past o = there_alike (notification_sent octets o.peer) (flight o past)

pub shown-IsObserverAfter : (rows : List Row) (w : Watching) (i : ℕ) (o : Observer)
    (x : kept.Standing) (it : Watcher)
    → WatchingStandsFor rows w
    → slice_get (observers (events rows)) i ≡ Some o
    → slice_get w.observers i ≡ Some x
    → IsShownAs x it → IsObserverAfter rows o it
shown-IsObserverAfter rows w i o x it h at there shown =
    let keeps = kept-StandsFor rows w i o x h at there in
    record {
      peer = shown.peer ∙ sym keeps.peer;
      token = shown.token ∙ sym keeps.token;
      due = shown.due ∙ sym keeps.due;
      waiting =
          shown.waiting ∙ (ap is_some (sym keeps.waits) ∙ waits (octets_sent rows) (events rows) o);
    }

-- as many are kept as the journal has
pub shown_count : (rows : List Row) (w : Watching)
    → WatchingStandsFor rows w
    → length w.observers ≡ length (observers (events rows))
shown_count rows w h =
    sym (length-StandsFor h.queries (octets_sent rows) (events rows) (transitions rows) w.observers
    h.observers)
