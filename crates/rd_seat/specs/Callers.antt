-- A caller's seat and clock, what its calls do with them, and which calls follow one another.
use Rattle.std.specs.Prelude.{◌≡◌, ℕ, Bool, true, false, Option, Some, None}
use Rattle.std.specs.Prelude.{List, [], ◌∷◌, ◌++◌}
use Rattle.rd_base.specs.declared.moments.Moment.{Moment}
use Rattle.rd_base.specs.declared.peers.Peer.{Peer}
use Rattle.udp_link.specs.Links.{Datagram}
use Rattle.udp_link.specs.Told.{WhereTold}
use Rattle.udp_link.specs.declared.clocks.Clock as clocks
use Rattle.journal_model.specs.declared.steps.StepKind.TheVariants as step
use Rattle.journal_model.specs.Machine.{Job}
use Rattle.rd_seat.specs.Seats.{SeatSeen}
use Rattle.rd_seat.specs.Chains.{Chain}
use Rattle.rd_seat.specs.Calls.{Call, Does, GivesMoment, GivesWord, IsHearing, IsOfJob}

-- ---- what contracts see of a caller

-- What a clock shows.
pub record ClockSeen : Type 0 where
  pub times : Option (List Moment)
  pub words : Option (List ℕ)

-- Returns what a clock shows.
abbrev pub clock_seen : {T : Type 0} → clocks.Ghosts T → T → ClockSeen
clock_seen g clock = record { times = g.times clock; words = g.words clock }

-- What a caller has.
pub record CallerSeen : Type 0 where
  pub seat : SeatSeen
  pub clock : ClockSeen

-- Returns what a caller with this seat and clock has.
abbrev pub caller_seen : {C : Type 0} → clocks.Ghosts C → SeatSeen → C → CallerSeen
caller_seen g seat clock = record { seat = seat; clock = clock_seen g clock }

-- The effect of calls on the seat, with the moments and random words that the clock returned.
pub record CallsMade {S : Type 0} (told : S → List Datagram) (calls : List (Call S))
    (before after : CallerSeen) : Type 0 where
  pub seat : Chain (λ old c new. Does told old c new) before.seat calls after.seat
  pub moments : WhereTold (λ old new. Chain (λ x c y. GivesMoment x c y) old calls new)
      before.clock.times after.clock.times
  pub words : WhereTold (λ old new. Chain (λ x c y. GivesWord x c y) old calls new)
      before.clock.words after.clock.words

-- ---- which calls follow

-- Calls in which time passes once.
pub record Ticks {S : Type 0} (calls : List (Call S)) : Type 0 where
  pub tick : Call S
  pub alone : calls ≡ tick ∷ []
  pub kind : tick.step.kind ≡ step.Tick

-- States that the calls do the job that was left, if there was one.
abbrev pub DoesJob : {S : Type 0} → Option Job → List (Call S) → Type 0
DoesJob None calls = calls ≡ []
DoesJob (Some j) calls = (c : Call _) × (calls ≡ c ∷ []) × IsOfJob j c.step

-- Calls in which the caller handles a datagram, and does its job at once.
pub record Hears {S : Type 0} (peer : Peer) (datagram : List ℕ) (calls : List (Call S))
    : Type 0 where
  pub hear : Call S
  pub job : List (Call S)
  pub whole : calls ≡ job ++ hear ∷ []
  pub hearing : IsHearing peer datagram hear
  pub done : DoesJob hear.left job

-- States that time passes once if the flag says so, and that there is no call otherwise.
abbrev pub TicksWhere : {S : Type 0} → Bool → List (Call S) → Type 0
TicksWhere true calls = Ticks calls
TicksWhere false calls = calls ≡ []
