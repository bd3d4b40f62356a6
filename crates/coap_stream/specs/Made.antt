-- The effects of a conversation's calls: on its seat, with what its clock returns, and on its
-- output.
use Rattle.std.specs.Prelude.{
  ◌≡◌,
  ◌≤◌,
  ℕ,
  Bool,
  true,
  false,
  List,
  ◌++◌,
  length,
}
use Rattle.std.specs.Prelude.{take, Option}
use Rattle.std.specs.Io.KnownBytes.{Appends}
use Rattle.rd_base.specs.Outside.{Rose}
use Rattle.rd_base.specs.declared.outside.Sink as sinks
use Rattle.rd_seat.specs.Callers as callers
use Rattle.rd_seat.specs.Callers.{CallerSeen, Hears, TicksWhere}
use Rattle.coap_stream.specs.declared.lines.Line.{Line}
use Rattle.coap_stream.specs.Manners.{is_due}
use Rattle.coap_stream.specs.Calls.{Call, as_they_came, calls_sent}
use Rattle.coap_stream.specs.Talks.{replies_to}

-- ---- the seat and the clock

-- States what calls did to the seat, with what the clock returned.
abbrev pub CallsMade : List Call → CallerSeen → CallerSeen → Type 0
CallsMade calls before after = callers.CallsMade as_they_came calls before after

-- ---- the output

-- An output, and whether no write has failed.
pub record VoiceSeen : Type 0 where
  pub holds : Option (List ℕ)
  pub faults : ℕ
  pub open_still : Bool

abbrev pub voice_seen : {K : Type 0} → sinks.Ghosts K → K → Bool → VoiceSeen
voice_seen g out still =
    record { holds = g.holds out; faults = g.faults out; open_still = still }

-- States that all octets were written. Otherwise a prefix of them was written and the count of the
-- output's faults rose, or nothing was written because a write failed before.
abbrev pub SpeaksBy : Bool → Bool → List ℕ → VoiceSeen → VoiceSeen → Type 0
SpeaksBy true true octets before after =
    Appends before.holds after.holds octets × (after.faults ≡ before.faults)
SpeaksBy true false octets before after =
    ((n : ℕ) × (n ≤ length octets) × Appends before.holds after.holds (take n octets))
    × (before.faults ≤ after.faults) × Rose before.faults after.faults
SpeaksBy false true octets before after = ⊥
SpeaksBy false false octets before after =
    (after.holds ≡ before.holds) × (after.faults ≡ before.faults)

abbrev pub Speaks : VoiceSeen → List ℕ → VoiceSeen → Type 0
Speaks before octets after = SpeaksBy before.open_still after.open_still octets before after

-- ---- a request that is passed to the seat

-- A request that was passed to the seat. The seat handled it and did its job, the replies were
-- written, and time passed if it was due.
pub record IsAsked (line : Line) (number most : ℕ) (datagram : List ℕ) (dropped : ℕ)
    (before after : CallerSeen) (voice spoken : VoiceSeen) : Type 0 where
  pub heard : List Call
  pub ticks : List Call
  pub hears : Hears line.peer datagram heard
  pub due : TicksWhere (is_due line.manner number) ticks
  pub made : CallsMade (ticks ++ heard) before after
  pub written : Speaks voice (replies_to line most (calls_sent heard)) spoken
  pub drops : dropped ≡ length (calls_sent ticks)
