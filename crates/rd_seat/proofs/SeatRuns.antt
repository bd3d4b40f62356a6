-- The calls of a caller, as those of a run of its seat: wherever the seat stood, it went on from
-- there, and it is of its hall still.
use Rattle.std.proofs.Common.{List, [], ◌∷◌, ◌++◌, ℕ, sym, ap, subst, inl, inr}
use Rattle.udp_link.specs.Links.{Datagram}
use Rattle.journal_model.specs.Rows.{row}
use Rattle.journal_model.specs.Seats.{Seat, MakesRow}
use Rattle.rd_seat.specs.Seats.{HallSeen, SeatSeen, IsOfHall, seat_of}
use Rattle.rd_seat.specs.Runs as runs
use Rattle.rd_seat.specs.Runs.{HasCalled, turned, looked}
use Rattle.rd_seat.specs.Chains.{Chain}
use Rattle.rd_seat.specs.Calls.{Call, Does}
use Rattle.rd_seat.proofs.CallLaws.{any_row}

-- ---- its hall

does_hall : {S : Type 0} (told : S → List Datagram) (hall : HallSeen) (a b : SeatSeen)
    (c : Call S) → IsOfHall hall a → Does told a c b → IsOfHall hall b
does_hall told hall a b c before (inl it) =
    subst (λ (h : HallSeen). IsOfHall h b) before.is it.of_hall
does_hall told hall a b c before (inr it) =
    subst (λ (h : HallSeen). IsOfHall h b) before.is it.of_hall

-- a seat of a hall is of it after its calls
pub hall_after : {S : Type 0} (told : S → List Datagram) (hall : HallSeen)
    (calls : List (Call S)) (a b : SeatSeen)
    → Chain (λ old c new. Does told old c new) a calls b → IsOfHall hall a → IsOfHall hall b
hall_after told hall [] a b chain before = subst (IsOfHall hall) (sym chain) before
hall_after told hall (c ∷ calls) a b chain before = does_hall told hall chain.0 b c
    (hall_after told hall calls a chain.0 chain.1 before) chain.2

-- ---- its calls

-- it was called so, and before as it had been
abbrev HasCalledOn : HallSeen → ℕ → List runs.Call → SeatSeen → Type 0
HasCalledOn hall worker earlier seat =
    (calls : List runs.Call) × HasCalled hall worker (calls ++ earlier) seat

one_more : {S : Type 0} (told : S → List Datagram) (hall : HallSeen) (worker : ℕ)
    (earlier : List runs.Call) (a b : SeatSeen) (c : Call S) → HasCalledOn hall worker earlier a
    → Does told a c b → HasCalledOn hall worker earlier b
one_more told hall worker earlier a b c before (inl it) =
    let made : MakesRow (seat_of a [] []) c.step c.starved (told c.sent) (seat_of b [] []) =
    any_row a b c.step c.starved (told c.sent) it.made in (
      runs.turn (row made.found c.step c.starved) ∷ before.0,
      turned (row made.found c.step c.starved) made.found c.step c.starved (told c.sent) b
          before.1 it.grows it.made (ap (λ (seat : Seat). seat.seen) made.seat),
    )
one_more told hall worker earlier a b c before (inr it) = (
  runs.look a.seen b.met ∷ before.0,
  looked c.step c.starved (told c.sent) it.held b before.1 it.grows it.looks,
)

-- whatever calls it had made, it went on with these
pub calls_go_on : {S : Type 0} (told : S → List Datagram) (hall : HallSeen) (worker : ℕ)
    (earlier : List runs.Call) (calls : List (Call S)) (a b : SeatSeen)
    → Chain (λ old c new. Does told old c new) a calls b → HasCalled hall worker earlier a
    → HasCalledOn hall worker earlier b
calls_go_on told hall worker earlier [] a b chain before =
    subst (HasCalledOn hall worker earlier) (sym chain) ([], before)
calls_go_on told hall worker earlier (c ∷ calls) a b chain before =
    one_more told hall worker earlier chain.0 b c
    (calls_go_on told hall worker earlier calls a chain.0 chain.1 before) chain.2
