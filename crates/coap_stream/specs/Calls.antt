-- The calls that a conversation makes on its seat, and the result of each. The last comes first.
use Rattle.std.specs.Prelude.{List, [], ◌∷◌, ◌++◌}
use Rattle.udp_link.specs.Links.{Datagram}
use Rattle.rd_seat.specs.Seats.{SeatSeen}
use Rattle.rd_seat.specs.Calls as of_seat

-- A call of the seat, and the datagrams that it sent.
abbrev pub Call : Type 0
Call = of_seat.Call (List Datagram)

-- Returns all these datagrams, in order.
abbrev pub as_they_came : List Datagram → List Datagram
as_they_came out = out

-- States what a call did to the seat.
abbrev pub Does : SeatSeen → Call → SeatSeen → Type 0
Does before c after = of_seat.Does as_they_came before c after

-- Returns all datagrams that calls sent, in order.
abbrev pub calls_sent : List Call → List Datagram
calls_sent [] = []
calls_sent (c ∷ earlier) = calls_sent earlier ++ c.sent
