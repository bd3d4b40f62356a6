-- The desk behind the turn, from one turn to the next.
pub mod TurnLaws
-- What a seat shows after its steps.
pub mod SeatLaws
-- One turn of a seat, from its beginning to its end.
pub mod OneTurnLaws
-- The jobs of a seat.
pub mod JobLaws
-- What a worker does at its turn.
pub mod ActionLaws
-- The seats of a new hall, and what a hall keeps between turns.
pub mod OfHallLaws
mod HallLaws
-- What a seat shows after any calls.
pub mod RunLaws
-- What is told of a list, from one call to the next.
pub mod ToldLaws
-- Calls of a seat by a caller with a clock.
pub mod CallLaws
-- What a seat shows after the calls of a caller.
pub mod SeatRuns
