use Rattle.std.proofs.Common.{◌≡◌, List, ◌∷◌, subst, rules}
use Rattle.std.specs.List.{All}
use Rattle.rd_seat.specs.Seats.{SeatSeen}
use Rattle.rd_seat.proofs.HallLaws.{first-of_hall, others-of_hall}
use Rattle.rd_seat.proofs.seat_lists.Seats.take_first.Goals as goal

-- the first one is moved out
pub returns-clause-others : goal.returns-clause-others
returns-clause-others c hall all =
    let e : c.args.self.now ≡ c.remove.result ∷ c.remove.new.self.items = search rules in
    others-of_hall hall c.remove.result c.remove.new.self.items
    (subst (λ (seats : List SeatSeen). All (λ (x : SeatSeen). x.hall ≡ hall) seats) e all)

pub returns-clause-hall : goal.returns-clause-hall
returns-clause-hall c hall all =
    let e : c.args.self.now ≡ c.remove.result ∷ c.remove.new.self.items = search rules in
    first-of_hall hall c.remove.result c.remove.new.self.items
    (subst (λ (seats : List SeatSeen). All (λ (x : SeatSeen). x.hall ≡ hall) seats) e all)
