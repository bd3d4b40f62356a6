use Rattle.std.proofs.Common.{
  ◌≡◌,
  ◌+◌,
  ℕ,
  List,
  replicate,
  slice_index_or,
  sym,
  ap,
  subst,
  ◌∙◌,
  arith,
}
use Rattle.std.proofs.lemmas.List.Elements.{recursion_from_All}
use Rattle.turn_lock.specs.Shown.{id_of, count_of, lock_of, list_of, IsNew}
use Rattle.version_board.specs.Ends.{LookerSeen, new_looker}
use Rattle.rd_seat.specs.Insides.{AreNewFrom, hall_at}
use Rattle.std.specs.List.{All}
use Rattle.rd_seat.specs.Seats.{SeatSeen}
use Rattle.rd_seat.proofs.HallLaws.{fresh-AreNewFrom, new_seats-halls}
use Rattle.rd_seat.proofs.halls.Hall.make.Goals as goal

-- the passes are new, and so are the lookers, of one board
pub seats_of-seats-requires-clause-new : goal.seats_of-seats-requires-clause-new
seats_of-seats-requires-clause-new g c =
    subst (λ (lookers : List LookerSeen). AreNewFrom (hall_at c.in-Ok.lock) 0
    (list_of c.in-Ok.passes) lookers)
    (ap (λ (n : ℕ). replicate n (new_looker c.in_ok-shared.shared.desk.value.board.name))
    c.in-Ok.ensures.count ∙ sym c.in_ok-shared.ensures.lookers)
    (fresh-AreNewFrom (hall_at c.in-Ok.lock) c.in_ok-shared.shared.desk.value.board.name 0
    (list_of c.in-Ok.passes)
    (λ i d h. subst (λ (k : ℕ). IsNew c.in_ok-shared.shared.desk.value.board.name
    (count_of c.in-Ok.lock) k (slice_index_or (list_of c.in-Ok.passes) i d))
    (let e : i ≡ 0 + i = omega arith in e)
    (subst (λ (n : ℕ). IsNew c.in_ok-shared.shared.desk.value.board.name n i
    (slice_index_or (list_of c.in-Ok.passes) i d)) (sym c.in-Ok.ensures.passes)
    (c.in-Ok.ensures.fresh i d h)))
    (recursion_from_All (λ pass. lock_of pass ≡ id_of c.in-Ok.lock)
    (list_of c.in-Ok.passes) c.in-Ok.ensures.lock))

-- all seats are of the hall
pub returns-in-Ok-clause-hall : goal.returns-in-Ok-clause-hall
returns-in-Ok-clause-hall g c =
    subst (λ (seats : List SeatSeen). All (λ (s : SeatSeen). s.hall ≡ hall_at c.in-Ok.lock) seats)
    (sym (c.of.ensures ∙ c.seats_of-seats.ensures))
    (new_seats-halls (hall_at c.in-Ok.lock) c.args.workers)
