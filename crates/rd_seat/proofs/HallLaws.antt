-- The seats of a new hall, and what a hall keeps between two turns.
use Rattle.std.proofs.Common.{
  ◌≡◌,
  ℕ,
  ◌+◌,
  ◌<◌,
  zero,
  suc,
  List,
  [],
  ◌∷◌,
  length,
  replicate,
  slice_index_or,
  refl,
  sym,
  ap,
  subst,
  ◌∙◌,
  arith,
}
use Rattle.std.specs.List.{All, AllByRecursion}
use Rattle.std.proofs.lemmas.List.Elements.{
  All-from_recursion,
  recursion_from_All,
  All-nil,
  All-append,
}
use Rattle.journal_model.specs.declared.rows.Row.{Row}
use Rattle.headline_law.proofs.WholeHeadlineLaw.{desk-WholeDeskHeadline}
use Rattle.turn_lock.specs.declared.rows.Replays.{Ghosts}
use Rattle.turn_lock.specs.declared.seats.Pass.{Pass}
use Rattle.turn_lock.specs.Rule.{IsHome}
use Rattle.turn_lock.specs.Shown.{lock_of, IsNew}
use Rattle.rd_desk.specs.calls.Shown.{Shown}
use Rattle.version_board.specs.Ends.{PublisherSeen, new_looker}
use Rattle.rd_seat.specs.declared.shared_desk.SharedDesk.{SharedDesk}
use Rattle.rd_seat.specs.Halls.{IsHistoryOfHall, HallsHoldHistory}
use Rattle.rd_seat.specs.Turns.{StandsAtTurn}
use Rattle.rd_seat.specs.Insides.{IsNewSeat, AreNewFrom}
use Rattle.rd_seat.specs.Seats.{HallSeen, SeatSeen, new_seat, new_seats}

-- a new pass and a new looker of one board make a new seat
new_pair : {T : Type 0} {g : Ghosts T Row (List ℕ)} (hall : HallSeen) (name : List ℕ) (n m : ℕ)
    (pass : Pass T Row (List ℕ) g) → n ≡ m → IsNew name hall.workers n pass → lock_of pass ≡ hall.id
    → IsNewSeat hall m pass (new_looker name)
new_pair hall name n m pass e it lock = record {
  fresh = record {
    number_is = it.number_is ∙ e;
    label_is = refl;
    passes_is = refl;
    idle = it.idle;
    seen = it.seen;
    mine = it.mine;
    slot = it.slot;
  };
  of_hall = λ i. record { id = lock i; workers = it.passes_is i };
  unseen = ap new_looker (sym it.label_is);
}

-- as many as there are passes
pub fresh-AreNewFrom : {T : Type 0} {g : Ghosts T Row (List ℕ)} (hall : HallSeen) (name : List ℕ)
    (n : ℕ) (passes : List (Pass T Row (List ℕ) g))
    → ((i : ℕ) (d : Pass T Row (List ℕ) g) → i < length passes
    → IsNew name hall.workers (n + i) (slice_index_or passes i d))
    → AllByRecursion (λ pass. lock_of pass ≡ hall.id) passes
    → AreNewFrom hall n passes (replicate (length passes) (new_looker name))
fresh-AreNewFrom hall name n [] new locks = tt
fresh-AreNewFrom {T} {g} hall name n (pass ∷ passes) new locks = (
  new_pair hall name (n + 0) n pass (omega arith) (new 0 pass (omega arith)) locks.0,
  fresh-AreNewFrom hall name (n + 1) passes
      (λ i d h. subst (λ (k : ℕ). IsNew name hall.workers k (slice_index_or passes i d))
      (let e : n + suc i ≡ n + 1 + i = omega arith in e) (new (suc i) d (omega (arith, h))))
      locks.1,
)

-- they are of that hall
pub new_seats-halls : (hall : HallSeen) (n : ℕ)
    → All (λ (s : SeatSeen). s.hall ≡ hall) (new_seats hall n)
new_seats-halls hall zero = All-nil (λ (s : SeatSeen). s.hall ≡ hall)
new_seats-halls hall (suc n) =
    All-append (λ (s : SeatSeen). s.hall ≡ hall) (new_seats hall n) (new_seat hall n ∷ [])
    (new_seats-halls hall n)
    (All-from_recursion (λ (s : SeatSeen). s.hall ≡ hall) (new_seat hall n ∷ []) (refl, tt))

-- where the first and the others are of one hall, so is each
pub first-of_hall : (hall : HallSeen) (s : SeatSeen) (seats : List SeatSeen)
    → All (λ (x : SeatSeen). x.hall ≡ hall) (s ∷ seats) → s.hall ≡ hall
first-of_hall hall s seats all = (recursion_from_All (λ (x : SeatSeen). x.hall ≡ hall)
    (s ∷ seats) all).0

pub others-of_hall : (hall : HallSeen) (s : SeatSeen) (seats : List SeatSeen)
    → All (λ (x : SeatSeen). x.hall ≡ hall) (s ∷ seats)
    → All (λ (x : SeatSeen). x.hall ≡ hall) seats
others-of_hall hall s seats all = All-from_recursion (λ (x : SeatSeen). x.hall ≡ hall) seats
    (recursion_from_All (λ (x : SeatSeen). x.hall ≡ hall) (s ∷ seats) all).1

-- ---- between two turns

-- what a desk stands for then is one history
stands-IsHistoryOfHall : (rows : List Row) (desk : Shown PublisherSeen) → StandsAtTurn rows desk
    → IsHistoryOfHall rows desk
stands-IsHistoryOfHall rows desk it = record {
  journal = it.turns.journal;
  no_look = it.turns.no_look;
  registrations = it.tables.directory.history;
  headline = desk-WholeDeskHeadline rows it.turns.journal;
  published = it.published;
}

-- whenever the turn is free, the rule has the desk at home
pub halls_hold_history : (g : Ghosts SharedDesk Row (List ℕ))
    → ((rows : List Row) (shared : SharedDesk) → g.stands rows shared
    → StandsAtTurn rows shared.desk.value)
    → HallsHoldHistory g
halls_hold_history g stands name workers s kept free =
    let home : IsHome g.stands g.number g.label name kept.history s.homes = kept.home free in
    record {
      shared = home.value;
      home = home.home;
      history =
          stands-IsHistoryOfHall kept.history home.value.desk.value
          (stands kept.history home.value home.stands_for);
    }
