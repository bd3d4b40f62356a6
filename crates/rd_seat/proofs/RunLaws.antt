-- What a seat shows after any calls.
use Rattle.std.proofs.Common.{◌≡◌, ℕ, Bool, List, [], ◌∷◌, Option, refl, sym, ap, subst, ◌∙◌}
use Rattle.std.specs.List.{AllByRecursion}
use Rattle.std.proofs.lemmas.List.Elements.{All-nil, All-from_recursion, recursion_from_All}
use Rattle.rd_base.proofs.lemmas.Each.{each_weaker}
use Rattle.rd_base.specs.declared.peers.Peer.{Peer}
use Rattle.event_model.specs.KeptAnswers.{Answer}
use Rattle.history_model.specs.declared.entries.Entry.{Entry}
use Rattle.history_model.specs.Live.{IsFront}
use Rattle.journal_model.specs.declared.rows.Row.{Row}
use Rattle.journal_model.specs.declared.steps.Step.{Step}
use Rattle.journal_model.specs.Journal.{entries}
use Rattle.journal_model.specs.Rows.{row}
use Rattle.journal_model.specs.Seats.{Seat, IsSeat, MakesRow, LooksFrom}
use Rattle.journal_model.proofs.SeatLaws.{
  IsFront-refl,
  IsFront-trans,
  new_seat-IsSeat,
  makes_row-IsSeat,
  looks_from-IsSeat,
}
use Rattle.rd_seat.specs.Seats.{HallSeen, SeatSeen, seat_of, new_seat, MayHaveShown}
use Rattle.rd_seat.specs.Seats.{MakesStep, LooksAtMet}
use Rattle.rd_seat.specs.Runs.{
  Call,
  turn,
  look,
  HasCalled,
  begun,
  turned,
  looked,
  rows_made,
  fronts_shown,
  FrontsGoOn,
  SeatsAreSeats,
}

-- the same, with the fronts that it may have shown, and that all of its looks were from fronts of
-- what it has met
record After (calls : List Call) (seat : SeatSeen) : Type 0 where
  pub shown : List (List Entry)
  pub front : List Entry
  pub may : MayHaveShown seat shown front
  pub is_seat : IsSeat (seat_of seat shown front)
  pub rows : seat.mine ≡ rows_made calls
  pub fronts : FrontsGoOn calls
  pub all : AllByRecursion (λ f. IsFront f seat.met) (fronts_shown calls)

-- fronts of what was met are fronts of what is met later
still_met : (met later : List Entry) → IsFront met later → (fronts : List (List Entry))
    → AllByRecursion (λ f. IsFront f met) fronts → AllByRecursion (λ f. IsFront f later) fronts
still_met met later grows fronts all = each_weaker (λ f. IsFront f met) (λ f. IsFront f later)
    (λ f begins. IsFront-trans f met later begins grows) fronts all

-- the first of some rows
abbrev first_of : Row → List Row → Row
first_of none [] = none
first_of none (r ∷ rows) = r

after_begun : (hall : HallSeen) (worker : ℕ) → After [] (new_seat hall worker)
after_begun hall worker = record {
  shown = [];
  front = [];
  may = record {
    all_met = All-nil (λ (f : List Entry). IsFront f []);
    front_met =
        IsFront-refl [];
  };
  is_seat = new_seat-IsSeat worker;
  rows = refl;
  fronts = tt;
  all = tt;
}

after_turn : (calls : List Call) (before after : SeatSeen) (r : Row) (found : List Row) (s : Step)
    (starved : Bool) (sent : List (Peer × List ℕ))
    → After calls before → IsFront before.met after.met → MakesStep before s starved sent after
    → after.seen ≡ r ∷ found → After (turn r ∷ calls) after
unfolding row
after_turn calls before after r found s starved sent b grows makes seen =
    let made : MakesRow (seat_of before b.shown b.front) s starved sent
    (seat_of after [] b.front) = makes b.shown b.front b.may in
    let is : row made.found s starved ≡ r = ap (first_of r)
    (sym (ap (λ (seat : Seat). seat.seen) made.seat) ∙ seen) in
    record {
      shown = [];
      front = b.front;
      may = record {
        all_met = All-nil (λ (f : List Entry). IsFront f after.met);
        front_met =
            IsFront-trans b.front before.met after.met b.may.front_met grows;
      };
      is_seat = makes_row-IsSeat (seat_of before b.shown b.front)
          (seat_of after [] b.front) s starved sent b.is_seat made;
      rows = ap (λ (seat : Seat). seat.mine) made.seat ∙ (λ i. is i ∷ b.rows i);
      fronts = b.fronts;
      all = still_met before.met after.met grows (fronts_shown calls) b.all;
    }

after_look : (calls : List Call) (before after : SeatSeen) (s : Step) (starved : Bool)
    (sent : List (Peer × List ℕ)) (held : Option Answer)
    → After calls before → IsFront before.met after.met
    → LooksAtMet before s starved sent held after
    → After (look before.seen after.met ∷ calls) after
after_look calls before after s starved sent held b grows looks =
    let shown : List (List Entry) = after.met ∷ b.shown in
    let it : LooksFrom (seat_of before b.shown b.front) s starved sent held
    (seat_of after shown after.met) = looks b.shown b.front b.may in
    let from : it.front ≡ after.met = sym (ap (λ (seat : Seat). seat.front) it.seat) in
    record {
      shown = shown;
      front = after.met;
      may = record {
        all_met = All-from_recursion (λ (f : List Entry). IsFront f after.met) shown (
          IsFront-refl after.met,
          still_met before.met after.met grows b.shown
              (recursion_from_All (λ (f : List Entry). IsFront f before.met) b.shown
              b.may.all_met),
        );
        front_met = IsFront-refl after.met;
      };
      is_seat = looks_from-IsSeat (seat_of before b.shown b.front)
          (seat_of after shown after.met) s starved sent held b.is_seat it;
      rows = ap (λ (seat : Seat). seat.mine) it.seat ∙ b.rows;
      fronts = (
        subst (λ (f : List Entry). IsFront (entries before.seen) f) from it.holds_seen,
        still_met before.met after.met grows (fronts_shown calls) b.all,
        b.fronts,
      );
      all = (
        IsFront-refl after.met,
        still_met before.met after.met grows
            (fronts_shown calls) b.all,
      );
    }

after_calls : (hall : HallSeen) (worker : ℕ) (calls : List Call) (seat : SeatSeen)
    → HasCalled hall worker calls seat → After calls seat
after_calls hall worker [] seat begun = after_begun hall worker
after_calls hall worker (c ∷ earlier) seat (turned {calls} {before} r found s starved sent later
    run grows makes seen) =
    after_turn calls before seat r found s starved sent (after_calls hall worker calls before run)
    grows makes seen
after_calls hall worker (c ∷ earlier) seat (looked {calls} {before} s starved sent held later run
    grows looks) =
    after_look calls before seat s starved sent held (after_calls hall worker calls before run)
    grows looks

-- each seat is one of the journal, whatever its calls
pub seats_are_seats : SeatsAreSeats
seats_are_seats hall worker calls seat run =
    let it : After calls seat = after_calls hall worker calls seat run in
    record {
      shown = it.shown;
      front = it.front;
      is_seat = it.is_seat;
      rows = it.rows;
      fronts =
          it.fronts;
    }
