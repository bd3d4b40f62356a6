use Rattle.std.proofs.Common.{subst}
use Rattle.message_model.specs.Spelling.{spelling}
use Rattle.history_model.specs.Live.{IsFront}
use Rattle.rd_request.specs.Accepted.{message_of}
use Rattle.rd_look.specs.Looking.{is_starved_look}
use Rattle.rd_seat.specs.Looks.{answer_held}
use Rattle.rd_seat.specs.Seats.{SeatSeen, IsOfHall, LooksAtMet}
use Rattle.rd_seat.specs.Shares.{share_shown}
use Rattle.rd_seat.specs.Steps.{look_step}
use Rattle.rd_seat.proofs.OfHallLaws.{goes_on-IsOfHall}
use Rattle.rd_seat.proofs.seats.Seat.answer_look.Goals as goal

-- what it had met it has met still
pub returns-clause-met : goal.returns-clause-met
returns-clause-met c = subst (λ (v : SeatSeen). IsFront v.met c.look.new.self.looker.seen)
    c.self.view_is c.look.ensures.looked.goes_on.met

-- its share looked
pub returns-clause-looks : goal.returns-clause-looks
returns-clause-looks c =
    subst (λ (v : SeatSeen). LooksAtMet v (look_step v.worker c.args.now 0 c.args.peer
    (spelling (message_of c.args.request.now)) v.drawn) (is_starved_look
    c.look.result) c.look.new.out
    (answer_held c.look.result) (share_shown c.look.new.self)) c.self.view_is
    c.look.ensures.looked.looks

-- it is of its hall still
pub returns-clause-of_hall : goal.returns-clause-of_hall
returns-clause-of_hall c =
    subst (λ (v : SeatSeen). IsOfHall v.hall (share_shown c.look.new.self)) c.self.view_is
    (goes_on-IsOfHall _ _ c.look.ensures.looked.goes_on)
