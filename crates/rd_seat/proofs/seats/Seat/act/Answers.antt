use Rattle.std.proofs.Common.{subst}
use Rattle.history_model.specs.Live.{IsFront}
use Rattle.rd_desk.specs.calls.Admitting.{is_starved_admission}
use Rattle.rd_seat.specs.Actions.{action_step}
use Rattle.rd_seat.specs.Seats.{SeatSeen, IsOfHall, MakesStep}
use Rattle.rd_seat.specs.Shares.{share_shown}
use Rattle.rd_seat.proofs.OfHallLaws.{goes_on-IsOfHall}
use Rattle.rd_seat.proofs.seats.Seat.act.Goals as goal

-- what it had met it has met still
pub returns-clause-met : goal.returns-clause-met
returns-clause-met g c = subst (λ (v : SeatSeen). IsFront v.met c.act.new.self.looker.seen)
    c.self.view_is c.act.ensures.turned.goes_on.met

-- its share made the row
pub returns-clause-made : goal.returns-clause-made
returns-clause-made g c =
    subst (λ (v : SeatSeen). MakesStep v (action_step v.worker g.place c.args.action v.drawn)
    (is_starved_admission c.act.result) c.act.new.out (share_shown c.act.new.self))
    c.self.view_is c.act.ensures.turned.made

-- it is of its hall still
pub returns-clause-of_hall : goal.returns-clause-of_hall
returns-clause-of_hall g c =
    subst (λ (v : SeatSeen). IsOfHall v.hall (share_shown c.act.new.self)) c.self.view_is
    (goes_on-IsOfHall _ _ c.act.ensures.turned.goes_on)
