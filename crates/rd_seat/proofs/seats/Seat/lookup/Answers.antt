use Rattle.std.proofs.Common.{ℕ, List, subst}
use Rattle.rd_look.specs.Looking.{is_starved_look}
use Rattle.rd_seat.specs.Looks.{answer_held, IsJobOf}
use Rattle.rd_seat.specs.Seats.{LooksAtMet}
use Rattle.rd_seat.specs.Steps.{look_step}
use Rattle.rd_seat.proofs.seats.Seat.lookup.Goals as goal

-- the request that is answered is the one that is read of the datagram

pub returns-clause-looks : goal.returns-clause-looks
returns-clause-looks c =
    subst (λ (octets : List ℕ). LooksAtMet c.args.self.now (look_step c.args.self.now.worker
    c.args.now 0 c.args.peer octets c.args.self.now.drawn)
    (is_starved_look c.answer_look.result) c.answer_look.new.out
    (answer_held c.answer_look.result) c.answer_look.new.self)
    c.look_request-request.ensures.spelled c.answer_look.ensures.looks

pub returns-clause-job : goal.returns-clause-job
returns-clause-job c =
    subst (λ (octets : List ℕ). IsJobOf c.args.peer octets c.answer_look.result)
    c.look_request-request.ensures.spelled c.answer_look.ensures.job
