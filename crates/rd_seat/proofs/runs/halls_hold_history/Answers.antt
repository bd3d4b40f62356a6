use Rattle.rd_seat.proofs.HallLaws as laws
use Rattle.rd_seat.proofs.runs.halls_hold_history.Goals as goal

pub returns : goal.returns
returns c = laws.halls_hold_history _ (λ rows shared h. h)
