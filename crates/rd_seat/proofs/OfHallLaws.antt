-- A seat stays one of its hall.
use Rattle.std.proofs.Common.{subst}
use Rattle.journal_model.specs.declared.rows.Row.{Row}
use Rattle.turn_lock.specs.Histories.{AllBelow}
use Rattle.turn_lock.specs.Shown.{seen_of}
use Rattle.rd_seat.specs.declared.shares.Share.{Share}
use Rattle.rd_seat.specs.Seats.{HallSeen, IsOfHall}
use Rattle.rd_seat.specs.Shares.{share_shown, GoesOnAs}

-- a share that goes on is of the same hall, and each row that it has seen is of one of its workers
pub goes_on-IsOfHall : (before after : Share) → GoesOnAs before after
    → IsOfHall (share_shown before).hall (share_shown after)
goes_on-IsOfHall before after it = record {
  is = it.hall;
  below = subst (λ (h : HallSeen). AllBelow (λ (r : Row). r.step.worker) h.workers
      (seen_of after.pass)) it.hall it.rest.below;
}
