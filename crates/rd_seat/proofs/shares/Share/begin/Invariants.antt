use Rattle.std.proofs.Common.{Some}
use Rattle.journal_model.specs.Journal.{entries_of}
use Rattle.journal_model.specs.Rows.{row}
use Rattle.rd_desk.specs.calls.Stepping.{is_starved_step}
use Rattle.turn_lock.specs.Shown.{seen_of}
use Rattle.rd_seat.specs.Steps.{begin_step, first_entry}
use Rattle.rd_seat.proofs.shares.Share.begin.Given as goal

abbrev pub ghosts-give-S-Added : goal.ghosts-give-S-Added
ghosts-give-S-Added g a =
    record {
      added = Some (row (seen_of a.self.now.pass)
          (begin_step a._parts.now.mids.value.worker a._parts.now.now a._parts.now.first
          a._parts.now.mids.value.drawn) (is_starved_step a._parts.now.stepped));
    }

abbrev pub ghosts-give-E-Entering : goal.ghosts-give-E-Entering
ghosts-give-E-Entering g a =
    record {
      entered = first_entry (entries_of (row (seen_of a.self.now.pass)
          (begin_step a._parts.now.mids.value.worker a._parts.now.now a._parts.now.first
          a._parts.now.mids.value.drawn) (is_starved_step a._parts.now.stepped)));
    }
