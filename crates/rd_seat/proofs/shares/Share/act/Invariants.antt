use Rattle.std.proofs.Common.{Some}
use Rattle.journal_model.specs.Journal.{entries_of}
use Rattle.turn_lock.specs.Shown.{seen_of}
use Rattle.rd_seat.specs.Actions.{action_row}
use Rattle.rd_seat.specs.Steps.{first_entry}
use Rattle.rd_seat.proofs.shares.Share.act.Given as goal

abbrev pub ghosts-give-S-Added : goal.ghosts-give-S-Added
ghosts-give-S-Added g a =
    record {
      added = Some (action_row (seen_of a.self.now.pass) g.place a._parts.now.mids.value
          a._parts.now.action.value a._parts.now.is_starved);
    }

abbrev pub ghosts-give-E-Entering : goal.ghosts-give-E-Entering
ghosts-give-E-Entering g a =
    record {
      entered = first_entry (entries_of (action_row (seen_of a.self.now.pass) g.place
          a._parts.now.mids.value a._parts.now.action.value a._parts.now.is_starved));
    }
