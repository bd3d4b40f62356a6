-- One turn of a seat: what its beginning finds, and what its end leaves.
use Rattle.std.specs.Prelude.{◌≡◌, ◌⊎◌, ℕ, true, false, List, ◌∷◌}
use Rattle.history_model.specs.declared.entries.Entry.{Entry}
use Rattle.history_model.specs.Live.{IsFront}
use Rattle.journal_model.specs.declared.rows.Row.{Row}
use Rattle.journal_model.specs.Journal.{entries}
use Rattle.journal_model.specs.Seats.{rows_of, GoesOn, Agree}
use Rattle.rd_desk.specs.calls.Shown.{Shown}
use Rattle.turn_lock.specs.declared.rows.Replays.{Ghosts}
use Rattle.turn_lock.specs.declared.seats.Pass.{Pass}
use Rattle.turn_lock.specs.Histories.{AllBelow}
use Rattle.turn_lock.specs.Shown.{lock_of, passes_of, number_of, label_of, is_holding}
use Rattle.turn_lock.specs.Shown.{seen_of, mine_of}
use Rattle.version_board.specs.Ends.{PublisherSeen, LookerSeen}
use Rattle.rd_seat.specs.Insides.{hall_of}
use Rattle.rd_seat.specs.Turns.{StandsAtTurn}

-- States that the looker has met what it had met before, or these entries.
abbrev pub HasMetOnly : List Entry → LookerSeen → LookerSeen → Type 0
HasMetOnly history before after = (after.seen ≡ before.seen) ⊎ (after.seen ≡ history)

module _ {T : Type 0} {g : Ghosts T Row (List ℕ)} where
  -- The beginning of a turn. The pass holds the turn and has seen the current journal, which
  -- continues what it had seen with rows of others. The looker has met what is published. Any
  -- prefix that the looker had met agrees with what is published: one of the two is a prefix of the
  -- other.
  pub record HasBegun (before after : Pass T Row (List ℕ) g) (was looker : LookerSeen)
      (desk : Shown PublisherSeen) : Type 0 where
    pub lock : lock_of after ≡ lock_of before
    pub hall : hall_of after ≡ hall_of before
    pub holding : is_holding after ≡ true
    pub number : number_of after ≡ number_of before
    pub label : label_of after ≡ label_of before
    pub goes_on : GoesOn (seen_of before) (seen_of after)
    pub mine : mine_of after ≡ mine_of before
    pub by_others : rows_of (number_of before) (seen_of after)
        ≡ rows_of (number_of before) (seen_of before)
    pub stands : StandsAtTurn (seen_of after) desk
    pub board : desk.board.name ≡ label_of before
    pub name : looker.name ≡ was.name
    pub met : IsFront was.seen looker.seen
    pub only : HasMetOnly (entries (seen_of after)) was looker
    pub order : (front : List Entry) → IsFront front was.seen
        → Agree front (entries (seen_of after))

  -- The end of a turn. The pass has given the turn back with one more row, and the looker has met
  -- the entries with that row.
  pub record HasEnded (r : Row) (before after : Pass T Row (List ℕ) g) (was looker : LookerSeen)
      : Type 0 where
    pub lock : lock_of after ≡ lock_of before
    pub hall : hall_of after ≡ hall_of before
    pub idle : is_holding after ≡ false
    pub number : number_of after ≡ number_of before
    pub label : label_of after ≡ label_of before
    pub seen : seen_of after ≡ r ∷ seen_of before
    pub mine : mine_of after ≡ r ∷ mine_of before
    pub own : mine_of after ≡ rows_of (number_of after) (seen_of after)
    pub below : AllBelow (λ (r : Row). r.step.worker) (passes_of after) (seen_of after)
    pub name : looker.name ≡ was.name
    pub met : IsFront was.seen looker.seen
    pub met_own : IsFront (entries (seen_of after)) looker.seen
    pub only : HasMetOnly (entries (seen_of after)) was looker
