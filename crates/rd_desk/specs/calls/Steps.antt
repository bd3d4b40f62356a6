-- Calls as the steps of a journal: what each requires, and what it leaves.
use Rattle.std.specs.Prelude.{◌≡◌, ℕ, false, List, ◌∷◌}
use Rattle.rd_base.specs.declared.moments.Moment.{Moment}
use Rattle.rd_base.specs.declared.peers.Peer.{Peer}
use Rattle.journal_model.specs.declared.steps.Step.{Step}
use Rattle.journal_model.specs.declared.rows.Row.{Row}
use Rattle.journal_model.specs.DeskJournal.{IsDeskJournal, NoLaterLook}
use Rattle.journal_model.specs.Journal.{is_look}
use Rattle.journal_model.specs.UnfinishedRow.{drawing}
use Rattle.coap_answers.specs.declared.mids.Mids.{Mids}
use Rattle.rd_desk.specs.calls.Desks.{Seen, StandsFor}

-- The call of a step that is not a look, after a journal that the desk stands for. The step has the
-- moment and the Message IDs that are passed in. No look in the journal was later than that moment.
pub record IsCalled (rows : List Row) (s : Step) (now : Moment) (mids : Mids) (desk : Seen) : Type 0
  where
    pub journal : IsDeskJournal rows
    pub no_later_look : NoLaterLook now.0 rows
    pub no_look : is_look s.kind ≡ false
    pub stands : StandsFor rows desk
    pub handed : s.handed.0 ≡ now.0
    pub worker : s.worker ≡ mids.worker
    pub drawn : s.drawn ≡ mids.drawn

-- A step that was made. The desk stands for the journal with its row, and the call sent and drew
-- what the row says.
pub record Made (rows : List Row) (r : Row) (desk : Seen) (out : List (Peer × List ℕ))
    (mids_before mids : Mids) : Type 0 where
  pub stands : StandsFor (r ∷ rows) desk
  pub sent : out ≡ r.sent
  pub worker : mids.worker ≡ mids_before.worker
  pub drawn : mids.drawn ≡ drawing r.drew mids_before.drawn
