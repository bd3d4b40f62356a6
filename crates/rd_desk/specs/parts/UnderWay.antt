-- A step in progress: what was done of its row so far, and the desk, the outbox and the Message IDs
-- after that.
use Rattle.std.specs.Prelude.{◌≡◌, ℕ, Bool, false, List}
use Rattle.rd_base.specs.declared.peers.Peer.{Peer}
use Rattle.journal_model.specs.declared.steps.Step.{Step}
use Rattle.journal_model.specs.declared.rows.Row.{Row}
use Rattle.journal_model.specs.DeskJournal.{IsDeskJournal, NoLaterLook}
use Rattle.journal_model.specs.Journal.{is_look}
use Rattle.journal_model.specs.Effects.{Effects}
use Rattle.journal_model.specs.UnfinishedRow.{making, drawing}
use Rattle.coap_answers.specs.declared.mids.Mids.{Mids}
use Rattle.coap_answers.specs.Sendings.{AreRequestsSent}
use Rattle.rd_desk.specs.calls.Desks.{Seen, StandsFor}

-- A step in progress after a journal of a desk. The desk stands for the journal with a row that did
-- this so far, and the outbox and the Message IDs agree with it. The row sent the requests of
-- fetches that it noted.
pub record UnderWay (rows : List Row) (s : Step) (starved : Bool) (done : Effects) (desk : Seen)
    (out : List (Peer × List ℕ)) (mids : Mids) : Type 0 where
  pub journal : IsDeskJournal rows
  pub no_later_look : NoLaterLook s.handed.0 rows
  pub no_look : is_look s.kind ≡ false
  pub stands : StandsFor (making rows s starved done) desk
  pub requests : AreRequestsSent done
  pub sent : out ≡ done.sent
  pub worker : mids.worker ≡ s.worker
  pub drawn : mids.drawn ≡ drawing done.drew s.drawn
