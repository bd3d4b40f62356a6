-- The entry of a history that a change of a version makes (RFC 9176 sections 5, 5.3, 5.3.1 and
-- 5.3.2). The worker is arbitrary.
use Rattle.std.specs.Prelude.{◌≡◌, ℕ, List}
use Rattle.rd_base.specs.declared.moments.Moment.{Moment}
use Rattle.rd_base.specs.declared.parameters.RegParams.{RegParams}
use Rattle.rd_base.specs.declared.parameters.UpdateParams.{UpdateParams}
use Rattle.rd_base.specs.declared.peers.Peer.{Peer}
use Rattle.rd_base.specs.declared.submitted_links.SubmittedLink.{SubmittedLink}
use Rattle.registration.specs.declared.drafts.Draft.{Draft}
use Rattle.registration.specs.Drafts.{drafted}
use Rattle.history_model.specs.declared.entries.Change.TheVariants as kind
use Rattle.history_model.specs.declared.entries.Entry.{Entry}

-- An entry that registers this draft at this moment: its parameters and links, with its peer, make
-- the draft.
pub record IsRegistrationOf (now : Moment) (draft : Draft) (entry : Entry) : Type 0 where
  pub params : RegParams
  pub links : List SubmittedLink
  pub moment : entry.moment ≡ now
  pub change : entry.change ≡ kind.Register params links
  pub made : draft ≡ drafted entry.peer params links

-- An entry that updates the registration with this number by these parameters, at this moment and
-- from this peer.
pub record IsUpdateOf (now : Moment) (number : ℕ) (given : UpdateParams) (peer : Peer)
    (entry : Entry) : Type 0 where
  pub moment : entry.moment ≡ now
  pub source : entry.peer ≡ peer
  pub change : entry.change ≡ kind.Update number given

-- An entry that gives these links to the registration with this number at this moment, from any
-- peer.
pub record IsReplacementOf (now : Moment) (number : ℕ) (links : List SubmittedLink)
    (entry : Entry) : Type 0 where
  pub moment : entry.moment ≡ now
  pub change : entry.change ≡ kind.Replace number links

-- An entry that removes the registration with this number at this moment.
pub record IsRemovalOf (now : Moment) (number : ℕ) (entry : Entry) : Type 0 where
  pub moment : entry.moment ≡ now
  pub change : entry.change ≡ kind.Remove number

-- An entry that begins a run above this number, at this moment.
pub record IsBeginning (now : Moment) (first : ℕ) (entry : Entry) : Type 0 where
  pub moment : entry.moment ≡ now
  pub change : entry.change ≡ kind.Begin first
