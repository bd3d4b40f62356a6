-- Drafts, made of parameters and submitted links, and the records that they become (RFC 9176
-- section 5).
use Rattle.std.specs.Prelude.{◌≡◌, ⊤, ℕ, Bool, false, ◌&&◌, List, Some, is_some}
use Rattle.rd_base.specs.Peers.{IsHost}
use Rattle.rd_base.specs.declared.moments.Moment.{Moment}
use Rattle.rd_base.specs.declared.parameters.RegParams.{RegParams}
use Rattle.rd_base.specs.declared.peers.Peer.{Peer}
use Rattle.rd_base.specs.declared.records.Item.{Item}
use Rattle.rd_base.specs.declared.records.Record.{Record}
use Rattle.rd_base.specs.declared.submitted_links.SubmittedLink.{SubmittedLink}
use Rattle.record_model.specs.Bases.{registered_base}
use Rattle.record_model.specs.AllowedParameters.{AreAllowed}
use Rattle.record_model.specs.Bodies.{is_reference, linked_references}
use Rattle.record_model.specs.BodyFaults.{no_document, no_reference, not_limited, body_fault}
use Rattle.record_model.specs.Records.{items_of}
use Rattle.record_model.specs.Refusals.{is_refused_as_limited}
use Rattle.reference_model.specs.References.{where_present}
use Rattle.registration.specs.declared.drafts.Draft.{Draft}
use Rattle.registration.specs.declared.drafts.DraftFault.{DraftFault}
use Rattle.registration.specs.declared.drafts.DraftFault.TheVariants as fault

-- Returns the draft of a registration from a peer, with these parameters and these links.
unfoldable pub drafted : Peer → RegParams → List SubmittedLink → Draft
drafted peer params links = record {
  name = params.name;
  lt = params.lt;
  base = registered_base params.base peer;
  base_given = is_some params.base;
  attrs = params.attrs;
  items = items_of (registered_base params.base peer) links;
}

-- Returns the record that a draft becomes under a number, granted at a moment.
unfoldable pub recorded : ℕ → Moment → Draft → Record
recorded number now draft = record {
  number = number;
  name = draft.name;
  lt = draft.lt;
  granted = now;
  base = draft.base;
  base_given = draft.base_given;
  attrs = draft.attrs;
  items = draft.items;
}

-- Returns whether the target of a link is a URI-reference as it was submitted, and also its anchor
-- if it has one.
abbrev pub has_references : Item → Bool
has_references item = is_reference item.target_ref && where_present is_reference item.anchor_ref

-- States that a registration can give the draft (RFC 9176 section 5). It comes from a peer whose
-- numbers fit, has allowed parameters, and has the links of a body that is not refused.
pub record IsDraft (draft : Draft) : Type 0 where
  pub peer : Peer
  pub params : RegParams
  pub body : List ℕ
  pub links : List SubmittedLink
  pub fits : IsHost peer.host
  pub allowed : AreAllowed params
  pub read : linked_references body ≡ Some links
  pub limited : is_refused_as_limited body ≡ false
  pub made : draft ≡ drafted peer params links

-- States that the answer is the fault of the body. Running out of memory has no cause in the body.
abbrev pub IsFaultOf : List ℕ → DraftFault → Type 0
IsFaultOf body (fault.Links offset) = body_fault body ≡ Some (no_document offset)
IsFaultOf body (fault.Reference offset) = body_fault body ≡ Some (no_reference offset)
IsFaultOf body (fault.Limited link) = body_fault body ≡ Some (not_limited link)
IsFaultOf body fault.Starved = ⊤
