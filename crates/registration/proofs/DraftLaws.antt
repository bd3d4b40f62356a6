-- What a registration gives is a draft, and what is known of each draft.
use Rattle.std.proofs.Common.{
  ◌≡◌,
  ℕ,
  Bool,
  true,
  false,
  ◌&&◌,
  List,
  [],
  ◌∷◌,
  Option,
  Some,
  None,
  option_map,
  option_and_then,
  refl,
  sym,
  ap,
  subst,
  ◌∙◌,
}
use Rattle.std.specs.Prelude.{if◌then◌else◌, IfSome}
use Rattle.std.specs.List.{list_all}
use Rattle.rd_base.specs.declared.parameters.RegParams.{RegParams}
use Rattle.rd_base.specs.declared.peers.Peer.{Peer}
use Rattle.rd_base.specs.declared.submitted_links.SubmittedLink.{SubmittedLink}
use Rattle.rd_base.specs.Peers.{IsHost}
use Rattle.link_model.specs.Quoting.{submitted_links}
use Rattle.record_model.specs.AllowedParameters.{IsAllowedLifetime, AreAllowed}
use Rattle.record_model.specs.Bases.{registered_base}
use Rattle.record_model.specs.Bodies as bodies
use Rattle.record_model.specs.Bodies.{linked_references}
use Rattle.record_model.specs.BodyFaults.{body_fault, is_of_limits}
use Rattle.record_model.specs.Parameters.{is_base}
use Rattle.record_model.specs.Records.{item_of, items_of}
use Rattle.record_model.specs.Refusals.{is_refused_as_limited}
use Rattle.record_model.proofs.BodyLaws.{body_fault-limited}
use Rattle.record_model.proofs.PeerBases.{is_base-base_of}
use Rattle.registration.specs.declared.drafts.Draft.{Draft}
use Rattle.registration.specs.Drafts.{IsDraft, drafted, has_references}
use Rattle.registration.specs.Submissions.{all_submitted, AreOfBody}
use Rattle.registration.proofs.SubmissionLaws.{submitted_items}

-- a body without a fault is not refused as limited
pub not_limited : (body : List ℕ) → body_fault body ≡ None → is_refused_as_limited body ≡ false
not_limited body good = sym (body_fault-limited body) ∙ ap is_of_limits good

-- what allowed parameters and a body without a fault make is a draft
pub is_draft : (peer : Peer) (params : RegParams) (body : List ℕ) (draft : Draft)
    → IsHost peer.host
    → AreAllowed params
    → body_fault body ≡ None
    → option_map (drafted peer params) (linked_references body) ≡ Some draft → IsDraft draft
is_draft peer params body draft fits allowed good h = by_links (linked_references body) refl h
  where
    by_links : (o : Option (List SubmittedLink))
        → linked_references body ≡ o
        → option_map (drafted peer params) o ≡ Some draft
        → IsDraft draft
    by_links None e h = cc
    by_links (Some links) e h = record {
      peer = peer;
      params = params;
      body = body;
      links = links;
      fits = fits;
      allowed = allowed;
      read = e;
      limited = not_limited body good;
      made = let same : drafted peer params links ≡ draft = cc in sym same;
    }

-- ---- what is known of each draft

base_so : (given : Option (List ℕ)) (peer : Peer)
    → IsHost peer.host
    → IfSome given (λ base. is_base base ≡ true)
    → is_base (registered_base given peer) ≡ true
base_so None peer fits h = is_base-base_of peer fits
base_so (Some base) peer fits h = h

-- its base is one
pub draft_base : (draft : Draft) → IsDraft draft → is_base draft.base ≡ true
unfolding drafted
draft_base draft h =
    ap (λ (d : Draft). is_base d.base) h.made ∙ base_so h.params.base h.peer h.fits h.allowed.base

-- its lifetime is not 0
pub draft_lifetime : (draft : Draft) → IsDraft draft → IsAllowedLifetime draft.lt
unfolding drafted
draft_lifetime draft h = subst (λ (d : Draft). IsAllowedLifetime d.lt) (sym h.made) h.allowed.lt

pub same_references : (base : List ℕ) (links : List SubmittedLink)
    → list_all has_references (items_of base links) ≡ list_all bodies.has_references links
unfolding item_of
same_references base [] = refl
same_references base (link ∷ links) =
    ap (λ b. bodies.has_references link && b) (same_references base links)

all_taken : (b : Bool) (all links : List SubmittedLink)
    → list_all bodies.has_references all ≡ b
    → (if b then Some all else None) ≡ Some links
    → list_all bodies.has_references links ≡ true
all_taken true all links e h =
    let same : all ≡ links = cc in ap (list_all bodies.has_references) (sym same) ∙ e
all_taken false all links e h = cc

linked_so : (submitted : Option (List SubmittedLink)) (links : List SubmittedLink)
    → option_and_then (λ all. if list_all bodies.has_references all then Some all else None)
    submitted
    ≡ Some links
    → list_all bodies.has_references links ≡ true
linked_so None links h = cc
linked_so (Some all) links h = all_taken (list_all bodies.has_references all) all links refl h

pub references_so : (body : List ℕ) (links : List SubmittedLink)
    → linked_references body ≡ Some links
    → list_all bodies.has_references links ≡ true
unfolding linked_references
references_so body links h = linked_so (submitted_links body) links h

-- its targets and anchors are references as they were submitted
pub draft_references : (draft : Draft) → IsDraft draft → list_all has_references draft.items ≡ true
unfolding drafted
draft_references draft h =
    ap (λ (d : Draft). list_all has_references d.items) h.made
    ∙ same_references (registered_base h.params.base h.peer) h.links
    ∙ references_so h.body h.links h.read

-- its links are those of a body that is not refused
pub draft_of_body : (draft : Draft) → IsDraft draft → AreOfBody draft.items
unfolding drafted
draft_of_body draft h = record {
  body = h.body;
  read =
      h.read
      ∙ ap (λ (links : List SubmittedLink). Some links)
      (sym (ap (λ (d : Draft). all_submitted d.items) h.made
      ∙ submitted_items (registered_base h.params.base h.peer) h.links));
  limited = h.limited;
}
