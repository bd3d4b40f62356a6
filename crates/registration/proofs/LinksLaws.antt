-- Links that are read one after another, and a body whose links are read.
use Rattle.std.proofs.Common.{
  ◌≡◌,
  ℕ,
  ◌+◌,
  ◌≤◌,
  ◌<◌,
  ◌^◌,
  Bool,
  true,
  false,
  List,
  [],
  ◌∷◌,
  ◌++◌,
  length,
  map,
  Option,
  Some,
  None,
  option_map,
  is_none,
  is_some,
  Result,
  Ok,
  Err,
  refl,
  sym,
  ap,
  ◌∙◌,
  append_assoc,
  arith,
}
use Rattle.std.specs.List.{list_all}
use Rattle.std.proofs.lemmas.List.Folds.{list_all-append}
use Rattle.rd_base.specs.declared.records.Item.{Item}
use Rattle.rd_base.specs.declared.moments.Moment.{Moment}
use Rattle.rd_base.specs.declared.parameters.RegParams.{RegParams}
use Rattle.rd_base.specs.declared.peers.Peer.{Peer}
use Rattle.rd_base.specs.declared.submitted_links.SubmittedLink.{SubmittedLink}
use Rattle.record_model.specs.Bases.{registered_base}
use Rattle.record_model.specs.Bodies as bodies
use Rattle.record_model.specs.Bodies.{linked_references}
use Rattle.record_model.specs.BodyFaults.{
  no_document,
  not_limited,
  is_of_links,
  first_no_reference,
  reference_or_limited,
  body_fault,
}
use Rattle.link_model.specs.Documents.{Link, link_text}
use Rattle.link_model.specs.DocumentReading.{document, good_prefix}
use Rattle.link_model.specs.Quoting.{submitted_link, submitted_links}
use Rattle.record_model.specs.Records.{items_of, registered}
use Rattle.reference_model.specs.References.{IsReference}
use Rattle.record_model.specs.Refusals.{is_refused_as_links}
use Rattle.record_model.proofs.BodyLaws.{body_fault-links}
use Rattle.link_model.proofs.DocumentLaws.{document_found}
use Rattle.ref_resolve.specs.declared.components.Parts.{Parts}
use Rattle.ref_resolve.specs.ComponentsOfParts.{components_of}
use Rattle.registration.specs.Drafts.{drafted, has_references, recorded}
use Rattle.registration.specs.Links.{LinkReads, Reads, IsLinksFault, BodyReads, fault_from, room_of}
use Rattle.registration.specs.declared.drafts.Draft.{Draft}
use Rattle.registration.specs.declared.drafts.DraftFault.{DraftFault}
use Rattle.registration.specs.declared.drafts.DraftFault.TheVariants as fault
use Rattle.registration.proofs.FaultLaws.{
  fault_here,
  fault_of_all,
  fault_of_none,
  room_cons,
  room_bound,
}

-- ---- one link

-- the fault of a link that is left is that of all
pub links_refused : (base : Parts) (start index : ℕ) (unlimited : Option ℕ)
    (all left rest : List Link) (l : Link) (before : List Item) (e : DraftFault)
    → left ≡ l ∷ rest
    → fault_from start index unlimited left ≡ fault_from 0 0 None all
    → LinkReads base start l before (Err e)
    → IsLinksFault all e
links_refused base start index unlimited all left rest l before (fault.Links offset) first same h =
    absurd h
links_refused base start index unlimited all left rest l before (fault.Reference offset) first same
    h =
    sym (fault_of_all all)
    ∙ sym same
    ∙ ap (fault_from start index unlimited) first
    ∙ fault_here start index offset unlimited l rest h
links_refused base start index unlimited all left rest l before (fault.Limited link) first same h =
    absurd h
links_refused base start index unlimited all left rest l before fault.Starved first same h = tt

-- an item more
pub one_more : (xs ys : List Item) (x : Item) (rest all : List Item)
    → ys ≡ xs ++ x ∷ []
    → xs ++ (x ∷ rest) ≡ all
    → ys ++ rest ≡ all
one_more xs ys x rest all e h =
    ap (λ (zs : List Item). zs ++ rest) e ∙ append_assoc xs (x ∷ []) rest ∙ h

pub all_more : (xs ys : List Item) (x : Item)
    → ys ≡ xs ++ x ∷ []
    → list_all has_references xs ≡ true
    → has_references x ≡ true
    → list_all has_references ys ≡ true
all_more xs ys x e h k =
    let joined = list_all-append has_references xs (x ∷ []) in
    ap (list_all has_references) e ∙ (joined ∙ (rw (h, k) refl))

-- room after a link
pub room_behind : (start next all : ℕ) (left rest : List Link) (l : Link)
    → left ≡ l ∷ rest
    → next ≡ start + length (link_text l) + 1
    → start + room_of left ≤ all
    → next + room_of rest ≤ all
room_behind start next all left rest l first moved room =
    let e = ap room_of first ∙ room_cons l rest in omega (arith, e, moved, room)

-- ---- all links

-- after the last link the fault is that of the link that was noted
pub fault_at_end : (start index : ℕ) (unlimited : Option ℕ) (all left : List Link)
    → left ≡ []
    → fault_from start index unlimited left ≡ fault_from 0 0 None all
    → reference_or_limited (first_no_reference all) all ≡ option_map not_limited unlimited
fault_at_end start index unlimited all left none same =
    sym (fault_of_all all)
    ∙ sym same
    ∙ ap (fault_from start index unlimited) none
    ∙ fault_of_none start index unlimited

-- ---- the body

-- a document has room
pub document_room : (body : List ℕ) (links : List Link)
    → document body ≡ Some links
    → length body < 2 ^ 63
    → room_of links ≤ 2 ^ 63
document_room body links h small =
    let bound = room_bound links in
    let spelled = ap length (document_found body links h).spelled in
    omega (arith, bound, spelled, small)

-- the fault of a document is that of its links
pub fault_of_links : (body : List ℕ) (links : List Link)
    → document body ≡ Some links
    → body_fault body ≡ reference_or_limited (first_no_reference links) links
unfolding body_fault
fault_of_links body links h = rw h refl

pub fault_of_no_document : (body : List ℕ)
    → document body ≡ None
    → body_fault body ≡ Some (no_document (good_prefix body))
unfolding body_fault
fault_of_no_document body h = rw h refl

wrong : true ≡ false → ⊥
wrong e = cc

-- where a body has no fault, its links are taken
taken : (body : List ℕ) (links : List Link)
    → document body ≡ Some links
    → body_fault body ≡ None
    → linked_references body ≡ Some (map submitted_link links)
unfolding linked_references submitted_links is_refused_as_links
taken body links h good = by_test (list_all bodies.has_references (map submitted_link links)) refl
  where
    refused : is_none (linked_references body) ≡ false
    refused = sym (body_fault-links body) ∙ ap is_of_links good

    by_test : (b : Bool)
        → list_all bodies.has_references (map submitted_link links) ≡ b
        → linked_references body ≡ Some (map submitted_link links)
    by_test true e = rw (h, e) refl
    by_test false e = absurd (wrong (rw (h, e) at refused))

-- what is read of links is what is read of the body
pub body_reads : (base : Parts) (spelled body : List ℕ) (links : List Link)
    (r : Result (List Item) DraftFault)
    → document body ≡ Some links
    → IsReference spelled (components_of base)
    → Reads base links r
    → BodyReads spelled body r
body_reads base spelled body links (Ok items) h s read =
    let good = fault_of_links body links h ∙ read.good in
    record {
      good = good;
      items =
          ap (option_map (items_of spelled)) (taken body links h good)
          ∙ ap (λ (is : List Item). Some is) (sym (read.items spelled s));
      references = read.references;
    }
body_reads base spelled body links (Err (fault.Links offset)) h s read = absurd read
body_reads base spelled body links (Err (fault.Reference offset)) h s read =
    fault_of_links body links h ∙ read
body_reads base spelled body links (Err (fault.Limited link)) h s read =
    fault_of_links body links h ∙ read
body_reads base spelled body links (Err fault.Starved) h s read = tt

-- ---- the draft

-- the links of a body make a draft
pub drafts : (peer : Peer) (params : RegParams) (linked : Option (List SubmittedLink))
    (base : List ℕ) (given : Bool) (items : List Item)
    → base ≡ registered_base params.base peer
    → given ≡ is_some params.base
    → option_map (items_of base) linked ≡ Some items
    → option_map (drafted peer params) linked
    ≡ Some
    (record {
      name = params.name;
      lt = params.lt;
      base = base;
      base_given = given;
      attrs =
          params.attrs;
      items = items;
    })
unfolding drafted
drafts peer params None base given items e g h = cc
drafts peer params (Some links) base given items e g h =
    let same : items_of base links ≡ items = cc in rw (← e, ← g, same) refl

-- and the draft becomes the record of the registration
pub records : (number : ℕ) (now : Moment) (peer : Peer) (params : RegParams)
    (linked : Option (List SubmittedLink)) (draft : Draft)
    → option_map (drafted peer params) linked ≡ Some draft
    → option_map (registered number now peer params) linked ≡ Some (recorded number now draft)
unfolding drafted recorded registered
records number now peer params None draft h = cc
records number now peer params (Some links) draft h =
    let same : drafted peer params links ≡ draft = cc in
    ap (λ (d : Draft). Some (recorded number now d)) same
