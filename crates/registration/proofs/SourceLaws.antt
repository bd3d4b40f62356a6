-- The source of links is a body of these links: a link document that is read as they are.
use Rattle.std.proofs.Common.{
  ◌≡◌,
  ℕ,
  true,
  false,
  List,
  map,
  Option,
  Some,
  None,
  option_map,
  option_and_then,
  is_none,
  if◌then◌else◌,
  refl,
  sym,
  ap,
  ◌∙◌,
  subst,
}
use Rattle.std.specs.Prelude.{Bool, not, bytes_eq, IsUtf8}
use Rattle.std.specs.List.{list_all}
use Rattle.std.proofs.lemmas.Slice.Eq.{bytes_eq-Decides}
use Rattle.rd_base.specs.declared.records.Item.{Item}
use Rattle.rd_base.specs.declared.records.Record.{Record}
use Rattle.rd_base.specs.declared.submitted_links.SubmittedLink.{SubmittedLink}
use Rattle.rd_base.specs.LinkLines.{submitted}
use Rattle.rd_base.proofs.lemmas.Options.{some_same, none_some}
use Rattle.link_model.specs.Documents.{Link}
use Rattle.link_model.specs.DocumentReading.{document}
use Rattle.link_model.specs.Quoting.{submitted_link, submitted_links}
use Rattle.link_model.proofs.DocumentLaws.{document_found}
use Rattle.record_model.specs.Bodies as bodies
use Rattle.record_model.specs.Bodies.{linked_references}
use Rattle.record_model.specs.BodyFaults.{
  BodyFault,
  no_document,
  no_reference,
  not_limited,
  body_fault,
  is_of_links,
  is_of_limits,
}
use Rattle.record_model.specs.Records.{items_of}
use Rattle.record_model.specs.Refusals.{
  is_unlimited,
  is_refused_as_links,
  is_refused_as_limited,
}
use Rattle.record_model.proofs.BodyLaws.{body_fault-links, body_fault-limited}
use Rattle.registration.specs.Drafts.{has_references}
use Rattle.registration.specs.Links.{IsBody}
use Rattle.registration.specs.Submissions.{all_submitted, AreOfBody, IsOfBody}
use Rattle.registration.proofs.DraftLaws.{same_references, references_so}
use Rattle.registration.proofs.RewrittenLaws.{source_reads}
use Rattle.registration.proofs.SubmissionLaws.{against_submitted}

-- octets of which a test says that they do not differ
pub same_octets : (xs ys : List ℕ) (differ : Bool)
    → differ ≡ not (bytes_eq xs ys)
    → differ ≡ false
    → xs ≡ ys
same_octets xs ys differ is off = (bytes_eq-Decides xs ys).0 (by (bytes_eq xs ys) (sym is ∙ off))
  where
    by : (b : Bool) → not b ≡ false → b ≡ true
    by true h = refl
    by false h = cc

-- the links of a body, of which all targets and anchors are references
abbrev referring : Option (List SubmittedLink) → Option (List SubmittedLink)
referring o =
    option_and_then (λ links. if list_all bodies.has_references links then Some links else None) o

taken : (b : Bool) (all links : List SubmittedLink)
    → (if b then Some all else None) ≡ Some links
    → all ≡ links
taken true all links h = some_same h
taken false all links h = absurd (none_some h)

-- the links that the body has
record HasLinks (body : List ℕ) (links : List SubmittedLink) : Type 0 where
  document_links : List Link
  found : document body ≡ Some document_links
  same : map submitted_link document_links ≡ links

has_links : (body : List ℕ) (links : List SubmittedLink)
    → linked_references body ≡ Some links
    → HasLinks body links
unfolding linked_references submitted_links
has_links body links h = by (document body) refl h
  where
    by : (o : Option (List Link))
        → document body ≡ o
        → referring (option_map (map submitted_link) o) ≡ Some links
        → HasLinks body links
    by None e k = absurd (none_some k)
    by (Some ls) e k = record {
      document_links = ls;
      found = e;
      same =
          taken (list_all bodies.has_references (map submitted_link ls)) (map submitted_link ls)
          links k;
    }

-- the source of links of a body has the same links
pub source_submitted : (items : List Item)
    → AreOfBody items
    → IsUtf8 (submitted items)
    → submitted_links (submitted items) ≡ Some (all_submitted items)
source_submitted items h utf8 =
    let has = has_links h.body (all_submitted items) h.read in
    source_reads has.document_links items (document_found h.body has.document_links has.found).each
    (sym has.same) utf8
    ∙ ap (λ (links : List SubmittedLink). Some links) has.same

pub source_linked : (items : List Item)
    → AreOfBody items
    → IsUtf8 (submitted items)
    → linked_references (submitted items) ≡ Some (all_submitted items)
unfolding linked_references
source_linked items h utf8 =
    ap referring (source_submitted items h utf8)
    ∙ ap (λ (b : Bool). if b then Some (all_submitted items) else None)
    (references_so h.body (all_submitted items) h.read)

-- a body with no fault of its links and none of the limits has none
no_fault : (fault : Option BodyFault)
    → is_of_links fault ≡ false
    → is_of_limits fault ≡ false
    → fault ≡ None
no_fault None a b = refl
no_fault (Some (no_document offset)) a b = absurd cc
no_fault (Some (no_reference offset)) a b = absurd cc
no_fault (Some (not_limited index)) a b = absurd cc

source_limited : (items : List Item)
    → AreOfBody items
    → IsUtf8 (submitted items)
    → is_refused_as_limited (submitted items) ≡ false
unfolding is_refused_as_limited
source_limited items h utf8 =
    ap is_unlimited (source_linked items h utf8 ∙ sym h.read) ∙ h.limited

source_refused : (items : List Item)
    → AreOfBody items
    → IsUtf8 (submitted items)
    → is_refused_as_links (submitted items) ≡ false
unfolding is_refused_as_links
source_refused items h utf8 = ap is_none (source_linked items h utf8)

pub source_good : (items : List Item)
    → AreOfBody items
    → IsUtf8 (submitted items)
    → body_fault (submitted items) ≡ None
source_good items h utf8 =
    no_fault (body_fault (submitted items))
    (body_fault-links (submitted items) ∙ source_refused items h utf8)
    (body_fault-limited (submitted items) ∙ source_limited items h utf8)

-- the source of a record is read against its base as its links
pub source_body : (r : Record)
    → IsOfBody r
    → IsUtf8 (submitted r.items)
    → IsBody r.base (submitted r.items) r.items
source_body r h utf8 =
    let linked = source_linked r.items h.links utf8 in
    let same : items_of r.base (all_submitted r.items) ≡ r.items =
    sym (against_submitted r.base r.items) ∙ h.against in
    record {
      good = source_good r.items h.links utf8;
      items =
          ap (option_map (items_of r.base)) linked ∙ ap (λ (items : List Item). Some items) same;
      references =
          ap (list_all has_references) (sym same)
          ∙ same_references r.base (all_submitted r.items)
          ∙ references_so (submitted r.items) (all_submitted r.items) linked;
    }

-- so is a body that is the source, against a base that is that of the record
pub source_again : (r : Record) (base body : List ℕ) (items : List Item)
    → IsOfBody r
    → IsUtf8 (submitted r.items)
    → base ≡ r.base
    → body ≡ submitted r.items
    → items ≡ r.items
    → IsBody base body items
source_again r base body items h utf8 bases bodies same =
    subst (λ (b : List ℕ). IsBody b body items) (sym bases)
    (subst (λ (b : List ℕ). IsBody r.base b items) (sym bodies)
    (subst (λ (is : List Item). IsBody r.base (submitted r.items) is) (sym same)
    (source_body r h utf8)))
