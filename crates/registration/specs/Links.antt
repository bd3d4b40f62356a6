-- The links of a document, read one after another: the result, or the first fault of those that are
-- left.
use Rattle.std.specs.Prelude.{
  ◌≡◌,
  ⊤,
  ℕ,
  ◌+◌,
  Bool,
  true,
  false,
  not,
  ◌||◌,
  List,
  [],
  ◌∷◌,
  ◌++◌,
  length,
  map,
  find,
  sum_by,
  Option,
  Some,
  None,
  option_map,
  Result,
  Ok,
  Err,
  if◌then◌else◌,
}
use Rattle.std.specs.List.{list_all}
use Rattle.std.specs.String.{string_bytes}
use Rattle.rd_base.specs.Drafted.{Drafted, drafted}
use Rattle.rd_base.specs.declared.records.Item.{Item}
use Rattle.ref_resolve.specs.declared.components.Parts.{Parts}
use Rattle.ref_resolve.specs.ComponentsOfParts.{components_of}
use Rattle.record_model.specs.Bodies.{is_reference, is_limited, linked_references}
use Rattle.record_model.specs.BodyFaults.{
  BodyFault,
  no_reference,
  not_limited,
  TextAtOffset,
  link_references,
  first_no_reference,
  reference_or_limited,
  body_fault,
}
use Rattle.link_model.specs.Documents.{Link, link_text}
use Rattle.record_model.specs.Faults.{or_else}
use Rattle.link_model.specs.Quoting.{submitted_link}
use Rattle.record_model.specs.Records.{item_of, items_of}
use Rattle.reference_model.specs.References.{IsReference}
use Rattle.record_model.specs.Refusals.{first_unlimited}
use Rattle.registration.specs.Drafts.{has_references, IsFaultOf}
use Rattle.registration.specs.References.{IsReferred}
use Rattle.registration.specs.declared.drafts.DraftFault.{DraftFault}
use Rattle.registration.specs.declared.drafts.DraftFault.TheVariants as fault
use Rattle.registration.specs.declared.link_parameters.Anchor.{Anchor}
use Rattle.registration.specs.declared.links.Read.{Read}
use Rattle.registration.specs.declared.references.Referred.{Referred}

-- Returns the number of octets of links in a document, each with one octet more for a comma.
abbrev pub room_of : List Link → ℕ
room_of links = sum_by (λ l. length (link_text l) + 1) links

-- Returns the offset at which the first of these texts begins that is no URI-reference, if there is
-- one.
abbrev pub first_bad : List TextAtOffset → Option ℕ
first_bad references = option_map (λ r. r.0) (find (λ r. not (is_reference r.1)) references)

-- States what is written for an anchor against a base, and whether the anchor has a scheme. A fault
-- has the offset of the anchor.
abbrev pub AnchorReads : Parts → Option Anchor → List ℕ → Result (Option Bool) DraftFault → Type 0
AnchorReads base None referred (Ok None) = ⊤
AnchorReads base (Some anchor) referred (Ok (Some has_scheme)) =
    IsReferred base anchor.text referred has_scheme
AnchorReads base (Some anchor) referred (Err (fault.Reference offset)) =
    (offset ≡ anchor.offset) × (is_reference anchor.text ≡ false)
AnchorReads base anchor referred (Err fault.Starved) = ⊤
AnchorReads base anchor referred _ = ⊥

-- Returns a link with its target and its anchor as they were submitted, both against a base, and
-- the attributes that wait for it.
abbrev pub added : List ℕ → Option Anchor → Option Bool → Referred → Drafted → Item
added target_ref submitted has_scheme referred waiting = record {
  target_ref = target_ref;
  anchor_ref = option_map (λ a. a.text) submitted;
  target = string_bytes referred.target;
  anchor = option_map (λ _. string_bytes referred.anchor) has_scheme;
  raw = waiting.raw;
  pairs = waiting.pairs;
}

-- States that a link is read, which begins at this octet and comes after other links. Its target
-- and its anchor are URI-references.
pub record IsRead (base : Parts) (start : ℕ) (l : Link) (before : List Item) (read : Read) : Type 0
  where
    pub good : first_bad (link_references l) ≡ None
    pub more : Item
    pub builder : read.builder ≡ drafted (before ++ more ∷ []) [] []
    pub item : (spelled : List ℕ)
        → IsReference spelled (components_of base)
        → more ≡ item_of spelled (submitted_link l)
    pub references : has_references more ≡ true
    pub limited : read.is_limited ≡ is_limited (submitted_link l)
    pub end : read.end ≡ start + length (link_text l)

-- States the result of reading a link. A fault has the offset of the first text that is no
-- URI-reference.
abbrev pub LinkReads : Parts → ℕ → Link → List Item → Result Read DraftFault → Type 0
LinkReads base start l before (Ok read) = IsRead base start l before read
LinkReads base start l before (Err (fault.Reference offset)) =
    option_map (λ at. start + at) (first_bad (link_references l)) ≡ Some offset
LinkReads base start l before (Err fault.Starved) = ⊤
LinkReads base start l before (Err _) = ⊥

-- Returns the fault of links of which some are left, if there is one. It is that of the first text
-- that is no URI-reference among those left, which begin at this octet. Without such a text, it is
-- that of the first link that is not limited.
abbrev pub fault_with : ℕ → ℕ → Option ℕ → Option ℕ → Option ℕ → Option BodyFault
fault_with start index unlimited (Some offset) later = Some (no_reference (start + offset))
fault_with start index unlimited None later =
    option_map not_limited (or_else unlimited (option_map (λ n. index + n) later))

unfoldable pub fault_from : ℕ → ℕ → Option ℕ → List Link → Option BodyFault
fault_from start index unlimited links =
    fault_with start index unlimited (first_no_reference links)
    (first_unlimited (map submitted_link links))

-- Returns the index of the first link that is not limited, after one more link is read.
abbrev pub noted : ℕ → Bool → Option ℕ → Option ℕ
noted index limited unlimited = or_else unlimited (if limited then None else Some index)

-- Returns whether a link is limited: its target has a scheme, or it has no anchor with a scheme.
abbrev pub is_limited_as_referred : Bool → Option Bool → Bool
is_limited_as_referred target None = true
is_limited_as_referred target (Some anchor) = target || not anchor

-- States that this is the fault of the links. Running out of memory has no cause in them.
abbrev pub IsLinksFault : List Link → DraftFault → Type 0
IsLinksFault links (fault.Reference offset) =
    reference_or_limited (first_no_reference links) links ≡ Some (no_reference offset)
IsLinksFault links (fault.Limited link) =
    reference_or_limited (first_no_reference links) links ≡ Some (not_limited link)
IsLinksFault links fault.Starved = ⊤
IsLinksFault links (fault.Links offset) = ⊥

-- States that these are the links, read against the base, and that none has a fault.
pub record AreRead (base : Parts) (links : List Link) (read : List Item) : Type 0 where
  pub good : reference_or_limited (first_no_reference links) links ≡ None
  pub items : (spelled : List ℕ)
      → IsReference spelled (components_of base)
      → read ≡ items_of spelled (map submitted_link links)
  pub references : list_all has_references read ≡ true

-- States that these are the links of the body, read against the base, and that the body has no
-- fault.
pub record IsBody (base body : List ℕ) (read : List Item) : Type 0 where
  pub good : body_fault body ≡ None
  pub items : option_map (items_of base) (linked_references body) ≡ Some read
  pub references : list_all has_references read ≡ true

-- States that the result is the links of a body, or its fault.
abbrev pub BodyReads : List ℕ → List ℕ → Result (List Item) DraftFault → Type 0
BodyReads base body (Ok items) = IsBody base body items
BodyReads base body (Err fault) = IsFaultOf body fault

-- States that the result is the links, read against the base, or their first fault.
abbrev pub Reads : Parts → List Link → Result (List Item) DraftFault → Type 0
Reads base links (Ok items) = AreRead base links items
Reads base links (Err fault) = IsLinksFault links fault
