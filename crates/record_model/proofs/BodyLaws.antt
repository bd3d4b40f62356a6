-- The fault of a body agrees with what is refused as `links` and as `limited`.
use Rattle.std.proofs.Common.{
  ◌≡◌,
  ℕ,
  ◌+◌,
  Bool,
  true,
  false,
  not,
  ◌&&◌,
  List,
  [],
  ◌∷◌,
  ◌++◌,
  length,
  map,
  find,
  Option,
  Some,
  None,
  option_map,
  option_and_then,
  is_none,
  is_some,
  if◌then◌else◌,
  refl,
  ap,
  ◌∙◌,
}
use Rattle.std.specs.List.{list_all}
use Rattle.std.proofs.Math.Bool.{and-true}
use Rattle.rd_base.specs.declared.submitted_links.SubmittedLink.{SubmittedLink}
use Rattle.reference_model.specs.References.{where_present}
use Rattle.link_model.specs.Documents.{Parameter, Link, parameter_text, link_text}
use Rattle.link_model.specs.DocumentReading.{document}
use Rattle.link_model.specs.Quoting.{value_of, is_anchor, submitted_link, submitted_links}
use Rattle.record_model.specs.Bodies.{is_reference, has_references, linked_references}
use Rattle.record_model.specs.Refusals.{
  first_unlimited,
  is_unlimited,
  is_refused_as_links,
  is_refused_as_limited,
}
use Rattle.record_model.specs.BodyFaults.{
  not_limited,
  TextAtOffset,
  shifted,
  anchor_offset,
  link_references,
  references_of,
  first_no_reference,
  reference_or_limited,
  document_or_links,
  body_fault,
  is_of_links,
  is_of_limits,
}

-- a text at an offset is a reference
abbrev is_reference_there : TextAtOffset → Bool
is_reference_there r = is_reference r.1

abbrev are_references : List TextAtOffset → Bool
are_references rs = list_all is_reference_there rs

and_assoc : (a b c : Bool) → (a && (b && c)) ≡ ((a && b) && c)
and_assoc true b c = refl
and_assoc false b c = refl

are_references-append : (rs ss : List TextAtOffset)
    → are_references (rs ++ ss) ≡ (are_references rs && are_references ss)
are_references-append [] ss = refl
are_references-append (r ∷ rs) ss =
    ap (λ b. is_reference_there r && b) (are_references-append rs ss)
    ∙ and_assoc (is_reference_there r) (are_references rs) (are_references ss)

-- where a text stands says nothing of it
are_references-shifted : (n : ℕ) (rs : List TextAtOffset)
    → are_references (shifted n rs) ≡ are_references rs
are_references-shifted n [] = refl
are_references-shifted n (r ∷ rs) =
    ap (λ b. is_reference_there r && b) (are_references-shifted n rs)

-- the anchor that has an offset is the anchor
anchor_where : (b : Bool) (p : Parameter) (parameters : List Parameter)
    → is_anchor p ≡ b
    → are_references (anchor_offset parameters)
    ≡ where_present is_reference (option_map value_of (find is_anchor parameters))
    → are_references (anchor_offset (p ∷ parameters))
    ≡ where_present is_reference (option_map value_of (find is_anchor (p ∷ parameters)))
anchor_where true p parameters e same = rw e (and-true (is_reference (value_of p)))
anchor_where false p parameters e same =
    rw e (are_references-shifted (length (parameter_text p)) (anchor_offset parameters) ∙ same)

anchor_same : (parameters : List Parameter)
    → are_references (anchor_offset parameters)
    ≡ where_present is_reference (option_map value_of (find is_anchor parameters))
anchor_same [] = refl
anchor_same (p ∷ parameters) = anchor_where (is_anchor p) p parameters refl (anchor_same parameters)

-- the references of a link are its target and its anchor
link_same : (l : Link) → are_references (link_references l) ≡ has_references (submitted_link l)
unfolding submitted_link
link_same l =
    ap (λ b. is_reference l.target && b)
    (are_references-shifted (length l.target + 2) (anchor_offset l.parameters)
    ∙ anchor_same l.parameters)

links_same : (links : List Link)
    → are_references (references_of links) ≡ list_all has_references (map submitted_link links)
unfolding references_of
links_same [] = refl
links_same (l ∷ links) =
    are_references-append (link_references l)
    (shifted (length (link_text l) + 1) (references_of links))
    ∙ ap (λ b. are_references (link_references l) && b)
    (are_references-shifted (length (link_text l) + 1) (references_of links) ∙ links_same links)
    ∙ ap (λ b. b && list_all has_references (map submitted_link links)) (link_same l)

-- where one is found, not all are references
found_where : (b : Bool) (r : TextAtOffset) (rs : List TextAtOffset)
    → is_reference_there r ≡ b
    → is_none (find (λ s. not (is_reference_there s)) rs) ≡ are_references rs
    → is_none (find (λ s. not (is_reference_there s)) (r ∷ rs)) ≡ are_references (r ∷ rs)
found_where true r rs e same = rw e same
found_where false r rs e same = rw e refl

found_none : (rs : List TextAtOffset)
    → is_none (find (λ r. not (is_reference_there r)) rs) ≡ are_references rs
found_none [] = refl
found_none (r ∷ rs) = found_where (is_reference_there r) r rs refl (found_none rs)

none_of_map : {A B : Type 0} (f : A → B) (o : Option A) → is_none (option_map f o) ≡ is_none o
none_of_map f None = refl
none_of_map f (Some x) = refl

-- no reference is at fault exactly where all targets and anchors are references
first_none : (links : List Link)
    → is_none (first_no_reference links) ≡ list_all has_references (map submitted_link links)
unfolding first_no_reference
first_none links =
    none_of_map (λ (r : TextAtOffset). r.0)
    (find (λ r. not (is_reference_there r)) (references_of links))
    ∙ found_none (references_of links)
    ∙ links_same links

-- the links that are taken where all targets and anchors are references
abbrev taken_where : Bool → List SubmittedLink → Option (List SubmittedLink)
taken_where all links = if all then Some links else None

-- a fault of the limits is none of the links, and is there where one link is not limited
limits_only : (o : Option ℕ) → is_of_links (option_map not_limited o) ≡ false
limits_only None = refl
limits_only (Some k) = refl

limits_there : (o : Option ℕ) → is_of_limits (option_map not_limited o) ≡ is_some o
limits_there None = refl
limits_there (Some k) = refl

-- the fault of links, by the first that is no reference, and whether all are
links_where : (o : Option ℕ) (all : Bool) (links : List Link)
    → is_none o ≡ all
    → is_of_links (reference_or_limited o links)
    ≡ is_none (taken_where all (map submitted_link links))
links_where (Some offset) true links e = cc
links_where (Some offset) false links e = refl
links_where None true links e = limits_only (first_unlimited (map submitted_link links))
links_where None false links e = cc

limits_where : (o : Option ℕ) (all : Bool) (links : List Link)
    → is_none o ≡ all
    → is_of_limits (reference_or_limited o links)
    ≡ is_unlimited (taken_where all (map submitted_link links))
limits_where (Some offset) true links e = cc
limits_where (Some offset) false links e = refl
limits_where None true links e = limits_there (first_unlimited (map submitted_link links))
limits_where None false links e = cc

-- the links of what was read of a body
abbrev taken_of : Option (List Link) → Option (List SubmittedLink)
taken_of o =
    option_and_then (λ links. taken_where (list_all has_references links) links)
    (option_map (map submitted_link) o)

read_links : (o : Option (List Link)) (body : List ℕ)
    → is_of_links (document_or_links o body) ≡ is_none (taken_of o)
read_links None body = refl
read_links (Some links) body =
    links_where (first_no_reference links) (list_all has_references (map submitted_link links))
    links (first_none links)

read_limits : (o : Option (List Link)) (body : List ℕ)
    → is_of_limits (document_or_links o body) ≡ is_unlimited (taken_of o)
read_limits None body = refl
read_limits (Some links) body =
    limits_where (first_no_reference links) (list_all has_references (map submitted_link links))
    links (first_none links)

-- a body has a fault of its links exactly where it is refused as `links`
pub body_fault-links : (body : List ℕ) → is_of_links (body_fault body) ≡ is_refused_as_links body
unfolding body_fault is_refused_as_links linked_references submitted_links
body_fault-links body = read_links (document body) body

-- and one of the limits exactly where it is refused as `limited`
-- An end theorem: nothing here cites it.
pub body_fault-limited : (body : List ℕ)
    → is_of_limits (body_fault body) ≡ is_refused_as_limited body
unfolding body_fault is_refused_as_limited linked_references submitted_links
body_fault-limited body = read_limits (document body) body
