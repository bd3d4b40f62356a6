-- Links of a body before there is a base: whatever base they were read against.
use Rattle.std.proofs.Common.{
  ◌≡◌,
  ℕ,
  Bool,
  true,
  false,
  ◌&&◌,
  List,
  [],
  ◌∷◌,
  map,
  Option,
  Some,
  None,
  option_map,
  is_some,
  is_none,
  refl,
  sym,
  ap,
  ap₂,
  ◌∙◌,
  subst,
}
use Rattle.std.specs.Prelude.{Result, Ok, Err, IfOk}
use Rattle.rd_base.specs.declared.out_of_memory.Starved.{Starved}
use Rattle.rd_base.specs.declared.records.Item.{Item}
use Rattle.rd_base.specs.declared.submitted_links.SubmittedLink.{SubmittedLink}
use Rattle.ref_resolve.specs.ComponentsOfParts.{is_without_query}
use Rattle.reference_model.specs.References.{Components, host, reference}
use Rattle.reference_model.proofs.OnLiterals.{reference_on_literals}
use Rattle.record_model.specs.Parameters.{has_host, is_base, is_base_of}
use Rattle.record_model.specs.Records.{item_of, items_of, rebased}
use Rattle.record_model.specs.Bodies.{linked_references}
use Rattle.record_model.specs.Refusals.{is_refused_as_limited}
use Rattle.registration.specs.Submissions.{submitted_of, all_submitted, AreOfBody}

-- ---- what bases are

last_two : (a b c d : Bool) → (a && b && c && d) ≡ true → (c && d) ≡ true
last_two true true c d h = h
last_two true false c d h = cc
last_two false b c d h = cc

-- a base has neither query nor fragment
pub base_is_without_query : (text : List ℕ)
    → is_base text ≡ true
    → is_without_query (reference text) ≡ true
unfolding is_base
base_is_without_query text h = by_read (reference text) h
  where
    by_read : (o : Option Components) → is_base_of o ≡ true → is_without_query o ≡ true
    by_read None h = cc
    by_read (Some c) h =
        last_two (is_some c.scheme) (has_host (host c)) (is_none c.query) (is_none c.fragment) h

-- nor has the empty text
pub nothing_is_without_query : is_without_query (reference []) ≡ true
unfolding reference_on_literals
nothing_is_without_query = refl

-- ---- links

against_item : (base : List ℕ) (item : Item) → rebased base item ≡ item_of base (submitted_of item)
unfolding rebased item_of
against_item base item = refl

-- resolved against another base, they are the links that were submitted against that base
pub against_submitted : (base : List ℕ) (items : List Item)
    → map (rebased base) items ≡ items_of base (all_submitted items)
against_submitted base [] = refl
against_submitted base (item ∷ items) =
    ap₂ (λ (x : Item) (xs : List Item). x ∷ xs) (against_item base item)
    (against_submitted base items)

submitted_item : (base : List ℕ) (link : SubmittedLink) → submitted_of (item_of base link) ≡ link
unfolding item_of
submitted_item base link = refl

-- links against a base are submitted as they were
pub submitted_items : (base : List ℕ) (links : List SubmittedLink)
    → all_submitted (items_of base links) ≡ links
submitted_items base [] = refl
submitted_items base (link ∷ links) =
    ap₂ (λ (x : SubmittedLink) (xs : List SubmittedLink). x ∷ xs) (submitted_item base link)
    (submitted_items base links)

-- so the links of a body are known from those that were read against any base
pub submitted_body : (base : List ℕ) (linked : Option (List SubmittedLink)) (items : List Item)
    → option_map (items_of base) linked ≡ Some items
    → linked ≡ Some (all_submitted items)
submitted_body base None items h = cc
submitted_body base (Some links) items h =
    let same : items_of base links ≡ items = cc in
    ap (λ (ls : List SubmittedLink). Some ls)
    (sym (submitted_items base links) ∙ ap all_submitted same)

-- ---- links of a body

rebased_submitted : (base : List ℕ) (item : Item)
    → submitted_of (rebased base item) ≡ submitted_of item
unfolding rebased
rebased_submitted base item = refl

-- resolved against another base, links are submitted as they were
pub all_submitted-rebased : (base : List ℕ) (items : List Item)
    → all_submitted (map (rebased base) items) ≡ all_submitted items
all_submitted-rebased base [] = refl
all_submitted-rebased base (item ∷ items) =
    ap₂ (λ (x : SubmittedLink) (xs : List SubmittedLink). x ∷ xs) (rebased_submitted base item)
    (all_submitted-rebased base items)

-- and are of a body where they were
pub of_body-rebased : (base : List ℕ) (items : List Item)
    → AreOfBody items
    → AreOfBody (map (rebased base) items)
of_body-rebased base items h = record {
  body = h.body;
  read =
      h.read
      ∙ ap (λ (links : List SubmittedLink). Some links) (sym (all_submitted-rebased base items));
  limited = h.limited;
}

pub of_body-result : (base : List ℕ) (items : List Item) (made : Result (List Item) Starved)
    → AreOfBody items
    → IfOk made (λ new. new ≡ map (rebased base) items)
    → IfOk made AreOfBody
of_body-result base items (Ok new) h same =
    subst AreOfBody (sym same) (of_body-rebased base items h)
of_body-result base items (Err starved) h same = tt

-- the links of a body that was read against any base, and is not refused
pub of_body-read : (base body : List ℕ) (items : List Item)
    → option_map (items_of base) (linked_references body) ≡ Some items
    → is_refused_as_limited body ≡ false
    → AreOfBody items
of_body-read base body items read limited = record {
  body = body;
  read = submitted_body base (linked_references body) items read;
  limited = limited;
}
