-- What a text is against a base, and what a base is.
use Rattle.std.proofs.Common.{
  ◌≡◌,
  ℕ,
  true,
  false,
  List,
  [],
  ◌∷◌,
  ◌++◌,
  Option,
  Some,
  None,
  is_some,
  option_map,
  refl,
  ap,
  ◌∙◌,
  subst,
}
use Rattle.rd_base.specs.Drafted.{Drafted, drafted}
use Rattle.rd_base.specs.declared.attributes.Pair.{Pair}
use Rattle.rd_base.specs.declared.records.Item.{Item}
use Rattle.record_model.specs.Bodies.{is_reference, is_uri}
use Rattle.reference_model.specs.References.{Components, IsReference, reference, has_scheme}
use Rattle.reference_model.specs.Resolution.{resolved}
use Rattle.record_model.specs.Records.{based, rebased}
use Rattle.ref_resolve.specs.declared.components.Parts.{Parts}
use Rattle.ref_resolve.specs.ComponentsOfParts.{components_of}
use Rattle.registration.specs.Drafts.{has_references}
use Rattle.registration.specs.LinkParameters.{WaitsForNone}
use Rattle.registration.specs.OtherBases.{AddsRebased, IsBased, AreBased, IsRebased}
use Rattle.reference_model.proofs.ReferenceLaws.{reference_found}
use Rattle.reference_model.proofs.ReferenceReading.{reference_only}

-- a text with these components is a reference, with a scheme where they have one
pub reads : (text : List ℕ) (c : Components) → IsReference text c → is_reference text ≡ true
reads text c h = ap is_some (reference_only text c h)

pub reads_uri : (text : List ℕ) (c : Components) → IsReference text c → is_uri text ≡ has_scheme c
unfolding is_uri
reads_uri text c h = rw (reference_only text c h) refl

-- a text without components is none
pub reads_not : (text : List ℕ)
    → ((c : Components) → IsReference text c → ⊥)
    → is_reference text ≡ false
reads_not text none = by_read (reference text) refl
  where
    by_read : (o : Option Components) → reference text ≡ o → is_some o ≡ false
    by_read None e = refl
    by_read (Some c) e = absurd (none c (reference_found text c e))

-- against a base it stays, where it has a scheme, and else is resolved
pub stays : (base text : List ℕ) → is_uri text ≡ true → based base text ≡ text
unfolding based
stays base text e = rw e refl

pub is_resolved : (base text : List ℕ) → is_uri text ≡ false → based base text ≡ resolved base text
unfolding based
is_resolved base text e = rw e refl

-- ---- links against another base

-- a link by its parts
pub same_item : (item : Item) (target_ref : List ℕ) (anchor_ref : Option (List ℕ)) (target : List ℕ)
    (anchor : Option (List ℕ)) (raw : List ℕ) (pairs : List Pair)
    → item.target_ref ≡ target_ref
    → item.anchor_ref ≡ anchor_ref
    → item.target ≡ target
    → item.anchor ≡ anchor
    → item.raw ≡ raw
    → item.pairs ≡ pairs
    → item ≡ record {
      target_ref = target_ref;
      anchor_ref = anchor_ref;
      target = target;
      anchor = anchor;
      raw = raw;
      pairs = pairs;
    }
same_item item target_ref anchor_ref target anchor raw pairs e1 e2 e3 e4 e5 e6 =
    rw (← e1, ← e2, ← e3, ← e4, ← e5, ← e6) refl

-- an anchor against a base
based_anchor : (base : Parts) (text : Option (List ℕ)) (new : List ℕ)
    → AreBased base text new
    → (spelled : List ℕ)
    → IsReference spelled (components_of base)
    → option_map (λ _. new) text ≡ option_map (based spelled) text
based_anchor base None new h spelled s = refl
based_anchor base (Some text) new h spelled s = ap (λ (t : List ℕ). Some t) (h spelled s)

-- a link whose parts are the old ones, or based
pub is_rebased : (base : Parts) (item : Item) (target anchor : List ℕ)
    → IsBased base item.target_ref target
    → AreBased base item.anchor_ref anchor
    → IsRebased base item
    (record item { target = target; anchor = option_map (λ _. anchor) item.anchor_ref })
unfolding rebased
is_rebased base item target anchor h k spelled s =
    same_item (record item { target = target; anchor = option_map (λ _. anchor) item.anchor_ref })
    item.target_ref item.anchor_ref (based spelled item.target_ref)
    (option_map (based spelled) item.anchor_ref) item.raw item.pairs
    refl refl (h spelled s) (based_anchor base item.anchor_ref anchor k spelled s) refl refl

-- and so it stands behind other links
pub adds_rebased : (base : Parts) (item : Item) (b waiting new : Drafted) (target_ref : List ℕ)
    (anchor_ref : Option (List ℕ)) (target written : List ℕ) (anchor : Option (List ℕ))
    → WaitsForNone b
    → waiting ≡ drafted b.links (b.raw ++ item.raw) (b.pairs ++ item.pairs)
    → target_ref ≡ item.target_ref
    → anchor_ref ≡ item.anchor_ref
    → IsBased base target_ref target
    → AreBased base anchor_ref written
    → anchor ≡ option_map (λ _. written) anchor_ref
    → new
    ≡ drafted (waiting.links
    ++ record {
      target_ref =
          target_ref;
      anchor_ref =
          anchor_ref;
      target =
          target;
      anchor = anchor;
      raw = waiting.raw;
      pairs = waiting.pairs;
    }
    ∷ []) [] []
    → AddsRebased base item b.links new
adds_rebased base item b waiting new target_ref anchor_ref target written anchor none wait e₁ e₂ h k
    e₃ is =
    let raw : waiting.raw ≡ item.raw =
    ap (λ (d : Drafted). d.raw) wait ∙ ap (λ (t : List ℕ). t ++ item.raw) none.0 in
    let pairs : waiting.pairs ≡ item.pairs =
    ap (λ (d : Drafted). d.pairs) wait ∙ ap (λ (ps : List Pair). ps ++ item.pairs) none.1 in
    let links : waiting.links ≡ b.links = ap (λ (d : Drafted). d.links) wait in
    let shown : anchor ≡ option_map (λ _. written) item.anchor_ref =
    e₃ ∙ ap (option_map (λ (_ : List ℕ). written)) e₂ in
    record {
      added = record item { target = target; anchor = option_map (λ _. written) item.anchor_ref };
      builder = is ∙ rw (raw, pairs, links, shown, e₁, e₂) refl;
      rebased =
          is_rebased base item target written (subst (λ (t : List ℕ). IsBased base t target) e₁ h)
          (subst (λ (o : Option (List ℕ)). AreBased base o written) e₂ k);
    }

-- another base leaves the references
pub keeps_references : (spelled : List ℕ) (item new : Item)
    → new ≡ rebased spelled item
    → has_references item ≡ true
    → has_references new ≡ true
unfolding rebased
keeps_references spelled item new e h = rw e h
