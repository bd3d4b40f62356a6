-- What is read of a link, by its target and by what is gathered of its parameters.
use Rattle.std.proofs.Common.{
  ◌≡◌,
  ℕ,
  ◌+◌,
  Bool,
  true,
  false,
  not,
  ◌||◌,
  List,
  [],
  ◌∷◌,
  ◌++◌,
  length,
  map,
  Option,
  Some,
  None,
  option_map,
  Result,
  Ok,
  Err,
  refl,
  sym,
  subst,
  ap,
  ◌∙◌,
  arith,
  length-append,
}
use Rattle.std.specs.Result.{IsErrAnd}
use Rattle.std.specs.String.{string_bytes}
use Rattle.rd_base.specs.Drafted.{drafted}
use Rattle.rd_base.specs.declared.records.Item.{Item}
use Rattle.record_model.specs.Bodies.{is_reference, is_uri}
use Rattle.record_model.specs.BodyFaults.{shifted, anchor_offset, link_references}
use Rattle.link_model.specs.Characters.{greater_than_sign}
use Rattle.link_model.specs.Documents.{Link, parameters_text}
use Rattle.link_model.specs.Quoting.{anchor, attributes, pair_of, submitted_link}
use Rattle.record_model.specs.Records.{based, item_of}
use Rattle.reference_model.specs.References.{IsReference, where_present}
use Rattle.ref_resolve.specs.declared.components.Parts.{Parts}
use Rattle.ref_resolve.specs.ComponentsOfParts.{components_of}
use Rattle.registration.specs.LinkParameters.{anchor_at_offset, anchor_from, IsGathered}
use Rattle.registration.specs.Links.{
  AnchorReads,
  LinkReads,
  IsRead,
  first_bad,
  added,
  is_limited_as_referred,
}
use Rattle.registration.specs.References.{IsReferred}
use Rattle.registration.specs.declared.drafts.DraftFault.{DraftFault}
use Rattle.registration.specs.declared.drafts.DraftFault.TheVariants as fault
use Rattle.registration.specs.declared.link_parameters.Anchor.{Anchor}
use Rattle.registration.specs.declared.link_parameters.Gathered.{Gathered}
use Rattle.registration.specs.declared.links.Read.{Read}
use Rattle.registration.specs.declared.references.Referred.{Referred}
use Rattle.registration.proofs.FaultLaws.{bad_shifted}
use Rattle.registration.proofs.ReferenceLaws.{same_item}
use Rattle.registration.proofs.LinkParameterLaws.{
  shifted_twice,
  anchor_said,
  all_anchor,
  all_raw,
  all_pairs,
  all_end,
}
use Rattle.rd_base.proofs.lemmas.Options.{map_none}

-- a fault that is handed on
pub err_at : {A : Type 0} (e : DraftFault) (P : Result A DraftFault → Type 0)
    (r : Result A DraftFault)
    → P (Err e)
    → IsErrAnd r (λ f. f ≡ e)
    → P r
err_at e P (Ok x) h same = absurd same
err_at e P (Err f) h same = subst (λ g. P (Err g)) (sym same) h

or_true : (b : Bool) → (b || true) ≡ true
or_true true = refl
or_true false = refl

module _ (base : Parts) (start : ℕ) (l : Link) where
  -- a target that is no reference
  pub target_bad : is_reference l.target ≡ false
      → option_map (λ at. start + at) (first_bad (link_references l)) ≡ Some (start + 1)
  target_bad e = rw e refl

  module _ (before : List Item) (g : Gathered)
      (known : IsGathered before (start + length l.target + 2) l.parameters [] g)
      (good : is_reference l.target ≡ true) where
    -- after a good target the first bad reference is the anchor, if it is one
    anchor_alone :
        option_map (λ at. start + at) (first_bad (link_references l))
        ≡ first_bad (anchor_at_offset g.anchor)
    anchor_alone =
        let anchors = shifted (length l.target + 2) (anchor_offset l.parameters) in
        let behind : first_bad (link_references l) ≡ first_bad anchors = rw good refl in
        let offset : start + (length l.target + 2) ≡ start + length l.target + 2 = omega arith in
        ap (option_map (λ at. start + at)) behind
        ∙ sym (bad_shifted start anchors)
        ∙ ap first_bad (shifted_twice start (length l.target + 2) (anchor_offset l.parameters))
        ∙ ap (λ n. first_bad (shifted n (anchor_offset l.parameters))) offset
        ∙ ap first_bad (sym known.anchor)
        ∙ ap first_bad (ended g.anchor)
      where
        ended : (o : Option Anchor) → anchor_from o g.end [] ≡ anchor_at_offset o
        ended None = refl
        ended (Some a) = refl

    -- where the anchor is refused, the link is
    pub anchor_refused : (w : List ℕ) (e : DraftFault)
        → AnchorReads base g.anchor w (Err e)
        → LinkReads base start l before (Err e)
    anchor_refused w e h = by_anchor g.anchor anchor_alone e h
      where
        by_anchor : (o : Option Anchor)
            → option_map (λ at. start + at) (first_bad (link_references l))
            ≡ first_bad (anchor_at_offset o)
            → (e : DraftFault)
            → AnchorReads base o w (Err e)
            → LinkReads base start l before (Err e)
        by_anchor None alone (fault.Links offset) h = absurd h
        by_anchor None alone (fault.Reference offset) h = absurd h
        by_anchor None alone (fault.Limited link) h = absurd h
        by_anchor None alone fault.Starved h = tt
        by_anchor (Some a) alone (fault.Links offset) h = absurd h
        by_anchor (Some a) alone (fault.Reference offset) h =
            alone ∙ (rw h.1 (ap (λ (n : ℕ). Some n) (sym h.0)))
        by_anchor (Some a) alone (fault.Limited link) h = absurd h
        by_anchor (Some a) alone fault.Starved h = tt

    -- where it is taken, the link has no bad reference
    good_where : (o : Option Anchor) (w : List ℕ) (r : Option Bool)
        → AnchorReads base o w (Ok r)
        → first_bad (anchor_at_offset o) ≡ None
    good_where None w None h = refl
    good_where None w (Some s) h = absurd h
    good_where (Some a) w None h = absurd h
    good_where (Some a) w (Some s) h = rw h.reference refl

    given_where : (o : Option Anchor) (w : List ℕ) (r : Option Bool)
        → AnchorReads base o w (Ok r)
        → where_present is_reference (anchor_said o) ≡ true
    given_where None w None h = refl
    given_where None w (Some s) h = absurd h
    given_where (Some a) w None h = absurd h
    given_where (Some a) w (Some s) h = h.reference

    based_where : (o : Option Anchor) (w : List ℕ) (r : Option Bool)
        → AnchorReads base o w (Ok r)
        → (spelled : List ℕ)
        → IsReference spelled (components_of base)
        → option_map (λ _. w) r ≡ option_map (based spelled) (anchor_said o)
    based_where None w None h spelled s = refl
    based_where None w (Some q) h spelled s = absurd h
    based_where (Some a) w None h spelled s = absurd h
    based_where (Some a) w (Some q) h spelled s = ap (λ (t : List ℕ). Some t) (h.text spelled s)

    limited_where : (o : Option Anchor) (w : List ℕ) (r : Option Bool) (t : Bool)
        → AnchorReads base o w (Ok r)
        → is_uri l.target ≡ t
        → is_limited_as_referred t r
        ≡ (is_uri l.target || where_present (λ a. not (is_uri a)) (anchor_said o))
    limited_where None w None t h e = sym (or_true (is_uri l.target))
    limited_where None w (Some q) t h e = absurd h
    limited_where (Some a) w None t h e = absurd h
    limited_where (Some a) w (Some q) t h e = rw (e, h.scheme) refl

    -- a link whose target and anchor are taken
    pub link_read : (t : Bool) (r : Option Bool) (referred : Referred) (read : Read)
        → IsReferred base l.target (string_bytes referred.target) t
        → AnchorReads base g.anchor (string_bytes referred.anchor) (Ok r)
        → read.builder
        ≡ drafted (g.builder.links ++ added l.target g.anchor r referred g.builder ∷ []) [] []
        → read.is_limited ≡ is_limited_as_referred t r
        → read.end ≡ g.end
        → IsRead base start l before read
    unfolding submitted_link item_of
    link_read t r referred read target h builder limited end =
        let said : anchor_said g.anchor ≡ anchor l =
        all_anchor before (start + length l.target + 2) l.parameters g known in
        let all = all_end before (start + length l.target + 2) l.parameters g known in
        let text = length-append l.target (greater_than_sign ∷ parameters_text l.parameters) in
        record {
          good =
              map_none (λ at. start + at) (first_bad (link_references l))
              (anchor_alone ∙ good_where g.anchor (string_bytes referred.anchor) r h);
          more = added l.target g.anchor r referred g.builder;
          builder =
              builder
              ∙ ap (λ (ls : List Item).
              drafted (ls ++ added l.target g.anchor r referred g.builder ∷ []) [] [])
              known.links;
          item = λ spelled s.
              same_item (added l.target g.anchor r referred g.builder) l.target (anchor l)
              (based spelled l.target) (option_map (based spelled) (anchor l))
              (parameters_text (attributes l)) (map pair_of (attributes l))
              refl said (target.text spelled s)
              (based_where g.anchor (string_bytes referred.anchor) r h spelled s
              ∙ ap (option_map (based spelled)) said)
              (all_raw before (start + length l.target + 2) l.parameters g known)
              (all_pairs before (start + length l.target + 2) l.parameters g known);
          references =
              rw (target.reference) (given_where g.anchor (string_bytes referred.anchor) r h);
          limited =
              limited
              ∙ limited_where g.anchor (string_bytes referred.anchor) r t h target.scheme
              ∙ ap (λ o. is_uri l.target || where_present (λ a. not (is_uri a)) o) said;
          end = omega (arith, end, all, text);
        }
