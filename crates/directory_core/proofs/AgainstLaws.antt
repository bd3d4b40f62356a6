-- Links that were made against a base, or resolved against it, are as they are against it.
use Rattle.std.proofs.Common.{◌≡◌, ℕ, List, [], ◌∷◌, map, refl, sym, ap, ap₂, ◌∙◌, subst}
use Rattle.std.specs.Prelude.{IsUtf8}
use Rattle.rd_base.specs.declared.records.Item.{Item}
use Rattle.rd_base.specs.declared.submitted_links.SubmittedLink.{SubmittedLink}
use Rattle.rd_base.specs.LinkLines.{submitted}
use Rattle.rd_base.proofs.lemmas.Options.{some_same}
use Rattle.record_model.specs.Bases.{registered_base}
use Rattle.record_model.specs.Bodies.{linked_references}
use Rattle.record_model.specs.Records.{rebased, item_of, items_of}
use Rattle.registration.specs.declared.drafts.Draft.{Draft}
use Rattle.registration.specs.Drafts.{IsDraft, drafted}
use Rattle.registration.specs.Submissions.{AreOfBody, all_submitted}
use Rattle.registration.proofs.SourceLaws.{source_linked}
use Rattle.registration.proofs.SubmissionLaws.{against_submitted}
use Rattle.directory_core.specs.LinksAgainst.{AreAgainst}

rebased_again : (base : List ℕ) (item : Item) → rebased base (rebased base item) ≡ rebased base item
unfolding rebased
rebased_again base item = refl

-- links that were resolved against a base
pub against_rebased : (base : List ℕ) (items : List Item)
    → AreAgainst base (map (rebased base) items)
against_rebased base [] = refl
against_rebased base (item ∷ items) =
    ap₂ (λ (x : Item) (xs : List Item). x ∷ xs) (rebased_again base item)
    (against_rebased base items)

made_again : (base : List ℕ) (link : SubmittedLink)
    → rebased base (item_of base link) ≡ item_of base link
unfolding rebased item_of
made_again base link = refl

-- links that were submitted, against their base
pub against_made : (base : List ℕ) (links : List SubmittedLink)
    → AreAgainst base (items_of base links)
against_made base [] = refl
against_made base (link ∷ links) =
    ap₂ (λ (x : Item) (xs : List Item). x ∷ xs) (made_again base link) (against_made base links)

-- the links of a draft stand against its base
pub draft_against : (draft : Draft) → IsDraft draft → AreAgainst draft.base draft.items
unfolding drafted
draft_against draft h =
    subst (λ (d : Draft). AreAgainst d.base d.items) (sym h.made)
    (against_made (registered_base h.params.base h.peer) h.links)

-- links of bodies, against one base and of one source, are the same
pub links_of_source : (base : List ℕ) (old new : List Item)
    → AreAgainst base old
    → AreAgainst base new
    → AreOfBody old
    → AreOfBody new
    → IsUtf8 (submitted old)
    → IsUtf8 (submitted new)
    → submitted old ≡ submitted new
    → new ≡ old
links_of_source base old new against_old against_new of_old of_new old_utf8 new_utf8 same =
    let links : all_submitted new ≡ all_submitted old =
    some_same (sym (source_linked new of_new new_utf8)
    ∙ ap linked_references (sym same)
    ∙ source_linked old of_old old_utf8) in
    sym against_new
    ∙ against_submitted base new
    ∙ ap (items_of base) links
    ∙ sym (against_submitted base old)
    ∙ against_old
