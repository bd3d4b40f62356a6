-- The directory's own links, computed from its document, and what discovery shows of them.
use Rattle.std.proofs.Common.{
  ◌≡◌,
  ℕ,
  ◌-◌,
  ◌^◌,
  ◌<◌,
  true,
  false,
  List,
  [],
  ◌∷◌,
  length,
  filter,
  codes,
  Option,
  None,
  not,
  refl,
  sym,
  ap,
  ◌∙◌,
  arith,
}
use Rattle.std.specs.List.{join_with_byte}
use Rattle.std.proofs.lemmas.List.{length-map, take_all}
use Rattle.std.proofs.lemmas.List.Filters.{length-filter_both}
use Rattle.rd_base.specs.declared.queries.Query.{Query}
use Rattle.rd_base.specs.declared.records.Item.{Item}
use Rattle.link_model.specs.Characters.{comma}
use Rattle.record_model.specs.Discovery.{own_items, discovery}
use Rattle.record_model.specs.ListingLines.{link_line, page_of, shown}
use Rattle.link_model.proofs.OnLiterals.{document_on_literals}
use Rattle.listing.specs.AppendedLines.{appended, shown_lines}
use Rattle.listing.specs.ListedLinks.{listed_lines, listed_of}
use Rattle.listing.specs.OwnLinks.{own_item}
use Rattle.listing.proofs.PartLaws.{appended-joined}

-- its links, as they are made
pub own_links : own_items ≡ own_item (codes "/rd") (codes ";rt=\"core.rd\"") (codes "core.rd") false
    ∷ own_item (codes "/rd-lookup/ep") (codes ";rt=\"core.rd-lookup-ep\"")
    (codes "core.rd-lookup-ep") true
    ∷ own_item (codes "/rd-lookup/res") (codes ";rt=\"core.rd-lookup-res\"")
    (codes "core.rd-lookup-res") true
    ∷ []
unfolding document_on_literals own_items
own_links = refl

-- all lines are shown where no count is given
pub page_without_count : (page : Option ℕ) (lines : List (List ℕ))
    → length lines < 2 ^ 64
    → page_of page None lines ≡ shown_lines 0 (2 ^ 64 - 1) lines
page_without_count page lines few = sym (take_all (2 ^ 64 - 1) lines (omega arith))

-- no more links are listed than there are
few_listed : (query : Query) (items : List Item)
    → length items < 2 ^ 64
    → length (listed_lines query None items) < 2 ^ 64
few_listed query items few =
    omega (
      arith,
      length-map (filter (listed_of query None) items) link_line,
      length-filter_both
          (listed_of query None) (λ item. not (listed_of query None item)) (λ item. refl) items,
    )

-- what is shown of the directory's own links is the answer to discovery
pub shown_own : (query : Query) (items : List Item) (text before : List ℕ) (skip most : ℕ)
    → length items < 2 ^ 64
    → items ≡ own_items
    → before ≡ []
    → ((lines : List (List ℕ))
    → length lines < 2 ^ 64
    → page_of query.page query.count lines ≡ shown_lines skip most lines)
    → text ≡ appended before (shown_lines skip most (listed_lines query None items))
    → text ≡ discovery query
unfolding discovery shown
shown_own query items text before skip most few own empty bounds e =
    e
    ∙ ap (λ (b : List ℕ). appended b (shown_lines skip most (listed_lines query None items))) empty
    ∙ appended-joined (shown_lines skip most (listed_lines query None items))
    ∙ ap (join_with_byte comma)
    (sym (bounds (listed_lines query None items) (few_listed query items few)))
    ∙ ap (λ (xs : List Item).
    join_with_byte comma (page_of query.page query.count (listed_lines query None xs))) own

-- the bounds of all lines
pub all_lines : (page count : Option ℕ)
    → count ≡ None
    → (lines : List (List ℕ))
    → length lines < 2 ^ 64
    → page_of page count lines ≡ shown_lines 0 (2 ^ 64 - 1) lines
all_lines page count none lines few =
    ap (λ (c : Option ℕ). page_of page c lines) none ∙ page_without_count page lines few
