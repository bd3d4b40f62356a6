-- One step over the links of a registration, and none.
use Rattle.std.proofs.Common.{
  ◌≡◌,
  ℕ,
  ◌+◌,
  ◌-◌,
  ◌<◌,
  Bool,
  true,
  false,
  List,
  [],
  ◌∷◌,
  ◌++◌,
  length,
  map,
  filter,
  ◌≤◌,
  Result,
  Ok,
  Err,
  refl,
  sym,
  ap,
  ◌∙◌,
  add-one,
  append_assoc,
  arith,
}
use Rattle.std.specs.Result.{OnOk, is_err}
use Rattle.std.proofs.lemmas.List.{length-map, take_all}
use Rattle.rd_base.specs.declared.queries.Kind.TheVariants as kind
use Rattle.rd_base.specs.declared.queries.Query.{Query}
use Rattle.rd_base.specs.declared.records.Item.{Item}
use Rattle.rd_base.specs.declared.records.Record.{Record}
use Rattle.link_model.specs.Characters.{comma}
use Rattle.record_model.specs.ListingLines.{endpoint_line, endpoint_listed, link_line, part}
use Rattle.listing.specs.AppendedLines.{appended, separated, shown_lines}
use Rattle.listing.specs.ListedLinks.{all_lines, lines_by, listed_endpoint}
use Rattle.listing.proofs.PieceLaws.{endpoint_line_begins, link_line_begins}
use Rattle.listing.proofs.PartLaws.{appended-cons, appended-nil, shown_none, skip_one, write_one}

-- what holds where a call did not fail
pub where_ok : {T E : Type 0} {P : Type 0} (r : Result T E) → is_err r ≡ false → OnOk r P → P
where_ok (Ok x) passed holds = holds
where_ok (Err e) passed holds = absurd (let clash : true ≡ false = passed in cc)

-- a link that is listed stands before the lines of those after it
pub listed_first : (test : Item → Bool) (item : Item) (more rest : List Item)
    → rest ≡ item ∷ more
    → test item ≡ true
    → lines_by test rest ≡ link_line item ∷ lines_by test more
listed_first test item more rest split listed = rw (split, listed) refl

-- where no line may be written any more, the text stays
pub none_more : (text all : List ℕ) (skip most : ℕ) (lines : List (List ℕ))
    → most ≡ 0
    → appended text (shown_lines skip most lines) ≡ all
    → text ≡ all
none_more text all skip most lines zero h =
    sym (appended-nil text)
    ∙ ap (λ (m : ℕ). appended text (shown_lines skip m lines)) (sym zero)
    ∙ h

-- where no link is left, the text stays
pub none_left : (test : Item → Bool) (rest : List Item) (text all : List ℕ) (skip most : ℕ)
    → rest ≡ []
    → appended text (shown_lines skip most (lines_by test rest)) ≡ all → text ≡ all
none_left test rest text all skip most empty h =
    sym (appended-nil text)
    ∙ ap (appended text) (sym (shown_none skip most))
    ∙ ap (λ (xs : List Item). appended text (shown_lines skip most (lines_by test xs))) (sym empty)
    ∙ h

-- the first line of those that are left is written
pub writes_first : (line rest text new all : List ℕ) (c : ℕ) (lines : List (List ℕ))
    (skip most left : ℕ)
    → line ≡ c ∷ rest
    → skip ≡ 0
    → most ≡ left + 1
    → new ≡ separated text ++ line
    → appended text (shown_lines skip most (line ∷ lines)) ≡ all
    → appended new (shown_lines skip left lines) ≡ all
writes_first line rest text new all c lines skip most left begins none some e h =
    ap (λ (t : List ℕ). appended t (shown_lines skip left lines)) e
    ∙ ap (λ (s : ℕ). appended (separated text ++ line) (shown_lines s left lines)) none
    ∙ appended-cons text line rest c (shown_lines 0 left lines) begins
    ∙ ap (appended text) (sym (write_one most left line lines some))
    ∙ ap (λ (s : ℕ). appended text (shown_lines s most (line ∷ lines))) (sym none) ∙ h

-- so is the line of the first link that is listed
pub writes_link : (test : Item → Bool) (item : Item) (more rest : List Item) (text new all : List ℕ)
    (skip most left : ℕ)
    → rest ≡ item ∷ more
    → test item ≡ true
    → skip ≡ 0
    → most ≡ left + 1
    → new ≡ separated text ++ link_line item
    → appended text (shown_lines skip most (lines_by test rest)) ≡ all
    → appended new (shown_lines skip left (lines_by test more)) ≡ all
writes_link test item more rest text new all skip most left split listed none some e h =
    let begins = link_line_begins item in
    writes_first (link_line item) begins.0 text new all 60 (lines_by test more) skip most left
    begins.1 none some e
    (ap (λ (ls : List (List ℕ)). appended text (shown_lines skip most ls))
    (sym (listed_first test item more rest split listed))
    ∙ h)

-- and is one of those that are counted
pub counts_link : (test : Item → Bool) (item : Item) (more rest : List Item) (skip most left : ℕ)
    → rest ≡ item ∷ more → test item ≡ true → skip ≡ 0 → most ≡ left + 1
    → length (shown_lines skip most (lines_by test rest))
    ≡ length (shown_lines skip left (lines_by test more)) + 1
counts_link test item more rest skip most left split listed none some =
    ap (λ (ls : List (List ℕ)). length (shown_lines skip most ls))
    (listed_first test item more rest split listed)
    ∙ ap (λ (s : ℕ). length (shown_lines s most (link_line item ∷ lines_by test more))) none
    ∙ ap (λ (ls : List (List ℕ)). length ls)
    (write_one most left (link_line item) (lines_by test more) some)
    ∙ sym (add-one (length (shown_lines 0 left (lines_by test more))))
    ∙ ap (λ (s : ℕ). length (shown_lines s left (lines_by test more)) + 1) (sym none)

-- the first link that is listed may be skipped
pub shown_after : (test : Item → Bool) (item : Item) (more rest : List Item) (skip most left : ℕ)
    → rest ≡ item ∷ more
    → test item ≡ true
    → skip ≡ left + 1
    → shown_lines skip most (lines_by test rest) ≡ shown_lines left most (lines_by test more)
shown_after test item more rest skip most left split listed some =
    ap (shown_lines skip most) (listed_first test item more rest split listed)
    ∙ skip_one skip left most (link_line item) (lines_by test more) some

-- then the text stays
pub skips_link : (test : Item → Bool) (item : Item) (more rest : List Item) (text all : List ℕ)
    (skip most left : ℕ)
    → rest ≡ item ∷ more
    → test item ≡ true
    → skip ≡ left + 1
    → appended text (shown_lines skip most (lines_by test rest)) ≡ all
    → appended text (shown_lines left most (lines_by test more)) ≡ all
skips_link test item more rest text all skip most left split listed some h =
    ap (appended text) (sym (shown_after test item more rest skip most left split listed some)) ∙ h

-- and there is one line fewer
pub lines_more : (test : Item → Bool) (item : Item) (more rest : List Item)
    → rest ≡ item ∷ more
    → test item ≡ true
    → length (lines_by test rest) ≡ length (lines_by test more) + 1
lines_more test item more rest split listed =
    ap (λ (ls : List (List ℕ)). length ls) (listed_first test item more rest split listed)
    ∙ sym (add-one (length (lines_by test more)))

-- a text before a line begins as it was
separated-front : (text : List ℕ) → (more : List ℕ) × (separated text ≡ text ++ more)
separated-front [] = ([], refl)
separated-front (c ∷ cs) = (comma ∷ [], refl)

-- so does a text with that line
pub front_stays : (first text new line : List ℕ)
    → (more : List ℕ) × (text ≡ first ++ more)
    → new ≡ separated text ++ line
    → (more : List ℕ) × (new ≡ first ++ more)
front_stays first text new line begins e =
    let mark = separated-front text in (
      begins.0 ++ (mark.0 ++ line),
      e ∙ ap (λ (t : List ℕ). t ++ line) (mark.1 ∙ ap (λ (t : List ℕ). t ++ mark.0) begins.1)
          ∙ ap (λ (t : List ℕ). t ++ line) (append_assoc first begins.0 mark.0)
          ∙ append_assoc first (begins.0 ++ mark.0) line
          ∙ ap (λ (t : List ℕ). first ++ t) (append_assoc begins.0 mark.0 line),
    )

-- an endpoint that is listed has one line, and another none
pub endpoint_none : (query : Query) (r : Record) (text : List ℕ) (skip most : ℕ)
    → endpoint_listed query r ≡ false
    → text ≡ appended text (shown_lines skip most (listed_endpoint query r))
endpoint_none query r text skip most h =
    rw h (sym (ap (appended text) (shown_none skip most) ∙ appended-nil text))

-- its line may be skipped
pub endpoint_skipped : (query : Query) (r : Record) (text : List ℕ) (skip most : ℕ)
    → endpoint_listed query r ≡ true
    → 0 < skip
    → text ≡ appended text (shown_lines skip most (listed_endpoint query r))
endpoint_skipped query r text skip most h some =
    rw h (sym (ap (appended text) (skip_one skip (skip - 1) most (endpoint_line r) [] (omega arith)
    ∙ shown_none (skip - 1) most)
    ∙ appended-nil text))

-- or none may be written
pub endpoint_cut : (query : Query) (r : Record) (text : List ℕ) (skip most : ℕ)
    → most ≡ 0
    → text ≡ appended text (shown_lines skip most (listed_endpoint query r))
endpoint_cut query r text skip most zero =
    none_more text _ skip most (listed_endpoint query r) zero refl

-- or it is written
pub endpoint_written : (query : Query) (r : Record) (text new : List ℕ) (skip most : ℕ)
    → endpoint_listed query r ≡ true
    → skip ≡ 0
    → 0 < most
    → new ≡ separated text ++ endpoint_line r
    → new ≡ appended text (shown_lines skip most (listed_endpoint query r))
endpoint_written query r text new skip most h none some e =
    let begins = endpoint_line_begins r in
    rw h (sym (appended-nil new) ∙ ap (appended new) (sym (shown_none skip (most - 1)))
    ∙ writes_first (endpoint_line r) begins.0 text new _ 60 [] skip most (most - 1) begins.1 none
    (omega arith) e refl)

-- a registration gives no line to discovery
pub gives_nothing : (query : Query) (r : Record) (text : List ℕ) (skip most : ℕ)
    → query.kind ≡ kind.Discovery
    → text ≡ appended text (shown_lines skip most (part query r))
unfolding part
gives_nothing query r text skip most h =
    rw h (sym (ap (appended text) (shown_none skip most) ∙ appended-nil text))

-- where all links are listed, their lines are all lines
pub lines_of_all : (test : Item → Bool) (items : List Item)
    → ((item : Item) → test item ≡ true)
    → lines_by test items ≡ all_lines items
lines_of_all test items all = ap all_lines (each items)
  where
    each : (xs : List Item) → filter test xs ≡ xs
    each [] = refl
    each (x ∷ xs) = let first = all x in rw first (ap (λ (ys : List Item). x ∷ ys) (each xs))

-- and are all shown, where there is room
pub whole_shown : (test : Item → Bool) (items : List Item) (skip most : ℕ)
    → ((item : Item) → test item ≡ true)
    → skip ≡ 0
    → length items ≤ most
    → shown_lines skip most (lines_by test items) ≡ map link_line items
whole_shown test items skip most all none few =
    ap (shown_lines skip most) (lines_of_all test items all)
    ∙ ap (λ (s : ℕ). shown_lines s most (map link_line items)) none
    ∙ take_all most (map link_line items) (omega (arith, length-map items link_line))

-- so that they are one text
pub appended_whole : (test : Item → Bool) (items : List Item) (text new : List ℕ) (skip most : ℕ)
    → ((item : Item) → test item ≡ true)
    → skip ≡ 0
    → length items ≤ most
    → new ≡ appended text (map link_line items)
    → new ≡ appended text (shown_lines skip most (lines_by test items))
appended_whole test items text new skip most all none few e =
    e ∙ ap (appended text) (sym (whole_shown test items skip most all none few))

-- which has all of them
pub counted_whole : (test : Item → Bool) (items : List Item) (skip most : ℕ)
    → ((item : Item) → test item ≡ true)
    → skip ≡ 0
    → length items ≤ most
    → length items ≡ length (shown_lines skip most (lines_by test items))
counted_whole test items skip most all none few =
    sym (ap (λ (ls : List (List ℕ)). length ls) (whole_shown test items skip most all none few)
    ∙ length-map items link_line)
