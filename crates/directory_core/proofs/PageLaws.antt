-- Lines that registrations give to a page, one after another.
use Rattle.std.proofs.Common.{
  ◌≡◌,
  ℕ,
  zero,
  suc,
  ◌-◌,
  min,
  Bool,
  true,
  false,
  not,
  cond,
  ◌&&◌,
  List,
  [],
  ◌∷◌,
  ◌++◌,
  map,
  filter,
  length,
  take,
  drop,
  Option,
  Some,
  None,
  refl,
  sym,
  ap,
  ap₂,
  ◌∙◌,
  arith,
}
use Rattle.std.specs.List.{list_all, join_with_byte}
use Rattle.std.specs.Map.{values_of}
use Rattle.std.proofs.lemmas.List.{map-append}
use Rattle.rd_base.specs.declared.queries.Kind.{Kind}
use Rattle.rd_base.specs.declared.queries.Kind.TheVariants as kind
use Rattle.rd_base.specs.declared.queries.Query.{Query}
use Rattle.rd_base.specs.declared.records.Item.{Item}
use Rattle.rd_base.specs.declared.records.Record.{Record}
use Rattle.link_model.specs.Characters.{comma, is_empty}
use Rattle.record_model.specs.ListingLines.{
  page_of,
  part,
  shown,
  part_of_kind,
  link_line,
  link_listed,
  endpoint_line,
  endpoint_listed,
}
use Rattle.history_model.specs.Leases.{is_live_at, live_among}
use Rattle.history_model.specs.Listing.{numbered_part, lines_of}
use Rattle.history_model.specs.Replay.{numbered}
use Rattle.history_model.proofs.ListingLaws.{unnumbered}
use Rattle.listing.specs.AppendedLines.{appended, shown_lines}
use Rattle.listing.proofs.PartLaws.{appended-append, appended-joined, appended-nil, shown_none}
use Rattle.directory_core.specs.declared.pages.Page.{Page}
use Rattle.directory_core.specs.Lapsing.{with_lapsing, lapsing_left}
use Rattle.directory_core.specs.Pages.{
  finished,
  live_part,
  live_part_or_none,
  live_lines,
  numbered_lines,
}
use Rattle.directory_core.proofs.LapsingLaws.{lapsing_none, lapsing_first}

-- ---- lines after lines

-- what is shown of lines and then of others
pub shown_append : (skip most : ℕ) (lines more : List (List ℕ))
    → shown_lines skip most (lines ++ more)
    ≡ shown_lines skip most lines
    ++ shown_lines (skip - min skip (length lines))
    (most - length (shown_lines skip most lines)) more
shown_append skip most [] more = by (shown_lines skip most []) (shown_none skip most)
  where
    by : (none : List (List ℕ))
        → none ≡ []
        → shown_lines skip most more
        ≡ none ++ shown_lines (skip - min skip 0) (most - length none) more
    by none e = rw e (ap₂ (λ s m. shown_lines s m more) (omega arith) (omega arith))
shown_append (suc skip) most (line ∷ lines) more =
    shown_append skip most lines more
    ∙ ap (λ s.
    shown_lines skip most lines
    ++ shown_lines s (most - length (shown_lines skip most lines)) more) (omega arith)
shown_append zero zero (line ∷ lines) more = refl
shown_append zero (suc most) (line ∷ lines) more =
    ap (λ rest. line ∷ rest) (shown_append zero most lines more
    ∙ ap₂ (λ s m. shown_lines zero most lines ++ shown_lines s m more) (omega arith)
    (omega arith))

-- all pass where all did
all_dropped : (test : List ℕ → Bool) (n : ℕ) (lines : List (List ℕ))
    → list_all test lines ≡ true
    → list_all test (drop n lines) ≡ true
all_dropped test zero lines all = all
all_dropped test (suc n) [] all = refl
all_dropped test (suc n) (line ∷ lines) all = all_dropped test n lines (by (test line) all)
  where
    by : (b : Bool) → (b && list_all test lines) ≡ true → list_all test lines ≡ true
    by true h = h
    by false h = absurd cc

all_taken : (test : List ℕ → Bool) (n : ℕ) (lines : List (List ℕ))
    → list_all test lines ≡ true
    → list_all test (take n lines) ≡ true
all_taken test zero lines all = refl
all_taken test (suc n) [] all = refl
all_taken test (suc n) (line ∷ lines) all = by (test line) all (all_taken test n lines)
  where
    by : (b : Bool)
        → (b && list_all test lines) ≡ true
        → (list_all test lines ≡ true → list_all test (take n lines) ≡ true)
        → (b && list_all test (take n lines)) ≡ true
    by true h more = more h
    by false h more = absurd cc

-- no line of a record is empty
abbrev is_full : List ℕ → Bool
is_full line = not (is_empty line)

full_links : (test : Item → Bool) (items : List Item)
    → list_all is_full (map link_line (filter test items)) ≡ true
unfolding link_line
full_links test [] = refl
full_links test (item ∷ items) = by (test item) (full_links test items)
  where
    by : (b : Bool)
        → list_all is_full (map link_line (filter test items)) ≡ true
        → list_all is_full (map link_line (cond b (item ∷ filter test items) (filter test items)))
        ≡ true
    by true more = more
    by false more = more

full_endpoint : (r : Record) → is_full (endpoint_line r) ≡ true
unfolding endpoint_line
full_endpoint r = refl

pub full_part : (query : Query) (r : Record) → list_all is_full (part query r) ≡ true
unfolding part
full_part query r = of_kind query.kind
  where
    of_endpoint : (b : Bool) → list_all is_full (cond b (endpoint_line r ∷ []) []) ≡ true
    of_endpoint true = rw (full_endpoint r) refl
    of_endpoint false = refl

    of_kind : (k : Kind) → list_all is_full (part_of_kind k query r) ≡ true
    of_kind kind.Resource = full_links (link_listed query r) r.items
    of_kind kind.Endpoint = of_endpoint (endpoint_listed query r)
    of_kind kind.Discovery = refl

-- lines after those of a record
pub added : (query : Query) (r : Record) (before after : List ℕ) (skip skipped most written : ℕ)
    (more : List (List ℕ))
    → after ≡ appended before (shown_lines skip most (part query r))
    → skipped ≡ min skip (length (part query r))
    → written ≡ length (shown_lines skip most (part query r))
    → appended after (shown_lines (skip - skipped) (most - written) more)
    ≡ appended before (shown_lines skip most (part query r ++ more))
added query r before after skip skipped most written more text few_skipped few_written =
    let lines = part query r in
    let full : list_all is_full (shown_lines skip most lines) ≡ true =
    all_taken is_full most (drop skip lines)
    (all_dropped is_full skip lines (full_part query r)) in
    rw (text, few_skipped, few_written) (appended-append before (shown_lines skip most lines)
    (shown_lines (skip - min skip (length lines))
    (most - length (shown_lines skip most lines)) more) full
    ∙ ap (appended before) (sym (shown_append skip most lines more)))

-- at the beginning
pub page_begins : (query : Query) (text : List ℕ) (skip most : ℕ) (lines : List (List ℕ))
    → text ≡ []
    → page_of query.page query.count lines ≡ shown_lines skip most lines
    → appended text (shown_lines skip most lines) ≡ shown query lines
unfolding shown
page_begins query text skip most lines empty cut =
    rw empty (appended-joined (shown_lines skip most lines) ∙ ap (join_with_byte comma) (sym cut))

-- no line leaves the text as it is
pub no_more : (text : List ℕ) (skip most : ℕ) → appended text (shown_lines skip most []) ≡ text
no_more text skip most = ap (appended text) (shown_none skip most) ∙ appended-nil text

-- no line more is shown on a page that is full
pub full_page : (page begun : Page) (lines all : List (List ℕ))
    → page.most ≡ 0
    → finished page lines ≡ finished begun all
    → finished page [] ≡ finished begun all
full_page page begun lines all full so_far = none ∙ so_far
  where
    none : finished page [] ≡ finished page lines
    none = rw full refl

-- ---- the lines of records, one after another

pub live_gives : (query : Query) (moment : ℕ) (r : Record)
    → is_live_at moment r ≡ true
    → live_part query moment r ≡ part query r
live_gives query moment r live = rw live refl

pub lapsed_gives : (query : Query) (moment : ℕ) (r : Record)
    → is_live_at moment r ≡ false
    → live_part query moment r ≡ []
lapsed_gives query moment r lapsed = rw lapsed refl

lines_first : (query : Query) (moment : ℕ) (r : Record) (rs : List Record)
    → live_lines query moment (r ∷ rs) ≡ live_part query moment r ++ live_lines query moment rs
unfolding live_lines
lines_first query moment r rs = refl

lines_end : (query : Query) (moment : ℕ) → live_lines query moment [] ≡ []
unfolding live_lines
lines_end query moment = refl

-- one record of a map is added, and none is left
pub first_added : (query : Query) (moment : ℕ) (page after begun : Page) (all : List (List ℕ))
    (n : ℕ) (r : Record) (pairs more : List (ℕ × Record))
    → pairs ≡ (n, r) ∷ more
    → ((lines : List (List ℕ))
    → finished after lines ≡ finished page (live_part query moment r ++ lines))
    → finished page (live_lines query moment (values_of pairs)) ≡ finished begun all
    → finished after (live_lines query moment (values_of more)) ≡ finished begun all
first_added query moment page after begun all n r pairs more split adds so_far =
    adds (live_lines query moment (values_of more))
    ∙ ap (finished page) (sym (ap (λ es. live_lines query moment (values_of es)) split
    ∙ lines_first query moment r (values_of more)))
    ∙ so_far

pub none_left : (query : Query) (moment : ℕ) (page begun : Page) (all : List (List ℕ))
    (pairs : List (ℕ × Record))
    → pairs ≡ []
    → finished page (live_lines query moment (values_of pairs)) ≡ finished begun all
    → finished page [] ≡ finished begun all
none_left query moment page begun all pairs none so_far =
    ap (finished page)
    (sym (ap (λ es. live_lines query moment (values_of es)) none ∙ lines_end query moment))
    ∙ so_far

numbered_first : (query : Query) (moment : ℕ) (records : List Record) (n : ℕ) (numbers : List ℕ)
    → numbered_lines query moment records (n ∷ numbers)
    ≡ live_part_or_none query moment (numbered n records)
    ++ numbered_lines query moment records numbers
unfolding numbered_lines
numbered_first query moment records n numbers = refl

numbered_end : (query : Query) (moment : ℕ) (records : List Record)
    → numbered_lines query moment records [] ≡ []
unfolding numbered_lines
numbered_end query moment records = refl

-- where the record of a number is there, and where it is not
numbered_here : (query : Query) (moment : ℕ) (records : List Record) (n : ℕ) (numbers : List ℕ)
    (r : Record)
    → numbered n records ≡ Some r
    → numbered_lines query moment records (n ∷ numbers)
    ≡ live_part query moment r ++ numbered_lines query moment records numbers
numbered_here query moment records n numbers r found =
    numbered_first query moment records n numbers
    ∙ ap (λ o. live_part_or_none query moment o ++ numbered_lines query moment records numbers)
    found

numbered_nowhere : (query : Query) (moment : ℕ) (records : List Record) (n : ℕ) (numbers : List ℕ)
    → numbered n records ≡ None
    → numbered_lines query moment records (n ∷ numbers)
    ≡ numbered_lines query moment records numbers
numbered_nowhere query moment records n numbers none =
    numbered_first query moment records n numbers
    ∙ ap (λ o. live_part_or_none query moment o ++ numbered_lines query moment records numbers) none

-- the record of one number is added, or there is none, and no number is left
pub number_added : (query : Query) (moment : ℕ) (records : List Record) (page after begun : Page)
    (all : List (List ℕ)) (n : ℕ) (numbers more : List ℕ) (r : Record)
    → numbers ≡ n ∷ more
    → numbered n records ≡ Some r
    → ((lines : List (List ℕ))
    → finished after lines ≡ finished page (live_part query moment r ++ lines))
    → finished page (numbered_lines query moment records numbers) ≡ finished begun all
    → finished after (numbered_lines query moment records more) ≡ finished begun all
number_added query moment records page after begun all n numbers more r split found adds so_far =
    adds (numbered_lines query moment records more)
    ∙ ap (finished page) (sym (ap (numbered_lines query moment records) split
    ∙ numbered_here query moment records n more r found))
    ∙ so_far

pub number_passed : (query : Query) (moment : ℕ) (records : List Record) (page begun : Page)
    (all : List (List ℕ)) (n : ℕ) (numbers more : List ℕ)
    → numbers ≡ n ∷ more
    → numbered n records ≡ None
    → finished page (numbered_lines query moment records numbers) ≡ finished begun all
    → finished page (numbered_lines query moment records more) ≡ finished begun all
number_passed query moment records page begun all n numbers more split none so_far =
    ap (finished page) (sym (ap (numbered_lines query moment records) split
    ∙ numbered_nowhere query moment records n more none))
    ∙ so_far

pub no_number_left : (query : Query) (moment : ℕ) (records : List Record) (page begun : Page)
    (all : List (List ℕ)) (numbers : List ℕ)
    → numbers ≡ []
    → finished page (numbered_lines query moment records numbers) ≡ finished begun all
    → finished page [] ≡ finished begun all
no_number_left query moment records page begun all numbers none so_far =
    ap (finished page)
    (sym (ap (numbered_lines query moment records) none ∙ numbered_end query moment records))
    ∙ so_far

part_unnumbered : (number : ℕ) (lines : List (List ℕ))
    → unnumbered (map (λ line. (number, line)) lines) ≡ lines
part_unnumbered number [] = refl
part_unnumbered number (line ∷ lines) = ap (λ rest. line ∷ rest) (part_unnumbered number lines)

-- the lines of a record before those of others
unnumbered_first : (query : Query) (r : Record) (rs : List Record)
    → unnumbered (lines_of query (r ∷ rs)) ≡ part query r ++ unnumbered (lines_of query rs)
unnumbered_first query r rs =
    map-append (λ (line : ℕ × List ℕ). line.1) (numbered_part query r) (lines_of query rs)
    ∙ ap (λ lines. lines ++ unnumbered (lines_of query rs))
    (part_unnumbered r.number (part query r))

-- a record that is live, or not, before others
either : (query : Query) (moment : ℕ) (r : Record) (others : List Record) (lines : List (List ℕ))
    → lines ≡ unnumbered (lines_of query others)
    → live_part query moment r ++ lines
    ≡ unnumbered (lines_of query (cond (is_live_at moment r) (r ∷ others) others))
either query moment r others lines same = by (is_live_at moment r)
  where
    by : (b : Bool)
        → cond b (part query r) [] ++ lines
        ≡ unnumbered (lines_of query (cond b (r ∷ others) others))
    by true = ap (λ rest. part query r ++ rest) same ∙ sym (unnumbered_first query r others)
    by false = same

pub live_lines-are : (query : Query) (moment : ℕ) (rs : List Record)
    → live_lines query moment rs ≡ unnumbered (lines_of query (live_among moment rs))
live_lines-are query moment [] = lines_end query moment
live_lines-are query moment (r ∷ rs) =
    lines_first query moment r rs
    ∙ either query moment r (live_among moment rs) (live_lines query moment rs)
    (live_lines-are query moment rs)

pub numbered_lines-are : (query : Query) (moment : ℕ) (records : List Record) (numbers : List ℕ)
    → numbered_lines query moment records numbers
    ≡ unnumbered (lines_of query (lapsing_left moment records numbers))
numbered_lines-are query moment records [] =
    numbered_end query moment records
    ∙ ap (λ rs. unnumbered (lines_of query rs)) (sym (lapsing_none moment records))
numbered_lines-are query moment records (n ∷ numbers) =
    numbered_first query moment records n numbers
    ∙ by (numbered n records) (numbered_lines-are query moment records numbers)
    ∙ ap (λ rs. unnumbered (lines_of query rs)) (sym (lapsing_first moment records n numbers))
  where
    by : (o : Option Record)
        → numbered_lines query moment records numbers
        ≡ unnumbered (lines_of query (lapsing_left moment records numbers))
        → live_part_or_none query moment o ++ numbered_lines query moment records numbers
        ≡ unnumbered
        (lines_of query (with_lapsing moment o (lapsing_left moment records numbers)))
    by None more = more
    by (Some r) more =
        either query moment r (lapsing_left moment records numbers)
        (numbered_lines query moment records numbers) more
