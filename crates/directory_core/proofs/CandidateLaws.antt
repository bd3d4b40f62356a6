-- Which records can give a line to a query: those whose numbers are among the carriers of one of
-- its criteria.
use Rattle.std.proofs.Common.{
  ◌≡◌,
  ℕ,
  ◌<◌,
  ◌==◌,
  ◌||◌,
  ◌&&◌,
  Bool,
  true,
  false,
  not,
  cond,
  List,
  [],
  ◌∷◌,
  map,
  Contains,
  Option,
  Some,
  None,
  refl,
  sym,
  ap,
  ◌∙◌,
  subst,
  ◌⊎◌,
  inl,
  inr,
  arith,
  eqb-true,
  ne_eqb,
}
use Rattle.std.specs.List.{AllByRecursion, list_any, list_all, flat_map}
use Rattle.std.proofs.lemmas.Bool.{true≢false}
use Rattle.std.proofs.lemmas.Bool.Decides.{nat_tests}
use Rattle.std.proofs.lemmas.List.Folds.{list_any-append}
use Rattle.rd_base.specs.declared.attributes.Pair.{Pair}
use Rattle.rd_base.specs.declared.queries.Criterion.{Criterion}
use Rattle.rd_base.specs.declared.queries.Kind.{Kind}
use Rattle.rd_base.specs.declared.queries.Kind.TheVariants as kind
use Rattle.rd_base.specs.declared.queries.Query.{Query}
use Rattle.rd_base.specs.declared.records.Item.{Item}
use Rattle.rd_base.specs.declared.records.Record.{Record}
use Rattle.rd_base.proofs.lemmas.Contains.{contains_cases, contains_filter, contains_none}
use Rattle.rd_base.proofs.lemmas.Each.{each_weaker}
use Rattle.rd_base.proofs.lemmas.Filters.{filter_none}
use Rattle.rd_base.proofs.lemmas.Pairs.{PairsByRecursion, pairs_filter}
use Rattle.record_model.specs.ListingLines.{
  part,
  part_of_kind,
  part_or_none,
  link_line,
  link_listed,
  endpoint_listed,
}
use Rattle.record_model.specs.Matching.{
  is_href,
  is_anchor_criterion,
  endpoint_pairs,
  matches_pairs,
  link_matches,
  endpoint_matches,
}
use Rattle.history_model.specs.Leases.{is_live_at, live_among}
use Rattle.history_model.specs.Listing.{lines_of}
use Rattle.history_model.specs.Replay.{is_numbered, numbered}
use Rattle.history_model.proofs.LinesByNumber.{part_at, lines_from_parts}
use Rattle.history_model.proofs.NumberLaws.{IsBelow}
use Rattle.attribute_index.specs.Entries.{Entry, carriers_of, has_entry, has_number}
use Rattle.attribute_index.proofs.CarrierLaws.{has_number-carriers}
use Rattle.directory_core.specs.Bounds.{
  AreEntriesOf,
  attribute_criteria,
  is_of_attributes,
  pairs_of,
  record_entries,
}
use Rattle.directory_core.specs.Lapsing.{with_lapsing, lapsing_left}
use Rattle.directory_core.specs.Races.{AreNumbersOf}
use Rattle.directory_core.proofs.ChangeLaws.{its_number, numbered-filter, filter-numbered}
use Rattle.directory_core.proofs.IndexLaws.{entry_number}
use Rattle.directory_core.proofs.LapsingLaws.{lapsing_none, lapsing_first}
use Rattle.directory_core.proofs.ReadLaws.{filter_unnumbered, filter_failed}

-- ---- a criterion that matches none of a record's attributes

all_fails : {X : Type 0} (test : X → Bool) (xs : List X) (x : X)
    → Contains xs x
    → test x ≡ false
    → list_all test xs ≡ false
all_fails test [] x among fails = absurd (contains_none x among)
all_fails test (y ∷ ys) x among fails =
    by (contains_cases y ys x among) (λ there. all_fails test ys x there fails)
  where
    and_none : (b : Bool) → (b && false) ≡ false
    and_none true = refl
    and_none false = refl

    by : (y ≡ x) ⊎ Contains ys x
        → (Contains ys x → list_all test ys ≡ false)
        → (test y && list_all test ys) ≡ false
    by (inl is) more = ap (λ b. b && list_all test ys) (ap test is ∙ fails)
    by (inr there) more = ap (λ b. test y && b) (more there) ∙ and_none (test y)

or_parts_fail : (a b : Bool) → (a || b) ≡ false → (a ≡ false) × (b ≡ false)
or_parts_fail true b e = absurd (true≢false e)
or_parts_fail false b e = (refl, e)

-- what the criterion is about
not_about : (criterion : Criterion)
    → is_of_attributes criterion ≡ true
    → (is_href criterion ≡ false) × (is_anchor_criterion criterion ≡ false)
not_about criterion of = by (is_href criterion) (is_anchor_criterion criterion) of
  where
    by : (a b : Bool) → (not a && not b) ≡ true → (a ≡ false) × (b ≡ false)
    by false false e = (refl, refl)
    by true b e = absurd (true≢false (sym e))
    by false true e = absurd (true≢false (sym e))

link_by_pairs : (criterion : Criterion) (item : Item)
    → is_of_attributes criterion ≡ true
    → link_matches criterion item ≡ matches_pairs criterion item.pairs
unfolding link_matches
link_by_pairs criterion item of = let about = not_about criterion of in rw (about.0, about.1) refl

endpoint_by_pairs : (criterion : Criterion) (r : Record)
    → is_of_attributes criterion ≡ true
    → endpoint_matches criterion r ≡ matches_pairs criterion (endpoint_pairs r)
unfolding endpoint_matches
endpoint_by_pairs criterion r of = let about = not_about criterion of in rw about.0 refl

abbrev all_pairs : List Item → List Pair
all_pairs items = flat_map (λ item. item.pairs) items

-- none of the links matches by itself
no_links : (criterion : Criterion) (items : List Item)
    → is_of_attributes criterion ≡ true
    → matches_pairs criterion (all_pairs items) ≡ false
    → AllByRecursion (λ item. link_matches criterion item ≡ false) items
no_links criterion [] of fails = tt
no_links criterion (item ∷ items) of fails =
    let parts =
    or_parts_fail (matches_pairs criterion item.pairs)
    (matches_pairs criterion (all_pairs items))
    (sym (list_any-append _ item.pairs (all_pairs items)) ∙ fails) in
    (link_by_pairs criterion item of ∙ parts.0, no_links criterion items of parts.1)

none_matches : (test : Item → Bool) (items : List Item)
    → AllByRecursion (λ item. test item ≡ false) items
    → list_any test items ≡ false
none_matches test [] none = refl
none_matches test (item ∷ items) none =
    let here = none.0 in rw here (none_matches test items none.1)

-- a record gives no line where a criterion about attributes matches none of its own
pub no_line : (query : Query) (criterion : Criterion) (r : Record)
    → Contains (attribute_criteria query.criteria) criterion
    → matches_pairs criterion (pairs_of r) ≡ false
    → part query r ≡ []
unfolding part link_listed endpoint_listed
no_line query criterion r among fails = of_kind query.kind
  where
    known : Contains query.criteria criterion × (is_of_attributes criterion ≡ true)
    known = contains_filter is_of_attributes query.criteria criterion among

    parts :
        (matches_pairs criterion (endpoint_pairs r) ≡ false)
        × (matches_pairs criterion (all_pairs r.items) ≡ false)
    parts =
        or_parts_fail (matches_pairs criterion (endpoint_pairs r))
        (matches_pairs criterion (all_pairs r.items))
        (sym (list_any-append _ (endpoint_pairs r) (all_pairs r.items)) ∙ fails)

    no_endpoint : endpoint_matches criterion r ≡ false
    no_endpoint = endpoint_by_pairs criterion r known.1 ∙ parts.0

    no_link : AllByRecursion (λ item. link_matches criterion item ≡ false) r.items
    no_link = no_links criterion r.items known.1 parts.1

    unlisted : (item : Item)
        → link_matches criterion item ≡ false
        → link_listed query r item ≡ false
    unlisted item here =
        all_fails (λ c. link_matches c item || endpoint_matches c r) query.criteria criterion
        known.0 (rw here no_endpoint)

    unlisted_endpoint : endpoint_listed query r ≡ false
    unlisted_endpoint =
        all_fails (λ c. endpoint_matches c r || list_any (link_matches c) r.items) query.criteria
        criterion known.0
        (rw no_endpoint (none_matches (link_matches criterion) r.items no_link))

    of_kind : (k : Kind) → part_of_kind k query r ≡ []
    of_kind kind.Resource =
        ap (map link_line) (filter_none (link_listed query r) r.items
        (each_weaker (λ item. link_matches criterion item ≡ false)
        (λ item. link_listed query r item ≡ false) unlisted r.items no_link))
    of_kind kind.Endpoint = rw unlisted_endpoint refl
    of_kind kind.Discovery = refl

-- ---- the entries of one record in an index of many

none_behind : (e : Entry) (rs : List Record)
    → AllByRecursion (λ r. e.number ≡ r.number → ⊥) rs
    → list_any (λ r. has_entry (record_entries r) e) rs ≡ false
none_behind e [] apart = refl
none_behind e (r ∷ rs) apart = by (has_entry (record_entries r) e) refl (none_behind e rs apart.1)
  where
    by : (h : Bool)
        → has_entry (record_entries r) e ≡ h
        → list_any (λ x. has_entry (record_entries x) e) rs ≡ false
        → (h || list_any (λ x. has_entry (record_entries x) e) rs) ≡ false
    by true here more = absurd (apart.0 (entry_number r e here))
    by false here more = more

-- the record of the entry's number alone can have it
any_only : (e : Entry) (r : Record) (rs : List Record)
    → PairsByRecursion IsBelow rs
    → numbered r.number rs ≡ Some r
    → e.number ≡ r.number
    → list_any (λ x. has_entry (record_entries x) e) rs ≡ has_entry (record_entries r) e
any_only e r [] up found of = absurd cc
any_only e r (x ∷ xs) up found of = by (is_numbered r.number x) refl found (any_only e r xs up.1)
  where
    or_none : (a b : Bool) → b ≡ false → (a || b) ≡ a
    or_none true b f = refl
    or_none false b f = f

    by : (n : Bool)
        → is_numbered r.number x ≡ n
        → cond n (Some x) (numbered r.number xs) ≡ Some r
        → (numbered r.number xs ≡ Some r
        → e.number ≡ r.number
        → list_any (λ y. has_entry (record_entries y) e) xs ≡ has_entry (record_entries r) e)
        → (has_entry (record_entries x) e || list_any (λ y. has_entry (record_entries y) e) xs)
        ≡ has_entry (record_entries r) e
    by true same f more =
        let one : x ≡ r = cc in
        let apart =
        each_weaker (IsBelow x) (λ y. e.number ≡ y.number → ⊥)
        (λ y below is. let at :
        x.number ≡ r.number =
        ap (λ (z : Record). z.number) one in omega (arith, below, is, at, of)) xs
        up.0 in
        or_none (has_entry (record_entries x) e) (list_any (λ y. has_entry (record_entries y) e) xs)
        (none_behind e xs apart)
        ∙ ap (λ z. has_entry (record_entries z) e) one
    by false other f more = first (has_entry (record_entries x) e) refl (more f of)
      where
        first : (h : Bool)
            → has_entry (record_entries x) e ≡ h
            → list_any (λ y. has_entry (record_entries y) e) xs ≡ has_entry (record_entries r) e
            → (h || list_any (λ y. has_entry (record_entries y) e) xs)
            ≡ has_entry (record_entries r) e
        first true here rest =
            let is = entry_number x e here in
            let same : is_numbered r.number x ≡ true =
            let again : (x.number == r.number) ≡ true = grind (arith, nat_tests) in again in
            absurd (true≢false (sym same ∙ other))
        first false here rest = rest

-- a record's number is among the carriers of a criterion exactly where the criterion matches one of
-- its attributes
pub told_by_index : (index : List Entry) (records : List Record) (criterion : Criterion)
    (r : Record)
    → AreEntriesOf records index
    → PairsByRecursion IsBelow records
    → numbered r.number records ≡ Some r
    → has_number (carriers_of criterion.name criterion.pattern index) r.number
    ≡ matches_pairs criterion (pairs_of r)
told_by_index index records criterion r are up found =
    has_number-carriers index criterion (pairs_of r) r.number
    (λ e of. are.there e ∙ any_only e r records up found of)

-- ---- the records of these numbers

-- a record where there is one and it is live
abbrev if_live : ℕ → Option Record → Option Record
if_live moment None = None
if_live moment (Some r) = cond (is_live_at moment r) (Some r) None

numbered_live : (moment n : ℕ) (rs : List Record)
    → PairsByRecursion IsBelow rs
    → numbered n (live_among moment rs) ≡ if_live moment (numbered n rs)
numbered_live moment n rs up = by (numbered n rs) refl
  where
    of_found : (r : Record)
        → numbered n rs ≡ Some r
        → (b : Bool)
        → is_live_at moment r ≡ b
        → numbered n (live_among moment rs) ≡ cond b (Some r) None
    of_found r found true live = numbered-filter (is_live_at moment) n r rs found live
    of_found r found false lapsed = filter_failed (is_live_at moment) n r rs up found lapsed

    by : (o : Option Record)
        → numbered n rs ≡ o
        → numbered n (live_among moment rs) ≡ if_live moment o
    by None none = filter_unnumbered (is_live_at moment) n rs none
    by (Some r) found = of_found r found (is_live_at moment r) refl

-- found by a number: among the records of these numbers exactly where it is one of them
pub found_among : (moment k : ℕ) (records : List Record) (numbers : List ℕ)
    → PairsByRecursion IsBelow records
    → numbered k (lapsing_left moment records numbers)
    ≡ cond (has_number numbers k) (numbered k (live_among moment records)) None
found_among moment k records [] up = ap (numbered k) (lapsing_none moment records)
found_among moment k records (n ∷ numbers) up =
    ap (numbered k) (lapsing_first moment records n numbers)
    ∙ by (numbered n records) refl (k == n) refl (found_among moment k records numbers up)
  where
    rest : List Record
    rest = lapsing_left moment records numbers

    there : Option Record
    there = numbered k (live_among moment records)

    -- the number is this one
    either_way : (b : Bool) (o : Option Record) → o ≡ None → cond b o None ≡ None
    either_way true o e = e
    either_way false o e = refl

    live_or_not : (r : Record) (l : Bool)
        → numbered n records ≡ Some r
        → is_live_at moment r ≡ l
        → k ≡ n
        → numbered k rest ≡ cond (has_number numbers k) there None
        → numbered k (cond l (r ∷ rest) rest) ≡ there
    live_or_not r true found live same more =
        let of : r.number ≡ k = its_number n r records found ∙ sym same in
        let here : is_numbered k r ≡ true =
        let again : (r.number == k) ≡ true = grind (arith, nat_tests) in again in
        let is : there ≡ Some r =
        ap (λ m. numbered m (live_among moment records)) same
        ∙ numbered_live moment n records up
        ∙ ap (if_live moment) found
        ∙ (rw live refl) in
        rw here (sym is)
    live_or_not r false found lapsed same more =
        let is : there ≡ None =
        ap (λ m. numbered m (live_among moment records)) same
        ∙ numbered_live moment n records up
        ∙ ap (if_live moment) found
        ∙ (rw lapsed refl) in
        more ∙ either_way (has_number numbers k) there is ∙ sym is

    -- the number is another
    other_way : (r : Record) (l : Bool)
        → numbered n records ≡ Some r
        → (k ≡ n → ⊥)
        → numbered k rest ≡ cond (has_number numbers k) there None
        → numbered k (cond l (r ∷ rest) rest) ≡ cond (has_number numbers k) there None
    other_way r true found other more =
        let away : is_numbered k r ≡ false =
        ne_eqb r.number k (λ is. other (sym is ∙ its_number n r records found)) in
        rw away more
    other_way r false found other more = more

    apart : (k == n) ≡ false → k ≡ n → ⊥
    apart e is =
        true≢false (sym (let again : (k == n) ≡ true = grind (arith, nat_tests) in again) ∙ e)

    by : (o : Option Record)
        → numbered n records ≡ o
        → (b : Bool)
        → (k == n) ≡ b
        → numbered k rest ≡ cond (has_number numbers k) there None
        → numbered k (with_lapsing moment o rest) ≡ cond (b || has_number numbers k) there None
    by None none true e more =
        let is : there ≡ None =
        ap (λ m. numbered m (live_among moment records)) (eqb-true k n e)
        ∙ numbered_live moment n records up
        ∙ ap (if_live moment) none in
        more ∙ either_way (has_number numbers k) there is ∙ sym is
    by None none false e more = more
    by (Some r) found true e more =
        live_or_not r (is_live_at moment r) found refl (eqb-true k n e) more
    by (Some r) found false e more = other_way r (is_live_at moment r) found (apart e) more

-- they stand in ascending order
each_found : (P : ℕ → Type 0) (moment : ℕ) (records : List Record) (numbers : List ℕ)
    → AllByRecursion P numbers
    → AllByRecursion (λ r. P r.number) (lapsing_left moment records numbers)
each_found P moment records [] all =
    subst (AllByRecursion (λ r. P r.number)) (sym (lapsing_none moment records)) tt
each_found P moment records (n ∷ numbers) all =
    subst (AllByRecursion (λ r. P r.number)) (sym (lapsing_first moment records n numbers))
    (by (numbered n records) refl (each_found P moment records numbers all.1))
  where
    either_way : (r : Record) (b : Bool)
        → P r.number
        → AllByRecursion (λ x. P x.number) (lapsing_left moment records numbers)
        → AllByRecursion (λ x. P x.number)
        (cond b (r ∷ lapsing_left moment records numbers) (lapsing_left moment records numbers))
    either_way r true here more = (here, more)
    either_way r false here more = more

    by : (o : Option Record)
        → numbered n records ≡ o
        → AllByRecursion (λ x. P x.number) (lapsing_left moment records numbers)
        → AllByRecursion (λ x. P x.number)
        (with_lapsing moment o (lapsing_left moment records numbers))
    by None none more = more
    by (Some r) found more =
        either_way r (is_live_at moment r) (subst P (sym (its_number n r records found)) all.0) more

pub found_rising : (moment : ℕ) (records : List Record) (numbers : List ℕ)
    → PairsByRecursion (λ m n. m < n) numbers
    → PairsByRecursion IsBelow (lapsing_left moment records numbers)
found_rising moment records [] rising =
    subst (PairsByRecursion IsBelow) (sym (lapsing_none moment records)) tt
found_rising moment records (n ∷ numbers) rising =
    subst (PairsByRecursion IsBelow) (sym (lapsing_first moment records n numbers))
    (by (numbered n records) refl (found_rising moment records numbers rising.1))
  where
    either_way : (r : Record) (b : Bool)
        → r.number ≡ n
        → PairsByRecursion IsBelow (lapsing_left moment records numbers)
        → PairsByRecursion IsBelow
        (cond b (r ∷ lapsing_left moment records numbers) (lapsing_left moment records numbers))
    either_way r true of more = (
      each_found (λ m. r.number < m) moment records numbers
          (each_weaker (λ m. n < m) (λ m. r.number < m) (λ m below. omega (arith, below, of))
          numbers rising.0),
      more,
    )
    either_way r false of more = more

    by : (o : Option Record)
        → numbered n records ≡ o
        → PairsByRecursion IsBelow (lapsing_left moment records numbers)
        → PairsByRecursion IsBelow (with_lapsing moment o (lapsing_left moment records numbers))
    by None none more = more
    by (Some r) found more = either_way r (is_live_at moment r) (its_number n r records found) more

-- the numbers of the carriers of a criterion give all lines
pub same_lines : (query : Query) (moment : ℕ) (records : List Record) (index : List Entry)
    (numbers : List ℕ)
    → PairsByRecursion IsBelow records
    → AreEntriesOf records index
    → PairsByRecursion (λ m n. m < n) numbers
    → AreNumbersOf index query.criteria numbers
    → lines_of query (lapsing_left moment records numbers)
    ≡ lines_of query (live_among moment records)
same_lines query moment records index numbers up are rising of =
    lines_from_parts query (lapsing_left moment records numbers) (live_among moment records)
    (found_rising moment records numbers rising)
    (pairs_filter IsBelow (is_live_at moment) records up) same
  where
    no_part : (k : ℕ) (o : Option Record)
        → numbered k (live_among moment records) ≡ o
        → has_number numbers k ≡ false
        → part_or_none query o ≡ []
    no_part k None found missing = refl
    no_part k (Some r) found missing =
        let stored = (filter-numbered (is_live_at moment) k r records up found).0 in
        let number : r.number ≡ k = its_number k r records stored in
        let itself : numbered r.number records ≡ Some r =
        ap (λ m. numbered m records) number ∙ stored in
        let fails : matches_pairs of.criterion (pairs_of r) ≡ false =
        sym (told_by_index index records of.criterion r are up itself)
        ∙ sym (of.are r.number)
        ∙ ap (has_number numbers) number
        ∙ missing in
        no_line query of.criterion r of.among fails

    by : (k : ℕ) (b : Bool)
        → has_number numbers k ≡ b
        → part_or_none query (cond b (numbered k (live_among moment records)) None)
        ≡ part_at query k (live_among moment records)
    by k true e = refl
    by k false e = sym (no_part k (numbered k (live_among moment records)) refl e)

    same : (k : ℕ)
        → part_at query k (lapsing_left moment records numbers)
        ≡ part_at query k (live_among moment records)
    same k =
        ap (part_or_none query) (found_among moment k records numbers up)
        ∙ by k (has_number numbers k) refl
