-- A tag determines the front and the live records of one history: so equal tags mean equal
-- listings, and equal sources.
use Rattle.std.proofs.Common.{
  ◌≡◌,
  ℕ,
  ◌+◌,
  ◌^◌,
  ◌<◌,
  ◌≤◌,
  not,
  List,
  [],
  ◌∷◌,
  ◌++◌,
  map,
  filter,
  length,
  option_map,
  take,
  nat_lt,
  nat_le,
  refl,
  sym,
  ap,
  ap₂,
  subst,
  ◌∙◌,
  ◌⊎◌,
  inl,
  inr,
  arith,
  take_at,
}
use Rattle.std.proofs.lemmas.Bool.{cases_lt}
use Rattle.std.proofs.lemmas.Bool.Decides.{nat_tests}
use Rattle.std.proofs.lemmas.List.Filters.{length-filter_both}
use Rattle.rd_base.specs.declared.queries.Query.{Query}
use Rattle.rd_base.specs.declared.records.Record.{Record}
use Rattle.record_model.specs.ListingLines.{shown}
use Rattle.history_model.specs.declared.entries.Entry.{Entry}
use Rattle.history_model.specs.Leases.{lapse, is_live_at, live_among}
use Rattle.history_model.specs.Replay.{numbered, replay, count_after, counted}
use Rattle.history_model.specs.Sources.{record_source, source}
use Rattle.history_model.specs.Live.{IsFront, live, last_moment}
use Rattle.history_model.specs.Listing.{lines_of, all_lines, listing, lapsed_since, tag_from}
use Rattle.history_model.specs.Legal.{IsLegalFrom}
use Rattle.history_model.specs.Refusals.{max_entries}
use Rattle.rd_base.proofs.lemmas.Filters.{filter_full}
use Rattle.history_model.proofs.ReplayLaws.{lifted-above, counted-above}
use Rattle.history_model.proofs.LegalLaws.{IsLegalFrom-IsFront}
use Rattle.history_model.proofs.SweepLaws.{live_among_live}
use Rattle.history_model.proofs.LimitLaws.{live-IsBounded, counted-le-max_entries}
use Rattle.history_model.proofs.TagOctets.{tag_octets_tell}

-- ---- what has lapsed and what is live

not_lapsed : (a b : ℕ) → nat_lt a b ≡ not (nat_le b a)
not_lapsed a b = grind (arith, nat_tests)

-- a record that was live after the last entry has lapsed, or is live
pub lapsed_since-live : (history : List Entry) (moment : ℕ)
    → last_moment history ≤ moment
    → lapsed_since history moment + length (live history moment)
    ≡ length (live history (last_moment history))
unfolding live lapsed_since
lapsed_since-live history moment order =
    let last = live_among (last_moment history) (replay history).records in
    let both :
    length (filter (λ (r : Record). nat_le (lapse r) moment) last)
    + length (live_among moment last)
    ≡ length last
    = length-filter_both (λ r. nat_le (lapse r) moment) (is_live_at moment)
    (λ r. not_lapsed moment (lapse r)) last in
    let same = live_among_live (last_moment history) moment (replay history).records order in
    subst (λ (records : List Record).
    length (filter (λ (r : Record). nat_le (lapse r) moment) last) + length records
    ≡ length last) same both

-- later as many records are live: then they are the same
later_live : (history : List Entry) (moment later : ℕ)
    → moment ≤ later
    → length (live history later) ≡ length (live history moment)
    → live history later ≡ live history moment
unfolding live
later_live history moment later order e =
    let same = live_among_live moment later (replay history).records order in
    sym same
    ∙ filter_full (is_live_at later) (live_among moment (replay history).records)
    (ap length same ∙ e)

-- of one history, the number of those that have lapsed determines which are live
pub lapsed_since_tells : (history : List Entry) (moment later : ℕ)
    → last_moment history ≤ moment
    → last_moment history ≤ later
    → lapsed_since history moment ≡ lapsed_since history later
    → live history moment ≡ live history later
lapsed_since_tells history moment later low high e = by (cases_lt moment later)
  where
    count : length (live history later) ≡ length (live history moment)
    count =
        let a = lapsed_since-live history moment low in
        let b = lapsed_since-live history later high in omega (arith, a, b)

    by : (moment < later) ⊎ (later ≤ moment) → live history moment ≡ live history later
    by (inl before) = sym (later_live history moment later (omega arith) count)
    by (inr order) = later_live history later moment order (sym count)

-- ---- fronts

-- fronts of one history that are as long are the same
pub same_front : (history front other : List Entry)
    → IsFront front history
    → IsFront other history
    → length front ≡ length other
    → front ≡ other
same_front history front other begins also e =
    sym (take_at front begins.0 (length front) refl)
    ∙ ap (take (length front)) (begins.1 ∙ sym (also.1))
    ∙ take_at other also.0 (length front) (sym e)

-- of two lists with further entries that are the same, those are the same that are counted alike
same_count : (first : ℕ) (front further other more : List Entry)
    → front ++ further ≡ other ++ more
    → counted first front ≡ counted first other
    → front ≡ other
unfolding counted
same_count first [] further [] more whole e = refl
same_count first [] further (x ∷ xs) more whole e =
    let low = lifted-above first x.change in
    let high = counted-above (count_after first x) xs in absurd (omega (arith, low, high, e))
same_count first (x ∷ xs) further [] more whole e =
    let low = lifted-above first x.change in
    let high = counted-above (count_after first x) xs in absurd (omega (arith, low, high, e))
same_count first (x ∷ xs) further (y ∷ ys) more whole e =
    let heads : x ≡ y = cc in
    let rest : xs ++ further ≡ ys ++ more = cc in
    ap₂ (λ z zs. z ∷ zs) heads (same_count (count_after first x) xs further ys more rest
    (e ∙ ap (λ z. counted (count_after first z) ys) (sym heads)))

-- fronts of one history that are counted alike are the same
pub same_counted : (first : ℕ) (history front other : List Entry)
    → IsFront front history
    → IsFront other history
    → counted first front ≡ counted first other
    → front ≡ other
same_counted first history front other begins also e =
    same_count first front begins.0 other also.0 (begins.1 ∙ sym (also.1)) e

-- ---- tags

-- no more records have lapsed since the last entry than were live after it
lapsed_below : (first : ℕ) (history : List Entry) (moment : ℕ)
    → IsLegalFrom first history
    → last_moment history ≤ moment
    → lapsed_since history moment < 2 ^ 16
lapsed_below first history moment legal order =
    let all = lapsed_since-live history moment order in
    let few = (live-IsBounded first history (last_moment history) legal (omega arith)).count in
    omega (arith, all, few)

-- Two fronts of one legal history, each with a moment that is not below its last: where their tags
-- are equal, they are the same front, and the same records are live.
pub tag_from_tells : (first : ℕ) (history front other : List Entry) (moment later : ℕ)
    → first ≤ max_entries
    → IsLegalFrom first history
    → IsFront front history
    → IsFront other history
    → last_moment front ≤ moment
    → last_moment other ≤ later
    → tag_from first front moment ≡ tag_from first other later
    → (front ≡ other) × (live front moment ≡ live other later)
unfolding tag_from
tag_from_tells first history front other moment later low_first legal begins also low high e =
    let legal_front = IsLegalFrom-IsFront first front history begins legal in
    let legal_other = IsLegalFrom-IsFront first other history also legal in
    let few = counted-le-max_entries first front low_first legal_front in
    let fewer = counted-le-max_entries first other low_first legal_other in
    let numbers =
    tag_octets_tell (counted first front) (lapsed_since front moment) (counted first other)
    (lapsed_since other later) (omega (arith, few)) (omega (arith, fewer))
    (lapsed_below first front moment legal_front low)
    (lapsed_below first other later legal_other high) e in
    let same = same_counted first history front other begins also numbers.0 in
    (same, of_equal_fronts front other same low high numbers.1)
  where
    of_equal_fronts : (front other : List Entry)
        → front ≡ other
        → last_moment front ≤ moment
        → last_moment other ≤ later
        → lapsed_since front moment ≡ lapsed_since other later
        → live front moment ≡ live other later
    of_equal_fronts front other same low high lapsed =
        let low_other : last_moment other ≤ moment = subst (λ h. last_moment h ≤ moment) same low in
        ap (λ h. live h moment) same
        ∙ lapsed_since_tells other moment later low_other high
        (ap (λ h. lapsed_since h moment) (sym same) ∙ lapsed)

-- the same records give the same lines and the same listing
pub all_lines-live : (query : Query) (front other : List Entry) (moment later : ℕ)
    → live front moment ≡ live other later
    → all_lines query front moment ≡ all_lines query other later
unfolding all_lines
all_lines-live query front other moment later same = ap (lines_of query) same

pub listing-live : (query : Query) (front other : List Entry) (moment later : ℕ)
    → live front moment ≡ live other later
    → listing query front moment ≡ listing query other later
unfolding listing
listing-live query front other moment later same =
    ap (λ lines. shown query (map_lines lines)) (all_lines-live query front other moment later same)
  where
    map_lines : List (ℕ × List ℕ) → List (List ℕ)
    map_lines lines = map (λ numbered. numbered.1) lines

-- equal tags of fronts of one legal history mean equal listings for an equal query
-- An end theorem: nothing here cites it.
pub listing-tag_from : (first : ℕ) (history front other : List Entry) (moment later : ℕ)
    (query : Query)
    → first ≤ max_entries
    → IsLegalFrom first history
    → IsFront front history
    → IsFront other history
    → last_moment front ≤ moment
    → last_moment other ≤ later
    → tag_from first front moment ≡ tag_from first other later
    → listing query front moment ≡ listing query other later
listing-tag_from first history front other moment later query counted legal begins also low high e =
    listing-live query front other moment later
    (tag_from_tells first history front other moment later counted legal begins also low high
    e).1

-- so do they the same source of each number
pub source-live : (number : ℕ) (front other : List Entry) (moment later : ℕ)
    → live front moment ≡ live other later
    → source number front moment ≡ source number other later
unfolding source
source-live number front other moment later same =
    ap (λ records. option_map record_source (numbered number records)) same

-- equal tags of fronts of one legal history mean equal sources of an equal number
-- An end theorem: nothing here cites it.
pub source-tag_from : (first : ℕ) (history front other : List Entry) (moment later number : ℕ)
    → first ≤ max_entries
    → IsLegalFrom first history
    → IsFront front history
    → IsFront other history
    → last_moment front ≤ moment
    → last_moment other ≤ later
    → tag_from first front moment ≡ tag_from first other later
    → source number front moment ≡ source number other later
source-tag_from first history front other moment later number counted legal begins also low high e =
    source-live number front other moment later
    (tag_from_tells first history front other moment later counted legal begins also low high
    e).1
