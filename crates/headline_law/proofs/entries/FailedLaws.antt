-- Of two admissions with one peer and Message ID that are less than the lifetime of an exchange
-- apart, the earlier ended in 5.00.
use Rattle.std.proofs.Common.{
  ◌≡◌,
  ◌⊎◌,
  inl,
  inr,
  ℕ,
  ◌+◌,
  ◌<◌,
  ◌≤◌,
  Bool,
  true,
  false,
  List,
  [],
  ◌∷◌,
  ◌++◌,
  length,
  None,
  refl,
  sym,
  ap,
  subst,
  ◌∙◌,
  lt-ltb,
  arith,
}
use Rattle.std.proofs.lemmas.Bool.{false≢true}
use Rattle.rd_base.specs.declared.peers.Peer.{Peer}
use Rattle.event_model.specs.declared.notes.Note.{Note}
use Rattle.event_model.specs.Events.{has_event, exchange_lifetime}
use Rattle.event_model.specs.Repeats.{is_admission_of, is_failure_of, repeated}
use Rattle.event_model.proofs.KeptLaws.{last_failed}
use Rattle.event_model.proofs.NotedLaws.{has_event-noted, last_event-before, Found, last_event-here}
use Rattle.journal_model.specs.declared.rows.Row.{Row}
use Rattle.journal_model.specs.Journal.{events, latest}
use Rattle.journal_model.specs.Rows.{AreRows}
use Rattle.journal_model.specs.PlacedRows.{Within, admits}
use Rattle.journal_model.specs.AdmittedWrites.{EndedWithoutMemory}
use Rattle.journal_model.proofs.EventRows.{within_more}
use Rattle.journal_model.proofs.entries.RowLaws.{row-moment_latest}
use Rattle.journal_model.proofs.entries.JournalLaws.{
  RowMade,
  newest_made,
  each_made,
  latest-row,
  latest-before,
}
use Rattle.headline_law.proofs.entries.Admissions.{row_admits}
use Rattle.headline_law.proofs.entries.Failures.{ended_without_memory}

-- a row within a journal is its newest, or within the rows before that
pub within_cases : (x : Row) (rest before : List Row) (r : Row)
    → Within (x ∷ rest) before r
    → ((x ≡ r) × (rest ≡ before)) ⊎ Within rest before r
within_cases x rest before r within = by within.later within.whole
  where
    by : (later : List Row)
        → x ∷ rest ≡ later ++ r ∷ before
        → ((x ≡ r) × (rest ≡ before)) ⊎ Within rest before r
    by [] whole = let first : x ≡ r = cc in let others : rest ≡ before = cc in inl (first, others)
    by (y ∷ later) whole =
        let others : rest ≡ later ++ r ∷ before = cc in
        inr (record { later = later; whole = others })

pub nothing_within : (before : List Row) (r : Row) → Within [] before r → ⊥
nothing_within before r within = by within.later within.whole
  where
    by : (later : List Row) → [] ≡ later ++ r ∷ before → ⊥
    by [] whole = absurd cc
    by (y ∷ later) whole = absurd cc

-- the moment of a row is not above the greatest
moment-latest : (rows before : List Row) (r : Row) → Within rows before r → r.moment.0 ≤ latest rows
moment-latest [] before r within = absurd (nothing_within before r within)
moment-latest (x ∷ rest) before r within =
    by (within_cases x rest before r within) (λ further. moment-latest rest before r further)
  where
    by : ((x ≡ r) × (rest ≡ before)) ⊎ Within rest before r
        → (Within rest before r → r.moment.0 ≤ latest rest)
        → r.moment.0 ≤ latest (x ∷ rest)
    by (inl same) more =
        subst (λ (y : Row). y.moment.0 ≤ latest (x ∷ rest)) same.0 (latest-row rest x)
    by (inr further) more = let low = more further in omega (arith, low, latest-before rest x)

-- what one of the events is, one of more rows is
has_event-more : (test : Note → Bool) (x : Row) (rest : List Row)
    → has_event test (events rest) ≡ true
    → has_event test (events (x ∷ rest)) ≡ true
unfolding events
has_event-more test x rest h =
    has_event-noted test (length rest) x.moment.0 x.step.word x.notes (events rest) h

-- the last admission of a peer and a Message ID, where an admission of them is within: it is that
-- one, or a later one
record LastAdmission (peer : Peer) (mid : ℕ) (rows earlier : List Row) (other : Row) : Type 0 where
  row_of : Row
  rows_before : List Row
  within : Within rows rows_before row_of
  admitted : admits peer mid row_of ≡ true
  found : Found (is_admission_of peer mid) (events rows) (length rows_before) row_of.moment.0
  order : ((row_of ≡ other) × (rows_before ≡ earlier)) ⊎ Within rows_before earlier other

last_admission : (peer : Peer) (mid : ℕ) (rows earlier : List Row) (other : Row)
    → Within rows earlier other
    → admits peer mid other ≡ true
    → LastAdmission peer mid rows earlier other
unfolding events
last_admission peer mid [] earlier other within it = absurd (nothing_within earlier other within)
last_admission peer mid (x ∷ rest) earlier other within it =
    by (admits peer mid x) refl (within_cases x rest earlier other within)
    (λ further. last_admission peer mid rest earlier other further it)
  where
    test : Note → Bool
    test n = is_admission_of peer mid n

    by : (b : Bool)
        → admits peer mid x ≡ b
        → ((x ≡ other) × (rest ≡ earlier)) ⊎ Within rest earlier other
        → (Within rest earlier other → LastAdmission peer mid rest earlier other)
        → LastAdmission peer mid (x ∷ rest) earlier other
    by true here cases more = record {
      row_of = x;
      rows_before = rest;
      within = record { later = []; whole = refl };
      admitted = here;
      found =
          last_event-here (is_admission_of peer mid) (length rest) x.moment.0 x.step.word x.notes
          (events rest) here;
      order = cases;
    }
    by false here (inl same) more =
        absurd
        (false≢true (sym here ∙ subst (λ (y : Row). admits peer mid y ≡ true) (sym same.0) it))
    by false here (inr further) more =
        let old : LastAdmission peer mid rest earlier other = more further in
        record {
          row_of = old.row_of;
          rows_before = old.rows_before;
          within = within_more x rest old.rows_before old.row_of old.within;
          admitted = old.admitted;
          found = record {
            event = old.found.event;
            last =
                last_event-before (is_admission_of peer mid) (length rest) x.moment.0 x.step.word
                x.notes (events rest) here
                ∙ old.found.last;
            at_place = old.found.at_place;
            at_moment = old.found.at_moment;
          };
          order = old.order;
        }

-- that an earlier admission failed
abbrev Failed : List Row → List Row → Type 0
Failed rows earlier = has_event (is_failure_of (length earlier)) (events rows) ≡ true

-- of two admissions that close the earlier failed, where the later one is the newest row
newest_failed : (before earlier : List Row) (r other : Row) (peer : Peer) (mid : ℕ)
    → RowMade before r
    → Within before earlier other
    → admits peer mid r ≡ true
    → admits peer mid other ≡ true
    → r.moment.0 < other.moment.0 + exchange_lifetime
    → ((between : List Row) (x : Row)
    → Within before between x
    → Within between earlier other
    → admits peer mid x ≡ true
    → x.moment.0 < other.moment.0 + exchange_lifetime
    → Failed before earlier)
    → Failed before earlier
newest_failed before earlier r other peer mid it further now then close more = by last.order
  where
    last : LastAdmission peer mid before earlier other
    last = last_admission peer mid before earlier other further then

    nothing_kept : repeated r.moment.0 peer mid (events before) ≡ None
    nothing_kept =
        subst (λ (y : Row). repeated y.moment.0 peer mid (events before) ≡ None) (sym it.is)
        (row_admits before it.step it.starved peer mid
        (subst (λ (y : Row). admits peer mid y ≡ true) it.is now))

    not_below : latest before ≤ r.moment.0
    not_below =
        subst (λ (y : Row). latest before ≤ y.moment.0) (sym it.is)
        (row-moment_latest before it.step it.starved)

    by :
        ((last.row_of ≡ other) × (last.rows_before ≡ earlier))
        ⊎ Within last.rows_before earlier other
        → Failed before earlier
    by (inl same) =
        let moments : last.row_of.moment.0 ≡ other.moment.0 = ap (λ (y : Row). y.moment.0) same.0 in
        let at = last.found.at_moment in
        let failed : has_event (is_failure_of last.found.event.place) (events before) ≡ true =
        last_failed r.moment.0 peer mid (events before) last.found.event nothing_kept
        last.found.last
        (lt-ltb r.moment.0 (last.found.event.moment + exchange_lifetime) (omega (
          arith,
          close,
          moments,
          at,
        ))) in
        subst (λ n. has_event (is_failure_of n) (events before) ≡ true)
        (last.found.at_place ∙ ap length same.1) failed
    by (inr between) =
        let low : last.row_of.moment.0 ≤ latest before =
        moment-latest before last.rows_before last.row_of last.within in
        more last.rows_before last.row_of last.within between last.admitted
        (omega (arith, low, not_below, close))

-- what failed before a row that stands among rows failed among them
failed_within : (rows before earlier : List Row) (r : Row)
    → Within rows before r
    → Failed before earlier
    → Failed rows earlier
failed_within rows before earlier r within failed =
    subst (λ all. Failed all earlier) (sym within.whole) (after within.later)
  where
    after : (later : List Row) → Failed (later ++ r ∷ before) earlier
    after [] = has_event-more (is_failure_of (length earlier)) r before failed
    after (x ∷ later) =
        has_event-more (is_failure_of (length earlier)) x (later ++ r ∷ before) (after later)

-- of two admissions with one peer and Message ID that are less than the lifetime of an exchange
-- apart, the earlier failed before the later one
rows-failed_before : (rows before earlier : List Row) (r other : Row) (peer : Peer) (mid : ℕ)
    → AreRows rows
    → Within rows before r
    → Within before earlier other
    → admits peer mid r ≡ true
    → admits peer mid other ≡ true
    → r.moment.0 < other.moment.0 + exchange_lifetime
    → Failed before earlier
rows-failed_before [] before earlier r other peer mid all within further now then close =
    absurd (nothing_within before r within)
rows-failed_before (x ∷ rest) before earlier r other peer mid all within further now then close =
    by (within_cases x rest before r within) (newest_made rest x all)
    (λ between y inside deeper also near. failed_within rest between earlier y inside
    (rows-failed_before rest between earlier y other peer mid (newest_made rest x all).rows
    inside deeper also then near))
    (λ inside. rows-failed_before rest before earlier r other peer mid (newest_made rest x all).rows
    inside further now then close)
  where
    by : ((x ≡ r) × (rest ≡ before)) ⊎ Within rest before r → RowMade rest x
        → ((between : List Row) (y : Row)
        → Within rest between y
        → Within between earlier other
        → admits peer mid y ≡ true
        → y.moment.0 < other.moment.0 + exchange_lifetime
        → Failed rest earlier)
        → (Within rest before r → Failed before earlier) → Failed before earlier
    by (inl same) it more deeper =
        subst (λ rows. Failed rows earlier) same.1
        (newest_failed rest earlier x other peer mid it
        (subst (λ rows. Within rows earlier other) (sym same.1) further)
        (subst (λ (y : Row). admits peer mid y ≡ true) (sym same.0) now) then
        (subst (λ (y : Row). y.moment.0 < other.moment.0 + exchange_lifetime) (sym same.0)
        close) more)
    by (inr inside) it more deeper = deeper inside

-- and so it ended in 5.00, which was sent
pub rows-failed : (rows before earlier : List Row) (r other : Row) (peer : Peer) (mid : ℕ)
    → AreRows rows
    → Within rows before r
    → Within before earlier other
    → admits peer mid r ≡ true
    → admits peer mid other ≡ true
    → r.moment.0 < other.moment.0 + exchange_lifetime
    → EndedWithoutMemory before (length earlier)
rows-failed rows before earlier r other peer mid all within further now then close =
    ended_without_memory before (length earlier) (each_made rows before r all within).rows
    (rows-failed_before rows before earlier r other peer mid all within further now then close)
