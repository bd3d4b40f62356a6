-- What a lookup lists, and how many lines that can be.
use Rattle.std.proofs.Common.{
  ◌≡◌,
  ℕ,
  ◌+◌,
  ◌*◌,
  ◌^◌,
  ◌<◌,
  ◌≤◌,
  List,
  [],
  ◌∷◌,
  length,
  Contains,
  sym,
  ap,
  ◌∙◌,
  subst,
  arith,
}
use Rattle.std.proofs.lemmas.List.Sums.{sum_by-cons}
use Rattle.rd_base.specs.declared.queries.Criterion.{Criterion}
use Rattle.rd_base.specs.declared.queries.Query.{Query}
use Rattle.rd_base.specs.declared.records.Record.{Record}
use Rattle.record_model.specs.ListingLines.{shown}
use Rattle.record_model.proofs.WeightLaws.{room_of}
use Rattle.history_model.specs.declared.entries.Entry.{Entry}
use Rattle.history_model.specs.Leases.{live_among}
use Rattle.history_model.specs.Listing.{lines_of, listing}
use Rattle.history_model.specs.Versions.{Version, VersionStandsFor}
use Rattle.history_model.proofs.ListingLaws.{unnumbered, lines_of-room}
use Rattle.history_model.proofs.VersionLaws.{all_lines-VersionStandsFor}
use Rattle.history_model.proofs.NumberLaws.{IsBelow}
use Rattle.rd_base.proofs.lemmas.Pairs.{PairsByRecursion}
use Rattle.attribute_index.specs.Entries as index
use Rattle.attribute_index.proofs.EntryLaws.{same_entries}
use Rattle.lease_queue.specs.declared.leases.Lease.{Lease}
use Rattle.directory_core.specs.declared.names.NameSlot.{NameSlot}
use Rattle.directory_core.specs.Bounds.{AreEntriesOf, attribute_criteria}
use Rattle.directory_core.specs.Pages.{live_lines, numbered_lines}
use Rattle.directory_core.specs.Races.{AreNumbersOf}
use Rattle.directory_core.specs.Shown.{IsKept, counted_at}
use Rattle.directory_core.proofs.CandidateLaws.{same_lines}
use Rattle.directory_core.proofs.CountLaws.{less_text}
use Rattle.directory_core.proofs.PageLaws.{live_lines-are, numbered_lines-are}

-- the lines of the live records of a version are the listing of each history that it stands for
pub lines-listing : (first : ℕ) (history : List Entry) (version : Version) (query : Query)
    (moment : ℕ)
    → VersionStandsFor first history version
    → version.swept ≤ moment
    → shown query (live_lines query moment version.records) ≡ listing query history moment
unfolding listing
lines-listing first history version query moment stands order =
    ap (shown query) (live_lines-are query moment version.records
    ∙ ap unnumbered
    (all_lines-VersionStandsFor first history version query moment stands order))

-- there are no more lines than they take room
length-room : (lines : List (List ℕ)) → length lines ≤ room_of lines
length-room [] = omega arith
length-room (line ∷ lines) =
    let more = length-room lines in
    let one = sum_by-cons (λ (l : List ℕ). length l + 1) line lines in omega (arith, more, one)

-- the live records of a version have few lines
pub few_lines : (query : Query) (v : Version) (names : List NameSlot) (leases : List Lease)
    (count sum now : ℕ)
    → IsKept v names leases count sum
    → v.at ≤ now
    → v.swept ≤ now
    → length (live_lines query now v.records) < 2 ^ 64
few_lines query v names leases count sum now k after_at after_sweep =
    let lines = unnumbered (lines_of query (live_among now v.records)) in
    let same : length (live_lines query now v.records) ≡ length lines =
    ap length (live_lines-are query now v.records) in
    let room = length-room lines in
    let weighed = lines_of-room query (live_among now v.records) in
    let later = less_text (counted_at v) now v.records (omega arith) in
    let text = k.text in
    let light = k.light in
    omega (arith, same, room, weighed, later, text, light)

-- the carriers of a criterion give the lines of all live records
pub carriers_give : (query : Query) (moment : ℕ) (records shown : List Record)
    (entries : List index.Entry) (criteria : List Criterion) (numbers given : List ℕ)
    → records ≡ shown
    → PairsByRecursion IsBelow records
    → AreEntriesOf records entries
    → criteria ≡ query.criteria
    → given ≡ numbers
    → PairsByRecursion (λ m n. m < n) numbers
    → AreNumbersOf entries criteria numbers
    → numbered_lines query moment records given ≡ live_lines query moment shown
carriers_give query moment records shown entries criteria numbers given same up are asked is rising
    of =
    ap (numbered_lines query moment records) is
    ∙ numbered_lines-are query moment records numbers
    ∙ ap unnumbered (same_lines query moment records entries numbers up are rising
    (subst (λ cs. AreNumbersOf entries cs numbers) asked of))
    ∙ sym (live_lines-are query moment records) ∙ ap (live_lines query moment) same

-- the records alone tell the entries, and so how many carriers there are
pub few_by_records : (records shown : List Record) (own entries : List index.Entry)
    (slice criteria : List Criterion) (start after : ℕ)
    → records ≡ shown
    → AreEntriesOf records own
    → slice ≡ criteria
    → ((criterion : Criterion)
    → Contains (attribute_criteria slice) criterion
    → after
    ≤ start
    + length (attribute_criteria slice) *
    (length (index.carriers_of criterion.name criterion.pattern own) + 1))
    → (criterion : Criterion)
    → AreEntriesOf shown entries
    → Contains (attribute_criteria criteria) criterion
    → after
    ≤ start
    + length (attribute_criteria criteria) *
    (length (index.carriers_of criterion.name criterion.pattern entries) + 1)
few_by_records records shown own entries slice criteria start after same are asked few criterion
    others among =
    let ours : AreEntriesOf shown own = subst (λ rs. AreEntriesOf rs own) same are in
    let one : own ≡ entries =
    same_entries own entries ours.once others.once (λ e. ours.there e ∙ sym (others.there e)) in
    subst (λ es.
    after
    ≤ start
    + length (attribute_criteria criteria) *
    (length (index.carriers_of criterion.name criterion.pattern es) + 1)) one
    (subst (λ cs.
    (c : Criterion)
    → Contains (attribute_criteria cs) c
    → after
    ≤ start
    + length (attribute_criteria cs) *
    (length (index.carriers_of c.name c.pattern own) + 1)) asked few
    criterion among)
