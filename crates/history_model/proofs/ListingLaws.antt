-- No listing is longer than its live records weigh.
use Rattle.std.proofs.Common.{
  ◌≡◌,
  ℕ,
  ◌+◌,
  ◌≤◌,
  List,
  [],
  ◌∷◌,
  ◌++◌,
  map,
  length,
  refl,
  ap,
  ◌∙◌,
  arith,
}
use Rattle.std.proofs.lemmas.List.{map-append}
use Rattle.std.proofs.lemmas.List.Sums.{sum_by-cons, sum_by-append}
use Rattle.rd_base.specs.declared.queries.Query.{Query}
use Rattle.rd_base.specs.declared.records.Record.{Record}
use Rattle.record_model.specs.ListingLines.{part, weight}
use Rattle.record_model.proofs.WeightLaws.{room_of, length-shown, room_of-part}
use Rattle.history_model.specs.declared.entries.Entry.{Entry}
use Rattle.history_model.specs.Live.{live, last_moment}
use Rattle.history_model.specs.Listing.{numbered_part, lines_of, all_lines, listing}
use Rattle.history_model.specs.Legal.{IsLegalFrom}
use Rattle.history_model.specs.Refusals.{max_text, text_of}
use Rattle.history_model.proofs.LimitLaws.{live-IsBounded}

-- numbered lines without their numbers
abbrev pub unnumbered : List (ℕ × List ℕ) → List (List ℕ)
unnumbered lines = map (λ numbered. numbered.1) lines

part_unnumbered : (number : ℕ) (lines : List (List ℕ))
    → unnumbered (map (λ line. (number, line)) lines) ≡ lines
part_unnumbered number [] = refl
part_unnumbered number (line ∷ lines) = ap (λ rest. line ∷ rest) (part_unnumbered number lines)

-- the lines of records take no more than the records weigh
pub lines_of-room : (query : Query) (records : List Record)
    → room_of (unnumbered (lines_of query records)) ≤ text_of records
lines_of-room query [] = omega arith
lines_of-room query (r ∷ rs) =
    let more = lines_of-room query rs in
    let split :
    unnumbered (lines_of query (r ∷ rs)) ≡ part query r ++ unnumbered (lines_of query rs)
    = map-append (λ (numbered : ℕ × List ℕ). numbered.1) (numbered_part query r) (lines_of query rs)
    ∙ ap (λ lines. lines ++ unnumbered (lines_of query rs))
    (part_unnumbered r.number (part query r)) in
    let parts :
    room_of (part query r ++ unnumbered (lines_of query rs))
    ≡ room_of (part query r) + room_of (unnumbered (lines_of query rs)) =
    sum_by-append _ (part query r) _ in
    let one = room_of-part query r in
    let all = sum_by-cons weight r rs in
    rw split (omega (arith, more, parts, one, all))

-- no listing is longer than the live records weigh
pub length-listing : (query : Query) (history : List Entry) (moment : ℕ)
    → length (listing query history moment) ≤ text_of (live history moment)
unfolding listing all_lines
length-listing query history moment =
    let cut = length-shown query (unnumbered (lines_of query (live history moment))) in
    let all = lines_of-room query (live history moment) in
    omega (arith, cut, all)

-- so the listing of a legal history is bounded
-- An end theorem: nothing here cites it.
pub length-listing-le : (first : ℕ) (query : Query) (history : List Entry) (moment : ℕ)
    → IsLegalFrom first history
    → last_moment history ≤ moment
    → length (listing query history moment) ≤ max_text
length-listing-le first query history moment legal order =
    let short = length-listing query history moment in
    let few = (live-IsBounded first history moment legal order).text in
    omega (arith, short, few)
