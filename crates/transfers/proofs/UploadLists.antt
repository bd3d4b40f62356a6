-- Laws of the uploads of a table: how many there are.
use Rattle.std.proofs.Common.{
  ◌≡◌,
  ℕ,
  ◌+◌,
  ◌<◌,
  ◌≤◌,
  ◌==◌,
  Bool,
  true,
  false,
  not,
  ◌&&◌,
  cond,
  List,
  [],
  ◌∷◌,
  ◌++◌,
  length,
  find,
  Option,
  Some,
  None,
  option_map,
  refl,
  sym,
  arith,
  length-append,
}
use Rattle.rd_base.specs.Firsts.{changed_first}
use Rattle.rd_base.proofs.lemmas.Filters.{length-filter-le}
use Rattle.rd_base.proofs.lemmas.Firsts.{length-changed_first}
use Rattle.message_model.specs.declared.blocks.Block.{Block}
use Rattle.event_model.specs.Same.{RequestName}
use Rattle.event_model.specs.Events.{is_young}
use Rattle.event_model.specs.Uploads.{Upload}
use Rattle.transfers.specs.Uploading.{
  is_of,
  is_live_as,
  live_body,
  young_uploads,
  other_uploads,
  without_upload,
  first_block,
  with_block,
  begun,
  gone_on,
  taken,
}

-- of those that live no more have another name
others-le : (now : ℕ) (name : RequestName) (us : List Upload)
    → length (other_uploads now name us) ≤ length (young_uploads now us)
others-le now name [] = omega arith
others-le now name (u ∷ us) = by (is_young now u.moment) (is_of name u) (others-le now name us)
  where
    others : List Upload
    others = other_uploads now name us

    young : List Upload
    young = young_uploads now us

    by : (y o : Bool)
        → length others ≤ length young
        → length (cond (y && not o) (u ∷ others) others) ≤ length (cond y (u ∷ young) young)
    by true true more = omega (arith, more)
    by true false more = omega (arith, more)
    by false o more = more

-- and fewer, where that of the name lives
others-lt : (now : ℕ) (name : RequestName) (us : List Upload) (v : Upload)
    → find (is_live_as now name) us ≡ Some v
    → length (other_uploads now name us) < length (young_uploads now us)
others-lt now name [] v there = absurd (let h : None ≡ Some v = there in cc)
others-lt now name (u ∷ us) v there =
    by (is_young now u.moment) (is_of name u) there (others-lt now name us v)
    (others-le now name us)
  where
    others : List Upload
    others = other_uploads now name us

    young : List Upload
    young = young_uploads now us

    by : (y o : Bool)
        → cond (o && y) (Some u) (find (is_live_as now name) us) ≡ Some v
        → (find (is_live_as now name) us ≡ Some v → length others < length young)
        → length others ≤ length young
        → length (cond (y && not o) (u ∷ others) others) < length (cond y (u ∷ young) young)
    by true true h more le = omega (arith, le)
    by true false h more le = let lt = more h in omega (arith, lt)
    by false true h more le = more h
    by false false h more le = more h

-- so it is where something is collected under the name, or fewer live than may
pub others-few : (now : ℕ) (name : RequestName) (us : List Upload) (body : Option (List ℕ))
    → live_body now name us ≡ body
    → length us ≤ 64
    → (body ≡ None → length (young_uploads now us) < 64) → length (other_uploads now name us) < 64
unfolding live_body
others-few now name us body is few room = by (find (is_live_as now name) us) refl is
  where
    young_few : length (young_uploads now us) ≤ length us
    young_few = length-filter-le (λ (u : Upload). is_young now u.moment) us

    by : (found : Option Upload)
        → find (is_live_as now name) us ≡ found
        → option_map (λ (u : Upload). u.body) found ≡ body
        → length (other_uploads now name us) < 64
    by None e h = let le = others-le now name us in let lt = room (sym h) in omega (arith, le, lt)
    by (Some v) e h = let lt = others-lt now name us v e in omega (arith, lt, young_few, few)

-- after a block there are no more than may live
pub length-taken : (b : Block) (now : ℕ) (name : RequestName) (octets : List ℕ) (us : List Upload)
    → length us ≤ 64
    → length (other_uploads now name us) < 64
    → length (taken b now name octets us) ≤ 64
unfolding begun gone_on
length-taken b now name octets us few room = by (b.num == 0)
  where
    by : (first : Bool)
        → length (cond first (other_uploads now name us ++ first_block name octets now ∷ [])
        (changed_first (is_live_as now name) (with_block octets now) us))
        ≤ 64
    by true =
        let sum = length-append (other_uploads now name us) (first_block name octets now ∷ []) in
        omega (arith, sum, room)
    by false =
        let same = length-changed_first (is_live_as now name) (with_block octets now) us in
        omega (arith, same, few)

pub length-without : (name : RequestName) (us : List Upload)
    → length (without_upload name us) ≤ length us
length-without name us = length-filter-le (λ (u : Upload). not (is_of name u)) us
