-- Lines of records in ascending number are the same exactly where each number has the same part.
use Rattle.std.proofs.Common.{
  ◌≡◌,
  ℕ,
  ◌<◌,
  ◌≤◌,
  ◌==◌,
  Bool,
  true,
  false,
  cond,
  List,
  [],
  ◌∷◌,
  ◌++◌,
  map,
  filter,
  Some,
  None,
  refl,
  sym,
  ap,
  ap₂,
  ◌∙◌,
  append-nil,
  arith,
  eqb-true,
  ne_eqb,
  ◌⊎◌,
  inl,
  inr,
}
use Rattle.std.specs.List.{AllByRecursion}
use Rattle.std.proofs.lemmas.Bool.{false≢true, cases_lt}
use Rattle.std.proofs.lemmas.List.{map-append}
use Rattle.std.proofs.lemmas.List.Elements.{filter-append}
use Rattle.rd_base.specs.declared.queries.Query.{Query}
use Rattle.rd_base.specs.declared.records.Record.{Record}
use Rattle.record_model.specs.ListingLines.{part, part_or_none}
use Rattle.history_model.specs.Replay.{is_numbered, numbered}
use Rattle.history_model.specs.Listing.{numbered_part, lines_of}
use Rattle.rd_base.proofs.lemmas.Pairs.{PairsByRecursion}
use Rattle.rd_base.proofs.lemmas.Each.{each_weaker}
use Rattle.history_model.proofs.NumberLaws.{IsBelow}

-- the part of the record of a number
abbrev pub part_at : Query → ℕ → List Record → List (List ℕ)
part_at query number records = part_or_none query (numbered number records)

-- the lines that have a number, without it
abbrev pub lines_at : ℕ → List (ℕ × List ℕ) → List (List ℕ)
lines_at number lines =
    map (λ (line : ℕ × List ℕ). line.1) (filter (λ (line : ℕ × List ℕ). line.0 == number) lines)

-- below all others, it is not found after
pub none_above : (number : ℕ) (records : List Record)
    → AllByRecursion (λ r. number < r.number) records
    → numbered number records ≡ None
none_above number [] above = refl
none_above number (r ∷ rs) above =
    rw (ne_eqb r.number number (λ same. let high = above.0 in omega arith))
    (none_above number rs above.1)

lines_here : (number : ℕ) (lines : List (List ℕ))
    → lines_at number (map (λ line. (number, line)) lines) ≡ lines
lines_here number [] = refl
lines_here number (line ∷ lines) =
    let same : (number == number) ≡ true = grind arith in
    rw same (ap (λ rest. line ∷ rest) (lines_here number lines))

lines_away : (number other : ℕ) (lines : List (List ℕ))
    → (other == number) ≡ false
    → lines_at number (map (λ line. (other, line)) lines) ≡ []
lines_away number other [] away = refl
lines_away number other (line ∷ lines) away = rw away (lines_away number other lines away)

lines_at-append : (number : ℕ) (xs ys : List (ℕ × List ℕ))
    → lines_at number (xs ++ ys) ≡ lines_at number xs ++ lines_at number ys
lines_at-append number xs ys =
    ap (map (λ (line : ℕ × List ℕ). line.1))
    (filter-append (λ (line : ℕ × List ℕ). line.0 == number) xs ys)
    ∙ map-append (λ (line : ℕ × List ℕ). line.1)
    (filter (λ (line : ℕ × List ℕ). line.0 == number) xs)
    (filter (λ (line : ℕ × List ℕ). line.0 == number) ys)

-- the lines tell the part of each number
pub lines_tell : (query : Query) (number : ℕ) (records : List Record)
    → PairsByRecursion IsBelow records
    → lines_at number (lines_of query records) ≡ part_at query number records
lines_tell query number [] pairs = refl
lines_tell query number (r ∷ rs) pairs =
    lines_at-append number (numbered_part query r) (lines_of query rs)
    ∙ ap (λ lines. lines_at number (numbered_part query r) ++ lines)
    (lines_tell query number rs pairs.1)
    ∙ by (is_numbered number r) refl
  where
    by : (b : Bool)
        → is_numbered number r ≡ b
        → lines_at number (numbered_part query r) ++ part_at query number rs
        ≡ part_or_none query (cond b (Some r) (numbered number rs))
    by true e =
        let same : r.number ≡ number = eqb-true r.number number e in
        let none : numbered number rs ≡ None =
        none_above number rs
        (each_weaker (IsBelow r) (λ other. number < other.number) (λ other below. omega
        arith) rs pairs.0) in
        rw none (append-nil (lines_at number (numbered_part query r))
        ∙ ap (λ k. lines_at k (numbered_part query r)) (sym same)
        ∙ lines_here r.number (part query r))
    by false e = rw (lines_away number r.number (part query r) e) refl

-- after a record that gives no line
pub lines_without : (query : Query) (r : Record) (rs : List Record)
    → part query r ≡ []
    → lines_of query (r ∷ rs) ≡ lines_of query rs
lines_without query r rs none =
    ap (λ lines. map (λ line. (r.number, line)) lines ++ lines_of query rs) none

-- where each number has the same part, the lines are the same
abbrev SameParts : Query → List Record → List Record → Type 0
SameParts query xs ys = (number : ℕ) → part_at query number xs ≡ part_at query number ys

-- what is found after another number
numbered_behind : (number : ℕ) (r : Record) (rs : List Record)
    → (r.number ≡ number → ⊥)
    → numbered number (r ∷ rs) ≡ numbered number rs
numbered_behind number r rs other = rw (ne_eqb r.number number other) refl

numbered_here : (r : Record) (rs : List Record) → numbered r.number (r ∷ rs) ≡ Some r
numbered_here r rs = let same : (r.number == r.number) ≡ true = grind arith in rw same refl

-- a number that is below all records of the other list
lower_gives_none : (query : Query) (r : Record) (rs ys : List Record)
    → AllByRecursion (IsBelow r) ys
    → SameParts query (r ∷ rs) ys
    → part query r ≡ []
lower_gives_none query r rs ys below same =
    ap (part_or_none query) (sym (numbered_here r rs))
    ∙ same r.number
    ∙ ap (part_or_none query) (none_above r.number ys below)

rest_same : (query : Query) (r : Record) (rs ys : List Record)
    → AllByRecursion (IsBelow r) rs
    → AllByRecursion (IsBelow r) ys
    → SameParts query (r ∷ rs) ys
    → SameParts query rs ys
rest_same query r rs ys below_rs below_ys same number = by (r.number == number) refl
  where
    by : (b : Bool) → (r.number == number) ≡ b → part_at query number rs ≡ part_at query number ys
    by true e =
        let here : r.number ≡ number = eqb-true r.number number e in
        rw (sym here) (ap (part_or_none query)
        (none_above r.number rs below_rs ∙ sym (none_above r.number ys below_ys)))
    by false e =
        ap (part_or_none query)
        (sym (numbered_behind number r rs (λ here. false≢true (sym e ∙ let again :
        (r.number == number) ≡ true = grind (arith, here) in again))))
        ∙ same number

both_rest_same : (query : Query) (r s : Record) (rs ss : List Record)
    → r.number ≡ s.number
    → AllByRecursion (IsBelow r) rs
    → AllByRecursion (IsBelow s) ss
    → SameParts query (r ∷ rs) (s ∷ ss)
    → SameParts query rs ss
both_rest_same query r s rs ss equal below_rs below_ss same number = by (r.number == number) refl
  where
    by : (b : Bool) → (r.number == number) ≡ b → part_at query number rs ≡ part_at query number ss
    by true e =
        let here : r.number ≡ number = eqb-true r.number number e in
        ap (part_or_none query)
        (none_above number rs (each_weaker (IsBelow r) (λ other. number < other.number)
        (λ other below. omega arith) rs below_rs)
        ∙ sym (none_above number ss (each_weaker (IsBelow s) (λ other. number < other.number)
        (λ other below. omega arith) ss below_ss)))
    by false e =
        let away : r.number ≡ number → ⊥ =
        λ here.
        false≢true
        (sym e ∙ let again : (r.number == number) ≡ true = grind (arith, here) in again)
        in
        ap (part_or_none query) (sym (numbered_behind number r rs away))
        ∙ same number
        ∙ ap (part_or_none query) (numbered_behind number s ss (λ here. away (equal ∙ here)))

pub lines_from_parts : (query : Query) (xs ys : List Record)
    → PairsByRecursion IsBelow xs
    → PairsByRecursion IsBelow ys
    → SameParts query xs ys
    → lines_of query xs ≡ lines_of query ys
lines_from_parts query [] [] below_xs below_ys same = refl
lines_from_parts query [] (y ∷ ys) below_xs below_ys same =
    let turned : SameParts query (y ∷ ys) [] = λ number. sym (same number) in
    sym (lines_without query y ys (lower_gives_none query y ys [] tt turned)
    ∙ sym (lines_from_parts query [] ys tt below_ys.1
    (λ number. sym (rest_same query y ys [] below_ys.0 tt turned number))))
lines_from_parts query (x ∷ xs) [] below_xs below_ys same =
    lines_without query x xs (lower_gives_none query x xs [] tt same)
    ∙ lines_from_parts query xs [] below_xs.1 tt (rest_same query x xs [] below_xs.0 tt same)
lines_from_parts query (x ∷ xs) (y ∷ ys) below_xs below_ys same =
    by (cases_lt x.number y.number) (cases_lt y.number x.number)
    (lines_from_parts query xs (y ∷ ys) below_xs.1 below_ys)
    (lines_from_parts query (x ∷ xs) ys below_xs below_ys.1)
    (lines_from_parts query xs ys below_xs.1 below_ys.1)
  where
    by : (x.number < y.number) ⊎ (y.number ≤ x.number)
        → (y.number < x.number) ⊎ (x.number ≤ y.number)
        → (SameParts query xs (y ∷ ys) → lines_of query xs ≡ lines_of query (y ∷ ys))
        → (SameParts query (x ∷ xs) ys → lines_of query (x ∷ xs) ≡ lines_of query ys)
        → (SameParts query xs ys → lines_of query xs ≡ lines_of query ys)
        → lines_of query (x ∷ xs) ≡ lines_of query (y ∷ ys)
    by (inl lower) other left right both =
        let below : AllByRecursion (IsBelow x) (y ∷ ys) =
        (lower, each_weaker (IsBelow y) (IsBelow x) (λ r above. omega arith) ys below_ys.0) in
        lines_without query x xs (lower_gives_none query x xs (y ∷ ys) below same)
        ∙ left (rest_same query x xs (y ∷ ys) below_xs.0 below same)
    by (inr order) (inl lower) left right both =
        let below : AllByRecursion (IsBelow y) (x ∷ xs) =
        (lower, each_weaker (IsBelow x) (IsBelow y) (λ r above. omega arith) xs below_xs.0) in
        let turned : SameParts query (y ∷ ys) (x ∷ xs) = λ number. sym (same number) in
        right (λ number. sym (rest_same query y ys (x ∷ xs) below_ys.0 below turned number))
        ∙ sym (lines_without query y ys (lower_gives_none query y ys (x ∷ xs) below turned))
    by (inr order) (inr other) left right both =
        let equal : x.number ≡ y.number = omega arith in
        let parts : part query x ≡ part query y =
        ap (part_or_none query) (sym (numbered_here x xs))
        ∙ same x.number
        ∙ ap (λ number. part_at query number (y ∷ ys)) equal
        ∙ ap (part_or_none query) (numbered_here y ys) in
        ap₂ (λ (lines : List (List ℕ)) (rest : List (ℕ × List ℕ)).
        map (λ line. (x.number, line)) lines ++ rest) parts
        (both (both_rest_same query x y xs ys equal below_xs.0 below_ys.0 same))
        ∙ ap (λ (number : ℕ). map (λ line. (number, line)) (part query y) ++ lines_of query ys)
        equal
