-- No listing is longer than the records that it lists weigh.
use Rattle.std.proofs.Common.{
  ◌≡◌,
  ℕ,
  zero,
  suc,
  ◌+◌,
  ◌*◌,
  ◌≤◌,
  Bool,
  List,
  [],
  ◌∷◌,
  length,
  take,
  drop,
  map,
  filter,
  sum_by,
  Option,
  Some,
  None,
  arith,
  length-append,
  unwrap_or,
}
use Rattle.std.proofs.lemmas.List.Sums.{sum_by-cons}
use Rattle.std.specs.List.{join_with_byte}
use Rattle.std.proofs.lemmas.Bool.{cond_both}
use Rattle.rd_base.specs.declared.queries.Kind.{Kind}
use Rattle.rd_base.specs.declared.queries.Kind.TheVariants as kind
use Rattle.rd_base.specs.declared.queries.Query.{Query}
use Rattle.rd_base.specs.declared.records.Item.{Item}
use Rattle.rd_base.specs.declared.records.Record.{Record}
use Rattle.link_model.specs.Characters.{comma}
use Rattle.record_model.specs.ListingLines.{
  link_listed,
  endpoint_listed,
  link_line,
  endpoint_line,
  part_of_kind,
  part,
  weight,
  page_of,
  shown,
}

-- what lines take, each with one octet more
abbrev pub room_of : List (List ℕ) → ℕ
room_of lines = sum_by (λ line. length line + 1) lines

-- one line and the others
room_of-cons : (line : List ℕ) (lines : List (List ℕ))
    → room_of (line ∷ lines) ≡ length line + 1 + room_of lines
room_of-cons line lines = sum_by-cons (λ (l : List ℕ). length l + 1) line lines

-- lines joined by one octet take no more
pub length-join_with_byte : (c : ℕ) (lines : List (List ℕ))
    → length (join_with_byte c lines) ≤ room_of lines
length-join_with_byte c [] = omega arith
length-join_with_byte c (line ∷ []) = omega arith
length-join_with_byte c (line ∷ next ∷ lines) =
    let more = length-join_with_byte c (next ∷ lines) in
    let e = length-append line (c ∷ join_with_byte c (next ∷ lines)) in
    let room = room_of-cons line (next ∷ lines) in
    omega (arith, more, e, room)

-- a part of the lines takes no more
pub room_of-take : (n : ℕ) (lines : List (List ℕ)) → room_of (take n lines) ≤ room_of lines
room_of-take zero lines = omega arith
room_of-take (suc n) [] = omega arith
room_of-take (suc n) (line ∷ lines) =
    let more = room_of-take n lines in
    let a = room_of-cons line lines in
    let b = room_of-cons line (take n lines) in omega (arith, more, a, b)

pub room_of-drop : (n : ℕ) (lines : List (List ℕ)) → room_of (drop n lines) ≤ room_of lines
room_of-drop zero lines = omega arith
room_of-drop (suc n) [] = omega arith
room_of-drop (suc n) (line ∷ lines) =
    let more = room_of-drop n lines in let a = room_of-cons line lines in omega (arith, more, a)

-- what is shown takes no more than all lines
pub length-shown : (query : Query) (lines : List (List ℕ))
    → length (shown query lines) ≤ room_of lines
unfolding shown
length-shown query lines = of_page query.page query.count
  where
    of_page : (page count : Option ℕ)
        → length (join_with_byte comma (page_of page count lines)) ≤ room_of lines
    of_page page None = length-join_with_byte comma lines
    of_page page (Some count) =
        let from = drop (unwrap_or page 0 * count) lines in
        let a = length-join_with_byte comma (take count from) in
        let b = room_of-take count from in
        let c = room_of-drop (unwrap_or page 0 * count) lines in
        omega (arith, a, b, c)

-- the lines of some items take no more than those of all
items_room : (test : Item → Bool) (items : List Item)
    → room_of (map link_line (filter test items))
    ≤ sum_by (λ item. length (link_line item) + 1) items
items_room test [] = omega arith
items_room test (item ∷ items) =
    let more = items_room test items in
    let all = sum_by-cons (λ (i : Item). length (link_line i) + 1) item items in
    let one = room_of-cons (link_line item) (map link_line (filter test items)) in
    cond_both (test item) (item ∷ filter test items) (filter test items)
    (λ some.
    room_of (map link_line some) ≤ sum_by (λ i. length (link_line i) + 1) (item ∷ items))
    (λ _. omega (arith, more, all, one)) (λ _. omega (arith, more, all))

-- the lines that a record gives to a query take no more than it weighs
pub room_of-part : (query : Query) (r : Record) → room_of (part query r) ≤ weight r
unfolding part weight
room_of-part query r = of_kind query.kind
  where
    of_kind : (k : Kind)
        → room_of (part_of_kind k query r)
        ≤ length (endpoint_line r) + 1 + sum_by (λ item. length (link_line item) + 1) r.items
    of_kind kind.Resource =
        let some = items_room (link_listed query r) r.items in omega (arith, some)
    of_kind kind.Endpoint =
        cond_both (endpoint_listed query r) (endpoint_line r ∷ []) []
        (λ lines.
        room_of lines
        ≤ length (endpoint_line r)
        + 1
        + sum_by (λ item. length (link_line item) + 1) r.items) (λ _. omega arith)
        (λ _. omega arith)
    of_kind kind.Discovery = omega arith
