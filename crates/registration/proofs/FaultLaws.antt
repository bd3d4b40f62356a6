-- The first fault of links, found link by link.
use Rattle.std.proofs.Common.{
  ◌≡◌,
  ℕ,
  suc,
  ◌+◌,
  ◌≤◌,
  Bool,
  true,
  false,
  not,
  List,
  [],
  ◌∷◌,
  ◌++◌,
  length,
  map,
  position,
  Option,
  Some,
  None,
  option_map,
  nat_lt,
  if◌then◌else◌,
  refl,
  sym,
  ap,
  ◌∙◌,
  arith,
  length-append,
  lt-ltb,
}
use Rattle.std.proofs.lemmas.List.Sums.{sum_by-cons}
use Rattle.std.proofs.lemmas.Bool.Decides.{nat_tests}
use Rattle.std.specs.List.{join_with_byte, position_or_len}
use Rattle.record_model.specs.Bodies.{is_reference, is_limited}
use Rattle.record_model.specs.BodyFaults.{
  no_reference,
  not_limited,
  TextAtOffset,
  shifted,
  link_references,
  references_of,
  first_no_reference,
  reference_or_limited,
}
use Rattle.link_model.specs.Characters.{comma}
use Rattle.link_model.specs.Documents.{Link, link_text, document_text}
use Rattle.record_model.specs.Faults.{or_else}
use Rattle.link_model.specs.Quoting.{submitted_link}
use Rattle.record_model.specs.Refusals.{first_unlimited}
use Rattle.registration.specs.Links.{first_bad, room_of, fault_with, fault_from, noted}

-- ---- the first reference that is none

-- in two lists, the first is found in the first, or else in the second
bad_append : (rs ss : List TextAtOffset)
    → first_bad (rs ++ ss) ≡ or_else (first_bad rs) (first_bad ss)
bad_append [] ss = refl
bad_append (r ∷ rs) ss = by_test (is_reference r.1) refl (bad_append rs ss)
  where
    by_test : (b : Bool)
        → is_reference r.1 ≡ b
        → first_bad (rs ++ ss) ≡ or_else (first_bad rs) (first_bad ss)
        → first_bad (r ∷ (rs ++ ss)) ≡ or_else (first_bad (r ∷ rs)) (first_bad ss)
    by_test true e more = rw e more
    by_test false e more = rw e refl

-- offsets are shifted
pub bad_shifted : (n : ℕ) (rs : List TextAtOffset)
    → first_bad (shifted n rs) ≡ option_map (λ at. n + at) (first_bad rs)
bad_shifted n [] = refl
bad_shifted n (r ∷ rs) = by_test (is_reference r.1) refl (bad_shifted n rs)
  where
    by_test : (b : Bool)
        → is_reference r.1 ≡ b
        → first_bad (shifted n rs) ≡ option_map (λ at. n + at) (first_bad rs)
        → first_bad (shifted n (r ∷ rs)) ≡ option_map (λ at. n + at) (first_bad (r ∷ rs))
    by_test true e more = rw e more
    by_test false e more = rw e refl

first_of_links : (l : Link) (links : List Link)
    → first_no_reference (l ∷ links)
    ≡ or_else (first_bad (link_references l))
    (option_map (λ at. length (link_text l) + 1 + at) (first_no_reference links))
unfolding first_no_reference references_of
first_of_links l links =
    bad_append (link_references l) (shifted (length (link_text l) + 1) (references_of links))
    ∙ ap (or_else (first_bad (link_references l)))
    (bad_shifted (length (link_text l) + 1) (references_of links))

-- ---- the first link that is not limited

position_first : {A : Type 0} (test : A → Bool) (x : A) (xs : List A)
    → test x ≡ true
    → position test (x ∷ xs) ≡ Some 0
position_first test x xs e = rw e (least (length xs))
  where
    chosen : Bool → Option ℕ
    chosen b = if b then Some 0 else None

    least : (n : ℕ) → chosen (nat_lt 0 (suc n)) ≡ Some 0
    least n = rw (lt-ltb 0 (suc n) (omega arith)) refl

position_later : {A : Type 0} (test : A → Bool) (x : A) (xs : List A)
    → test x ≡ false
    → position test (x ∷ xs) ≡ option_map (λ n. 1 + n) (position test xs)
position_later test x xs e =
    let k = position_or_len test xs in
    let same : nat_lt (1 + k) (length (x ∷ xs)) ≡ nat_lt k (length xs) = grind (arith, nat_tests) in
    rw (e, same) (shift (nat_lt k (length xs)) k)
  where
    shift : (b : Bool) (k : ℕ)
        → (if b then Some (1 + k) else None) ≡ option_map (λ n. 1 + n) (if b then Some k else None)
    shift true k = refl
    shift false k = refl

first_is_unlimited : (l : Link) (links : List Link)
    → is_limited (submitted_link l) ≡ false
    → first_unlimited (map submitted_link (l ∷ links)) ≡ Some 0
unfolding first_unlimited
first_is_unlimited l links e =
    position_first (λ link. not (is_limited link)) (submitted_link l) (map submitted_link links)
    (ap not e)

first_is_limited : (l : Link) (links : List Link)
    → is_limited (submitted_link l) ≡ true
    → first_unlimited (map submitted_link (l ∷ links))
    ≡ option_map (λ n. 1 + n) (first_unlimited (map submitted_link links))
unfolding first_unlimited
first_is_limited l links e =
    position_later (λ link. not (is_limited link)) (submitted_link l) (map submitted_link links)
    (ap not e)

-- ---- the fault of what is left

-- before the first link it is that of all
pub fault_of_all : (links : List Link)
    → fault_from 0 0 None links ≡ reference_or_limited (first_no_reference links) links
unfolding fault_from
fault_of_all links =
    by_fault (first_no_reference links) (first_unlimited (map submitted_link links)) refl
  where
    by_fault : (o p : Option ℕ)
        → first_unlimited (map submitted_link links) ≡ p
        → fault_with 0 0 None o p ≡ reference_or_limited o links
    by_fault (Some offset) p e =
        let at : 0 + offset ≡ offset = omega arith in ap (λ k. Some (no_reference k)) at
    by_fault None None e = rw e refl
    by_fault None (Some n) e =
        let at : 0 + n ≡ n = omega arith in rw e (ap (λ k. Some (not_limited k)) at)

-- after the last one it is that of the link that was noted
pub fault_of_none : (start index : ℕ) (unlimited : Option ℕ)
    → fault_from start index unlimited [] ≡ option_map not_limited unlimited
unfolding fault_from first_no_reference references_of first_unlimited
fault_of_none start index None = refl
fault_of_none start index (Some n) = refl

-- a reference of the first link that is none
pub fault_here : (start index offset : ℕ) (unlimited : Option ℕ) (l : Link) (links : List Link)
    → option_map (λ at. start + at) (first_bad (link_references l)) ≡ Some offset
    → fault_from start index unlimited (l ∷ links) ≡ Some (no_reference offset)
unfolding fault_from
fault_here start index offset unlimited l links bad =
    by_bad (first_bad (link_references l)) refl bad
  where
    by_bad : (o : Option ℕ)
        → first_bad (link_references l) ≡ o
        → option_map (λ at. start + at) o ≡ Some offset
        → fault_with start index unlimited (first_no_reference (l ∷ links))
        (first_unlimited (map submitted_link (l ∷ links)))
        ≡ Some (no_reference offset)
    by_bad None e h = cc
    by_bad (Some at) e h =
        let first : first_no_reference (l ∷ links) ≡ Some at =
        first_of_links l links
        ∙ ap (λ o.
        or_else o
        (option_map (λ m. length (link_text l) + 1 + m) (first_no_reference links)))
        e in
        let there : start + at ≡ offset = cc in
        ap (λ o.
        fault_with start index unlimited o
        (first_unlimited (map submitted_link (l ∷ links)))) first
        ∙ ap (λ n. Some (no_reference n)) there

-- and none: the fault is that of the links after it
pub fault_later : (start next index after : ℕ) (unlimited : Option ℕ) (limited : Bool) (l : Link)
    (links : List Link)
    → first_bad (link_references l) ≡ None
    → limited ≡ is_limited (submitted_link l)
    → next ≡ start + length (link_text l) + 1
    → after ≡ index + 1
    → fault_from next after (noted index limited unlimited) links
    ≡ fault_from start index unlimited (l ∷ links)
unfolding fault_from
fault_later start next index after unlimited limited l links good same moved counted =
    by_first (first_no_reference links) refl
  where
    later : (o : Option ℕ)
        → first_no_reference links ≡ o
        → first_no_reference (l ∷ links) ≡ option_map (λ at. length (link_text l) + 1 + at) o
    later o e =
        first_of_links l links
        ∙ ap (λ b.
        or_else b
        (option_map (λ at. length (link_text l) + 1 + at) (first_no_reference links)))
        good
        ∙ ap (option_map (λ at. length (link_text l) + 1 + at)) e

    counts : (b : Bool) (u o : Option ℕ)
        → limited ≡ b
        → first_unlimited (map submitted_link links) ≡ o
        → or_else (noted index limited u) (option_map (λ n. after + n) o)
        ≡ or_else u
        (option_map (λ n. index + n) (first_unlimited (map submitted_link (l ∷ links))))
    counts b (Some n) o e f = refl
    counts true None None e f = rw (e, first_is_limited l links (sym same ∙ e), f) refl
    counts true None (Some n) e f =
        let at : after + n ≡ index + (1 + n) = omega (arith, counted) in
        rw (e, first_is_limited l links (sym same ∙ e), f, at) refl
    counts false None o e f =
        let at : index ≡ index + 0 = omega arith in
        rw (e, first_is_unlimited l links (sym same ∙ e)) (ap (λ (n : ℕ). Some n) at)

    by_first : (o : Option ℕ) → first_no_reference links ≡ o
        → fault_with next after (noted index limited unlimited) (first_no_reference links)
        (first_unlimited (map submitted_link links))
        ≡ fault_with start index unlimited (first_no_reference (l ∷ links))
        (first_unlimited (map submitted_link (l ∷ links)))
    by_first None e =
        rw (e, later None e) (ap (option_map not_limited)
        (counts limited unlimited (first_unlimited (map submitted_link links)) refl refl))
    by_first (Some at) e =
        let there : next + at ≡ start + (length (link_text l) + 1 + at) = omega (arith, moved) in
        rw (e, later (Some at) e, there) refl

-- ---- room

-- the first link and the others
pub room_cons : (l : Link) (links : List Link)
    → room_of (l ∷ links) ≡ length (link_text l) + 1 + room_of links
room_cons l links = sum_by-cons (λ (m : Link). length (link_text m) + 1) l links

-- links take no more than their document and one comma more
pub room_bound : (links : List Link) → room_of links ≤ length (document_text links) + 1
unfolding document_text
room_bound [] = omega arith
room_bound (l ∷ []) = let one = room_cons l [] in omega (arith, one)
room_bound (l ∷ m ∷ links) =
    let more = room_bound (m ∷ links) in
    let room = room_cons l (m ∷ links) in
    let joined =
    length-append (link_text l) (comma ∷ join_with_byte comma (map link_text (m ∷ links))) in
    omega (arith, more, room, joined)
