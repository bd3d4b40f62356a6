-- The index of records: what it has of a record, and what it has after a change.
use Rattle.std.proofs.Common.{
  ◌≡◌,
  ℕ,
  ◌==◌,
  ◌||◌,
  ◌&&◌,
  Bool,
  true,
  false,
  not,
  cond,
  List,
  [],
  ◌∷◌,
  ◌++◌,
  map,
  bytes_eq,
  codes,
  Some,
  Result,
  Ok,
  Err,
  refl,
  sym,
  ap,
  ap₂,
  ◌∙◌,
  subst,
  append_assoc,
  arith,
  eqb-true,
}
use Rattle.std.specs.Prelude.{IfOk, ◌↔◌}
use Rattle.std.specs.List.{AllByRecursion, list_any, flat_map}
use Rattle.std.proofs.lemmas.Bool.{true≢false, false≢true, and_parts}
use Rattle.std.proofs.lemmas.Bool.Decides.{nat_tests}
use Rattle.std.proofs.lemmas.List.Folds.{list_any-append, flat_map-map}
use Rattle.std.proofs.lemmas.Slice.Eq.{bytes_eq-Decides, slice_eq-Decides}
use Rattle.std.specs.Bool.{Decides}
use Rattle.std.specs.Cmp.Lexicographic.{pointwise}
use Rattle.rd_base.specs.declared.attributes.Pair.{Pair}
use Rattle.rd_base.specs.declared.records.Item.{Item}
use Rattle.rd_base.specs.declared.records.Name.{Name}
use Rattle.rd_base.specs.declared.records.Record.{Record}
use Rattle.rd_base.proofs.lemmas.Each.{each_append}
use Rattle.rd_base.proofs.lemmas.Pairs.{PairsByRecursion}
use Rattle.record_model.specs.ListingLines.{own_pairs}
use Rattle.record_model.specs.Matching.{endpoint_type, sector_pairs, endpoint_pairs}
use Rattle.attribute_index.specs.Entries.{
  Entry,
  IsAscending,
  is_same,
  has_entry,
  values_of,
  entries_of,
  entries_of_all,
}
use Rattle.attribute_index.proofs.EntryLaws.{has_entry-all_append}
use Rattle.history_model.specs.Replay.{is_numbered, numbered}
use Rattle.history_model.proofs.NumberLaws.{IsBelow}
use Rattle.directory_core.specs.AfterEntries.{renewed, without}
use Rattle.directory_core.specs.Bounds.{pairs_of, record_entries, AreEntriesOf}
use Rattle.directory_core.specs.IndexedPairs.{item_pairs}
use Rattle.directory_core.proofs.ChangeLaws.{others_behind, none_numbered, unchanged}

-- ---- pairs one after another

pub no_pairs : (number : ℕ) (e : Entry) → has_entry (entries_of_all [] number) e ≡ false
unfolding entries_of_all
no_pairs number e = refl

or_step : (a b c d : Bool) → d ≡ (b || c) → ((a || b) || c) ≡ (a || d)
or_step true b c d e = refl
or_step false b c d e = sym e

pub with_step : (before after pair more all : Bool)
    → after ≡ (before || pair)
    → all ≡ (pair || more)
    → (after || more) ≡ (before || all)
with_step before after pair more all put whole =
    ap (λ b. b || more) put ∙ or_step before pair more all whole

and_step : (a b c d : Bool) → d ≡ (b || c) → ((a && not b) && not c) ≡ (a && not d)
and_step true true c d e = sym (ap not e)
and_step true false c d e = sym (ap not e)
and_step false b c d e = refl

pub without_step : (before after pair more all : Bool)
    → after ≡ (before && not pair)
    → all ≡ (pair || more)
    → (after && not more) ≡ (before && not all)
without_step before after pair more all taken whole =
    ap (λ b. b && not more) taken ∙ and_step before pair more all whole

pub or_nothing : (a b : Bool) → b ≡ false → (a || b) ≡ a
or_nothing true b e = refl
or_nothing false b e = e

pub and_nothing : (a b : Bool) → b ≡ false → (a && not b) ≡ a
and_nothing true b e = ap not e
and_nothing false b e = refl

-- ---- the attributes of a record

own_then : (r : Record) → own_pairs r ++ r.attrs ≡ endpoint_pairs r
unfolding endpoint_pairs
own_then r =
    ap (λ (ps : List Pair).
    record { name = codes "base"; value = r.base }
    ∷ record { name = codes "ep"; value = r.name.ep }
    ∷ ps) (append_assoc (sector_pairs r.name.sector)
    (record { name = codes "rt"; value = endpoint_type } ∷ []) r.attrs)

-- those that each endpoint has, the extra ones, and those of the links
pub pairs_split : (r : Record) → own_pairs r ++ (r.attrs ++ item_pairs r.items) ≡ pairs_of r
pairs_split r =
    sym (append_assoc (own_pairs r) r.attrs (item_pairs r.items))
    ∙ ap (λ (ps : List Pair). ps ++ item_pairs r.items) (own_then r)

pub entries_split : (r : Record) (e : Entry) → has_entry (record_entries r) e
    ≡ (has_entry (entries_of_all (own_pairs r) r.number) e
    || (has_entry (entries_of_all r.attrs r.number) e
    || has_entry (entries_of_all (item_pairs r.items) r.number) e))
entries_split r e =
    ap (λ ps. has_entry (entries_of_all ps r.number) e) (sym (pairs_split r))
    ∙ has_entry-all_append (own_pairs r) (r.attrs ++ item_pairs r.items) r.number e
    ∙ ap (λ b. has_entry (entries_of_all (own_pairs r) r.number) e || b)
    (has_entry-all_append r.attrs (item_pairs r.items) r.number e)

pub with_parts : (start one two three own attrs links all : Bool)
    → one ≡ (start || own)
    → two ≡ (one || attrs)
    → three ≡ (two || links)
    → all ≡ (own || (attrs || links))
    → three ≡ (start || all)
with_parts true one two three own attrs links all a b c d =
    c ∙ ap (λ x. x || links) (b ∙ ap (λ x. x || attrs) a)
with_parts false one two three true attrs links all a b c d =
    c ∙ ap (λ x. x || links) (b ∙ ap (λ x. x || attrs) a) ∙ sym d
with_parts false one two three false attrs links all a b c d =
    c ∙ ap (λ x. x || links) (b ∙ ap (λ x. x || attrs) a) ∙ sym d

pub without_parts : (start one two three own attrs links all : Bool)
    → one ≡ (start && not own)
    → two ≡ (one && not attrs)
    → three ≡ (two && not links)
    → all ≡ (own || (attrs || links))
    → three ≡ (start && not all)
without_parts start one two three own attrs links all a b c d =
    c
    ∙ ap (λ x. x && not links) (b ∙ ap (λ x. x && not attrs) a)
    ∙ by start own attrs links
    ∙ ap (λ x. start && not x) (sym d)
  where
    by : (s o t l : Bool) → (((s && not o) && not t) && not l) ≡ (s && not (o || (t || l)))
    by false o t l = refl
    by true true t l = refl
    by true false true l = refl
    by true false false l = refl

-- ---- records that carry the same attributes

own_alike : (r old : Record) → r.name ≡ old.name → r.base ≡ old.base → own_pairs r ≡ own_pairs old
own_alike r old name base = ap₂ own base name
  where
    own : List ℕ → Name → List Pair
    own base name =
        record { name = codes "base"; value = base }
        ∷ record { name = codes "ep"; value = name.ep }
        ∷ (sector_pairs name.sector
        ++ (record { name = codes "rt"; value = endpoint_type } ∷ []))

links_alike : (items others : List Item)
    → map (λ (i : Item). i.pairs) items ≡ map (λ (i : Item). i.pairs) others
    → item_pairs items ≡ item_pairs others
links_alike items others same =
    sym (flat_map-map (λ (ps : List Pair). ps) (λ (i : Item). i.pairs) items)
    ∙ ap (flat_map (λ (ps : List Pair). ps)) same
    ∙ flat_map-map (λ (ps : List Pair). ps) (λ (i : Item). i.pairs) others

-- of one number and one name, with the same base, extra attributes and attributes of the links
pub entries_alike : (old new : Record)
    → new.number ≡ old.number
    → new.name ≡ old.name
    → old.base ≡ new.base
    → old.attrs ≡ new.attrs
    → map (λ (i : Item). i.pairs) old.items ≡ map (λ (i : Item). i.pairs) new.items
    → record_entries new ≡ record_entries old
entries_alike old new number name base attrs links =
    let own : own_pairs old ≡ own_pairs new = own_alike old new (sym name) base in
    let more : old.attrs ++ item_pairs old.items ≡ new.attrs ++ item_pairs new.items =
    ap₂ (λ (extra linked : List Pair). extra ++ linked) attrs
    (links_alike old.items new.items links) in
    sym (ap₂ entries_of_all (sym (pairs_split old)
    ∙ ap₂ (λ (front end : List Pair). front ++ end) own more
    ∙ pairs_split new) (sym number))

-- attributes that are compared one by one
pub pairs_decided : (xs ys : List Pair) (same : Bool)
    → same ≡ pointwise (λ x y. bytes_eq x.name y.name && bytes_eq x.value y.value) xs ys
    → Decides same (xs ≡ ys)
pairs_decided xs ys same is = slice_eq-Decides one xs ys same is
  where
    made : List ℕ → List ℕ → Pair
    made name value = record { name = name; value = value }

    one : (x y : Pair) → Decides (bytes_eq x.name y.name && bytes_eq x.value y.value) (x ≡ y)
    one x y = (
      λ same.
          let parts = and_parts (bytes_eq x.name y.name) (bytes_eq x.value y.value) same in
          ap₂ made ((bytes_eq-Decides x.name y.name).0 parts.0)
          ((bytes_eq-Decides x.value y.value).0 parts.1),
      λ same.
          ap₂ (λ a b. a && b) ((bytes_eq-Decides x.name y.name).1 (ap (λ (p : Pair). p.name) same))
          ((bytes_eq-Decides x.value y.value).1 (ap (λ (p : Pair). p.value) same)),
    )

-- ---- links that are gone over side by side, by their attributes

abbrev pub carried : List Item → List (List Pair)
carried items = map (λ item. item.pairs) items

-- one more of each, which carry the same
pub alike_more : (left right more further : List Item) (x y : Item) (W : Type 0)
    → left ≡ x ∷ more
    → right ≡ y ∷ further
    → x.pairs ≡ y.pairs
    → (carried left ≡ carried right) ↔ W
    → (carried more ≡ carried further) ↔ W
alike_more left right more further x y W e f same h = (
  λ s.
      h.0 (ap carried e
      ∙ (ap₂ (λ (p : List Pair) (ps : List (List Pair)). p ∷ ps) same s ∙ sym (ap carried f))),
  λ w. behind (sym (ap carried e) ∙ (h.1 w ∙ ap carried f)),
)
  where
    behind : carried (x ∷ more) ≡ carried (y ∷ further) → carried more ≡ carried further
    behind s = cc

-- one of each, which differ
pub alike_not : (left right more further : List Item) (x y : Item) (W : Type 0)
    → left ≡ x ∷ more
    → right ≡ y ∷ further
    → (x.pairs ≡ y.pairs → ⊥)
    → (carried left ≡ carried right) ↔ W
    → (false ≡ true) ↔ W
alike_not left right more further x y W e f differ h = (
  λ s. absurd (false≢true s),
  λ w. absurd (differ (first (sym (ap carried e) ∙ (h.1 w ∙ ap carried f)))),
)
  where
    first : carried (x ∷ more) ≡ carried (y ∷ further) → x.pairs ≡ y.pairs
    first s = cc

-- there are fewer of the others
pub alike_fewer : (left right more : List Item) (x : Item) (W : Type 0)
    → left ≡ x ∷ more
    → right ≡ []
    → (carried left ≡ carried right) ↔ W
    → (false ≡ true) ↔ W
alike_fewer left right more x W e f h =
    (λ s. absurd (false≢true s), λ w. absurd (none (sym (ap carried e) ∙ (h.1 w ∙ ap carried f))))
  where
    none : carried (x ∷ more) ≡ [] → ⊥
    none s = cc

-- none is left
pub alike_ended : (left right : List Item) (b : Bool) (W : Type 0)
    → left ≡ []
    → (b ≡ true) ↔ (right ≡ [])
    → (carried left ≡ carried right) ↔ W
    → (b ≡ true) ↔ W
alike_ended left right b W e is h = (
  λ s. h.0 (ap carried e ∙ sym (ap carried (is.0 s))),
  λ w. is.1 (none right (sym (ap carried e) ∙ h.1 w)),
)
  where
    none : (items : List Item) → [] ≡ carried items → items ≡ []
    none [] s = refl
    none (item ∷ items) s = absurd (cc)

-- ---- the number of an entry

numbered_values : (name : List ℕ) (number : ℕ) (values : List (List ℕ))
    → AllByRecursion (λ (x : Entry). x.number ≡ number)
    (map (λ value. record { name = name; value = value; number = number }) values)
numbered_values name number [] = tt
numbered_values name number (v ∷ values) = (refl, numbered_values name number values)

numbered_pairs : (pairs : List Pair) (number : ℕ)
    → AllByRecursion (λ (x : Entry). x.number ≡ number) (entries_of_all pairs number)
unfolding entries_of_all entries_of
numbered_pairs [] number = tt
numbered_pairs (p ∷ pairs) number =
    each_append (λ (x : Entry). x.number ≡ number) (entries_of p number)
    (entries_of_all pairs number) (numbered_values p.name number (values_of p.name p.value))
    (numbered_pairs pairs number)

number_of_entry : (n : ℕ) (xs : List Entry) (e : Entry)
    → AllByRecursion (λ (x : Entry). x.number ≡ n) xs
    → has_entry xs e ≡ true
    → e.number ≡ n
number_of_entry n [] e all h = absurd (true≢false (sym h))
number_of_entry n (x ∷ xs) e all h = by (is_same e x) refl h (number_of_entry n xs e all.1)
  where
    by : (b : Bool)
        → is_same e x ≡ b
        → (b || has_entry xs e) ≡ true
        → (has_entry xs e ≡ true → e.number ≡ n)
        → e.number ≡ n
    by true same h more =
        let parts =
        and_parts (bytes_eq e.name x.name) (bytes_eq e.value x.value && (e.number == x.number))
        same in
        let last = and_parts (bytes_eq e.value x.value) (e.number == x.number) parts.1 in
        eqb-true e.number x.number last.1 ∙ all.0
    by false same h more = more h

-- an entry of a record has its number
pub entry_number : (r : Record) (e : Entry)
    → has_entry (record_entries r) e ≡ true
    → e.number ≡ r.number
entry_number r e h =
    number_of_entry r.number (record_entries r) e (numbered_pairs (pairs_of r) r.number) h

-- ---- records of which one changes

abbrev has : Entry → Record → Bool
has e r = has_entry (record_entries r) e

-- none of the other records has an entry of a number
none_other : (e : Entry) (number : ℕ) (rs : List Record)
    → e.number ≡ number
    → list_any (has e) (without number rs) ≡ false
none_other e number [] of_number = refl
none_other e number (r ∷ rs) of_number =
    by (is_numbered number r) (has e r) refl refl (none_other e number rs of_number)
  where
    by : (n h : Bool)
        → is_numbered number r ≡ n
        → has e r ≡ h
        → list_any (has e) (without number rs) ≡ false
        → list_any (has e) (cond (not n) (r ∷ without number rs) (without number rs)) ≡ false
    by true h en eh more = more
    by false true en eh more =
        let same : r.number ≡ number = sym (entry_number r e eh) ∙ of_number in
        absurd (true≢false
        (sym (let again : (r.number == number) ≡ true = grind (arith, nat_tests) in again)
        ∙ en))
    by false false en eh more = rw eh more

any_without : (e : Entry) (number : ℕ) (old : Record) (rs : List Record)
    → PairsByRecursion IsBelow rs
    → numbered number rs ≡ Some old
    → has e old ≡ false
    → list_any (has e) rs ≡ list_any (has e) (without number rs)
any_without e number old [] up found fails = refl
any_without e number old (r ∷ rs) up found fails =
    by (is_numbered number r) refl found (any_without e number old rs up.1)
  where
    by : (n : Bool)
        → is_numbered number r ≡ n
        → cond n (Some r) (numbered number rs) ≡ Some old
        → (numbered number rs ≡ Some old
        → has e old ≡ false
        → list_any (has e) rs ≡ list_any (has e) (without number rs))
        → (has e r || list_any (has e) rs)
        ≡ list_any (has e) (cond (not n) (r ∷ without number rs) (without number rs))
    by true en f more =
        let same : r ≡ old = cc in
        let here : has e r ≡ false = ap (has e) same ∙ fails in
        rw here (ap (list_any (has e)) (sym (none_numbered number rs
        (others_behind number r rs (eqb-true r.number number en) up.0))))
    by false en f more = ap (λ b. has e r || b) (more f fails)

old_number : (number : ℕ) (old : Record) (rs : List Record)
    → numbered number rs ≡ Some old
    → old.number ≡ number
old_number number old [] found = absurd cc
old_number number old (r ∷ rs) found =
    by (is_numbered number r) refl found (old_number number old rs)
  where
    by : (n : Bool)
        → is_numbered number r ≡ n
        → cond n (Some r) (numbered number rs) ≡ Some old
        → (numbered number rs ≡ Some old → old.number ≡ number)
        → old.number ≡ number
    by true en f more =
        let same : r ≡ old = cc in
        ap (λ (x : Record). x.number) (sym same) ∙ eqb-true r.number number en
    by false en f more = more f

-- without the record of a number
pub entries_without : (rs : List Record) (number : ℕ) (old : Record) (index after : List Entry)
    → PairsByRecursion IsBelow rs
    → numbered number rs ≡ Some old
    → AreEntriesOf rs index
    → ((e : Entry)
    → has_entry after e ≡ (has_entry index e && not (has_entry (record_entries old) e)))
    → IsAscending after
    → AreEntriesOf (without number rs) after
entries_without rs number old index after up found are taken once = record {
  once = once;
  there = λ e. taken e ∙ ap (λ b. b && not (has e old)) (are.there e) ∙ by e (has e old) refl;
}
  where
    and_true : (b : Bool) → (b && true) ≡ b
    and_true true = refl
    and_true false = refl

    and_false : (b : Bool) → (b && false) ≡ false
    and_false true = refl
    and_false false = refl

    by : (e : Entry) (h : Bool)
        → has e old ≡ h
        → (list_any (has e) rs && not h) ≡ list_any (has e) (without number rs)
    by e true eh =
        and_false (list_any (has e) rs)
        ∙ sym (none_other e number rs (entry_number old e eh ∙ old_number number old rs found))
    by e false eh = and_true (list_any (has e) rs) ∙ any_without e number old rs up found eh

-- with one record more
pub entries_appended : (rs : List Record) (r : Record) (index after : List Entry)
    → AreEntriesOf rs index
    → ((e : Entry) → has_entry after e ≡ (has_entry index e || has_entry (record_entries r) e))
    → IsAscending after
    → AreEntriesOf (rs ++ r ∷ []) after
entries_appended rs r index after are put once = record {
  once = once;
  there =
      λ e.
      put e
      ∙ ap (λ b. b || has e r) (are.there e)
      ∙ last (list_any (has e) rs) (has e r)
      ∙ sym (list_any-append (has e) rs (r ∷ []));
}
  where
    last : (a b : Bool) → (a || b) ≡ (a || (b || false))
    last true b = refl
    last false true = refl
    last false false = refl

-- with a record in place of that of its number
pub entries_renewed : (rs : List Record) (r old : Record) (index after : List Entry)
    → PairsByRecursion IsBelow rs
    → numbered r.number rs ≡ Some old
    → AreEntriesOf (without r.number rs) index
    → ((e : Entry) → has_entry after e ≡ (has_entry index e || has_entry (record_entries r) e))
    → IsAscending after
    → AreEntriesOf (renewed r rs) after
entries_renewed rs r old index after up found are put once = record {
  once = once;
  there = λ e. put e ∙ ap (λ b. b || has e r) (are.there e) ∙ sym (placed e rs up found);
}
  where
    placed : (e : Entry) (xs : List Record)
        → PairsByRecursion IsBelow xs
        → numbered r.number xs ≡ Some old
        → list_any (has e) (renewed r xs) ≡ (list_any (has e) (without r.number xs) || has e r)
    placed e [] up found = absurd cc
    placed e (x ∷ xs) up found = by (is_numbered r.number x) refl found (placed e xs up.1)
      where
        swapped : (a b : Bool) → (a || b) ≡ (b || a)
        swapped true true = refl
        swapped true false = refl
        swapped false true = refl
        swapped false false = refl

        joined : (a b c : Bool) → (a || (b || c)) ≡ ((a || b) || c)
        joined true b c = refl
        joined false b c = refl

        same_rest : AllByRecursion (λ y. is_numbered r.number y ≡ false) xs
            → renewed r xs ≡ without r.number xs
        same_rest none = unchanged r.number (λ _. r) xs none ∙ sym (none_numbered r.number xs none)

        by : (n : Bool)
            → is_numbered r.number x ≡ n
            → cond n (Some x) (numbered r.number xs) ≡ Some old
            → (numbered r.number xs ≡ Some old
            → list_any (has e) (renewed r xs)
            ≡ (list_any (has e) (without r.number xs) || has e r))
            → (has e (cond n r x) || list_any (has e) (renewed r xs))
            ≡ (list_any (has e) (cond (not n) (x ∷ without r.number xs) (without r.number xs))
            || has e r)
        by true en f more =
            let none = others_behind r.number x xs (eqb-true x.number r.number en) up.0 in
            ap (λ ys. has e r || list_any (has e) ys) (same_rest none)
            ∙ swapped (has e r) (list_any (has e) (without r.number xs))
        by false en f more =
            ap (λ b. has e x || b) (more f)
            ∙ joined (has e x) (list_any (has e) (without r.number xs)) (has e r)

-- with a record in place of that of its number, where both have the same entries
pub entries_kept : (rs : List Record) (r old : Record) (index : List Entry)
    → PairsByRecursion IsBelow rs
    → numbered r.number rs ≡ Some old
    → record_entries r ≡ record_entries old
    → AreEntriesOf rs index
    → AreEntriesOf (renewed r rs) index
entries_kept rs r old index up found alike are = record {
  once = are.once;
  there = λ e. are.there e ∙ kept e rs up found;
}
  where
    kept : (e : Entry) (xs : List Record)
        → PairsByRecursion IsBelow xs
        → numbered r.number xs ≡ Some old
        → list_any (has e) xs ≡ list_any (has e) (renewed r xs)
    kept e [] up found = refl
    kept e (x ∷ xs) up found = by (is_numbered r.number x) refl found (kept e xs up.1)
      where
        by : (n : Bool)
            → is_numbered r.number x ≡ n
            → cond n (Some x) (numbered r.number xs) ≡ Some old
            → (numbered r.number xs ≡ Some old
            → list_any (has e) xs ≡ list_any (has e) (renewed r xs))
            → (has e x || list_any (has e) xs)
            ≡ (has e (cond n r x) || list_any (has e) (renewed r xs))
        by true en f more =
            let same : x ≡ old = cc in
            let none = others_behind r.number x xs (eqb-true x.number r.number en) up.0 in
            ap₂ (λ a b. a || b) (ap (has e) same ∙ ap (λ es. has_entry es e) (sym alike))
            (ap (list_any (has e)) (sym (unchanged r.number (λ _. r) xs none)))
        by false en f more = ap (λ b. has e x || b) (more f)

-- ---- where the index could be made

pub ok_without : {E : Type 0} (r : Result (List Entry) E) (rs : List Record) (number : ℕ)
    (old shown : Record) (index : List Entry)
    → PairsByRecursion IsBelow rs
    → numbered number rs ≡ Some old
    → shown ≡ old
    → AreEntriesOf rs index
    → IfOk r (λ after.
    (e : Entry)
    → has_entry after e
    ≡ (has_entry index e && not (has_entry (record_entries shown) e)))
    → IfOk r (λ after. IsAscending after)
    → IfOk r (AreEntriesOf (without number rs))
ok_without (Ok after) rs number old shown index up found is are taken once =
    entries_without rs number old index after up found are
    (λ e. taken e ∙ ap (λ x. has_entry index e && not (has_entry (record_entries x) e)) is) once
ok_without (Err error) rs number old shown index up found is are taken once = tt

pub ok_renewed : {E : Type 0} (r : Result (List Entry) E) (rs : List Record) (new old : Record)
    (index left : List Entry)
    → PairsByRecursion IsBelow rs
    → numbered new.number rs ≡ Some old
    → AreEntriesOf rs index
    → ((e : Entry)
    → has_entry left e ≡ (has_entry index e && not (has_entry (record_entries old) e)))
    → IsAscending left
    → IfOk r (λ after.
    (e : Entry)
    → has_entry after e ≡ (has_entry left e || has_entry (record_entries new) e))
    → IfOk r (λ after. IsAscending after)
    → IfOk r (AreEntriesOf (renewed new rs))
ok_renewed (Ok after) rs new old index left up found are taken ascends put once =
    entries_renewed rs new old left after up found
    (entries_without rs new.number old index left up found are taken ascends) put once
ok_renewed (Err error) rs new old index left up found are taken ascends put once = tt

pub ok_shared : {E : Type 0} (r : Result (List Entry) E) (rs left : List Record)
    (index : List Entry)
    → rs ≡ left
    → AreEntriesOf rs index
    → IfOk r (λ after. after ≡ index)
    → IfOk r (AreEntriesOf left)
ok_shared (Ok after) rs left index same are is =
    subst (AreEntriesOf left) (sym is) (subst (λ xs. AreEntriesOf xs index) same are)
ok_shared (Err error) rs left index same are is = tt

-- what holds of a value holds of a result that is equal to it
pub ok_same : {X E : Type 0} (r : Result X E) (x : X)
    → IfOk r (λ y. y ≡ x)
    → (P : X → Type 0)
    → P x
    → IfOk r P
ok_same (Ok y) x is P p = subst P (sym is) p
ok_same (Err error) x is P p = tt

-- no records have no entries
pub no_entries : (records : List Record) (index : List Entry)
    → records ≡ []
    → index ≡ []
    → AreEntriesOf records index
unfolding IsAscending
no_entries records index none empty =
    subst (λ rs. AreEntriesOf rs index) (sym none)
    (subst (AreEntriesOf []) (sym empty) (record { once = tt; there = λ e. refl }))
