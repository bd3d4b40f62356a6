-- What is left after a sweep.
use Rattle.std.proofs.Common.{
  ◌≡◌,
  ℕ,
  ◌+◌,
  ◌-◌,
  ◌≤◌,
  ◌==◌,
  ◌&&◌,
  ◌||◌,
  max,
  nat_lt,
  nat_le,
  Bool,
  true,
  false,
  not,
  cond,
  List,
  [],
  ◌∷◌,
  map,
  filter,
  length,
  Some,
  None,
  Result,
  Ok,
  Err,
  refl,
  sym,
  ap,
  ap₂,
  ◌∙◌,
  subst,
  arith,
  eqb-true,
  ltb-true,
}
use Rattle.std.specs.Prelude.{IfOk}
use Rattle.std.specs.List.{AllByRecursion, list_any}
use Rattle.std.proofs.lemmas.Bool.Decides.{nat_tests}
use Rattle.std.proofs.lemmas.List.{length-map}
use Rattle.rd_base.specs.declared.records.Record.{Record}
use Rattle.rd_base.proofs.lemmas.Each.{each_weaker, each_both, each_filter, each_passes}
use Rattle.rd_base.proofs.lemmas.Pairs.{PairsByRecursion}
use Rattle.history_model.specs.Leases.{lapse, is_live_at, live_among}
use Rattle.history_model.specs.Refusals.{max_text, text_of}
use Rattle.history_model.specs.Replay.{is_numbered, numbered}
use Rattle.history_model.specs.Versions.{Version}
use Rattle.history_model.proofs.NumberLaws.{IsBelow}
use Rattle.history_model.proofs.SweepLaws.{live_among_live}
use Rattle.history_model.proofs.VersionLaws.{swept_to}
use Rattle.lease_queue.specs.declared.leases.Lease.{Lease}
use Rattle.lease_queue.specs.Leases.{lapsed_at, unlapsed_at}
use Rattle.directory_core.specs.declared.counts.Counts.{Counts}
use Rattle.directory_core.specs.declared.names.NameSlot.{NameSlot}
use Rattle.directory_core.specs.AfterEntries.{without}
use Rattle.directory_core.specs.LapseOrder.{in_order_of, in_order_of_lapse}
use Rattle.directory_core.specs.LiveCounts.{counts_of}
use Rattle.directory_core.specs.NameSlots.{slot_of, slots_of, without_slot}
use Rattle.directory_core.specs.Shown.{counted_at, IsStored, IsKept, leases_of}
use Rattle.directory_core.specs.Swept.{without_all}
use Rattle.directory_core.proofs.InOrderLaws.{
  each_in_order,
  any_in_order,
  filter_in_order,
  differ_in_order,
  sum_in_order,
}
use Rattle.directory_core.proofs.SlotLaws.{key, below_differ, without_slot-filter, all_numbered}
use Rattle.directory_core.proofs.LeaseLaws.{lapsed-leases, unlapsed-leases_of}
use Rattle.directory_core.proofs.LapsingLaws.{filter_twice}
use Rattle.directory_core.proofs.ChangeLaws.{only_one, its_number, others_behind}
use Rattle.directory_core.proofs.ReadLaws.{lapsed-counted, tag-counted}
use Rattle.directory_core.proofs.CountLaws.{ones}
use Rattle.directory_core.proofs.KeptLaws.{live_light}

-- ---- names

-- the slots without that of the record of a number
pub slots_without : (rs : List Record) (number : ℕ) (old : Record)
    → PairsByRecursion IsBelow rs
    → numbered number rs ≡ Some old
    → (shown : Record)
    → shown ≡ old
    → without_slot (record { hash = key shown; number = number }) (slots_of rs)
    ≡ slots_of (without number rs)
slots_without rs number old up found shown is =
    let its = its_number number old rs found in
    let differ = below_differ rs up in
    let only : AllByRecursion (λ x. x.number ≡ old.number → x.name ≡ old.name) (in_order_of key rs)
    = each_in_order key (λ x. x.number ≡ old.number → x.name ≡ old.name) rs
    (each_weaker (λ x. x.number ≡ number → x ≡ old) (λ x. x.number ≡ old.number → x.name ≡
    old.name) (λ x same here. ap (λ (r : Record). r.name) (same (here ∙ its))) rs (only_one
    number old rs up found)) in
    ap₂ (λ (r : Record) (n : ℕ). without_slot (made r n) (slots_of rs)) is (sym its)
    ∙ without_slot-filter old (in_order_of key rs) (differ_in_order key rs differ) only
    ∙ ap (map slot_of) (filter_in_order key (λ x. not (is_numbered old.number x)) rs differ)
    ∙ ap (λ n. slots_of (without n rs)) its
  where
    made : Record → ℕ → NameSlot
    made r n = record { hash = key r; number = n }

pub without_none : (rs : List Record) (number : ℕ)
    → numbered number rs ≡ None
    → without number rs ≡ rs
without_none [] number none = refl
without_none (x ∷ xs) number none = by (is_numbered number x) none (without_none xs number)
  where
    by : (b : Bool)
        → cond b (Some x) (numbered number xs) ≡ None
        → (numbered number xs ≡ None → without number xs ≡ xs)
        → cond (not b) (x ∷ without number xs) (without number xs) ≡ x ∷ xs
    by true f more = absurd cc
    by false f more = ap (λ rest. x ∷ rest) (more f)

-- ---- records

pub all_first : (n : ℕ) (ns : List ℕ) (rs : List Record)
    → without_all (n ∷ ns) rs ≡ without_all ns (without n rs)
unfolding without_all
all_first n ns rs = refl

pub all_end : (rs : List Record) → without_all [] rs ≡ rs
unfolding without_all
all_end rs = refl

none_of : List ℕ → Record → Bool
none_of ns r = not (list_any (λ n. r.number == n) ns)

filter_true : (rs : List Record) → filter (λ r. true) rs ≡ rs
filter_true [] = refl
filter_true (r ∷ rs) = ap (λ rest. r ∷ rest) (filter_true rs)

filter_same_on : (p q : Record → Bool) (rs : List Record)
    → AllByRecursion (λ r. p r ≡ q r) rs
    → filter p rs ≡ filter q rs
filter_same_on p q [] same = refl
filter_same_on p q (r ∷ rs) same =
    let here = same.0 in let more = filter_same_on p q rs same.1 in rw (here, more) refl

same_everywhere : (p q : Record → Bool)
    → ((r : Record) → p r ≡ q r)
    → (rs : List Record)
    → filter p rs ≡ filter q rs
same_everywhere p q same [] = refl
same_everywhere p q same (r ∷ rs) =
    let here = same r in let more = same_everywhere p q same rs in rw (here, more) refl

without_all_filter : (ns : List ℕ) (rs : List Record) → without_all ns rs ≡ filter (none_of ns) rs
unfolding without_all none_of
without_all_filter [] rs = sym (filter_true rs)
without_all_filter (n ∷ ns) rs =
    without_all_filter ns (without n rs) ∙ filter_twice (none_of ns) (λ r. not (is_numbered n r)) rs
    ∙ same_everywhere (λ r. not (list_any (λ k. r.number == k) ns) && not (r.number == n))
    (λ r. not ((r.number == n) || list_any (λ k. r.number == k) ns))
    (λ r. swapped (list_any (λ k. r.number == k) ns) (r.number == n)) rs
  where
    swapped : (a b : Bool) → (not a && not b) ≡ not (b || a)
    swapped true true = refl
    swapped true false = refl
    swapped false true = refl
    swapped false false = refl

any_numbers : (p : Record → Bool) (m : ℕ) (xs : List Record)
    → list_any (λ n. m == n) (map (λ r. r.number) (filter p xs))
    ≡ list_any (λ x. p x && (m == x.number)) xs
any_numbers p m [] = refl
any_numbers p m (x ∷ xs) = by (p x) (any_numbers p m xs)
  where
    by : (b : Bool)
        → list_any (λ n. m == n) (map (λ r. r.number) (filter p xs))
        ≡ list_any (λ x. p x && (m == x.number)) xs
        → list_any (λ n. m == n)
        (map (λ (r : Record). r.number) (cond b (x ∷ filter p xs) (filter p xs)))
        ≡ ((b && (m == x.number)) || list_any (λ x. p x && (m == x.number)) xs)
    by true more = ap (λ rest. (m == x.number) || rest) more
    by false more = more

none_else : (p : Record → Bool) (m : ℕ) (xs : List Record)
    → AllByRecursion (λ x. is_numbered m x ≡ false) xs
    → list_any (λ x. p x && (m == x.number)) xs ≡ false
none_else p m [] all = refl
none_else p m (x ∷ xs) all =
    let other : (m == x.number) ≡ false = turned x.number m all.0 in
    let more = none_else p m xs all.1 in
    rw (other, more) (by (p x))
  where
    turned : (a b : ℕ) → (a == b) ≡ false → (b == a) ≡ false
    turned a b e = grind (arith, nat_tests)

    by : (b : Bool) → ((b && false) || false) ≡ false
    by true = refl
    by false = refl

only_any : (p : Record → Bool) (r : Record) (rs : List Record)
    → PairsByRecursion IsBelow rs
    → numbered r.number rs ≡ Some r
    → list_any (λ x. p x && (r.number == x.number)) rs ≡ p r
only_any p r [] up found = absurd cc
only_any p r (x ∷ xs) up found = by (is_numbered r.number x) refl found (only_any p r xs up.1)
  where
    turned : (a b : ℕ) → (a == b) ≡ false → (b == a) ≡ false
    turned a b e = grind (arith, nat_tests)

    same : (a b : ℕ) → (a == b) ≡ true → (b == a) ≡ true
    same a b e = grind (arith, nat_tests)

    or_false : (b : Bool) → ((b && true) || false) ≡ b
    or_false true = refl
    or_false false = refl

    and_false : (b c : Bool) → ((b && false) || c) ≡ c
    and_false true c = refl
    and_false false c = refl

    by : (b : Bool)
        → is_numbered r.number x ≡ b
        → cond b (Some x) (numbered r.number xs) ≡ Some r
        → (numbered r.number xs ≡ Some r → list_any (λ x. p x && (r.number == x.number)) xs ≡ p r)
        → ((p x && (r.number == x.number)) || list_any (λ x. p x && (r.number == x.number)) xs)
        ≡ p r
    by true e f more =
        let here : x ≡ r = cc in
        let test : (r.number == x.number) ≡ true = same x.number r.number e in
        let rest =
        none_else p r.number xs
        (others_behind r.number x xs (eqb-true x.number r.number e) up.0) in
        rw (test, rest) (or_false (p x) ∙ ap p here)
    by false e f more =
        let test : (r.number == x.number) ≡ false = turned x.number r.number e in
        rw test (and_false (p x) (list_any (λ x. p x && (r.number == x.number)) xs) ∙ more f)

-- the records without those whose leases have lapsed are those that are live
pub swept_records : (now : ℕ) (rs : List Record)
    → PairsByRecursion IsBelow rs
    → without_all (lapsed_at now (leases_of rs)) rs ≡ live_among now rs
unfolding none_of
swept_records now rs up =
    let gone = λ (r : Record). nat_le (lapse r) now in
    ap (λ ns. without_all ns rs) (lapsed-leases now (in_order_of_lapse rs))
    ∙ without_all_filter (map (λ r. r.number) (filter gone (in_order_of_lapse rs))) rs
    ∙ filter_same_on (none_of (map (λ r. r.number) (filter gone (in_order_of_lapse rs))))
    (is_live_at now) rs
    (each_weaker (λ x. numbered x.number rs ≡ Some x) (λ x.
    none_of (map (λ r. r.number) (filter gone (in_order_of_lapse rs))) x ≡ is_live_at now x)
    (λ x found.
    ap not (any_numbers gone x.number (in_order_of_lapse rs)
    ∙ any_in_order lapse (λ y. gone y && (x.number == y.number)) rs
    ∙ only_any gone x rs up found)
    ∙ live_not (lapse x) now) rs (all_numbered rs up))
  where
    live_not : (a b : ℕ) → not (nat_le a b) ≡ nat_lt b a
    live_not a b = grind (arith, nat_tests)

-- so many leases have lapsed as records have
pub lapsed_count : (now : ℕ) (rs : List Record)
    → PairsByRecursion IsBelow rs
    → length (lapsed_at now (leases_of rs)) ≡ length (filter (λ r. nat_le (lapse r) now) rs)
lapsed_count now rs up =
    let same :
    length (map (λ (r : Record). r.number)
    (filter (λ r. nat_le (lapse r) now) (in_order_of_lapse rs)))
    ≡ length (filter (λ r. nat_le (lapse r) now) (in_order_of_lapse rs)) =
    length-map _ _ in
    ap length (lapsed-leases now (in_order_of_lapse rs))
    ∙ same
    ∙ ap length (filter_in_order lapse (λ r. nat_le (lapse r) now) rs (below_differ rs up))
    ∙ length_in_order (filter (λ r. nat_le (lapse r) now) rs)
  where
    length_in_order : (xs : List Record) → length (in_order_of lapse xs) ≡ length xs
    length_in_order xs =
        sym (ones (in_order_of lapse xs)) ∙ sum_in_order lapse (λ r. 1) xs ∙ ones xs

-- ---- the version

abbrev pub after_sweep : Version → ℕ → List Record → ℕ → Version
after_sweep v now records swept_live = record {
  records = records;
  entries = v.entries;
  at = v.at;
  last_number = v.last_number;
  swept_live = swept_live;
  swept = now;
}

pub kept_swept : (v : Version) (names : List NameSlot) (leases : List Lease) (count sum now : ℕ)
    (counted : Counts)
    → IsKept v names leases count sum
    → v.at ≤ now
    → v.swept ≤ now
    → counted ≡ counts_of (live_among now v.records)
    → (records : List Record)
    → records ≡ live_among now v.records
    → PairsByRecursion IsBelow records
    → (slots : List NameSlot)
    → slots ≡ slots_of records
    → (queue : List Lease)
    → queue ≡ unlapsed_at now leases
    → IsKept (after_sweep v now records (v.swept_live + (count - counted.live))) slots queue
    counted.live counted.text
kept_swept v names leases count sum now counted k after_at after_swept counts records left up slots
    named queue unlapsed =
    let w = after_sweep v now records (v.swept_live + (count - counted.live)) in
    let at : max v.at now ≡ now = omega arith in
    let live : counted.live ≡ length (live_among now v.records) =
    ap (λ (x : Counts). x.live) counts in
    let text : counted.text ≡ text_of (live_among now v.records) =
    ap (λ (x : Counts). x.text) counts in
    let again : live_among (counted_at w) records ≡ live_among now v.records =
    ap₂ (λ m rs. live_among m rs) at left ∙ live_among_live now now v.records (omega arith) in
    let all = lapsed-counted v names leases count sum now k after_at after_swept in
    let few = k.few in
    let before = k.text in
    record {
      rising = up;
      stored =
          subst (AllByRecursion (IsStored w)) (sym left)
          (each_both (IsStored v) (λ r. is_live_at now r ≡ true) (IsStored w)
          (λ r s passes. record {
            numbered = s.numbered;
            granted = s.granted;
            unswept = ltb-true _ _ passes;
            lasting =
                s.lasting;
            references = s.references;
            against = s.against;
            of_body = s.of_body;
            base = s.base;
          })
          (live_among now v.records) (each_filter (IsStored v) (is_live_at now) v.records k.stored)
          (each_passes (is_live_at now) v.records));
      named = named;
      leased =
          unlapsed
          ∙ ap (unlapsed_at now) k.leased
          ∙ unlapsed-leases_of now v.records k.rising
          ∙ ap leases_of (sym left);
      live = live ∙ sym (ap length again);
      text = text ∙ sym (ap text_of again);
      few = omega (arith, few, all, live);
      light = omega (arith, text, light);
      counted = k.counted;
      numbers = k.numbers;
      in_time = k.in_time;
    }
  where
    light : text_of (live_among now v.records) ≤ max_text
    light = live_light v names leases count sum now k after_at after_swept

pub shown_swept : (v : Version) (names : List NameSlot) (leases : List Lease) (count sum now : ℕ)
    (counted : Counts)
    → IsKept v names leases count sum
    → v.at ≤ now
    → v.swept ≤ now
    → counted ≡ counts_of (live_among now v.records)
    → (records : List Record)
    → records ≡ live_among now v.records
    → after_sweep v now records (v.swept_live + (count - counted.live)) ≡ swept_to now v
shown_swept v names leases count sum now counted k after_at after_swept counts records left =
    ap₂ (after_sweep v now) left
    (tag-counted v names leases count sum now counted.live k after_at after_swept
    (ap (λ (x : Counts). x.live) counts))

-- what is so of a value, is so of what is equal to it
pub ok_so : {E : Type 0} (r : Result (List NameSlot) E) (P : List NameSlot → Type 0)
    (value : List NameSlot)
    → IfOk r (λ x. x ≡ value)
    → P value
    → IfOk r P
ok_so (Ok x) P value same p = subst P (sym same) p
ok_so (Err e) P value same p = tt
