-- Queues of leases: where they are cut, what is put and taken, and that they ascend.
use Rattle.std.proofs.Common.{
  ◌≡◌,
  ◌≢◌,
  ℕ,
  suc,
  ◌≤◌,
  Bool,
  true,
  false,
  not,
  cond,
  List,
  [],
  ◌∷◌,
  ◌++◌,
  length,
  map,
  filter,
  refl,
  sym,
  ap,
  ◌∙◌,
  subst,
  ◌⊎◌,
  inl,
  inr,
  Option,
  Some,
  None,
  IfNone,
  append_assoc,
  append-nil,
  arith,
}
use Rattle.std.specs.declared.cmp.Ordering.{Ordering}
use Rattle.std.specs.declared.cmp.Ordering.TheVariants.{Less, Equal, Greater}
use Rattle.std.specs.Ordering.{MatchOrdering, match_ordering, is_eq}
use Rattle.std.specs.Map.{keys_of, remove_entry}
use Rattle.std.specs.BTreeMap.{insert_entry, is_at}
use Rattle.std.specs.List.{AllByRecursion, Contains}
use Rattle.std.proofs.lemmas.Bool.{false≢true}
use Rattle.std.proofs.lemmas.List.Elements.{
  All-contains,
  All-from_recursion,
  Contains-append_left,
  Contains-append_right,
  Contains-append_cases,
}
use Rattle.lease_queue.specs.declared.leases.Lease.{Lease}
use Rattle.lease_queue.specs.Leases.{
  is_before,
  is_same,
  IsAscending,
  earlier,
  later,
  with_lease,
  without_lease,
  has_lapsed,
  lapsed_at,
  unlapsed_at,
}
use Rattle.lease_queue.proofs.OrderLaws.{
  lease_cmp,
  ranked,
  differs_back,
  unlapsed_after,
  before_trans,
  not_before_itself,
  not_before_back,
  before_differs,
  before_or_after,
  same_is,
  same_itself,
}
use Rattle.rd_base.proofs.lemmas.Contains.{
  contains_none,
  contains_first,
  contains_later,
  contains_cases,
  contains_filter,
  filter_contains,
}
use Rattle.rd_base.proofs.lemmas.Each.{each_weaker, each_filter, each_append, each_passes}
use Rattle.rd_base.proofs.lemmas.Filters.{filter_all, filter_none}

-- ---- they ascend

pub ascends_empty : IsAscending []
unfolding IsAscending
ascends_empty = tt

ascends_filter : (test : Lease → Bool) (xs : List Lease)
    → IsAscending xs
    → IsAscending (filter test xs)
unfolding IsAscending
ascends_filter test [] up = tt
ascends_filter test (x ∷ xs) up = by (test x) (ascends_filter test xs up.1)
  where
    by : (t : Bool)
        → IsAscending (filter test xs)
        → IsAscending (cond t (x ∷ filter test xs) (filter test xs))
    by true more = (each_filter (λ y. is_before x y ≡ true) test xs up.0, more)
    by false more = more

ascends_around : (xs : List Lease) (lease : Lease) (ys : List Lease)
    → IsAscending xs
    → AllByRecursion (λ x. is_before x lease ≡ true) xs
    → AllByRecursion (λ y. is_before lease y ≡ true) ys
    → IsAscending ys
    → IsAscending (xs ++ lease ∷ ys)
unfolding IsAscending
ascends_around [] lease ys up front back more = (back, more)
ascends_around (x ∷ xs) lease ys up front back more =
    let far =
    each_weaker (λ y. is_before lease y ≡ true) (λ y. is_before x y ≡ true)
    (λ y h. before_trans x lease y front.0 h) ys back in (
      each_append (λ y. is_before x y ≡ true) xs (lease ∷ ys) up.0 (front.0, far),
      ascends_around xs
          lease ys up.1 front.1 back more,
    )

pub ascends_with : (queue : List Lease) (lease : Lease)
    → IsAscending queue
    → IsAscending (with_lease queue lease)
unfolding with_lease
ascends_with queue lease up =
    ascends_around (earlier queue lease) lease (later queue lease)
    (ascends_filter (λ x. is_before x lease) queue up)
    (each_passes (λ x. is_before x lease) queue)
    (each_passes (λ x. is_before lease x) queue) (ascends_filter (λ x. is_before lease x) queue up)

pub ascends_without : (queue : List Lease) (lease : Lease)
    → IsAscending queue
    → IsAscending (without_lease queue lease)
unfolding without_lease
ascends_without queue lease up = ascends_filter (λ x. not (is_same x lease)) queue up

-- ---- nothing changes where it is there already, or is not there

pub with_same : (queue : List Lease) (lease : Lease)
    → IsAscending queue
    → Contains queue lease
    → with_lease queue lease ≡ queue
unfolding with_lease IsAscending
with_same [] lease up h = absurd (contains_none lease h)
with_same (x ∷ xs) lease up h =
    by (contains_cases x xs lease h) (λ there. with_same xs lease up.1 there)
  where
    here : with_lease (x ∷ xs) x ≡ x ∷ xs
    here =
        let none =
        filter_none (λ y. is_before y x) xs
        (each_weaker (λ y. is_before x y ≡ true) (λ y. is_before y x ≡ false) (λ y g.
        not_before_back x y g) xs up.0) in
        let all = filter_all (λ y. is_before x y) xs up.0 in
        rw (not_before_itself x, none, all) refl

    by : (x ≡ lease) ⊎ Contains xs lease
        → (Contains xs lease → with_lease xs lease ≡ xs)
        → with_lease (x ∷ xs) lease ≡ x ∷ xs
    by (inl is) rest = subst (λ z. with_lease (x ∷ xs) z ≡ x ∷ xs) is here
    by (inr there) rest =
        let before =
        All-contains (λ y. is_before x y ≡ true) xs lease
        (All-from_recursion (λ y. is_before x y ≡ true) xs up.0) there in
        rw (before, not_before_back x lease before) (ap (λ more. x ∷ more) (rest there))

differs_from_all : (xs : List Lease) (lease : Lease)
    → (Contains xs lease → ⊥)
    → AllByRecursion (λ x. not (is_same x lease) ≡ true) xs
differs_from_all [] lease absent = tt
differs_from_all (x ∷ xs) lease absent = (
  by (is_same x lease) refl,
  differs_from_all xs lease
      (λ there. absent (contains_later x xs lease there)),
)
  where
    by : (s : Bool) → is_same x lease ≡ s → not (is_same x lease) ≡ true
    by true e =
        absurd (absent (subst (λ z. Contains (x ∷ xs) z) (same_is x lease e) (contains_first x xs)))
    by false e = ap not e

pub without_same : (queue : List Lease) (lease : Lease)
    → (Contains queue lease → ⊥)
    → without_lease queue lease ≡ queue
unfolding without_lease
without_same queue lease absent =
    filter_all (λ x. not (is_same x lease)) queue (differs_from_all queue lease absent)

-- ---- what is there

pub with_there : (queue : List Lease) (lease : Lease) → Contains (with_lease queue lease) lease
unfolding with_lease
with_there queue lease =
    Contains-append_right (earlier queue lease) (lease ∷ later queue lease) lease
    (contains_first lease (later queue lease))

pub with_others : (queue : List Lease) (lease other : Lease)
    → other ≢ lease
    → Contains (with_lease queue lease) other
    → Contains queue other
unfolding with_lease
with_others queue lease other differs h =
    by (Contains-append_cases (earlier queue lease) (lease ∷ later queue lease) other h)
  where
    after : (lease ≡ other) ⊎ Contains (later queue lease) other → Contains queue other
    after (inl is) = absurd (differs (sym is))
    after (inr there) = (contains_filter (λ x. is_before lease x) queue other there).0

    by : Contains (earlier queue lease) other ⊎ Contains (lease ∷ later queue lease) other
        → Contains queue other
    by (inl there) = (contains_filter (λ x. is_before x lease) queue other there).0
    by (inr there) = after (contains_cases lease (later queue lease) other there)

pub with_kept : (queue : List Lease) (lease other : Lease)
    → other ≢ lease
    → Contains queue other
    → Contains (with_lease queue lease) other
unfolding with_lease
with_kept queue lease other differs h = by (is_before other lease) (is_same other lease) refl refl
  where
    by : (b s : Bool)
        → is_before other lease ≡ b
        → is_same other lease ≡ s
        → Contains (with_lease queue lease) other
    by true s b e =
        Contains-append_left (earlier queue lease) (lease ∷ later queue lease) other
        (filter_contains (λ x. is_before x lease) queue other h b)
    by false true b e = absurd (differs (same_is other lease e))
    by false false b e =
        Contains-append_right (earlier queue lease) (lease ∷ later queue lease) other
        (contains_later lease (later queue lease) other
        (filter_contains (λ x. is_before lease x) queue other h
        (before_or_after other lease b e)))

pub without_gone : (queue : List Lease) (lease : Lease)
    → Contains (without_lease queue lease) lease
    → ⊥
unfolding without_lease
without_gone queue lease h =
    let left = (contains_filter (λ x. not (is_same x lease)) queue lease h).1 in
    false≢true (sym (ap not (same_itself lease)) ∙ left)

pub without_others : (queue : List Lease) (lease other : Lease)
    → Contains (without_lease queue lease) other
    → Contains queue other
unfolding without_lease
without_others queue lease other h = (contains_filter (λ x. not (is_same x lease)) queue other h).0

pub without_kept : (queue : List Lease) (lease other : Lease)
    → other ≢ lease
    → Contains queue other
    → Contains (without_lease queue lease) other
unfolding without_lease
without_kept queue lease other differs h = by (is_same other lease) refl
  where
    by : (s : Bool) → is_same other lease ≡ s → Contains (without_lease queue lease) other
    by true e = absurd (differs (same_is other lease e))
    by false e = filter_contains (λ x. not (is_same x lease)) queue other h (ap not e)

-- ---- the keys of a map, put and taken

with_first : (x : Lease) (xs : List Lease) (lease : Lease)
    → IsAscending (x ∷ xs)
    → is_before lease x ≡ true
    → lease ∷ x ∷ xs ≡ with_lease (x ∷ xs) lease
unfolding with_lease IsAscending
with_first x xs lease up h =
    let behind =
    each_weaker (λ y. is_before x y ≡ true) (λ y. is_before lease y ≡ true)
    (λ y g. before_trans lease x y h g) xs up.0 in
    let none =
    filter_none (λ y. is_before y lease) xs
    (each_weaker (λ y. is_before lease y ≡ true) (λ y. is_before y lease ≡ false) (λ y g.
    not_before_back lease y g) xs behind) in
    let all = filter_all (λ y. is_before lease y) xs behind in
    rw (not_before_back lease x h, h, none, all) refl

pub without_first : (x : Lease) (xs : List Lease)
    → IsAscending (x ∷ xs)
    → without_lease (x ∷ xs) x ≡ xs
unfolding without_lease IsAscending
without_first x xs up =
    let all =
    filter_all (λ y. not (is_same y x)) xs
    (each_weaker (λ y. is_before x y ≡ true) (λ y. not (is_same y x) ≡ true) (λ y g. ap not
    (differs_back x y g)) xs up.0) in
    rw (same_itself x) all

module _ {X : Type 0} where
  pub keys_with : (v : X) (es : List (Lease × X)) (lease : Lease)
      → IsAscending (keys_of es)
      → keys_of (insert_entry lease_cmp es lease v) ≡ with_lease (keys_of es) lease
  unfolding with_lease IsAscending
  keys_with v [] lease up = refl
  keys_with v (e ∷ es) lease up =
      by (lease_cmp lease e.0) (ranked lease e.0) (keys_with v es lease up.1)
    where
      by : (r : Ordering)
          → MatchOrdering r (is_before lease e.0 ≡ true) (is_same lease e.0 ≡ true)
          (is_before e.0 lease ≡ true)
          → keys_of (insert_entry lease_cmp es lease v) ≡ with_lease (keys_of es) lease
          → keys_of (match_ordering r ((lease, v) ∷ e ∷ es) ((e.0, v) ∷ es)
          (e ∷ insert_entry lease_cmp es lease v))
          ≡ with_lease (e.0 ∷ keys_of es) lease
      by Less h more = with_first e.0 (keys_of es) lease up h
      by Equal h more =
          sym (with_same (e.0 ∷ keys_of es) lease up
          (subst (λ z. Contains (e.0 ∷ keys_of es) z) (sym (same_is lease e.0 h))
          (contains_first e.0 (keys_of es))))
      by Greater h more = rw (h, not_before_back e.0 lease h) (ap (λ rest. e.0 ∷ rest) more)

  pub keys_without : (es : List (Lease × X)) (lease : Lease)
      → IsAscending (keys_of es)
      → keys_of (remove_entry (is_at (lease_cmp lease)) es) ≡ without_lease (keys_of es) lease
  unfolding without_lease IsAscending
  keys_without [] lease up = refl
  keys_without (e ∷ es) lease up =
      by (lease_cmp lease e.0) (ranked lease e.0) (keys_without es lease up.1)
    where
      by : (r : Ordering)
          → MatchOrdering r (is_before lease e.0 ≡ true) (is_same lease e.0 ≡ true)
          (is_before e.0 lease ≡ true)
          → keys_of (remove_entry (is_at (lease_cmp lease)) es) ≡ without_lease (keys_of es) lease
          → keys_of (cond (is_eq r) es (e ∷ remove_entry (is_at (lease_cmp lease)) es))
          ≡ without_lease (e.0 ∷ keys_of es) lease
      by Less h more = rw (differs_back lease e.0 h) (ap (λ rest. e.0 ∷ rest) more)
      by Equal h more =
          subst (λ z. keys_of es ≡ without_lease (e.0 ∷ keys_of es) z) (sym (same_is lease e.0 h))
          (sym (without_first e.0 (keys_of es) up))
      by Greater h more = rw (before_differs e.0 lease h) (ap (λ rest. e.0 ∷ rest) more)

  pub keys_count : (es : List (Lease × X)) → length (keys_of es) ≡ length es
  keys_count [] = refl
  keys_count (e ∷ es) = ap suc (keys_count es)

-- ---- those that have lapsed stand in front

none_lapsed : (now : ℕ) (xs : List Lease)
    → AllByRecursion (λ y. has_lapsed now y ≡ false) xs
    → lapsed_at now xs ≡ []
unfolding lapsed_at
none_lapsed now xs h = rw (filter_none (λ y. has_lapsed now y) xs h) refl

not_lapsed : (now : ℕ) (x : Lease) (xs : List Lease)
    → IsAscending (x ∷ xs)
    → has_lapsed now x ≡ false
    → AllByRecursion (λ y. has_lapsed now y ≡ false) xs
unfolding IsAscending
not_lapsed now x xs up h =
    each_weaker (λ y. is_before x y ≡ true) (λ y. has_lapsed now y ≡ false)
    (λ y g. unlapsed_after now x y g h) xs up.0

-- where the first has not lapsed none has
pub lapsed_end : (now : ℕ) (x : Lease) (xs : List Lease)
    → IsAscending (x ∷ xs)
    → has_lapsed now x ≡ false
    → (lapsed_at now (x ∷ xs) ≡ []) × (lapsed_at now xs ≡ [])
lapsed_end now x xs up h = (
  none_lapsed now (x ∷ xs) (h, not_lapsed now x xs up h),
  none_lapsed now xs
      (not_lapsed now x xs up h),
)

pub lapsed_first : (now : ℕ) (x : Lease) (xs : List Lease)
    → has_lapsed now x ≡ true
    → lapsed_at now (x ∷ xs) ≡ x.number ∷ lapsed_at now xs
unfolding lapsed_at
lapsed_first now x xs h = rw h refl

pub unlapsed_first : (now : ℕ) (x : Lease) (xs : List Lease)
    → has_lapsed now x ≡ true
    → unlapsed_at now (x ∷ xs) ≡ unlapsed_at now xs
unfolding unlapsed_at
unlapsed_first now x xs h = rw h refl

pub unlapsed_end : (now : ℕ) (x : Lease) (xs : List Lease)
    → IsAscending (x ∷ xs)
    → has_lapsed now x ≡ false
    → unlapsed_at now (x ∷ xs) ≡ x ∷ xs
unfolding unlapsed_at
unlapsed_end now x xs up h =
    filter_all (λ y. not (has_lapsed now y)) (x ∷ xs)
    (each_weaker (λ y. has_lapsed now y ≡ false) (λ y. not (has_lapsed now y) ≡ true)
    (λ y g. ap not g) (x ∷ xs) (h, not_lapsed now x xs up h))

pub ascends_rest : (x : Lease) (xs : List Lease) → IsAscending (x ∷ xs) → IsAscending xs
unfolding IsAscending
ascends_rest x xs up = up.1

pub lapsed_empty : (now : ℕ) → lapsed_at now [] ≡ []
unfolding lapsed_at
lapsed_empty now = refl

pub unlapsed_empty : (now : ℕ) → unlapsed_at now [] ≡ []
unfolding unlapsed_at
unlapsed_empty now = refl

pub lapsed_within : (now : ℕ) (xs : List Lease) → length (lapsed_at now xs) ≤ length xs
unfolding lapsed_at
lapsed_within now [] = omega arith
lapsed_within now (x ∷ xs) = by (has_lapsed now x) (lapsed_within now xs)
  where
    by : (t : Bool)
        → length (lapsed_at now xs) ≤ length xs
        → length (map (λ y. y.number)
        (cond t (x ∷ filter (has_lapsed now) xs) (filter (has_lapsed now) xs)))
        ≤ suc (length xs)
    by true more = omega arith
    by false more = omega arith

-- ---- what a cursor says

pub none_holds : {X P : Type 0} (r : Option X) → P → IfNone r P
none_holds None p = p
none_holds (Some x) p = tt

pub numbers_on : (before : List ℕ) (number : ℕ) (after : List ℕ)
    → (before ++ number ∷ []) ++ after ≡ before ++ number ∷ after
numbers_on before number after = append_assoc before (number ∷ []) after

pub numbers_end : (before after : List ℕ) → after ≡ [] → before ≡ before ++ after
numbers_end before after end = sym (ap (λ more. before ++ more) end ∙ append-nil before)

-- what is left where the next lease has not lapsed, and where there is none
pub nothing_left : (now : ℕ) (x : Lease) (xs all : List Lease)
    → all ≡ x ∷ xs
    → IsAscending all
    → has_lapsed now x ≡ false
    → (lapsed_at now all ≡ []) × (unlapsed_at now all ≡ all)
nothing_left now x xs all is up h =
    let ascends = subst IsAscending is up in (
      ap (lapsed_at now) is
          ∙ (lapsed_end now x xs ascends h).0,
      ap (unlapsed_at now) is
          ∙ unlapsed_end now x xs ascends h
          ∙ sym is,
    )

pub none_left : (now : ℕ) (all : List Lease)
    → all ≡ []
    → (lapsed_at now all ≡ []) × (unlapsed_at now all ≡ all)
none_left now all is = (
  ap (lapsed_at now) is
      ∙ lapsed_empty now,
  ap (unlapsed_at now) is
      ∙ unlapsed_empty now
      ∙ sym is,
)
