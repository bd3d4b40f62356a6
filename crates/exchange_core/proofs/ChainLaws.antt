-- How exchanges are found: of each bucket the number of its latest, and of each exchange that of
-- the next older one in its bucket.
use Rattle.std.proofs.Common.{
  ◌≡◌,
  ◌≢◌,
  ℕ,
  ◌+◌,
  ◌-◌,
  ◌<◌,
  ◌≤◌,
  ◌^◌,
  ◌==◌,
  zero,
  suc,
  Bool,
  true,
  false,
  not,
  cond,
  List,
  [],
  ◌∷◌,
  ◌++◌,
  length,
  get_or,
  set,
  take,
  Option,
  Some,
  None,
  refl,
  sym,
  ap,
  ap₂,
  subst,
  ◌∙◌,
  eqb-true,
  lt-ltb,
  append_assoc,
  get_or-set_same,
  get_or-set_other,
  length-append,
  length-set,
  arith,
}
use Rattle.std.specs.List.{position, position_or_len, AllByRecursion}
use Rattle.std.proofs.lemmas.Bool.{false≢true, and_parts, le-ltb}
use Rattle.std.proofs.lemmas.List.{get_or_at}
use Rattle.rd_base.specs.declared.moments.Moment.{Moment}
use Rattle.rd_base.specs.declared.peers.Peer.{Peer}
use Rattle.rd_base.proofs.lemmas.Numbers.{eqb-refl}
use Rattle.rd_base.proofs.lemmas.Options.{some_same}
use Rattle.rd_base.proofs.lemmas.Each.{each_append}
use Rattle.event_model.specs.Same.{is_same_peer}
use Rattle.event_model.specs.Repeats.{Exchange}
use Rattle.event_model.proofs.SameLaws.{is_same_peer-Decides}
use Rattle.exchange_core.specs.Table.{is_with, is_admitted_at, is_sought}
use Rattle.exchange_core.specs.Buckets.{
  buckets,
  bucket_of,
  bucket,
  latest_in,
  Says,
  AreLinked,
  AreFoundBy,
}

-- ---- numbers

-- the latest of a bucket has the number of an exchange
latest_within : (first b : ℕ) (xs : List Exchange) (m : ℕ)
    → latest_in first b xs ≡ Some m
    → (first ≤ m) × (m < first + length xs)
unfolding latest_in
latest_within first b [] m e = absurd cc
latest_within first b (x ∷ before) m e = by (bucket x == b) e (latest_within first b before m)
  where
    by : (t : Bool)
        → cond t (Some (first + length before)) (latest_in first b before) ≡ Some m
        → (latest_in first b before ≡ Some m → (first ≤ m) × (m < first + length before))
        → (first ≤ m) × (m < first + length (x ∷ before))
    by true e more = let same = some_same e in (omega (arith, same), omega (arith, same))
    by false e more =
        let one = more e in let low = one.0 in let high = one.1 in (low, omega (arith, high))

-- what a number says is below the number of the next exchange
pub says_below : (first b n : ℕ) (xs : List Exchange)
    → Says first n (latest_in first b xs)
    → n < first + length xs
says_below first b n xs says = by (latest_in first b xs) refl says
  where
    by : (o : Option ℕ) → latest_in first b xs ≡ o → Says first n o → n < first + length xs
    by None e low = omega (arith, low)
    by (Some m) e same =
        let within = latest_within first b xs m e in
        let high = within.1 in omega (arith, same, high)

-- as many exchanges have the number of an older one
pub AreLinked-length : (first : ℕ) (ns : List ℕ) (xs : List Exchange)
    → AreLinked first ns xs
    → length ns ≡ length xs
unfolding AreLinked
AreLinked-length first [] [] linked = refl
AreLinked-length first [] (x ∷ xs) linked = absurd linked
AreLinked-length first (n ∷ ns) [] linked = absurd linked
AreLinked-length first (n ∷ ns) (x ∷ xs) linked =
    ap (λ k. suc k) (AreLinked-length first ns xs linked.1)

-- the same numbers of the same exchanges
pub AreFoundBy-same : {first first_now : ℕ} {latest latest_now older older_now : List ℕ}
    {xs ys : List Exchange}
    → first_now ≡ first
    → latest_now ≡ latest
    → older_now ≡ older
    → ys ≡ xs
    → AreFoundBy first latest older xs → AreFoundBy first_now latest_now older_now ys
AreFoundBy-same {first} {first_now} {latest} {latest_now} {older} {older_now} {xs} {ys} one two
    three four found =
    subst (λ (zs : List Exchange). AreFoundBy first_now latest_now older_now zs) (sym four)
    (subst (λ (ns : List ℕ). AreFoundBy first_now latest_now ns xs) (sym three)
    (subst (λ (ns : List ℕ). AreFoundBy first_now ns older xs) (sym two)
    (subst (λ k. AreFoundBy k latest older xs) (sym one) found)))

-- ---- none

pub AreFoundBy-none : (latest older : List ℕ)
    → length latest ≡ buckets
    → ((b : ℕ) → b < length latest → get_or latest b 0 ≡ 0)
    → older ≡ []
    → AreFoundBy 1 latest older []
unfolding latest_in AreLinked
AreFoundBy-none latest older many none empty = record {
  as_many = many;
  heads =
      λ b below. let zero_there = none b (omega (arith, many, below)) in omega (arith, zero_there);
  links = subst (λ (ns : List ℕ). AreLinked 1 ns []) (sym empty) tt;
  some = omega arith;
  counted = omega arith;
}

-- ---- one more

pub AreFoundBy-pushed : (first : ℕ) (latest older : List ℕ) (x : Exchange) (xs : List Exchange)
    → bucket x < buckets
    → first + length (x ∷ xs) < 2 ^ 64
    → AreFoundBy first latest older xs
    → AreFoundBy first (set latest (bucket x) (first + length xs))
    (get_or latest (bucket x) 0 ∷ older) (x ∷ xs)
unfolding latest_in AreLinked
AreFoundBy-pushed first latest older x xs within counted found = record {
  as_many = length-set latest (bucket x) (first + length xs) ∙ found.as_many;
  heads = λ b below. by b below (bucket x == b) refl;
  links = (found.heads (bucket x) within, found.links);
  some = found.some;
  counted = counted;
}
  where
    by : (b : ℕ) → b < buckets → (t : Bool) → (bucket x == b) ≡ t
        → Says first (get_or (set latest (bucket x) (first + length xs)) b 0)
        (cond t (Some (first + length xs)) (latest_in first b xs))
    by b below true e =
        let many = found.as_many in
        subst (λ k. get_or (set latest (bucket x) (first + length xs)) k 0 ≡ first + length xs)
        (eqb-true (bucket x) b e)
        (get_or-set_same latest (bucket x) (first + length xs) 0 (omega (arith, many, within)))
    by b below false e =
        subst (λ k. Says first k (latest_in first b xs))
        (sym (get_or-set_other latest (bucket x) b (first + length xs) 0
        (λ same. false≢true
        (sym e ∙ (ap (λ k. bucket x == k) same ∙ eqb-refl (bucket x))))))
        (found.heads b below)

-- ---- the oldest is gone

-- what a number says without it
says_popped : (first b n : ℕ) (xs : List Exchange) (y : Exchange)
    → Says first n (latest_in first b (xs ++ y ∷ []))
    → Says (first + 1) n (latest_in (first + 1) b xs)
unfolding latest_in
says_popped first b n [] y says = by (bucket y == b) says
  where
    by : (t : Bool) → Says first n (cond t (Some (first + 0)) None) → n < first + 1
    by true same = omega (arith, same)
    by false low = omega (arith, low)
says_popped first b n (x ∷ xs) y says = by (bucket x == b) says (says_popped first b n xs y)
  where
    by : (t : Bool)
        → Says first n
        (cond t (Some (first + length (xs ++ y ∷ []))) (latest_in first b (xs ++ y ∷ [])))
        → (Says first n (latest_in first b (xs ++ y ∷ []))
        → Says (first + 1) n (latest_in (first + 1) b xs))
        → Says (first + 1) n (cond t (Some (first + 1 + length xs)) (latest_in (first + 1) b xs))
    by true same more = let many = length-append xs (y ∷ []) in omega (arith, same, many)
    by false says more = more says

links_popped : (first : ℕ) (ns : List ℕ) (xs : List Exchange) (y : Exchange)
    → AreLinked first ns (xs ++ y ∷ [])
    → AreLinked (first + 1) (take (length xs) ns) xs
unfolding AreLinked
links_popped first [] [] y linked = absurd linked
links_popped first (n ∷ ns) [] y linked = tt
links_popped first [] (x ∷ xs) y linked = absurd linked
links_popped first (n ∷ ns) (x ∷ xs) y linked =
    (says_popped first (bucket x) n xs y linked.0, links_popped first ns xs y linked.1)

pub AreFoundBy-popped : (first : ℕ) (latest older : List ℕ) (xs : List Exchange) (y : Exchange)
    → AreFoundBy first latest older (xs ++ y ∷ [])
    → AreFoundBy (first + 1) latest (take (length older - 1) older) xs
AreFoundBy-popped first latest older xs y found =
    let many : length older ≡ length (xs ++ y ∷ []) =
    AreLinked-length first older (xs ++ y ∷ []) found.links in
    let one_more : length (xs ++ y ∷ []) ≡ length xs + 1 = length-append xs (y ∷ []) in
    let fewer : length xs ≡ length older - 1 = omega (arith, many, one_more) in
    let counted = found.counted in
    let some = found.some in record {
      as_many = found.as_many;
      heads = λ b below. says_popped first b (get_or latest b 0) xs y (found.heads b below);
      links =
          subst (λ k. AreLinked (first + 1) (take k older) xs) fewer
          (links_popped first older xs y found.links);
      some = omega (arith, some);
      counted = omega (arith, counted, one_more);
    }

-- ---- the search from the latest of a bucket on

-- a test that only exchanges of a bucket pass
abbrev pub IsOf : ℕ → (Exchange → Bool) → Type 0
IsOf b test = (x : Exchange) → test x ≡ true → bucket x ≡ b

-- the search has come to a number: the exchanges that are newer fail the test, and it says which is
-- the latest of the bucket among the others
pub record CameTo (first b n : ℕ) (test : Exchange → Bool) (xs : List Exchange) : Type 0 where
  pub newer : List Exchange
  pub others : List Exchange
  pub whole : xs ≡ newer ++ others
  pub failing : AllByRecursion (λ x. test x ≡ false) newer
  pub says : Says first n (latest_in first b others)

-- it is the number of an exchange of the bucket, and those that are newer fail the test
pub record IsAt (first b n : ℕ) (test : Exchange → Bool) (xs : List Exchange) : Type 0 where
  pub newer : List Exchange
  pub here : Exchange
  pub before : List Exchange
  pub whole : xs ≡ newer ++ here ∷ before
  pub failing : AllByRecursion (λ x. test x ≡ false) newer
  pub of_bucket : bucket here ≡ b
  pub number : n ≡ first + length before

-- what is of another bucket fails
other_fails : (b : ℕ) (test : Exchange → Bool) (x : Exchange)
    → IsOf b test
    → (bucket x == b) ≡ false
    → test x ≡ false
other_fails b test x of differs = by (test x) refl
  where
    by : (t : Bool) → test x ≡ t → t ≡ false
    by true e = absurd (false≢true (sym differs ∙ (ap (λ k. k == b) (of x e) ∙ eqb-refl b)))
    by false e = refl

-- a number that says one is at it
at_latest : (first b n : ℕ) (test : Exchange → Bool) (xs : List Exchange)
    → IsOf b test
    → first ≤ n
    → Says first n (latest_in first b xs)
    → IsAt first b n test xs
unfolding latest_in
at_latest first b n test [] of low says = absurd (omega (arith, low, says))
at_latest first b n test (x ∷ xs) of low says =
    by (bucket x == b) refl says (at_latest first b n test xs of low)
  where
    by : (t : Bool)
        → (bucket x == b) ≡ t
        → Says first n (cond t (Some (first + length xs)) (latest_in first b xs))
        → (Says first n (latest_in first b xs) → IsAt first b n test xs)
        → IsAt first b n test (x ∷ xs)
    by true e same more = record {
      newer = [];
      here = x;
      before = xs;
      whole = refl;
      failing = tt;
      of_bucket = eqb-true (bucket x) b e;
      number = same;
    }
    by false e says more =
        let it = more says in
        record {
          newer = x ∷ it.newer;
          here = it.here;
          before = it.before;
          whole = ap (λ ys. x ∷ ys) it.whole;
          failing = (other_fails b test x of e, it.failing);
          of_bucket = it.of_bucket;
          number = it.number;
        }

-- where it says none, none passes the test
none_left : (first b n : ℕ) (test : Exchange → Bool) (xs : List Exchange)
    → IsOf b test
    → n < first
    → Says first n (latest_in first b xs)
    → AllByRecursion (λ x. test x ≡ false) xs
unfolding latest_in
none_left first b n test [] of low says = tt
none_left first b n test (x ∷ xs) of low says =
    by (bucket x == b) refl says (none_left first b n test xs of low)
  where
    by : (t : Bool)
        → (bucket x == b) ≡ t
        → Says first n (cond t (Some (first + length xs)) (latest_in first b xs))
        → (Says first n (latest_in first b xs) → AllByRecursion (λ y. test y ≡ false) xs)
        → AllByRecursion (λ y. test y ≡ false) (x ∷ xs)
    by true e same more = absurd (omega (arith, low, same))
    by false e says more = (other_fails b test x of e, more says)

-- the search begins at the latest of the bucket
pub CameTo-latest : (first b n : ℕ) (test : Exchange → Bool) (xs : List Exchange)
    → Says first n (latest_in first b xs)
    → CameTo first b n test xs
CameTo-latest first b n test xs says = record {
  newer = [];
  others = xs;
  whole = refl;
  failing = tt;
  says = says;
}

pub IsAt-CameTo : (first b n : ℕ) (test : Exchange → Bool) (xs : List Exchange)
    → IsOf b test
    → first ≤ n
    → CameTo first b n test xs
    → IsAt first b n test xs
IsAt-CameTo first b n test xs of low came =
    let it = at_latest first b n test came.others of low came.says in record {
      newer = came.newer ++ it.newer;
      here = it.here;
      before = it.before;
      whole =
          came.whole
          ∙ (ap (λ ys. came.newer ++ ys) it.whole
          ∙ sym (append_assoc came.newer it.newer (it.here ∷ it.before)));
      failing = each_append (λ x. test x ≡ false) came.newer it.newer came.failing it.failing;
      of_bucket = it.of_bucket;
      number = it.number;
    }

-- the index of an exchange by its number
pub IsAt-index : (first b n : ℕ) (test : Exchange → Bool) (xs : List Exchange)
    (it : IsAt first b n test xs)
    → first + length xs - 1 - n ≡ length it.newer
IsAt-index first b n test xs it =
    let whole = ap length it.whole in
    let parts = length-append it.newer (it.here ∷ it.before) in
    let number = it.number in
    omega (arith, whole, parts, number)

pub IsAt-here : (first b n i : ℕ) (d : Exchange) (test : Exchange → Bool) (xs : List Exchange)
    (it : IsAt first b n test xs)
    → i ≡ first + length xs - 1 - n
    → get_or xs i d ≡ it.here
IsAt-here first b n i d test xs it at =
    ap (λ ys. get_or ys i d) it.whole
    ∙ get_or_at it.newer it.here it.before d i (sym (IsAt-index first b n test xs it) ∙ sym at)

-- its index is within
pub IsAt-within : (first b n : ℕ) (test : Exchange → Bool) (xs : List Exchange)
    → IsAt first b n test xs
    → first + length xs - 1 - n < length xs
IsAt-within first b n test xs it =
    let whole = ap length it.whole in
    let parts = length-append it.newer (it.here ∷ it.before) in
    let at = IsAt-index first b n test xs it in
    omega (arith, whole, parts, at)

-- the number of the next older one
linked_at : (first : ℕ) (ns : List ℕ) (newer : List Exchange) (x : Exchange)
    (before : List Exchange)
    → AreLinked first ns (newer ++ x ∷ before)
    → Says first (get_or ns (length newer) 0) (latest_in first (bucket x) before)
unfolding AreLinked
linked_at first [] [] x before linked = absurd linked
linked_at first (n ∷ ns) [] x before linked = linked.0
linked_at first [] (y ∷ ys) x before linked = absurd linked
linked_at first (n ∷ ns) (y ∷ ys) x before linked = linked_at first ns ys x before linked.1

says_older : (first b n i : ℕ) (test : Exchange → Bool) (older : List ℕ) (xs : List Exchange)
    (it : IsAt first b n test xs)
    → i ≡ first + length xs - 1 - n
    → AreLinked first older xs
    → Says first (get_or older i 0) (latest_in first b it.before)
says_older first b n i test older xs it at linked =
    subst (λ k. Says first (get_or older k 0) (latest_in first b it.before))
    (sym (at ∙ IsAt-index first b n test xs it))
    (subst (λ k. Says first (get_or older (length it.newer) 0) (latest_in first k it.before))
    it.of_bucket
    (linked_at first older it.newer it.here it.before
    (subst (AreLinked first older) it.whole linked)))

-- where that exchange fails, the search goes on at the next older one
pub CameTo-older : (first b n i : ℕ) (d : Exchange) (test : Exchange → Bool) (older : List ℕ)
    (xs : List Exchange)
    → IsAt first b n test xs
    → i ≡ first + length xs - 1 - n
    → test (get_or xs i d) ≡ false
    → AreLinked first older xs
    → CameTo first b (get_or older i 0) test xs
CameTo-older first b n i d test older xs it at fails linked = record {
  newer = it.newer ++ it.here ∷ [];
  others = it.before;
  whole = it.whole ∙ sym (append_assoc it.newer (it.here ∷ []) it.before);
  failing =
      each_append (λ x. test x ≡ false) it.newer (it.here ∷ []) it.failing
      (ap test (sym (IsAt-here first b n i d test xs it at)) ∙ fails, tt);
  says = says_older first b n i test older xs it at linked;
}

-- whose number is smaller
pub older_below : (first b n i : ℕ) (test : Exchange → Bool) (older : List ℕ) (xs : List Exchange)
    → IsAt first b n test xs
    → i ≡ first + length xs - 1 - n
    → AreLinked first older xs
    → get_or older i 0 < n
older_below first b n i test older xs it at linked =
    let below =
    says_below first b (get_or older i 0) it.before
    (says_older first b n i test older xs it at linked) in
    let number = it.number in
    omega (arith, below, number)

-- ---- what the search gives

position_front : (test : Exchange → Bool) (newer : List Exchange) (x : Exchange)
    (before : List Exchange)
    → AllByRecursion (λ y. test y ≡ false) newer
    → test x ≡ true
    → position_or_len test (newer ++ x ∷ before) ≡ length newer
position_front test [] x before failing it = rw it refl
position_front test (y ∷ ys) x before failing it =
    let first : test y ≡ false = failing.0 in
    let rest = position_front test ys x before failing.1 it in
    rw first (omega (arith, rest))

position_past : (test : Exchange → Bool) (xs : List Exchange)
    → AllByRecursion (λ y. test y ≡ false) xs
    → position_or_len test xs ≡ length xs
position_past test [] failing = refl
position_past test (y ∷ ys) failing =
    let first : test y ≡ false = failing.0 in
    let rest = position_past test ys failing.1 in
    rw first (omega (arith, rest))

-- the exchange that it is at, where that passes
pub position-IsAt : (first b n i : ℕ) (d : Exchange) (test : Exchange → Bool) (xs : List Exchange)
    → IsAt first b n test xs
    → i ≡ first + length xs - 1 - n
    → test (get_or xs i d) ≡ true
    → Some i ≡ position test xs
position-IsAt first b n i d test xs it at passes =
    let here : test it.here ≡ true =
    ap test (sym (IsAt-here first b n i d test xs it at)) ∙ passes in
    let index : position_or_len test xs ≡ i =
    ap (position_or_len test) it.whole
    ∙ (position_front test it.newer it.here it.before it.failing here ∙ (sym (IsAt-index first b
    n test xs it) ∙ sym at)) in
    let within = IsAt-within first b n test xs it in
    rw index (rw (lt-ltb i (length xs) (omega (arith, at, within))) refl)

-- nothing, where there is none
pub position-CameTo : (first b n : ℕ) (test : Exchange → Bool) (xs : List Exchange)
    → IsOf b test
    → n < first
    → CameTo first b n test xs
    → None ≡ position test xs
position-CameTo first b n test xs of low came =
    let failing : AllByRecursion (λ x. test x ≡ false) xs =
    subst (AllByRecursion (λ x. test x ≡ false)) (sym came.whole)
    (each_append (λ x. test x ≡ false) came.newer came.others came.failing (none_left first b n
    test came.others of low came.says)) in
    let index : position_or_len test xs ≡ length xs = position_past test xs failing in
    rw index (rw (le-ltb (length xs) (length xs) (omega arith)) refl)

-- ---- what is sought is of one bucket

with_of_bucket : (peer : Peer) (mid : ℕ) (x : Exchange)
    → is_with peer mid x ≡ true
    → bucket x ≡ bucket_of peer mid
with_of_bucket peer mid x it =
    let both = and_parts (is_same_peer x.peer peer) (x.mid == mid) it in
    ap₂ (λ p m. bucket_of p m) ((is_same_peer-Decides x.peer peer).0 both.0)
    (eqb-true x.mid mid both.1)

pub sought_of_bucket : (peer : Peer) (mid : ℕ) (admitted : Option Moment)
    → IsOf (bucket_of peer mid) (is_sought peer mid admitted)
sought_of_bucket peer mid None x it = with_of_bucket peer mid x it
sought_of_bucket peer mid (Some moment) x it =
    with_of_bucket peer mid x (and_parts (is_with peer mid x) (x.moment == moment.0) it).0

-- ---- an exchange in the place of another of its bucket

latest_set : (first b : ℕ) (xs : List Exchange) (i : ℕ) (x d : Exchange)
    → i < length xs
    → bucket x ≡ bucket (get_or xs i d)
    → latest_in first b (set xs i x) ≡ latest_in first b xs
unfolding latest_in
latest_set first b [] i x d within same = refl
latest_set first b (y ∷ ys) zero x d within same =
    ap (λ k. cond (k == b) (Some (first + length ys)) (latest_in first b ys)) same
latest_set first b (y ∷ ys) (suc i) x d within same =
    ap₂ (λ n o. cond (bucket y == b) (Some (first + n)) o) (length-set ys i x)
    (latest_set first b ys i x d (omega (arith, within)) same)

links_set : (first : ℕ) (ns : List ℕ) (xs : List Exchange) (i : ℕ) (x d : Exchange)
    → i < length xs
    → bucket x ≡ bucket (get_or xs i d)
    → AreLinked first ns xs
    → AreLinked first ns (set xs i x)
unfolding AreLinked
links_set first ns [] i x d within same linked = absurd (omega (arith, within))
links_set first [] (y ∷ ys) i x d within same linked = absurd linked
links_set first (n ∷ ns) (y ∷ ys) zero x d within same linked =
    (subst (λ k. Says first n (latest_in first k ys)) (sym same) linked.0, linked.1)
links_set first (n ∷ ns) (y ∷ ys) (suc i) x d within same linked = (
  subst (Says first n) (sym (latest_set first (bucket y) ys i x d (omega (arith, within)) same))
      linked.0,
  links_set first ns ys i x d (omega (arith, within)) same linked.1,
)

pub AreFoundBy-set : (first : ℕ) (latest older : List ℕ) (xs : List Exchange) (i : ℕ)
    (x d : Exchange)
    → i < length xs
    → bucket x ≡ bucket (get_or xs i d)
    → AreFoundBy first latest older xs
    → AreFoundBy first latest older (set xs i x)
AreFoundBy-set first latest older xs i x d within same found =
    let counted = found.counted in
    let many = length-set xs i x in record {
      as_many = found.as_many;
      heads =
          λ b below.
          subst (Says first (get_or latest b 0)) (sym (latest_set first b xs i x d within same))
          (found.heads b below);
      links = links_set first older xs i x d within same found.links;
      some = found.some;
      counted = omega (arith, counted, many);
    }

-- ---- a step of the search, by the number of the next exchange

pub record IsStep (first b n next : ℕ) (test : Exchange → Bool) (older : List ℕ)
    (xs : List Exchange) : Type 0 where
  pub it : IsAt first b n test xs
  pub index : next - 1 - n ≡ first + length xs - 1 - n
  pub below : n ≤ next - 1
  pub within : next - 1 - n < length xs
  pub within_older : next - 1 - n < length older

pub CameTo-IsStep : (first b n next : ℕ) (test : Exchange → Bool) (older : List ℕ)
    (xs : List Exchange)
    → IsOf b test
    → AreLinked first older xs
    → next ≡ first + length older
    → first ≤ n
    → CameTo first b n test xs
    → IsStep first b n next test older xs
CameTo-IsStep first b n next test older xs of linked last low came =
    let it = IsAt-CameTo first b n test xs of low came in
    let many = AreLinked-length first older xs linked in
    let inside = IsAt-within first b n test xs it in
    let same : next - 1 - n ≡ first + length xs - 1 - n = omega (arith, last, many) in
    let number = it.number in
    let whole = ap length it.whole in
    let parts = length-append it.newer (it.here ∷ it.before) in record {
      it = it;
      index = same;
      below = omega (arith, last, many, number, whole, parts);
      within = omega (arith, same, inside);
      within_older = omega (arith, same, inside, many);
    }
