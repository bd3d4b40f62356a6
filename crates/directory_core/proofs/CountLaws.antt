-- How many records are live, and what they weigh, by what has lapsed.
use Rattle.std.proofs.Common.{
  ◌≡◌,
  ℕ,
  ◌+◌,
  ◌-◌,
  ◌<◌,
  ◌≤◌,
  max,
  ◌&&◌,
  nat_lt,
  nat_le,
  Bool,
  true,
  false,
  cond,
  List,
  [],
  ◌∷◌,
  map,
  filter,
  length,
  sum_by,
  Option,
  Some,
  None,
  refl,
  ap,
  ap₂,
  ◌∙◌,
  arith,
  ltb-true,
}
use Rattle.std.specs.List.{AllByRecursion}
use Rattle.std.proofs.lemmas.Bool.{ltb-false, leb-true, leb-false}
use Rattle.std.proofs.lemmas.List.Sums.{sum_by-cons}
use Rattle.rd_base.specs.declared.records.Record.{Record}
use Rattle.rd_base.proofs.lemmas.Pairs.{PairsByRecursion}
use Rattle.record_model.specs.ListingLines.{weight}
use Rattle.history_model.specs.Leases.{lapse, is_live_at, live_among, lapsing_among, lapsed_between}
use Rattle.history_model.specs.Refusals.{text_of}
use Rattle.history_model.specs.Replay.{numbered}
use Rattle.history_model.proofs.NumberLaws.{IsBelow}
use Rattle.lease_queue.specs.Leases.{lapsed_at}
use Rattle.directory_core.specs.declared.counts.Counts.{Counts}
use Rattle.directory_core.specs.LapseOrder.{in_order_of_lapse}
use Rattle.directory_core.specs.LiveCounts.{counts_of, without_lapse, without_lapses}
use Rattle.history_model.specs.Versions.{Version}
use Rattle.lease_queue.specs.declared.leases.Lease.{Lease}
use Rattle.directory_core.specs.declared.names.NameSlot.{NameSlot}
use Rattle.directory_core.specs.Shown.{counted_at, IsKept, leases_of}
use Rattle.directory_core.proofs.InOrderLaws.{each_in_order, sum_in_order}
use Rattle.directory_core.proofs.SlotLaws.{all_numbered}
use Rattle.directory_core.proofs.LeaseLaws.{lapsed-leases}

pub lapses_first : (from : ℕ) (records : List Record) (counts : Counts) (n : ℕ) (numbers : List ℕ)
    → without_lapses from records counts (n ∷ numbers)
    ≡ without_lapses from records (without_lapse from counts (numbered n records)) numbers
unfolding without_lapses
lapses_first from records counts n numbers = refl

pub lapses_end : (from : ℕ) (records : List Record) (counts : Counts)
    → without_lapses from records counts [] ≡ counts
unfolding without_lapses
lapses_end from records counts = refl

-- ---- what is lost

-- one record that was live, and what it weighs
abbrev lost : ℕ → Option Record → ℕ
lost from None = 0
lost from (Some r) = cond (is_live_at from r) 1 0

abbrev lost_text : ℕ → Option Record → ℕ
lost_text from None = 0
lost_text from (Some r) = cond (is_live_at from r) (weight r) 0

abbrev counts : ℕ → ℕ → Counts
counts live text = record { live = live; text = text }

lapse_loses : (from : ℕ) (c : Counts) (o : Option Record)
    → without_lapse from c o ≡ counts (c.live - lost from o) (c.text - lost_text from o)
lapse_loses from c None = ap₂ counts (omega arith) (omega arith)
lapse_loses from c (Some r) = by (is_live_at from r)
  where
    by : (b : Bool)
        → cond b (counts (c.live - 1) (c.text - weight r)) c
        ≡ counts (c.live - cond b 1 0) (c.text - cond b (weight r) 0)
    by true = refl
    by false = ap₂ counts (omega arith) (omega arith)

lapses_lose : (from : ℕ) (records : List Record) (c : Counts) (ns : List ℕ)
    → without_lapses from records c ns
    ≡ counts (c.live - sum_by (λ n. lost from (numbered n records)) ns)
    (c.text - sum_by (λ n. lost_text from (numbered n records)) ns)
lapses_lose from records c [] = lapses_end from records c ∙ ap₂ counts (omega arith) (omega arith)
lapses_lose from records c (n ∷ ns) =
    let o = numbered n records in
    let here = lapse_loses from c o in
    let live = ap (λ (x : Counts). x.live) here in
    let text = ap (λ (x : Counts). x.text) here in
    let more_live = sum_by-cons (λ k. lost from (numbered k records)) n ns in
    let more_text = sum_by-cons (λ k. lost_text from (numbered k records)) n ns in
    lapses_first from records c n ns ∙ lapses_lose from records (without_lapse from c o) ns
    ∙ ap₂ counts (omega (arith, live, more_live)) (omega (arith, text, more_text))

-- the sum over the numbers of records that are found by them
sum_found : (g : Option Record → ℕ) (records : List Record) (p : Record → Bool) (xs : List Record)
    → AllByRecursion (λ x. numbered x.number records ≡ Some x) xs
    → sum_by (λ n. g (numbered n records)) (map (λ r. r.number) (filter p xs))
    ≡ sum_by (λ x. cond (p x) (g (Some x)) 0) xs
sum_found g records p [] found = refl
sum_found g records p (x ∷ xs) found = by (p x) refl (sum_found g records p xs found.1)
  where
    by : (b : Bool)
        → p x ≡ b
        → sum_by (λ n. g (numbered n records)) (map (λ r. r.number) (filter p xs))
        ≡ sum_by (λ x. cond (p x) (g (Some x)) 0) xs
        → sum_by (λ n. g (numbered n records))
        (map (λ r. r.number) (cond b (x ∷ filter p xs) (filter p xs)))
        ≡ sum_by (λ x. cond (p x) (g (Some x)) 0) (x ∷ xs)
    by true e more =
        let one =
        sum_by-cons (λ n. g (numbered n records)) x.number
        (map (λ r. r.number) (filter p xs)) in
        let two = sum_by-cons (λ x. cond (p x) (g (Some x)) 0) x xs in
        let here : g (numbered x.number records) ≡ g (Some x) = ap g found.0 in
        let there : cond (p x) (g (Some x)) 0 ≡ g (Some x) = rw e refl in
        omega (arith, one, two, here, there, more)
    by false e more =
        let two = sum_by-cons (λ x. cond (p x) (g (Some x)) 0) x xs in
        let there : cond (p x) (g (Some x)) 0 ≡ 0 = rw e refl in
        omega (arith, two, there, more)

-- what was live at a moment is live at a later one, or has lapsed since
left_of : (f : Record → ℕ) (from now : ℕ) (rs : List Record) → from ≤ now
    → sum_by f (live_among from rs)
    ≡ sum_by (λ x. cond (nat_le (lapse x) now) (cond (is_live_at from x) (f x) 0) 0) rs
    + sum_by f (live_among now rs)
left_of f from now [] order = refl
left_of f from now (r ∷ rs) order =
    by (is_live_at from r) (nat_le (lapse r) now) (is_live_at now r) refl refl refl
    (left_of f from now rs order)
  where
    clash : (a b c : ℕ) → nat_lt a c ≡ false → nat_lt b c ≡ true → a ≤ b → ⊥
    clash a b c p q order = let low = ltb-false _ _ p in let high = ltb-true _ _ q in omega arith

    apart : (c b : ℕ) → nat_le c b ≡ true → nat_lt b c ≡ true → ⊥
    apart c b p q = let low = leb-true _ _ p in let high = ltb-true _ _ q in omega arith

    gap : (c b : ℕ) → nat_le c b ≡ false → nat_lt b c ≡ false → ⊥
    gap c b p q = let low = leb-false _ _ p in let high = ltb-false _ _ q in omega arith

    by : (l e n : Bool) → is_live_at from r ≡ l → nat_le (lapse r) now ≡ e → is_live_at now r ≡ n
        → sum_by f (live_among from rs)
        ≡ sum_by (λ x. cond (nat_le (lapse x) now) (cond (is_live_at from x) (f x) 0) 0) rs
        + sum_by f (live_among now rs)
        → sum_by f (cond l (r ∷ live_among from rs) (live_among from rs))
        ≡ sum_by (λ x. cond (nat_le (lapse x) now) (cond (is_live_at from x) (f x) 0) 0)
        (r ∷ rs)
        + sum_by f (cond n (r ∷ live_among now rs) (live_among now rs))
    by l true true el ee en more = absurd (apart (lapse r) now ee en)
    by l false false el ee en more = absurd (gap (lapse r) now ee en)
    by false false true el ee en more = absurd (clash from now (lapse r) el en order)
    by true true false el ee en more =
        let one = sum_by-cons f r (live_among from rs) in
        let two =
        sum_by-cons (λ x. cond (nat_le (lapse x) now) (cond (is_live_at from x) (f x) 0) 0) r
        rs in
        let here : cond (nat_le (lapse r) now) (cond (is_live_at from r) (f r) 0) 0 ≡ f r =
        rw (ee, el) refl in
        omega (arith, one, two, here, more)
    by true false true el ee en more =
        let one = sum_by-cons f r (live_among from rs) in
        let two =
        sum_by-cons (λ x. cond (nat_le (lapse x) now) (cond (is_live_at from x) (f x) 0) 0) r
        rs in
        let three = sum_by-cons f r (live_among now rs) in
        let here : cond (nat_le (lapse r) now) (cond (is_live_at from r) (f r) 0) 0 ≡ 0 =
        rw ee refl in
        omega (arith, one, two, three, here, more)
    by false true false el ee en more =
        let two =
        sum_by-cons (λ x. cond (nat_le (lapse x) now) (cond (is_live_at from x) (f x) 0) 0) r
        rs in
        let here : cond (nat_le (lapse r) now) (cond (is_live_at from r) (f r) 0) 0 ≡ 0 =
        rw (ee, el) refl in
        omega (arith, two, here, more)

pub ones : (rs : List Record) → sum_by (λ (r : Record). 1) rs ≡ length rs
ones [] = refl
ones (r ∷ rs) =
    let one = sum_by-cons (λ (x : Record). 1) r rs in let more = ones rs in omega (arith, one, more)

-- what the numbers of the lapsed leases lose, is what the lapsed records lose
lost_by : (g : Option Record → ℕ) (now : ℕ) (rs : List Record) → PairsByRecursion IsBelow rs
    → sum_by (λ n. g (numbered n rs)) (lapsed_at now (leases_of rs))
    ≡ sum_by (λ x. cond (nat_le (lapse x) now) (g (Some x)) 0) rs
lost_by g now rs up =
    ap (λ (ns : List ℕ). sum_by (λ n. g (numbered n rs)) ns)
    (lapsed-leases now (in_order_of_lapse rs))
    ∙ sum_found g rs (λ r. nat_le (lapse r) now) (in_order_of_lapse rs)
    (each_in_order lapse (λ x. numbered x.number rs ≡ Some x) rs (all_numbered rs up))
    ∙ sum_in_order lapse (λ x. cond (nat_le (lapse x) now) (g (Some x)) 0) rs

-- the counts at a moment, by what has lapsed since an earlier one
pub counts-lapsed : (from now : ℕ) (rs : List Record) → from ≤ now → PairsByRecursion IsBelow rs
    → without_lapses from rs (counts_of (live_among from rs)) (lapsed_at now (leases_of rs))
    ≡ counts_of (live_among now rs)
counts-lapsed from now rs order up =
    let ns = lapsed_at now (leases_of rs) in
    let live_lost = lost_by (lost from) now rs up in
    let text_lost = lost_by (lost_text from) now rs up in
    let live = left_of (λ (r : Record). 1) from now rs order in
    let text = left_of weight from now rs order in
    let before = ones (live_among from rs) in
    let after = ones (live_among now rs) in
    lapses_lose from rs (counts_of (live_among from rs)) ns
    ∙ ap₂ counts (omega (arith, live_lost, live, before, after)) (omega (arith, text_lost, text))

-- no more are live later
pub fewer_live : (from now : ℕ) (rs : List Record)
    → from ≤ now
    → length (live_among now rs) ≤ length (live_among from rs)
fewer_live from now rs order =
    let live = left_of (λ (r : Record). 1) from now rs order in
    let before = ones (live_among from rs) in
    let after = ones (live_among now rs) in
    omega (arith, live, before, after)

pub less_text : (from now : ℕ) (rs : List Record)
    → from ≤ now
    → text_of (live_among now rs) ≤ text_of (live_among from rs)
less_text from now rs order = let text = left_of weight from now rs order in omega (arith, text)

-- of records that lapse after a sweep, so many lapse between a moment and a later one
pub lapsed_counted : (at swept now : ℕ) (rs : List Record)
    → at ≤ now
    → swept ≤ now
    → AllByRecursion (λ r. swept < lapse r) rs
    → length (live_among (max at swept) rs) ≡ lapsed_between at now rs + length (live_among now rs)
lapsed_counted at swept now [] a b unswept = refl
lapsed_counted at swept now (r ∷ rs) a b unswept =
    by (is_live_at (max at swept) r) (nat_lt at (lapse r)) (nat_le (lapse r) now) (is_live_at now r)
    refl refl refl refl (lapsed_counted at swept now rs a b unswept.1)
  where
    above : swept < lapse r
    above = unswept.0

    by : (l f e n : Bool)
        → is_live_at (max at swept) r ≡ l
        → nat_lt at (lapse r) ≡ f
        → nat_le (lapse r) now ≡ e
        → is_live_at now r ≡ n
        → length (live_among (max at swept) rs)
        ≡ lapsed_between at now rs + length (live_among now rs)
        → length (cond l (r ∷ live_among (max at swept) rs) (live_among (max at swept) rs))
        ≡ length (cond (f && e) (r ∷ lapsing_among at now rs) (lapsing_among at now rs))
        + length (cond n (r ∷ live_among now rs) (live_among now rs))
    by l f true true el ef ee en more =
        let low = leb-true _ _ ee in
        let high : now < lapse r = ltb-true _ _ en in absurd (omega arith)
    by l f false false el ef ee en more =
        let low = leb-false _ _ ee in let high = ltb-false _ _ en in absurd (omega arith)
    by true true true false el ef ee en more = omega (arith, more)
    by true true false true el ef ee en more = omega (arith, more)
    by true false e n el ef ee en more =
        let low = ltb-false _ _ ef in
        let high : max at swept < lapse r = ltb-true _ _ el in absurd (omega arith)
    by false true e n el ef ee en more =
        let low = ltb-false _ _ el in
        let high : at < lapse r = ltb-true _ _ ef in let over = above in absurd (omega arith)
    by false false true false el ef ee en more = omega (arith, more)
    by false false false true el ef ee en more =
        let low = ltb-false _ _ ef in
        let high : now < lapse r = ltb-true _ _ en in absurd (omega arith)

-- the counts of a version at a moment, as they are taken
pub counts-of_version : (v : Version) (records : List Record) (names : List NameSlot)
    (leases : List Lease) (count sum from now : ℕ) (lapsed : List ℕ)
    → IsKept v names leases count sum
    → v.at ≤ now
    → v.swept ≤ now
    → records ≡ v.records
    → from ≡ counted_at v
    → lapsed ≡ lapsed_at now leases
    → (result : Counts)
    → result ≡ without_lapses from records (counts count sum) lapsed
    → result ≡ counts_of (live_among now v.records)
counts-of_version v records names leases count sum from now lapsed k a b same at gone result is =
    let before : counts count sum ≡ counts_of (live_among (counted_at v) v.records) =
    ap₂ counts k.live k.text in
    is ∙ ap (λ m. without_lapses m records (counts count sum) lapsed) at
    ∙ ap (λ rs. without_lapses (counted_at v) rs (counts count sum) lapsed) same
    ∙ ap (λ c. without_lapses (counted_at v) v.records c lapsed) before
    ∙ ap (λ ns.
    without_lapses (counted_at v) v.records
    (counts_of (live_among (counted_at v) v.records)) ns)
    (gone ∙ ap (lapsed_at now) k.leased)
    ∙ counts-lapsed (counted_at v) now v.records (omega arith) k.rising
