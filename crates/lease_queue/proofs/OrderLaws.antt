-- The order of leases is strict, and of two leases that differ one stands before the other.
use Rattle.std.proofs.Common.{◌≡◌, ℕ, ◌<◌, ◌==◌, ◌&&◌, ◌||◌, nat_lt, nat_le, true, false}
use Rattle.std.proofs.Common.{ap, ◌∙◌, arith}
use Rattle.std.specs.declared.cmp.Ordering.{Ordering}
use Rattle.std.specs.declared.cmp.Ordering.TheVariants.{Less, Equal, Greater}
use Rattle.std.specs.Ordering.{MatchOrdering, ordering_then, nat_cmp}
use Rattle.std.specs.Cmp.{ranks}
use Rattle.std.proofs.lemmas.Bool.{and_parts, eqb-true}
use Rattle.std.proofs.lemmas.Bool.Decides.{nat_tests}
use Rattle.lease_queue.specs.declared.leases.Lease.{Lease}
use Rattle.lease_queue.specs.Leases.{is_before, is_same, has_lapsed}

-- ---- over pairs of numbers, by which leases are compared

trans_numbers : (a m b n c k : ℕ)
    → (nat_lt a b || ((a == b) && nat_lt m n)) ≡ true
    → (nat_lt b c || ((b == c) && nat_lt n k)) ≡ true
    → (nat_lt a c || ((a == c) && nat_lt m k)) ≡ true
trans_numbers a m b n c k p q = grind (arith, nat_tests)

itself_numbers : (a m : ℕ) → (nat_lt a a || ((a == a) && nat_lt m m)) ≡ false
itself_numbers a m = grind (arith, nat_tests)

back_numbers : (a m b n : ℕ)
    → (nat_lt a b || ((a == b) && nat_lt m n)) ≡ true
    → (nat_lt b a || ((b == a) && nat_lt n m)) ≡ false
back_numbers a m b n p = grind (arith, nat_tests)

differ_numbers : (a m b n : ℕ)
    → (nat_lt a b || ((a == b) && nat_lt m n)) ≡ true
    → ((a == b) && (m == n)) ≡ false
differ_numbers a m b n p = grind (arith, nat_tests)

neither_numbers : (a m b n : ℕ)
    → (nat_lt a b || ((a == b) && nat_lt m n)) ≡ false
    → ((a == b) && (m == n)) ≡ false
    → (nat_lt b a || ((b == a) && nat_lt n m)) ≡ true
neither_numbers a m b n p q = grind (arith, nat_tests)

-- ---- over leases

pub before_trans : (x y z : Lease)
    → is_before x y ≡ true
    → is_before y z ≡ true
    → is_before x z ≡ true
before_trans x y z = trans_numbers x.lapse.0 x.number y.lapse.0 y.number z.lapse.0 z.number

pub not_before_itself : (x : Lease) → is_before x x ≡ false
not_before_itself x = itself_numbers x.lapse.0 x.number

pub not_before_back : (x y : Lease) → is_before x y ≡ true → is_before y x ≡ false
not_before_back x y = back_numbers x.lapse.0 x.number y.lapse.0 y.number

pub before_differs : (x y : Lease) → is_before x y ≡ true → is_same x y ≡ false
before_differs x y = differ_numbers x.lapse.0 x.number y.lapse.0 y.number

pub before_or_after : (x y : Lease)
    → is_before x y ≡ false
    → is_same x y ≡ false
    → is_before y x ≡ true
before_or_after x y = neither_numbers x.lapse.0 x.number y.lapse.0 y.number

-- leases with equal parts are equal, and a lease has its own parts
abbrev lease_of : ℕ → ℕ → Lease
lease_of lapse number = record { lapse = record { 0 = lapse }; number = number }

pub same_is : (x y : Lease) → is_same x y ≡ true → x ≡ y
same_is x y e =
    let parts = and_parts (x.lapse.0 == y.lapse.0) (x.number == y.number) e in
    ap (λ a. lease_of a x.number) (eqb-true x.lapse.0 y.lapse.0 parts.0)
    ∙ ap (λ n. lease_of y.lapse.0 n) (eqb-true x.number y.number parts.1)

same_numbers : (a m : ℕ) → ((a == a) && (m == m)) ≡ true
same_numbers a m = grind (arith, nat_tests)

pub same_itself : (x : Lease) → is_same x x ≡ true
same_itself x = same_numbers x.lapse.0 x.number

-- ---- the order by which the keys of a map are compared

abbrev pub lease_cmp : Lease → Lease → Ordering
lease_cmp x y = ordering_then (nat_cmp x.lapse.0 y.lapse.0) (nat_cmp x.number y.number)

ranked_numbers : (a m b n : ℕ) (r s : Ordering)
    → MatchOrdering r (a < b) (a ≡ b) (b < a)
    → MatchOrdering s (m < n) (m ≡ n) (n < m)
    → MatchOrdering (ordering_then r s) ((nat_lt a b || ((a == b) && nat_lt m n)) ≡ true)
    (((a == b) && (m == n)) ≡ true) ((nat_lt b a || ((b == a) && nat_lt n m)) ≡ true)
ranked_numbers a m b n Less s p q = grind (arith, nat_tests)
ranked_numbers a m b n Equal Less p q = grind (arith, nat_tests)
ranked_numbers a m b n Equal Equal p q = grind (arith, nat_tests)
ranked_numbers a m b n Equal Greater p q = grind (arith, nat_tests)
ranked_numbers a m b n Greater s p q = grind (arith, nat_tests)

-- what an answer of the comparison says
pub ranked : (x y : Lease)
    → MatchOrdering (lease_cmp x y) (is_before x y ≡ true) (is_same x y ≡ true)
    (is_before y x ≡ true)
ranked x y =
    ranked_numbers x.lapse.0 x.number y.lapse.0 y.number (nat_cmp x.lapse.0 y.lapse.0)
    (nat_cmp x.number y.number) (ranks x.lapse.0 y.lapse.0) (ranks x.number y.number)

differ_back_numbers : (a m b n : ℕ)
    → (nat_lt a b || ((a == b) && nat_lt m n)) ≡ true
    → ((b == a) && (n == m)) ≡ false
differ_back_numbers a m b n p = grind (arith, nat_tests)

pub differs_back : (x y : Lease) → is_before x y ≡ true → is_same y x ≡ false
differs_back x y = differ_back_numbers x.lapse.0 x.number y.lapse.0 y.number

unlapsed_numbers : (a m b n now : ℕ)
    → (nat_lt a b || ((a == b) && nat_lt m n)) ≡ true
    → nat_le a now ≡ false
    → nat_le b now ≡ false
unlapsed_numbers a m b n now p q = grind (arith, nat_tests)

-- what stands after a lease that has not lapsed has not lapsed
pub unlapsed_after : (now : ℕ) (x y : Lease)
    → is_before x y ≡ true
    → has_lapsed now x ≡ false
    → has_lapsed now y ≡ false
unlapsed_after now x y = unlapsed_numbers x.lapse.0 x.number y.lapse.0 y.number now
