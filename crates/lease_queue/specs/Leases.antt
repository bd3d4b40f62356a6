-- Leases in the order in which they lapse.
use Rattle.std.specs.Prelude.{
  ◌≡◌,
  ℕ,
  Bool,
  true,
  not,
  ◌==◌,
  ◌&&◌,
  ◌||◌,
  nat_lt,
  nat_le,
  List,
  [],
  ◌∷◌,
  ◌++◌,
  map,
  filter,
}
use Rattle.std.specs.List.{AllByRecursion}
use Rattle.lease_queue.specs.declared.leases.Lease.{Lease}

-- Returns whether the first lease comes before the second: it lapses earlier, or at the same moment
-- and has the smaller number.
abbrev pub is_before : Lease → Lease → Bool
is_before x y = nat_lt x.lapse.0 y.lapse.0 || ((x.lapse.0 == y.lapse.0) && nat_lt x.number y.number)

-- Returns whether both are the same lease.
abbrev pub is_same : Lease → Lease → Bool
is_same x y = (x.lapse.0 == y.lapse.0) && (x.number == y.number)

-- States that each lease comes before all that follow it. So the list is sorted, and each lease
-- appears once.
unfoldable pub IsAscending : List Lease → Type 0
IsAscending [] = Unit {0}
IsAscending (x ∷ xs) = AllByRecursion (λ y. is_before x y ≡ true) xs × IsAscending xs

-- Returns the leases before this one; `later` returns those after it.
abbrev pub earlier : List Lease → Lease → List Lease
earlier queue lease = filter (λ x. is_before x lease) queue

abbrev pub later : List Lease → Lease → List Lease
later queue lease = filter (λ x. is_before lease x) queue

-- Returns the queue with this lease, which appears once even if the queue has it already.
unfoldable pub with_lease : List Lease → Lease → List Lease
with_lease queue lease = earlier queue lease ++ lease ∷ later queue lease

-- Returns the queue without this lease.
unfoldable pub without_lease : List Lease → Lease → List Lease
without_lease queue lease = filter (λ x. not (is_same x lease)) queue

-- Returns whether the lease has lapsed at this moment, which may be that of its lapse.
abbrev pub has_lapsed : ℕ → Lease → Bool
has_lapsed now lease = nat_le lease.lapse.0 now

-- Returns the numbers of the leases that have lapsed, in order.
unfoldable pub lapsed_at : ℕ → List Lease → List ℕ
lapsed_at now queue = map (λ x. x.number) (filter (has_lapsed now) queue)

-- Returns the leases that have not lapsed, in order.
unfoldable pub unlapsed_at : ℕ → List Lease → List Lease
unlapsed_at now queue = filter (λ x. not (has_lapsed now x)) queue
