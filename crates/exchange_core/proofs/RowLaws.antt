-- Laws of the exchanges of a table: what a repeat finds, their order, and which are young.
use Rattle.std.proofs.Common.{
  ◌≡◌,
  ℕ,
  ◌+◌,
  ◌-◌,
  ◌<◌,
  ◌≤◌,
  Bool,
  true,
  false,
  cond,
  List,
  [],
  ◌∷◌,
  ◌++◌,
  length,
  get_or,
  take,
  find,
  Some,
  None,
  option_map,
  option_and_then,
  refl,
  sym,
  ap,
  ◌∙◌,
  arith,
}
use Rattle.std.specs.List.{position}
use Rattle.std.proofs.lemmas.List.{take_more, take_all}
use Rattle.rd_base.specs.declared.peers.Peer.{Peer}
use Rattle.rd_base.specs.Firsts.{changed_first, without_first}
use Rattle.rd_base.proofs.lemmas.Filters.{length-filter-le}
use Rattle.rd_base.proofs.lemmas.Firsts.{find-at, find-nowhere}
use Rattle.event_model.specs.Events.{is_young}
use Rattle.exchange_core.specs.declared.writes.Keyed.{Keyed}
use Rattle.event_model.specs.Repeats.{Exchange}
use Rattle.exchange_core.specs.Table.{
  is_with,
  young,
  InOrder,
  repeating,
  repeating_young,
  repeat_among,
  answered,
}

-- ---- what a repeat finds

-- how a write is answered that repeats the exchange at an index, which is young or old, or none
repeat_among-at : (now : ℕ) (peer : Peer) (mid : ℕ) (xs : List Exchange) (i : ℕ) (x : Exchange)
    → Some i ≡ position (is_with peer mid) xs
    → x ≡ get_or xs i x
    → repeat_among now peer mid xs ≡ repeating_young now x
unfolding repeat_among
repeat_among-at now peer mid xs i x there is =
    ap (option_and_then (repeating_young now)) (find-at (is_with peer mid) xs i x (sym there) is)

pub repeat_among-young_at : (now : ℕ) (peer : Peer) (mid : ℕ) (xs : List Exchange) (i : ℕ)
    (x : Exchange)
    → Some i ≡ position (is_with peer mid) xs
    → x ≡ get_or xs i x
    → is_young now x.moment ≡ true
    → Some (repeating x.reply) ≡ repeat_among now peer mid xs
repeat_among-young_at now peer mid xs i x there is young =
    sym (repeat_among-at now peer mid xs i x there is ∙ rw young refl)

pub repeat_among-old_at : (now : ℕ) (peer : Peer) (mid : ℕ) (xs : List Exchange) (i : ℕ)
    (x : Exchange)
    → Some i ≡ position (is_with peer mid) xs
    → x ≡ get_or xs i x
    → is_young now x.moment ≡ false
    → None ≡ repeat_among now peer mid xs
repeat_among-old_at now peer mid xs i x there is old =
    sym (repeat_among-at now peer mid xs i x there is ∙ rw old refl)

pub repeat_among-nowhere : (now : ℕ) (peer : Peer) (mid : ℕ) (xs : List Exchange)
    → None ≡ position (is_with peer mid) xs
    → None ≡ repeat_among now peer mid xs
unfolding repeat_among
repeat_among-nowhere now peer mid xs none =
    sym (ap (option_and_then (repeating_young now)) (find-nowhere (is_with peer mid) xs (sym none)))

-- ---- their order

pub InOrder-later : (last later : ℕ) (xs : List Exchange)
    → last ≤ later
    → InOrder last xs
    → InOrder later xs
InOrder-later last later [] h order = tt
InOrder-later last later (x ∷ xs) h order =
    (let first = order.0 in omega (arith, h, first), order.1)

pub InOrder-answered : (test : Exchange → Bool) (reply : List ℕ) (last : ℕ) (xs : List Exchange)
    → InOrder last xs
    → InOrder last (changed_first test (answered reply) xs)
unfolding changed_first
InOrder-answered test reply last [] order = tt
InOrder-answered test reply last (x ∷ xs) order =
    by (test x) (InOrder-answered test reply x.moment xs order.1)
  where
    by : (b : Bool)
        → InOrder x.moment (changed_first test (answered reply) xs)
        → InOrder last (cond b (answered reply x ∷ xs) (x ∷ changed_first test (answered reply) xs))
    by true more = order
    by false more = (order.0, more)

pub InOrder-without : (test : Exchange → Bool) (last : ℕ) (xs : List Exchange)
    → InOrder last xs
    → InOrder last (without_first test xs)
unfolding without_first
InOrder-without test last [] order = tt
InOrder-without test last (x ∷ xs) order = by (test x) (InOrder-without test x.moment xs order.1)
  where
    by : (b : Bool)
        → InOrder x.moment (without_first test xs)
        → InOrder last (cond b xs (x ∷ without_first test xs))
    by true more = InOrder-later x.moment last xs order.0 order.1
    by false more = (order.0, more)

pub InOrder-young : (now last : ℕ) (xs : List Exchange)
    → InOrder last xs
    → InOrder last (young now xs)
InOrder-young now last [] order = tt
InOrder-young now last (x ∷ xs) order =
    by (is_young now x.moment) (InOrder-young now x.moment xs order.1)
  where
    by : (b : Bool)
        → InOrder x.moment (young now xs)
        → InOrder last (cond b (x ∷ young now xs) (young now xs))
    by true more = (order.0, more)
    by false more = InOrder-later x.moment last (young now xs) order.0 more

pub InOrder-popped : (last : ℕ) (xs : List Exchange) (x : Exchange)
    → InOrder last (xs ++ x ∷ [])
    → InOrder last xs
InOrder-popped last [] x order = tt
InOrder-popped last (y ∷ ys) x order = (order.0, InOrder-popped y.moment ys x order.1)

-- what is not older than one that is young is young
younger : (now a b : ℕ) → a ≤ b → is_young now a ≡ true → is_young now b ≡ true
younger now a b h young = grind (arith, young, h)

older : (now a b : ℕ) → a ≤ b → is_young now b ≡ false → is_young now a ≡ false
older now a b h old = grind (arith, old, h)

-- where the oldest is young, each is
oldest_at_most : (last : ℕ) (xs : List Exchange) (x : Exchange)
    → InOrder last (xs ++ x ∷ [])
    → x.moment ≤ last
oldest_at_most last [] x order = order.0
oldest_at_most last (y ∷ ys) x order =
    let first = order.0 in
    let rest = oldest_at_most y.moment ys x order.1 in omega (arith, first, rest)

pub young-all : (now last : ℕ) (xs : List Exchange) (x : Exchange)
    → InOrder last (xs ++ x ∷ [])
    → is_young now x.moment ≡ true
    → xs ++ x ∷ [] ≡ young now (xs ++ x ∷ [])
young-all now last [] x order y = rw y refl
young-all now last (z ∷ zs) x order y =
    let first : is_young now z.moment ≡ true =
    younger now x.moment z.moment (oldest_at_most z.moment zs x order.1) y in
    rw first (ap (λ rest. z ∷ rest) (young-all now z.moment zs x order.1 y))

-- where the oldest is old, it goes
pub young-popped : (now : ℕ) (xs : List Exchange) (x : Exchange)
    → is_young now x.moment ≡ false
    → young now (xs ++ x ∷ []) ≡ young now xs
young-popped now [] x old = rw old refl
young-popped now (y ∷ ys) x old =
    ap (λ rest. cond (is_young now y.moment) (y ∷ rest) rest) (young-popped now ys x old)

-- the oldest, after the others
pub oldest_last : (xs : List Exchange) (n : ℕ) (x : Exchange)
    → n ≡ length xs
    → 0 < n
    → x ≡ get_or xs (n - 1) x
    → xs ≡ take (n - 1) xs ++ x ∷ []
oldest_last xs n x e some is =
    let more : take (n - 1 + 1) xs ≡ take (n - 1) xs ++ get_or xs (n - 1) x ∷ [] =
    take_more xs (n - 1) x (omega (arith, e, some)) in
    let whole : n - 1 + 1 ≡ length xs = omega (arith, e, some) in
    sym (take_all (n - 1 + 1) xs (omega (arith, whole)))
    ∙ (more ∙ ap (λ y. take (n - 1) xs ++ y ∷ []) (sym is))

-- where the latest is old, each is
pub young-none : (now last : ℕ) (xs : List Exchange)
    → InOrder last xs
    → is_young now last ≡ false
    → young now xs ≡ []
young-none now last [] order old = refl
young-none now last (x ∷ xs) order old =
    let first : is_young now x.moment ≡ false = older now x.moment last order.0 old in
    rw first (young-none now x.moment xs order.1 first)

-- what a repeat finds, it finds among the young
pub repeat_among-young : (now : ℕ) (peer : Peer) (mid last : ℕ) (xs : List Exchange)
    → InOrder last xs
    → repeat_among now peer mid xs
    ≡ option_map (λ x. repeating x.reply) (find (is_with peer mid) (young now xs))
unfolding repeat_among
repeat_among-young now peer mid last [] order = refl
repeat_among-young now peer mid last (x ∷ xs) order =
    by (is_with peer mid x) (is_young now x.moment) refl refl
    (repeat_among-young now peer mid x.moment xs order.1)
  where
    answer : Exchange → Keyed
    answer y = repeating y.reply

    by : (w y : Bool) → is_with peer mid x ≡ w → is_young now x.moment ≡ y
        → option_and_then (repeating_young now) (find (is_with peer mid) xs)
        ≡ option_map answer (find (is_with peer mid) (young now xs))
        → option_and_then (repeating_young now) (cond w (Some x) (find (is_with peer mid) xs))
        ≡ option_map answer (find (is_with peer mid) (cond y (x ∷ young now xs) (young now xs)))
    by true true w y more = rw (w, y) refl
    by true false w y more = rw (y, young-none now x.moment xs order.1 y) refl
    by false true w y more = rw w more
    by false false w y more = more

-- how many are left
pub length-young : (now : ℕ) (xs : List Exchange) → length (young now xs) ≤ length xs
length-young now xs = length-filter-le (λ x. is_young now x.moment) xs
