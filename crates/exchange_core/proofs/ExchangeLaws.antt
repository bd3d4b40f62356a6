-- The exchanges of a table, and the admissions that they stand for.
use Rattle.std.proofs.Common.{
  ◌≡◌,
  ℕ,
  suc,
  ◌==◌,
  ◌||◌,
  ◌&&◌,
  Bool,
  true,
  false,
  not,
  cond,
  List,
  [],
  ◌∷◌,
  length,
  filter,
  find,
  Option,
  Some,
  None,
  option_and_then,
  refl,
  sym,
  ap,
  subst,
  ◌∙◌,
  eqb-true,
  arith,
}
use Rattle.std.specs.List.{cons_option, filter_map, list_any, AllByRecursion}
use Rattle.std.proofs.lemmas.Bool.{false≢true, and_parts}
use Rattle.rd_base.specs.declared.peers.Peer.{Peer}
use Rattle.rd_base.proofs.lemmas.Filters.{filter_all}
use Rattle.rd_base.proofs.lemmas.Each.{each_weaker}
use Rattle.rd_base.proofs.lemmas.Pairs.{PairsByRecursion}
use Rattle.event_model.specs.declared.notes.Note.{Note}
use Rattle.event_model.specs.declared.notes.Note.TheVariants as note
use Rattle.event_model.specs.Same.{is_same_peer}
use Rattle.event_model.specs.Events.{Event, is_young, or_else, last_said}
use Rattle.event_model.specs.Repeats.{
  is_admission_of,
  answer_noted,
  settled,
  Exchange,
  exchange_admitted,
  exchange_of,
  is_admitting,
}
use Rattle.rd_base.specs.Firsts.{changed_first, without_first}
use Rattle.exchange_core.specs.Table.{is_with, is_admitted_at, young, answered}
use Rattle.event_model.specs.AdmissionOrder.{is_admitted_event}
use Rattle.exchange_core.proofs.FilterLemmas.{any_known}
use Rattle.exchange_core.proofs.RepeatLaws.{admits, eqb-differs, admission_is, Follows}

-- ---- one list for the other

-- the young ones
pub young-exchanges : (moment : ℕ) (events admitted : List Event)
    → young moment (filter_map (exchange_of events) admitted)
    ≡ filter_map (exchange_of events) (filter (λ a. is_young moment a.moment) admitted)
young-exchanges moment events [] = refl
young-exchanges moment events (a ∷ rest) =
    by a.note (is_young moment a.moment) refl (young-exchanges moment events rest)
    ∙ sym (kept_or_not (is_young moment a.moment))
  where
    others : List Exchange
    others = filter_map (exchange_of events) rest

    left : List Event
    left = filter (λ b. is_young moment b.moment) rest

    exchange : Note → Option Exchange
    exchange n = exchange_admitted a.moment (settled a.place events) n

    by : (n : Note) (y : Bool)
        → is_young moment a.moment ≡ y
        → young moment others ≡ filter_map (exchange_of events) left
        → young moment (cons_option (exchange n) others)
        ≡ cond y (cons_option (exchange n) (filter_map (exchange_of events) left))
        (filter_map (exchange_of events) left)
    by (note.Admitted peer mid) true y more =
        rw y (ap (λ xs. cons_option (exchange (note.Admitted peer mid)) xs) more)
    by (note.Admitted peer mid) false y more = rw y more
    by _ true y more = more
    by _ false y more = more

    kept_or_not : (y : Bool) → filter_map (exchange_of events) (cond y (a ∷ left) left)
        ≡ cond y (cons_option (exchange a.note) (filter_map (exchange_of events) left))
        (filter_map (exchange_of events) left)
    kept_or_not true = refl
    kept_or_not false = refl

-- the first with a peer and a Message ID
pub find-exchanges : (peer : Peer) (mid : ℕ) (events admitted : List Event)
    → find (is_with peer mid) (filter_map (exchange_of events) admitted)
    ≡ option_and_then (exchange_of events) (find (admits peer mid) admitted)
find-exchanges peer mid events [] = refl
find-exchanges peer mid events (a ∷ rest) = by a.note refl (find-exchanges peer mid events rest)
  where
    others : List Exchange
    others = filter_map (exchange_of events) rest

    found : Option Event
    found = find (admits peer mid) rest

    by : (n : Note)
        → a.note ≡ n
        → find (is_with peer mid) others ≡ option_and_then (exchange_of events) found
        → find (is_with peer mid)
        (cons_option (exchange_admitted a.moment (settled a.place events) n) others)
        ≡ option_and_then (exchange_of events)
        (cond (is_admission_of peer mid n) (Some a) found)
    by (note.Admitted p m) is more = here (is_same_peer p peer && m == mid) refl
      where
        x : Exchange
        x = record { peer = p; mid = m; moment = a.moment; reply = settled a.place events }

        here : (b : Bool)
            → (is_same_peer p peer && m == mid) ≡ b
            → cond b (Some x) (find (is_with peer mid) others)
            ≡ option_and_then (exchange_of events) (cond b (Some a) found)
        here true e = sym (ap (exchange_admitted a.moment (settled a.place events)) is)
        here false e = more
    by _ is more = more

-- how many
pub length-exchanges : (events admitted : List Event)
    → AllByRecursion (λ a. is_admitting a.note ≡ true) admitted
    → length (filter_map (exchange_of events) admitted) ≡ length admitted
length-exchanges events [] known = refl
length-exchanges events (a ∷ rest) known = by a.note known.0 (length-exchanges events rest known.1)
  where
    by : (n : Note)
        → is_admitting n ≡ true
        → length (filter_map (exchange_of events) rest) ≡ length rest
        → length (cons_option (exchange_admitted a.moment (settled a.place events) n)
        (filter_map (exchange_of events) rest))
        ≡ length (a ∷ rest)
    by (note.Admitted peer mid) it more = ap (λ n. suc n) more
    by _ it more = absurd (false≢true it)

-- with an event more that says nothing of their answers
pub same-exchanges : (e : Event) (events admitted : List Event)
    → AllByRecursion (λ a. answer_noted a.place e.note ≡ None) admitted
    → filter_map (exchange_of (e ∷ events)) admitted ≡ filter_map (exchange_of events) admitted
unfolding settled last_said
same-exchanges e events [] silent = refl
same-exchanges e events (a ∷ rest) silent =
    let first = silent.0 in
    rw first (ap (λ xs. cons_option (exchange_admitted a.moment (settled a.place events) a.note) xs)
    (same-exchanges e events rest silent.1))

-- ---- the admission of a write at a moment

-- among the admissions, it is that of a place
pub Matches : ℕ → Peer → ℕ → ℕ → Event → Type 0
Matches place peer mid moment a =
    (is_admission_of peer mid a.note && a.moment == moment) ≡ (place == a.place)

-- two admissions that follow each other are not both of one moment
not_both : (place : ℕ) (peer : Peer) (mid moment : ℕ) (x y : Event)
    → Follows x y
    → (is_admission_of peer mid x.note && x.moment == moment) ≡ true
    → (is_admission_of peer mid y.note && y.moment == moment) ≡ true
    → ⊥
not_both place peer mid moment x y follows first second =
    let one = and_parts (is_admission_of peer mid x.note) (x.moment == moment) first in
    let two = and_parts (is_admission_of peer mid y.note) (y.moment == moment) second in
    let far =
    follows.apart peer mid (admission_is peer mid x.note one.0)
    (admission_is peer mid y.note two.0) in
    let at_one = eqb-true x.moment moment one.1 in
    let at_two = eqb-true y.moment moment two.1 in
    omega (arith, far, at_one, at_two)

-- what a test of the admission at a place says
at_place : (place : ℕ) (peer : Peer) (mid moment : ℕ) (b : Event)
    → is_admitted_event place peer mid moment b ≡ true
    → (b.place ≡ place) × ((is_admission_of peer mid b.note && b.moment == moment) ≡ true)
at_place place peer mid moment b h =
    let three =
    and_parts (b.place == place && is_admission_of peer mid b.note) (b.moment == moment) h in
    let two = and_parts (b.place == place) (is_admission_of peer mid b.note) three.0 in
    (eqb-true b.place place two.0, rw (two.1, three.1) refl)

pub each_matches : (place : ℕ) (peer : Peer) (mid moment : ℕ) (admitted : List Event)
    → PairsByRecursion Follows admitted
    → list_any (is_admitted_event place peer mid moment) admitted ≡ true
    → AllByRecursion (Matches place peer mid moment) admitted
unfolding Matches
each_matches place peer mid moment [] pairs there = tt
each_matches place peer mid moment (x ∷ rest) pairs there =
    by (is_admitted_event place peer mid moment x) refl there
    (each_matches place peer mid moment rest pairs.1)
  where
    test : Event → Bool
    test a = is_admission_of peer mid a.note && a.moment == moment

    same : (b c : Bool) → (b ≡ true → ⊥) → c ≡ false → b ≡ c
    same true c never e = absurd (never refl)
    same false c never e = sym e

    by : (b : Bool)
        → is_admitted_event place peer mid moment x ≡ b
        → (b || list_any (is_admitted_event place peer mid moment) rest) ≡ true
        → (list_any (is_admitted_event place peer mid moment) rest ≡ true
        → AllByRecursion (Matches place peer mid moment) rest)
        → AllByRecursion (Matches place peer mid moment) (x ∷ rest)
    by true e h more =
        let here = at_place place peer mid moment x e in
        let at = here.0 in (
          here.1 ∙ sym (grind (arith, at)),
          each_weaker (Follows x) (Matches place peer mid moment)
              (λ y follows.
              same (test y) (place == y.place)
              (λ second. not_both place peer mid moment x y follows here.1 second)
              (eqb-differs place y.place (λ e. follows.place (sym e ∙ sym at)))) rest
              pairs.0,
        )
    by false e h more =
        let other =
        any_known (Follows x) (is_admitted_event place peer mid moment) rest h pairs.0 in
        let there = at_place place peer mid moment other.0 other.1 in
        let at = there.0 in (
          same (test x) (place == x.place)
              (λ first. not_both place peer mid moment x other.0 other.2 first there.1)
              (eqb-differs place x.place (λ e. other.2.place (at ∙ e))),
          more h,
        )

-- ---- a reply more

-- it changes no age
pub young-answered : (moment : ℕ) (peer : Peer) (mid at : ℕ) (reply : List ℕ) (xs : List Exchange)
    → young moment (changed_first (is_admitted_at peer mid at) (answered reply) xs)
    ≡ changed_first (is_admitted_at peer mid at) (answered reply) (young moment xs)
unfolding changed_first
young-answered moment peer mid at reply [] = refl
young-answered moment peer mid at reply (x ∷ xs) =
    by (test x) (is_young moment x.moment) refl refl (young-answered moment peer mid at reply xs)
  where
    test : Exchange → Bool
    test y = is_admitted_at peer mid at y

    -- where that moment is old
    none_left : (ys : List Exchange)
        → is_young moment at ≡ false
        → changed_first test (answered reply) (young moment ys) ≡ young moment ys
    none_left [] old = refl
    none_left (y ∷ ys) old = here (is_young moment y.moment) (test y) refl refl (none_left ys old)
      where
        here : (g t : Bool)
            → is_young moment y.moment ≡ g
            → test y ≡ t
            → changed_first test (answered reply) (young moment ys) ≡ young moment ys
            → changed_first test (answered reply) (cond g (y ∷ young moment ys) (young moment ys))
            ≡ cond g (y ∷ young moment ys) (young moment ys)
        here true true g t more =
            let parts = and_parts (is_with peer mid y) (y.moment == at) t in
            absurd (false≢true
            (sym old ∙ (ap (is_young moment) (sym (eqb-true y.moment at parts.1)) ∙ g)))
        here true false g t more = rw t (ap (λ rest. y ∷ rest) more)
        here false t g u more = more

    by : (t g : Bool)
        → test x ≡ t
        → is_young moment x.moment ≡ g
        → young moment (changed_first test (answered reply) xs)
        ≡ changed_first test (answered reply) (young moment xs)
        → young moment (cond t (answered reply x ∷ xs) (x ∷ changed_first test (answered reply) xs))
        ≡ changed_first test (answered reply) (cond g (x ∷ young moment xs) (young moment xs))
    by true true t g more = rw (g, t) refl
    by true false t g more =
        let parts = and_parts (is_with peer mid x) (x.moment == at) t in
        let old : is_young moment at ≡ false =
        ap (is_young moment) (sym (eqb-true x.moment at parts.1)) ∙ g in
        rw g (sym (none_left xs old))
    by false true t g more = rw (g, t) (ap (λ rest. x ∷ rest) more)
    by false false t g more = rw g more

-- it is that of the place
pub answered-exchanges : (place : ℕ) (peer : Peer) (mid moment : ℕ) (reply : List ℕ) (e : Event)
    (events admitted : List Event)
    → e.note ≡ note.Settled place reply
    → PairsByRecursion Follows admitted → AllByRecursion (Matches place peer mid moment) admitted
    → changed_first (is_admitted_at peer mid moment) (answered reply)
    (filter_map (exchange_of events) admitted)
    ≡ filter_map (exchange_of (e ∷ events)) admitted
unfolding changed_first settled last_said Matches
answered-exchanges place peer mid moment reply e events [] is pairs matches = refl
answered-exchanges place peer mid moment reply e events (a ∷ rest) is pairs matches =
    by a.note refl (place == a.place) refl matches.0
    (answered-exchanges place peer mid moment reply e events rest is pairs.1 matches.1)
  where
    test : Exchange → Bool
    test x = is_admitted_at peer mid moment x

    others : List Exchange
    others = filter_map (exchange_of events) rest

    others_now : List Exchange
    others_now = filter_map (exchange_of (e ∷ events)) rest

    said : answer_noted a.place e.note ≡ cond (place == a.place) (Some reply) None
    said = ap (answer_noted a.place) is

    exchange : Peer → ℕ → Exchange
    exchange q m = record { peer = q; mid = m; moment = a.moment; reply = settled a.place events }

    match : (q : Peer) (m : ℕ)
        → a.note ≡ note.Admitted q m
        → (is_admission_of peer mid a.note && a.moment == moment) ≡ (place == a.place)
        → (is_same_peer q peer && m == mid && a.moment == moment) ≡ (place == a.place)
    match q m n it =
        subst (λ k. (is_admission_of peer mid k && a.moment == moment) ≡ (place == a.place)) n it

    silent : place ≡ a.place → AllByRecursion (λ b. answer_noted b.place e.note ≡ None) rest
    silent at = each_weaker (Follows a) (λ b. answer_noted b.place e.note ≡ None)
        (λ b follows.
        ap (answer_noted b.place) is
        ∙ none (eqb-differs place b.place (λ e. follows.place (sym e ∙ at)))) rest pairs.0
      where
        none : {b : Bool} → b ≡ false → cond b (Some reply) None ≡ None
        none no_match = rw no_match refl

    by : (n : Note)
        → a.note ≡ n
        → (p : Bool)
        → (place == a.place) ≡ p
        → (is_admission_of peer mid a.note && a.moment == moment) ≡ (place == a.place)
        → changed_first test (answered reply) others ≡ others_now
        → changed_first test (answered reply)
        (cons_option (exchange_admitted a.moment (settled a.place events) n) others)
        ≡ cons_option (exchange_admitted a.moment
        (or_else (answer_noted a.place e.note) (settled a.place events)) n) others_now
    by (note.Admitted q m) n true p it more =
        let now : answer_noted a.place e.note ≡ Some reply = said ∙ rw p refl in
        rw (match q m n it ∙ p) (rw now (ap (λ xs. answered reply (exchange q m) ∷ xs)
        (sym (same-exchanges e events rest (silent (eqb-true place a.place p))))))
    by (note.Admitted q m) n false p it more =
        let now : answer_noted a.place e.note ≡ None = said ∙ rw p refl in
        rw (match q m n it ∙ p) (rw now (ap (λ xs. exchange q m ∷ xs) more))
    by _ n p at it more = more

-- ---- an admission fewer

-- it changes no age
pub young-without : (moment : ℕ) (peer : Peer) (mid at : ℕ) (xs : List Exchange)
    → young moment (without_first (is_admitted_at peer mid at) xs)
    ≡ without_first (is_admitted_at peer mid at) (young moment xs)
unfolding without_first
young-without moment peer mid at [] = refl
young-without moment peer mid at (x ∷ xs) =
    by (test x) (is_young moment x.moment) refl refl (young-without moment peer mid at xs)
  where
    test : Exchange → Bool
    test y = is_admitted_at peer mid at y

    -- where that moment is old
    none_left : (ys : List Exchange)
        → is_young moment at ≡ false
        → without_first test (young moment ys) ≡ young moment ys
    none_left [] old = refl
    none_left (y ∷ ys) old = here (is_young moment y.moment) (test y) refl refl (none_left ys old)
      where
        here : (g t : Bool)
            → is_young moment y.moment ≡ g
            → test y ≡ t
            → without_first test (young moment ys) ≡ young moment ys
            → without_first test (cond g (y ∷ young moment ys) (young moment ys))
            ≡ cond g (y ∷ young moment ys) (young moment ys)
        here true true g t more =
            let parts = and_parts (is_with peer mid y) (y.moment == at) t in
            absurd (false≢true
            (sym old ∙ (ap (is_young moment) (sym (eqb-true y.moment at parts.1)) ∙ g)))
        here true false g t more = rw t (ap (λ rest. y ∷ rest) more)
        here false t g u more = more

    by : (t g : Bool)
        → test x ≡ t
        → is_young moment x.moment ≡ g
        → young moment (without_first test xs) ≡ without_first test (young moment xs)
        → young moment (cond t xs (x ∷ without_first test xs))
        ≡ without_first test (cond g (x ∷ young moment xs) (young moment xs))
    by true true t g more = rw t refl
    by true false t g more =
        let parts = and_parts (is_with peer mid x) (x.moment == at) t in
        let old : is_young moment at ≡ false =
        ap (is_young moment) (sym (eqb-true x.moment at parts.1)) ∙ g in
        sym (none_left xs old)
    by false true t g more = rw (g, t) (ap (λ rest. x ∷ rest) more)
    by false false t g more = rw g more

-- it is that of the place
pub without-exchanges : (place : ℕ) (peer : Peer) (mid moment : ℕ) (events admitted : List Event)
    → AllByRecursion (λ a. is_admitting a.note ≡ true) admitted
    → PairsByRecursion Follows admitted → AllByRecursion (Matches place peer mid moment) admitted
    → without_first (is_admitted_at peer mid moment) (filter_map (exchange_of events) admitted)
    ≡ filter_map (exchange_of events) (filter (λ a. not (place == a.place)) admitted)
unfolding without_first Matches
without-exchanges place peer mid moment events [] admitting pairs matches = refl
without-exchanges place peer mid moment events (a ∷ rest) admitting pairs matches =
    by a.note refl admitting.0 (place == a.place) refl matches.0
    (without-exchanges place peer mid moment events rest admitting.1 pairs.1 matches.1)
    ∙ sym (kept_or_not (place == a.place))
  where
    test : Exchange → Bool
    test x = is_admitted_at peer mid moment x

    others : List Exchange
    others = filter_map (exchange_of events) rest

    left : List Event
    left = filter (λ b. not (place == b.place)) rest

    exchange : Note → Option Exchange
    exchange n = exchange_admitted a.moment (settled a.place events) n

    match : (q : Peer) (m : ℕ)
        → a.note ≡ note.Admitted q m
        → (is_admission_of peer mid a.note && a.moment == moment) ≡ (place == a.place)
        → (is_same_peer q peer && m == mid && a.moment == moment) ≡ (place == a.place)
    match q m n it =
        subst (λ k. (is_admission_of peer mid k && a.moment == moment) ≡ (place == a.place)) n it

    all_left : place ≡ a.place → left ≡ rest
    all_left at = filter_all (λ b. not (place == b.place)) rest
        (each_weaker (Follows a) (λ b. not (place == b.place) ≡ true)
        (λ b follows. ap not (eqb-differs place b.place (λ e. follows.place (sym e ∙ at)))) rest
        pairs.0)

    by : (n : Note)
        → a.note ≡ n
        → is_admitting n ≡ true
        → (p : Bool)
        → (place == a.place) ≡ p
        → (is_admission_of peer mid a.note && a.moment == moment) ≡ (place == a.place)
        → without_first test others ≡ filter_map (exchange_of events) left
        → without_first test (cons_option (exchange n) others)
        ≡ cond (not p) (cons_option (exchange n) (filter_map (exchange_of events) left))
        (filter_map (exchange_of events) left)
    by (note.Admitted q m) n it true p matched more =
        rw (match q m n matched ∙ p)
        (ap (filter_map (exchange_of events)) (sym (all_left (eqb-true place a.place p))))
    by (note.Admitted q m) n it false p matched more =
        rw (match q m n matched ∙ p) (ap (λ xs. cons_option (exchange (note.Admitted q m)) xs) more)
    by _ n it p at matched more = absurd (false≢true it)

    kept_or_not : (p : Bool) → filter_map (exchange_of events) (cond (not p) (a ∷ left) left)
        ≡ cond (not p) (cons_option (exchange a.note) (filter_map (exchange_of events) left))
        (filter_map (exchange_of events) left)
    kept_or_not true = refl
    kept_or_not false = refl
