-- What the kept answers of a table stand for, as answers are kept and read.
use Rattle.std.proofs.Common.{
  ◌≡◌,
  ℕ,
  zero,
  suc,
  Bool,
  true,
  false,
  not,
  ◌||◌,
  ◌&&◌,
  cond,
  List,
  [],
  ◌∷◌,
  ◌++◌,
  length,
  map,
  take,
  filter,
  find,
  Option,
  Some,
  None,
  option_map,
  option_and_then,
  refl,
  sym,
  ap,
  ap₂,
  subst,
  ◌∙◌,
  arith,
}
use Rattle.std.specs.List.{AllByRecursion}
use Rattle.std.proofs.lemmas.Bool.{false≢true, or_parts}
use Rattle.std.proofs.lemmas.List.{take_all}
use Rattle.rd_base.specs.declared.peers.Peer.{Peer}
use Rattle.rd_base.proofs.lemmas.Filters.{filter_all}
use Rattle.rd_base.proofs.lemmas.Each.{each_weaker, each_passes}
use Rattle.rd_base.proofs.lemmas.Pairs.{PairsByRecursion, pairs_filter}
use Rattle.rd_base.proofs.lemmas.Options.{some_same, none_some}
use Rattle.event_model.specs.declared.notes.Note.{Note}
use Rattle.event_model.specs.declared.notes.Note.TheVariants as note
use Rattle.event_model.specs.Same.{RequestName, is_same_request}
use Rattle.event_model.specs.Events.{
  Event,
  noted,
  last_event,
  event_moment,
  or_else,
  last_said,
  is_young,
}
use Rattle.event_model.specs.KeptAnswers.{
  max_answers,
  Answer,
  answer_kept,
  used_by,
  is_named_among,
  is_use_of,
  names_used,
  is_live_answer,
  kept_answer,
  KeptAnswer,
}
use Rattle.event_model.proofs.SameLaws.{is_same_request-Decides, is_same_request-refl}
use Rattle.event_model.proofs.NotedLaws.{event_at}
use Rattle.event_model.proofs.AsideTables.{about_answers}
use Rattle.rd_base.specs.Firsts.{without_first}
use Rattle.transfers.specs.Keeping.{
  NamedAnswer,
  is_kept_as,
  live_kept,
  used,
  kept_at,
  used_at,
  kept_each,
}
use Rattle.transfers.specs.TransferEvents.{answer_of, AnswersStandFor, kept_note}
use Rattle.transfers.proofs.KeptLists.{length-take_le}

-- the tests of names
same_names : (name other : RequestName) → is_same_request name other ≡ true → name ≡ other
same_names name other e = (is_same_request-Decides name other).0 e

pub other_way : (name other : RequestName)
    → is_same_request name other ≡ false
    → is_same_request other name ≡ false
other_way name other e = by (is_same_request other name) refl
  where
    by : (b : Bool) → is_same_request other name ≡ b → is_same_request other name ≡ false
    by false h = h
    by true h =
        absurd (false≢true
        (sym e ∙ (is_same_request-Decides name other).1 (sym (same_names other name h))))

not_false : (b : Bool) → not b ≡ true → b ≡ false
not_false true h = absurd (false≢true h)
not_false false h = refl

-- ---- no event

pub AnswersStandFor-none : AnswersStandFor [] []
unfolding names_used
AnswersStandFor-none = record { kept = refl }

-- ---- the names that were used

abbrev pub Differ : RequestName → RequestName → Type 0
Differ name other = is_same_request name other ≡ false

-- no two of them are the same
pub names-differ : (events : List Event) → PairsByRecursion Differ (names_used events)
unfolding names_used
names-differ [] = tt
names-differ (e ∷ before) = by e.note (names-differ before)
  where
    front : (name : RequestName) (ns : List RequestName)
        → PairsByRecursion Differ ns
        → PairsByRecursion Differ (name ∷ filter (λ n. not (is_same_request n name || false)) ns)
    front name ns h = (
      each_weaker (λ n. not (is_same_request n name || false) ≡ true) (Differ name)
          (λ n k.
          other_way n name (or_parts (is_same_request n name) false
          (not_false (is_same_request n name || false) k)).0)
          (filter (λ n. not (is_same_request n name || false)) ns)
          (each_passes (λ n. not (is_same_request n name || false)) ns),
      pairs_filter Differ (λ n. not (is_same_request n name || false)) ns h,
    )

    by : (n : Note)
        → PairsByRecursion Differ (names_used before)
        → PairsByRecursion Differ
        (used_by n ++ filter (λ name. not (is_use_of name n)) (names_used before))
    by (note.Kept peer key body tag) h = front (peer, key) (names_used before) h
    by (note.Used peer key) h = front (peer, key) (names_used before) h
    by _ h = pairs_filter Differ (λ name. true) (names_used before) h

-- ---- what is found

-- an answer has its name, and the moment of its last use
pub answer_of-shows : (events : List Event) (name : RequestName) (x : KeptAnswer)
    → answer_of events name ≡ Some x
    → (x.name ≡ name)
    × (last_said (answer_kept name) events ≡ Some x.answer)
    × (x.moment ≡ event_moment (last_event (is_use_of name) events))
answer_of-shows events name x there = by (last_said (answer_kept name) events) there
  where
    moment : ℕ
    moment = event_moment (last_event (is_use_of name) events)

    by : (o : Option Answer)
        → option_map (λ answer. record { name = name; answer = answer; moment = moment }) o ≡ Some x
        → (x.name ≡ name) × (o ≡ Some x.answer) × (x.moment ≡ moment)
    by None h = absurd (none_some h)
    by (Some answer) h =
        let same : record { name = name; answer = answer; moment = moment } ≡ x = some_same h in (
          sym (ap (λ (y : KeptAnswer). y.name) same),
          ap (λ (y : KeptAnswer). Some y.answer) same,
          sym (ap (λ (y : KeptAnswer). y.moment) same),
        )

-- among answers that are those of names
found_among : (name : RequestName) (events : List Event) (ns : List RequestName)
    (xs : List KeptAnswer)
    → map (λ x. Some x) xs ≡ map (answer_of events) ns
    → find (is_kept_as name) xs ≡ cond (is_named_among ns name) (answer_of events name) None
found_among name events [] [] are = refl
found_among name events [] (x ∷ xs) are = absurd cc
found_among name events (n ∷ ns) [] are = absurd cc
found_among name events (n ∷ ns) (x ∷ xs) are =
    let first : Some x ≡ answer_of events n = cc in
    let rest : map (λ y. Some y) xs ≡ map (answer_of events) ns = cc in
    by (is_same_request name n) refl (sym first) (found_among name events ns xs rest)
  where
    by : (s : Bool)
        → is_same_request name n ≡ s
        → answer_of events n ≡ Some x
        → find (is_kept_as name) xs ≡ cond (is_named_among ns name) (answer_of events name) None
        → cond (is_same_request name x.name) (Some x) (find (is_kept_as name) xs)
        ≡ cond (s || is_named_among ns name) (answer_of events name) None
    by true s e more =
        let named : is_same_request name x.name ≡ true =
        subst (λ m. is_same_request name m ≡ true) (sym (answer_of-shows events n x e).0) s in
        rw named (sym (ap (answer_of events) (same_names name n s) ∙ e))
    by false s e more =
        let other : is_same_request name x.name ≡ false =
        subst (λ m. is_same_request name m ≡ false) (sym (answer_of-shows events n x e).0) s in
        rw other more

-- the last use of a name, whether it is young
abbrev pub young_event : ℕ → Option Event → Bool
young_event now None = false
young_event now (Some e) = is_young now e.moment

pub live_is : (now : ℕ) (name : RequestName) (events : List Event) (o : Option Event)
    → last_event (is_use_of name) events ≡ o
    → is_live_answer now name events
    ≡ (is_named_among (take max_answers (names_used events)) name && young_event now o)
live_is now name events None e = rw e refl
live_is now name events (Some x) e = rw e refl

-- a name under which an answer was kept was used
pub kept_used : (name : RequestName) (events : List Event) (a : Answer)
    → last_said (answer_kept name) events ≡ Some a
    → last_event (is_use_of name) events ≡ None
    → ⊥
unfolding last_said
kept_used name [] a said none = none_some said
kept_used name (e ∷ before) a said none = by e.note refl said none (kept_used name before a)
  where
    by : (n : Note)
        → e.note ≡ n
        → or_else (answer_kept name n) (last_said (answer_kept name) before) ≡ Some a
        → cond (is_use_of name n) (Some e) (last_event (is_use_of name) before) ≡ None
        → (last_said (answer_kept name) before ≡ Some a
        → last_event (is_use_of name) before ≡ None
        → ⊥)
        → ⊥
    by (note.Kept peer key body tag) is said none more =
        kept (is_same_request (peer, key) name) refl said (is_same_request name (peer, key)) refl
        none
      where
        kept : (s : Bool)
            → is_same_request (peer, key) name ≡ s
            → or_else (cond s (Some (record { body = body; tag = tag })) None)
            (last_said (answer_kept name) before)
            ≡ Some a
            → (t : Bool)
            → is_same_request name (peer, key) ≡ t
            → cond (t || false) (Some e) (last_event (is_use_of name) before) ≡ None
            → ⊥
        kept s g said true h none = none_some (sym none)
        kept true g said false h none = false≢true (sym (other_way name (peer, key) h) ∙ g)
        kept false g said false h none = more said none
    by (note.Used peer key) is said none more = used_here (is_same_request name (peer, key)) none
      where
        used_here : (t : Bool)
            → cond (t || false) (Some e) (last_event (is_use_of name) before) ≡ None
            → ⊥
        used_here true none = none_some (sym none)
        used_here false none = more said none
    by _ is said none more = more said none

no_answer : (b : Bool) → ◌≡◌ {A = Option KeptAnswer} (cond b None None) None
no_answer true = refl
no_answer false = refl

-- so the table finds what is kept
pub kept-is : (now : ℕ) (name : RequestName) (events : List Event) (xs : List KeptAnswer)
    → AnswersStandFor events xs
    → option_map (λ (x : KeptAnswer). x.answer) (live_kept now name xs)
    ≡ kept_answer now name events
unfolding live_kept kept_answer
kept-is now name events xs stands =
    ap (λ o.
    option_map (λ (x : KeptAnswer). x.answer)
    (option_and_then (λ (x : KeptAnswer). cond (is_young now x.moment) (Some x) None)
    o))
    (found_among name events (take max_answers (names_used events)) xs stands.kept)
    ∙ (by (last_said (answer_kept name) events) refl (last_event (is_use_of name) events) refl
    (is_named_among (take max_answers (names_used events)) name)
    ∙ ap (λ live.
    option_and_then (λ (a : Answer). cond live (Some a) None)
    (last_said (answer_kept name) events))
    (sym (live_is now name events (last_event (is_use_of name) events) refl)))
  where
    answer : Option KeptAnswer → Option Answer
    answer o =
        option_map (λ (x : KeptAnswer). x.answer)
        (option_and_then (λ (x : KeptAnswer). cond (is_young now x.moment) (Some x) None) o)

    by : (o : Option Answer)
        → last_said (answer_kept name) events ≡ o
        → (last : Option Event)
        → last_event (is_use_of name) events ≡ last
        → (among : Bool)
        → answer (cond among
        (option_map (λ a. record { name = name; answer = a; moment = event_moment last })
        o) None)
        ≡ option_and_then (λ (a : Answer). cond (among && young_event now last) (Some a) None) o
    by None said last there among = ap answer (no_answer among)
    by (Some a) said None there among = absurd (kept_used name events a said there)
    by (Some a) said (Some e) there false = refl
    by (Some a) said (Some e) there true = young (is_young now e.moment) refl
      where
        young : (y : Bool)
            → is_young now e.moment ≡ y
            → answer (Some (record { name = name; answer = a; moment = e.moment }))
            ≡ cond (is_young now e.moment) (Some a) None
        young true y = rw y refl
        young false y = rw y refl

-- what lives is the answer of its name
pub live-shows : (now : ℕ) (name : RequestName) (events : List Event) (xs : List KeptAnswer)
    (x : KeptAnswer)
    → AnswersStandFor events xs
    → live_kept now name xs ≡ Some x
    → answer_of events name ≡ Some x
unfolding live_kept
live-shows now name events xs x stands live =
    among (is_named_among (take max_answers (names_used events)) name)
    (sym (found_among name events (take max_answers (names_used events)) xs stands.kept)
    ∙ found)
  where
    by : (o : Option KeptAnswer)
        → option_and_then (λ (y : KeptAnswer). cond (is_young now y.moment) (Some y) None) o
        ≡ Some x
        → o ≡ Some x
    by None h = absurd (none_some h)
    by (Some y) h = young (is_young now y.moment) h
      where
        young : (b : Bool) → cond b (Some y) None ≡ Some x → Some y ≡ Some x
        young true h = h
        young false h = absurd (none_some h)

    found : find (is_kept_as name) xs ≡ Some x
    found = by (find (is_kept_as name) xs) live

    among : (b : Bool)
        → cond b (answer_of events name) None ≡ Some x
        → answer_of events name ≡ Some x
    among true h = h
    among false h = absurd (none_some h)

-- ---- a use

each_take : {A : Type 0} (P : A → Type 0) (n : ℕ) (xs : List A)
    → AllByRecursion P xs
    → AllByRecursion P (take n xs)
each_take P zero xs h = tt
each_take P (suc n) [] h = tt
each_take P (suc n) (x ∷ xs) h = (h.0, each_take P n xs h.1)

map_same : {A B : Type 0} (f g : A → B) (xs : List A)
    → AllByRecursion (λ x. f x ≡ g x) xs
    → map f xs ≡ map g xs
map_same f g [] h = refl
map_same f g (x ∷ xs) h = ap₂ (λ y ys. y ∷ ys) h.0 (map_same f g xs h.1)

length-some : (f : RequestName → Option KeptAnswer) (xs : List KeptAnswer) (ns : List RequestName)
    → map (λ x. Some x) xs ≡ map f ns
    → length xs ≡ length ns
length-some f [] [] h = refl
length-some f [] (n ∷ ns) h = absurd cc
length-some f (x ∷ xs) [] h = absurd cc
length-some f (x ∷ xs) (n ∷ ns) h =
    let rest : map (λ y. Some y) xs ≡ map f ns = cc in ap (λ k. suc k) (length-some f xs ns rest)

-- without one name, one fewer of the names that are left is taken
fewer : (f : RequestName → Option KeptAnswer)
    → ((m : RequestName) (x : KeptAnswer) → f m ≡ Some x → x.name ≡ m)
    → (name : RequestName) (keep : RequestName → Bool)
    → ((m : RequestName) → is_same_request name m ≡ not (keep m))
    → (n : ℕ) (ns : List RequestName) (xs : List KeptAnswer)
    → PairsByRecursion Differ ns
    → map (λ x. Some x) xs ≡ map f (take (suc n) ns)
    → map (λ x. Some x) (take n (without_first (is_kept_as name) xs))
    ≡ map f (take n (filter keep ns))
unfolding without_first
fewer f named name keep tests zero ns xs pairs are = refl
fewer f named name keep tests (suc n) [] [] pairs are = refl
fewer f named name keep tests (suc n) [] (x ∷ xs) pairs are = absurd cc
fewer f named name keep tests (suc n) (m ∷ ns) [] pairs are = absurd cc
fewer f named name keep tests (suc n) (m ∷ ns) (x ∷ xs) pairs are =
    let first : Some x ≡ f m = cc in
    let rest : map (λ y. Some y) xs ≡ map f (take (suc n) ns) = cc in
    by (keep m) refl first rest (fewer f named name keep tests n ns xs pairs.1 rest)
  where
    by : (k : Bool)
        → keep m ≡ k
        → Some x ≡ f m
        → map (λ y. Some y) xs ≡ map f (take (suc n) ns)
        → map (λ y. Some y) (take n (without_first (is_kept_as name) xs))
        ≡ map f (take n (filter keep ns))
        → map (λ y. Some y) (take (suc n)
        (cond (is_same_request name x.name) xs (x ∷ without_first (is_kept_as name) xs)))
        ≡ map f (take (suc n) (cond k (m ∷ filter keep ns) (filter keep ns)))
    by true k first rest more =
        let same : is_same_request name x.name ≡ false =
        ap (is_same_request name) (named m x (sym first)) ∙ (tests m ∙ ap not k) in
        rw same (ap₂ (λ y ys. y ∷ ys) first more)
    by false k first rest more =
        let same : is_same_request name x.name ≡ true =
        ap (is_same_request name) (named m x (sym first)) ∙ (tests m ∙ ap not k) in
        let whole : take (suc n) xs ≡ xs =
        take_all (suc n) xs
        (let le = length-take_le (suc n) ns in let e = length-some f xs (take (suc n) ns)
        rest in omega (arith, le, e)) in
        let here : name ≡ m = same_names name m (tests m ∙ ap not k) in
        let all : filter keep ns ≡ ns =
        filter_all keep ns (each_weaker (Differ m) (λ y. keep y ≡ true)
        (λ y d. not_true (keep y) (sym (tests y) ∙ subst (λ z. is_same_request z y ≡ false) (sym
        here) d)) ns pairs.0) in
        rw (same, all, whole) rest
      where
        not_true : (b : Bool) → not b ≡ false → b ≡ true
        not_true true h = refl
        not_true false h = absurd (false≢true (sym h))

used_stands : (name : RequestName) (x : KeptAnswer) (e : Event) (events : List Event)
    (xs : List KeptAnswer)
    → x.name ≡ name
    → names_used (e ∷ events)
    ≡ name ∷ filter (λ n. not (is_same_request n name || false)) (names_used events)
    → answer_of (e ∷ events) name ≡ Some x
    → ((n : RequestName)
    → is_same_request n name ≡ false
    → answer_of (e ∷ events) n ≡ answer_of events n)
    → AnswersStandFor events xs
    → AnswersStandFor (e ∷ events) (used x xs)
unfolding used
used_stands name x e events xs called names here others stands = record {
  kept =
      ap₂ (λ y ys. y ∷ ys) (sym here)
      (ap (λ (n : RequestName). map (λ y. Some y) (take 63 (without_first (is_kept_as n) xs)))
      called
      ∙ (fewer (answer_of events) (λ m y h. (answer_of-shows events m y h).0) name keep tests 63
      (names_used events) xs (names-differ events) stands.kept
      ∙ map_same (answer_of events) (answer_of (e ∷ events))
      (take 63 (filter keep (names_used events)))
      (each_take (λ n. answer_of events n ≡ answer_of (e ∷ events) n) 63
      (filter keep (names_used events))
      (each_weaker (λ n. keep n ≡ true) (λ n. answer_of events n ≡ answer_of (e ∷ events) n)
      (λ n k.
      sym (others n (or_parts (is_same_request n name) false
      (not_false (is_same_request n name || false) k)).0))
      (filter keep (names_used events)) (each_passes keep (names_used events))))))
      ∙ ap (λ ns. map (answer_of (e ∷ events)) (take 64 ns)) (sym names);
}
  where
    keep : RequestName → Bool
    keep n = not (is_same_request n name || false)

    tests : (m : RequestName) → is_same_request name m ≡ not (keep m)
    tests m = by (is_same_request m name) refl
      where
        by : (b : Bool)
            → is_same_request m name ≡ b
            → is_same_request name m ≡ not (not (b || false))
        by true h = (is_same_request-Decides name m).1 (sym (same_names m name h))
        by false h = other_way m name h

-- an answer is kept
kept_other : (place moment word : ℕ) (a : NamedAnswer) (events : List Event) (n : RequestName)
    → is_same_request n a.name ≡ false
    → answer_of (event_at place moment word (kept_note a) ∷ events) n ≡ answer_of events n
unfolding last_said
kept_other place moment word a events n s = rw (s, other_way n a.name s) refl

kept_here : (place moment word : ℕ) (a : NamedAnswer) (events : List Event)
    → answer_of (event_at place moment word (kept_note a) ∷ events) a.name ≡ Some (kept_at moment a)
unfolding last_said
kept_here place moment word a events = rw (is_same_request-refl a.name) refl

pub AnswersStandFor-kept : (place moment word : ℕ) (a : NamedAnswer) (events : List Event)
    (xs : List KeptAnswer)
    → AnswersStandFor events xs
    → AnswersStandFor (event_at place moment word (kept_note a) ∷ events)
    (used (kept_at moment a) xs)
unfolding names_used
AnswersStandFor-kept place moment word a events xs stands =
    used_stands a.name (kept_at moment a) (event_at place moment word (kept_note a)) events xs refl
    refl (kept_here place moment word a events) (kept_other place moment word a events) stands

pub AnswersStandFor-kept_each : (place moment word : ℕ) (more : List NamedAnswer)
    (events : List Event) (xs : List KeptAnswer)
    → AnswersStandFor events xs
    → AnswersStandFor (noted place moment word (map kept_note more) events)
    (kept_each moment more xs)
unfolding kept_each
AnswersStandFor-kept_each place moment word [] events xs stands = stands
AnswersStandFor-kept_each place moment word (a ∷ more) events xs stands =
    AnswersStandFor-kept_each place moment word more
    (event_at place moment word (kept_note a) ∷ events) (used (kept_at moment a) xs)
    (AnswersStandFor-kept place moment word a events xs stands)

-- an answer is read
read_other : (place moment word : ℕ) (peer : Peer) (key : List ℕ) (events : List Event)
    (n : RequestName)
    → is_same_request n (peer, key) ≡ false
    → answer_of (event_at place moment word (note.Used peer key) ∷ events) n ≡ answer_of events n
unfolding last_said
read_other place moment word peer key events n s = rw s refl

read_here : (place moment word : ℕ) (peer : Peer) (key : List ℕ) (events : List Event)
    (x : KeptAnswer)
    → answer_of events (peer, key) ≡ Some x
    → answer_of (event_at place moment word (note.Used peer key) ∷ events) (peer, key)
    ≡ Some (used_at moment x)
unfolding last_said
read_here place moment word peer key events x there =
    let shows = answer_of-shows events (peer, key) x there in
    let said = shows.1 in
    rw (is_same_request-refl (peer, key), said)
    (ap (λ (n : RequestName). Some (record { name = n; answer = x.answer; moment = moment }))
    (sym shows.0))

read_stands : (place moment word : ℕ) (peer : Peer) (key : List ℕ) (events : List Event)
    (xs : List KeptAnswer) (x : KeptAnswer)
    → answer_of events (peer, key) ≡ Some x
    → AnswersStandFor events xs
    → AnswersStandFor (event_at place moment word (note.Used peer key) ∷ events)
    (used (used_at moment x) xs)
unfolding names_used
read_stands place moment word peer key events xs x there stands =
    used_stands (peer, key) (used_at moment x) (event_at place moment word (note.Used peer key))
    events xs (answer_of-shows events (peer, key) x there).0 refl
    (read_here place moment word peer key events x there)
    (read_other place moment word peer key events) stands

pub AnswersStandFor-read : (now : ℕ) (peer : Peer) (key : List ℕ) (e : Event) (events : List Event)
    (xs : List KeptAnswer) (x : KeptAnswer)
    → e.note ≡ note.Used peer key
    → e.moment ≡ now
    → live_kept now (peer, key) xs ≡ Some x
    → AnswersStandFor events xs
    → AnswersStandFor (e ∷ events) (used (used_at now x) xs)
AnswersStandFor-read now peer key e events xs x is moment live stands =
    subst (λ (f : Event). AnswersStandFor (f ∷ events) (used (used_at now x) xs))
    (ap (λ k. event_at e.place now e.word k) (sym is)
    ∙ ap (λ m. event_at e.place m e.word e.note) (sym moment))
    (read_stands e.place now e.word peer key events xs x
    (live-shows now (peer, key) events xs x stands live) stands)

-- ---- notes that are aside

pub AnswersStandFor-aside : (e : Event) (events : List Event) (xs : List KeptAnswer)
    → about_answers e.note ≡ false
    → AnswersStandFor events xs
    → AnswersStandFor (e ∷ events) xs
unfolding names_used last_said
AnswersStandFor-aside e events xs other stands = record { kept = stands.kept ∙ by e.note other }
  where
    all : filter (λ n. true) (names_used events) ≡ names_used events
    all = filter_all (λ n. true) (names_used events) (each (names_used events))
      where
        each : (ns : List RequestName) → AllByRecursion (λ n. true ≡ true) ns
        each [] = tt
        each (n ∷ ns) = (refl, each ns)

    by : (n : Note)
        → about_answers n ≡ false
        → map (answer_of events) (take max_answers (names_used events))
        ≡ map (answer_of (event_at e.place e.moment e.word n ∷ events))
        (take max_answers (names_used (event_at e.place e.moment e.word n ∷ events)))
    by (note.Kept peer key body tag) h = absurd cc
    by (note.Used peer key) h = absurd cc
    by _ h = ap (λ ns. map (answer_of events) (take max_answers ns)) (sym all)
