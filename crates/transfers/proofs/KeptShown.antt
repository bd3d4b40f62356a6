-- A table shows the kept answers that live: of those that it has, the young ones, that of the
-- latest use first. An end theorem, for who keeps the table beside a journal: nothing here cites
-- it.
use Rattle.std.proofs.Common.{
  ◌≡◌,
  ℕ,
  zero,
  suc,
  Bool,
  true,
  false,
  ◌||◌,
  ◌&&◌,
  cond,
  List,
  [],
  ◌∷◌,
  ◌++◌,
  map,
  take,
  drop,
  filter,
  Option,
  Some,
  None,
  option_map,
  option_and_then,
  refl,
  sym,
  ap,
  ap₂,
  ◌∙◌,
}
use Rattle.std.specs.List.{cons_option, filter_map, AllByRecursion}
use Rattle.std.proofs.lemmas.List.Elements.{filter_map-append}
use Rattle.rd_base.proofs.lemmas.Each.{each_one, each_both}
use Rattle.rd_base.proofs.lemmas.Pairs.{PairsByRecursion}
use Rattle.event_model.specs.Same.{RequestName, is_same_request}
use Rattle.event_model.specs.Events.{Event, last_event, event_moment, last_said, is_young}
use Rattle.event_model.specs.KeptAnswers.{
  max_answers,
  Answer,
  answer_kept,
  is_named_among,
  is_use_of,
  names_used,
  kept_answer,
  KeptAnswer,
  kept_answer_of,
  kept_answers_at,
}
use Rattle.event_model.proofs.SameLaws.{is_same_request-refl}
use Rattle.transfers.specs.TransferEvents.{answer_of, AnswersStandFor}
use Rattle.transfers.proofs.KeptEvents.{
  Differ,
  other_way,
  names-differ,
  young_event,
  live_is,
  kept_used,
}

-- an answer, where its last use is young enough
abbrev if_young : ℕ → KeptAnswer → Option KeptAnswer
if_young now x = cond (is_young now x.moment) (Some x) None

-- the same of answers as of what they are found by
young_found : (now : ℕ) (f : RequestName → Option KeptAnswer) (ns : List RequestName)
    (xs : List KeptAnswer)
    → map (λ x. Some x) xs ≡ map f ns
    → filter (λ (x : KeptAnswer). is_young now x.moment) xs
    ≡ filter_map (λ n. option_and_then (if_young now) (f n)) ns
young_found now f [] [] are = refl
young_found now f [] (x ∷ xs) are = absurd cc
young_found now f (n ∷ ns) [] are = absurd cc
young_found now f (n ∷ ns) (x ∷ xs) are =
    let first : Some x ≡ f n = cc in
    let rest : map (λ y. Some y) xs ≡ map f ns = cc in
    rw (sym first) (by (is_young now x.moment) (young_found now f ns xs rest))
  where
    others : List KeptAnswer
    others = filter (λ (y : KeptAnswer). is_young now y.moment) xs

    by : (b : Bool)
        → others ≡ filter_map (λ m. option_and_then (if_young now) (f m)) ns
        → cond b (x ∷ others) others
        ≡ cons_option (cond b (Some x) None)
        (filter_map (λ m. option_and_then (if_young now) (f m)) ns)
    by true more = ap (λ ys. x ∷ ys) more
    by false more = more

-- ---- those that are among the first names

each_named : (ns : List RequestName) → AllByRecursion (λ n. is_named_among ns n ≡ true) ns
each_named [] = tt
each_named (m ∷ ns) = (rw (is_same_request-refl m) refl, later ns (each_named ns))
  where
    later : (ms : List RequestName)
        → AllByRecursion (λ n. is_named_among ns n ≡ true) ms
        → AllByRecursion (λ n. (is_same_request n m || is_named_among ns n) ≡ true) ms
    later [] each = tt
    later (k ∷ ms) each = (either (is_same_request k m) each.0, later ms each.1)
      where
        either : (b : Bool) → is_named_among ns k ≡ true → (b || is_named_among ns k) ≡ true
        either true h = refl
        either false h = h

each_drop : {A : Type 0} (P : A → Type 0) (k : ℕ) (xs : List A)
    → AllByRecursion P xs
    → AllByRecursion P (drop k xs)
each_drop P zero xs h = h
each_drop P (suc k) [] h = tt
each_drop P (suc k) (x ∷ xs) h = each_drop P k xs h.1

-- the later ones are not
each_beyond : (k : ℕ) (ns : List RequestName)
    → PairsByRecursion Differ ns
    → AllByRecursion (λ n. is_named_among (take k ns) n ≡ false) (drop k ns)
each_beyond zero ns pairs = each_one (λ n. is_named_among [] n ≡ false) (λ n. refl) ns
each_beyond (suc k) [] pairs = tt
each_beyond (suc k) (m ∷ ns) pairs =
    each_both (Differ m) (λ n. is_named_among (take k ns) n ≡ false)
    (λ n. (is_same_request n m || is_named_among (take k ns) n) ≡ false)
    (λ n d h. rw (other_way m n d, h) refl) (drop k ns) (each_drop (Differ m) k ns pairs.0)
    (each_beyond k ns pairs.1)

cut : {A : Type 0} (k : ℕ) (xs : List A) → xs ≡ take k xs ++ drop k xs
cut zero xs = refl
cut (suc k) [] = refl
cut (suc k) (x ∷ xs) = ap (λ ys. x ∷ ys) (cut k xs)

found_same : (f g : RequestName → Option KeptAnswer) (ns : List RequestName)
    → AllByRecursion (λ n. f n ≡ g n) ns
    → filter_map f ns ≡ filter_map g ns
found_same f g [] each = refl
found_same f g (n ∷ ns) each = ap₂ cons_option each.0 (found_same f g ns each.1)

found_none : (f : RequestName → Option KeptAnswer) (ns : List RequestName)
    → AllByRecursion (λ n. f n ≡ None) ns
    → filter_map f ns ≡ []
found_none f [] each = refl
found_none f (n ∷ ns) each = ap₂ cons_option each.0 (found_none f ns each.1)

-- ---- the kept answer of a name

kept_shown : (now : ℕ) (events : List Event) (name : RequestName) (among : Bool)
    → is_named_among (take max_answers (names_used events)) name ≡ among
    → kept_answer_of now events name
    ≡ cond among (option_and_then (if_young now) (answer_of events name)) None
unfolding kept_answer
kept_shown now events name among is =
    ap (λ live.
    option_map shown (option_and_then (λ (a : Answer). cond live (Some a) None)
    (last_said (answer_kept name) events)))
    (live_is now name events (last_event (is_use_of name) events) refl
    ∙ ap (λ b. b && young_event now (last_event (is_use_of name) events)) is)
    ∙ by (last_said (answer_kept name) events) refl (last_event (is_use_of name) events) refl among
  where
    shown : Answer → KeptAnswer
    shown a = record {
      name = name;
      answer = a;
      moment = event_moment (last_event (is_use_of name) events);
    }

    show_at : Option Event → Answer → KeptAnswer
    show_at last a = record { name = name; answer = a; moment = event_moment last }

    by : (o : Option Answer)
        → last_said (answer_kept name) events ≡ o
        → (last : Option Event)
        → last_event (is_use_of name) events ≡ last
        → (b : Bool)
        → option_map (show_at last)
        (option_and_then (λ (a : Answer). cond (b && young_event now last) (Some a) None) o)
        ≡ cond b (option_and_then (if_young now) (option_map (show_at last) o)) None
    by None said last there true = refl
    by None said last there false = refl
    by (Some a) said None there b = absurd (kept_used name events a said there)
    by (Some a) said (Some e) there false = refl
    by (Some a) said (Some e) there true = young (is_young now e.moment) refl
      where
        young : (y : Bool) → is_young now e.moment ≡ y
            → option_map (show_at (Some e))
            (option_and_then (λ (b : Answer). cond (is_young now e.moment) (Some b) None)
            (Some a))
            ≡ option_and_then (if_young now) (option_map (show_at (Some e)) (Some a))
        young true y = rw y refl
        young false y = rw y refl

pub kept_answers-are : (now : ℕ) (events : List Event) (xs : List KeptAnswer)
    → AnswersStandFor events xs
    → filter (λ (x : KeptAnswer). is_young now x.moment) xs ≡ kept_answers_at now events
unfolding kept_answers_at
kept_answers-are now events xs stands =
    young_found now (answer_of events) first xs stands.kept
    ∙ sym (ap (filter_map kept) (cut 64 names)
    ∙ (filter_map-append kept first rest
    ∙ (ap (λ ys. filter_map kept first ++ ys)
    (found_none kept rest (none_beyond rest (each_beyond 64 names (names-differ events))))
    ∙ (nothing_more (filter_map kept first)
    ∙ found_same kept (λ n. option_and_then (if_young now) (answer_of events n)) first
    (all_first first (each_named first))))))
  where
    names : List RequestName
    names = names_used events

    first : List RequestName
    first = take 64 names

    rest : List RequestName
    rest = drop 64 names

    kept : RequestName → Option KeptAnswer
    kept n = kept_answer_of now events n

    nothing_more : (ys : List KeptAnswer) → ys ++ [] ≡ ys
    nothing_more [] = refl
    nothing_more (y ∷ ys) = ap (λ zs. y ∷ zs) (nothing_more ys)

    none_beyond : (ns : List RequestName)
        → AllByRecursion (λ n. is_named_among first n ≡ false) ns
        → AllByRecursion (λ n. kept n ≡ None) ns
    none_beyond [] each = tt
    none_beyond (n ∷ ns) each = (kept_shown now events n false each.0, none_beyond ns each.1)

    all_first : (ns : List RequestName)
        → AllByRecursion (λ n. is_named_among first n ≡ true) ns
        → AllByRecursion (λ n. kept n ≡ option_and_then (if_young now) (answer_of events n)) ns
    all_first [] each = tt
    all_first (n ∷ ns) each = (kept_shown now events n true each.0, all_first ns each.1)
