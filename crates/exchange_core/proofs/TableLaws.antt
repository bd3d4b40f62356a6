-- What a table of exchanges stands for, as it is used and changed.
use Rattle.std.proofs.Common.{
  ◌≡◌,
  ℕ,
  ◌+◌,
  ◌≤◌,
  ◌<◌,
  ◌==◌,
  Bool,
  true,
  false,
  not,
  cond,
  List,
  [],
  ◌∷◌,
  ◌++◌,
  length,
  filter,
  find,
  Option,
  Some,
  None,
  option_map,
  option_and_then,
  refl,
  sym,
  ap,
  subst,
  ◌∙◌,
  lt-ltb,
  arith,
}
use Rattle.std.specs.List.{cons_option, filter_map, AllByRecursion}
use Rattle.std.proofs.lemmas.Bool.{false≢true}
use Rattle.rd_base.specs.declared.peers.Peer.{Peer}
use Rattle.rd_base.proofs.lemmas.Filters.{filter_stronger, filter_swapped}
use Rattle.rd_base.proofs.lemmas.Each.{each_one, each_filter}
use Rattle.rd_base.proofs.lemmas.Pairs.{pairs_filter, PairsByRecursion}
use Rattle.event_model.specs.declared.notes.Note.{Note}
use Rattle.event_model.specs.declared.notes.Note.TheVariants as note
use Rattle.event_model.specs.Events.{Event, is_young, exchange_lifetime, or_else, last_said}
use Rattle.event_model.specs.Repeats.{
  admission_noted,
  is_failure_of,
  admissions,
  kept,
  repeated,
  answer_noted,
  settled,
  is_full_of_exchanges,
  Exchange,
  exchange_admitted,
  exchange_of,
  exchanges_at,
  is_admitting,
}
use Rattle.exchange_core.specs.declared.writes.Keyed.{Keyed}
use Rattle.exchange_core.specs.declared.writes.Keyed.TheVariants as keyed
use Rattle.rd_base.specs.Firsts.{changed_first, without_first}
use Rattle.exchange_core.specs.Table.{
  Table,
  is_with,
  is_admitted_at,
  young,
  InOrder,
  repeating,
  repeating_young,
  repeat_among,
  answered,
}
use Rattle.event_model.specs.AdmissionOrder.{
  NoneAfter,
  IsNewPlace,
  IsOrderly,
  HasAdmission,
  is_aside,
}
use Rattle.exchange_core.specs.ExchangeEvents.{ExchangesStandFor, keyed_new, keyed_as, keyed_after}
use Rattle.exchange_core.proofs.RowLaws.{repeat_among-young}
use Rattle.exchange_core.proofs.FilterLemmas.{filter_true, found_passes}
use Rattle.exchange_core.proofs.RepeatLaws.{admits, admission_is, Follows, known}
use Rattle.exchange_core.proofs.ExchangeLaws.{
  young-exchanges,
  find-exchanges,
  length-exchanges,
  same-exchanges,
  Matches,
  each_matches,
  young-answered,
  answered-exchanges,
  young-without,
  without-exchanges,
}

-- ---- time

-- what is young later was young before
young_before : (at now moment : ℕ)
    → at ≤ now
    → is_young now moment ≡ true
    → is_young at moment ≡ true
young_before at now moment h y = grind (arith, y, h)

pub young-later : (at now : ℕ) (xs : List Exchange)
    → at ≤ now
    → young now (young at xs) ≡ young now xs
young-later at now xs h =
    filter_stronger (λ x. is_young now x.moment) (λ x. is_young at x.moment)
    (λ x y. young_before at now x.moment h y) xs

-- a table stands for the same events later
pub ExchangesStandFor-later : (at now : ℕ) (events : List Event) (t : Table)
    → at ≤ now
    → ExchangesStandFor at events t
    → ExchangesStandFor now events t
unfolding exchanges_at kept
ExchangesStandFor-later at now events t h stands = record {
  kept =
      sym (young-later at now t.exchanges h)
      ∙ (ap (young now) stands.kept
      ∙ (young-exchanges now events (filter (λ a. is_young at a.moment) (admissions events))
      ∙ ap (filter_map (exchange_of events))
      (filter_stronger (λ a. is_young now a.moment) (λ a. is_young at a.moment)
      (λ a y. young_before at now a.moment h y) (admissions events))));
}

-- and so does one that keeps of its exchanges those that are young then
pub ExchangesStandFor-aged : (at now : ℕ) (events : List Event) (t aged : Table)
    → at ≤ now
    → aged.exchanges ≡ young now t.exchanges
    → ExchangesStandFor at events t
    → ExchangesStandFor now events aged
ExchangesStandFor-aged at now events t aged h left stands =
    let later : ExchangesStandFor now events t = ExchangesStandFor-later at now events t h stands in
    record {
      kept = ap (young now) left ∙ (young-later now now t.exchanges (omega arith) ∙ later.kept);
    }

-- ---- answers

-- the answer to a repeat
answer_found : (peer : Peer) (mid : ℕ) (events : List Event) (a : Event) → admits peer mid a ≡ true
    → option_map (λ x. repeating x.reply) (exchange_of events a)
    ≡ Some (repeating (settled a.place events))
answer_found peer mid events a it =
    subst (λ n.
    option_map (λ x. repeating x.reply)
    (exchange_admitted a.moment (settled a.place events) n)
    ≡ Some (repeating (settled a.place events))) (sym (admission_is peer mid a.note it))
    refl

repeat_stands : (now : ℕ) (peer : Peer) (mid last : ℕ) (events : List Event) (t : Table)
    → InOrder last t.exchanges
    → IsOrderly events
    → NoneAfter now events
    → ExchangesStandFor now events t
    → repeat_among now peer mid t.exchanges
    ≡ option_map (λ a. repeating (settled a.place events)) (repeated now peer mid events)
unfolding exchanges_at
repeat_stands now peer mid last events t order orderly in_time stands =
    repeat_among-young now peer mid last t.exchanges order
    ∙ (ap (λ xs. option_map answer (find (is_with peer mid) xs)) stands.kept
    ∙ (ap (option_map answer) (find-exchanges peer mid events (kept now events))
    ∙ (by (find (admits peer mid) (kept now events)) refl
    ∙ ap (option_map (λ a. repeating (settled a.place events)))
    ((known events orderly).found now peer mid in_time))))
  where
    answer : Exchange → Keyed
    answer x = repeating x.reply

    by : (o : Option Event)
        → find (admits peer mid) (kept now events) ≡ o
        → option_map answer (option_and_then (exchange_of events) o)
        ≡ option_map (λ a. repeating (settled a.place events)) o
    by None there = refl
    by (Some a) there =
        answer_found peer mid events a (found_passes (admits peer mid) (kept now events) a there)

pub repeat_answers : (at now : ℕ) (peer : Peer) (mid last : ℕ) (events : List Event) (t : Table)
    (answer : Keyed)
    → at ≤ now
    → InOrder last t.exchanges
    → IsOrderly events
    → NoneAfter now events
    → ExchangesStandFor at events t
    → Some answer ≡ repeat_among now peer mid t.exchanges
    → answer ≡ keyed_after now peer mid events
unfolding keyed_after
repeat_answers at now peer mid last events t answer h order orderly in_time stands found =
    by (repeated now peer mid events) (found
    ∙ repeat_stands now peer mid last events t order orderly in_time
    (ExchangesStandFor-later at now events t h stands))
  where
    by : (r : Option Event)
        → Some answer ≡ option_map (λ a. repeating (settled a.place events)) r
        → answer ≡ keyed_as r now events
    by None e = absurd cc
    by (Some a) e = cc

-- where nothing is repeated, fullness decides
no_repeat : (now : ℕ) (peer : Peer) (mid last : ℕ) (events : List Event) (t : Table)
    → InOrder last t.exchanges
    → IsOrderly events
    → NoneAfter now events
    → ExchangesStandFor now events t
    → None ≡ repeat_among now peer mid t.exchanges
    → keyed_new (is_full_of_exchanges now events) ≡ keyed_after now peer mid events
unfolding keyed_after
no_repeat now peer mid last events t order orderly in_time stands none =
    by (repeated now peer mid events)
    (none ∙ repeat_stands now peer mid last events t order orderly in_time stands)
  where
    by : (r : Option Event)
        → None ≡ option_map (λ a. repeating (settled a.place events)) r
        → keyed_new (is_full_of_exchanges now events) ≡ keyed_as r now events
    by None e = refl
    by (Some a) e = absurd cc

-- each admission is one
each_admits : (events : List Event)
    → AllByRecursion (λ a. is_admitting a.note ≡ true) (admissions events)
unfolding admissions
each_admits [] = tt
each_admits (e ∷ before) =
    by e.note refl (filter (λ a. not (is_failure_of a.place e.note)) (admissions before))
    (each_filter (λ a. is_admitting a.note ≡ true) (λ a. not (is_failure_of a.place e.note))
    (admissions before) (each_admits before))
  where
    by : (n : Note)
        → e.note ≡ n
        → (rest : List Event)
        → AllByRecursion (λ a. is_admitting a.note ≡ true) rest
        → AllByRecursion (λ a. is_admitting a.note ≡ true) (admission_noted n e ++ rest)
    by (note.Admitted peer mid) is rest more = (ap is_admitting is, more)
    by _ is rest more = more

each_kept : (now : ℕ) (events : List Event)
    → AllByRecursion (λ a. is_admitting a.note ≡ true) (kept now events)
unfolding kept
each_kept now events =
    each_filter (λ a. is_admitting a.note ≡ true) (λ a. is_young now a.moment) (admissions events)
    (each_admits events)

-- as many exchanges are kept as admissions
length-kept : (now : ℕ) (events : List Event) (t : Table)
    → ExchangesStandFor now events t
    → length (young now t.exchanges) ≡ length (kept now events)
unfolding exchanges_at
length-kept now events t stands =
    ap length stands.kept ∙ length-exchanges events (kept now events) (each_kept now events)

pub full_answers : (at now : ℕ) (peer : Peer) (mid last : ℕ) (events : List Event) (t : Table)
    (left : List Exchange)
    → at ≤ now
    → InOrder last t.exchanges
    → IsOrderly events
    → NoneAfter now events
    → ExchangesStandFor at events t
    → None ≡ repeat_among now peer mid t.exchanges
    → left ≡ young now t.exchanges
    → 4_096 ≤ length left
    → keyed.FullExchanges ≡ keyed_after now peer mid events
full_answers at now peer mid last events t left h order orderly in_time stands none aged full =
    let later = ExchangesStandFor-later at now events t h stands in
    let many = length-kept now events t later in
    let as_many = ap length aged in
    let yes : is_full_of_exchanges now events ≡ true = grind (arith, many, as_many, full) in
    ap keyed_new (sym yes) ∙ no_repeat now peer mid last events t order orderly in_time later none

pub fresh_answers : (at now : ℕ) (peer : Peer) (mid last : ℕ) (events : List Event) (t : Table)
    (left : List Exchange)
    → at ≤ now
    → InOrder last t.exchanges
    → IsOrderly events
    → NoneAfter now events
    → ExchangesStandFor at events t
    → None ≡ repeat_among now peer mid t.exchanges
    → left ≡ young now t.exchanges
    → length left < 4_096
    → keyed.Fresh ≡ keyed_after now peer mid events
fresh_answers at now peer mid last events t left h order orderly in_time stands none aged room =
    let later = ExchangesStandFor-later at now events t h stands in
    let many = length-kept now events t later in
    let as_many = ap length aged in
    let not_full : is_full_of_exchanges now events ≡ false = grind (arith, many, as_many, room) in
    ap keyed_new (sym not_full)
    ∙ no_repeat now peer mid last events t order orderly in_time later none

-- a repeat is not new
pub repeat-not_fresh : (now : ℕ) (peer : Peer) (mid : ℕ) (xs : List Exchange) (answer : Keyed)
    → Some answer ≡ repeat_among now peer mid xs
    → answer ≡ keyed.Fresh
    → ⊥
unfolding repeat_among
repeat-not_fresh now peer mid xs answer found fresh = by (find (is_with peer mid) xs) found
  where
    same : (r : Option (List ℕ)) → Some answer ≡ Some (repeating r) → ⊥
    same None e = absurd cc
    same (Some reply) e = absurd cc

    young_or_not : (b : Bool) (x : Exchange)
        → Some answer ≡ cond b (Some (repeating x.reply)) None
        → ⊥
    young_or_not true x e = same x.reply e
    young_or_not false x e = absurd cc

    by : (o : Option Exchange) → Some answer ≡ option_and_then (repeating_young now) o → ⊥
    by None e = absurd cc
    by (Some x) e = young_or_not (is_young now x.moment) x e

-- ---- events

-- none
pub ExchangesStandFor-none : (at : ℕ) (t : Table) → t.exchanges ≡ [] → ExchangesStandFor at [] t
unfolding exchanges_at kept admissions
ExchangesStandFor-none at t none = record { kept = ap (young at) none }

-- one that says nothing of exchanges
-- An end theorem: nothing here cites it.
pub ExchangesStandFor-aside : (at : ℕ) (e : Event) (events : List Event) (t : Table)
    → is_aside e.note ≡ true
    → ExchangesStandFor at events t
    → ExchangesStandFor at (e ∷ events) t
unfolding exchanges_at kept admissions
ExchangesStandFor-aside at e events t aside stands = record {
  kept =
      stands.kept
      ∙ sym (same-exchanges e events here (each_one (λ a. answer_noted a.place e.note ≡ None)
      (λ a. silent a.place e.note aside) here)
      ∙ refl)
      ∙ sym (same e.note aside);
}
  where
    here : List Event
    here = filter (λ a. is_young at a.moment) (admissions events)

    silent : (place : ℕ) (n : Note) → is_aside n ≡ true → answer_noted place n ≡ None
    silent place (note.Settled p reply) h = absurd (false≢true h)
    silent place _ h = refl

    same : (n : Note) → is_aside n ≡ true
        → filter_map (exchange_of (e ∷ events))
        (filter (λ a. is_young at a.moment) (admission_noted n e
        ++ filter (λ a. not (is_failure_of a.place n)) (admissions events)))
        ≡ filter_map (exchange_of (e ∷ events)) here
    same (note.Admitted peer mid) h = absurd (false≢true h)
    same (note.Settled place reply) h = absurd (false≢true h)
    same (note.Failed place) h = absurd (false≢true h)
    same _ h = rw (filter_true (admissions events)) refl

-- a place that is new has no answer
unsettled : (place : ℕ) (events : List Event)
    → IsNewPlace place events
    → settled place events ≡ None
unfolding settled last_said
unsettled place [] new = refl
unsettled place (a ∷ rest) new = let first = new.0.1 in rw first (unsettled place rest new.1)

-- a write that was admitted just now
just_admitted : Peer → ℕ → ℕ → Exchange
just_admitted peer mid now = record { peer = peer; mid = mid; moment = now; reply = None }

in_flight : (now : ℕ) (peer : Peer) (mid : ℕ) (e : Event) (events : List Event)
    → e.note ≡ note.Admitted peer mid
    → e.moment ≡ now
    → IsNewPlace e.place events
    → exchange_of (e ∷ events) e ≡ Some (just_admitted peer mid now)
unfolding settled last_said just_admitted
in_flight now peer mid e events is at new =
    subst (λ n.
    exchange_admitted e.moment
    (or_else (answer_noted e.place n) (last_said (answer_noted e.place) events)) n
    ≡ Some (just_admitted peer mid now)) (sym is)
    (ap (λ reply. exchange_admitted e.moment reply (note.Admitted peer mid))
    (unsettled e.place events new)
    ∙ ap (λ m. Some (just_admitted peer mid m)) at)

-- one that admits a write
pub ExchangesStandFor-admitted : (now : ℕ) (peer : Peer) (mid : ℕ) (e : Event) (events : List Event)
    (t more : Table)
    → e.note ≡ note.Admitted peer mid
    → e.moment ≡ now
    → IsNewPlace e.place events
    → more.exchanges ≡ record { peer = peer; mid = mid; moment = now; reply = None } ∷ t.exchanges
    → ExchangesStandFor now events t
    → ExchangesStandFor now (e ∷ events) more
unfolding exchanges_at kept admissions just_admitted
ExchangesStandFor-admitted now peer mid e events t more is at new added stands = record {
  kept =
      ap (young now) added
      ∙ (rw (fresh now) (ap (λ xs. just_admitted peer mid now ∷ xs) stands.kept) ∙ sym there);
}
  where
    here : List Event
    here = filter (λ a. is_young now a.moment) (admissions events)

    fresh : (m : ℕ) → is_young m m ≡ true
    fresh m = lt-ltb m (m + exchange_lifetime) (omega arith)

    silent : (place : ℕ) → answer_noted place e.note ≡ None
    silent place = ap (answer_noted place) is

    young_now : is_young now e.moment ≡ true
    young_now = ap (is_young now) at ∙ fresh now

    there : filter_map (exchange_of (e ∷ events))
        (filter (λ a. is_young now a.moment) (admission_noted e.note e
        ++ filter (λ a. not (is_failure_of a.place e.note)) (admissions events)))
        ≡ just_admitted peer mid now ∷ filter_map (exchange_of events) here
    there =
        subst (λ n. filter_map (exchange_of (e ∷ events))
        (filter (λ a. is_young now a.moment) (admission_noted n e
        ++ filter (λ a. not (is_failure_of a.place n)) (admissions events)))
        ≡ just_admitted peer mid now ∷ filter_map (exchange_of events) here) (sym is)
        (rw (filter_true (admissions events)) (rw young_now
        (ap (λ o. cons_option o (filter_map (exchange_of (e ∷ events)) here))
        (in_flight now peer mid e events is at new)
        ∙ ap (λ xs. just_admitted peer mid now ∷ xs) (same-exchanges e events here
        (each_one (λ a. answer_noted a.place e.note ≡ None) (λ a. silent a.place) here)))))

-- one that settles a write
pub ExchangesStandFor-settled : (at place : ℕ) (peer : Peer) (mid admitted : ℕ) (reply : List ℕ)
    (e : Event) (events : List Event) (t more : Table)
    → e.note ≡ note.Settled place reply
    → IsOrderly events
    → HasAdmission place peer mid admitted events
    → more.exchanges ≡ changed_first (is_admitted_at peer mid admitted) (answered reply) t.exchanges
    → ExchangesStandFor at events t
    → ExchangesStandFor at (e ∷ events) more
unfolding exchanges_at kept admissions
ExchangesStandFor-settled at place peer mid admitted reply e events t more is orderly there changed
    stands =
    record {
      kept =
          ap (young at) changed
          ∙ (young-answered at peer mid admitted reply t.exchanges
          ∙ (ap (changed_first (is_admitted_at peer mid admitted) (answered reply)) stands.kept
          ∙ (answered-exchanges place peer mid admitted reply e events here is
          (pairs_filter Follows (λ a. is_young at a.moment) (admissions events) pairs)
          (each_filter (Matches place peer mid admitted) (λ a. is_young at a.moment)
          (admissions events)
          (each_matches place peer mid admitted (admissions events) pairs there))
          ∙ sym same)));
    }
  where
    here : List Event
    here = filter (λ a. is_young at a.moment) (admissions events)

    pairs : PairsByRecursion Follows (admissions events)
    pairs = (known events orderly).pairs

    same : filter_map (exchange_of (e ∷ events))
        (filter (λ a. is_young at a.moment) (admission_noted e.note e
        ++ filter (λ a. not (is_failure_of a.place e.note)) (admissions events)))
        ≡ filter_map (exchange_of (e ∷ events)) here
    same =
        subst (λ n. filter_map (exchange_of (e ∷ events))
        (filter (λ a. is_young at a.moment) (admission_noted n e
        ++ filter (λ a. not (is_failure_of a.place n)) (admissions events)))
        ≡ filter_map (exchange_of (e ∷ events)) here) (sym is)
        (rw (filter_true (admissions events)) refl)

-- one that ends a write because memory ran out
pub ExchangesStandFor-failed : (at place : ℕ) (peer : Peer) (mid admitted : ℕ) (e : Event)
    (events : List Event) (t fewer : Table)
    → e.note ≡ note.Failed place
    → IsOrderly events
    → HasAdmission place peer mid admitted events
    → fewer.exchanges ≡ without_first (is_admitted_at peer mid admitted) t.exchanges
    → ExchangesStandFor at events t
    → ExchangesStandFor at (e ∷ events) fewer
unfolding exchanges_at kept admissions
ExchangesStandFor-failed at place peer mid admitted e events t fewer is orderly there changed
    stands =
    record {
      kept =
          ap (young at) changed
          ∙ (young-without at peer mid admitted t.exchanges
          ∙ (ap (without_first (is_admitted_at peer mid admitted)) stands.kept
          ∙ (without-exchanges place peer mid admitted events here
          (each_filter (λ a. is_admitting a.note ≡ true) (λ a. is_young at a.moment)
          (admissions events)
          (each_admits events))
          (pairs_filter Follows (λ a. is_young at a.moment) (admissions events) pairs)
          (each_filter (Matches place peer mid admitted) (λ a. is_young at a.moment)
          (admissions events)
          (each_matches place peer mid admitted (admissions events) pairs there))
          ∙ sym same)));
    }
  where
    here : List Event
    here = filter (λ a. is_young at a.moment) (admissions events)

    left : List Event
    left = filter (λ a. not (place == a.place)) here

    pairs : PairsByRecursion Follows (admissions events)
    pairs = (known events orderly).pairs

    same : filter_map (exchange_of (e ∷ events))
        (filter (λ a. is_young at a.moment) (admission_noted e.note e
        ++ filter (λ a. not (is_failure_of a.place e.note)) (admissions events)))
        ≡ filter_map (exchange_of events) left
    same =
        subst (λ n. filter_map (exchange_of (e ∷ events))
        (filter (λ a. is_young at a.moment) (admission_noted n e
        ++ filter (λ a. not (is_failure_of a.place n)) (admissions events)))
        ≡ filter_map (exchange_of (e ∷ events)) left) (sym is)
        (ap (filter_map (exchange_of (e ∷ events)))
        (filter_swapped (λ a. is_young at a.moment) (λ a. not (place == a.place))
        (admissions events)))
        ∙ same-exchanges e events left
        (each_one (λ a. answer_noted a.place e.note ≡ None) (λ a. ap (answer_noted a.place) is)
        left)
