-- The two counters with one event more: how many Observe values were given, and how many fetches
-- started; and what each gives next. End theorems, for what keeps the events of a journal: nothing
-- here cites them.
use Rattle.std.proofs.Common.{
  ◌≡◌,
  ℕ,
  ◌+◌,
  ◌/◌,
  ◌%◌,
  ◌^◌,
  ◌==◌,
  Bool,
  true,
  false,
  cond,
  List,
  [],
  ◌∷◌,
  refl,
  sym,
  ap,
  ◌∙◌,
  arith,
}
use Rattle.std.specs.Prelude.{count_by}
use Rattle.std.specs.Int.{bytes_high_first}
use Rattle.std.proofs.lemmas.List.Sums.{sum_by-cons}
use Rattle.rd_base.specs.declared.parameters.RegParams.{RegParams}
use Rattle.rd_base.specs.declared.peers.Peer.{Peer}
use Rattle.event_model.specs.declared.notes.Note.{Note}
use Rattle.event_model.specs.declared.notes.Note.TheVariants as note
use Rattle.event_model.specs.Events.{Event, noted}
use Rattle.event_model.specs.Observers.{is_forming, observe_value, observe_values_sent}
use Rattle.event_model.specs.Fetches.{is_start, next_token, fetches_started}
use Rattle.event_model.proofs.NotedLaws.{event_at}

-- ---- counting

-- a count that goes over the end of 64 bits
wrapped_more : (n : ℕ) → (1 + n) % 2 ^ 64 ≡ (n % 2 ^ 64 + 1) % 2 ^ 64
wrapped_more n = omega arith

counted : (b : Bool) (n : ℕ)
    → cond b (1 + n) n % 2 ^ 64 ≡ cond b ((n % 2 ^ 64 + 1) % 2 ^ 64) (n % 2 ^ 64)
counted true n = wrapped_more n
counted false n = refl

-- one element more
count_more : {A : Type 0} (kind : A → Bool) (x : A) (xs : List A)
    → count_by kind (x ∷ xs) ≡ cond (kind x) (1 + count_by kind xs) (count_by kind xs)
count_more kind x xs = sum_by-cons (λ a. cond (kind a) 1 0) x xs ∙ by (kind x) (count_by kind xs)
  where
    by : (b : Bool) (n : ℕ) → cond b 1 0 + n ≡ cond b (1 + n) n
    by true n = refl
    by false n = omega arith

-- how many events are of a kind, with the notes of a row
counted_noted : (kind : Note → Bool) (place moment word : ℕ) (notes : List Note)
    (before : List Event)
    → count_by (λ (e : Event). kind e.note) (noted place moment word notes before)
    ≡ count_by (λ (e : Event). kind e.note) before + count_by kind notes
counted_noted kind place moment word [] before = omega arith
counted_noted kind place moment word (n ∷ notes) before =
    counted_noted kind place moment word notes (event_at place moment word n ∷ before)
    ∙ (ap (λ k. k + count_by kind notes)
    (count_more (λ (e : Event). kind e.note) (event_at place moment word n) before)
    ∙ (by (kind n) (count_by (λ (e : Event). kind e.note) before) (count_by kind notes)
    ∙ ap (λ k. count_by (λ (e : Event). kind e.note) before + k) (sym (count_more kind n notes))))
  where
    by : (b : Bool) (x y : ℕ) → cond b (1 + x) x + y ≡ x + cond b (1 + y) y
    by true x y = omega arith
    by false x y = refl

wrapped_sum : (n m : ℕ) → (n + m) % 2 ^ 64 ≡ (n % 2 ^ 64 + m) % 2 ^ 64
wrapped_sum n m = omega arith

-- ---- Observe values

pub observe_values_sent-event : (e : Event) (before : List Event)
    → observe_values_sent (e ∷ before)
    ≡ cond (is_forming e.note) ((observe_values_sent before + 1) % 2 ^ 64)
    (observe_values_sent before)
unfolding observe_values_sent
observe_values_sent-event e before =
    ap (λ n. n % 2 ^ 64) (count_more (λ (x : Event). is_forming x.note) e before)
    ∙ counted (is_forming e.note) (count_by (λ (x : Event). is_forming x.note) before)

pub observe_values_sent-noted : (place moment word : ℕ) (notes : List Note) (before : List Event)
    → observe_values_sent (noted place moment word notes before)
    ≡ (observe_values_sent before + count_by is_forming notes) % 2 ^ 64
unfolding observe_values_sent
observe_values_sent-noted place moment word notes before =
    ap (λ n. n % 2 ^ 64) (counted_noted is_forming place moment word notes before)
    ∙ wrapped_sum (count_by (λ (e : Event). is_forming e.note) before) (count_by is_forming notes)

-- the next one
pub observe_value-sent : (events : List Event)
    → observe_value events ≡ (observe_values_sent events + 1) % 2 ^ 24
unfolding observe_value observe_values_sent
observe_value-sent events = low (count_by (λ (e : Event). is_forming e.note) events)
  where
    low : (n : ℕ) → (n + 1) % 2 ^ 24 ≡ (n % 2 ^ 64 + 1) % 2 ^ 24
    low n = omega arith

-- ---- fetches

pub fetches_started-event : (e : Event) (before : List Event)
    → fetches_started (e ∷ before)
    ≡ cond (is_start e.note) ((fetches_started before + 1) % 2 ^ 64) (fetches_started before)
unfolding fetches_started
fetches_started-event e before =
    ap (λ n. n % 2 ^ 64) (count_more (λ (x : Event). is_start x.note) e before)
    ∙ counted (is_start e.note) (count_by (λ (x : Event). is_start x.note) before)

-- a request for a block after the first starts none
pub fetches_started-Asked : (place moment word : ℕ) (peer : Peer) (token : List ℕ) (mid : ℕ)
    (params : RegParams) (number : ℕ) (before : List Event)
    → fetches_started
    (event_at place moment word (note.Asked peer token mid params number) ∷ before)
    ≡ cond (number == 0) ((fetches_started before + 1) % 2 ^ 64) (fetches_started before)
fetches_started-Asked place moment word peer token mid params number before =
    fetches_started-event (event_at place moment word (note.Asked peer token mid params number))
    before

pub fetches_started-noted : (place moment word : ℕ) (notes : List Note) (before : List Event)
    → fetches_started (noted place moment word notes before)
    ≡ (fetches_started before + count_by is_start notes) % 2 ^ 64
unfolding fetches_started
fetches_started-noted place moment word notes before =
    ap (λ n. n % 2 ^ 64) (counted_noted is_start place moment word notes before)
    ∙ wrapped_sum (count_by (λ (e : Event). is_start e.note) before) (count_by is_start notes)

-- the token of the next one
pub next_token-started : (events : List Event)
    → next_token events ≡ bytes_high_first 8 ((fetches_started events + 1) % 2 ^ 64)
unfolding next_token fetches_started
next_token-started events =
    low (count_by (λ (e : Event). is_start e.note) events + 1)
    ∙ ap (λ n. bytes_high_first 8 n)
    (wrapped_sum (count_by (λ (e : Event). is_start e.note) events) 1)
  where
    low : (n : ℕ) → bytes_high_first 8 n ≡ bytes_high_first 8 (n % 2 ^ 64)
    low n =
        let a : n / 256 ^ 7 % 256 ≡ n % 2 ^ 64 / 256 ^ 7 % 256 = omega arith in
        let b : n / 256 ^ 6 % 256 ≡ n % 2 ^ 64 / 256 ^ 6 % 256 = omega arith in
        let c : n / 256 ^ 5 % 256 ≡ n % 2 ^ 64 / 256 ^ 5 % 256 = omega arith in
        let d : n / 256 ^ 4 % 256 ≡ n % 2 ^ 64 / 256 ^ 4 % 256 = omega arith in
        let e : n / 256 ^ 3 % 256 ≡ n % 2 ^ 64 / 256 ^ 3 % 256 = omega arith in
        let f : n / 256 ^ 2 % 256 ≡ n % 2 ^ 64 / 256 ^ 2 % 256 = omega arith in
        let g : n / 256 ^ 1 % 256 ≡ n % 2 ^ 64 / 256 ^ 1 % 256 = omega arith in
        let h : n % 256 ≡ n % 2 ^ 64 % 256 = omega arith in
        cc
