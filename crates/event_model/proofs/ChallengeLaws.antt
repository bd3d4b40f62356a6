-- Challenges: what one event more leaves of them and adds, and that a value is good exactly where
-- it answers the first of the latest challenges that went to its peer. End theorems, for what keeps
-- challenges: nothing here cites them.
use Rattle.std.proofs.Common.{
  ◌≡◌,
  ℕ,
  zero,
  suc,
  ◌+◌,
  ◌%◌,
  ◌^◌,
  ◌/◌,
  ◌<◌,
  ◌≢◌,
  Bool,
  true,
  false,
  ◌&&◌,
  cond,
  List,
  [],
  ◌∷◌,
  ◌++◌,
  drop,
  length,
  take,
  filter_map,
  Option,
  Some,
  None,
  bytes_eq,
  refl,
  ap,
  sym,
  ◌∙◌,
  arith,
}
use Rattle.std.specs.Prelude.{nat_lt, find}
use Rattle.std.specs.Int.{bytes_high_first}
use Rattle.std.proofs.Common.{inl, inr}
use Rattle.std.proofs.lemmas.List.{length-append}
use Rattle.std.proofs.lemmas.List.Elements.{filter-append}
use Rattle.std.proofs.lemmas.Bool.{cases_lt, lt-ltb, le-ltb}
use Rattle.rd_base.specs.declared.peers.Peer.{Peer}
use Rattle.event_model.specs.declared.notes.Note.{Note}
use Rattle.event_model.specs.declared.notes.Note.TheVariants as note
use Rattle.event_model.specs.Same.{is_same_peer}
use Rattle.event_model.specs.Events.{Event, last_event, events_since, is_young}
use Rattle.event_model.specs.Challenges.{
  is_challenge,
  is_challenge_of,
  challenges,
  challenges_made,
  next_challenge,
  is_answered_by,
  is_good,
  Challenge,
  max_challenges,
  challenge_noted,
  latest_challenges,
}
use Rattle.event_model.proofs.NotedLaws.{event_at}

-- ---- one event more

-- what is left of a front that one stands before
taken_again : {A : Type 0} (n : ℕ) (xs : List A) → take n (take (suc n) xs) ≡ take n xs
taken_again zero xs = refl
taken_again (suc n) [] = refl
taken_again {A} (suc n) (x ∷ xs) = ap (λ (ys : List A). x ∷ ys) (taken_again n xs)

taken_more : {A : Type 0} (n : ℕ) (x : A) (xs : List A)
    → take n (x ∷ xs) ≡ take n (x ∷ take n xs)
taken_more zero x xs = refl
taken_more {A} (suc n) x xs = ap (λ (ys : List A). x ∷ ys) (sym (taken_again n xs))

-- the challenges that events make, the latest first
abbrev made_by : List Event → List Challenge
made_by events = filter_map (λ e. challenge_noted e.moment e.note) events

-- a challenge more is the latest, and of as many as are kept the oldest goes
pub latest_challenges-Challenged : (e : Event) (peer : Peer) (value : List ℕ)
    (before : List Event)
    → e.note ≡ note.Challenged peer value
    → latest_challenges (e ∷ before)
    ≡ take max_challenges (record { peer = peer; value = value; moment = e.moment }
    ∷ latest_challenges before)
unfolding latest_challenges
latest_challenges-Challenged e peer value before it =
    rw it
    (taken_more max_challenges (record { peer = peer; value = value; moment = e.moment })
    (made_by before))

-- and it is counted
challenges_counted : (e : Event) (before : List Event)
    → length (challenges (e ∷ before))
    ≡ cond (is_challenge e.note) (length (challenges before) + 1) (length (challenges before))
unfolding challenges
challenges_counted e before = by (is_challenge e.note)
  where
    by : (b : Bool)
        → length (cond b (e ∷ challenges before) (challenges before))
        ≡ cond b (length (challenges before) + 1) (length (challenges before))
    by true = omega arith
    by false = refl

pub challenges_made-event : (e : Event) (before : List Event)
    → challenges_made (e ∷ before)
    ≡ cond (is_challenge e.note) ((challenges_made before + 1) % 2 ^ 32) (challenges_made before)
unfolding challenges_made
challenges_made-event e before =
    ap (λ n. n % 2 ^ 32) (challenges_counted e before)
    ∙ by (is_challenge e.note) (length (challenges before))
  where
    by : (b : Bool) (n : ℕ)
        → cond b (n + 1) n % 2 ^ 32 ≡ cond b ((n % 2 ^ 32 + 1) % 2 ^ 32) (n % 2 ^ 32)
    by true n = omega arith
    by false n = refl

pub challenges_made-Challenged : (e : Event) (peer : Peer) (value : List ℕ) (before : List Event)
    → e.note ≡ note.Challenged peer value
    → challenges_made (e ∷ before) ≡ (challenges_made before + 1) % 2 ^ 32
challenges_made-Challenged e peer value before it =
    challenges_made-event e before
    ∙ ap (λ n.
    cond (is_challenge n) ((challenges_made before + 1) % 2 ^ 32) (challenges_made before)) it

-- ---- the next value

-- four octets tell a number below 2^32
four_tell : (n m : ℕ)
    → bytes_high_first 4 (n % 2 ^ 32) ≡ bytes_high_first 4 (m % 2 ^ 32)
    → n % 2 ^ 32 ≡ m % 2 ^ 32
four_tell n m e =
    let a : n % 2 ^ 32 / 256 ^ 3 % 256 ≡ m % 2 ^ 32 / 256 ^ 3 % 256 = cc in
    let b : n % 2 ^ 32 / 256 ^ 2 % 256 ≡ m % 2 ^ 32 / 256 ^ 2 % 256 = cc in
    let c : n % 2 ^ 32 / 256 ^ 1 % 256 ≡ m % 2 ^ 32 / 256 ^ 1 % 256 = cc in
    let d : n % 2 ^ 32 % 256 ≡ m % 2 ^ 32 % 256 = cc in
    omega (arith, a, b, c, d)

-- a value is another one than those of the 2^32 - 1 challenges before, whatever the words are
pub next_challenge-apart : (word other : ℕ) (between before : List Event)
    → 0 < length (challenges between)
    → length (challenges between) < 2 ^ 32
    → next_challenge word (between ++ before) ≢ next_challenge other before
unfolding next_challenge challenges_made challenges
next_challenge-apart word other between before some few e =
    let k : length (challenges (between ++ before))
    ≡ length (challenges between) + length (challenges before) =
    ap length (filter-append (λ (x : Event). is_challenge x.note) between before)
    ∙ length-append (challenges between) (challenges before) in
    let same = four_tell (length (challenges (between ++ before))) (length (challenges before))
    (ap (drop 4) e) in
    omega (arith, some, few, k, same)

-- ---- which value is good

-- a value answers a challenge at a moment
abbrev pub answers_found : ℕ → List ℕ → Option Challenge → Bool
answers_found now value None = false
answers_found now value (Some c) = is_young now c.moment && bytes_eq c.value value

-- nothing is within none
none_within : (k : ℕ) (b : Bool) → (nat_lt k 0 && b) ≡ false
none_within k b = rw (le-ltb k 0 (omega arith)) refl

-- one more on both sides
one_more : (k n : ℕ) → nat_lt (suc k) (suc n) ≡ nat_lt k n
one_more k n = elim (cases_lt k n) [
  | inl h ↦ lt-ltb (suc k) (suc n) (omega (arith, h)) ∙ sym (lt-ltb k n h)
  | inr h ↦ le-ltb (suc k) (suc n) (omega (arith, h)) ∙ sym (le-ltb k n h)
]

module _ (now : ℕ) (peer : Peer) (value : List ℕ) where
  -- the value answers the last challenge of the peer, after which fewer than so many were made
  abbrev is_within : ℕ → List Event → Bool
  is_within n events =
      nat_lt (length (challenges (events_since (is_challenge_of peer) events))) n
      && is_answered_by now value (last_event (is_challenge_of peer) events)

  -- it answers the first of so many that went to the peer
  abbrev is_in_front : ℕ → List Event → Bool
  is_in_front n events =
      answers_found now value
      (find (λ (c : Challenge). is_same_peer c.peer peer) (take n (made_by events)))

  found_in_front : (events : List Event) (n : ℕ) → is_within n events ≡ is_in_front n events
  unfolding challenges events_since
  found_in_front [] zero = none_within 0 false
  found_in_front [] (suc n) = rw (lt-ltb 0 (suc n) (omega arith)) refl
  found_in_front (e ∷ before) n = by e.note n (found_in_front before)
    where
      count : List Event → ℕ
      count events = length (challenges (events_since (is_challenge_of peer) events))

      last : List Event → Option Event
      last events = last_event (is_challenge_of peer) events

      by_peer : (p : Peer) (v : List ℕ) (b : Bool)
          → is_same_peer p peer ≡ b
          → (n : ℕ)
          → ((m : ℕ) → is_within m before ≡ is_in_front m before)
          → is_within n (event_at e.place e.moment e.word (note.Challenged p v) ∷ before)
          ≡ is_in_front n (event_at e.place e.moment e.word (note.Challenged p v) ∷ before)
      by_peer p v true it zero more = rw it refl
      by_peer p v true it (suc n) more = rw it (rw (lt-ltb 0 (suc n) (omega arith)) refl)
      by_peer p v false it zero more =
          rw it (none_within (suc (count before)) (is_answered_by now value (last before)))
      by_peer p v false it (suc n) more =
          rw it
          (ap (λ b. b && is_answered_by now value (last before)) (one_more (count before) n)
          ∙ more n)

      by : (x : Note) (n : ℕ)
          → ((m : ℕ) → is_within m before ≡ is_in_front m before)
          → is_within n (event_at e.place e.moment e.word x ∷ before)
          ≡ is_in_front n (event_at e.place e.moment e.word x ∷ before)
      by (note.Challenged p v) n more = by_peer p v (is_same_peer p peer) refl n more
      by _ n more = more n

-- a value is good exactly where it answers the first of the latest challenges that went to its peer
pub is_good-found : (now : ℕ) (peer : Peer) (value : List ℕ) (events : List Event)
    → is_good now peer value events
    ≡ answers_found now value
    (find (λ (c : Challenge). is_same_peer c.peer peer) (latest_challenges events))
unfolding is_good latest_challenges
is_good-found now peer value events = found_in_front now peer value events max_challenges
