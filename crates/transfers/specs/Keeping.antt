-- The kept answers of a table, the latest used first: which one is found, and what keeping and
-- reading change (RFC 7959 section 2.4).
use Rattle.std.specs.Prelude.{
  ℕ,
  ◌<◌,
  Bool,
  List,
  [],
  ◌∷◌,
  take,
  find,
  map,
  Option,
  Some,
  None,
  option_map,
  option_and_then,
  unwrap_or,
  if◌then◌else◌,
}
use Rattle.std.specs.List.{AllByRecursion}
use Rattle.rd_base.specs.Firsts.{without_first}
use Rattle.event_model.specs.Same.{RequestName, is_same_request}
use Rattle.event_model.specs.Events.{is_young}
use Rattle.event_model.specs.KeptAnswers.{max_answers, Answer, KeptAnswer}

-- An answer to be kept under a name.
pub record NamedAnswer : Type 0 where
  pub name : RequestName
  pub answer : Answer

-- Returns whether this is the kept answer of a name.
abbrev pub is_kept_as : RequestName → KeptAnswer → Bool
is_kept_as name x = is_same_request name x.name

-- Returns the kept answer of a name, if its last use is young.
unfoldable pub live_kept : ℕ → RequestName → List KeptAnswer → Option KeptAnswer
live_kept now name xs =
    option_and_then (λ x. if is_young now x.moment then Some x else None)
    (find (is_kept_as name) xs)

-- Returns the kept answers after one is used. It comes first, in place of what was kept under its
-- name, and the 64 that were used last remain.
unfoldable pub used : KeptAnswer → List KeptAnswer → List KeptAnswer
used x xs = take max_answers (x ∷ without_first (is_kept_as x.name) xs)

-- Returns an answer as it is kept at a moment.
abbrev pub kept_at : ℕ → NamedAnswer → KeptAnswer
kept_at now a = record { name = a.name; answer = a.answer; moment = now }

-- Returns a kept answer after it is used at a moment.
abbrev pub used_at : ℕ → KeptAnswer → KeptAnswer
used_at now x = record { name = x.name; answer = x.answer; moment = now }

-- Returns the kept answers after that of a name is read. If it is live, it is used; otherwise
-- nothing changes.
abbrev pub after_reading : ℕ → Option KeptAnswer → List KeptAnswer → List KeptAnswer
after_reading now None xs = xs
after_reading now (Some x) xs = used (used_at now x) xs

-- Returns the kept answers after each of these is kept, one after the other.
unfoldable pub kept_each : ℕ → List NamedAnswer → List KeptAnswer → List KeptAnswer
kept_each now [] xs = xs
kept_each now (a ∷ more) xs = kept_each now more (used (kept_at now a) xs)

-- Returns the values of the pairs of a cache.
abbrev pub values : {K V : Type 0} → List (K × V) → List V
values pairs = map (λ p. p.1) pairs

-- States that the keys of the pairs of a cache are below a number.
abbrev pub AreBelow : {V : Type 0} → ℕ → List (ℕ × V) → Type 0
AreBelow number pairs = AllByRecursion (λ p. p.0 < number) pairs

-- Returns the number of the answer that is kept under a name, or `number` if there is none.
abbrev pub number_for : RequestName → ℕ → List (ℕ × KeptAnswer) → ℕ
number_for name number pairs =
    unwrap_or (option_map (λ p. p.0) (find (λ p. is_kept_as name p.1) pairs)) number
