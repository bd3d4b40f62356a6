-- What is decided is put aside.
use Rattle.std.proofs.Common.{
  ◌≡◌,
  ◌<◌,
  ◌≤◌,
  ◌+◌,
  inl,
  inr,
  ℕ,
  zero,
  suc,
  List,
  [],
  ◌∷◌,
  length,
  take,
  Option,
  Some,
  None,
  is_some,
  true,
  false,
  refl,
  sym,
  ap,
  subst,
  ◌∙◌,
  arith,
  add-one,
}
use Rattle.std.specs.List.{slice_get, remove}
use Rattle.std.specs.Prelude.{slice_set, slice_index_or, ⊤}
use Rattle.client_model.specs.declared.asks.Ask.{Ask}
use Rattle.client_model.specs.declared.outcomes.Outcome.{Outcome}
use Rattle.commissioner.specs.declared.lines.Line.{Line}
use Rattle.commissioner.specs.declared.steps.Step.{Step}
use Rattle.commissioner.specs.Shares.{said}
use Rattle.commissioner.specs.Lines.{IsOpen, IsLine}
use Rattle.commissioner.specs.Happening.{AreOpen, AreLines, is_unsaid, KeepsDecided}

nothing : {A : Type 0} (lines : List A) (k : ℕ) (line : A)
    → lines ≡ []
    → slice_get lines k ≡ Some line
    → ⊥
nothing [] k line e there = cc
nothing (x ∷ lines) k line e there = cc

number_of : (past : List Step) (ask : Ask) (i : ℕ) (line : Line)
    → IsLine past ask i line
    → line.number ≡ i
number_of past ask i line (inl opens) = opens.number
number_of past ask i line (inr over) = over.number

-- what a line says that is decided
said_of : (past : List Step) (ask : Ask) (i : ℕ) (line : Line) (o : Outcome)
    → IsLine past ask i line
    → line.outcome ≡ Some o
    → said ask i past ≡ Some o
said_of past ask i line o (inl opens) e = let none = opens.outcome in absurd cc
said_of past ask i line o (inr over) e = let kept = over.kept in over.said ∙ cc

open_of : (past : List Step) (ask : Ask) (i : ℕ) (line : Line)
    → IsLine past ask i line
    → line.outcome ≡ None
    → IsOpen past ask i line
open_of past ask i line (inl opens) e = opens
open_of past ask i line (inr over) e = let kept = over.kept in absurd cc

-- the number of a line is none of an earlier ask
number_least : (asks : List Ask) (i : ℕ) (past : List Step) (lines : List Line)
    (outcomes : List (Option Outcome)) (k : ℕ) (line : Line)
    → AreLines past asks i lines outcomes
    → slice_get lines k ≡ Some line
    → i ≤ line.number
number_least [] i past lines outcomes k line are there =
    absurd (nothing lines k line are.0 there)
number_least (ask ∷ asks) i past lines [] k line are there = absurd are
number_least (ask ∷ asks) i past lines (Some o ∷ outcomes) k line are there =
    let more = number_least asks (suc i) past lines outcomes k line are.1 there in
    omega (arith, more)
number_least (ask ∷ asks) i past [] (None ∷ outcomes) k line are there = absurd are
number_least (ask ∷ asks) i past (x ∷ lines) (None ∷ outcomes) zero line are there =
    let same : x ≡ line = cc in
    let number : line.number ≡ i =
    subst (λ (l : Line). l.number ≡ i) same (number_of past ask i x are.0) in
    omega (arith, number)
number_least (ask ∷ asks) i past (x ∷ lines) (None ∷ outcomes) (suc k) line are there =
    let more = number_least asks (suc i) past lines outcomes k line are.1 there in
    omega (arith, more)

-- it is the number of an ask
pub number_below : (asks : List Ask) (i : ℕ) (past : List Step) (lines : List Line)
    (outcomes : List (Option Outcome)) (k d : ℕ) (line : Line)
    → AreLines past asks i lines outcomes
    → slice_get lines k ≡ Some line
    → line.number ≡ d + i
    → d < length outcomes
number_below [] i past lines outcomes k d line are there is =
    absurd (nothing lines k line are.0 there)
number_below (ask ∷ asks) i past lines [] k d line are there is = absurd are
number_below (ask ∷ asks) i past lines (Some o ∷ outcomes) k zero line are there is =
    omega arith
number_below (ask ∷ asks) i past lines (Some o ∷ outcomes) k (suc d) line are there is =
    let more =
    number_below asks (suc i) past lines outcomes k d line are.1 there (omega (arith, is)) in
    omega (arith, more)
number_below (ask ∷ asks) i past [] (None ∷ outcomes) k d line are there is = absurd are
number_below (ask ∷ asks) i past (x ∷ lines) (None ∷ outcomes) k zero line are there is =
    omega arith
number_below (ask ∷ asks) i past (x ∷ lines) (None ∷ outcomes) zero
    (suc d) line are there is =
    let same : x ≡ line = cc in
    let number : line.number ≡ i =
    subst (λ (l : Line). l.number ≡ i) same (number_of past ask i x are.0) in
    absurd (omega (arith, number, is))
number_below (ask ∷ asks) i past (x ∷ lines) (None ∷ outcomes) (suc k)
    (suc d) line are there is =
    let more =
    number_below asks (suc i) past lines outcomes k d line are.1 there (omega (arith, is)) in
    omega (arith, more)

-- one that is decided is put aside
pub aside_next : (asks : List Ask) (i : ℕ) (past : List Step) (lines : List Line)
    (outcomes : List (Option Outcome)) (k d : ℕ) (line : Line) (o : Outcome)
    → AreLines past asks i lines outcomes
    → slice_get lines k ≡ Some line
    → line.outcome ≡ Some o
    → line.number ≡ d + i
    → AreLines past asks i (remove lines k) (slice_set outcomes d (Some o))
aside_next [] i past lines outcomes k d line o are there decided is =
    absurd (nothing lines k line are.0 there)
aside_next (ask ∷ asks) i past lines [] k d line o are there decided is = absurd are
aside_next (ask ∷ asks) i past lines (Some p ∷ outcomes) k zero line o are there decided is =
    let least : suc i ≤ line.number =
    number_least asks (suc i) past lines outcomes k line are.1 there in
    absurd (omega (arith, least, is))
aside_next (ask ∷ asks) i past lines (Some p ∷ outcomes) k
    (suc d) line o are there decided is = (
      are.0,
      aside_next asks (suc i) past lines outcomes k d line o are.1 there decided
          (omega (arith, is)),
    )
aside_next (ask ∷ asks) i past [] (None ∷ outcomes) k d line o are there decided is = absurd are
aside_next (ask ∷ asks) i past (x ∷ lines)
    (None ∷ outcomes) zero zero line o are there decided
    is =
    let same : x ≡ line = cc in (
      said_of past ask i line o (subst (λ (l : Line). IsLine past ask i l) same are.0) decided,
      are.1,
    )
aside_next (ask ∷ asks) i past (x ∷ lines) (None ∷ outcomes) zero
    (suc d) line o are there decided
    is =
    let same : x ≡ line = cc in
    let number : line.number ≡ i =
    subst (λ (l : Line). l.number ≡ i) same (number_of past ask i x are.0) in
    absurd (omega (arith, number, is))
aside_next (ask ∷ asks) i past (x ∷ lines) (None ∷ outcomes)
    (suc k) zero line o are there decided
    is =
    let least : suc i ≤ line.number =
    number_least asks (suc i) past lines outcomes k line are.1 there in
    absurd (omega (arith, least, is))
aside_next (ask ∷ asks) i past (x ∷ lines) (None ∷ outcomes) (suc k) (suc d) line o are there
    decided is = (
      are.0,
      aside_next asks (suc i) past lines outcomes k d line o are.1 there decided
          (omega (arith, is)),
    )

-- none of these is decided
abbrev pub NoneDecided : List Line → Type 0
NoneDecided [] = ⊤
NoneDecided (line ∷ lines) = (line.outcome ≡ None) × NoneDecided lines

pub none_more : (lines : List Line) (k : ℕ) (line : Line)
    → slice_get lines k ≡ Some line
    → line.outcome ≡ None
    → NoneDecided (take k lines)
    → NoneDecided (take (suc k) lines)
none_more [] k line there none before = absurd cc
none_more (x ∷ lines) zero line there none before =
    let same : x ≡ line = cc in
    (subst (λ (l : Line). l.outcome ≡ None) (sym same) none, tt)
none_more (x ∷ lines) (suc k) line there none before =
    (before.0, none_more lines k line there none before.1)

pub take_removed : (lines : List Line) (k : ℕ)
    → k < length lines
    → take k (remove lines k) ≡ take k lines
take_removed [] k inside = absurd (omega (arith, inside))
take_removed (x ∷ lines) zero inside = refl
take_removed (x ∷ lines) (suc k) inside =
    ap (λ (ls : List Line). x ∷ ls) (take_removed lines k (omega (arith, inside)))

pub all_open : (asks : List Ask) (i : ℕ) (past : List Step) (lines : List Line)
    (outcomes : List (Option Outcome)) (k : ℕ)
    → AreLines past asks i lines outcomes
    → length lines ≤ k
    → NoneDecided (take k lines)
    → AreOpen past asks i lines outcomes
all_open [] i past lines outcomes k are all none = are
all_open (ask ∷ asks) i past lines [] k are all none = absurd are
all_open (ask ∷ asks) i past lines (Some o ∷ outcomes) k are all none =
    (are.0, all_open asks (suc i) past lines outcomes k are.1 all none)
all_open (ask ∷ asks) i past [] (None ∷ outcomes) k are all none = absurd are
all_open (ask ∷ asks) i past (x ∷ lines) (None ∷ outcomes) zero are all none =
    absurd (omega (arith, all))
all_open (ask ∷ asks) i past (x ∷ lines) (None ∷ outcomes) (suc k) are all none = (
  open_of past ask i x are.0 none.0,
  all_open asks (suc i) past lines outcomes k are.1 (omega (arith, all)) none.1,
)

-- ---- what is said

pub none_open : (asks : List Ask) (i : ℕ) (past : List Step) (outcomes : List (Option Outcome))
    → AreOpen past asks i [] outcomes
    → is_unsaid outcomes ≡ false
none_open [] i past outcomes are =
    subst (λ (os : List (Option Outcome)). is_unsaid os ≡ false) (sym are.1) refl
none_open (ask ∷ asks) i past [] are = refl
none_open (ask ∷ asks) i past (Some o ∷ outcomes) are =
    none_open asks (suc i) past outcomes are.1
none_open (ask ∷ asks) i past (None ∷ outcomes) are = absurd are

pub some_open : (asks : List Ask) (i : ℕ) (past : List Step) (line : Line) (lines : List Line)
    (outcomes : List (Option Outcome))
    → AreOpen past asks i (line ∷ lines) outcomes
    → is_unsaid outcomes ≡ true
some_open [] i past line lines outcomes are = let no = are.0 in absurd cc
some_open (ask ∷ asks) i past line lines [] are = absurd are
some_open (ask ∷ asks) i past line lines (Some o ∷ outcomes) are =
    some_open asks (suc i) past line lines outcomes are.1
some_open (ask ∷ asks) i past line lines (None ∷ outcomes) are = refl

-- ---- the loop

pub there_at : {A : Type 0} (lines : List A) (at : ℕ) (line : A)
    → at < length lines
    → line ≡ slice_index_or lines at line
    → slice_get lines at ≡ Some line
there_at [] at line inside is = absurd (omega (arith, inside))
there_at (x ∷ lines) zero line inside is = ap (λ y. Some y) (sym is)
there_at (x ∷ lines) (suc at) line inside is = there_at lines at line (omega (arith, inside)) is

pub none_next : (lines : List Line) (k n : ℕ) (line : Line)
    → n ≡ k + 1
    → slice_get lines k ≡ Some line
    → line.outcome ≡ None
    → NoneDecided (take k lines)
    → NoneDecided (take n lines)
none_next lines k n line e there none before =
    subst (λ (m : ℕ). NoneDecided (take m lines)) (sym e)
    (rw add-one (none_more lines k line there none before))

pub none_here : (o : Option Outcome) → is_some o ≡ false → o ≡ None
none_here None e = refl
none_here (Some o) e = absurd cc

some_here : (o : Option Outcome) → is_some o ≡ true → (p : Outcome) × (o ≡ Some p)
some_here None e = absurd cc
some_here (Some o) e = (o, refl)

-- what is put aside of the line at an index
pub aside_put : (asks : List Ask) (past : List Step) (lines after : List Line)
    (outcomes outcomes_after : List (Option Outcome)) (k : ℕ) (line : Line)
    → AreLines past asks 0 lines outcomes
    → slice_get lines k ≡ Some line
    → is_some line.outcome ≡ true
    → after ≡ remove lines k
    → outcomes_after ≡ slice_set outcomes line.number line.outcome
    → AreLines past asks 0 after outcomes_after
aside_put asks past lines after outcomes outcomes_after k line are there decided removed settled =
    let own = some_here line.outcome decided in
    subst (λ (os : List (Option Outcome)). AreLines past asks 0 after os)
    (sym (settled ∙ ap (slice_set outcomes line.number) own.1))
    (subst (λ (ls : List Line). AreLines past asks 0 ls
    (slice_set outcomes line.number (Some own.0))) (sym removed)
    (aside_next asks 0 past lines outcomes k line.number line own.0 are there own.1
    (omega arith)))

pub none_kept : (lines after : List Line) (k : ℕ)
    → k < length lines
    → after ≡ remove lines k
    → NoneDecided (take k lines)
    → NoneDecided (take k after)
none_kept lines after k inside removed none =
    subst (λ (ls : List Line). NoneDecided (take k ls)) (sym removed)
    (subst NoneDecided (sym (take_removed lines k inside)) none)

pub one_there : (lines : List Line) (k : ℕ) (x y : Line)
    → slice_get lines k ≡ Some x
    → slice_get lines k ≡ Some y
    → x ≡ y
one_there lines k x y e f = let same : Some x ≡ Some y = sym e ∙ f in cc

-- ---- what was decided is kept

pub keeps_same : (os : List (Option Outcome)) → KeepsDecided os os
keeps_same [] = refl
keeps_same (None ∷ os) = keeps_same os
keeps_same (Some o ∷ os) = (refl, keeps_same os)

pub keeps_both : (a b c : List (Option Outcome))
    → KeepsDecided a b
    → KeepsDecided b c
    → KeepsDecided a c
keeps_both [] b c k m =
    subst (λ (os : List (Option Outcome)). KeepsDecided os c) k m
keeps_both (x ∷ a) [] c k m = absurd k
keeps_both (x ∷ a) (y ∷ b) [] k m = absurd m
keeps_both (None ∷ a) (None ∷ b) (z ∷ c) k m = keeps_both a b c k m
keeps_both (None ∷ a) (Some y ∷ b) (z ∷ c) k m = keeps_both a b c k m.1
keeps_both (Some o ∷ a) (None ∷ b) (z ∷ c) k m = let e = k.0 in absurd cc
keeps_both (Some o ∷ a) (Some y ∷ b) (z ∷ c) k m = (m.0 ∙ k.0, keeps_both a b c k.1 m.1)

-- the outcome of the ask that a line stands for was not there
keeps_next : (asks : List Ask) (i : ℕ) (past : List Step) (lines : List Line)
    (outcomes : List (Option Outcome)) (k d : ℕ) (line : Line) (x : Option Outcome)
    → AreLines past asks i lines outcomes
    → slice_get lines k ≡ Some line
    → line.number ≡ d + i
    → KeepsDecided outcomes (slice_set outcomes d x)
keeps_next [] i past lines outcomes k d line x are there is =
    absurd (nothing lines k line are.0 there)
keeps_next (ask ∷ asks) i past lines [] k d line x are there is = absurd are
keeps_next (ask ∷ asks) i past lines (Some p ∷ outcomes) k zero line x are there is =
    let least : suc i ≤ line.number =
    number_least asks (suc i) past lines outcomes k line are.1 there in
    absurd (omega (arith, least, is))
keeps_next (ask ∷ asks) i past lines (Some p ∷ outcomes) k (suc d) line x are there is = (
  refl,
  keeps_next asks (suc i) past lines outcomes k d line x are.1 there (omega (arith, is)),
)
keeps_next (ask ∷ asks) i past [] (None ∷ outcomes) k d line x are there is = absurd are
keeps_next (ask ∷ asks) i past (y ∷ lines) (None ∷ outcomes) k zero line x are there is =
    keeps_same outcomes
keeps_next (ask ∷ asks) i past (y ∷ lines) (None ∷ outcomes) zero
    (suc d) line x are there is =
    let same : y ≡ line = cc in
    let number : line.number ≡ i =
    subst (λ (l : Line). l.number ≡ i) same (number_of past ask i y are.0) in
    absurd (omega (arith, number, is))
keeps_next (ask ∷ asks) i past (y ∷ lines) (None ∷ outcomes) (suc k)
    (suc d) line x are there is =
    keeps_next asks (suc i) past lines outcomes k d line x are.1 there (omega (arith, is))

pub aside_keeps : (first : List (Option Outcome)) (asks : List Ask) (past : List Step)
    (lines : List Line) (outcomes after : List (Option Outcome)) (k : ℕ) (line : Line)
    → KeepsDecided first outcomes
    → AreLines past asks 0 lines outcomes
    → slice_get lines k ≡ Some line
    → after ≡ slice_set outcomes line.number line.outcome
    → KeepsDecided first after
aside_keeps first asks past lines outcomes after k line before are there settled =
    keeps_both first outcomes after before
    (subst (λ (os : List (Option Outcome)). KeepsDecided outcomes os) (sym settled)
    (keeps_next asks 0 past lines outcomes k line.number line line.outcome are there
    (omega arith)))
