-- What a list of asks comes to.
use Rattle.std.proofs.Common.{
  ◌≡◌,
  ◌<◌,
  ◌≤◌,
  ◌+◌,
  inl,
  inr,
  ℕ,
  suc,
  Bool,
  true,
  false,
  List,
  [],
  ◌∷◌,
  ◌++◌,
  length,
  take,
  drop,
  Option,
  Some,
  None,
  Result,
  Ok,
  Err,
  refl,
  sym,
  ap,
  subst,
  ◌∙◌,
  arith,
  append_assoc,
}
use Rattle.rd_base.specs.declared.out_of_memory.Starved.{Starved}
use Rattle.client_model.specs.declared.asks.Ask.{Ask}
use Rattle.client_model.specs.declared.events.Event.{Event}
use Rattle.client_model.specs.declared.outcomes.Outcome.{Outcome}
use Rattle.client_model.specs.Requests.{CanBeSent}
use Rattle.registrant.specs.declared.turns.TellFault.{TellFault}
use Rattle.registrant.specs.declared.turns.TellFault.TheVariants as fault
use Rattle.registrant.specs.Turns.{Outside, Fails}
use Rattle.commissioner.specs.declared.lines.Line.{Line}
use Rattle.commissioner.specs.declared.polls.Polled.TheVariants as polled
use Rattle.commissioner.specs.declared.steps.Step.{Step}
use Rattle.commissioner.specs.declared.steps.Step.TheVariants as step
use Rattle.commissioner.specs.Shares.{share, said_all}
use Rattle.commissioner.specs.Lines.{IsOpen, IsLost}
use Rattle.commissioner.specs.Happening.{
  Comes,
  Happens,
  HappensAll,
  AllBegan,
  Unheard,
  AreOpen,
  AreLines,
  AllBegun,
  AreBegun,
  IsTaken,
  is_unsaid,
}
use Rattle.commissioner.specs.Commissioning.{
  Ends,
  IsMade,
  StandsFor,
  IsGiven,
  IsTurnBy,
  IsPolled,
  CountsFault,
}
use Rattle.commissioner.proofs.BeginLaws.{none_due, kept_said}
use Rattle.commissioner.proofs.AsideLaws.{none_open, some_open}

-- ---- one after the other

pub happens_both : (asks : List Ask) (past xs ys : List Step) (a b c : Outside)
    → HappensAll asks past xs a b
    → HappensAll asks (xs ++ past) ys b c
    → HappensAll asks past (ys ++ xs) a c
happens_both asks past xs [] a b c h g =
    subst (λ (o : Outside). HappensAll asks past xs a o) (sym g) h
happens_both asks past xs (s ∷ ys) a b c h g = (
  g.0,
  happens_both asks past xs ys a b g.0 h g.1,
  subst (λ (p : List Step). Happens asks p s g.0 c) (sym (append_assoc ys xs past)) g.2,
)

-- what is made from later on is made from before
pub made_later : (asks : List Ask) (past xs : List Step) (outcomes : List (Option Outcome))
    (f : Option TellFault) (a b c : Outside)
    → HappensAll asks past xs a b
    → IsMade asks (xs ++ past) outcomes f b c
    → IsMade asks past outcomes f a c
made_later asks past xs outcomes f a b c h made =
    let same = append_assoc made.more xs past in
    record {
      more = made.more ++ xs;
      last = made.last;
      happens = happens_both asks past xs made.more a b made.last h made.happens;
      said = subst (λ (p : List Step). outcomes ≡ said_all asks 0 p) (sym same) made.said;
      ends = subst (λ (p : List Step). Ends asks p f made.last c) (sym same) made.ends;
    }

-- ---- a poll

-- what a poll comes to that is over
abbrev pub PolledOver : List Ask → List Step → List (Option Outcome) → Option TellFault
    → Outside → Outside → Type 0
PolledOver asks past outcomes f a c =
    (made : IsMade asks past outcomes f a c) × IsTurnBy f made.more

-- talks began, an event came, and what was decided is put aside
pub polled_going : (asks : List Ask) (past xs : List Step) (e : Event) (line : Line)
    (lines : List Line) (outcomes : List (Option Outcome)) (a b c : Outside)
    → HappensAll asks past xs a b
    → Comes asks (xs ++ past) e b c
    → AreOpen (step.Happened e ∷ (xs ++ past)) asks 0 (line ∷ lines) outcomes
    → AllBegan xs
    → IsPolled asks past polled.Going (line ∷ lines) outcomes a c
polled_going asks past xs e line lines outcomes a b c h comes are began = (
  step.Happened e ∷ xs,
  (b, h, comes),
  record {
    kept = are;
    some = some_open asks 0 (step.Happened e ∷ (xs ++ past)) line lines outcomes are;
  },
  began,
)

unsaid_as : (asks : List Ask) (past : List Step) (outcomes : List (Option Outcome))
    (b : Bool)
    → outcomes ≡ said_all asks 0 past
    → is_unsaid outcomes ≡ b
    → is_unsaid (said_all asks 0 past) ≡ b
unsaid_as asks past outcomes b e h =
    subst (λ (os : List (Option Outcome)). is_unsaid os ≡ b) e h

pub polled_over : (asks : List Ask) (past xs : List Step) (e : Event)
    (outcomes : List (Option Outcome)) (a b c : Outside)
    → HappensAll asks past xs a b
    → Comes asks (xs ++ past) e b c
    → AreOpen (step.Happened e ∷ (xs ++ past)) asks 0 [] outcomes
    → AllBegan xs
    → PolledOver asks past outcomes None a c
polled_over asks past xs e outcomes a b c h comes are began =
    let said = kept_said asks 0 (step.Happened e ∷ (xs ++ past)) [] outcomes are in (
      record {
        more = step.Happened e ∷ xs;
        last = c;
        happens = (b, h, comes);
        said = said;
        ends = (
          unsaid_as asks (step.Happened e ∷ (xs ++ past)) outcomes false said
              (none_open asks 0 (step.Happened e ∷ (xs ++ past)) outcomes are),
          refl,
        );
      },
      began,
    )

pub polled_link : (asks : List Ask) (past xs : List Step) (lines : List Line)
    (outcomes : List (Option Outcome)) (a b c : Outside)
    → is_unsaid outcomes ≡ true
    → HappensAll asks past xs a b
    → AreOpen (xs ++ past) asks 0 lines outcomes
    → AllBegun [] lines
    → Fails b c
    → AllBegan xs
    → PolledOver asks past outcomes (Some fault.Link) a c
polled_link asks past xs lines outcomes a b c some h are begun fails began =
    let said = kept_said asks 0 (xs ++ past) lines outcomes are in (
      record {
        more = xs;
        last = b;
        happens = h;
        said = said;
        ends = (
          unsaid_as asks (xs ++ past) outcomes true said some,
          none_due [] asks 0 (xs ++ past) lines outcomes are begun,
          fails,
        );
      },
      began,
    )

pub polled_unheard : (asks : List Ask) (past xs : List Step) (lines : List Line)
    (outcomes : List (Option Outcome)) (a b c : Outside)
    → is_unsaid outcomes ≡ true
    → HappensAll asks past xs a b
    → AreOpen (xs ++ past) asks 0 lines outcomes
    → AllBegun [] lines
    → Unheard asks (xs ++ past) b c
    → AllBegan xs
    → PolledOver asks past outcomes (Some fault.Starved) a c
polled_unheard asks past xs lines outcomes a b c some h are begun unheard began =
    let said = kept_said asks 0 (xs ++ past) lines outcomes are in (
      record {
        more = xs;
        last = b;
        happens = h;
        said = said;
        ends = (
          unsaid_as asks (xs ++ past) outcomes true said some,
          inl (none_due [] asks 0 (xs ++ past) lines outcomes are begun, unheard),
        );
      },
      began,
    )

pub polled_lost : (asks : List Ask) (past xs : List Step)
    (outcomes : List (Option Outcome)) (a b c : Outside)
    → is_unsaid outcomes ≡ true
    → HappensAll asks past xs a b
    → outcomes ≡ said_all asks 0 (xs ++ past)
    → IsLost b c
    → AllBegan xs
    → PolledOver asks past outcomes (Some fault.Starved) a c
polled_lost asks past xs outcomes a b c some h said lost began = (
  record {
    more = xs;
    last = b;
    happens = h;
    said = said;
    ends = (unsaid_as asks (xs ++ past) outcomes true said some, inr lost);
  },
  began,
)

-- ---- the beginning

abbrev pub line_of : ℕ → Ask → Line
line_of n ask = record {
  number = n;
  to = ask.to;
  ask = Some ask;
  talk = None;
  outcome = None;
}

first_open : (ask : Ask) (i : ℕ) → CanBeSent ask → IsOpen [] ask i (line_of i ask)
unfolding share
first_open ask i can = record {
  number = refl;
  to = refl;
  outcome = refl;
  stage = (refl, can);
}

-- a line more
pub open_more : (asks : List Ask) (i n : ℕ) (ask : Ask) (lines : List Line)
    (outcomes : List (Option Outcome))
    → AreOpen [] asks i lines outcomes
    → CanBeSent ask
    → n ≡ i + length asks
    → AreOpen [] (asks ++ ask ∷ []) i (lines ++ line_of n ask ∷ []) (outcomes ++ None ∷ [])
open_more [] i n ask lines outcomes are can is =
    subst (λ (ls : List Line). AreOpen [] (ask ∷ []) i (ls ++ line_of n ask ∷ [])
    (outcomes ++ None ∷ [])) (sym are.0)
    (subst (λ (os : List (Option Outcome)). AreOpen [] (ask ∷ []) i (line_of n ask ∷ [])
    (os ++ None ∷ [])) (sym are.1) (
      subst (λ (m : ℕ). IsOpen [] ask i (line_of m ask)) (the_number is) (first_open ask i can),
      (refl, refl),
    ))
  where
    the_number : n ≡ i + length {A = Ask} [] → i ≡ n
    the_number e = omega (arith, e)
open_more (a ∷ asks) i n ask lines [] are can is = absurd are
open_more (a ∷ asks) i n ask lines (Some o ∷ outcomes) are can is =
    (are.0, open_more asks (suc i) n ask lines outcomes are.1 can (omega (arith, is)))
open_more (a ∷ asks) i n ask [] (None ∷ outcomes) are can is = absurd are
open_more (a ∷ asks) i n ask (line ∷ lines) (None ∷ outcomes) are can is =
    (are.0, open_more asks (suc i) n ask lines outcomes are.1 can (omega (arith, is)))

pub lines_next : (begun : List Ask) (ask : Ask) (n : ℕ) (line : Line) (lines after : List Line)
    (outcomes outcomes_after : List (Option Outcome))
    → AreOpen [] begun 0 lines outcomes
    → CanBeSent ask
    → n ≡ length begun
    → line ≡ line_of n ask
    → after ≡ lines ++ line ∷ []
    → outcomes_after ≡ outcomes ++ None ∷ []
    → AreOpen [] (begun ++ ask ∷ []) 0 after outcomes_after
lines_next begun ask n line lines after outcomes outcomes_after are can is of added added_too =
    subst (λ (os : List (Option Outcome)). AreOpen [] (begun ++ ask ∷ []) 0 after os)
    (sym added_too)
    (subst (λ (ls : List Line). AreOpen [] (begun ++ ask ∷ []) 0 ls (outcomes ++ None ∷ []))
    (sym added)
    (subst (λ (l : Line). AreOpen [] (begun ++ ask ∷ []) 0 (lines ++ l ∷ [])
    (outcomes ++ None ∷ [])) (sym of)
    (open_more begun 0 n ask lines outcomes are can (omega (arith, is)))))

pub unsaid_first : (asks : List Ask) (i : ℕ) (lines : List Line)
    (outcomes : List (Option Outcome))
    → 1 ≤ length asks
    → AreOpen [] asks i lines outcomes
    → is_unsaid outcomes ≡ true
unfolding share
unsaid_first [] i lines outcomes some are = absurd (omega (arith, some))
unsaid_first (ask ∷ asks) i lines [] some are = absurd are
unsaid_first (ask ∷ asks) i lines (Some o ∷ outcomes) some are = let no = are.0 in absurd cc
unsaid_first (ask ∷ asks) i lines (None ∷ outcomes) some are = refl

-- ---- what a slice writes back

take_front : (xs ys : List Line) → take (length xs) (xs ++ ys) ≡ xs
take_front [] [] = refl
take_front [] (y ∷ ys) = refl
take_front (x ∷ xs) ys = ap (λ (zs : List Line). x ∷ zs) (take_front xs ys)

pub written : (n : ℕ) (new old : List Line)
    → n ≡ length old
    → length new ≡ length old
    → take n (new ++ drop (length new) old) ≡ new
written n new old is same =
    subst (λ (m : ℕ). take m (new ++ drop (length new) old) ≡ new) (same ∙ sym is)
    (take_front new (drop (length new) old))

pub counts_later : (f : Option TellFault) (a b c : ℕ)
    → b ≡ a
    → CountsFault b c f
    → CountsFault a c f
counts_later f a b c same counts = subst (λ (n : ℕ). CountsFault n c f) same counts

-- what it gives later it gives from before a poll on
pub given_later : (old new : List Line) (kept later outcomes : List (Option Outcome))
    (f : Option TellFault) (a b c : Outside)
    → ((asks : List Ask) (past : List Step)
    → StandsFor asks past old kept
    → IsPolled asks past polled.Going new later a b)
    → IsGiven new later outcomes f b c
    → IsGiven old kept outcomes f a c
given_later old new kept later outcomes f a b c polls given = λ asks past stands.
    let p = polls asks past stands in
    made_later asks past p.0 outcomes f a b c p.1 (given asks (p.0 ++ past) p.2)

-- ---- the parts of a poll

-- talks began, and then a receive was made
pub record Stepped
    (asks : List Ask)
    (past : List Step)
    (outcomes : List (Option Outcome))
    (r : Result Unit TellFault)
    (lines : List Line)
    (a c : Outside)
    : Type 0 where
  pub more : List Step
  pub between : Outside
  pub begun : List Line
  pub happens : HappensAll asks past more a between
  pub kept : AreOpen (more ++ past) asks 0 begun outcomes
  pub all : AllBegun [] begun
  pub began : AllBegan more
  pub taken : IsTaken asks (more ++ past) outcomes r lines between c

pub stepped : (asks : List Ask) (past : List Step) (items lent begun again lines : List Line)
    (outcomes : List (Option Outcome)) (r : Result Unit TellFault) (a b c : Outside)
    → StandsFor asks past items outcomes
    → lent ≡ items
    → again ≡ begun
    → ((asks : List Ask) (past : List Step) (outcomes : List (Option Outcome))
    → AreOpen past asks 0 lent outcomes
    → AreBegun {E = Starved} asks past outcomes (Ok tt) begun a b)
    → ((asks : List Ask) (past : List Step) (outcomes : List (Option Outcome))
    → AreOpen past asks 0 again outcomes
    → AllBegun [] again
    → is_unsaid outcomes ≡ true
    → IsTaken asks past outcomes r lines b c)
    → Stepped asks past outcomes r lines a c
stepped asks past items lent begun again lines outcomes r a b c stands same same_again begins
    takes =
    let so =
    begins asks past outcomes
    (subst (λ (ls : List Line). AreOpen past asks 0 ls outcomes) (sym same) stands.kept) in
    record {
      more = so.0;
      between = b;
      begun = begun;
      happens = so.1;
      kept = so.2;
      all = so.3;
      began = so.4;
      taken =
          takes asks (so.0 ++ past) outcomes
          (subst (λ (ls : List Line). AreOpen (so.0 ++ past) asks 0 ls outcomes) (sym same_again)
          so.2)
          (subst (λ (ls : List Line). AllBegun [] ls) (sym same_again) so.3)
          stands.some;
    }

pub stepped_fault : (asks : List Ask) (past : List Step) (items lines : List Line)
    (outcomes : List (Option Outcome)) (f : TellFault) (a c : Outside)
    → StandsFor asks past items outcomes
    → Stepped asks past outcomes (Err f) lines a c
    → PolledOver asks past outcomes (Some f) a c
stepped_fault asks past items lines outcomes fault.Link a c stands s =
    polled_link asks past s.more s.begun outcomes a s.between c stands.some s.happens s.kept s.all
    s.taken s.began
stepped_fault asks past items lines outcomes fault.Starved a c stands s =
    polled_unheard asks past s.more s.begun outcomes a s.between c stands.some s.happens s.kept
    s.all s.taken s.began

-- the lines that are put aside then
pub stepped_lines : (asks : List Ask) (past : List Step) (lines written : List Line)
    (outcomes : List (Option Outcome)) (u : Unit) (a c : Outside)
    → written ≡ lines
    → Stepped asks past outcomes (Ok u) lines a c
    → (later : List Step) × AreLines later asks 0 written outcomes
stepped_lines asks past lines written outcomes u a c same s = (
  step.Happened s.taken.0 ∷ (s.more ++ past),
  subst (λ (ls : List Line). AreLines (step.Happened s.taken.0 ∷ (s.more ++ past)) asks 0 ls
      outcomes) (sym same) s.taken.2,
)

abbrev pub PutsAside : List Line → List (Option Outcome) → List Line → List (Option Outcome)
    → Type 0
PutsAside lines outcomes after outcomes_after =
    (asks : List Ask) (past : List Step)
    → AreLines past asks 0 lines outcomes
    → AreOpen past asks 0 after outcomes_after

put_open : (asks : List Ask) (past : List Step) (lines written after : List Line)
    (outcomes outcomes_after : List (Option Outcome)) (e : Event)
    → written ≡ lines
    → PutsAside written outcomes after outcomes_after
    → AreLines (step.Happened e ∷ past) asks 0 lines outcomes
    → AreOpen (step.Happened e ∷ past) asks 0 after outcomes_after
put_open asks past lines written after outcomes outcomes_after e same puts are =
    puts asks (step.Happened e ∷ past)
    (subst (λ (ls : List Line). AreLines (step.Happened e ∷ past) asks 0 ls outcomes) (sym same)
    are)

pub stepped_over : (asks : List Ask) (past : List Step) (lines written after : List Line)
    (outcomes outcomes_after : List (Option Outcome)) (u : Unit) (a c : Outside)
    → written ≡ lines
    → PutsAside written outcomes after outcomes_after
    → length after ≡ 0
    → Stepped asks past outcomes (Ok u) lines a c
    → PolledOver asks past outcomes_after None a c
stepped_over asks past lines written [] outcomes outcomes_after u a c same puts none s =
    polled_over asks past s.more s.taken.0 outcomes_after a s.between c s.happens s.taken.1
    (put_open asks (s.more ++ past) lines written [] outcomes outcomes_after s.taken.0 same puts
    s.taken.2)
    s.began
stepped_over asks past lines written (x ∷ after) outcomes outcomes_after u a c same puts none s =
    absurd (omega (arith, none))

pub stepped_going : (asks : List Ask) (past : List Step) (lines written after : List Line)
    (outcomes outcomes_after : List (Option Outcome)) (u : Unit) (a c : Outside)
    → written ≡ lines
    → PutsAside written outcomes after outcomes_after
    → 0 < length after
    → Stepped asks past outcomes (Ok u) lines a c
    → IsPolled asks past polled.Going after outcomes_after a c
stepped_going asks past lines written [] outcomes outcomes_after u a c same puts some s =
    absurd (omega (arith, some))
stepped_going asks past lines written (x ∷ after) outcomes outcomes_after u a c same puts some s =
    polled_going asks past s.more s.taken.0 x after outcomes_after a s.between c s.happens s.taken.1
    (put_open asks (s.more ++ past) lines written
    (x ∷ after) outcomes outcomes_after s.taken.0 same
    puts s.taken.2)
    s.began

-- memory ran out where a talk was to begin
pub stepped_lost : (asks : List Ask) (past : List Step) (items lent lines : List Line)
    (outcomes : List (Option Outcome)) (a c : Outside)
    → StandsFor asks past items outcomes
    → lent ≡ items
    → ((asks : List Ask) (past : List Step) (outcomes : List (Option Outcome))
    → AreOpen past asks 0 lent outcomes
    → (more : List Step)
    × (last : Outside)
    × HappensAll asks past more a last
    × (outcomes ≡ said_all asks 0 (more ++ past))
    × IsLost last c
    × AllBegan more)
    → PolledOver asks past outcomes (Some fault.Starved) a c
stepped_lost asks past items lent lines outcomes a c stands same begins =
    let so =
    begins asks past outcomes
    (subst (λ (ls : List Line). AreOpen past asks 0 ls outcomes) (sym same) stands.kept) in
    polled_lost asks past so.0 outcomes a so.1 c stands.some so.2 so.3 so.4 so.5
