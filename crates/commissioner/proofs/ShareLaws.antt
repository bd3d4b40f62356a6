-- How the share of an ask changes by a step.
use Rattle.std.proofs.Common.{
  ◌≡◌,
  ℕ,
  ◌==◌,
  false,
  List,
  [],
  ◌∷◌,
  Option,
  Some,
  None,
  refl,
  sym,
  subst,
}
use Rattle.std.proofs.lemmas.Bool.{eq-eqb}
use Rattle.rd_base.specs.declared.moments.Moment.{Moment}
use Rattle.client_model.specs.declared.asks.Ask.{Ask}
use Rattle.client_model.specs.declared.events.Event.{Event}
use Rattle.client_model.specs.declared.outcomes.Outcome.{Outcome}
use Rattle.client_model.specs.Sending.{Sent}
use Rattle.registrant.specs.Talking.{asked_now}
use Rattle.commissioner.specs.declared.steps.Step.{Step}
use Rattle.commissioner.specs.declared.steps.Step.TheVariants as step
use Rattle.commissioner.specs.Shares.{
  Share,
  token_of,
  share_with,
  share,
  said,
  verdict_of,
  sent_by,
}

-- the talk of another ask begins
pub share_other : (ask : Ask) (i n : ℕ) (now : Moment) (word : ℕ) (past : List Step)
    → (n == i) ≡ false
    → share ask i (step.Began n now word ∷ past) ≡ share ask i past
unfolding share
share_other ask i n now word past e = rw e refl

-- its own begins
pub share_own : (ask : Ask) (i n : ℕ) (now : Moment) (word : ℕ) (past : List Step)
    → n ≡ i
    → share ask i (step.Began n now word ∷ past)
    ≡ Some (record { asked = asked_now ask i (token_of i) now.0 word; events = [] })
unfolding share
share_own ask i n now word past e = rw (eq-eqb n i e) refl

-- an event came
pub share_event : (ask : Ask) (i : ℕ) (e : Event) (past : List Step)
    → share ask i (step.Happened e ∷ past)
    ≡ share_with ask i (step.Happened e) (share ask i past)
unfolding share
share_event ask i e past = refl

-- what is decided stays so
stays_by : (ask : Ask) (i : ℕ) (e : Event) (s : Option Share) (o : Outcome)
    → verdict_of s ≡ Some o
    → verdict_of (share_with ask i (step.Happened e) s) ≡ Some o
stays_by ask i e None o said = absurd cc
stays_by ask i e (Some s) o said = rw said said

pub said_stays : (ask : Ask) (i : ℕ) (e : Event) (past : List Step) (o : Outcome)
    → said ask i past ≡ Some o
    → said ask i (step.Happened e ∷ past) ≡ Some o
said_stays ask i e past o h =
    subst (λ (s : Option Share). verdict_of s ≡ Some o) (sym (share_event ask i e past))
    (stays_by ask i e (share ask i past) o h)

pub said_other : (ask : Ask) (i n : ℕ) (now : Moment) (word : ℕ) (past : List Step)
    (o : Option Outcome)
    → (n == i) ≡ false
    → said ask i past ≡ o
    → said ask i (step.Began n now word ∷ past) ≡ o
said_other ask i n now word past o e h =
    subst (λ (s : Option Share). verdict_of s ≡ o) (sym (share_other ask i n now word past e)) h

-- nothing is sent for it
silent_by : (ask : Ask) (i : ℕ) (e : Event) (s : Option Share) (o : Outcome)
    → verdict_of s ≡ Some o
    → ◌≡◌ {A = List Sent} (sent_by ask i e s) []
silent_by ask i e None o said = refl
silent_by ask i e (Some s) o said = rw said refl

pub said_silent : (ask : Ask) (i : ℕ) (e : Event) (past : List Step) (o : Outcome)
    → said ask i past ≡ Some o
    → ◌≡◌ {A = List Sent} (sent_by ask i e (share ask i past)) []
said_silent ask i e past o h = silent_by ask i e (share ask i past) o h
