-- What was printed, poll after poll, and what the making of a list comes to.
use Rattle.std.proofs.Common.{
  ◌≡◌,
  ◌+◌,
  inl,
  inr,
  ℕ,
  zero,
  suc,
  Bor,
  false,
  List,
  [],
  ◌∷◌,
  ◌++◌,
  take,
  Option,
  Some,
  None,
  Result,
  Ok,
  Err,
  refl,
  sym,
  ap,
  subst,
  ◌∙◌,
  arith,
  append_assoc,
  append-nil,
}
use Rattle.std.specs.Prelude.{MatchOption}
use Rattle.std.specs.Slice.{IsItemAt}
use Rattle.std.proofs.lemmas.Option.{slice_get_past}
use Rattle.std.specs.List.{slice_get}
use Rattle.std.specs.Io.KnownBytes.{Appends}
use Rattle.std.proofs.KnownBytes.{Appends-nil, Appends-trans}
use Rattle.client_model.specs.declared.asks.Ask.{Ask}
use Rattle.client_model.specs.declared.outcomes.Outcome.{Outcome}
use Rattle.registrant.specs.declared.turns.TellFault.{TellFault}
use Rattle.registrant.specs.declared.turns.TellFault.TheVariants as fault
use Rattle.registrant.specs.Turns.{Outside}
use Rattle.commissioner.specs.declared.lines.Line.{Line}
use Rattle.commissioner.specs.declared.polls.Polled.TheVariants as polled
use Rattle.commissioner.specs.declared.steps.Step.{Step}
use Rattle.commissioner.specs.Shares.{share, said, said_all}
use Rattle.commissioner.specs.Happening.{HappensAll, AreOpen, is_unsaid, KeepsDecided}
use Rattle.commissioner.specs.Commissioning.{Ends, IsMade, StandsFor, IsPolled, KeepsPolled}
use Rattle.commissioner.proofs.AsideLaws.{there_at}
use Rattle.commissioner.proofs.BeginLaws.{kept_said}
use Rattle.commissioner.proofs.MadeLaws.{happens_both}
use Rattle.commission_list.specs.declared.making.PrintFault.{PrintFault}
use Rattle.commission_list.specs.declared.making.PrintFault.TheVariants as unprinted
use Rattle.commission_list.specs.declared.statuses.CommissionStatus.{CommissionStatus}
use Rattle.commission_list.specs.declared.statuses.CommissionStatus.TheVariants as status
use Rattle.commission_list.specs.Endings.{IsFrontOf}
use Rattle.commission_list.specs.Printing.{line_text, front_text}
use Rattle.commission_list.specs.Makings.{
  lines_after,
  IsStarved,
  Makes,
  MakesOut,
  MakesBack,
  Printed,
  is_there,
  IsWrittenOn,
  Prints,
  IsStepped,
  status_of,
  print_status,
}
use Rattle.commission_list.proofs.Fronts.{front_self, front_trans, front_take, front_behind}

-- ---- what is printed

-- one line more
printed_more : (n : ℕ) (os : List (Option Outcome)) (k : ℕ) (text : List ℕ) (o : Outcome)
    → Printed n os k text
    → slice_get os k ≡ Some (Some o)
    → Printed n os (suc k) (text ++ line_text (n + k) o)
printed_more n [] zero text o p there = absurd cc
printed_more n (None ∷ os) zero text o p there = absurd cc
printed_more n (Some q ∷ os) zero text o p there =
    let same : q ≡ o = cc in
    let number : n + 0 ≡ n = omega arith in (
      [],
      rw (p, number, same) (sym (append-nil (line_text n o))),
      refl,
    )
printed_more n [] (suc k) text o p there = absurd p
printed_more n (None ∷ os) (suc k) text o p there = absurd p
printed_more n (Some q ∷ os) (suc k) text o p there =
    let number : n + suc k ≡ (n + 1) + k = omega arith in
    let line = line_text (n + suc k) o in (
      p.0 ++ line,
      ap (λ (t : List ℕ). t ++ line) p.1 ∙ append_assoc (line_text n q) p.0 line,
      subst (λ (m : ℕ). Printed (n + 1) os (suc k) (p.0 ++ line_text m o)) (sym number)
          (printed_more (n + 1) os k p.0 o p.2 there),
    )

-- as the code numbers lines
pub printed_next : (os : List (Option Outcome)) (k next number : ℕ) (text : List ℕ)
    (o : Outcome)
    → Printed 1 os k text
    → slice_get os k ≡ Some (Some o)
    → next ≡ k + 1
    → number ≡ k + 1
    → Printed 1 os next (text ++ line_text number o)
printed_next os k next number text o p there e f =
    let one : next ≡ suc k = omega (arith, e) in
    let same : number ≡ 1 + k = omega (arith, f) in
    rw (one, same) (printed_more 1 os k text o p there)

pub printed_front : (n : ℕ) (os : List (Option Outcome)) (k : ℕ) (text : List ℕ)
    → Printed n os k text
    → is_there (slice_get os k) ≡ false
    → text ≡ front_text n os
printed_front n [] zero text p end = p
printed_front n (None ∷ os) zero text p end = p
printed_front n (Some o ∷ os) zero text p end = absurd cc
printed_front n [] (suc k) text p end = absurd p
printed_front n (None ∷ os) (suc k) text p end = absurd p
printed_front n (Some o ∷ os) (suc k) text p end =
    p.1 ∙ ap (λ (t : List ℕ). line_text n o ++ t) (printed_front (n + 1) os k p.0 p.2 end)

pub printed_part : (n : ℕ) (os : List (Option Outcome)) (k : ℕ) (text : List ℕ)
    → Printed n os k text
    → IsFrontOf text (front_text n os)
printed_part n os zero text p =
    subst (λ (t : List ℕ). IsFrontOf t (front_text n os)) (sym p) (front_text n os, refl)
printed_part n [] (suc k) text p = absurd p
printed_part n (None ∷ os) (suc k) text p = absurd p
printed_part n (Some o ∷ os) (suc k) text p =
    subst (λ (t : List ℕ). IsFrontOf t (line_text n o ++ front_text (n + 1) os)) (sym p.1)
    (front_behind (line_text n o) p.0 (front_text (n + 1) os)
    (printed_part (n + 1) os k p.0 p.2))

-- what is decided later leaves it as it is
pub printed_kept : (n : ℕ) (os after : List (Option Outcome)) (k : ℕ) (text : List ℕ)
    → Printed n os k text
    → KeepsDecided os after
    → Printed n after k text
printed_kept n os after zero text p keeps = p
printed_kept n [] after (suc k) text p keeps = absurd p
printed_kept n (None ∷ os) after (suc k) text p keeps = absurd p
printed_kept n (Some o ∷ os) [] (suc k) text p keeps = absurd keeps
printed_kept n (Some o ∷ os) (x ∷ after) (suc k) text p keeps =
    subst (λ (y : Option Outcome). Printed n (y ∷ after) (suc k) text) (sym keeps.0) (
      p.0,
      p.1,
      printed_kept (n + 1) os after k p.0 p.2 keeps.1,
    )

-- ---- the loop over outcomes

-- what a look at an index gives
pub outcome_none : (os : List (Option Outcome)) (k : ℕ) (r : Option (Bor (Option Outcome)))
    → IsItemAt os k r
    → r ≡ None
    → is_there (slice_get os k) ≡ false
outcome_none os k r item e =
    let past = (subst (λ (x : Option (Bor (Option Outcome))). IsItemAt os k x) e item).3 in
    subst (λ (x : Option (Option Outcome)). is_there x ≡ false)
    (sym (slice_get_past os k past)) refl

pub outcome_some : (os : List (Option Outcome)) (k : ℕ) (r : Option (Bor (Option Outcome)))
    (x : Bor (Option Outcome)) (y : Option Outcome)
    → IsItemAt os k r
    → r ≡ Some x
    → x.now ≡ y
    → slice_get os k ≡ Some y
outcome_some os k r x y item e same =
    let own = subst (λ (o : Option (Bor (Option Outcome))). IsItemAt os k o) e item in
    there_at os k x.now own.3.0 own.1 ∙ ap (λ (z : Option Outcome). Some z) same

pub outcome_end : (os : List (Option Outcome)) (k : ℕ) (r : Option (Bor Outcome))
    → MatchOption r (is_there (slice_get os k) ≡ false)
    (λ o. slice_get os k ≡ Some (Some o.now))
    → r ≡ None
    → is_there (slice_get os k) ≡ false
outcome_end os k None h e = h
outcome_end os k (Some o) h e = absurd cc

pub outcome_here : (os : List (Option Outcome)) (k : ℕ) (r : Option (Bor Outcome))
    (o : Bor Outcome)
    → MatchOption r (is_there (slice_get os k) ≡ false)
    (λ x. slice_get os k ≡ Some (Some x.now))
    → r ≡ Some o
    → slice_get os k ≡ Some (Some o.now)
outcome_here os k r o h e =
    subst (λ (x : Option (Bor Outcome)). MatchOption x (is_there (slice_get os k) ≡ false)
    (λ y. slice_get os k ≡ Some (Some y.now))) e h

-- the lines so far were written
pub record Fronted
    (outcomes : List (Option Outcome))
    (text : List ℕ)
    (k : ℕ)
    (holds now : Option (List ℕ))
    : Type 0 where
  pub more : List ℕ
  pub appends : Appends holds now more
  pub printed : Printed 1 outcomes k (text ++ more)

module _ (outcomes : List (Option Outcome)) (text : List ℕ) (k number : ℕ) (line : List ℕ)
    (o : Outcome) (holds mid now : Option (List ℕ))
    (f : Fronted outcomes text k holds mid)
    (there : slice_get outcomes k ≡ Some (Some o))
    (is : line ≡ line_text number o)
    (counted : number ≡ k + 1) where
  pub fronted_next : (next : ℕ)
      → next ≡ k + 1
      → Appends mid now line
      → Fronted outcomes text next holds now
  fronted_next next e appends = record {
    more = f.more ++ line;
    appends = Appends-trans holds mid now f.more line f.appends appends;
    printed =
        subst (λ (t : List ℕ). Printed 1 outcomes next t)
        (append_assoc text f.more line)
        (subst (λ (l : List ℕ). Printed 1 outcomes next ((text ++ f.more) ++ l)) (sym is)
        (printed_next outcomes k next number (text ++ f.more) o f.printed there e counted));
  }

  pub fronted_cut : (A : Type 0) (fault : PrintFault)
      → (n : ℕ) × Appends mid now (take n line)
      → IsWrittenOn {A = A} outcomes text (Err fault) k holds now
  fronted_cut A fault wrote =
      let part = take wrote.0 line in
      let whole = (text ++ f.more) ++ line_text number o in (
        f.more ++ part,
        Appends-trans holds mid now f.more part f.appends wrote.1,
        front_trans (text ++ (f.more ++ part)) whole (front_text 1 outcomes)
            (subst (λ (t : List ℕ). IsFrontOf t whole) (append_assoc text f.more part)
            (front_behind (text ++ f.more) part (line_text number o)
            (subst (λ (l : List ℕ). IsFrontOf part l) is (front_take wrote.0 line))))
            (printed_part 1 outcomes (k + 1) whole
            (printed_next outcomes k (k + 1) number (text ++ f.more) o f.printed there refl
            counted)),
      )

pub fronted_starved : (A : Type 0) (fault : PrintFault) (outcomes : List (Option Outcome))
    (text : List ℕ) (k : ℕ) (holds now : Option (List ℕ))
    → Fronted outcomes text k holds now
    → IsWrittenOn {A = A} outcomes text (Err fault) k holds now
fronted_starved A fault outcomes text k holds now f =
    (f.more, f.appends, printed_part 1 outcomes k (text ++ f.more) f.printed)

pub fronted_last : (A : Type 0) (x : A) (outcomes : List (Option Outcome))
    (text : List ℕ) (k : ℕ) (holds now : Option (List ℕ))
    → Fronted outcomes text k holds now
    → is_there (slice_get outcomes k) ≡ false
    → IsWrittenOn {A = A} outcomes text (Ok x) k holds now
fronted_last A x outcomes text k holds now f end = (f.more, f.appends, f.printed, end)

-- ---- a poll

-- what was written of the same outcomes
pub wrote_as : (A : Type 0) (r : Result A PrintFault) (seen same : List (Option Outcome))
    (k next : ℕ) (holds now : Option (List ℕ))
    → seen ≡ same
    → ((t : List ℕ) → Printed 1 seen k t → IsWrittenOn seen t r next holds now)
    → (t : List ℕ)
    → Printed 1 same k t
    → IsWrittenOn same t r next holds now
wrote_as A r seen same k next holds now e wrote =
    subst (λ (os : List (Option Outcome)). (t : List ℕ)
    → Printed 1 os k t
    → IsWrittenOn os t r next holds now) e wrote

module _ (asks : List Ask) (past : List Step) (text : List ℕ) (lines after : List Line)
    (outcomes later : List (Option Outcome)) (k : ℕ) (a b : Outside)
    (prints : Prints asks past lines outcomes k text) where
  -- a poll that failed
  failed : (f : TellFault) (s : CommissionStatus) (holds : Option (List ℕ))
      → s ≡ status_of f
      → IsMade asks past later (Some f) a b
      → later ≡ outcomes
      → IsStepped asks past text (Some s) k after later a b holds holds
  failed fault.Link s holds e made same =
      subst (λ (t : CommissionStatus). IsStepped asks past text (Some t) k after later a b holds
      holds) (sym e) (
        [],
        Appends-nil holds,
        (
          made.more,
          made.last,
          made.happens,
          made.ends,
          append-nil text
              ∙ printed_front 1 outcomes k text prints.printed prints.front
              ∙ ap (front_text 1) (sym same ∙ made.said),
        ),
      )
  failed fault.Starved s holds e made same =
      subst (λ (t : CommissionStatus). IsStepped asks past text (Some t) k after later a b holds
      holds) (sym e) (
        [],
        Appends-nil holds,
        (
          made.more,
          made.last,
          made.happens,
          inr made.ends,
          subst (λ (t : List ℕ). IsFrontOf t (lines_after asks (made.more ++ past)))
              (sym (append-nil text ∙ printed_front 1 outcomes k text prints.printed prints.front
              ∙ ap (front_text 1) (sym same ∙ made.said)))
              (front_self (lines_after asks (made.more ++ past))),
        ),
      )

  pub step_failed : (r : Option TellFault) (f : TellFault) (s : CommissionStatus)
      (holds : Option (List ℕ))
      → r ≡ Some f
      → s ≡ status_of f
      → IsPolled asks past (polled.Over r) after later a b
      → KeepsPolled (polled.Over r) outcomes later
      → IsStepped asks past text (Some s) k after later a b holds holds
  step_failed r f s holds is e made keeps =
      failed f s holds e
      (subst (λ (x : Option TellFault). IsPolled asks past (polled.Over x) after later a b) is
      made).0
      (subst (λ (x : Option TellFault). KeepsPolled (polled.Over x) outcomes later) is keeps)

  -- a poll after which an ask is undecided
  pub step_going : (A : Type 0) (x : A) (next : ℕ) (holds now : Option (List ℕ))
      → IsPolled asks past polled.Going after later a b
      → KeepsDecided outcomes later
      → ((t : List ℕ)
      → Printed 1 later k t
      → IsWrittenOn {A = A} later t (Ok x) next holds now)
      → IsStepped asks past text None next after later a b holds now
  step_going A x next holds now going keeps wrote =
      let w = wrote text (printed_kept 1 outcomes later k text prints.printed keeps) in (
        going.0,
        w.0,
        going.1,
        w.1,
        record { stands = going.2; printed = w.2; front = w.3 },
      )

  -- one after which all are decided
  done : (A : Type 0) (x : A) (next : ℕ) (holds now : Option (List ℕ))
      → IsMade asks past later None a b
      → KeepsDecided outcomes later
      → ((t : List ℕ)
      → Printed 1 later k t
      → IsWrittenOn {A = A} later t (Ok x) next holds now)
      → IsStepped asks past text (Some status.Done) next after later a b holds now
  done A x next holds now made keeps wrote =
      let w = wrote text (printed_kept 1 outcomes later k text prints.printed keeps) in (
        w.0,
        w.1,
        (
          made.more,
          subst (λ (c : Outside). HappensAll asks past made.more a c) (sym made.ends.1)
              made.happens,
          made.ends.0,
          printed_front 1 later next (text ++ w.0) w.2 w.3
              ∙ ap (front_text 1) made.said,
        ),
      )

  pub step_done : (r : Option TellFault) (A : Type 0) (x : A) (next : ℕ)
      (holds now : Option (List ℕ))
      → r ≡ None
      → IsPolled asks past (polled.Over r) after later a b
      → KeepsPolled (polled.Over r) outcomes later
      → ((t : List ℕ)
      → Printed 1 later k t
      → IsWrittenOn {A = A} later t (Ok x) next holds now)
      → IsStepped asks past text (Some status.Done) next after later a b holds now
  step_done r A x next holds now is made keeps wrote =
      done A x next holds now
      (subst (λ (y : Option TellFault). IsPolled asks past (polled.Over y) after later a b) is
      made).0
      (subst (λ (y : Option TellFault). KeepsPolled (polled.Over y) outcomes later) is keeps)
      wrote

  -- what was not written
  stopped : (more : List Step) (f : PrintFault) (next : ℕ) (holds now : Option (List ℕ))
      → HappensAll asks past more a b
      → later ≡ said_all asks 0 (more ++ past)
      → (written : List ℕ) × Appends holds now written
      × IsFrontOf (text ++ written) (front_text 1 later)
      → IsStepped asks past text (Some (print_status f)) next after later a b holds now
  stopped more unprinted.Unwritten next holds now happens said w = (
    w.0,
    w.1,
    (
      more,
      happens,
      subst (λ (os : List (Option Outcome)). IsFrontOf (text ++ w.0) (front_text 1 os)) said
          w.2,
    ),
  )
  stopped more unprinted.Starved next holds now happens said w = (
    w.0,
    w.1,
    (
      more,
      b,
      happens,
      inl refl,
      subst (λ (os : List (Option Outcome)). IsFrontOf (text ++ w.0) (front_text 1 os)) said
          w.2,
    ),
  )

  pub step_stopped : (A : Type 0) (f : PrintFault) (s : CommissionStatus) (next : ℕ)
      (holds now : Option (List ℕ))
      → s ≡ print_status f
      → IsPolled asks past polled.Going after later a b
      → KeepsDecided outcomes later
      → ((t : List ℕ)
      → Printed 1 later k t
      → IsWrittenOn {A = A} later t (Err f) next holds now)
      → IsStepped asks past text (Some s) next after later a b holds now
  step_stopped A f s next holds now e going keeps wrote =
      subst (λ (t : CommissionStatus). IsStepped asks past text (Some t) next after later a b
      holds now) (sym e)
      (stopped going.0 f next holds now going.1
      (kept_said asks 0 (going.0 ++ past) after later going.2.kept)
      (wrote text (printed_kept 1 outcomes later k text prints.printed keeps)))

  cut : (A : Type 0) (f : PrintFault) (s : CommissionStatus) (next : ℕ)
      (holds now : Option (List ℕ))
      → s ≡ print_status f
      → IsMade asks past later None a b
      → KeepsDecided outcomes later
      → ((t : List ℕ)
      → Printed 1 later k t
      → IsWrittenOn {A = A} later t (Err f) next holds now)
      → IsStepped asks past text (Some s) next after later a b holds now
  cut A f s next holds now e made keeps wrote =
      subst (λ (t : CommissionStatus). IsStepped asks past text (Some t) next after later a b
      holds now) (sym e)
      (stopped made.more f next holds now
      (subst (λ (c : Outside). HappensAll asks past made.more a c) (sym made.ends.1)
      made.happens)
      made.said
      (wrote text (printed_kept 1 outcomes later k text prints.printed keeps)))

  pub step_cut : (r : Option TellFault) (A : Type 0) (f : PrintFault) (s : CommissionStatus)
      (next : ℕ) (holds now : Option (List ℕ))
      → r ≡ None
      → s ≡ print_status f
      → IsPolled asks past (polled.Over r) after later a b
      → KeepsPolled (polled.Over r) outcomes later
      → ((t : List ℕ)
      → Printed 1 later k t
      → IsWrittenOn {A = A} later t (Err f) next holds now)
      → IsStepped asks past text (Some s) next after later a b holds now
  step_cut r A f s next holds now is e made keeps wrote =
      cut A f s next holds now e
      (subst (λ (y : Option TellFault). IsPolled asks past (polled.Over y) after later a b) is
      made).0
      (subst (λ (y : Option TellFault). KeepsPolled (polled.Over y) outcomes later) is keeps)
      wrote

-- ---- one poll after the other

-- nothing is decided at the beginning
not_said : (ask : Ask) (i : ℕ) (o : Outcome) → said ask i [] ≡ Some o → ⊥
unfolding share
not_said ask i o e = cc

none_first : (asks : List Ask) (i : ℕ) (lines : List Line) (outcomes : List (Option Outcome))
    → AreOpen [] asks i lines outcomes
    → is_there (slice_get outcomes 0) ≡ false
none_first [] i lines outcomes are =
    subst (λ (os : List (Option Outcome)). is_there (slice_get os 0) ≡ false) (sym are.1) refl
none_first (ask ∷ asks) i lines [] are = refl
none_first (ask ∷ asks) i lines (Some o ∷ outcomes) are = absurd (not_said ask i o are.0)
none_first (ask ∷ asks) i lines (None ∷ outcomes) are = refl

pub prints_first : (asks : List Ask) (lines : List Line) (outcomes : List (Option Outcome))
    → StandsFor asks [] lines outcomes
    → Prints asks [] lines outcomes 0 []
prints_first asks lines outcomes stands = record {
  stands = stands;
  printed = refl;
  front = none_first asks 0 lines outcomes stands.kept;
}

pub stepped_first : (asks : List Ask) (lines : List Line) (outcomes : List (Option Outcome))
    (a : Outside) (holds : Option (List ℕ))
    → StandsFor asks [] lines outcomes
    → IsStepped asks [] [] None 0 lines outcomes a a holds holds
stepped_first asks lines outcomes a holds stands =
    ([], [], refl, Appends-nil holds, prints_first asks lines outcomes stands)

-- what is made from later on is made from before
makes_later : (asks : List Ask) (past xs : List Step) (s : CommissionStatus) (a b c : Outside)
    (text : List ℕ)
    → HappensAll asks past xs a b
    → Makes asks (xs ++ past) s b c text
    → Makes asks past s a c text
makes_later asks past xs status.Done a b c text h makes =
    let same = sym (append_assoc makes.0 xs past) in (
      makes.0 ++ xs,
      happens_both asks past xs makes.0 a b c h makes.1,
      subst (λ (p : List Step). is_unsaid (said_all asks 0 p) ≡ false) same makes.2,
      subst (λ (p : List Step). text ≡ lines_after asks p) same makes.3,
    )
makes_later asks past xs status.Link a b c text h makes =
    let same = sym (append_assoc makes.0 xs past) in (
      makes.0 ++ xs,
      makes.1,
      happens_both asks past xs makes.0 a b makes.1 h makes.2,
      subst (λ (p : List Step). Ends asks p (Some fault.Link) makes.1 c) same makes.3,
      subst (λ (p : List Step). text ≡ lines_after asks p) same makes.4,
    )
makes_later asks past xs status.WriteFault a b c text h makes =
    let same = sym (append_assoc makes.0 xs past) in (
      makes.0 ++ xs,
      happens_both asks past xs makes.0 a b c h makes.1,
      subst (λ (p : List Step). IsFrontOf text (lines_after asks p)) same makes.2,
    )
makes_later asks past xs status.Memory a b c text h makes =
    let same = sym (append_assoc makes.0 xs past) in (
      makes.0 ++ xs,
      makes.1,
      happens_both asks past xs makes.0 a b makes.1 h makes.2,
      subst (λ (p : List Step). IsStarved asks p makes.1 c) same makes.3,
      subst (λ (p : List Step). IsFrontOf text (lines_after asks p)) same makes.4,
    )
makes_later asks past xs status.ReadFault a b c text h makes = makes
makes_later asks past xs status.Usage a b c text h makes = makes
makes_later asks past xs (status.Line n why) a b c text h makes = makes

pub stepped_then : (asks : List Ask) (past : List Step) (text : List ℕ)
    (r : Option CommissionStatus) (k next : ℕ) (lines after : List Line)
    (outcomes later : List (Option Outcome)) (a b c : Outside)
    (holds mid now : Option (List ℕ))
    → IsStepped asks past text None k lines outcomes a b holds mid
    → ((p : List Step) (t : List ℕ)
    → Prints asks p lines outcomes k t
    → IsStepped asks p t r next after later b c mid now)
    → IsStepped asks past text r next after later a c holds now
stepped_then asks past text None k next lines after outcomes later a b c holds mid now one two =
    let p = one.0 ++ past in
    let t = text ++ one.1 in
    let more = two p t one.4 in (
      more.0 ++ one.0,
      one.1 ++ more.1,
      happens_both asks past one.0 more.0 a b c one.2 more.2,
      Appends-trans holds mid now one.1 more.1 one.3 more.3,
      subst (λ (q : List Step). Prints asks q after later next (text ++ (one.1 ++ more.1)))
          (sym (append_assoc more.0 one.0 past))
          (subst (λ (u : List ℕ). Prints asks (more.0 ++ p) after later next u)
          (append_assoc text one.1 more.1)
          more.4),
    )
stepped_then asks past text (Some s) k next lines after outcomes later a b c holds mid now one
    two =
    let p = one.0 ++ past in
    let t = text ++ one.1 in
    let more = two p t one.4 in (
      one.1 ++ more.0,
      Appends-trans holds mid now one.1 more.0 one.3 more.1,
      makes_later asks past one.0 s a b c (text ++ (one.1 ++ more.0)) one.2
          (subst (λ (u : List ℕ). Makes asks p s b c u) (append_assoc text one.1 more.0)
          more.2),
    )

pub made_out : (asks : List Ask) (s : CommissionStatus) (k : ℕ) (lines : List Line)
    (outcomes : List (Option Outcome)) (a b : Outside) (holds now : Option (List ℕ))
    → IsStepped asks [] [] (Some s) k lines outcomes a b holds now
    → MakesOut asks s a b holds now
made_out asks s k lines outcomes a b holds now stepped = (stepped.0, stepped.1, stepped.2)

-- ---- nothing was made

module _ {L C : Type 0} (told : L → C → Outside) (asks : List Ask) (link : L) (clock : C)
    (holds now : Option (List ℕ)) where
  -- memory ran out before
  pub starved_none : (l : L) (c : C) (xs : List Ask)
      → ◌≡◌ {A = L × C × List Ask} (l, c, xs) (link, clock, asks)
      → now ≡ holds
      → MakesBack told asks status.Memory (Some (l, c)) link clock holds now
  starved_none l c xs e same =
      let first : l ≡ link = ap (λ (x : L × C × List Ask). x.0) e in
      let second : c ≡ clock = ap (λ (x : L × C × List Ask). x.1) e in
      subst (λ (o : Option (List ℕ)). MakesBack told asks status.Memory (Some (l, c)) link clock
      holds o) (sym same) (
        [],
        Appends-nil holds,
        (
          [],
          told link clock,
          refl,
          inl (rw (first, second) refl),
          (lines_after asks [], refl),
        ),
      )
