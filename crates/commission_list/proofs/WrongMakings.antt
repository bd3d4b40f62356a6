-- Endings that are wrong: none of them is what the definitions say of the making of a list.
use Rattle.std.proofs.Common.{
  ◌≡◌,
  inl,
  inr,
  ◌<◌,
  ◌+◌,
  ◌++◌,
  ℕ,
  false,
  true,
  List,
  [],
  ◌∷◌,
  length,
  drop,
  codes,
  Option,
  Some,
  None,
  Result,
  Ok,
  Err,
  refl,
  sym,
  ap,
  subst,
  append-nil,
  ◌∙◌,
  arith,
}
use Rattle.std.specs.Prelude.{⊤, ◌⊎◌}
use Rattle.std.specs.Fmt.{digits}
use Rattle.std.proofs.lemmas.List.{length-append}
use Rattle.client_model.specs.declared.asks.Ask.{Ask}
use Rattle.client_model.specs.declared.events.Event.{Event}
use Rattle.client_model.specs.declared.outcomes.Outcome.{Outcome}
use Rattle.client_model.specs.declared.outcomes.Outcome.TheVariants as outcome
use Rattle.registrant.specs.Turns.{Outside, IsSpoken}
use Rattle.udp_link.specs.Told.{Stays}
use Rattle.commissioner.specs.declared.steps.Step.{Step}
use Rattle.commissioner.specs.declared.steps.Step.TheVariants as step
use Rattle.commissioner.specs.Shares.{share, verdict_of, said, said_all, first_due}
use Rattle.commissioner.specs.Happening.{HappensAll, is_unsaid}
use Rattle.commission_list.specs.declared.judging.AskLine.{AskLine}
use Rattle.commission_list.specs.declared.judging.AskLine.TheVariants as bad
use Rattle.commission_list.specs.declared.statuses.CommissionStatus.{CommissionStatus}
use Rattle.commission_list.specs.declared.statuses.CommissionStatus.TheVariants as status
use Rattle.commission_list.specs.Endings.{IsFrontOf, IsReported, CountsWrites}
use Rattle.commission_list.specs.Lists.{LineBad}
use Rattle.commission_list.specs.Printing.{front_text}
use Rattle.commission_list.specs.Makings.{
  Makes,
  IsMadeOf,
  EndsBy,
  HandsBack,
  CountsBack,
}

-- ---- what lines begin with

abbrev first : List ℕ → ℕ
first [] = 0
first (octet ∷ octets) = octet

-- where the first ask is decided the lines begin with the digit 1
first_line : (text : List ℕ) (o : Outcome) (others : List (Option Outcome))
    → text ≡ front_text 1 (Some o ∷ others)
    → first text ≡ 49
unfolding digits
first_line text o others same = ap first same

-- where it is not there is no line
no_line : (text : List ℕ) (others : List (Option Outcome))
    → text ≡ front_text 1 (None ∷ others)
    → text ≡ []
no_line text others same = same

-- where all asks are decided the first is
first_decided : (o : Option Outcome) (text : List ℕ) (others : List (Option Outcome))
    → is_unsaid (o ∷ others) ≡ false
    → text ≡ front_text 1 (o ∷ others)
    → first text ≡ 49
first_decided None text others decided same =
    let no : true ≡ false = decided in
    absurd cc
first_decided (Some o) text others decided same = first_line text o others same

-- ---- done, but other lines were written

module _ (ask : Ask) (asks : List Ask) (before after : Outside) where
  -- the text of a list that is done begins with the digit 1
  done_begins : (text : List ℕ) → Makes (ask ∷ asks) [] status.Done before after text
      → first text ≡ 49
  done_begins text made =
      first_decided (said ask 0 (made.0 ++ [])) text (said_all asks 1 (made.0 ++ [])) made.2 made.3

  -- the number of another line stands before the outcome
  pub other_number : Makes (ask ∷ asks) [] status.Done before after (codes "2 reset\n") → ⊥
  other_number made =
      let is : 50 ≡ 49 = done_begins (codes "2 reset\n") made in
      absurd (omega (arith, is))

  -- the numbers begin with 0
  pub from_zero : Makes (ask ∷ asks) [] status.Done before after (codes "0 reset\n") → ⊥
  from_zero made =
      let is : 48 ≡ 49 = done_begins (codes "0 reset\n") made in
      absurd (omega (arith, is))

  -- the line of the second ask comes first
  pub other_order :
      Makes (ask ∷ asks) [] status.Done before after (codes "2 reset\n1 reset\n") → ⊥
  other_order made =
      let is : 50 ≡ 49 = done_begins (codes "2 reset\n1 reset\n") made in
      absurd (omega (arith, is))

  -- nothing was written
  pub nothing_written : Makes (ask ∷ asks) [] status.Done before after [] → ⊥
  nothing_written made =
      let is : 0 ≡ 49 = done_begins [] made in
      absurd (omega (arith, is))

  -- ---- done, but an ask is not decided

  undecided_by : (o : Option Outcome)
      → o ≡ None
      → (others : List (Option Outcome)) → is_unsaid (o ∷ others) ≡ false → ⊥
  undecided_by None none others decided =
      let no : true ≡ false = decided in
      absurd cc
  undecided_by (Some o) none others decided = absurd cc

  -- the first is not, whatever was written
  pub undecided : (text : List ℕ)
      (made : Makes (ask ∷ asks) [] status.Done before after text)
      → said ask 0 (made.0 ++ []) ≡ None
      → ⊥
  undecided text made none =
      undecided_by (said ask 0 (made.0 ++ [])) none (said_all asks 1 (made.0 ++ [])) made.2

  -- ---- the link failed

  left_out_by : (o : Option Outcome) (said_before : Outcome)
      → o ≡ Some said_before
      → (others : List (Option Outcome)) → [] ≡ front_text 1 (o ∷ others) → ⊥
  left_out_by None q is others same = absurd cc
  left_out_by (Some o) q is others same =
      let no : 0 ≡ 49 = first_line [] o others same in
      absurd (omega (arith, no))

  -- the first ask was decided before, and its line was left out
  pub left_out : (o : Outcome) (made : Makes (ask ∷ asks) [] status.Link before after [])
      → said ask 0 (made.0 ++ []) ≡ Some o
      → ⊥
  left_out o made is =
      left_out_by (said ask 0 (made.0 ++ [])) o is (said_all asks 1 (made.0 ++ [])) made.4

  too_much_by : (o : Option Outcome) (octet : ℕ) (octets : List ℕ)
      → o ≡ None
      → (others : List (Option Outcome))
      → (octet ∷ octets) ≡ front_text 1 (o ∷ others)
      → ⊥
  too_much_by None octet octets none others same =
      let no : octet ∷ octets ≡ [] = no_line (octet ∷ octets) others same in
      absurd cc
  too_much_by (Some o) octet octets none others same = absurd cc

  -- the first was not, and something was written, if it is the line of another
  pub too_much : (octet : ℕ) (octets : List ℕ)
      (made : Makes (ask ∷ asks) [] status.Link before after (octet ∷ octets))
      → said ask 0 (made.0 ++ []) ≡ None
      → ⊥
  too_much octet octets made none =
      too_much_by (said ask 0 (made.0 ++ [])) octet octets none (said_all asks 1 (made.0 ++ []))
      made.4

  -- each ask was decided before
  pub link_after_all : (text : List ℕ)
      (made : Makes (ask ∷ asks) [] status.Link before after text)
      → is_unsaid (said_all (ask ∷ asks) 0 (made.0 ++ [])) ≡ false
      → ⊥
  link_after_all text made decided =
      let no : true ≡ false = sym made.3.0 ∙ decided in
      absurd cc

  -- an ask was still to begin
  pub link_before_all : (text : List ℕ) (n : ℕ)
      (made : Makes (ask ∷ asks) [] status.Link before after text)
      → first_due [] (ask ∷ asks) 0 (made.0 ++ []) ≡ Some n
      → ⊥
  link_before_all text n made due =
      let no : None ≡ Some n = sym made.3.1 ∙ due in
      absurd cc

  -- ---- the output failed, or memory ran out

  front_by : (o : Option Outcome) (others : List (Option Outcome)) (octets : List ℕ)
      → IsFrontOf (50 ∷ octets) (front_text 1 (o ∷ others))
      → ⊥
  front_by None others octets part =
      let no : [] ≡ 50 ∷ (octets ++ part.0) = part.1 in
      absurd cc
  front_by (Some o) others octets part =
      let no : 49 ≡ 50 = sym (first_line (front_text 1 (Some o ∷ others)) o others refl)
      ∙ ap first part.1 in
      absurd (omega (arith, no))

  -- what was written is no front of the lines
  pub unwritten_front : (octets : List ℕ)
      → Makes (ask ∷ asks) [] status.WriteFault before after (50 ∷ octets)
      → ⊥
  unwritten_front octets made =
      front_by (said ask 0 (made.0 ++ [])) (said_all asks 1 (made.0 ++ [])) octets made.2

  pub starved_front : (octets : List ℕ)
      → Makes (ask ∷ asks) [] status.Memory before after (50 ∷ octets)
      → ⊥
  starved_front octets made =
      front_by (said ask 0 (made.0 ++ [])) (said_all asks 1 (made.0 ++ [])) octets made.4

  -- memory ran out at a receive or where a talk began, though each ask was decided before
  pub starved_after_all : (text : List ℕ)
      (made : Makes (ask ∷ asks) [] status.Memory before after text)
      → is_unsaid (said_all (ask ∷ asks) 0 (made.0 ++ [])) ≡ false
      → (after ≡ made.1 → ⊥)
      → ⊥
  starved_after_all text made decided moved = elim made.3 [
    | inl same ↦ moved same
    | inr ends ↦
        let no : true ≡ false = sym ends.0 ∙ decided in
        absurd cc
  ]

-- ---- an event came after each ask was decided

event_after_all : (asks : List Ask) (later more : List Step) (e : Event)
    (before after : Outside)
    → HappensAll asks [] (later ++ step.Happened e ∷ more) before after
    → is_unsaid (said_all asks 0 (more ++ [])) ≡ false
    → ⊥
event_after_all asks [] more e before after happens decided =
    let no : true ≡ false = sym happens.2.unsaid ∙ decided in
    absurd cc
event_after_all asks (s ∷ later) more e before after happens decided =
    event_after_all asks later more e before happens.0 happens.1 decided

-- it is done, whatever happened later
pub done_after_all : (asks : List Ask) (later more : List Step) (e : Event)
    (before after : Outside) (text : List ℕ)
    (made : Makes asks [] status.Done before after text)
    → made.0 ≡ later ++ step.Happened e ∷ more
    → is_unsaid (said_all asks 0 (more ++ [])) ≡ false
    → ⊥
done_after_all asks later more e before after text made is decided =
    event_after_all asks later more e before after
    (subst (λ (steps : List Step). HappensAll asks [] steps before after) is made.1)
    decided

-- its output failed
pub unwritten_after_all : (asks : List Ask) (later more : List Step) (e : Event)
    (before after : Outside) (text : List ℕ)
    (made : Makes asks [] status.WriteFault before after text)
    → made.0 ≡ later ++ step.Happened e ∷ more
    → is_unsaid (said_all asks 0 (more ++ [])) ≡ false
    → ⊥
unwritten_after_all asks later more e before after text made is decided =
    event_after_all asks later more e before after
    (subst (λ (steps : List Step). HappensAll asks [] steps before after) is made.1)
    decided

-- ---- done, but no talk began

-- the words that a clock is still to give, and those after one of them was given
abbrev two_words : Option (List ℕ)
two_words = Some (1 ∷ 2 ∷ [])

abbrev one_word : Option (List ℕ)
one_word = Some (2 ∷ [])

-- no ask began in what happened
abbrev NoneBegan : List Step → Type 0
NoneBegan [] = ⊤
NoneBegan (step.Began n now word ∷ past) = ⊥
NoneBegan (step.Happened e ∷ past) = NoneBegan past

not_shared : (ask : Ask) (i : ℕ) (past : List Step)
    → NoneBegan past
    → share ask i past ≡ None
unfolding share
not_shared ask i [] none = refl
not_shared ask i (step.Began n now word ∷ past) none = absurd none
not_shared ask i (step.Happened e ∷ past) none = rw (not_shared ask i past none) refl

taken_of : (word : ℕ) (after : Option (List ℕ)) → IsSpoken word two_words after
    → after ≡ one_word
taken_of word None spoken = absurd spoken
taken_of word (Some words) spoken = ap (λ (xs : List ℕ). Some xs) spoken.1

taken_again : (word : ℕ) (after : Option (List ℕ)) → IsSpoken word one_word after
    → after ≡ one_word
taken_again word None spoken = absurd spoken
taken_again word (Some words) spoken = ap (λ (xs : List ℕ). Some xs) spoken.1

stayed : (words : List ℕ) (after : Option (List ℕ)) → Stays (Some words) after
    → after ≡ Some words
stayed words None stays = absurd stays
stayed words (Some now) stays = ap (λ (xs : List ℕ). Some xs) stays

-- the clock has given no word, and no ask began; or it has given one
abbrev AreWords : List Step → Outside → Type 0
AreWords past now = ((now.words ≡ two_words) × NoneBegan past) ⊎ (now.words ≡ one_word)

words_after : (asks : List Ask) (more : List Step) (before after : Outside)
    → before.words ≡ two_words
    → HappensAll asks [] more before after
    → AreWords more after
words_after asks [] before after told happens =
    inl (ap (λ (o : Outside). o.words) happens ∙ told, tt)
words_after asks (step.Began n now word ∷ more) before after told happens =
    elim (words_after asks more before happens.0 told happens.1) [
      | inl none ↦
          inr (taken_of word after.words
          (subst (λ (w : Option (List ℕ)). IsSpoken word w after.words) none.0
          happens.2.spoken))
      | inr given ↦
          inr (taken_again word after.words
          (subst (λ (w : Option (List ℕ)). IsSpoken word w after.words) given
          happens.2.spoken))
    ]
words_after asks (step.Happened e ∷ more) before after told happens =
    elim (words_after asks more before happens.0 told happens.1) [
      | inl none ↦
          inl (
            stayed (1 ∷ 2 ∷ []) after.words
                (subst (λ (w : Option (List ℕ)). Stays w after.words) none.0 happens.2.words),
            none.1,
          )
      | inr given ↦
          inr (stayed (2 ∷ []) after.words
          (subst (λ (w : Option (List ℕ)). Stays w after.words) given happens.2.words))
    ]

-- the clock still has both its words, and a talk takes one where it begins
pub none_began : (ask : Ask) (asks : List Ask) (before after : Outside) (text : List ℕ)
    → before.words ≡ two_words
    → after.words ≡ two_words
    → Makes (ask ∷ asks) [] status.Done before after text
    → ⊥
none_began ask asks before after text told still made =
    elim (words_after (ask ∷ asks) made.0 before after told made.1) [
      | inl none ↦
          undecided ask asks before after text made
          (ap verdict_of
          (not_shared ask 0 (made.0 ++ [])
          (subst (λ (past : List Step). NoneBegan past) (sym (append-nil made.0)) none.1)))
      | inr given ↦
          let same : Some (1 ∷ 2 ∷ []) ≡ one_word = sym still ∙ given in
          let no : 2 ≡ 1 = ap (λ (w : Option (List ℕ)). how_many w) same in
          absurd (omega (arith, no))
    ]
  where
    how_many : Option (List ℕ) → ℕ
    how_many None = 0
    how_many (Some words) = length words

-- ---- the second line is left out

-- no line of the first ask is the whole text
left_by : (o p : Outcome) (others : List (Option Outcome))
    → codes "1 reset\n" ≡ front_text 1 (Some o ∷ Some p ∷ others)
    → ⊥
unfolding digits
left_by outcome.Reset p others same =
    let no : 0 ≡ 50 = ap (λ (text : List ℕ). first (drop 8 text)) same in
    absurd (omega (arith, no))
left_by outcome.Done p others same =
    let no : 114 ≡ 100 = ap (λ (text : List ℕ). first (drop 2 text)) same in
    absurd (omega (arith, no))
left_by (outcome.Located l) p others same =
    let no : 114 ≡ 99 = ap (λ (text : List ℕ). first (drop 2 text)) same in
    absurd (omega (arith, no))
left_by (outcome.Refused code) p others same =
    let no : 115 ≡ 102 = ap (λ (text : List ℕ). first (drop 4 text)) same in
    absurd (omega (arith, no))
left_by outcome.GaveUp p others same =
    let no : 114 ≡ 103 = ap (λ (text : List ℕ). first (drop 2 text)) same in
    absurd (omega (arith, no))
left_by outcome.Silent p others same =
    let no : 114 ≡ 115 = ap (λ (text : List ℕ). first (drop 2 text)) same in
    absurd (omega (arith, no))

both_by : (o p : Option Outcome) (others : List (Option Outcome))
    → is_unsaid (o ∷ p ∷ others) ≡ false
    → codes "1 reset\n" ≡ front_text 1 (o ∷ p ∷ others)
    → ⊥
both_by None p others decided same =
    let no : true ≡ false = decided in
    absurd cc
both_by (Some o) None others decided same =
    let no : true ≡ false = decided in
    absurd cc
both_by (Some o) (Some p) others decided same = left_by o p others same

pub second_left_out : (ask second : Ask) (asks : List Ask) (before after : Outside)
    → Makes (ask ∷ second ∷ asks) [] status.Done before after (codes "1 reset\n")
    → ⊥
second_left_out ask second asks before after made =
    both_by (said ask 0 (made.0 ++ [])) (said second 1 (made.0 ++ []))
    (said_all asks 2 (made.0 ++ [])) made.2 made.3

-- ---- a list that is bad

-- a list whose second line has no base
abbrev bad_list : Result (List Ask) LineBad
bad_list = Err (record { line = 2; why = bad.Base })

abbrev line_of : LineBad → ℕ
line_of first_bad = first_bad.line

-- another line is named, or another reason
pub other_line : EndsBy bad_list (status.Line 3 bad.Base) → ⊥
other_line ends =
    let no : 2 ≡ 3 = ap line_of ends in
    absurd (omega (arith, no))

pub any_other_line : (n m : ℕ) (why also : AskLine) → (n ≡ m → ⊥)
    → EndsBy (Err (record { line = n; why = why })) (status.Line m also)
    → ⊥
any_other_line n m why also other ends = other (ap line_of ends)

pub other_reason : EndsBy bad_list (status.Line 2 bad.Form) → ⊥
other_reason ends =
    let no : bad.Base ≡ bad.Form = ap (λ (first_bad : LineBad). first_bad.why) ends in
    absurd cc

-- it is done, its link failed, or its output did
pub bad_done : EndsBy bad_list status.Done → ⊥
bad_done ends = ends

pub bad_by_the_link : EndsBy bad_list status.Link → ⊥
bad_by_the_link ends = ends

pub bad_by_the_output : EndsBy bad_list status.WriteFault → ⊥
bad_by_the_output ends = ends

-- a line is named of a list that is good
pub good_named : (asks : List Ask) (n : ℕ) (why : AskLine)
    → EndsBy (Ok asks) (status.Line n why)
    → ⊥
good_named asks n why ends = ends

-- something was written of it, whatever the status
more_than : (holds : List ℕ) (octet : ℕ) (octets : List ℕ)
    → holds ++ octet ∷ octets ≡ holds ++ []
    → ⊥
more_than holds octet octets same =
    let no : length holds + length (octet ∷ octets) ≡ length holds + 0 =
    sym (length-append holds (octet ∷ octets)) ∙ ap length same ∙ length-append holds [] in
    absurd (omega (arith, no))

module _ (L C : Type 0) (told : L → C → Outside) (link : L) (clock : C)
    (back : Option (L × C)) (holds : List ℕ) (octet : ℕ) (octets : List ℕ) where
  pub bad_written : (s : CommissionStatus)
      → IsMadeOf told bad_list s back link clock (Some holds) (Some (holds ++ octet ∷ octets))
      → ⊥
  bad_written s made = more_than holds octet octets made.0

  -- nor is anything of one that was not read
  pub unread_written : (asks : List Ask)
      → IsMadeOf told (Ok asks) status.ReadFault back link clock (Some holds)
      (Some (holds ++ octet ∷ octets))
      → ⊥
  unread_written asks made = more_than holds octet octets made.0

-- another link is handed back, over which something was sent
module _ (L C : Type 0) (told : L → C → Outside) (link : L) (clock : C)
    (holds now : Option (List ℕ)) where
  abbrev link_in : Option (L × C) → L
  link_in None = link
  link_in (Some ends) = ends.0

  pub bad_sent : (s : CommissionStatus) (later : L) (after : C)
      → (later ≡ link → ⊥)
      → IsMadeOf told bad_list s (Some (later, after)) link clock holds now
      → ⊥
  bad_sent s later after other made = other (ap link_in made.1)

  pub unread_sent : (asks : List Ask) (later : L) (after : C)
      → (later ≡ link → ⊥)
      → IsMadeOf told (Ok asks) status.ReadFault (Some (later, after)) link clock holds now
      → ⊥
  unread_sent asks later after other made = other (ap link_in made.1)

  -- none is
  pub bad_kept : (s : CommissionStatus)
      → IsMadeOf told bad_list s None link clock holds now
      → ⊥
  bad_kept s made =
      let no : None ≡ Some (link, clock) = made.1 in
      absurd cc

-- ---- what is handed back, counted and said

-- the link and the clock of a list that is done are kept
pub kept : (L C : Type 0) (told : L → C → Outside) (asks : List Ask) (link : L) (clock : C)
    (holds now : Option (List ℕ))
    → IsMadeOf told (Ok asks) status.Done None link clock holds now
    → ⊥
kept L C told asks link clock holds now made = made

-- those of one of which a line is bad
pub kept_bad : (L C : Type 0) (link : L) (clock : C) (n : ℕ) (why : AskLine)
    → HandsBack (status.Line n why) link clock None
    → ⊥
kept_bad L C link clock n why back = absurd cc

pub kept_uncounted : (L C : Type 0) (recv_faults : L → ℕ) (link : L)
    → CountsBack {C = C} recv_faults link status.Done None
    → ⊥
kept_uncounted L C recv_faults link counts = absurd cc

-- the output failed, and that was not counted; it was counted, and the list is done
pub fault_uncounted : CountsWrites 0 0 status.WriteFault → ⊥
fault_uncounted counts =
    let no : 0 < 0 = counts.1 (omega arith) in
    absurd (omega (arith, no))

pub fault_hidden : CountsWrites 0 1 status.Done → ⊥
fault_hidden counts = absurd (omega (arith, counts))

-- another line is said than the status names, though no fault was counted
pub other_said :
    IsReported (Some []) (Some (codes "line 3: base\n")) 0 0 (status.Line 2 bad.Base) → ⊥
unfolding digits
other_said reported = elim reported.whole [
  | inl whole ↦
      let no : 51 ≡ 50 =
      ap (λ (text : List ℕ). first (drop 5 text)) (reported.stands ∙ whole) in
      absurd (omega (arith, no))
  | inr rose ↦
      let no : 0 < 0 = rose (omega arith) in
      absurd (omega (arith, no))
]
