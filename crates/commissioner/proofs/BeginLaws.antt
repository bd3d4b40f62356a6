-- Which talk begins, and what stands then.
use Rattle.std.proofs.Common.{
  ◌≡◌,
  ◌+◌,
  ◌<◌,
  ◌≤◌,
  ◌⊎◌,
  inl,
  inr,
  ℕ,
  zero,
  suc,
  ◌==◌,
  ◌||◌,
  ◌&&◌,
  not,
  Bool,
  true,
  false,
  is_some,
  List,
  [],
  ◌∷◌,
  ◌++◌,
  length,
  take,
  map,
  Option,
  Some,
  None,
  Result,
  Ok,
  Err,
  refl,
  sym,
  ap,
  subst,
  ◌∙◌,
  arith,
  append_assoc,
  add-one,
}
use Rattle.std.specs.List.{list_any, slice_get}
use Rattle.std.specs.Prelude.{slice_set, IsErrAnd}
use Rattle.std.proofs.lemmas.Bool.{eq-eqb}
use Rattle.std.proofs.lemmas.List.Folds.{list_any-append}
use Rattle.rd_base.specs.declared.moments.Moment.{Moment}
use Rattle.message_model.specs.Spelling.{spelling}
use Rattle.udp_link.specs.Told.{Stays}
use Rattle.client_model.specs.Requests.{message_of}
use Rattle.registrant.specs.Turns.{Outside, Sends, IsTimed, IsSpoken}
use Rattle.rd_base.specs.declared.peers.Peer.{Peer}
use Rattle.rd_base.specs.declared.out_of_memory.Starved.{Starved}
use Rattle.udp_link.specs.Links.{Datagram}
use Rattle.event_model.specs.Same.{is_same_peer}
use Rattle.client_model.specs.declared.asks.Ask.{Ask}
use Rattle.client_model.specs.declared.outcomes.Outcome.{Outcome}
use Rattle.client_model.specs.Requests.{CanBeSent}
use Rattle.client_model.specs.Sending.{Sent}
use Rattle.registrant.specs.Talking.{Talking, StandsFor, asked_now}
use Rattle.commissioner.specs.declared.lines.Line.{Line}
use Rattle.commissioner.specs.declared.steps.Step.{Step}
use Rattle.commissioner.specs.declared.steps.Step.TheVariants as step
use Rattle.commissioner.specs.Shares.{
  Share,
  token_of,
  octets_of,
  share,
  said,
  verdict_of,
  said_all,
  is_busy,
  is_due,
  first_due,
  sent_first,
}
use Rattle.commissioner.specs.Lines.{IsStage, IsOpen, Begun, IsBegun, IsLost, is_to_begin}
use Rattle.commissioner.specs.Happening.{
  HappensAll,
  AllBegan,
  AreOpen,
  HasBegun,
  AllBegun,
  AreBegun,
}
use Rattle.commissioner.proofs.ShareLaws.{share_other, share_own, said_other}

-- ---- a line

nothing : {A : Type 0} (lines : List A) (k : ℕ) (line : A)
    → lines ≡ []
    → slice_get lines k ≡ Some line
    → ⊥
nothing [] k line e there = cc
nothing (x ∷ lines) k line e there = cc

is_not : (n i : ℕ) → i < n → (n == i) ≡ false
is_not n i less = grind arith

is_not_either : (n i : ℕ) → n < i → (n == i) ≡ false
is_not_either n i less = grind arith

-- a line whose ask is there has not begun
pub waits : (ask : Ask) (i : ℕ) (s : Option Share) (kept : Ask) (talk : Option Talking)
    → IsStage ask i s (Some kept) talk
    → (s ≡ None) × (kept ≡ ask) × CanBeSent ask
waits ask i None kept None h = (refl, h.0, h.1)
waits ask i None kept (Some talk) h = absurd h
waits ask i (Some s) kept talk h = absurd h

pub waits_open : (past : List Step) (ask : Ask) (i : ℕ) (line : Line) (kept : Ask)
    → IsOpen past ask i line
    → line.ask ≡ Some kept
    → (share ask i past ≡ None) × (kept ≡ ask) × CanBeSent ask
waits_open past ask i line kept opens e =
    waits ask i (share ask i past) kept line.talk
    (subst (λ (a : Option Ask). IsStage ask i (share ask i past) a line.talk) e opens.stage)

-- one whose ask is gone has begun
runs : (ask : Ask) (i : ℕ) (s : Option Share) (talk : Option Talking) (busy : List Peer)
    → IsStage ask i s None talk
    → is_due busy ask.to s ≡ false
runs ask i None talk busy h = absurd h
runs ask i (Some s) talk busy h = refl

-- none is decided
undecided : (ask : Ask) (i : ℕ) (s : Option Share) (kept : Option Ask) (talk : Option Talking)
    → IsStage ask i s kept talk
    → verdict_of s ≡ None
undecided ask i None kept talk h = refl
undecided ask i (Some s) None None h = absurd h
undecided ask i (Some s) None (Some talk) h = h.undecided
undecided ask i (Some s) (Some kept) talk h = absurd h

pub said_open : (past : List Step) (ask : Ask) (i : ℕ) (line : Line)
    → IsOpen past ask i line
    → said ask i past ≡ None
said_open past ask i line opens =
    undecided ask i (share ask i past) line.ask line.talk opens.stage

-- ---- which is due

busy_not_due : (busy : List Peer) (to : Peer) (s : Option Share)
    → is_busy busy to ≡ true
    → is_due busy to s ≡ false
busy_not_due busy to None e = rw e refl
busy_not_due busy to (Some s) e = refl

not_due : (busy : List Peer) (past : List Step) (ask : Ask) (i : ℕ) (line : Line)
    → IsOpen past ask i line
    → HasBegun busy line
    → is_due busy ask.to (share ask i past) ≡ false
not_due busy past ask i line opens (inl gone) =
    runs ask i (share ask i past) line.talk busy
    (subst (λ (a : Option Ask). IsStage ask i (share ask i past) a line.talk) gone opens.stage)
not_due busy past ask i line opens (inr taken) =
    busy_not_due busy ask.to (share ask i past)
    (subst (λ (to : Peer). is_busy busy to ≡ true) opens.to taken)

over_not_due : (busy : List Peer) (to : Peer) (s : Option Share) (o : Outcome)
    → verdict_of s ≡ Some o
    → is_due busy to s ≡ false
over_not_due busy to None o e = absurd cc
over_not_due busy to (Some s) o e = refl

-- the first that is due stands behind one that is decided, or that has begun
past_over : (busy : List Peer) (ask : Ask) (asks : List Ask) (i : ℕ) (past : List Step)
    (o : Outcome)
    → said ask i past ≡ Some o
    → first_due busy (ask ∷ asks) i past ≡ first_due busy asks (suc i) past
unfolding first_due
past_over busy ask asks i past o e =
    rw (over_not_due busy ask.to (share ask i past) o e, e) refl

past_begun : (busy : List Peer) (ask : Ask) (asks : List Ask) (i : ℕ) (past : List Step)
    → is_due busy ask.to (share ask i past) ≡ false
    → said ask i past ≡ None
    → first_due busy (ask ∷ asks) i past ≡ first_due (busy ++ ask.to ∷ []) asks (suc i) past
unfolding first_due
past_begun busy ask asks i past due e = rw (due, e) refl

is_first : (busy : List Peer) (ask : Ask) (asks : List Ask) (i : ℕ) (past : List Step)
    → is_due busy ask.to (share ask i past) ≡ true
    → first_due busy (ask ∷ asks) i past ≡ Some i
unfolding first_due
is_first busy ask asks i past due = rw due refl

none_left : (busy : List Peer) (i : ℕ) (past : List Step) → first_due busy [] i past ≡ None
unfolding first_due
none_left busy i past = refl

-- where each has begun, none is due
pub none_due : (busy : List Peer) (asks : List Ask) (i : ℕ) (past : List Step)
    (lines : List Line) (outcomes : List (Option Outcome))
    → AreOpen past asks i lines outcomes
    → AllBegun busy lines
    → first_due busy asks i past ≡ None
none_due busy [] i past lines outcomes kept begun = none_left busy i past
none_due busy (ask ∷ asks) i past lines [] kept begun = absurd kept
none_due busy (ask ∷ asks) i past lines (Some o ∷ outcomes) kept begun =
    past_over busy ask asks i past o kept.0
    ∙ none_due busy asks (suc i) past lines outcomes kept.1 begun
none_due busy (ask ∷ asks) i past [] (None ∷ outcomes) kept begun = absurd kept
none_due busy (ask ∷ asks) i past (line ∷ lines) (None ∷ outcomes) kept begun =
    past_begun busy ask asks i past
    (not_due busy past ask i line kept.0 begun.0)
    (said_open past ask i line kept.0)
    ∙ none_due (busy ++ ask.to ∷ []) asks (suc i) past lines outcomes kept.1
    (subst (λ (to : Peer). AllBegun (busy ++ to ∷ []) lines) kept.0.to begun.1)

or_false : (a b : Bool) → (a || b) ≡ false → (a ≡ false) × (b ≡ false)
or_false true b e = absurd cc
or_false false b e = (refl, e)

both_false : (a b : Bool) → a ≡ false → b ≡ false → (a || b) ≡ false
both_false a b e f = rw (e, f) refl

or_last : (b : Bool) → (b || false) ≡ b
or_last true = refl
or_last false = refl

-- one that no earlier one keeps from it
free_more : (busy : List Peer) (other to : Peer)
    → is_busy busy to ≡ false
    → is_same_peer other to ≡ false
    → is_busy (busy ++ other ∷ []) to ≡ false
free_more busy other to free apart =
    list_any-append (λ p. is_same_peer p to) busy (other ∷ [])
    ∙ both_false (is_busy busy to) (is_busy (other ∷ []) to) free
    (or_last (is_same_peer other to) ∙ apart)

free_due : (busy : List Peer) (to : Peer) (s : Option Share)
    → s ≡ None
    → is_busy busy to ≡ false
    → is_due busy to s ≡ true
free_due busy to s none free = rw (none, free) refl

abbrev pub tos : List Line → List Peer
tos lines = map (λ line. line.to) lines

pub any_tos : (lines : List Line) (to : Peer)
    → list_any (λ (line : Line). is_same_peer line.to to) lines ≡ is_busy (tos lines) to
any_tos [] to = refl
any_tos (x ∷ lines) to =
    ap (λ (b : Bool). is_same_peer x.to to || b) (any_tos lines to)

-- the line at an index is the first that is due, where those before it have begun and no undecided
-- one before it is to its directory
pub first_at : (busy : List Peer) (asks : List Ask) (i : ℕ) (past : List Step)
    (lines : List Line) (outcomes : List (Option Outcome)) (k : ℕ) (line : Line) (kept : Ask)
    → AreOpen past asks i lines outcomes
    → AllBegun busy (take k lines)
    → slice_get lines k ≡ Some line
    → line.ask ≡ Some kept
    → is_busy busy line.to ≡ false
    → is_busy (tos (take k lines)) line.to ≡ false
    → first_due busy asks i past ≡ Some line.number
first_at busy [] i past lines outcomes k line kept are begun there waiting free apart =
    absurd (nothing lines k line are.0 there)
first_at busy (ask ∷ asks) i past lines [] k line kept are begun there waiting free apart =
    absurd are
first_at busy (ask ∷ asks) i past lines
    (Some o ∷ outcomes) k line kept are begun there waiting free
    apart =
    past_over busy ask asks i past o are.0
    ∙ first_at busy asks (suc i) past lines outcomes k line kept are.1 begun there waiting free
    apart
first_at busy (ask ∷ asks) i past [] (None ∷ outcomes) k line kept are begun there waiting free
    apart =
    absurd are
first_at busy (ask ∷ asks) i past (x ∷ lines) (None ∷ outcomes) zero line kept are begun there
    waiting free apart =
    let same : x ≡ line = cc in
    let opens = subst (λ (l : Line). IsOpen past ask i l) same are.0 in
    is_first busy ask asks i past
    (free_due busy ask.to (share ask i past)
    (waits_open past ask i line kept opens waiting).0
    (subst (λ (to : Peer). is_busy busy to ≡ false) opens.to free))
    ∙ ap (λ (n : ℕ). Some n) (sym opens.number)
first_at busy (ask ∷ asks) i past (x ∷ lines) (None ∷ outcomes)
    (suc k) line kept are begun there
    waiting free apart =
    let parts = or_false (is_same_peer x.to line.to) (is_busy (tos (take k lines)) line.to) apart in
    past_begun busy ask asks i past
    (not_due busy past ask i x are.0 begun.0)
    (said_open past ask i x are.0)
    ∙ first_at (busy ++ ask.to ∷ []) asks (suc i) past lines outcomes k line kept are.1
    (subst (λ (to : Peer). AllBegun (busy ++ to ∷ []) (take k lines)) are.0.to begun.1)
    there waiting
    (subst (λ (to : Peer). is_busy (busy ++ to ∷ []) line.to ≡ false) are.0.to
    (free_more busy x.to line.to free parts.0))
    parts.1

-- ---- those that have begun

pub begun_more : (busy : List Peer) (lines : List Line) (k : ℕ) (line : Line)
    → slice_get lines k ≡ Some line
    → AllBegun busy (take k lines)
    → HasBegun (busy ++ tos (take k lines)) line
    → AllBegun busy (take (suc k) lines)
begun_more busy [] k line there begun has = absurd cc
begun_more busy (x ∷ lines) zero line there begun has =
    let same : x ≡ line = cc in (
      subst (λ (b : List Peer). HasBegun b x) (append_none busy)
          (subst (λ (l : Line). HasBegun (busy ++ []) l) (sym same) has),
      tt,
    )
  where
    append_none : (xs : List Peer) → xs ++ [] ≡ xs
    append_none [] = refl
    append_none (y ∷ ys) = ap (λ (zs : List Peer). y ∷ zs) (append_none ys)
begun_more busy (x ∷ lines) (suc k) line there begun has = (
  begun.0,
  begun_more (busy ++ x.to ∷ []) lines k line there begun.1
      (subst (λ (b : List Peer). HasBegun b line)
      (sym (append_assoc busy (x.to ∷ []) (tos (take k lines))))
      has),
)

-- ---- a talk begins

-- a line that begins stands for its ask
pub begun_open : (past : List Step) (ask : Ask) (i : ℕ) (line : Line) (kept : Ask)
    (now : Moment) (word : ℕ) (talk : Talking)
    → IsOpen past ask i line
    → line.ask ≡ Some kept
    → StandsFor
    (asked_now kept line.number (token_of line.number) now.0 word)
    (octets_of kept line.number)
    []
    talk
    → IsOpen (step.Began line.number now word ∷ past) ask i
    (record {
      number = line.number;
      to = line.to;
      ask = None;
      talk = Some talk;
      outcome = line.outcome;
    })
begun_open past ask i line kept now word talk opens waiting stands = record {
  number = opens.number;
  to = opens.to;
  outcome = opens.outcome;
  stage =
      subst (λ (s : Option Share). IsStage ask i s None (Some talk))
      (sym (share_own ask i line.number now word past opens.number))
      (subst
      (λ (a : Ask). StandsFor (asked_now a i (token_of i) now.0 word) (octets_of a i) [] talk)
      (waits_open past ask i line kept opens waiting).1
      (subst
      (λ (n : ℕ). StandsFor
      (asked_now kept n (token_of n) now.0 word)
      (octets_of kept n)
      []
      talk)
      opens.number
      stands));
}

open_other : (past : List Step) (ask : Ask) (i n : ℕ) (now : Moment) (word : ℕ) (line : Line)
    → (n == i) ≡ false
    → IsOpen past ask i line
    → IsOpen (step.Began n now word ∷ past) ask i line
open_other past ask i n now word line e opens = record {
  number = opens.number;
  to = opens.to;
  outcome = opens.outcome;
  stage =
      subst (λ (s : Option Share). IsStage ask i s line.ask line.talk)
      (sym (share_other ask i n now word past e))
      opens.stage;
}

-- those behind it stand as before
kept_behind : (asks : List Ask) (i n : ℕ) (now : Moment) (word : ℕ) (past : List Step)
    (lines : List Line) (outcomes : List (Option Outcome))
    → n < i
    → AreOpen past asks i lines outcomes
    → AreOpen (step.Began n now word ∷ past) asks i lines outcomes
kept_behind [] i n now word past lines outcomes less are = are
kept_behind (ask ∷ asks) i n now word past lines [] less are = absurd are
kept_behind (ask ∷ asks) i n now word past lines (Some o ∷ outcomes) less are = (
  said_other ask i n now word past (Some o) (is_not_either n i less) are.0,
  kept_behind asks (suc i) n now word past lines outcomes (omega (arith, less)) are.1,
)
kept_behind (ask ∷ asks) i n now word past [] (None ∷ outcomes) less are = absurd are
kept_behind (ask ∷ asks) i n now word past (line ∷ lines) (None ∷ outcomes) less are = (
  open_other past ask i n now word line (is_not_either n i less) are.0,
  kept_behind asks (suc i) n now word past lines outcomes (omega (arith, less)) are.1,
)

-- the number of a line is none of an earlier ask
pub number_from : (asks : List Ask) (i : ℕ) (past : List Step) (lines : List Line)
    (outcomes : List (Option Outcome)) (k : ℕ) (line : Line)
    → AreOpen past asks i lines outcomes
    → slice_get lines k ≡ Some line
    → i ≤ line.number
number_from [] i past lines outcomes k line are there =
    absurd (nothing lines k line are.0 there)
number_from (ask ∷ asks) i past lines [] k line are there = absurd are
number_from (ask ∷ asks) i past lines (Some o ∷ outcomes) k line are there =
    let more = number_from asks (suc i) past lines outcomes k line are.1 there in
    omega (arith, more)
number_from (ask ∷ asks) i past [] (None ∷ outcomes) k line are there = absurd are
number_from (ask ∷ asks) i past (x ∷ lines) (None ∷ outcomes) zero line are there =
    let same : x ≡ line = cc in
    let number : line.number ≡ i = subst (λ (l : Line). l.number ≡ i) same are.0.number in
    omega (arith, number)
number_from (ask ∷ asks) i past (x ∷ lines) (None ∷ outcomes) (suc k) line are there =
    let more = number_from asks (suc i) past lines outcomes k line are.1 there in
    omega (arith, more)

-- all stand for what they did, with the talk of one begun
pub begun_kept : (asks : List Ask) (i : ℕ) (past : List Step) (lines : List Line)
    (outcomes : List (Option Outcome)) (k : ℕ) (line new : Line) (kept : Ask) (now : Moment)
    (word : ℕ)
    → AreOpen past asks i lines outcomes
    → slice_get lines k ≡ Some line
    → ((ask : Ask) (j : ℕ)
    → IsOpen past ask j line
    → IsOpen (step.Began line.number now word ∷ past) ask j new)
    → AreOpen (step.Began line.number now word ∷ past) asks i (slice_set lines k new) outcomes
begun_kept [] i past lines outcomes k line new kept now word are there begins =
    absurd (nothing lines k line are.0 there)
begun_kept (ask ∷ asks) i past lines [] k line new kept now word are there begins = absurd are
begun_kept (ask ∷ asks) i past lines
    (Some o ∷ outcomes) k line new kept now word are there begins =
    let more : suc i ≤ line.number =
    number_from asks (suc i) past lines outcomes k line are.1 there in (
      said_other ask i line.number now word past (Some o)
          (is_not line.number i (omega (arith, more))) are.0,
      begun_kept asks (suc i) past lines outcomes k line new kept now word are.1 there begins,
    )
begun_kept (ask ∷ asks) i past [] (None ∷ outcomes) k line new kept now word are there begins =
    absurd are
begun_kept (ask ∷ asks) i past (x ∷ lines)
    (None ∷ outcomes) zero line new kept now word are there
    begins =
    let same : x ≡ line = cc in
    let opens = subst (λ (l : Line). IsOpen past ask i l) same are.0 in (
      begins ask i opens,
      kept_behind asks (suc i) line.number now word past lines outcomes
          (let number = opens.number in omega (arith, number)) are.1,
    )
begun_kept (ask ∷ asks) i past (x ∷ lines) (None ∷ outcomes)
    (suc k) line new kept now word are
    there begins =
    let more : suc i ≤ line.number =
    number_from asks (suc i) past lines outcomes k line are.1 there in (
      open_other past ask i line.number now word x (is_not line.number i (omega (arith, more)))
          are.0,
      begun_kept asks (suc i) past lines outcomes k line new kept now word are.1 there begins,
    )

-- what is sent then
pub sent_begun : (asks : List Ask) (i : ℕ) (past : List Step) (lines : List Line)
    (outcomes : List (Option Outcome)) (k : ℕ) (line : Line) (kept : Ask)
    → AreOpen past asks i lines outcomes
    → slice_get lines k ≡ Some line
    → line.ask ≡ Some kept
    → ◌≡◌ {A = List Sent}
    (sent_first asks i line.number)
    ((line.to, octets_of kept line.number) ∷ [])
sent_begun [] i past lines outcomes k line kept are there waiting =
    absurd (nothing lines k line are.0 there)
sent_begun (ask ∷ asks) i past lines [] k line kept are there waiting = absurd are
sent_begun (ask ∷ asks) i past lines (Some o ∷ outcomes) k line kept are there waiting =
    let more : suc i ≤ line.number =
    number_from asks (suc i) past lines outcomes k line are.1 there in
    rw (is_not line.number i (omega (arith, more)))
    (sent_begun asks (suc i) past lines outcomes k line kept are.1 there waiting)
sent_begun (ask ∷ asks) i past [] (None ∷ outcomes) k line kept are there waiting = absurd are
sent_begun (ask ∷ asks) i past (x ∷ lines)
    (None ∷ outcomes) zero line kept are there waiting =
    let same : x ≡ line = cc in
    let opens = subst (λ (l : Line). IsOpen past ask i l) same are.0 in
    let own = (waits_open past ask i line kept opens waiting).1 in
    rw (eq-eqb line.number i opens.number) (rw (opens.to, own, opens.number) refl)
sent_begun (ask ∷ asks) i past (x ∷ lines) (None ∷ outcomes)
    (suc k) line kept are there waiting =
    let more : suc i ≤ line.number =
    number_from asks (suc i) past lines outcomes k line are.1 there in
    rw (is_not line.number i (omega (arith, more)))
    (sent_begun asks (suc i) past lines outcomes k line kept are.1 there waiting)

-- it can be sent
pub can_begin : (asks : List Ask) (i : ℕ) (past : List Step) (lines : List Line)
    (outcomes : List (Option Outcome)) (k : ℕ) (line : Line) (kept : Ask)
    → AreOpen past asks i lines outcomes
    → slice_get lines k ≡ Some line
    → line.ask ≡ Some kept
    → CanBeSent kept
can_begin [] i past lines outcomes k line kept are there waiting =
    absurd (nothing lines k line are.0 there)
can_begin (ask ∷ asks) i past lines [] k line kept are there waiting = absurd are
can_begin (ask ∷ asks) i past lines (Some o ∷ outcomes) k line kept are there waiting =
    can_begin asks (suc i) past lines outcomes k line kept are.1 there waiting
can_begin (ask ∷ asks) i past [] (None ∷ outcomes) k line kept are there waiting = absurd are
can_begin (ask ∷ asks) i past (x ∷ lines) (None ∷ outcomes) zero line kept are there waiting =
    let same : x ≡ line = cc in
    let opens = subst (λ (l : Line). IsOpen past ask i l) same are.0 in
    let w = waits_open past ask i line kept opens waiting in
    subst CanBeSent (sym w.1) w.2
can_begin (ask ∷ asks) i past (x ∷ lines) (None ∷ outcomes)
    (suc k) line kept are there waiting =
    can_begin asks (suc i) past lines outcomes k line kept are.1 there waiting

-- what is known of a line whose talk began
pub began : (ask : Ask) (line : Line) (taken : Ask) (token : List ℕ) (now : Moment) (word : ℕ)
    (talk : Talking) (bytes : List ℕ) (before after : Outside) (left : Option Ask)
    → line.ask ≡ Some ask
    → line.ask ≡ Some taken
    → left ≡ None
    → token ≡ token_of line.number
    → IsTimed now before.times after.times
    → IsSpoken word before.words after.words
    → StandsFor
    (asked_now taken line.number token now.0 word)
    (spelling (message_of taken line.number token))
    []
    talk
    → bytes ≡ talk.octets
    → Sends ((line.to, bytes) ∷ []) before.gone before.send_faults after.gone after.send_faults
    → Stays before.coming after.coming
    → after.recv_faults ≡ before.recv_faults
    → Begun ask line
    (record {
      number = line.number;
      to = line.to;
      ask = left;
      talk = Some talk;
      outcome = line.outcome;
    })
    before
    after
began ask line taken token now word talk bytes before after left is was none tokens timed spoken
    stands octets sends coming receives =
    let same : taken ≡ ask = let e = sym was ∙ is in cc in
    let stood : StandsFor
    (asked_now ask line.number (token_of line.number) now.0 word)
    (octets_of ask line.number)
    []
    talk =
    subst
    (λ (a : Ask). StandsFor (asked_now a line.number (token_of line.number) now.0 word)
    (octets_of a line.number) [] talk) same
    (subst
    (λ (t : List ℕ). StandsFor (asked_now taken line.number t now.0 word)
    (spelling (message_of taken line.number t)) [] talk) tokens stands) in
    record {
      now = now;
      word = word;
      talk = talk;
      timed = timed;
      spoken = spoken;
      sends =
          subst (λ (o : List ℕ).
          Sends ((line.to, o) ∷ []) before.gone before.send_faults after.gone
          after.send_faults)
          (octets ∙ ap (λ (t : Talking). t.octets) stood.kept)
          sends;
      coming = coming;
      receives = receives;
      stands = stood;
      is =
          ap (λ (a : Option Ask). record {
            number = line.number;
            to = line.to;
            ask = a;
            talk = Some talk;
            outcome = line.outcome;
          }) none;
    }

-- ---- what is said

pub kept_said : (asks : List Ask) (i : ℕ) (past : List Step) (lines : List Line)
    (outcomes : List (Option Outcome))
    → AreOpen past asks i lines outcomes
    → outcomes ≡ said_all asks i past
kept_said [] i past lines outcomes are = are.1
kept_said (ask ∷ asks) i past lines [] are = absurd are
kept_said (ask ∷ asks) i past lines (Some o ∷ outcomes) are =
    joined (Some o) (said ask i past) outcomes (said_all asks (suc i) past) (sym are.0)
    (kept_said asks (suc i) past lines outcomes are.1)
  where
    joined : (x y : Option Outcome) (xs ys : List (Option Outcome))
        → x ≡ y
        → xs ≡ ys
        → ◌≡◌ {A = List (Option Outcome)} (x ∷ xs) (y ∷ ys)
    joined x y xs ys e f = rw (e, f) refl
kept_said (ask ∷ asks) i past [] (None ∷ outcomes) are = absurd are
kept_said (ask ∷ asks) i past (line ∷ lines) (None ∷ outcomes) are =
    joined None (said ask i past) outcomes (said_all asks (suc i) past)
    (sym (said_open past ask i line are.0))
    (kept_said asks (suc i) past lines outcomes are.1)
  where
    joined : (x y : Option Outcome) (xs ys : List (Option Outcome))
        → x ≡ y
        → xs ≡ ys
        → ◌≡◌ {A = List (Option Outcome)} (x ∷ xs) (y ∷ ys)
    joined x y xs ys e f = rw (e, f) refl

-- ---- the loop

due_ask : (kept : Option Ask) (busy : Bool)
    → (is_some kept && not busy) ≡ true
    → ((ask : Ask) × (kept ≡ Some ask)) × (busy ≡ false)
due_ask None busy e = absurd cc
due_ask (Some ask) true e = absurd cc
due_ask (Some ask) false e = ((ask, refl), refl)

-- a line whose talk is to begin
pub due_parts : (before : List Line) (line : Line)
    → is_to_begin before line ≡ true
    → ((ask : Ask) × (line.ask ≡ Some ask)) × (is_busy (tos before) line.to ≡ false)
due_parts before line e =
    let parts =
    due_ask line.ask (list_any (λ (other : Line). is_same_peer other.to line.to) before) e in
    (parts.0, sym (any_tos before line.to) ∙ parts.1)

has_by : (kept : Option Ask) (busy : Bool)
    → (is_some kept && not busy) ≡ false
    → (kept ≡ None) ⊎ (busy ≡ true)
has_by None busy e = inl refl
has_by (Some ask) true e = inr refl
has_by (Some ask) false e = absurd cc

has_begun : (before : List Line) (line : Line)
    → is_to_begin before line ≡ false
    → HasBegun ([] ++ tos before) line
has_begun before line e =
    by (has_by line.ask (list_any (λ (other : Line). is_same_peer other.to line.to) before) e)
  where
    by : ((line.ask ≡ None)
        ⊎ (list_any (λ (other : Line). is_same_peer other.to line.to) before ≡ true))
        → HasBegun ([] ++ tos before) line
    by (inl none) = inl none
    by (inr busy) = inr (sym (any_tos before line.to) ∙ busy)

-- the talks of the first so many lines began where they were to
abbrev pub BeginsSo : List Ask → List Step → List (Option Outcome) → ℕ → List Line
    → Outside
    → Outside → Type 0
BeginsSo asks past outcomes at lines a b =
    (more : List Step)
    × HappensAll asks past more a b
    × AreOpen (more ++ past) asks 0 lines outcomes
    × AllBegun [] (take at lines)
    × AllBegan more

pub begins_first : (asks : List Ask) (past : List Step) (outcomes : List (Option Outcome))
    (lines : List Line) (a : Outside)
    → AreOpen past asks 0 lines outcomes
    → BeginsSo asks past outcomes 0 lines a a
begins_first asks past outcomes [] a are = ([], refl, are, tt, tt)
begins_first asks past outcomes (line ∷ lines) a are = ([], refl, are, tt, tt)

pub begins_skip : (asks : List Ask) (past : List Step) (outcomes : List (Option Outcome)) (at : ℕ)
    (lines : List Line) (line : Line) (a b : Outside)
    → BeginsSo asks past outcomes at lines a b
    → slice_get lines at ≡ Some line
    → is_to_begin (take at lines) line ≡ false
    → BeginsSo asks past outcomes (suc at) lines a b
begins_skip asks past outcomes at lines line a b so there due = (
  so.0,
  so.1,
  so.2,
  begun_more [] lines at line there so.3 (has_begun (take at lines) line due),
  so.4,
)

set_there : (lines : List Line) (at : ℕ) (line new : Line)
    → slice_get lines at ≡ Some line
    → slice_get (slice_set lines at new) at ≡ Some new
set_there [] at line new there = absurd cc
set_there (x ∷ lines) zero line new there = refl
set_there (x ∷ lines) (suc at) line new there = set_there lines at line new there

take_set_same : (lines : List Line) (at : ℕ) (new : Line)
    → take at (slice_set lines at new) ≡ take at lines
take_set_same [] at new = refl
take_set_same (x ∷ lines) zero new = refl
take_set_same (x ∷ lines) (suc at) new =
    ap (λ (ls : List Line). x ∷ ls) (take_set_same lines at new)

pub begins_next : (asks : List Ask) (past : List Step) (outcomes : List (Option Outcome)) (at : ℕ)
    (lines : List Line) (line new : Line) (a b c : Outside)
    → BeginsSo asks past outcomes at lines a b
    → slice_get lines at ≡ Some line
    → is_to_begin (take at lines) line ≡ true
    → IsBegun line new b c
    → BeginsSo asks past outcomes (suc at) (slice_set lines at new) a c
begins_next asks past outcomes at lines line new a b c so there due begins =
    let parts = due_parts (take at lines) line due in
    let kept = parts.0.0 in
    let begun = begins kept parts.0.1 in
    let before = so.0 ++ past in
    let opens : (ask : Ask) (j : ℕ)
    → IsOpen before ask j line
    → IsOpen (step.Began line.number begun.now begun.word ∷ before) ask j new =
    λ ask j stands.
    subst (λ (l : Line). IsOpen (step.Began line.number begun.now begun.word ∷ before) ask j l)
    (sym begun.is)
    (begun_open before ask j line kept begun.now begun.word begun.talk stands parts.0.1
    begun.stands) in (
      step.Began line.number begun.now begun.word ∷ so.0,
      (
        b,
        so.1,
        record {
          due =
              first_at [] asks 0 before lines outcomes at line kept so.2 so.3 there parts.0.1 refl
              parts.1;
          timed = begun.timed;
          spoken = begun.spoken;
          sends =
              subst (λ (ds : List Datagram). Sends ds b.gone b.send_faults c.gone c.send_faults)
              (sym (sent_begun asks 0 before lines outcomes at line kept so.2 there parts.0.1))
              begun.sends;
          coming = begun.coming;
          receives = begun.receives;
        },
      ),
      begun_kept asks 0 before lines outcomes at line new kept begun.now begun.word so.2 there
          opens,
      begun_more [] (slice_set lines at new) at new (set_there lines at line new there)
          (subst (λ (ls : List Line). AllBegun [] ls) (sym (take_set_same lines at new)) so.3)
          (inl (ap (λ (l : Line). l.ask) begun.is)),
      so.4,
    )

pub begins_last : (asks : List Ask) (past : List Step) (outcomes : List (Option Outcome)) (at : ℕ)
    (lines : List Line) (a b : Outside)
    → BeginsSo asks past outcomes at lines a b
    → take at lines ≡ lines
    → AreBegun {E = Starved} asks past outcomes (Ok tt) lines a b
begins_last asks past outcomes at lines a b so all =
    (so.0, so.1, so.2, subst (λ (ls : List Line). AllBegun [] ls) all so.3, so.4)

pub begins_lost : (asks : List Ask) (past : List Step) (outcomes : List (Option Outcome)) (at : ℕ)
    (lines after : List Line) (e : Starved) (a b c : Outside)
    → BeginsSo asks past outcomes at lines a b
    → IsLost b c
    → AreBegun {E = Starved} asks past outcomes (Err e) after a c
begins_lost asks past outcomes at lines after e a b c so lost =
    (so.0, b, so.1, kept_said asks 0 (so.0 ++ past) lines outcomes so.2, lost, so.4)

-- what may begin can be sent
pub begins_can : (asks : List Ask) (past : List Step) (outcomes : List (Option Outcome)) (at : ℕ)
    (lines : List Line) (line : Line) (a b : Outside)
    → BeginsSo asks past outcomes at lines a b
    → slice_get lines at ≡ Some line
    → is_to_begin (take at lines) line ≡ true
    → (ask : Ask) × (line.ask ≡ Some ask) × CanBeSent ask
begins_can asks past outcomes at lines line a b so there due =
    let parts = due_parts (take at lines) line due in (
      parts.0.0,
      parts.0.1,
      can_begin asks 0 (so.0 ++ past) lines outcomes at line parts.0.0 so.2 there parts.0.1,
    )

-- the same of values that are known by an equation
pub begins_set : (asks : List Ask) (past : List Step) (outcomes : List (Option Outcome))
    (at n : ℕ) (lines after : List Line) (line new : Line) (a b c d : Outside)
    → n ≡ at + 1
    → after ≡ slice_set lines at new
    → d ≡ c
    → BeginsSo asks past outcomes at lines a b
    → slice_get lines at ≡ Some line
    → is_to_begin (take at lines) line ≡ true
    → IsBegun line new b c
    → BeginsSo asks past outcomes n after a d
begins_set asks past outcomes at n lines after line new a b c d e f g so there due begins =
    subst (λ (o : Outside). BeginsSo asks past outcomes n after a o) (sym g)
    (subst (λ (ls : List Line). BeginsSo asks past outcomes n ls a c) (sym f)
    (subst (λ (m : ℕ). BeginsSo asks past outcomes m (slice_set lines at new) a c)
    (sym (e ∙ add-one at))
    (begins_next asks past outcomes at lines line new a b c so there due begins)))

pub begins_not : (asks : List Ask) (past : List Step) (outcomes : List (Option Outcome))
    (at n : ℕ) (lines after : List Line) (line : Line) (a b d : Outside)
    → n ≡ at + 1
    → after ≡ lines
    → d ≡ b
    → BeginsSo asks past outcomes at lines a b
    → slice_get lines at ≡ Some line
    → is_to_begin (take at lines) line ≡ false
    → BeginsSo asks past outcomes n after a d
begins_not asks past outcomes at n lines after line a b d e f g so there due =
    subst (λ (o : Outside). BeginsSo asks past outcomes n after a o) (sym g)
    (subst (λ (ls : List Line). BeginsSo asks past outcomes n ls a b) (sym f)
    (subst (λ (m : ℕ). BeginsSo asks past outcomes m lines a b)
    (sym (e ∙ add-one at))
    (begins_skip asks past outcomes at lines line a b so there due)))

pub starved_at : (e : Starved) (P : Result Unit Starved → Type 0) (r : Result Unit Starved)
    → ((f : Starved) → P (Err f))
    → IsErrAnd r (λ f. f ≡ e)
    → P r
starved_at e P (Ok x) h same = absurd same
starved_at e P (Err f) h same = h f

pub there_some : (lines : List Line) (at : ℕ)
    → at < length lines
    → (line : Line) × (slice_get lines at ≡ Some line)
there_some [] at inside = absurd (omega (arith, inside))
there_some (x ∷ lines) zero inside = (x, refl)
there_some (x ∷ lines) (suc at) inside = there_some lines at (omega (arith, inside))
