-- An event is handed to each line.
use Rattle.std.proofs.Common.{
  ◌≡◌,
  ◌+◌,
  ◌≤◌,
  inl,
  inr,
  ℕ,
  zero,
  suc,
  Bool,
  true,
  false,
  List,
  [],
  ◌∷◌,
  ◌++◌,
  length,
  take,
  Option,
  Some,
  None,
  Result,
  Ok,
  Err,
  refl,
  sym,
  subst,
  ◌∙◌,
  arith,
  add-one,
  ap,
  append_assoc,
}
use Rattle.std.specs.List.{slice_get}
use Rattle.std.proofs.lemmas.List.{append-nil}
use Rattle.std.specs.Prelude.{slice_set, IsErrAnd}
use Rattle.rd_base.specs.declared.peers.Peer.{Peer}
use Rattle.udp_link.specs.Told.{WhereTold, Stays}
use Rattle.udp_link.specs.Links.{Datagram}
use Rattle.client_model.specs.declared.asks.Ask.{Ask}
use Rattle.client_model.specs.declared.events.Event.{Event}
use Rattle.client_model.specs.declared.events.Event.TheVariants as event
use Rattle.client_model.specs.declared.outcomes.Outcome.{Outcome}
use Rattle.client_model.specs.Requests.{Asked}
use Rattle.client_model.specs.Sending.{Sent, sent_for}
use Rattle.client_model.specs.Verdicts.{verdict}
use Rattle.registrant.specs.declared.turns.TellFault.{TellFault}
use Rattle.registrant.specs.declared.turns.TellFault.TheVariants as fault
use Rattle.registrant.specs.declared.turns.Turn.{Turn}
use Rattle.registrant.specs.declared.turns.Turn.TheVariants as turn
use Rattle.registrant.specs.Talking.{Talking, StandsFor}
use Rattle.registrant.specs.Turns.{Outside, Sends, IsTimed, TakesEvent, moment_at}
use Rattle.registrant.proofs.TurnLaws.{sends_none, sends_after}
use Rattle.commissioner.specs.declared.lines.Line.{Line}
use Rattle.commissioner.specs.declared.steps.Step.{Step}
use Rattle.commissioner.specs.declared.steps.Step.TheVariants as step
use Rattle.commissioner.specs.Shares.{
  Share,
  octets_of,
  is_shared,
  share_if,
  share_with,
  share,
  said,
  verdict_of,
  sent_if,
  sent_by,
  sent_all,
  is_heard,
}
use Rattle.commissioner.specs.Lines.{
  IsStage,
  IsOpen,
  IsLine,
  IsTurnedIf,
  IsDatagram,
  IsHanded,
  IsNoLink,
}
use Rattle.commissioner.specs.Happening.{
  AreOpen,
  AreLines,
  AllBegun,
  AreHanded,
  IsTaken,
  CountsTaken,
  is_unsaid,
}
use Rattle.commissioner.proofs.BeginLaws.{none_due, kept_said}
use Rattle.commissioner.proofs.ShareLaws.{share_event, said_stays, said_silent}
use Rattle.commissioner.proofs.SendLaws.{sends_both, sends_as}

-- ---- one line

-- what a talk that runs stands for
pub record Running (past : List Step) (ask : Ask) (i : ℕ) (talk : Talking) : Type 0 where
  pub own : Share
  pub is : share ask i past ≡ Some own
  pub stands : StandsFor own.asked (octets_of ask i) own.events talk

running_by : (past : List Step) (ask : Ask) (i : ℕ) (s : Option Share) (kept : Option Ask)
    (talk : Talking)
    → share ask i past ≡ s
    → IsStage ask i s kept (Some talk)
    → Running past ask i talk
running_by past ask i None None talk e h = absurd h
running_by past ask i None (Some kept) talk e h = absurd h
running_by past ask i (Some s) None talk e h = record { own = s; is = e; stands = h }
running_by past ask i (Some s) (Some kept) talk e h = absurd h

pub running : (past : List Step) (ask : Ask) (i : ℕ) (line : Line) (talk : Talking)
    → IsOpen past ask i line
    → line.talk ≡ Some talk
    → Running past ask i talk
running past ask i line talk opens e =
    running_by past ask i (share ask i past) line.ask talk refl
    (subst (λ (t : Option Talking). IsStage ask i (share ask i past) line.ask t) e opens.stage)

waiting_by : (ask : Ask) (i : ℕ) (e : Event) (s : Option Share) (kept : Option Ask)
    → IsStage ask i s kept None
    → IsStage ask i (share_with ask i (step.Happened e) s) kept None
    × ◌≡◌ {A = List Sent} (sent_by ask i e s) []
waiting_by ask i e None kept h = (h, refl)
waiting_by ask i e (Some s) None h = absurd h
waiting_by ask i e (Some s) (Some kept) h = absurd h

-- a line that has not begun stays as it is, and nothing is sent for it
pub handed_waiting : (past : List Step) (ask : Ask) (i : ℕ) (e : Event) (line : Line)
    (x : Option (List Datagram)) (n : ℕ)
    → IsOpen past ask i line
    → line.talk ≡ None
    → IsHanded ask i past e (Ok tt) line x n x n
handed_waiting past ask i e line x n opens none =
    let w =
    waiting_by ask i e (share ask i past) line.ask
    (subst (λ (t : Option Talking). IsStage ask i (share ask i past) line.ask t) none opens.stage)
    in (
      inl (record {
        number = opens.number;
        to = opens.to;
        outcome = opens.outcome;
        stage =
            subst (λ (t : Option Talking).
            IsStage ask i (share ask i (step.Happened e ∷ past)) line.ask t) (sym none)
            (subst (λ (s : Option Share). IsStage ask i s line.ask None)
            (sym (share_event ask i e past)) w.0);
      }),
      sends_as [] (sent_by ask i e (share ask i past)) x x n n (sym w.1) (sends_none x n),
    )

-- the share of a talk that runs, with an event more
share_more : (past : List Step) (ask : Ask) (i : ℕ) (e : Event) (own : Share)
    → share ask i past ≡ Some own
    → verdict own.asked own.events ≡ None
    → share ask i (step.Happened e ∷ past) ≡ Some (share_if (is_shared ask.to e) e own)
share_more past ask i e own is none =
    share_event ask i e past ∙ rw (is, none) refl

-- what is sent for it
sent_more : (past : List Step) (ask : Ask) (i : ℕ) (e : Event) (own : Share)
    → share ask i past ≡ Some own
    → verdict own.asked own.events ≡ None
    → ◌≡◌ {A = List Sent}
    (sent_by ask i e (share ask i past))
    (sent_if (is_shared ask.to e) (sent_for own.asked (octets_of ask i) own.events e))
sent_more past ask i e own is none = rw (is, none) refl

going_by : (b : Bool) (own : Share) (octets : List ℕ) (e : Event) (talk : Talking)
    (x y : Option (List Datagram)) (n m : ℕ)
    → IsTurnedIf b own.asked octets own.events e turn.Going talk x n y m
    → StandsFor (share_if b e own).asked octets (share_if b e own).events talk
    × Sends (sent_if b (sent_for own.asked octets own.events e)) x n y m
going_by true own octets e talk x y n m h = h
going_by false own octets e talk x y n m h = h

over_by : (b : Bool) (own : Share) (octets : List ℕ) (e : Event) (talk : Talking) (o : Outcome)
    (x y : Option (List Datagram)) (n m : ℕ)
    → IsTurnedIf b own.asked octets own.events e (turn.Over (Ok o)) talk x n y m
    → (verdict (share_if b e own).asked (share_if b e own).events ≡ Some o)
    × Sends (sent_if b (sent_for own.asked octets own.events e)) x n y m
over_by true own octets e talk o x y n m h = h
over_by false own octets e talk o x y n m h = absurd h

starved_by : (b : Bool) (own : Share) (octets : List ℕ) (e : Event) (talk : Talking)
    (x y : Option (List Datagram)) (n m : ℕ)
    → IsTurnedIf b own.asked octets own.events e (turn.Over (Err fault.Starved)) talk x n y m
    → IsDatagram e × (b ≡ true) × Sends [] x n y m
starved_by true own octets (event.Came now peer datagram) talk x y n m h = (tt, refl, h)
starved_by true own octets (event.Tick now) talk x y n m h = absurd h
starved_by false own octets e talk x y n m h = absurd h

no_link_by : (b : Bool) (own : Share) (octets : List ℕ) (e : Event) (talk : Talking)
    (x y : Option (List Datagram)) (n m : ℕ)
    → IsTurnedIf b own.asked octets own.events e (turn.Over (Err fault.Link)) talk x n y m
    → ⊥
no_link_by true own octets e talk x y n m h = h
no_link_by false own octets e talk x y n m h = h

-- it belongs to a talk that runs
heard_more : (past : List Step) (ask : Ask) (i : ℕ) (e : Event) (own : Share)
    → share ask i past ≡ Some own
    → verdict own.asked own.events ≡ None
    → is_shared ask.to e ≡ true
    → is_heard ask e (share ask i past) ≡ true
heard_more past ask i e own is none shared = rw (is, none, shared) refl

abbrev pub TurnsSo : Peer → Event → Talking → Turn → Talking → Option (List Datagram)
    → ℕ → Option (List Datagram) → ℕ → Type 0
TurnsSo to e old r new x n y m =
    (a : Asked) (octets : List ℕ) (past : List Event)
    → StandsFor a octets past old
    → IsTurnedIf (is_shared to e) a octets past e r new x n y m

stage_by : (ask : Ask) (i : ℕ) (kept : Option Ask) (own s : Share) (old talk : Talking)
    → IsStage ask i (Some own) kept (Some old)
    → StandsFor s.asked (octets_of ask i) s.events talk
    → IsStage ask i (Some s) kept (Some talk)
stage_by ask i None own s old talk h stands = stands
stage_by ask i (Some kept) own s old talk h stands = absurd h

stage_more : (past : List Step) (ask : Ask) (i : ℕ) (line : Line) (own s : Share)
    (old talk : Talking)
    → IsOpen past ask i line
    → line.talk ≡ Some old
    → share ask i past ≡ Some own
    → StandsFor s.asked (octets_of ask i) s.events talk
    → IsStage ask i (Some s) line.ask (Some talk)
stage_more past ask i line own s old talk opens is shared stands =
    stage_by ask i line.ask own s old talk
    (subst (λ (t : Option Talking). IsStage ask i (Some own) line.ask t) is
    (subst (λ (x : Option Share). IsStage ask i x line.ask line.talk) shared opens.stage))
    stands

-- what a talk came to, of a line to this directory
turned_at : (past : List Step) (ask : Ask) (i : ℕ) (e : Event) (to : Peer) (r : Turn)
    (own : Share) (old new : Talking) (x y : Option (List Datagram)) (n m : ℕ)
    → to ≡ ask.to
    → TurnsSo to e old r new x n y m
    → StandsFor own.asked (octets_of ask i) own.events old
    → IsTurnedIf (is_shared ask.to e) own.asked (octets_of ask i) own.events e r new x n y m
turned_at past ask i e to r own old new x y n m is turns stands =
    subst (λ (p : Peer). IsTurnedIf (is_shared p e) own.asked (octets_of ask i) own.events e r new
    x n y m) is
    (turns own.asked (octets_of ask i) own.events stands)

-- an event that does not decide it
pub handed_going : (past : List Step) (ask : Ask) (i : ℕ) (e : Event) (line : Line)
    (old talk : Talking) (x y : Option (List Datagram)) (n m : ℕ)
    → IsOpen past ask i line
    → line.talk ≡ Some old
    → TurnsSo line.to e old turn.Going talk x n y m
    → IsHanded ask i past e (Ok tt)
    (record {
      number = line.number;
      to = line.to;
      ask = line.ask;
      talk = Some talk;
      outcome = line.outcome;
    })
    x n y m
handed_going past ask i e line old talk x y n m opens is turns =
    let r = running past ask i line old opens is in
    let none = r.stands.undecided in
    let t =
    turned_at past ask i e line.to turn.Going r.own old talk x y n m opens.to turns r.stands in
    let g = going_by (is_shared ask.to e) r.own (octets_of ask i) e talk x y n m t in (
      inl (record {
        number = opens.number;
        to = opens.to;
        outcome = opens.outcome;
        stage =
            subst (λ (s : Option Share). IsStage ask i s line.ask (Some talk))
            (sym (share_more past ask i e r.own r.is none))
            (stage_more past ask i line r.own (share_if (is_shared ask.to e) e r.own) old talk opens
            is r.is g.0);
      }),
      sends_as
          (sent_if (is_shared ask.to e) (sent_for r.own.asked (octets_of ask i) r.own.events e))
          (sent_by ask i e (share ask i past)) x y n m
          (sym (sent_more past ask i e r.own r.is none)) g.1,
    )

-- one that does
pub handed_over : (past : List Step) (ask : Ask) (i : ℕ) (e : Event) (line : Line)
    (old talk : Talking) (o : Outcome) (x y : Option (List Datagram)) (n m : ℕ)
    → IsOpen past ask i line
    → line.talk ≡ Some old
    → TurnsSo line.to e old (turn.Over (Ok o)) talk x n y m
    → IsHanded ask i past e (Ok tt)
    (record {
      number = line.number;
      to = line.to;
      ask = line.ask;
      talk = Some talk;
      outcome = Some o;
    })
    x n y m
handed_over past ask i e line old talk o x y n m opens is turns =
    let r = running past ask i line old opens is in
    let none = r.stands.undecided in
    let t =
    turned_at past ask i e line.to (turn.Over (Ok o)) r.own old talk x y n m opens.to turns
    r.stands in
    let g = over_by (is_shared ask.to e) r.own (octets_of ask i) e talk o x y n m t in (
      inr (record {
        number = opens.number;
        outcome = o;
        kept = refl;
        said =
            subst (λ (s : Option Share). verdict_of s ≡ Some o)
            (sym (share_more past ask i e r.own r.is none))
            g.0;
      }),
      sends_as
          (sent_if (is_shared ask.to e) (sent_for r.own.asked (octets_of ask i) r.own.events e))
          (sent_by ask i e (share ask i past)) x y n m
          (sym (sent_more past ask i e r.own r.is none)) g.1,
    )

-- one that cannot be heard
pub handed_fault : (past : List Step) (ask : Ask) (i : ℕ) (e : Event) (line new : Line)
    (old talk : Talking) (f : TellFault) (x y : Option (List Datagram)) (n m : ℕ)
    → IsOpen past ask i line
    → line.talk ≡ Some old
    → TurnsSo line.to e old (turn.Over (Err f)) talk x n y m
    → IsHanded ask i past e (Err fault.Starved) new x n y m
handed_fault past ask i e line new old talk fault.Starved x y n m opens is turns =
    let r = running past ask i line old opens is in
    let s =
    starved_by (is_shared ask.to e) r.own (octets_of ask i) e talk x y n m
    (turned_at past ask i e line.to (turn.Over (Err fault.Starved)) r.own old talk x y n m opens.to
    turns r.stands) in
    (s.0, heard_more past ask i e r.own r.is r.stands.undecided s.1, s.2)
handed_fault past ask i e line new old talk fault.Link x y n m opens is turns =
    let r = running past ask i line old opens is in
    absurd (no_link_by (is_shared ask.to e) r.own (octets_of ask i) e talk x y n m
    (turned_at past ask i e line.to (turn.Over (Err fault.Link)) r.own old talk x y n m opens.to
    turns r.stands))

pub no_talk : (t : Option Talking) → ((x : Talking) → t ≡ Some x → ⊥) → t ≡ None
no_talk None h = refl
no_talk (Some x) h = absurd (h x refl)

-- ---- each line

-- the first so many lines were handed an event, and the others stand as before
abbrev pub AreMixed : Event
    → List Step
    → List Ask
    → ℕ
    → ℕ
    → List Line
    → List (Option Outcome)
    → Type 0
AreMixed e past [] i k lines outcomes = (lines ≡ []) × (outcomes ≡ [])
AreMixed e past (ask ∷ asks) i k lines [] = ⊥
AreMixed e past (ask ∷ asks) i k lines (Some o ∷ outcomes) =
    (said ask i past ≡ Some o) × AreMixed e past asks (suc i) k lines outcomes
AreMixed e past (ask ∷ asks) i k [] (None ∷ outcomes) = ⊥
AreMixed e past (ask ∷ asks) i zero (line ∷ lines) (None ∷ outcomes) =
    IsOpen past ask i line × AreMixed e past asks (suc i) zero lines outcomes
AreMixed e past (ask ∷ asks) i (suc k) (line ∷ lines) (None ∷ outcomes) =
    IsLine (step.Happened e ∷ past) ask i line × AreMixed e past asks (suc i) k lines outcomes

-- what is sent for the asks behind those of the first so many lines
abbrev pub sent_rest : Event
    → List Step
    → List Ask
    → ℕ
    → ℕ
    → List (Option Outcome)
    → List Sent
sent_rest e past asks i zero outcomes = sent_all asks i past e
sent_rest e past [] i (suc k) outcomes = []
sent_rest e past (ask ∷ asks) i (suc k) [] = []
sent_rest e past (ask ∷ asks) i (suc k) (Some o ∷ outcomes) =
    sent_rest e past asks (suc i) (suc k) outcomes
sent_rest e past (ask ∷ asks) i (suc k) (None ∷ outcomes) =
    sent_rest e past asks (suc i) k outcomes

pub mixed_first : (e : Event) (past : List Step) (asks : List Ask) (i : ℕ) (lines : List Line)
    (outcomes : List (Option Outcome))
    → AreOpen past asks i lines outcomes
    → AreMixed e past asks i 0 lines outcomes
mixed_first e past [] i lines outcomes are = are
mixed_first e past (ask ∷ asks) i lines [] are = absurd are
mixed_first e past (ask ∷ asks) i lines (Some o ∷ outcomes) are =
    (are.0, mixed_first e past asks (suc i) lines outcomes are.1)
mixed_first e past (ask ∷ asks) i [] (None ∷ outcomes) are = absurd are
mixed_first e past (ask ∷ asks) i (line ∷ lines) (None ∷ outcomes) are =
    (are.0, mixed_first e past asks (suc i) lines outcomes are.1)

nothing : {A : Type 0} (lines : List A) (k : ℕ) (line : A)
    → lines ≡ []
    → slice_get lines k ≡ Some line
    → ⊥
nothing [] k line e there = cc
nothing (x ∷ lines) k line e there = cc

abbrev pub HandsSo : Event → List Step → Line → Line → Option (List Datagram) → ℕ
    → Option (List Datagram) → ℕ → Type 0
HandsSo e past line new x n y m =
    (ask : Ask) (j : ℕ)
    → IsOpen past ask j line
    → IsHanded ask j past e (Ok tt) new x n y m

abbrev pub SendsOn : Event → List Step → List Ask → ℕ → ℕ → List (Option Outcome)
    → Option (List Datagram) → ℕ → Option (List Datagram) → ℕ → Type 0
SendsOn e past asks i k outcomes x n y m =
    (z : Option (List Datagram)) (l : ℕ)
    → Sends (sent_rest e past asks i (suc k) outcomes) y m z l
    → Sends (sent_rest e past asks i k outcomes) x n z l

decided_on : (e : Event) (past : List Step) (ask : Ask) (asks : List Ask) (i k : ℕ) (o : Outcome)
    (outcomes : List (Option Outcome)) (x y : Option (List Datagram)) (n m : ℕ)
    → said ask i past ≡ Some o
    → SendsOn e past asks (suc i) k outcomes x n y m
    → SendsOn e past (ask ∷ asks) i k (Some o ∷ outcomes) x n y m
decided_on e past ask asks i zero o outcomes x y n m decided sends = λ z l h.
    sends_as (sent_all asks (suc i) past e) (sent_all (ask ∷ asks) i past e) x z n l
    (rw (said_silent ask i e past o decided) refl)
    (sends z l h)
decided_on e past ask asks i (suc k) o outcomes x y n m decided sends = λ z l h. sends z l h

-- one line more
pub mixed_next : (e : Event) (past : List Step) (asks : List Ask) (i k : ℕ) (lines : List Line)
    (outcomes : List (Option Outcome)) (line new : Line) (x y : Option (List Datagram)) (n m : ℕ)
    → AreMixed e past asks i k lines outcomes
    → slice_get lines k ≡ Some line
    → HandsSo e past line new x n y m
    → AreMixed e past asks i (suc k) (slice_set lines k new) outcomes
    × SendsOn e past asks i k outcomes x n y m
mixed_next e past [] i k lines outcomes line new x y n m are there hands =
    absurd (nothing lines k line are.0 there)
mixed_next e past (ask ∷ asks) i k lines [] line new x y n m are there hands = absurd are
mixed_next e past (ask ∷ asks) i k lines (Some o ∷ outcomes) line new x y n m are there hands =
    let more = mixed_next e past asks
    (suc i) k lines outcomes line new x y n m are.1 there hands in (
      (are.0, more.0),
      decided_on e past ask asks i k o outcomes x y n m are.0 more.1,
    )
mixed_next e past (ask ∷ asks) i k [] (None ∷ outcomes) line new x y n m are there hands =
    absurd are
mixed_next e past (ask ∷ asks) i zero (a ∷ lines) (None ∷ outcomes) line new x y n m are there
    hands =
    let same : a ≡ line = cc in
    let h = hands ask i (subst (λ (l : Line). IsOpen past ask i l) same are.0) in (
      (h.0, are.1),
      λ z l sent.
          sends_both (sent_by ask i e (share ask i past)) (sent_all asks (suc i) past e) x y z n m l
          h.1 sent,
    )
mixed_next e past (ask ∷ asks) i (suc k) (a ∷ lines)
    (None ∷ outcomes) line new x y n m are there
    hands =
    let more = mixed_next e past asks
    (suc i) k lines outcomes line new x y n m are.1 there hands in (
      (are.0, more.0),
      λ z l sent. more.1 z l sent,
    )

-- all of them
pub mixed_last : (e : Event) (past : List Step) (asks : List Ask) (i k : ℕ) (lines : List Line)
    (outcomes : List (Option Outcome))
    → AreMixed e past asks i k lines outcomes
    → length lines ≤ k
    → AreLines (step.Happened e ∷ past) asks i lines outcomes
    × ◌≡◌ {A = List Sent} (sent_rest e past asks i k outcomes) []
mixed_last e past [] i zero lines outcomes are all = (are, refl)
mixed_last e past [] i (suc k) lines outcomes are all = (are, refl)
mixed_last e past (ask ∷ asks) i k lines [] are all = absurd are
mixed_last e past (ask ∷ asks) i zero lines (Some o ∷ outcomes) are all =
    let more = mixed_last e past asks (suc i) zero lines outcomes are.1 all in (
      (said_stays ask i e past o are.0, more.0),
      rw (said_silent ask i e past o are.0) more.1,
    )
mixed_last e past (ask ∷ asks) i (suc k) lines (Some o ∷ outcomes) are all =
    let more = mixed_last e past asks (suc i) (suc k) lines outcomes are.1 all in (
      (said_stays ask i e past o are.0, more.0),
      more.1,
    )
mixed_last e past (ask ∷ asks) i k [] (None ∷ outcomes) are all = absurd are
mixed_last e past (ask ∷ asks) i zero (line ∷ lines) (None ∷ outcomes) are all =
    absurd (omega (arith, all))
mixed_last e past (ask ∷ asks) i (suc k) (line ∷ lines) (None ∷ outcomes) are all =
    let more = mixed_last e past asks (suc i) k lines outcomes are.1 (omega (arith, all)) in (
      (are.0, more.0),
      more.1,
    )

-- what was sent for the asks of the first so many lines
abbrev pub sent_front : Event
    → List Step
    → List Ask
    → ℕ
    → ℕ
    → List (Option Outcome)
    → List Sent
sent_front e past asks i zero outcomes = []
sent_front e past [] i (suc k) outcomes = []
sent_front e past (ask ∷ asks) i (suc k) [] = []
sent_front e past (ask ∷ asks) i (suc k) (Some o ∷ outcomes) =
    sent_front e past asks (suc i) (suc k) outcomes
sent_front e past (ask ∷ asks) i (suc k) (None ∷ outcomes) =
    sent_by ask i e (share ask i past) ++ sent_front e past asks (suc i) k outcomes

-- the line behind those that were handed it stands for this ask, and what was sent is what is sent
-- for the asks before it
record Fronted
    (e : Event)
    (past : List Step)
    (asks : List Ask)
    (i k : ℕ)
    (outcomes : List (Option Outcome))
    (line : Line)
    : Type 0 where
  place : ℕ
  number : ℕ
  is : number ≡ i + place
  ask : Ask
  there : slice_get asks place ≡ Some ask
  opens : IsOpen past ask number line
  front : ◌≡◌ {A = List Sent}
      (sent_front e past asks i k outcomes) (sent_all (take place asks) i past e)
  next : ◌≡◌ {A = List Sent}
      (sent_front e past asks i (suc k) outcomes)
      (sent_front e past asks i k outcomes ++ sent_by ask number e (share ask number past))

fronted : (e : Event) (past : List Step) (asks : List Ask) (i k : ℕ) (lines : List Line)
    (outcomes : List (Option Outcome)) (line : Line)
    → AreMixed e past asks i k lines outcomes
    → slice_get lines k ≡ Some line
    → Fronted e past asks i k outcomes line
fronted e past [] i k lines outcomes line are there = absurd (nothing lines k line are.0 there)
fronted e past (ask ∷ asks) i k lines [] line are there = absurd are
fronted e past (ask ∷ asks) i zero lines (Some o ∷ outcomes) line are there =
    let more = fronted e past asks (suc i) zero lines outcomes line are.1 there in
    record {
      place = suc more.place;
      number = more.number;
      is = let is = more.is in omega (arith, is);
      ask = more.ask;
      there = more.there;
      opens = more.opens;
      front = more.front
          ∙ ap (λ (own : List Sent). own ++ sent_all (take more.place asks) (suc i) past e)
          (sym (said_silent ask i e past o are.0));
      next = more.next;
    }
fronted e past (ask ∷ asks) i (suc k) lines (Some o ∷ outcomes) line are there =
    let more = fronted e past asks (suc i) (suc k) lines outcomes line are.1 there in
    record {
      place = suc more.place;
      number = more.number;
      is = let is = more.is in omega (arith, is);
      ask = more.ask;
      there = more.there;
      opens = more.opens;
      front = more.front
          ∙ ap (λ (own : List Sent). own ++ sent_all (take more.place asks) (suc i) past e)
          (sym (said_silent ask i e past o are.0));
      next = more.next;
    }
fronted e past (ask ∷ asks) i k [] (None ∷ outcomes) line are there = absurd are
fronted e past (ask ∷ asks) i zero (x ∷ lines) (None ∷ outcomes) line are there =
    let same : x ≡ line = cc in
    record {
      place = 0;
      number = i;
      is = omega arith;
      ask = ask;
      there = refl;
      opens = subst (λ (l : Line). IsOpen past ask i l) same are.0;
      front = refl;
      next = append-nil (sent_by ask i e (share ask i past));
    }
fronted e past (ask ∷ asks) i (suc k) (x ∷ lines) (None ∷ outcomes) line are there =
    let more = fronted e past asks (suc i) k lines outcomes line are.1 there in
    let own = sent_by ask i e (share ask i past) in
    record {
      place = suc more.place;
      number = more.number;
      is = let is = more.is in omega (arith, is);
      ask = more.ask;
      there = more.there;
      opens = more.opens;
      front = ap (λ (others : List Sent). own ++ others) more.front;
      next = ap (λ (others : List Sent). own ++ others) more.next
          ∙ sym (append_assoc own (sent_front e past asks (suc i) k outcomes)
          (sent_by more.ask more.number e (share more.ask more.number past)));
    }

-- ---- the loop

-- so many lines were handed an event, what is sent from here on is sent from the beginning, and
-- what was sent is what is sent for them
abbrev pub Handing : Event → List Step → List Ask → ℕ → List Line
    → List (Option Outcome)
    → Option (List Datagram) → ℕ → Option (List Datagram) → ℕ → Type 0
Handing e past asks k lines outcomes x n y m =
    AreMixed e past asks 0 k lines outcomes
    × ((z : Option (List Datagram)) (l : ℕ)
    → Sends (sent_rest e past asks 0 k outcomes) y m z l
    → Sends (sent_all asks 0 past e) x n z l)
    × Sends (sent_front e past asks 0 k outcomes) x n y m

pub handing_first : (e : Event) (past : List Step) (asks : List Ask) (lines : List Line)
    (outcomes : List (Option Outcome)) (x : Option (List Datagram)) (n : ℕ)
    → AreOpen past asks 0 lines outcomes
    → Handing e past asks 0 lines outcomes x n x n
handing_first e past asks lines outcomes x n are =
    (mixed_first e past asks 0 lines outcomes are, λ z l h. h, sends_none x n)

pub handing_next : (e : Event) (past : List Step) (asks : List Ask) (k : ℕ) (lines : List Line)
    (outcomes : List (Option Outcome)) (line new : Line) (x y z : Option (List Datagram))
    (n m l : ℕ)
    → Handing e past asks k lines outcomes x n y m
    → slice_get lines k ≡ Some line
    → HandsSo e past line new y m z l
    → Handing e past asks (suc k) (slice_set lines k new) outcomes x n z l
handing_next e past asks k lines outcomes line new x y z n m l handing there hands =
    let next = mixed_next e past asks 0 k lines outcomes line new y z m l handing.0 there hands in
    let own = fronted e past asks 0 k lines outcomes line handing.0 there in
    let sent = (hands own.ask own.number own.opens).1 in
    let front = sent_front e past asks 0 k outcomes in
    let more = sent_by own.ask own.number e (share own.ask own.number past) in (
      next.0,
      λ w j h. handing.1 w j (next.1 w j h),
      sends_as (front ++ more) (sent_front e past asks 0 (suc k) outcomes) x z n l (sym own.next)
          (sends_both front more x y z n m l handing.2 sent),
    )

pub handing_last : (e : Event) (past : List Step) (asks : List Ask) (k : ℕ) (lines : List Line)
    (outcomes : List (Option Outcome)) (x y : Option (List Datagram)) (n m : ℕ)
    → Handing e past asks k lines outcomes x n y m
    → length lines ≤ k
    → AreHanded asks past outcomes e (Ok tt) lines x n y m
handing_last e past asks k lines outcomes x y n m handing all =
    let last = mixed_last e past asks 0 k lines outcomes handing.0 all in (
      last.0,
      handing.1 y m
          (sends_as [] (sent_rest e past asks 0 k outcomes) y y m m (sym last.1) (sends_none y m)),
    )

pub handing_fault : (e : Event) (past : List Step) (asks : List Ask) (k : ℕ)
    (lines after : List Line)
    (outcomes : List (Option Outcome)) (line new : Line) (f : TellFault)
    (x y z : Option (List Datagram)) (n m l : ℕ)
    → Handing e past asks k lines outcomes x n y m
    → slice_get lines k ≡ Some line
    → ((ask : Ask) (j : ℕ)
    → IsOpen past ask j line
    → IsHanded ask j past e (Err f) new y m z l)
    → AreHanded asks past outcomes e (Err f) after x n z l
handing_fault e past asks k lines after outcomes line new fault.Starved x y z n m l handing there
    hands =
    let own = fronted e past asks 0 k lines outcomes line handing.0 there in
    let h = hands own.ask own.number own.opens in
    let front = sent_front e past asks 0 k outcomes in
    let is = own.is in
    let place : own.place ≡ own.number = omega (arith, is) in (
      h.0,
      record {
        number = own.number;
        ask = own.ask;
        is = subst (λ (n : ℕ). slice_get asks n ≡ Some own.ask) place own.there;
        heard = h.1;
        sends =
            sends_as (front ++ []) (sent_all (take own.number asks) 0 past e) x z n l
            (append-nil front ∙ own.front
            ∙ ap (λ (j : ℕ). sent_all (take j asks) 0 past e) place)
            (sends_both front [] x y z n m l handing.2 h.2);
      },
    )
handing_fault e past asks k lines after outcomes line new fault.Link x y z n m l handing there
    hands =
    let own = fronted e past asks 0 k lines outcomes line handing.0 there in
    absurd (hands own.ask own.number own.opens)

-- ---- a receive

-- what was taken was handed to each; the link's receive sent nothing
pub taken_by : (r : Result Unit TellFault) (asks : List Ask) (past : List Step)
    (outcomes : List (Option Outcome)) (old new : List Line) (e : Event) (before after : Outside)
    (sent : Option (List Datagram)) (faults : ℕ)
    → AreOpen past asks 0 old outcomes
    → AllBegun [] old
    → is_unsaid outcomes ≡ true
    → WhereTold (TakesEvent e) before.coming after.coming
    → IsTimed (moment_at e) before.times after.times
    → Stays before.words after.words
    → after.recv_faults ≡ before.recv_faults
    → Stays before.gone sent
    → faults ≡ before.send_faults
    → AreHanded asks past outcomes e r new sent faults after.gone after.send_faults
    → IsTaken asks past outcomes r new before after
taken_by (Ok u) asks past outcomes old new e before after sent faults are begun unsaid takes timed
    words receives stays same handed = (
      e,
      record {
        unsaid =
            subst (λ (os : List (Option Outcome)). is_unsaid os ≡ true)
            (kept_said asks 0 past old outcomes are) unsaid;
        due = none_due [] asks 0 past old outcomes are begun;
        takes = takes;
        timed = timed;
        sends =
            sends_after (sent_all asks 0 past e) before.gone sent after.gone before.send_faults
            faults after.send_faults stays same handed.1;
        words = words;
        receives = receives;
      },
      handed.0,
    )
taken_by (Err fault.Starved) asks past outcomes old new (event.Came now peer octets) before after
    sent faults are begun unsaid takes timed words receives stays same handed = record {
      lost = (peer, octets);
      coming = takes;
      now = now;
      timed = timed;
      stops = record {
        number = handed.1.number;
        ask = handed.1.ask;
        is = handed.1.is;
        heard = handed.1.heard;
        sends =
            sends_after
            (sent_all (take handed.1.number asks) 0 past (event.Came now peer octets))
            before.gone sent after.gone before.send_faults faults after.send_faults stays same
            handed.1.sends;
      };
      words = words;
      receives = receives;
    }
taken_by (Err fault.Starved) asks past outcomes old new
    (event.Tick now) before after sent faults are
    begun unsaid takes timed words receives stays same handed =
    absurd handed.0
taken_by (Err fault.Link) asks past outcomes old new e before after sent faults are begun
    unsaid takes timed
    words receives stays same handed =
    absurd handed

pub counted : (r : Result Unit TellFault) (before after : ℕ)
    → IsNoLink r
    → after ≡ before
    → CountsTaken before after r
counted (Ok u) before after heard same = same
counted (Err fault.Starved) before after heard same = same
counted (Err fault.Link) before after heard same = absurd heard

pub fault_at : (e : TellFault) (P : Result Unit TellFault → Type 0) (r : Result Unit TellFault)
    → P (Err e)
    → IsErrAnd r (λ f. f ≡ e)
    → P r
fault_at e P (Ok x) h same = absurd same
fault_at e P (Err f) h same = subst (λ (g : TellFault). P (Err g)) (sym same) h

pub handing_set : (e : Event) (past : List Step) (asks : List Ask) (k n : ℕ) (lines : List Line)
    (outcomes : List (Option Outcome)) (line new : Line) (x y z : Option (List Datagram))
    (a m l : ℕ)
    → n ≡ k + 1
    → Handing e past asks k lines outcomes x a y m
    → slice_get lines k ≡ Some line
    → HandsSo e past line new y m z l
    → Handing e past asks n (slice_set lines k new) outcomes x a z l
handing_set e past asks k n lines outcomes line new x y z a m l is handing there hands =
    subst (λ (j : ℕ). Handing e past asks j (slice_set lines k new) outcomes x a z l)
    (sym (is ∙ add-one k))
    (handing_next e past asks k lines outcomes line new x y z a m l handing there hands)
