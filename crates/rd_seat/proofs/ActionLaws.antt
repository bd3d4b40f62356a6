-- What a worker does at its turn: the desk may be called for each action, and makes the row of its
-- step.
use Rattle.std.proofs.Common.{
  ◌≡◌,
  ℕ,
  Bool,
  true,
  false,
  List,
  [],
  ◌∷◌,
  Some,
  None,
  is_some,
  refl,
  sym,
  ap,
  subst,
  ◌∙◌,
}
use Rattle.std.proofs.lemmas.Bool.{false≢true}
use Rattle.rd_base.specs.declared.moments.Moment.{Moment}
use Rattle.rd_base.specs.declared.peers.Peer.{Peer}
use Rattle.journal_model.specs.declared.rows.Row.{Row}
use Rattle.journal_model.specs.declared.steps.Step.{Step}
use Rattle.journal_model.specs.declared.steps.StepKind.TheVariants as step
use Rattle.journal_model.specs.Journal.{entries_of, is_look}
use Rattle.journal_model.specs.DeskJournal.{CommitsOpen, ends_job, IsDeskJournal, MayFollow}
use Rattle.journal_model.specs.Rows.{row, row_moment}
use Rattle.journal_model.specs.Seats.{rows_of}
use Rattle.journal_model.proofs.desks.OpenForOthers.{CommitReady, open-CommitReady}
use Rattle.coap_answers.specs.declared.mids.Mids.{Mids}
use Rattle.rd_desk.specs.calls.Admitting.{is_starved_admission}
use Rattle.rd_desk.specs.calls.Shown.{Shown}
use Rattle.rd_desk.specs.calls.Staging.{LeavesStaged, staged_after}
use Rattle.rd_desk.specs.calls.Steps.{IsCalled, Made}
use Rattle.rd_desk.specs.declared.admitted.Admitted.{Admitted}
use Rattle.turn_lock.specs.Shown.{seen_of}
use Rattle.version_board.specs.Ends.{PublisherSeen}
use Rattle.rd_seat.specs.declared.actions.Action.{Action}
use Rattle.rd_seat.specs.declared.actions.Action.TheVariants as action
use Rattle.rd_seat.specs.declared.shares.Share.{Share}
use Rattle.rd_seat.specs.Actions.{
  action_row,
  action_step,
  Acts,
  HasActed,
  HoldsFor,
  LeavesJobOf,
  MayAct,
  OpensAt,
  OpensIn,
}
use Rattle.rd_seat.specs.Jobs.{LeavesJob}
use Rattle.rd_seat.specs.Seats.{SeatSeen}
use Rattle.rd_seat.specs.Shares.{
  Rests,
  HasTaken,
  HasGiven,
  HasTakenAction,
  HasTurned,
  share_shown,
}
use Rattle.rd_seat.specs.Steps.{begin_step, commit_step}
use Rattle.rd_seat.specs.Turns.{StandsAtTurn}
use Rattle.rd_seat.proofs.JobLaws.{held-LeavesJob, held-OpensJob}
use Rattle.rd_seat.proofs.OneTurnLaws.{Turn, turn-HasTurned}
use Rattle.rd_seat.proofs.TurnLaws.{
  leaves_staged,
  same_told,
  step-IsCalled,
  step-MayFollow,
}

-- ---- what the desk says of a step

-- of one that may make an entry
pub staging-HasActed : (rows : List Row) (s : Step) (starved : Bool) (a : Action)
    (result : Admitted) (mids : Mids) (desk after : Shown PublisherSeen)
    (sent : List (Peer × List ℕ)) (drew : Mids) → is_starved_admission result ≡ starved
    → Made rows (row rows s starved) after.tables sent mids drew
    → Some after.board.told ≡ Some desk.board.told
    → LeavesStaged (row rows s starved).notes after.tables.version (Some desk.board.staged)
    (Some after.board.staged) (is_some after.board.staged)
    → HoldsFor a result (row rows s starved).notes s (row_moment rows s)
    → HasActed rows s (is_starved_admission result) a result mids desk after sent drew
staging-HasActed rows s starved a result mids desk after sent drew e made told staged held =
    subst (λ (b : Bool). HasActed rows s b a result mids desk after sent drew) (sym e) (record {
      made = made;
      told = same_told after.board.told desk.board.told told;
      staged = leaves_staged (row rows s starved).notes after.tables.version desk.board.staged
          after.board.staged (is_some after.board.staged) staged;
      held = held;
    })

-- of one that makes no entry
pub quiet-HasActed : (rows : List Row) (s : Step) (starved : Bool) (a : Action)
    (result : Admitted) (mids : Mids) (desk after : Shown PublisherSeen)
    (sent : List (Peer × List ℕ)) (drew : Mids) → is_starved_admission result ≡ starved
    → Made rows (row rows s starved) after.tables sent mids drew → after.board ≡ desk.board
    → entries_of (row rows s starved) ≡ []
    → HoldsFor a result (row rows s starved).notes s (row_moment rows s)
    → HasActed rows s (is_starved_admission result) a result mids desk after sent drew
quiet-HasActed rows s starved a result mids desk after sent drew e made board none held =
    subst (λ (b : Bool). HasActed rows s b a result mids desk after sent drew) (sym e) (record {
      made = made;
      told = ap (λ (p : PublisherSeen). p.told) board;
      staged = λ free. ap (λ (p : PublisherSeen). p.staged) board
          ∙ (free ∙ sym (ap (λ es. staged_after es after.tables.version None) none));
      held = held;
    })

-- ---- the turn of an action

-- An action that may be taken at the turn of its worker.
record IsNext (place : ℕ) (taken : Share) (a : Action) (desk : Shown PublisherSeen) : Type 0 where
  pub may : MayFollow (seen_of taken.pass)
      (action_step taken.mids.worker place a taken.mids.drawn)
  pub acts : MayAct (seen_of taken.pass) place
      (action_step taken.mids.worker place a taken.mids.drawn) a taken.mids desk

next : (place : ℕ) (taken : Share) (a : Action) (desk : Shown PublisherSeen)
    → StandsAtTurn (seen_of taken.pass) desk
    → is_look (action_step taken.mids.worker place a taken.mids.drawn).kind ≡ false
    → (action_step taken.mids.worker place a taken.mids.drawn).worker ≡ taken.mids.worker
    → (action_step taken.mids.worker place a taken.mids.drawn).drawn ≡ taken.mids.drawn
    → CommitsOpen (seen_of taken.pass) (action_step taken.mids.worker place a taken.mids.drawn)
    (action_step taken.mids.worker place a taken.mids.drawn).kind
    → (ends_job (action_step taken.mids.worker place a taken.mids.drawn).kind ≡ true
    → (action_step taken.mids.worker place a taken.mids.drawn).word ≡ 0)
    → OpensIn (seen_of taken.pass) place a → IsNext place taken a desk
next place taken a desk stands look worker drawn commits word opened = record {
  may = step-MayFollow (seen_of taken.pass)
      (action_step taken.mids.worker place a taken.mids.drawn) taken.mids desk stands worker
      commits word;
  acts = record {
    called = step-IsCalled (seen_of taken.pass)
        (action_step taken.mids.worker place a taken.mids.drawn) taken.mids desk stands look worker
        drawn;
    opened = opened;
  };
}

action-IsNext : (place : ℕ) (before taken : Share) (a : Action) (desk : Shown PublisherSeen)
    → Rests before → HasTaken before taken desk → OpensAt place (share_shown before) a
    → IsNext place taken a desk
action-IsNext place before taken (action.Admit a) desk rest took opened =
    next place taken (action.Admit a) desk took.begun.stands refl refl refl tt
    (λ h. absurd (false≢true h)) tt
action-IsNext place before taken (action.Commit now j) desk rest took opened =
    let ready : CommitReady
    (action_step taken.mids.worker place (action.Commit now j) taken.mids.drawn) place j.admitted
    j.datagram (seen_of taken.pass) =
    open-CommitReady (commit_step before.mids.worker place
    (record { 0 = 0 }) j.peer j.datagram 0)
    (action_step taken.mids.worker place (action.Commit now j) taken.mids.drawn) place j.admitted
    j.datagram (seen_of before.pass) (seen_of taken.pass) opened.opened opened.admitted_at
    took.begun.goes_on.further took.begun.goes_on.whole took.begun.stands.turns.journal
    (subst (λ (n : ℕ). rows_of n (seen_of taken.pass) ≡ rows_of n (seen_of before.pass))
    rest.number took.begun.by_others) (ap (λ (m : Mids). m.worker) (sym took.mids)) refl refl refl
    in
    next place taken (action.Commit now j) desk took.begun.stands refl refl refl ready.opened
    (λ h. refl) (record {
      message = ready.message;
      read = ready.read;
      is_open = ready.is_open;
    })
action-IsNext place before taken (action.Keep now j) desk rest took opened =
    next place taken (action.Keep now j) desk took.begun.stands refl refl refl tt (λ h. refl) tt
action-IsNext place before taken (action.Tick now word) desk rest took opened =
    next place taken (action.Tick now word) desk took.begun.stands refl refl refl tt
    (λ h. absurd (false≢true h)) tt

-- The turn of an action that was taken on the desk.
pub record ActionTurn (place : ℕ) (before taken : Share) (a : Action) (result : Admitted)
    (desk left : Shown PublisherSeen) (sent : List (Peer × List ℕ)) (drew : Mids) : Type 0 where
  pub turn : Turn before taken (action_step taken.mids.worker place a taken.mids.drawn)
      (is_starved_admission result) desk left sent drew
  pub held : HoldsFor a result
      (action_row (seen_of taken.pass) place taken.mids a (is_starved_admission result)).notes
      (action_step taken.mids.worker place a taken.mids.drawn)
      (row_moment (seen_of taken.pass)
      (action_step taken.mids.worker place a taken.mids.drawn))

pub action-Turn : (place : ℕ) (before taken : Share) (a : Action) (result : Admitted)
    (desk left : Shown PublisherSeen) (sent : List (Peer × List ℕ)) (drew : Mids) → Rests before
    → HasTaken before taken desk → OpensAt place (share_shown before) a
    → Acts a result taken.mids desk left sent drew
    → ActionTurn place before taken a result desk left sent drew
action-Turn place before taken a result desk left sent drew rest took opened acts =
    let next : IsNext place taken a desk =
    action-IsNext place before taken a desk rest took opened in
    let acted : HasActed (seen_of taken.pass)
    (action_step taken.mids.worker place a taken.mids.drawn) (is_starved_admission result) a result
    taken.mids desk left sent drew = acts (seen_of taken.pass) place next.acts in
    record {
      turn = record {
        rest = rest;
        took = took;
        called = next.acts.called;
        may = next.may;
        made = acted.made;
        told = acted.told;
        staged = acted.staged took.begun.stands.staged;
      };
      held = acted.held;
    }

-- what the row of an action leaves to its worker
action-LeavesJobOf : (a : Action) (place : ℕ) (mids : Mids) (found : List Row)
    (result : Admitted) (seat : SeatSeen) → IsDeskJournal found → mids.worker ≡ seat.worker
    → HoldsFor a result (action_row found place mids a (is_starved_admission result)).notes
    (action_step mids.worker place a mids.drawn)
    (row_moment found (action_step mids.worker place a mids.drawn))
    → seat.seen ≡ action_row found place mids a (is_starved_admission result) ∷ found
    → LeavesJobOf a result seat
action-LeavesJobOf (action.Admit a) place mids found result seat journal own held seen = (
  subst (LeavesJob result) (sym seen)
      (held-LeavesJob found (action_step mids.worker place (action.Admit a) mids.drawn)
      (is_starved_admission result) result refl held),
  held-OpensJob found (action_step mids.worker place (action.Admit a) mids.drawn)
      (is_starved_admission result) result seat journal own held seen,
)
action-LeavesJobOf (action.Commit now j) place mids found result seat journal own held seen = tt
action-LeavesJobOf (action.Keep now j) place mids found result seat journal own held seen = tt
action-LeavesJobOf (action.Tick now w) place mids found result seat journal own held seen = tt

-- the share took the action
pub action-HasTakenAction : (place : ℕ) (before taken given : Share) (a : Action)
    (result : Admitted) (desk left : Shown PublisherSeen) (sent : List (Peer × List ℕ))
    (drew : Mids) → Rests before
    → HasTaken before taken desk → OpensAt place (share_shown before) a
    → Acts a result taken.mids desk left sent drew
    → HasGiven (action_row (seen_of taken.pass) place taken.mids a (is_starved_admission result))
    (record {
      alloc = taken.alloc;
      pass = taken.pass;
      looker = taken.looker;
      mids = drew;
      last = taken.last;
    }) given left
    → HasTakenAction before place a result sent given
action-HasTakenAction place before taken given a result desk left sent drew rest took opened acts
    gave =
    let acted : ActionTurn place before taken a result desk left sent drew =
    action-Turn place before taken a result desk left sent drew rest took opened acts in
    record {
      turned = subst (λ (m : Mids). HasTurned before (action_step m.worker place a m.drawn)
          (is_starved_admission result) sent given) took.mids (turn-HasTurned acted.turn gave);
      left = action-LeavesJobOf a place taken.mids (seen_of taken.pass) result (share_shown given)
          took.begun.stands.turns.journal
          (sym (ap (λ (m : Mids). m.worker) gave.mids ∙ acted.turn.made.worker)) acted.held
          gave.ended.seen;
    }

-- the turn in which a run begins
pub begin-Turn : (before taken : Share) (now : Moment) (first : ℕ) (starved : Bool)
    (desk left : Shown PublisherSeen) → Rests before → HasTaken before taken desk
    → ((s : Step) → s.kind ≡ step.Begin first
    → IsCalled (seen_of taken.pass) s now taken.mids desk.tables
    → Made (seen_of taken.pass) (row (seen_of taken.pass) s starved) left.tables [] taken.mids
    taken.mids) → Some left.board.told ≡ Some desk.board.told
    → ((s : Step) → s.kind ≡ step.Begin first
    → IsCalled (seen_of taken.pass) s now taken.mids desk.tables
    → LeavesStaged (row (seen_of taken.pass) s starved).notes left.tables.version
    (Some desk.board.staged) (Some left.board.staged) (is_some left.board.staged))
    → Turn before taken (begin_step taken.mids.worker now first taken.mids.drawn) starved desk
    left [] taken.mids
begin-Turn before taken now first starved desk left rest took made told staged =
    let s : Step = begin_step taken.mids.worker now first taken.mids.drawn in
    let called : IsCalled (seen_of taken.pass) s now taken.mids desk.tables =
    step-IsCalled (seen_of taken.pass) s taken.mids desk took.begun.stands refl refl refl in
    record {
      rest = rest;
      took = took;
      called = called;
      may = step-MayFollow (seen_of taken.pass) s taken.mids desk took.begun.stands refl tt
          (λ h. absurd (false≢true h));
      made = made s refl called;
      told = same_told left.board.told desk.board.told told;
      staged = leaves_staged (row (seen_of taken.pass) s starved).notes left.tables.version
          desk.board.staged left.board.staged (is_some left.board.staged) (staged s refl called)
          took.begun.stands.staged;
    }
