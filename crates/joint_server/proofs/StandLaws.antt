-- Connections that one worker serves, one more.
use Rattle.std.proofs.Common.{◌≡◌, ℕ, ◌+◌, ◌≤◌, List, [], ◌∷◌, ◌++◌}
use Rattle.std.proofs.Common.{Option, Some, None, Ok, Err, refl, sym, ap, subst, ◌∙◌}
use Rattle.std.proofs.Common.{append_assoc, arith}
use Rattle.std.specs.Prelude.{IfSome}
use Rattle.rd_base.specs.Outside.{Rose}
use Rattle.rd_seat.specs.Chains.{Chain}
use Rattle.rd_seat.specs.Callers.{CallerSeen}
use Rattle.rd_seat.specs.Seats.{HallSeen, SeatSeen, IsOfHall}
use Rattle.rd_seat.specs.Runs as runs
use Rattle.rd_seat.specs.Runs.{HasCalled}
use Rattle.rd_seat.proofs.SeatRuns.{hall_after, calls_go_on}
use Rattle.rd_server.specs.declared.serving.served.ServeFault.{ServeFault}
use Rattle.rd_server.specs.declared.serving.served.ServeFault.TheVariants as fault
use Rattle.tcp_door.specs.Lanes.{LaneSeen, IsPeerOf}
use Rattle.coap_stream.specs.Calls.{as_they_came}
use Rattle.coap_stream.specs.Serving.{Connection}
use Rattle.coap_stream.specs.Talks.{calls_of}
use Rattle.joint_server.specs.declared.attended.Attended.{Attended}
use Rattle.joint_server.specs.Standing.{
  AsksFew,
  AttendsDoor,
  IsFew,
  IsTurned,
  StandsSo,
  TurnMade,
  WasAttended,
  WasNumbered,
  counted,
}

pub stands_none : (door : LaneSeen) (before : CallerSeen) (attended : Attended)
    → attended.connections ≡ 0 → attended.asked ≡ 0
    → StandsSo door door before before attended
stands_none door before attended none nothing = record {
  connections = [];
  stands = record { attended = refl; numbered = refl; lane = refl };
  count = none;
  sum = nothing;
  faults = refl;
}

pub asks_few : (t : Option ℕ) → IfSome t (λ asked. asked ≤ 65536) → AsksFew t
asks_few None few = tt
asks_few (Some asked) few = few

-- One more was served.
pub stands_more : (door now later : LaneSeen) (before mid after : CallerSeen)
    (attended more : Attended) (asked : ℕ)
    → StandsSo door now before mid attended
    → IsTurned now later mid after asked
    → more ≡ record { connections = attended.connections + 1; asked = attended.asked + asked }
    → StandsSo door later before after more
stands_more door now later before mid after attended more asked r t is =
    let c = t.connection in
    record {
      connections = c ∷ r.connections;
      stands = record {
        attended = (mid, r.stands.attended, t.attended);
        numbered = (
          now.opened,
          r.stands.numbered,
          (
            subst (λ (n : ℕ). IsPeerOf n now.opened c.peer) r.stands.lane t.let_in.of_lane,
            t.let_in.opened,
          ),
        );
        lane = t.let_in.lane ∙ r.stands.lane;
      };
      count = (let e = ap (λ (a : Attended). a.connections) is in omega (arith, e, r.count));
      sum = (let e = ap (λ (a : Attended). a.asked) is in
          omega (arith, e, r.sum, t.counts));
      faults = t.let_in.faults ∙ r.faults;
    }

-- There was none.
pub stands_still : (door now later : LaneSeen) (before mid after : CallerSeen)
    (attended : Attended)
    → StandsSo door now before mid attended
    → (later ≡ now) × (after ≡ mid)
    → StandsSo door later before after attended
stands_still door now later before mid after attended r t =
    subst (λ (d : LaneSeen). StandsSo door d before after attended) (sym t.0)
    (subst (λ (x : CallerSeen). StandsSo door now before x attended) (sym t.1) r)

-- A turn more.
pub stands_turned : (door now later : LaneSeen) (before mid after : CallerSeen)
    (attended more : Attended) (turned : Option ℕ)
    → StandsSo door now before mid attended
    → TurnMade now later mid after (Ok turned)
    → more ≡ counted attended turned
    → StandsSo door later before after more
stands_turned door now later before mid after attended more None r t is =
    subst (λ (a : Attended). StandsSo door later before after a) (sym is)
    (stands_still door now later before mid after attended r t)
stands_turned door now later before mid after attended more (Some asked) r t is =
    stands_more door now later before mid after attended more asked r t is

-- Its counts are few still.
pub few_turned : (n : ℕ) (attended more : Attended) (turned : Option ℕ)
    → IsFew n attended → AsksFew turned → more ≡ counted attended turned
    → IsFew (n + 1) more
few_turned n attended more None few asks is =
    subst (IsFew (n + 1)) (sym is)
    (record { connections = omega (arith, few.connections); asked = omega (arith, few.asked) })
few_turned n attended more (Some asked) few asks is =
    subst (IsFew (n + 1)) (sym is)
    (record {
      connections = omega (arith, few.connections);
      asked = omega (arith, few.asked, asks);
    })

pub stands_all : (door now : LaneSeen) (before mid : CallerSeen) (attended : Attended)
    → StandsSo door now before mid attended
    → AttendsDoor door now before mid (Ok attended)
stands_all door now before mid attended r = record {
  connections = r.connections;
  stands = r.stands;
  ends = (r.count, r.sum, r.faults);
}

-- The door failed.
pub stands_shut : (door now later : LaneSeen) (before mid after : CallerSeen)
    (attended : Attended) (why : ServeFault)
    → StandsSo door now before mid attended
    → TurnMade now later mid after (Err why)
    → AttendsDoor door later before after (Err why)
stands_shut door now later before mid after attended fault.Memory r t = absurd t
stands_shut door now later before mid after attended fault.Link r t = record {
  connections = r.connections;
  stands = record {
    attended =
        subst (λ (x : CallerSeen). Chain WasAttended before r.connections x) (sym t.1)
        r.stands.attended;
    numbered =
        subst (λ (n : ℕ). Chain (WasNumbered door.lane) door.opened r.connections n)
        (sym t.0.opened) r.stands.numbered;
    lane = t.0.lane ∙ r.stands.lane;
  };
  ends = (
    subst (λ (n : ℕ). n ≤ later.faults) r.faults t.0.kept,
    subst (λ (n : ℕ). Rose n later.faults) r.faults t.0.rose,
  );
}

-- ---- its seat

one_hall : (hall : HallSeen) (c : Connection) (a b : CallerSeen) → IsOfHall hall a.seat
    → WasAttended a c b → IsOfHall hall b.seat
one_hall hall c a b before it =
    let began : IsOfHall hall c.before.caller.seat =
    subst (λ (x : CallerSeen). IsOfHall hall x.seat) (sym it.begins) before in
    subst (λ (x : CallerSeen). IsOfHall hall x.seat) it.ends
    (hall_after as_they_came hall (calls_of it.attends.exchanges) c.before.caller.seat
    c.after.caller.seat it.attends.made.seat began)

-- The seat is of its hall still.
pub stand_hall : (hall : HallSeen) (cs : List Connection) (a b : CallerSeen)
    → Chain WasAttended a cs b → IsOfHall hall a.seat → IsOfHall hall b.seat
stand_hall hall [] a b chain before =
    subst (λ (x : CallerSeen). IsOfHall hall x.seat) (sym chain) before
stand_hall hall (c ∷ cs) a b chain before =
    one_hall hall c chain.0 b (stand_hall hall cs a chain.0 chain.1 before) chain.2

abbrev HasCalledOn : HallSeen → ℕ → List runs.Call → SeatSeen → Type 0
HasCalledOn hall worker earlier seat =
    (calls : List runs.Call) × HasCalled hall worker (calls ++ earlier) seat

one_called : (hall : HallSeen) (worker : ℕ) (earlier : List runs.Call) (c : Connection)
    (a b : CallerSeen) → HasCalledOn hall worker earlier a.seat → WasAttended a c b
    → HasCalledOn hall worker earlier b.seat
one_called hall worker earlier c a b before it =
    let began : HasCalledOn hall worker earlier c.before.caller.seat =
    subst (λ (x : CallerSeen). HasCalledOn hall worker earlier x.seat) (sym it.begins) before in
    let more = calls_go_on as_they_came hall worker (began.0 ++ earlier)
    (calls_of it.attends.exchanges) c.before.caller.seat c.after.caller.seat
    it.attends.made.seat began.1 in
    subst (λ (x : CallerSeen). HasCalledOn hall worker earlier x.seat) it.ends (
      more.0 ++ began.0,
      subst (λ (l : List runs.Call). HasCalled hall worker l c.after.caller.seat)
          (sym (append_assoc more.0 began.0 earlier)) more.1,
    )

-- Whatever calls it had made, it went on with further ones.
pub stand_called : (hall : HallSeen) (worker : ℕ) (earlier : List runs.Call)
    (cs : List Connection) (a b : CallerSeen)
    → Chain WasAttended a cs b → HasCalled hall worker earlier a.seat
    → HasCalledOn hall worker earlier b.seat
stand_called hall worker earlier [] a b chain before =
    subst (λ (x : CallerSeen). HasCalledOn hall worker earlier x.seat) (sym chain) ([], before)
stand_called hall worker earlier (c ∷ cs) a b chain before =
    one_called hall worker earlier c chain.0 b
    (stand_called hall worker earlier cs a chain.0 chain.1 before) chain.2
