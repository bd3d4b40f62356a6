-- Turns, one after the other.
use Rattle.std.proofs.Common.{◌≡◌, ℕ, ◌+◌, ◌%◌, ◌==◌, ◌<◌, true, false, List, [], ◌∷◌}
use Rattle.std.proofs.Common.{◌++◌, length, Option, Ok, Err}
use Rattle.std.proofs.Common.{refl, sym, ap, ◌∙◌, subst, arith}
use Rattle.std.proofs.lemmas.List.{append_assoc, append-nil}
use Rattle.udp_link.specs.Told.{WhereTold, Stays}
use Rattle.udp_link.specs.Links.{Datagram, TakesFirst, Calls}
use Rattle.udp_link.specs.declared.links.LinkCall.{LinkCall}
use Rattle.udp_link.specs.declared.links.LinkCall.TheVariants as link
use Rattle.udp_link.specs.declared.links.Came.TheVariants as came
use Rattle.rd_base.specs.Outside.{Rose}
use Rattle.rd_server.specs.declared.serving.served.Served.{Served}
use Rattle.rd_server.specs.declared.serving.served.ServeFault.TheVariants as fault
use Rattle.rd_seat.specs.Chains.{Chain}
use Rattle.rd_seat.specs.Calls.{GivesMoment, GivesWord}
use Rattle.rd_seat.specs.Callers.{Ticks, TicksWhere}
use Rattle.rd_seat.proofs.ToldLaws.{told_then, told_as, told_same}
use Rattle.rd_seat.proofs.CallLaws.{Chain-then}
use Rattle.rd_server.specs.serving.Calls.{Call, Does, calls_went, calls_lost, calls_order}
use Rattle.rd_server.specs.serving.Workers.{WorkerSeen, Orders, RisesBy, CallsMade}
use Rattle.rd_server.specs.serving.Turns.{Turn, TooLong, Follows, Comes}
use Rattle.rd_server.specs.serving.Turns.{TurnComes, AllCame, calls_of, turns_heard, turns_order}
use Rattle.rd_server.specs.serving.Turns.{heard_more, long_more}
use Rattle.rd_server.specs.serving.Sums.{CountsCalls, CountsTurn, IsSumOf}
use Rattle.rd_server.specs.serving.Service.{TurnMade, Works, GoesOn, Serves}
use Rattle.rd_server.proofs.service.CallLaws.{Goes-calls, RisesBy-calls, lost-then}
use Rattle.rd_server.proofs.service.CallLaws.{starved-then, went_length}
use Rattle.rd_server.proofs.service.SendLaws.{Orders-then}

-- ---- one turn

-- a sixteenth datagram
pub ticks_at : (n m : ℕ) (ticks : List Call) → m ≡ n → m % 16 ≡ 0 → Ticks ticks
    → TicksWhere (n % 16 == 0) ticks
ticks_at n m ticks same e t = subst (λ (x : ℕ). TicksWhere (x == 0) ticks)
    (sym (ap (λ (x : ℕ). x % 16) (sym same) ∙ e)) t

-- no call
pub CallsMade-none : (a : WorkerSeen) → CallsMade [] a a
CallsMade-none a = record {
  seat = refl;
  gone = told_same (λ old new. new ≡ old ++ []) (λ x. sym (append-nil x)) a.link.gone;
  order = told_same (λ old new. new ≡ old) (λ x. refl) a.link.order;
  lost = record { kept = omega arith; rose = λ below. omega arith };
  coming = told_same (λ old new. new ≡ old) (λ x. refl) a.link.coming;
  received = refl;
  moments = told_same (λ old new. new ≡ old) (λ x. refl) a.clock.times;
  words = told_same (λ old new. new ≡ old) (λ x. refl) a.clock.words;
}

-- a receive, which left the seat and the clock as they were, and calls after it
pub turn-made : (earlier : ℕ) (t : Turn) (a m b : WorkerSeen) → Follows earlier t.came t.calls
    → m.seat ≡ a.seat → m.clock ≡ a.clock
    → WhereTold (λ old new. Comes old t.came new) a.link.coming m.link.coming
    → Stays a.link.gone m.link.gone → m.link.send_faults ≡ a.link.send_faults
    → Calls link.Receive a.link.order m.link.order
    → CallsMade t.calls m b → TurnMade earlier t a b
turn-made earlier t a m b follows seat clock comes stays stand called made = record {
  follows = follows;
  coming = told_then
      (λ x y z c e. subst (λ (w : List Datagram). Comes x t.came w) (sym e) c)
      a.link.coming m.link.coming b.link.coming comes made.coming;
  gone = told_then
      (λ x y z e f. f ∙ ap (λ (w : List Datagram). w ++ calls_went t.calls) e)
      a.link.gone m.link.gone b.link.gone stays made.gone;
  order = Orders-then (link.Receive ∷ []) (calls_order t.calls) a.link.order m.link.order
      b.link.order called made.order;
  lost = subst (λ (f : ℕ). RisesBy (calls_lost t.calls) f b.link.send_faults) stand made.lost;
  seat = subst (λ s. Chain Does s t.calls b.seat) seat made.seat;
  moments = subst (λ k. WhereTold (λ old new. Chain GivesMoment old t.calls new)
      k.times b.clock.times) clock made.moments;
  words = subst (λ k. WhereTold (λ old new. Chain GivesWord old t.calls new)
      k.words b.clock.words) clock made.words;
}

-- a datagram that is too long, as the link says it
pub long_comes : (a b : Option (List Datagram)) (into : List ℕ)
    → WhereTold (TakesFirst came.TooLong into) a b
    → WhereTold (λ old new. Comes old TooLong new) a b
long_comes a b into r =
    told_as {S = λ old new. Comes old TooLong new} (λ x y h. (h.0, h.1.0, h.1.1)) a b r

-- what a turn counts, by what came and what its calls count
pub CountsTurn-calls : (t : Turn) (a b c : Served) → b.heard ≡ heard_more a.heard t.came
    → b.too_long ≡ long_more a.too_long t.came → b.sent ≡ a.sent → b.lost ≡ a.lost
    → b.starved ≡ a.starved → CountsCalls t.calls b c → CountsTurn t a c
CountsTurn-calls t a b c heard long sent lost starved r = record {
  heard_then = r.heard ∙ heard;
  sent_then = omega (arith, r.sent_more, sent);
  lost_then = omega (arith, r.lost_more, lost);
  long_then = r.too_long ∙ long;
  starved_then = omega (arith, r.starved_more, starved);
}

-- ---- runs

pub Works-none : (a : WorkerSeen) → Works [] a a
Works-none a =
    let none : CallsMade [] a a = CallsMade-none a in
    record {
      turned = tt;
      coming = told_same (λ old new. Chain TurnComes old [] new) (λ x. refl) a.link.coming;
      gone = none.gone;
      order = none.order;
      lost = none.lost;
      seat = none.seat;
      moments = none.moments;
      words = none.words;
    }

Works-more : (t : Turn) (ts : List Turn) (a b c : WorkerSeen) → Works ts a b
    → TurnMade (turns_heard ts) t b c → Works (t ∷ ts) a c
Works-more t ts a b c r s = record {
  turned = (r.turned, s.follows);
  coming = told_then (λ x y z f e. (y, f, e)) a.link.coming b.link.coming c.link.coming
      r.coming s.coming;
  gone = Goes-calls (calls_of ts) t.calls a.link.gone b.link.gone c.link.gone r.gone s.gone;
  order = subst (λ (l : List LinkCall). Orders l a.link.order c.link.order)
      (append_assoc (calls_order t.calls) (link.Receive ∷ []) (turns_order ts))
      (Orders-then (turns_order ts) (calls_order t.calls ++ link.Receive ∷ [])
      a.link.order b.link.order c.link.order r.order s.order);
  lost = RisesBy-calls (calls_of ts) t.calls
      a.link.send_faults b.link.send_faults c.link.send_faults r.lost s.lost;
  seat = Chain-then Does a.seat b.seat c.seat (calls_of ts) t.calls r.seat s.seat;
  moments = told_then (λ x y z f e. Chain-then GivesMoment x y z (calls_of ts) t.calls f e)
      a.clock.times b.clock.times c.clock.times r.moments s.moments;
  words = told_then (λ x y z f e. Chain-then GivesWord x y z (calls_of ts) t.calls f e)
      a.clock.words b.clock.words c.clock.words r.words s.words;
}

-- a turn after others, where so many were heard
pub Works-next : (heard : ℕ) (t : Turn) (ts : List Turn) (a b c : WorkerSeen)
    → heard ≡ turns_heard ts → Works ts a b → TurnMade heard t b c → Works (t ∷ ts) a c
Works-next heard t ts a b c e r s =
    Works-more t ts a b c r (subst (λ (h : ℕ). TurnMade h t b c) e s)

pub IsSumOf-more : (t : Turn) (ts : List Turn) (a b : Served) → IsSumOf ts a
    → CountsTurn t a b → IsSumOf (t ∷ ts) b
IsSumOf-more t ts a b r s = record {
  heard = s.heard_then ∙ ap (λ (n : ℕ). heard_more n t.came) r.heard;
  sent = omega (arith, r.sent, s.sent_then, went_length (calls_of ts) t.calls);
  lost = omega (arith, r.lost, s.lost_then, lost-then (calls_of ts) t.calls);
  too_long = s.long_then ∙ ap (λ (n : ℕ). long_more n t.came) r.too_long;
  starved = omega (arith, r.starved, s.starved_then, starved-then (calls_of ts) t.calls);
}

-- ---- the service so far

-- so many turns were made, none of which failed, and these are their sums
pub record TurnsMade (number : ℕ) (before after : WorkerSeen) (served : Served) : Type 0 where
  pub turns : List Turn
  pub works : Works turns before after
  pub sums : IsSumOf turns served
  pub came : AllCame turns
  pub count : length turns ≡ number
  pub faults : after.link.recv_faults ≡ before.link.recv_faults

pub TurnsMade-none : (a : WorkerSeen) (served : Served) → IsSumOf [] served → TurnsMade 0 a a served
TurnsMade-none a served sums = record {
  turns = [];
  works = Works-none a;
  sums = sums;
  came = tt;
  count = refl;
  faults = refl;
}

-- a turn more
pub TurnsMade-more : (number : ℕ) (t : Turn) (a b c : WorkerSeen) (x y : Served)
    → TurnsMade number a b x → TurnMade x.heard t b c → CountsTurn t x y
    → GoesOn true t b.link.recv_faults c.link.recv_faults → TurnsMade (number + 1) a c y
TurnsMade-more number t a b c x y r made counts goes = record {
  turns = t ∷ r.turns;
  works = Works-next x.heard t r.turns a b c r.sums.heard r.works made;
  sums = IsSumOf-more t r.turns x y r.sums counts;
  came = (r.came, goes.0);
  count = omega (arith, r.count);
  faults = goes.1 ∙ r.faults;
}

-- the receive of a turn more failed
pub Serves-failed : (number all : ℕ) (t : Turn) (a b c : WorkerSeen) (x : Served) → number < all
    → TurnsMade number a b x → TurnMade x.heard t b c
    → GoesOn false t b.link.recv_faults c.link.recv_faults → Serves all a c (Err fault.Link)
Serves-failed number all t a b c x few r made goes = record {
  turns = t ∷ r.turns;
  works = Works-next x.heard t r.turns a b c r.sums.heard r.works made;
  ends = (
    goes.0,
    r.came,
    omega (arith, r.count, few),
    omega (arith, r.faults, goes.1),
    subst (λ (f : ℕ). Rose f c.link.recv_faults) r.faults goes.2,
  );
}

-- all were made
pub Serves-all : (number : ℕ) (a b : WorkerSeen) (x : Served) → TurnsMade number a b x
    → Serves number a b (Ok x)
Serves-all number a b x r = record {
  turns = r.turns;
  works = r.works;
  ends = (r.count, r.came, r.sums, r.faults);
}

-- memory ran out before the first
pub Serves-none : (number : ℕ) (a : WorkerSeen) → Serves number a a (Err fault.Memory)
Serves-none number a = record { turns = []; works = Works-none a; ends = (refl, refl) }
