-- Calls of a worker, one alone and one after the other.
use Rattle.std.proofs.Common.{◌≡◌, ℕ, ◌+◌, Bool, List, [], ◌∷◌, ◌++◌, refl}
use Rattle.std.proofs.Common.{length, Option, sym, ap, ◌∙◌, subst, arith}
use Rattle.std.proofs.lemmas.List.{append_assoc, append-nil, length-append}
use Rattle.rd_base.specs.declared.moments.Moment.{Moment}
use Rattle.rd_base.specs.declared.peers.Peer.{Peer}
use Rattle.udp_link.specs.Told.{WhereTold, Stays}
use Rattle.udp_link.specs.Links.{Datagram}
use Rattle.udp_link.specs.Clocks.{GivesFirst}
use Rattle.udp_link.specs.declared.links.LinkCall.{LinkCall}
use Rattle.history_model.specs.Live.{IsFront}
use Rattle.journal_model.specs.Machine.{is_look_datagram}
use Rattle.rd_desk.specs.declared.jobs.Job.{Job}
use Rattle.rd_seat.specs.declared.hearing.SeatHeard.{SeatHeard}
use Rattle.rd_seat.specs.Heard.{go_step}
use Rattle.rd_seat.specs.Jobs.{last_place}
use Rattle.rd_seat.specs.Seats.{IsOfHall, MakesStep}
use Rattle.rd_seat.specs.Steps.{tick_step}
use Rattle.rd_seat.specs.Calls.{GivesMoment, GivesWord}
use Rattle.rd_seat.specs.Callers as callers
use Rattle.rd_seat.specs.Callers.{ClockSeen, CallerSeen}
use Rattle.rd_seat.proofs.ToldLaws.{told_then, Stays-then}
use Rattle.rd_seat.proofs.CallLaws as of_seat
use Rattle.rd_seat.proofs.CallLaws.{Chain-then, Asked, WasHeard, tick_call, go_call, hear_call}
use Rattle.rd_server.specs.declared.serving.served.Served.{Served}
use Rattle.rd_server.specs.serving.Sendings.{Sending, all_sent, all_went, sendings_order}
use Rattle.rd_server.specs.serving.Calls.{Call, Does}
use Rattle.rd_server.specs.serving.Calls.{calls_went, calls_lost, calls_starved, calls_order}
use Rattle.rd_server.specs.serving.Calls.{one_if}
use Rattle.rd_server.specs.serving.Workers.{WorkerSeen, Goes, Orders, RisesBy, Sends, CallsMade}
use Rattle.rd_server.specs.serving.Sums.{CountsSendings, CountsCalls}
use Rattle.rd_server.proofs.service.SendLaws.{Goes-then, Orders-then, RisesBy-then}

-- ---- one call

-- its seat and its clock
abbrev caller_of : WorkerSeen → CallerSeen
caller_of w = record { seat = w.seat; clock = w.clock }

-- a call of the seat, of which so much was sent
with_sends : (c : Call) (a b : WorkerSeen)
    → callers.CallsMade all_sent (c ∷ []) (caller_of a) (caller_of b)
    → Sends c.sent a.link b.link → CallsMade (c ∷ []) a b
with_sends c a b made sends = record {
  seat = made.seat;
  gone = sends.gone;
  order = subst (λ (l : List LinkCall). Orders l a.link.order b.link.order)
      (sym (append-nil (sendings_order c.sent))) sends.order;
  lost = subst (λ (x : ℕ). RisesBy x a.link.send_faults b.link.send_faults)
      (omega arith) sends.lost;
  coming = sends.coming;
  received = sends.received;
  moments = made.moments;
  words = made.words;
}

pub one_count : (c : Call) (a b : Served) → CountsSendings c.sent (one_if c.starved) a b
    → CountsCalls (c ∷ []) a b
one_count c a b r = record {
  sent_more = r.sent_more;
  lost_more = omega (arith, r.lost_more);
  starved_more = omega (arith, r.starved_more);
  heard = r.heard;
  too_long = r.too_long;
}

-- ---- the calls of a worker

-- a tick
pub tick-made : (a b : WorkerSeen) (middle : ClockSeen) (now : Moment) (word : ℕ)
    (starved : Bool) (out : List Datagram) (sendings : List Sending)
    → IsOfHall a.seat.hall b.seat → IsFront a.seat.met b.seat.met
    → MakesStep a.seat (tick_step a.seat.worker now word a.seat.drawn) starved out b.seat
    → all_sent sendings ≡ out → Sends sendings a.link b.link
    → Asked now word a.clock middle b.clock
    → CallsMade (tick_call a.seat now word starved sendings ∷ []) a b
tick-made a b middle now word starved out sendings of_hall grows makes all sends asked =
    with_sends (tick_call a.seat now word starved sendings) a b
    (of_seat.tick-made all_sent (caller_of a) (caller_of b) middle now word starved sendings of_hall
    grows
    (subst (λ (sent : List Datagram).
    MakesStep a.seat (tick_step a.seat.worker now word a.seat.drawn) starved sent b.seat)
    (sym all) makes) asked) sends

-- a job that is done
pub go-made : (a b : WorkerSeen) (now : Moment) (j : Job) (starved : Bool) (out : List Datagram)
    (sendings : List Sending) → IsOfHall a.seat.hall b.seat → IsFront a.seat.met b.seat.met
    → MakesStep a.seat (go_step a.seat.worker (last_place a.seat.seen) now j a.seat.drawn)
    starved out b.seat
    → all_sent sendings ≡ out → Sends sendings a.link b.link
    → WhereTold (GivesFirst (record { 0 = 0 }) now) a.clock.times b.clock.times
    → Stays a.clock.words b.clock.words
    → CallsMade (go_call a.seat now j starved sendings ∷ []) a b
go-made a b now j starved out sendings of_hall grows makes all sends times words =
    with_sends (go_call a.seat now j starved sendings) a b
    (of_seat.go-made all_sent (caller_of a) (caller_of b) now j starved sendings of_hall
    grows
    (subst (λ (sent : List Datagram).
    MakesStep a.seat (go_step a.seat.worker (last_place a.seat.seen) now j a.seat.drawn)
    starved sent b.seat) (sym all) makes) times words) sends

-- a datagram that is heard
pub hear-made : (look : Bool) (a b : WorkerSeen) (middle : ClockSeen) (now : Moment) (word : ℕ)
    (peer : Peer) (datagram : List ℕ) (result : SeatHeard) (out : List Datagram)
    (sendings : List Sending) → is_look_datagram datagram ≡ look
    → WasHeard now word peer datagram result out a.seat b.seat
    → all_sent sendings ≡ out → Sends sendings a.link b.link
    → Asked now word a.clock middle b.clock
    → CallsMade
    (hear_call look a.seat b.seat.seen now word peer datagram result sendings ∷ []) a b
hear-made look a b middle now word peer datagram result out sendings e was all sends asked =
    with_sends (hear_call look a.seat b.seat.seen now word peer datagram result sendings) a b
    (of_seat.hear-made all_sent look (caller_of a) (caller_of b) middle now word peer datagram
    result sendings e
    (subst (λ (sent : List Datagram). WasHeard now word peer datagram result sent a.seat b.seat)
    (sym all) was) asked) sends

-- ---- more calls

pub went-then : (xs ys : List Call) → calls_went (ys ++ xs) ≡ calls_went xs ++ calls_went ys
went-then xs [] = sym (append-nil (calls_went xs))
went-then xs (y ∷ ys) = ap (λ (l : List Datagram). l ++ all_went y.sent) (went-then xs ys)
    ∙ append_assoc (calls_went xs) (calls_went ys) (all_went y.sent)

pub order-then : (xs ys : List Call) → calls_order (ys ++ xs) ≡ calls_order ys ++ calls_order xs
order-then xs [] = refl
order-then xs (y ∷ ys) =
    ap (λ (l : List LinkCall). sendings_order y.sent ++ l) (order-then xs ys)
    ∙ sym (append_assoc (sendings_order y.sent) (calls_order ys) (calls_order xs))

pub lost-then : (xs ys : List Call) → calls_lost (ys ++ xs) ≡ calls_lost xs + calls_lost ys
lost-then xs [] = omega arith
lost-then xs (y ∷ ys) = omega (arith, lost-then xs ys)

pub starved-then : (xs ys : List Call)
    → calls_starved (ys ++ xs) ≡ calls_starved xs + calls_starved ys
starved-then xs [] = omega arith
starved-then xs (y ∷ ys) = omega (arith, starved-then xs ys)

pub Goes-calls : (xs ys : List Call) (a b c : Option (List Datagram))
    → Goes (calls_went xs) a b → Goes (calls_went ys) b c → Goes (calls_went (ys ++ xs)) a c
Goes-calls xs ys a b c r s = subst (λ (w : List Datagram). Goes w a c) (sym (went-then xs ys))
    (Goes-then (calls_went xs) (calls_went ys) a b c r s)

pub Orders-calls : (xs ys : List Call) (a b c : Option (List LinkCall))
    → Orders (calls_order xs) a b → Orders (calls_order ys) b c
    → Orders (calls_order (ys ++ xs)) a c
Orders-calls xs ys a b c r s =
    subst (λ (l : List LinkCall). Orders l a c) (sym (order-then xs ys))
    (Orders-then (calls_order xs) (calls_order ys) a b c r s)

pub RisesBy-calls : (xs ys : List Call) (a b c : ℕ) → RisesBy (calls_lost xs) a b
    → RisesBy (calls_lost ys) b c → RisesBy (calls_lost (ys ++ xs)) a c
RisesBy-calls xs ys a b c r s = subst (λ (n : ℕ). RisesBy n a c) (sym (lost-then xs ys))
    (RisesBy-then (calls_lost xs) (calls_lost ys) a b c r s)

pub CallsMade-then : (xs ys : List Call) (a b c : WorkerSeen) → CallsMade xs a b
    → CallsMade ys b c → CallsMade (ys ++ xs) a c
CallsMade-then xs ys a b c r s = record {
  seat = Chain-then Does a.seat b.seat c.seat xs ys r.seat s.seat;
  gone = Goes-calls xs ys a.link.gone b.link.gone c.link.gone r.gone s.gone;
  order = Orders-calls xs ys a.link.order b.link.order c.link.order r.order s.order;
  lost = RisesBy-calls xs ys a.link.send_faults b.link.send_faults c.link.send_faults
      r.lost s.lost;
  coming = Stays-then a.link.coming b.link.coming c.link.coming r.coming s.coming;
  received = s.received ∙ r.received;
  moments = told_then (λ x y z f g. Chain-then GivesMoment x y z xs ys f g)
      a.clock.times b.clock.times c.clock.times r.moments s.moments;
  words = told_then (λ x y z f g. Chain-then GivesWord x y z xs ys f g)
      a.clock.words b.clock.words c.clock.words r.words s.words;
}

pub went_length : (xs ys : List Call)
    → length (calls_went (ys ++ xs)) ≡ length (calls_went xs) + length (calls_went ys)
went_length xs ys = ap (λ (l : List Datagram). length l) (went-then xs ys)
    ∙ length-append (calls_went xs) (calls_went ys)

pub CountsCalls-then : (xs ys : List Call) (a b c : Served) → CountsCalls xs a b
    → CountsCalls ys b c → CountsCalls (ys ++ xs) a c
CountsCalls-then xs ys a b c r s = record {
  sent_more = omega (arith, r.sent_more, s.sent_more, went_length xs ys);
  lost_more = omega (arith, r.lost_more, s.lost_more, lost-then xs ys);
  starved_more = omega (arith, r.starved_more, s.starved_more, starved-then xs ys);
  heard = s.heard ∙ r.heard;
  too_long = s.too_long ∙ r.too_long;
}
