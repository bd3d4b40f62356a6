use Rattle.std.proofs.Common.{◌≡◌, inl, refl, sym, subst, ◌∙◌}
use Rattle.rd_seat.specs.Callers.{clock_seen}
use Rattle.rd_seat.specs.Seats.{SeatSeen, new_seat}
use Rattle.coap_stream.specs.Serving.{NeverFail, ServesAll}
use Rattle.coap_stream.proofs.ServingLaws.{all_counted, first_seat, served_hall}
use Rattle.coap_stream.proofs.serving.serve_streams.Goals as goal

pub returns : goal.returns
returns g c =
    let hall = c.in-Ok.hall in
    let same : c.in-Some.seat ≡ new_seat hall 0 =
    first_seat _ _ _ _ (sym c.in-Some.ensures.some ∙ c.in-Ok.ensures.seats) in
    let new = c.serve_all-served.new in
    let all : ServesAll (NeverFail g.A.In.Source g.A.Out.Sink) c.args.count
    (record { seat = new_seat hall 0; clock = clock_seen g.C.Clock c.args.clock.now })
    (record { seat = new.seat; clock = clock_seen g.C.Clock new.clock })
    (g.A.Accept.coming c.args.door.now) (g.A.Accept.coming new.door)
    (g.A.Accept.faults c.args.door.now) (g.A.Accept.faults new.door) c.serve_all-served.result =
    subst (λ (s : SeatSeen). ServesAll (NeverFail g.A.In.Source g.A.Out.Sink) c.args.count
    (record { seat = s; clock = clock_seen g.C.Clock c.args.clock.now })
    (record { seat = new.seat; clock = clock_seen g.C.Clock new.clock })
    (g.A.Accept.coming c.args.door.now) (g.A.Accept.coming new.door)
    (g.A.Accept.faults c.args.door.now) (g.A.Accept.faults new.door) c.serve_all-served.result)
    same c.serve_all-served.ensures.serves in
    record {
      serves = inl (record {
        hall = hall;
        alone = c.in-Ok.ensures.workers;
        seat = new.seat;
        of_hall = served_hall hall all.connections _ _ all.serves.served
            (record { is = refl; below = tt });
        outcome = c.serve_all-served.result;
        all = all;
        counts = λ sure. all_counted _ c.args.count _ _ _ _ _ _ c.serve_all-served.result all
            sure;
        concludes = c.conclude.ensures;
      });
    }
