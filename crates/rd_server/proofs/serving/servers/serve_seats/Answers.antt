use Rattle.std.proofs.Common.{Result, slice_index_or, subst}
use Rattle.rd_server.specs.declared.serving.served.Served.{Served}
use Rattle.rd_server.specs.declared.serving.served.ServeFault.{ServeFault}
use Rattle.rd_server.specs.serving.Endings.{Concludes}
use Rattle.rd_server.proofs.service.EndLaws.{goes_on}
use Rattle.rd_server.proofs.service.SumLaws.{end_told, prints_sums}
use Rattle.rd_server.proofs.serving.servers.serve_seats.Goals as goal

pub returns-clause-served : goal.returns-clause-served
returns-clause-served g c worker d lt =
    let old = slice_index_or c.args.ends.now worker d in
    let new = slice_index_or c.serve_ends.new.ends worker d in (
      goes_on g.L.Link g.C.Clock c.args.turns c.args.hall old new old.seat
          (c.serve_ends.ensures.served worker d lt),
      c.serve_ends.ensures.unserved worker d lt,
    )

pub returns-clause-sums : goal.returns-clause-sums
returns-clause-sums g c =
    let out = c.args.out.now in
    let after = c.conclude.new.out in
    prints_sums g.L.Link c.args.ends.now c.serve_ends.new.ends (g.K.Sink.holds out)
    (g.K.Sink.holds after) (g.K.Sink.faults out) (g.K.Sink.faults after) c.conclude.result
    c.serve_ends.auto.ends
    (λ worker d lt. end_told g.L.Link g.C.Clock c.args.turns
    (slice_index_or c.args.ends.now worker d).seat (slice_index_or c.args.ends.now worker d)
    (slice_index_or c.serve_ends.new.ends worker d) (c.serve_ends.ensures.served worker d lt)
    (c.serve_ends.ensures.unserved worker d lt))
    (subst (λ (o : Result Served ServeFault). Concludes o (g.K.Sink.holds out)
    (g.K.Sink.holds after) (g.K.Sink.faults out) (g.K.Sink.faults after) c.conclude.result)
    c.joined.ensures c.conclude.ensures)
