use Rattle.std.proofs.Common.{Result, inl, refl, sym, ap, subst, slice_index_or, arith}
use Rattle.std.proofs.KnownBytes.{Appends-nil}
use Rattle.rd_server.specs.declared.serving.ends.End.{End}
use Rattle.rd_server.specs.declared.serving.served.Served.{Served}
use Rattle.rd_server.specs.declared.serving.served.ServeFault.{ServeFault}
use Rattle.rd_server.specs.declared.serving.serve_status.ServeStatus.TheVariants as status
use Rattle.rd_server.specs.serving.Endings.{Concludes}
use Rattle.rd_server.proofs.service.EndLaws.{unserved-joined, end-EndServed}
use Rattle.rd_server.proofs.service.SumLaws.{prints_as}
use Rattle.rd_server.proofs.serving.servers.serve.Goals as goal

pub returns-in_default-clause-concludes : goal.returns-in_default-clause-concludes
returns-in_default-clause-concludes g c =
    let out = c.args.out.now in
    subst (λ (o : Result Served ServeFault). Concludes o (g.K.Sink.holds out)
    (g.K.Sink.holds out) (g.K.Sink.faults out) (g.K.Sink.faults out) status.Memory)
    (sym (unserved-joined c.make_hall.new.ends
    (omega (arith, c.requires.ends.0, c.make_hall.auto.ends))
    c.in_default.ensures.left.unserved))
    (Appends-nil (g.K.Sink.holds out), refl)

pub returns-clause-served : goal.returns-clause-served
returns-clause-served g c = inl (
  c.in-Ok.hall,
  c.in-Ok.ensures.seated.workers,
  λ worker d lt. end-EndServed g.L.Link g.C.Clock c.args.turns c.in-Ok.hall worker
      (slice_index_or c.args.ends.now worker d)
      (slice_index_or c.make_hall.new.ends worker d)
      (slice_index_or c.serve_seats.new.ends worker d)
      (c.in-Ok.ensures.seated.each worker d lt)
      (c.serve_seats.ensures.served worker d (omega (arith, lt, c.make_hall.auto.ends))).0,
)

pub returns-clause-sums : goal.returns-clause-sums
returns-clause-sums g c =
    prints_as g.L.Link c.args.ends.now c.make_hall.new.ends c.serve_seats.new.ends
    (g.K.Sink.holds c.args.out.now) (g.K.Sink.holds c.serve_seats.new.out)
    c.serve_seats.result c.make_hall.auto.ends
    (λ worker d lt. ap (λ (e : End _ _). e.link) (c.in-Ok.ensures.seated.each worker d lt))
    c.serve_seats.ensures.sums
