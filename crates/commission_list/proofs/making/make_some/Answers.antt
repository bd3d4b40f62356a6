use Rattle.std.proofs.Common.{refl}
use Rattle.registrant.specs.Turns.{seen}
use Rattle.commission_list.proofs.MakingLaws.{starved_none}
use Rattle.commission_list.proofs.making.make_some.Goals as goal

pub returns-in-Err-clause-made : goal.returns-in-Err-clause-made
returns-in-Err-clause-made g c =
    starved_none
    (seen g.L.Link.coming g.L.Link.gone g.L.Link.recv_faults g.L.Link.send_faults
    g.C.Clock.times g.C.Clock.words)
    c.args.asks c.args.link c.args.clock
    (g.K.Sink.holds c.args.out.now) (g.K.Sink.holds c.args.out.now)
    c.in-Err.link c.in-Err.clock c.in-Err._asks
    c.in-Err.ensures.handed_back
    refl
