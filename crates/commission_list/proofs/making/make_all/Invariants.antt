use Rattle.std.proofs.Common.{◌≡◌, List, [], None}
use Rattle.client_model.specs.declared.asks.Ask.{Ask}
use Rattle.registrant.specs.Turns.{seen}
use Rattle.commissioner.specs.Commissioning.{StandsFor}
use Rattle.commission_list.specs.Makings.{IsStepped}
use Rattle.commission_list.proofs.making.make_all.Given as goal

-- what happened so far was written, and no call failed
abbrev pub invariant-polls : goal.invariant-polls
invariant-polls g l =
    (goal.iterator-polls g).can_next l.iterator' × (goal.iterator-polls g).is_finite l.iterator'
    × ((asks : List Ask)
    → StandsFor asks [] l.fn.going.lines.items l.fn.going.outcomes
    → IsStepped asks [] [] None l.printed l.going.lines.items l.going.outcomes
    (seen g.L.Link.coming g.L.Link.gone g.L.Link.recv_faults g.L.Link.send_faults
    g.C.Clock.times g.C.Clock.words l.fn.going.link l.fn.going.clock)
    (seen g.L.Link.coming g.L.Link.gone g.L.Link.recv_faults g.L.Link.send_faults
    g.C.Clock.times g.C.Clock.words l.going.link l.going.clock)
    (g.K.Sink.holds l.fn.out) (g.K.Sink.holds l.out))
    × (g.L.Link.recv_faults l.going.link ≡ g.L.Link.recv_faults l.fn.going.link)
    × (g.K.Sink.faults l.out ≡ g.K.Sink.faults l.fn.out)
