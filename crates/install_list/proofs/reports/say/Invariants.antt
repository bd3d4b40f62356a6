use Rattle.std.proofs.Common.{◌≡◌, take}
use Rattle.std.specs.Io.KnownBytes.{Appends}
use Rattle.install_list.proofs.ReportLaws.{joined}
use Rattle.install_list.proofs.reports.say.Given as goal

-- the texts so far were reported, and no call failed
abbrev pub invariant-texts : goal.invariant-texts
invariant-texts g l = record {
  said : Appends (g.E.Sink.holds l.fn.err) (g.E.Sink.holds l.err)
      (joined (take l.text-index l.texts));
  counts : g.E.Sink.faults l.err ≡ g.E.Sink.faults l.fn.err;
}
