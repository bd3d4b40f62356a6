use Rattle.std.proofs.Common.{length, ap, ◌∙◌}
use Rattle.history_model.proofs.VersionLaws.{live-VersionStandsFor}
use Rattle.directory_core.specs.declared.counts.Counts.{Counts}
use Rattle.directory_core.proofs.directory.Directory.live_count.Goals as goal

pub returns : goal.returns
returns c first history stands =
    ap (λ (x : Counts). x.live) c.counts_at.ensures
    ∙ ap length (live-VersionStandsFor first history c.args.self.now c.args.now.0 stands
    c.requires.after_sweep)
