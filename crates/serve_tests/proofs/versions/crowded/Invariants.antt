use Rattle.std.proofs.Common.{◌≡◌}
use Rattle.serve_tests.proofs.versions.crowded.Given as goal

abbrev pub invariant-names : goal.invariant-names
invariant-names l = (l.version.at ≡ 0) × (l.version.swept ≡ 0)
