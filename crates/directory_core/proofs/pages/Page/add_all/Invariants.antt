use Rattle.std.proofs.Common.{◌≡◌, length}
use Rattle.std.specs.Map.{values_of}
use Rattle.directory_core.specs.Pages.{finished, live_lines}
use Rattle.directory_core.proofs.pages.Page.add_all.Given as goal

abbrev pub invariant-records : goal.invariant-records
invariant-records g l =
    finished l.self (live_lines l.query l.now.0 (values_of l.left))
    ≡ finished l.fn.self (live_lines l.query l.now.0 l.records)

abbrev pub decreases-records : goal.decreases-records
decreases-records g l = length l.left
