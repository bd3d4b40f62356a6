use Rattle.std.proofs.Common.{subst, sym, map}
use Rattle.std.specs.Prelude.{IfSome}
use Rattle.std.specs.String.{string_bytes}
use Rattle.trace_replay.specs.declared.words.Words.{Words}
use Rattle.trace_replay.specs.Words.{AreDevices, IsWorkers, workers_of}
use Rattle.trace_replay.proofs.WordLaws.{said-AreAsked, asked-IsWorkers, asked-AreDevices}
use Rattle.trace_replay.proofs.words.words_read.Goals as goal

pub asked_read-requires : goal.asked_read-requires
asked_read-requires c =
    said-AreAsked (map string_bytes c.args.words.now) c.in-Some.asked (sym c.in-Some.ensures)

pub returns-in-Ok-clause-workers : goal.returns-in-Ok-clause-workers
returns-in-Ok-clause-workers c =
    subst (λ (w : Words). IsWorkers (workers_of w)) (sym c.in-Ok.ensures)
    (asked-IsWorkers c.in-Some.asked (said-AreAsked (map string_bytes c.args.words.now)
    c.in-Some.asked (sym c.in-Some.ensures)))

pub returns-in-Ok-clause-devices : goal.returns-in-Ok-clause-devices
returns-in-Ok-clause-devices c =
    subst (λ (w : Words). IfSome w.devices AreDevices) (sym c.in-Ok.ensures)
    (asked-AreDevices c.in-Some.asked (said-AreAsked (map string_bytes c.args.words.now)
    c.in-Some.asked (sym c.in-Some.ensures)))
