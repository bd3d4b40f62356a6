use Rattle.std.proofs.Common.{◌≡◌, false, Some, sym, ap, ◌∙◌}
use Rattle.std.proofs.lemmas.Result.{IfOk-weaker}
use Rattle.rd_desk.specs.calls.Stepping.{is_starved_step}
use Rattle.trace_replay.proofs.WorkerSteps.{committed, kept}
use Rattle.trace_replay.proofs.workers.Worker.go.Goals as goal

pub returns-in-Some-Write : goal.returns-in-Some-Write
returns-in-Some-Write c =
    IfOk-weaker c.unstarved.result (λ done. is_starved_step c.commit.result ≡ false) _
    (λ done fed rows s holds word it.
    committed rows s c.args.now c.args.desk.now.tables _ c.args.self.now _ c.in-Some-Write.job _
    (is_starved_step c.commit.result) fed
    (sym c.in-Some-Write.ensures.value ∙ ap (λ mine. Some mine) c.in-Some-Write.field-0-is)
    c.in-Some-Write.ensures.after holds word it
    (c.commit.ensures.made rows s))
    c.unstarved.ensures

pub returns-in-Some-Keep : goal.returns-in-Some-Keep
returns-in-Some-Keep c =
    IfOk-weaker c.unstarved-in-Some-Keep.result (λ done. is_starved_step c.keep.result ≡ false) _
    (λ done fed rows s holds word it.
    kept rows s c.args.now c.args.desk.now.tables _ c.args.self.now _ c.in-Some-Keep.job _
    (is_starved_step c.keep.result) fed
    (sym c.in-Some-Keep.ensures.value ∙ ap (λ mine. Some mine) c.in-Some-Keep.field-0-is)
    c.in-Some-Keep.ensures.after holds it
    (c.keep.ensures.made rows s))
    c.unstarved-in-Some-Keep.ensures
