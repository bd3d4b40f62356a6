use Rattle.std.proofs.Common.{map, sym, ap, subst}
use Rattle.event_model.specs.Events.{noted}
use Rattle.transfers.specs.Keeping.{values}
use Rattle.transfers.specs.TransferEvents.{Table, AnswersStandFor, kept_note}
use Rattle.transfers.proofs.KeptEvents.{AnswersStandFor-kept_each}
use Rattle.transfers.proofs.table.Transfers.ready.Goals as goal

pub returns : goal.returns
returns c = λ events place word stands.
    let before =
    subst (AnswersStandFor events) (sym (ap (λ (t : Table). t.answers) c.self.view_is))
    stands in
    subst (AnswersStandFor (noted place c.args.now.0 word (map kept_note c.args.more) events))
    (sym c.in_ok-answers.ensures.answers)
    (AnswersStandFor-kept_each place c.args.now.0 word c.args.more events
    (values c.self.inside.answers.entries) before)
