use Rattle.std.proofs.Common.{subst}
use Rattle.coap_message.specs.Views.{message_in}
use Rattle.journal_model.specs.Effects.{Reply, answering}
use Rattle.coap_answers.specs.Sendings.{Sends}
use Rattle.rd_look.proofs.looks.answer_not_live.Goals as goal

pub returns : goal.returns
returns c s notes of =
    subst (λ (r : Reply).
    Sends (answering s (message_in c.args.request.now.meaning.view) r notes) c.args.out.now
    c.answer.new.out c.args.mids.now c.answer.new.mids) c.plain-reply.ensures
    (c.answer.ensures.sends s notes of)
