use Rattle.std.proofs.Common.{[], subst}
use Rattle.coap_message.specs.Views.{message_in}
use Rattle.journal_model.specs.Effects.{Reply, answering}
use Rattle.coap_answers.specs.Sendings.{Sends}
use Rattle.coap_answers.proofs.server_errors.answer_full.Goals as goal

pub returns : goal.returns
returns c = record {
  sends = λ s of.
      subst (λ (reply : Reply).
      Sends (answering s (message_in c.args.view.now) reply []) c.args.out.now
      c.answer.new.out c.args.mids.now c.answer.new.mids)
      c.service_unavailable.ensures.said
      (c.answer.ensures.sends s [] of);
}
