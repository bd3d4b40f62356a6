use Rattle.std.proofs.Common.{[], sym, subst, ◌∙◌}
use Rattle.coap_message.specs.Views.{message_in}
use Rattle.journal_model.specs.Effects.{Effects, Reply, answering}
use Rattle.coap_answers.specs.Sendings.{Sends}
use Rattle.coap_answers.proofs.SendingLaws.{sends_nothing}
use Rattle.rd_request.specs.Asking.{refused_with}
use Rattle.rd_desk.proofs.parts.RefusalLaws.{passed_over, answered}
use Rattle.rd_desk.proofs.hear.refusals.refuse.Goals as goal

pub returns-then-is_passed_over : goal.returns-then-is_passed_over
returns-then-is_passed_over c = record {
  sends = λ s of.
      subst (λ (e : Effects). Sends e c.args.out.now c.args.out.now c.args.mids.now c.args.mids.now)
      (sym (passed_over (message_in c.args.view.now) s (refused_with c.args.refused)
      c.args.view.now.kind c.args.refused c.requires.refused
      (sym c.is_passed_over.ensures ∙ c.if-is_passed_over.true)))
      (sends_nothing c.args.out.now c.args.mids.now);
}

pub returns : goal.returns
returns c = record {
  sends = λ s of.
      subst (λ (e : Effects).
      Sends e c.args.out.now c.answer.new.out c.args.mids.now c.answer.new.mids)
      (sym (answered (message_in c.args.view.now) s (refused_with c.args.refused)
      c.args.view.now.kind c.args.refused c.requires.refused
      (sym c.is_passed_over.ensures ∙ c.if-is_passed_over.false)))
      (subst (λ (reply : Reply).
      Sends (answering s (message_in c.args.view.now) reply []) c.args.out.now
      c.answer.new.out c.args.mids.now c.answer.new.mids) c.reply_to.ensures.said
      (c.answer.ensures.sends s [] of));
}
