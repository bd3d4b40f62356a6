use Rattle.std.proofs.Common.{sym, subst}
use Rattle.coap_message.specs.Views.{message_in}
use Rattle.exchange_core.specs.declared.writes.Keyed.{Keyed}
use Rattle.coap_answers.specs.Sendings.{Sends}
use Rattle.rd_desk.specs.parts.Hearing.{unadmitted}
use Rattle.rd_desk.proofs.hear.writes.answer_unadmitted.Goals as goal

pub returns-in-FullExchanges : goal.returns-in-FullExchanges
returns-in-FullExchanges c = record {
  sends = λ s of.
      subst
      (λ (k : Keyed).
      Sends (unadmitted k s (message_in c.args.view.now)) c.args.out.now c.answer_full.new.out
      c.args.mids.now c.answer_full.new.mids) (sym c.in-FullExchanges.is)
      (c.answer_full.ensures.sends s of);
}
