use Rattle.std.proofs.Common.{Option, Some, None, option_map, List, ℕ, sym, ap, subst, ◌∙◌}
use Rattle.std.specs.Borrow.{Bor}
use Rattle.rd_base.specs.declared.tags.Tag.{Tag}
use Rattle.coap_message.specs.Views.{message_in}
use Rattle.journal_model.specs.Bodies.{body_reply}
use Rattle.journal_model.specs.Effects.{answering}
use Rattle.journal_model.specs.Requests.{asked_block}
use Rattle.transfers.specs.TransferEvents.{answer_read, AfterReading}
use Rattle.coap_answers.specs.Sendings.{Sends}
use Rattle.rd_desk.proofs.lookup.listings.send_kept.Goals as goal

pub returns-in-Some-clause-used : goal.returns-in-Some-clause-used
returns-in-Some-clause-used c it at events stands = record {
  answer = record { body = c.in-Some.body.now; tag = c.in-Some.tag.0 };
  kept =
      sym (c.kept_block.ensures.answer at events stands) ∙ ap (option_map answer_read) c.in-Some.is;
  sends = λ s notes of.
      subst (λ (shown : List ℕ).
      Sends (answering s (message_in c.args.request.now.meaning.view)
      (body_reply (Some c.in-Some.tag.0) None
      (asked_block (message_in c.args.request.now.meaning.view)) shown) notes)
      c.args.out.now c.send_block.new.out c.args.mids.now c.send_block.new.mids)
      c.as_slice.ensures.value (c.send_block.ensures s notes of);
  stands = λ e is moment.
      (subst (λ (o : Option (Bor (List ℕ) × Tag)).
      AfterReading (option_map answer_read o) c.args.now.0 c.args.peer c.args.key.now
      c.args.transfers.now c.kept_block.follows.lender-at-none) c.in-Some.is
      c.kept_block.follows.holds-at-none)
      at events e is moment stands;
}
