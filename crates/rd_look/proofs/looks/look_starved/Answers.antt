use Rattle.std.proofs.Common.{subst}
use Rattle.message_model.specs.Reading.{reading}
use Rattle.message_model.specs.Spelling.{spelling}
use Rattle.journal_model.specs.Effects.{Effects}
use Rattle.coap_answers.specs.Sendings.{Sends}
use Rattle.rd_request.specs.Accepted.{message_of}
use Rattle.rd_look.proofs.LookLaws.{looked_starved}
use Rattle.rd_look.proofs.looks.look_starved.Goals as goal

-- it is answered as a look for which there was no memory
pub returns : goal.returns
returns c = record {
  sends = λ s history moment of.
      let m = message_of c.args.request.now in
      subst (λ (e : Effects). Sends e c.args.out.now c.answer_starved.new.out c.args.mids.now
      c.answer_starved.new.mids)
      (looked_starved history moment s (reading (spelling m)) m c.requires.read)
      (c.answer_starved.ensures.sends s of);
}
