use Rattle.std.proofs.Common.{refl, ap, ◌∙◌}
use Rattle.coap_message.specs.Views.{message_in}
use Rattle.coap_options.proofs.MeaningLaws.{is_meaning}
use Rattle.journal_model.specs.Requests.{szx_of}
use Rattle.rd_desk.proofs.lookup.listings.joining_by.Goals as goal

pub returns : goal.returns
returns c =
    let m = message_in c.args.request.now.meaning.view in
    record {
      peer_is = refl;
      token = c.of.ensures;
      key = c.in_ok-key.ensures.key m (is_meaning c.args.request.now.meaning);
      szx = c.szx_of.ensures.szx ∙ ap szx_of c.args.request.now.asked_said;
      body = c.in_ok-body.ensures;
    }
