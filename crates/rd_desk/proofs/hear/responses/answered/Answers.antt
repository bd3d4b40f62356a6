use Rattle.std.proofs.Common.{sym, ◌∙◌}
use Rattle.coap_message.specs.Views.{message_in}
use Rattle.rd_desk.proofs.responses.FetchingLaws.{answered-fetch_of}
use Rattle.rd_desk.proofs.hear.responses.answered.Goals as goal

pub returns-in-Ok-clause-fetch : goal.returns-in-Ok-clause-fetch
returns-in-Ok-clause-fetch c octets events s h of =
    answered-fetch_of s (message_in c.args.view.now) events c.args.peer.now of
    (sym (c.belongs.ensures.events octets events h) ∙ c.if-not-belongs.false) c.in-Ok.ensures.good
