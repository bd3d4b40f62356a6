use Rattle.std.proofs.Common.{take, subst}
use Rattle.message_model.specs.Message.{Message}
use Rattle.coap_message.specs.SpelledMessages.{IsWritten}
use Rattle.coap_message.proofs.WriterLemmas.{IsWritten-reads}
use Rattle.coap_message.proofs.writers.Writer.octets.Goals as goal

pub returns-clause-read_back : goal.returns-clause-read_back
returns-clause-read_back c =
    let written =
    subst (λ (m : Message).
    IsWritten (take c.self.inside.length c.self.inside.octets) c.self.inside.last m)
    c.self.view_is c.self.invariant.written in
    IsWritten-reads (take c.self.inside.length c.self.inside.octets) c.self.inside.last
    c.args.self.now written
