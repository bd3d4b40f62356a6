use Rattle.std.proofs.Common.{ap, sym, ◌∙◌}
use Rattle.coap_message.specs.Views.{message_in}
use Rattle.rd_request.specs.Resources.{resource_at}
use Rattle.rd_request.proofs.ResourceLaws.{named}
use Rattle.rd_request.proofs.requests.accepted.Goals as goal

pub unreachable-requires : goal.unreachable-requires
unreachable-requires c =
    named (message_in c.args.meaning.view) (ap resource_at (sym c.args.meaning.path_said)
    ∙ (sym c.resource_at.ensures ∙ c.in_default.is)) c.requires
