use Rattle.rd_request.specs.Accepted.{message_of}
use Rattle.journal_model.specs.Requests.{refusal_of_request}
use Rattle.rd_request.proofs.AskedLaws.{none_there}
use Rattle.rd_request.proofs.IncomingLaws.{reads_location, changes_location}
use Rattle.rd_request.proofs.incoming.on_location.Goals as goal

pub read-requires : goal.read-requires
read-requires c =
    reads_location (message_of c.args.request) c.requires c.if-request-eq-GET.true

pub returns : goal.returns
returns c datagram is = (
  is,
  changes_location (message_of c.args.request)
      (none_there (refusal_of_request (message_of c.args.request)) c.args.request.accepted)
      c.requires
      c.if-request-eq-GET.false,
)
