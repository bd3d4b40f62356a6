use Rattle.stream_registrant.proofs.DecidedLaws.{opening_ahead}
use Rattle.stream_registrant.proofs.sessions.Session.new.Goals as goal

pub returns-clause-ahead : goal.returns-clause-ahead
returns-clause-ahead c octets =
    opening_ahead c.new.result c.new-2.result octets c.new.ensures c.new-2.ensures
