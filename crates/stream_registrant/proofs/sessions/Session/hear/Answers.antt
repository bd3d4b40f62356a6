use Rattle.stream_registrant.proofs.MeaningLaws.{token_few}
use Rattle.stream_registrant.proofs.sessions.Session.hear.Goals as goal

pub hear-requires : goal.hear-requires
hear-requires g c =
    token_few c.self.inside.reader c.message.result c.in-Some.frame c.message.ensures.shown
    c.in-Some.is
