use Rattle.std.proofs.Common.{List, sym, subst}
use Rattle.message_model.specs.Message.{Opt}
use Rattle.client_model.specs.Requests.{CanFollow}
use Rattle.client_model.proofs.AskLaws.{located_follows}
use Rattle.registrant.proofs.registering.located_ask.Goals as goal

pub fitted-requires-clause-options : goal.fitted-requires-clause-options
fitted-requires-clause-options c =
    subst
    (λ (options : List Opt). CanFollow 0 options)
    (sym c.in-Ok.ensures.1)
    (located_follows c.as_slice.result.now c.in-Ok.ensures.0)
