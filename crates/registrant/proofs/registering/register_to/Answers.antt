use Rattle.std.proofs.Common.{List, sym, subst, option_map}
use Rattle.std.proofs.lemmas.Bool.{and_parts}
use Rattle.message_model.specs.Message.{Opt}
use Rattle.client_model.specs.Requests.{CanFollow}
use Rattle.client_model.specs.Asks.{segments_of, query_parts, decoded_parts, are_parts}
use Rattle.client_model.proofs.AskLaws.{registering_follows}
use Rattle.registrant.proofs.registering.register_to.Goals as goal

pub fitted-requires-clause-options : goal.fitted-requires-clause-options
fitted-requires-clause-options c =
    let path = decoded_parts (segments_of c.args.uri.now.path.now) in
    let query = decoded_parts (query_parts (option_map (λ q. q.now) c.args.uri.now.query)) in
    let good = and_parts (are_parts path) (are_parts query) c.in-Ok.ensures.0 in
    subst
    (λ (options : List Opt). CanFollow 0 options)
    (sym c.in-Ok.ensures.1)
    (registering_follows c.args.to path query c.args.links.now good.0 good.1)
