use Rattle.std.proofs.Common.{ap, length, ◌-◌, ℕ, [], ◌∷◌, drop, List, ◌++◌, take, refl, ◌∙◌}
use Rattle.std.proofs.lemmas.List.{take_rest}
use Rattle.stream_registrant.proofs.FlightLaws.{request_put}
use Rattle.stream_registrant.proofs.flights.put_request.Goals as goal

pub returns-clause-put : goal.returns-clause-put
returns-clause-put c ask token eight code is =
    let rest : List ℕ = take (length c.args.datagram.now - 4) (drop 4 c.args.datagram.now) in
    request_put ask token c.args.datagram.now rest (take c.args.at c.args.octets.now) _ c.args.code
    (length rest - 8) eight code is (take_rest c.args.datagram.now 4) refl
    (c.put_octets.ensures.put
    ∙ ap (λ (l : List ℕ). l ++ rest) (c.put_octets-behind.ensures.put
    ∙ ap (λ (l : List ℕ). l ++ c.args.code ∷ []) c.put_lengths-lengths.ensures.put))
