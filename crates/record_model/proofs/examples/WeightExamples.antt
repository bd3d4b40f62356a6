-- The weight of a large registration, computed.
use Rattle.std.proofs.Common.{◌≡◌, ℕ, List, [], ◌∷◌, ◌++◌, codes, replicate, refl, unwrap_or}
use Rattle.std.specs.List.{concat}
use Rattle.rd_base.specs.declared.peers.Host.TheVariants as host
use Rattle.record_model.specs.Bodies.{linked_references}
use Rattle.record_model.specs.Parameters.{registration_values}
use Rattle.record_model.specs.ListingLines.{weight}
use Rattle.record_model.specs.Records.{registered}
use Rattle.record_model.proofs.RecordLiterals.{record_on_literals}

-- a thousand links to the base
abbrev thousand_links : List ℕ
thousand_links = codes "<>" ++ concat (replicate 999 (codes ",<>"))

-- a base of 200 octets
abbrev long_base : List ℕ
long_base = codes "coap://" ++ replicate 193 104

-- each link line has 202 octets, and the endpoint line 239
large_weight : weight (registered 1 (record { 0 = 100 })
    (record { host = host.V4 (192 ∷ 0 ∷ 2 ∷ 10 ∷ []); port = 5683 })
    (registration_values (codes "ep=n1" ∷ (codes "base=" ++ long_base) ∷ []))
    (unwrap_or (linked_references thousand_links) []))
    ≡ 203_240
unfolding record_on_literals
large_weight = refl
