-- Datagrams that are sent one after the other.
use Rattle.std.proofs.Common.{◌≡◌, ℕ, List, [], ◌∷◌, ◌++◌, Option, subst}
use Rattle.udp_link.specs.Links.{Datagram}
use Rattle.registrant.specs.Turns.{Sends}
use Rattle.registrant.proofs.TurnLaws.{sends_after}

pub sends_both : (ds es : List Datagram) (x y z : Option (List Datagram)) (n m k : ℕ)
    → Sends ds x n y m
    → Sends es y m z k
    → Sends (ds ++ es) x n z k
sends_both [] es x y z n m k h g = sends_after es x y z n m k h.0 h.1 g
sends_both (d ∷ ds) es x y z n m k h g =
    (h.0, h.1, h.2, sends_both ds es h.0 y z h.1 m k h.3 g)

pub sends_as : (ds es : List Datagram) (x y : Option (List Datagram)) (n m : ℕ)
    → ds ≡ es
    → Sends ds x n y m
    → Sends es x n y m
sends_as ds es x y n m e h = subst (λ (l : List Datagram). Sends l x n y m) e h
