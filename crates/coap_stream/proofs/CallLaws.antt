-- Calls of a conversation, one after the other.
use Rattle.std.proofs.Common.{◌≡◌, Bool, true, false, List, [], refl, sym, subst, ◌∙◌}
use Rattle.rd_seat.specs.Callers.{Ticks, TicksWhere}
use Rattle.udp_link.specs.Links.{Datagram}
use Rattle.coap_stream.specs.Calls.{Call}

-- Where time is due to pass.
pub ticks_at : (b due : Bool) (ticks : List Call) → b ≡ due → b ≡ true → Ticks ticks
    → TicksWhere due ticks
ticks_at b due ticks same is t = subst (λ (x : Bool). TicksWhere x ticks) (sym is ∙ same) t

-- Where it is not.
pub no_ticks_at : (b due : Bool) → b ≡ due → b ≡ false
    → TicksWhere {S = List Datagram} due []
no_ticks_at b due same is =
    subst (λ (x : Bool). TicksWhere {S = List Datagram} x []) (sym is ∙ same) refl
