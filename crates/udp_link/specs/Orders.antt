-- The calls of a link, one after the other, as contracts see them.
use Rattle.std.specs.Prelude.{List, [], ◌∷◌, Option, Some, None}
use Rattle.udp_link.specs.declared.links.LinkCall.{LinkCall}

-- Returns the last call, followed by those before it, or none.
abbrev pub order_shown : {S : Type 0} → (S → List LinkCall) → Option (LinkCall × S)
    → List LinkCall
order_shown shown None = []
order_shown shown (Some (call, before)) = call ∷ shown before
