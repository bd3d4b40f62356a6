-- What contracts see of the requests that a share received.
use Rattle.std.specs.Prelude.{ℕ, List, [], ◌∷◌, Option, Some, None}
use Rattle.hosting.specs.Shares.{Asked}

-- Returns the latest request, and after it what is shown of those before; or none.
abbrev pub log_shown : {S : Type 0} → (S → List Asked) → Option (ℕ × ℕ × S) → List Asked
log_shown shown None = []
log_shown shown (Some (window, source, before)) = (window, source) ∷ shown before
