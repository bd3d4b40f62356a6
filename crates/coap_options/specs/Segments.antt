-- The segments that the code stores.
use Rattle.std.specs.Prelude.{◌≡◌, ◌≤◌, ℕ, List, [], ◌∷◌, length}
use Rattle.coap_options.specs.declared.segments.Segments.{Segments}
use Rattle.coap_options.specs.declared.segments.Segments.TheVariants as held

-- States that they are the segments of a path. Three or more are stored as one value.
abbrev pub AreSegments : Segments → List (List ℕ) → Type 0
AreSegments held.None segments = segments ≡ []
AreSegments (held.One first) segments = segments ≡ first.now ∷ []
AreSegments (held.Two first second) segments = segments ≡ first.now ∷ second.now ∷ []
AreSegments held.More segments = 3 ≤ length segments
