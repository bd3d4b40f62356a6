-- The key of a request, which identifies it together with its sender: method, path and query
-- options (RFC 7959 section 2.4).
use Rattle.std.specs.Prelude.{ℕ, List, [], ◌∷◌, ◌++◌, length, flat_map}
use Rattle.std.specs.Int.{w64, to_be_bytes}
use Rattle.message_model.specs.declared.requests.Path.{Path}
use Rattle.message_model.specs.declared.requests.Path.TheVariants as path
use Rattle.message_model.specs.Message.{Message}
use Rattle.message_model.specs.Request.{path_in, queries_in}

-- Returns the octets of a path in the key: one octet for the resource, and the number of a
-- registration in eight octets, the most significant first.
abbrev pub path_bytes : Path → List ℕ
path_bytes path.Core = 0 ∷ []
path_bytes path.SimpleRd = 1 ∷ []
path_bytes path.Rd = 2 ∷ []
path_bytes (path.Location n) = 3 ∷ to_be_bytes w64 n
path_bytes path.Res = 4 ∷ []
path_bytes path.Ep = 5 ∷ []
path_bytes path.Other = 6 ∷ []

-- Returns the octets of a query option in the key: its length, which fits an octet, and its own
-- octets.
abbrev pub query_bytes : List ℕ → List ℕ
query_bytes query = length query ∷ query

-- Returns the key of a method, a path and query options.
unfoldable pub key_of : ℕ → Path → List (List ℕ) → List ℕ
key_of code path queries = code ∷ (path_bytes path ++ flat_map query_bytes queries)

-- Returns the key of a request.
abbrev pub key_in : Message → List ℕ
key_in m = key_of m.code (path_in m) (queries_in m)
