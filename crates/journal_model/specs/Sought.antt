-- What a request seeks, and what is found of it in a history at a moment (RFC 9176 sections 4.1,
-- 5.3.3 and 6). It seeks the listing of a lookup, the source of a registration, or the directory's
-- own links.
use Rattle.std.specs.Prelude.{ℕ, Bool, true, false, List, Option, Some, None, is_some, option_map}
use Rattle.rd_base.specs.declared.queries.Query.{Query}
use Rattle.message_model.specs.declared.requests.Path.{Path}
use Rattle.message_model.specs.declared.requests.Path.TheVariants as path
use Rattle.message_model.specs.Message.{Message}
use Rattle.message_model.specs.Request.{path_in}
use Rattle.record_model.specs.Discovery.{discovery}
use Rattle.history_model.specs.declared.entries.Entry.{Entry}
use Rattle.history_model.specs.Listing.{listing, tag}
use Rattle.history_model.specs.Sources.{source}
use Rattle.event_model.specs.KeptAnswers.{Answer}
use Rattle.journal_model.specs.Requests.{
  Method,
  get,
  post,
  put,
  delete,
  other_method,
  method_of,
  query_of,
}

-- What is sought: the listing of a query, the source of the registration with a number, or those of
-- the directory's own links that a query matches.
pub data Sought : Type 0 where
  listing_of : Query → Sought
  source_of : ℕ → Sought
  own_links : Query → Sought

-- Returns what is sought of a registration by a method: GET seeks its source, and a write nothing.
abbrev pub sought_of : ℕ → Method → Option Sought
sought_of number get = Some (source_of number)
sought_of number post = None
sought_of number put = None
sought_of number delete = None
sought_of number other_method = None

-- Returns what is sought at a path by a method and a query. A write seeks nothing.
abbrev pub sought_at : Path → Method → Query → Option Sought
sought_at path.Core method query = Some (own_links query)
sought_at path.SimpleRd method query = None
sought_at path.Rd method query = None
sought_at (path.Location number) method query = sought_of number method
sought_at path.Res method query = Some (listing_of query)
sought_at path.Ep method query = Some (listing_of query)
sought_at path.Other method query = None

-- Returns what a request seeks.
abbrev pub sought_in : Message → Option Sought
sought_in m = sought_at (path_in m) (method_of m.code) (query_of m)

-- Returns the body that is found: a listing always, and a source if the registration is live.
abbrev pub body : Sought → List Entry → ℕ → Option (List ℕ)
body (listing_of query) history moment = Some (listing query history moment)
body (source_of number) history moment = source number history moment
body (own_links query) history moment = Some (discovery query)

-- Returns the entity tag of that body, which is that of the history at the moment. Discovery
-- depends on its query alone, and has none.
abbrev pub body_tag : Sought → List Entry → ℕ → Option (List ℕ)
body_tag (listing_of query) history moment = Some (tag history moment)
body_tag (source_of number) history moment = Some (tag history moment)
body_tag (own_links query) history moment = None

-- Returns whether what is sought has a tag: a listing or a source.
abbrev pub has_tag : Option Sought → Bool
has_tag None = false
has_tag (Some (listing_of query)) = true
has_tag (Some (source_of number)) = true
has_tag (Some (own_links query)) = false

-- Returns whether a body is found of what is sought.
abbrev pub is_found : Option Sought → List Entry → ℕ → Bool
is_found None history moment = false
is_found (Some sought) history moment = is_some (body sought history moment)

-- Returns a body under a tag.
abbrev pub answer_of : List ℕ → List ℕ → Answer
answer_of found current = record { body = found; tag = current }

-- Returns the body that is found, under the tag of the history at the moment.
abbrev pub answer_for : Sought → List Entry → ℕ → Option Answer
answer_for sought history moment =
    option_map (λ found. answer_of found (tag history moment)) (body sought history moment)
