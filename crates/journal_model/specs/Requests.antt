-- What a request asks for, and the refusals that it alone decides, in the order of the checks.
use Rattle.std.specs.Prelude.{
  ℕ,
  Bool,
  true,
  false,
  not,
  ◌&&◌,
  ◌||◌,
  ◌==◌,
  nat_lt,
  codes,
  Option,
  Some,
  None,
  is_some,
  is_none,
  option_and_then,
  unwrap_or,
  if◌then◌else◌,
}
use Rattle.rd_base.specs.declared.queries.Kind.{Kind}
use Rattle.rd_base.specs.declared.queries.Kind.TheVariants as kind
use Rattle.rd_base.specs.declared.queries.Query.{Query}
use Rattle.message_model.specs.declared.blocks.TheConstants.{MAX_SZX}
use Rattle.message_model.specs.declared.blocks.Block.{Block}
use Rattle.message_model.specs.declared.requests.Path.{Path}
use Rattle.message_model.specs.declared.requests.Path.TheVariants as path
use Rattle.message_model.specs.declared.requests.Refusal.{Refusal}
use Rattle.message_model.specs.Message.{Message}
use Rattle.message_model.specs.Codes as codes_of
use Rattle.message_model.specs.Blocks.{block_read}
use Rattle.message_model.specs.Request.{path_in, queries_in, observe_in, block1_in, block2_in}
use Rattle.message_model.specs.Refusals.{refusal_of, refusal_code, diagnostic_of}
use Rattle.record_model.specs.declared.readings.Reading.{Reading}
use Rattle.record_model.specs.declared.readings.Reading.TheVariants as reading
use Rattle.link_model.specs.Characters.{is_empty}
use Rattle.record_model.specs.Criteria.{fault_of, lookup_values}
use Rattle.journal_model.specs.Effects.{Reply, diagnostic}

-- The methods that a resource may have (RFC 7252 section 5.8).
pub data Method : Type 0 where
  get : Method
  post : Method
  put : Method
  delete : Method
  other_method : Method

-- Returns the method of a request.
abbrev pub method_of : ℕ → Method
method_of code =
    if code == codes_of.get then get
    else if code == codes_of.post then post
    else if code == codes_of.put then put
    else if code == codes_of.delete then delete
    else other_method

-- What requests on a resource of the directory may have and do (RFC 9176 sections 4.1, 5, 5.1, 5.3
-- and 6).
pub record Resource : Type 0 where
  -- The kind of lookup there, if there is one.
  pub looked_up : Option Kind
  -- Whether it is a registration.
  pub is_registration : Bool
  -- The kind of request that the query options of a request on it are read for, by its method.
  pub read_as : Method → Option Reading
  -- Whether a request on it has no payload, by its method.
  pub takes_no_payload : Method → Bool

-- Returns the kind of request that the query options of a request on a registration are read for.
-- Those of an update are read, and those of GET, PUT and DELETE are ignored.
abbrev pub reading_on_location : Method → Option Reading
reading_on_location get = None
reading_on_location post = Some reading.Update
reading_on_location put = None
reading_on_location delete = None
reading_on_location other_method = None

-- Returns whether the method is that of an update, which has no payload (RFC 9176 section 5.3.1).
abbrev pub is_update : Method → Bool
is_update get = false
is_update post = true
is_update put = false
is_update delete = false
is_update other_method = false

-- Returns a resource where links are looked up. Its query options are criteria, and a payload is
-- ignored.
abbrev pub lookup_of : Kind → Resource
lookup_of what = record {
  looked_up = Some what;
  is_registration = false;
  read_as = λ method. Some reading.Lookup;
  takes_no_payload = λ method. false;
}

-- Returns the resource at a path: discovery, simple registration, registration, a registration, the
-- two lookups, or none.
abbrev pub resource_at : Path → Resource
resource_at path.Core = lookup_of kind.Discovery
resource_at path.SimpleRd = record {
  looked_up = None;
  is_registration = false;
  read_as = λ method. Some reading.Simple;
  takes_no_payload = λ method. true;
}
resource_at path.Rd = record {
  looked_up = None;
  is_registration = false;
  read_as = λ method. Some reading.Register;
  takes_no_payload = λ method. false;
}
resource_at (path.Location number) = record {
  looked_up = None;
  is_registration = true;
  read_as = reading_on_location;
  takes_no_payload = is_update;
}
resource_at path.Res = lookup_of kind.Resource
resource_at path.Ep = lookup_of kind.Endpoint
resource_at path.Other = record {
  looked_up = None;
  is_registration = false;
  read_as = λ method. None;
  takes_no_payload = λ method. false;
}

-- Returns the kind of request that the query options of a request are read for.
abbrev pub reading_of : Path → ℕ → Option Reading
reading_of p code = (resource_at p).read_as (method_of code)

-- Returns whether the query options of a request are refused.
abbrev pub has_bad_query : Message → Bool
has_bad_query m =
    is_some (option_and_then (λ as_what. fault_of as_what (queries_in m))
    (reading_of (path_in m) m.code))

-- Returns whether a request has no payload: an update and a simple registration have none (RFC 9176
-- sections 5.1 and 5.3.1).
abbrev pub takes_no_payload : Path → ℕ → Bool
takes_no_payload p code = (resource_at p).takes_no_payload (method_of code)

-- Returns whether the request has a payload, and its path takes none.
abbrev pub has_bad_payload : Message → Bool
has_bad_payload m = takes_no_payload (path_in m) m.code && not (is_empty m.payload)

-- Returns the refusal of the query, or else that of the payload.
abbrev pub refusal_of_query_or_payload : Message → Option Reply
refusal_of_query_or_payload m =
    if has_bad_query m then Some (diagnostic codes_of.bad_request (codes "query"))
    else if has_bad_payload m then Some (diagnostic codes_of.bad_request (codes "payload"))
    else None

-- Returns a refusal as a response, or else the refusal of query or payload.
abbrev pub refusal_or_next : Option Refusal → Message → Option Reply
refusal_or_next (Some refusal) m = Some (diagnostic (refusal_code refusal) (diagnostic_of refusal))
refusal_or_next None m = refusal_of_query_or_payload m

-- Returns the first refusal that a request alone decides: option, proxy, path, method, block,
-- accept, format, query, payload.
unfoldable pub refusal_of_request : Message → Option Reply
refusal_of_request m = refusal_or_next (refusal_of m) m

-- Returns whether resources or endpoints are looked up (RFC 9176 section 6).
abbrev pub is_of_registrations : Option Kind → Bool
is_of_registrations None = false
is_of_registrations (Some kind.Discovery) = false
is_of_registrations (Some kind.Resource) = true
is_of_registrations (Some kind.Endpoint) = true

-- Returns whether the directory itself is looked up (RFC 9176 section 4.1).
abbrev pub is_of_directory : Option Kind → Bool
is_of_directory None = false
is_of_directory (Some kind.Discovery) = true
is_of_directory (Some kind.Resource) = false
is_of_directory (Some kind.Endpoint) = false

-- Returns whether a path is a lookup of resources or of endpoints (RFC 9176 section 6).
abbrev pub is_lookup : Path → Bool
is_lookup p = is_of_registrations (resource_at p).looked_up

-- Returns whether a path is discovery (RFC 9176 section 4.1).
abbrev pub is_discovery : Path → Bool
is_discovery p = is_of_directory (resource_at p).looked_up

-- Returns whether a path is the location of a registration (RFC 9176 section 5.3).
abbrev pub is_location : Path → Bool
is_location p = (resource_at p).is_registration

-- Returns the kind of what is looked up at a path.
abbrev pub kind_of : Path → Kind
kind_of p = unwrap_or (resource_at p).looked_up kind.Discovery

-- Returns the query of a lookup or a discovery.
abbrev pub query_of : Message → Query
query_of m = lookup_values (kind_of (path_in m)) (queries_in m)

-- Returns the requested block of the response (RFC 7959 section 2.1).
abbrev pub asked_block : Message → Option Block
asked_block m = option_and_then block_read (block2_in m)

-- Returns the block that the payload is (RFC 7959 section 2.1).
abbrev pub sent_block : Message → Option Block
sent_block m = option_and_then block_read (block1_in m)

-- The exponent of the greatest block size, 1,024 octets, which is used if none is requested (RFC
-- 7959 section 2.2).
abbrev pub greatest_szx : ℕ
greatest_szx = MAX_SZX

-- Returns the number of a requested block.
abbrev pub number_of : Option Block → ℕ
number_of None = 0
number_of (Some b) = b.num

-- Returns the exponent of the size of a requested block.
abbrev pub szx_of : Option Block → ℕ
szx_of None = greatest_szx
szx_of (Some b) = b.szx

-- Returns whether a block after the first is requested.
abbrev pub is_later_block : Message → Bool
is_later_block m = nat_lt 0 (number_of (asked_block m))

-- The value of Observe that begins an observation (RFC 7641 section 2).
abbrev pub register : ℕ
register = 0

-- The value of Observe that ends an observation (RFC 7641 section 2).
abbrev pub deregister : ℕ
deregister = 1

-- Returns whether the value of Observe begins or ends an observation.
abbrev pub is_heeded : Option ℕ → Bool
is_heeded None = false
is_heeded (Some value) = value == register || value == deregister

-- Returns whether the method is GET.
abbrev pub is_get : Method → Bool
is_get get = true
is_get post = false
is_get put = false
is_get delete = false
is_get other_method = false

-- Returns whether a request reads the links of a registration: a GET on its location (RFC 9176
-- section 5.3.3).
abbrev pub reads_registration : Message → Bool
reads_registration m = is_location (path_in m) && is_get (method_of m.code)

-- Returns whether the method changes a registration: POST updates it, PUT replaces its links,
-- DELETE removes it.
abbrev pub is_changing : Method → Bool
is_changing get = false
is_changing post = true
is_changing put = true
is_changing delete = true
is_changing other_method = false

-- Returns whether a request is a write, by its path and method: a registration, a simple
-- registration, or a change of a registration (RFC 9176 sections 5, 5.1 and 5.3).
abbrev pub is_write : Path → Method → Bool
is_write path.Core method = false
is_write path.SimpleRd method = true
is_write path.Rd method = true
is_write (path.Location number) method = is_changing method
is_write path.Res method = false
is_write path.Ep method = false
is_write path.Other method = false

-- Returns whether a request is answered from the registrations alone. It is a discovery, or, of a
-- first block, a lookup that neither begins nor ends an observation, or a read of a registration,
-- which ignores Observe.
abbrev pub only_looks : Message → Bool
only_looks m =
    is_discovery (path_in m)
    || (is_lookup (path_in m) && not (is_later_block m) && not (is_heeded (observe_in m)))
    || (reads_registration m && not (is_later_block m))

-- Returns whether a request is a look: such a request that meets no refusal.
unfoldable pub is_look_request : Message → Bool
is_look_request m = is_none (refusal_of_request m) && only_looks m
