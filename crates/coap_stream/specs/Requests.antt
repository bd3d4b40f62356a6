-- The purpose of the messages of a connection, the form in which a seat handles a request, and
-- which requests are answered without a seat (RFC 8323 sections 3.4 and 5, RFC 9176 section 5).
use Rattle.std.specs.Prelude.{
  ◌≡◌,
  ◌+◌,
  ◌≤◌,
  ℕ,
  Bool,
  true,
  false,
  not,
  ◌&&◌,
  ◌==◌,
  List,
  ◌++◌,
  length,
  filter,
  codes,
  Option,
  Some,
  None,
  if◌then◌else◌,
}
use Rattle.message_model.specs.declared.messages.Kind4.TheVariants.{Con}
use Rattle.message_model.specs.declared.requests.Path.{Path}
use Rattle.message_model.specs.declared.requests.Path.TheVariants as path
use Rattle.message_model.specs.declared.requests.Refusal.{Refusal}
use Rattle.message_model.specs.declared.requests.Refusal.TheVariants as refusal
use Rattle.message_model.specs.Codes as code_named
use Rattle.message_model.specs.Message.{Message, Opt, AreOptionsAfter, longest_token}
use Rattle.message_model.specs.Spelling.{options_spelling, payload_spelling}
use Rattle.message_model.specs.OptionTable.{observe}
use Rattle.message_model.specs.Request.{path_in, queries_in}
use Rattle.message_model.specs.Refusals.{refusal_of, refusal_code, diagnostic_of, is_registration}
use Rattle.record_model.specs.Options.{has_named}
use Rattle.record_model.specs.Parameters.{base}
use Rattle.stream_model.specs.declared.signals.TheConstants as signals
use Rattle.stream_model.specs.Faults.{longest_message}
use Rattle.stream_reader.specs.Shown.{Shown}
use Rattle.coap_stream.specs.declared.purposes.Meant.{Meant}
use Rattle.coap_stream.specs.declared.purposes.Meant.TheVariants as meant
use Rattle.coap_stream.specs.declared.refusing.Unasked.{Unasked}
use Rattle.coap_stream.specs.declared.refusing.Unasked.TheVariants as unasked_for

-- Returns the purpose of a message with this code. A CSM, a Pong, an empty message and a response
-- need no response (RFC 8323 sections 3.4 and 5).
abbrev pub meant_by : ℕ → Meant
meant_by c =
    if c == signals.PING then meant.Ping
    else if c == signals.RELEASE then meant.Release
    else if c == signals.ABORT then meant.Abort
    else if code_named.is_request_code c then meant.Request
    else meant.Passed

-- ---- how a seat handles a message

-- Returns whether the option is not Observe (RFC 7641 section 2).
abbrev pub is_not_observe : Opt → Bool
is_not_observe option = not (option.0 == observe)

-- Returns a request of a connection in the form in which a seat handles it. It is confirmable, with
-- this Message ID and without Observe, so that it gets a plain response.
abbrev pub heard_as : ℕ → Shown → Message
heard_as mid s = record {
  kind = Con;
  code = s.code;
  mid = mid;
  token = s.token;
  options = filter is_not_observe s.options;
  payload = s.payload;
}

-- Returns a message with further options.
abbrev pub with_options : Message → List Opt → Message
with_options m options = record m { options = m.options ++ options }

-- A request that fits a message of a stream, by its parts (RFC 8323 section 5.3.1).
pub record IsRequest (s : Shown) : Type 0 where
  pub code : code_named.is_request_code s.code ≡ true
  pub token : length s.token ≤ longest_token
  pub options : AreOptionsAfter 0 s.options
  pub fits : length (options_spelling 0 s.options) + length (payload_spelling s.payload)
      ≤ longest_message

-- ---- which are answered without a seat

-- Returns whether the refusal is tested before the method.
abbrev pub is_before_method : Refusal → Bool
is_before_method (refusal.BadOption number) = true
is_before_method refusal.Proxy = true
is_before_method refusal.Path = true
is_before_method refusal.Method = false
is_before_method refusal.Block = false
is_before_method refusal.Accept = false
is_before_method refusal.Format = false

-- Returns whether the path is that of simple registrations.
abbrev pub is_simple_rd : Path → Bool
is_simple_rd path.Core = false
is_simple_rd path.SimpleRd = true
is_simple_rd path.Rd = false
is_simple_rd (path.Location n) = false
is_simple_rd path.Res = false
is_simple_rd path.Ep = false
is_simple_rd path.Other = false

-- Returns whether the message is a simple registration (RFC 9176 section 5.1).
abbrev pub is_simple : Message → Bool
is_simple m = m.code == code_named.post && is_simple_rd (path_in m)

-- Returns whether the message is a registration that gives no base (RFC 9176 section 5).
abbrev pub is_baseless : Message → Bool
is_baseless m = is_registration m && not (has_named base (queries_in m))

-- Returns the reason why a request is answered without a seat. It depends on the first refusal that
-- the request alone decides before its query, if there is one. It also depends on whether the
-- request is a simple registration or one without a base.
abbrev pub unasked_by : Option Refusal → Bool → Bool → Option Unasked
unasked_by None simple baseless =
    if simple then Some unasked_for.Simple
    else if baseless then Some unasked_for.Baseless
    else None
unasked_by (Some why) simple baseless =
    if is_before_method why then Some (unasked_for.Refused why)
    else if simple then Some unasked_for.Simple
    else None

-- Returns the reason why a request is answered without a seat, or none if it is for a seat.
abbrev pub unasked_of : Message → Option Unasked
unasked_of m = unasked_by (refusal_of m) (is_simple m) (is_baseless m)

-- Returns how many requests are passed to the seat: one, unless it is answered without a seat.
abbrev pub number_asked : Option Unasked → ℕ
number_asked None = 1
number_asked (Some why) = 0

-- Returns the code of the response without a seat (RFC 7252 section 5.9).
abbrev pub unasked_code : Unasked → ℕ
unasked_code (unasked_for.Refused why) = refusal_code why
unasked_code unasked_for.Simple = code_named.not_found
unasked_code unasked_for.Baseless = code_named.bad_request

-- Returns the diagnostic payload of that response (RFC 7252 section 5.5.2).
abbrev pub unasked_diagnostic : Unasked → List ℕ
unasked_diagnostic (unasked_for.Refused why) = diagnostic_of why
unasked_diagnostic unasked_for.Simple = codes "path"
unasked_diagnostic unasked_for.Baseless = codes "query"
