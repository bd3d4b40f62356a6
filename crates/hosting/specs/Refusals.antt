-- The response of a link to a request that it withholds from the directory.
use Rattle.std.specs.Prelude.{◌≡◌, ◌≤◌, ℕ, ◌*◌, ◌+◌, true, List, [], ◌∷◌, ◌++◌, Option, Ok}
use Rattle.std.specs.Prelude.{codes, is_some, unwrap_or, ◌⊎◌, ⊤}
use Rattle.message_model.specs.declared.messages.Kind4.TheVariants.{Con, Ack}
use Rattle.message_model.specs.Codes.{bad_request}
use Rattle.message_model.specs.Message.{Message, Opt}
use Rattle.message_model.specs.Reading.{reading}
use Rattle.message_model.specs.Spelling.{spelling}
use Rattle.coap_message.specs.PartialMessages.{with_payload}
use Rattle.udp_link.specs.declared.links.Came.{Came}
use Rattle.udp_link.specs.declared.links.Came.TheVariants as came
use Rattle.udp_link.specs.Links.{Datagram, TakesFirst}
use Rattle.udp_link.specs.Told.{WhereTold}
use Rattle.hosting.specs.declared.refusals.Refused.{Refused}
use Rattle.hosting.specs.declared.refusals.Refused.TheVariants as refused
use Rattle.hosting.specs.Askings.{class_of, passes_criteria}

-- Returns the code 4.29 Too Many Requests (RFC 8516 section 3).
abbrev pub too_many : ℕ
too_many = 4 * 32 + 29

-- Returns the number of the option Max-Age (RFC 7252 section 5.10.5).
abbrev pub max_age : ℕ
max_age = 14

abbrev pub code_of : Refused → ℕ
code_of (refused.TooMany seconds) = too_many
code_of refused.Criteria = bad_request

-- Returns the options of a refusal. Max-Age has the seconds after which the client may send the
-- request again (RFC 8516 section 3).
abbrev pub options_of : Refused → List Opt
options_of (refused.TooMany seconds) = (max_age, seconds ∷ []) ∷ []
options_of refused.Criteria = []

abbrev pub payload_of : Refused → List ℕ
payload_of (refused.TooMany seconds) = []
payload_of refused.Criteria = codes "query"

-- Returns the acknowledgement of a request with its Message ID, and in it a response with its token
-- (RFC 7252 sections 4.2 and 5.3). It has no payload yet.
abbrev pub begun : Message → Refused → Message
begun m why = record {
  kind = Ack;
  code = code_of why;
  mid = m.mid;
  token = m.token;
  options = options_of why;
  payload = [];
}

abbrev pub response_to : Message → Refused → Message
response_to m why = with_payload (begun m why) (payload_of why)

-- Returns the most query options of a lookup, or 0 if there is no limit.
abbrev pub most_of : Option ℕ → ℕ
most_of limit = unwrap_or limit 0

-- States why a message is withheld from the directory: it is a request that a share counts, or a
-- lookup
abbrev pub IsWhy : Message → ℕ → Refused → Type 0
IsWhy m most (refused.TooMany seconds) =
    (is_some (class_of m) ≡ true) × ((1 ≤ seconds) × (seconds ≤ 247))
IsWhy m most refused.Criteria = passes_criteria most m ≡ true

-- States that a datagram is a confirmable request, and is withheld from the directory for this
-- reason.
pub record IsRefused (octets : List ℕ) (most : ℕ) (m : Message) (reason : Refused) : Type 0 where
  pub read : reading octets ≡ Ok m
  pub kind : m.kind ≡ Con
  pub why : IsWhy m most reason

-- States that a link sends nothing, or the response to a request that is withheld from the
-- directory.
abbrev pub AnswersAtMost : Datagram → ℕ → List Datagram → List Datagram → Type 0
AnswersAtMost datagram most before now =
    (now ≡ before) ⊎ ((m : Message) × (why : Refused) × IsRefused datagram.1 most m why
    × (now ≡ before ++ (datagram.0, spelling (response_to m why)) ∷ []))

-- States the same for any datagram received.
abbrev pub AnswersOne : ℕ → List Datagram → List Datagram → Type 0
AnswersOne most before now = (datagram : Datagram) × AnswersAtMost datagram most before now

-- States that a datagram that is handed over is the one received, whole.
abbrev pub TellsSame : Came → List ℕ → Option (List Datagram) → Option (List Datagram) → Type 0
TellsSame (came.Datagram peer n) into before now =
    WhereTold (TakesFirst (came.Datagram peer n) into) before now
TellsSame came.TooLong into before now = ⊤
TellsSame came.Nothing into before now = ⊤
TellsSame came.Failed into before now = ⊤
