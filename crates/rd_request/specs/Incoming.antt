-- What a datagram is to the directory, as the code names it.
use Rattle.std.specs.Prelude.{◌≡◌, Bool, true, false, ℕ, List, Some, Ok, Err}
use Rattle.message_model.specs.declared.messages.Role.{Role}
use Rattle.message_model.specs.declared.messages.Role.TheVariants as role
use Rattle.message_model.specs.Message.{Message, role_of}
use Rattle.message_model.specs.Reading.{reading}
use Rattle.message_model.specs.Spelling.{spelling}
use Rattle.message_model.specs.Request.{path_in}
use Rattle.coap_message.specs.Views.{message_in}
use Rattle.journal_model.specs.Requests.{
  refusal_of_request,
  is_lookup,
  only_looks,
  reads_registration,
}
use Rattle.rd_request.specs.declared.incoming.Incoming.{Incoming}
use Rattle.rd_request.specs.declared.incoming.Incoming.TheVariants as incoming
use Rattle.rd_request.specs.declared.requests.Refused.{Refused}
use Rattle.rd_request.specs.Accepted.{message_of}
use Rattle.rd_request.specs.Asking.{refused_with, IsRefusedBy}
use Rattle.rd_request.specs.WriteRequests.{writes_to_registrations}

-- A message that the datagram encodes, and that has this role (RFC 7252 section 4).
pub record IsFor (r : Role) (datagram : List ℕ) (m : Message) : Type 0 where
  pub read : reading datagram ≡ Ok m
  pub spelled : spelling m ≡ datagram
  pub role_is : role_of m.kind m.code ≡ r

-- A request that is refused by its content alone (RFC 7252 sections 5.4 and 5.9).
pub record IsRefusedRequest (datagram : List ℕ) (m : Message) (refused : Refused) : Type 0 where
  pub request : IsFor role.Request datagram m
  pub answer : refusal_of_request m ≡ Some (refused_with refused)
  pub cause : IsRefusedBy refused m

-- States that the datagram is this to the directory.
abbrev pub IsIncoming : List ℕ → Incoming → Type 0
IsIncoming datagram (incoming.Unread fault) = reading datagram ≡ Err fault
IsIncoming datagram incoming.Nothing = (m : Message) × IsFor role.Ignored datagram m
IsIncoming datagram (incoming.Ping view) = IsFor role.Ping datagram (message_in view)
IsIncoming datagram (incoming.Acknowledgement view) =
    IsFor role.Acknowledgement datagram (message_in view)
IsIncoming datagram (incoming.Reset view) = IsFor role.Reset datagram (message_in view)
IsIncoming datagram (incoming.Response view) = IsFor role.Response datagram (message_in view)
IsIncoming datagram (incoming.Refused view refused) =
    IsRefusedRequest datagram (message_in view) refused
IsIncoming datagram (incoming.Look request) =
    IsFor role.Request datagram (message_of request) × (only_looks (message_of request) ≡ true)
IsIncoming datagram (incoming.Lookup request) =
    IsFor role.Request datagram (message_of request)
    × (only_looks (message_of request) ≡ false)
    × (is_lookup (path_in (message_of request)) ≡ true)
IsIncoming datagram (incoming.Read request) =
    IsFor role.Request datagram (message_of request)
    × (only_looks (message_of request) ≡ false)
    × (reads_registration (message_of request) ≡ true)
IsIncoming datagram (incoming.Write request) =
    IsFor role.Request datagram (message_of request)
    × (writes_to_registrations (message_of request) ≡ true)

-- Returns whether a datagram is a look, from what it is to the directory.
abbrev pub looks : Incoming → Bool
looks (incoming.Look request) = true
looks _ = false

-- Returns whether a datagram is a write, from what it is to the directory.
abbrev pub writes : Incoming → Bool
writes (incoming.Write request) = true
writes _ = false
