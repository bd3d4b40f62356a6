-- What a request asks, and the refusals that it alone decides, as the code names them.
use Rattle.std.specs.Prelude.{
  ◌≡◌,
  ℕ,
  Bool,
  true,
  false,
  ◌||◌,
  ◌==◌,
  codes,
  Option,
  Some,
  None,
}
use Rattle.message_model.specs.declared.messages.Kind4.{Kind4}
use Rattle.message_model.specs.declared.messages.Kind4.TheVariants.{Non}
use Rattle.message_model.specs.declared.requests.Path.{Path}
use Rattle.message_model.specs.declared.requests.Refusal.TheVariants as refusal
use Rattle.message_model.specs.Codes as codes_of
use Rattle.message_model.specs.Message.{Message}
use Rattle.message_model.specs.Refusals.{refusal_of, refusal_code, diagnostic_of}
use Rattle.journal_model.specs.Effects.{Reply, diagnostic}
use Rattle.journal_model.specs.Requests.{is_discovery, is_lookup, register}
use Rattle.rd_request.specs.declared.requests.Refused.{Refused}
use Rattle.rd_request.specs.declared.requests.Refused.TheVariants as refused

-- Returns whether the path is that of a discovery or of a lookup (RFC 9176 sections 4.1 and 6).
abbrev pub seeks_links : Path → Bool
seeks_links p = is_discovery p || is_lookup p

-- Returns whether there is a value of Observe that begins an observation (RFC 7641 section 2).
abbrev pub begins_observation : Option ℕ → Bool
begins_observation None = false
begins_observation (Some value) = value == register

-- Returns the answer of a refusal (RFC 7252 section 5.5.2).
abbrev pub refused_with : Refused → Reply
refused_with (refused.Request refusal) = diagnostic (refusal_code refusal) (diagnostic_of refusal)
refused_with refused.Query = diagnostic codes_of.bad_request (codes "query")
refused_with refused.Payload = diagnostic codes_of.bad_request (codes "payload")

-- States that the message is refused with this by its content alone. Options are checked first, so
-- any other refusal means that none of them is refused (RFC 7252 section 5.4.1).
abbrev pub IsRefusedBy : Refused → Message → Type 0
IsRefusedBy (refused.Request refusal) m = refusal_of m ≡ Some refusal
IsRefusedBy refused.Query m = refusal_of m ≡ None
IsRefusedBy refused.Payload m = refusal_of m ≡ None

-- Returns whether the refusal gets no answer. It gets none if the message is non-confirmable and
-- has an unrecognized critical option (RFC 7252 section 5.4.1).
abbrev pub is_passed_over : Kind4 → Refused → Bool
is_passed_over Non (refused.Request (refusal.BadOption number)) = true
is_passed_over _ _ = false
