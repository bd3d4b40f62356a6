-- The message that a view shows.
use Rattle.message_model.specs.Message.{Message}
use Rattle.coap_message.specs.declared.views.View.{View}
use Rattle.coap_message.specs.OptionsAt.{options_at}

-- Returns the message of a view: the same parts, with the options that are spelled there (RFC 7252
-- section 3).
abbrev pub message_in : View → Message
message_in v = record {
  kind = v.kind;
  code = v.code;
  mid = v.mid;
  token = v.token.octets.now;
  options = options_at 0 v.options.now;
  payload = v.payload.now;
}
