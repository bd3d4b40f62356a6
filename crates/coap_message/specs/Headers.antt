-- The header that the code stores.
use Rattle.message_model.specs.Reading as reading
use Rattle.coap_message.specs.declared.headers.Header.{Header}

-- Returns the header with the same parts (RFC 7252 section 3).
abbrev pub header_in : Header → reading.Header
header_in h = record { kind = h.kind; token_length = h.token_length; code = h.code; mid = h.mid }
