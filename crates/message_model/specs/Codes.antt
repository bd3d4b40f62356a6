-- The codes of requests and responses (RFC 7252 section 12.1, RFC 7959 section 2.9). Their numbers
-- are those of src/codes.rt.
use Rattle.std.specs.Prelude.{ℕ, ◌+◌, ◌*◌, ◌/◌, Bool, ◌&&◌, ◌||◌, ◌==◌, nat_lt, nat_le}
use Rattle.message_model.specs.declared.codes.TheConstants as numbers

-- Returns the octet of a code that is written class.detail: three bits of class, five of detail
-- (RFC 7252 section 3).
abbrev pub code : ℕ → ℕ → ℕ
code class detail = class * 32 + detail

-- Returns the class of a code (RFC 7252 section 3).
abbrev pub class_of : ℕ → ℕ
class_of byte = byte / 32

-- The code of an empty message, 0.00 (RFC 7252 section 4.1).
abbrev pub empty : ℕ
empty = numbers.EMPTY

-- The methods (RFC 7252 section 5.8).
abbrev pub get : ℕ
get = numbers.GET

abbrev pub post : ℕ
post = numbers.POST

abbrev pub put : ℕ
put = numbers.PUT

abbrev pub delete : ℕ
delete = numbers.DELETE

-- The codes of success (RFC 7252 section 5.9.1; 2.31 is of RFC 7959 section 2.9).
abbrev pub created : ℕ
created = numbers.CREATED

abbrev pub deleted : ℕ
deleted = numbers.DELETED

abbrev pub valid : ℕ
valid = numbers.VALID

abbrev pub changed : ℕ
changed = numbers.CHANGED

abbrev pub content : ℕ
content = numbers.CONTENT

abbrev pub continue : ℕ
continue = numbers.CONTINUE

-- The codes of errors of the client (RFC 7252 section 5.9.2; 4.08 is of RFC 7959 section 2.9).
abbrev pub bad_request : ℕ
bad_request = numbers.BAD_REQUEST

abbrev pub unauthorized : ℕ
unauthorized = numbers.UNAUTHORIZED

abbrev pub bad_option : ℕ
bad_option = numbers.BAD_OPTION

abbrev pub not_found : ℕ
not_found = numbers.NOT_FOUND

abbrev pub method_not_allowed : ℕ
method_not_allowed = numbers.METHOD_NOT_ALLOWED

abbrev pub not_acceptable : ℕ
not_acceptable = numbers.NOT_ACCEPTABLE

abbrev pub request_entity_incomplete : ℕ
request_entity_incomplete = numbers.REQUEST_ENTITY_INCOMPLETE

abbrev pub request_entity_too_large : ℕ
request_entity_too_large = numbers.REQUEST_ENTITY_TOO_LARGE

abbrev pub unsupported_content_format : ℕ
unsupported_content_format = numbers.UNSUPPORTED_CONTENT_FORMAT

-- The codes of errors of the server (RFC 7252 section 5.9.3).
abbrev pub internal_server_error : ℕ
internal_server_error = numbers.INTERNAL_SERVER_ERROR

abbrev pub service_unavailable : ℕ
service_unavailable = numbers.SERVICE_UNAVAILABLE

abbrev pub proxying_not_supported : ℕ
proxying_not_supported = numbers.PROXYING_NOT_SUPPORTED

-- Returns whether a code is of class 1, 6 or 7. These are reserved, and no message has them (RFC
-- 7252 section 3).
abbrev pub is_reserved : ℕ → Bool
is_reserved byte = class_of byte == 1 || class_of byte == 6 || class_of byte == 7

-- Returns whether a code is that of a request: class 0, but not 0.00 (RFC 7252 section 12.1.1).
abbrev pub is_request_code : ℕ → Bool
is_request_code byte = nat_lt empty byte && class_of byte == 0

-- Returns whether a code is that of a response: classes 2 to 5. Class 3 is read like the others
-- (RFC 7252 section 12.1.2).
abbrev pub is_response_code : ℕ → Bool
is_response_code byte = nat_le 2 (class_of byte) && nat_le (class_of byte) 5
