-- Each code by its class and detail, as the standards write it (RFC 7252 section 3).
use Rattle.std.specs.Prelude.{◌≡◌, refl}
use Rattle.message_model.specs.Codes as codes_of
use Rattle.message_model.specs.Codes.{code}

empty_is : codes_of.empty ≡ code 0 0
empty_is = refl

get_is : codes_of.get ≡ code 0 1
get_is = refl

post_is : codes_of.post ≡ code 0 2
post_is = refl

put_is : codes_of.put ≡ code 0 3
put_is = refl

delete_is : codes_of.delete ≡ code 0 4
delete_is = refl

created_is : codes_of.created ≡ code 2 1
created_is = refl

deleted_is : codes_of.deleted ≡ code 2 2
deleted_is = refl

valid_is : codes_of.valid ≡ code 2 3
valid_is = refl

changed_is : codes_of.changed ≡ code 2 4
changed_is = refl

content_is : codes_of.content ≡ code 2 5
content_is = refl

continue_is : codes_of.continue ≡ code 2 31
continue_is = refl

bad_request_is : codes_of.bad_request ≡ code 4 0
bad_request_is = refl

unauthorized_is : codes_of.unauthorized ≡ code 4 1
unauthorized_is = refl

bad_option_is : codes_of.bad_option ≡ code 4 2
bad_option_is = refl

not_found_is : codes_of.not_found ≡ code 4 4
not_found_is = refl

method_not_allowed_is : codes_of.method_not_allowed ≡ code 4 5
method_not_allowed_is = refl

not_acceptable_is : codes_of.not_acceptable ≡ code 4 6
not_acceptable_is = refl

request_entity_incomplete_is : codes_of.request_entity_incomplete ≡ code 4 8
request_entity_incomplete_is = refl

request_entity_too_large_is : codes_of.request_entity_too_large ≡ code 4 13
request_entity_too_large_is = refl

unsupported_content_format_is : codes_of.unsupported_content_format ≡ code 4 15
unsupported_content_format_is = refl

internal_server_error_is : codes_of.internal_server_error ≡ code 5 0
internal_server_error_is = refl

service_unavailable_is : codes_of.service_unavailable ≡ code 5 3
service_unavailable_is = refl

proxying_not_supported_is : codes_of.proxying_not_supported ≡ code 5 5
proxying_not_supported_is = refl
