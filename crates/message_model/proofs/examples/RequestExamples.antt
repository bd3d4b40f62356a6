-- What requests ask for, and which are refused.
use Rattle.std.specs.Prelude.{◌≡◌, ℕ, List, [], ◌∷◌, ◌++◌, Some, None, codes, refl, replicate}
use Rattle.message_model.specs.declared.requests.Path.TheVariants as path
use Rattle.message_model.specs.declared.requests.Refusal.TheVariants as refusal
use Rattle.message_model.specs.Codes.{get, post, put, delete}
use Rattle.message_model.specs.Message.{Opt}
use Rattle.message_model.specs.OptionTable as table
use Rattle.message_model.specs.OptionTable.{recognized_options, first_bad_option, values}
use Rattle.message_model.specs.Request.{path_of, observe_in, etags_in, accept_in, echo_in}
use Rattle.message_model.specs.Refusals.{refusal_of, refusal_code, diagnostic_of}
use Rattle.message_model.specs.RequestKey.{key_in}
use Rattle.message_model.proofs.Notation.{hex, request}
use Rattle.message_model.proofs.OnLiterals.{messages_on_literals}

-- The options of a path of one segment, and of two.
abbrev to_one : List ℕ → List Opt
to_one first = (table.uri_path, first) ∷ []

abbrev to_two : List ℕ → List ℕ → List Opt
to_two first second = (table.uri_path, first) ∷ (table.uri_path, second) ∷ []

abbrev to_lookup : List Opt
to_lookup = to_two (codes "rd-lookup") (codes "res")

-- ---- the refusals, in their order

option_is_refused : refusal_of (request get ((9, []) ∷ []) []) ≡ Some (refusal.BadOption 9)
unfolding messages_on_literals
option_is_refused = refl

-- an elective option of an unknown number is skipped
option_zero_is_passed_over : first_bad_option ((0, []) ∷ []) ≡ None
unfolding messages_on_literals
option_zero_is_passed_over = refl

proxy_is_refused :
    refusal_of (request get ((table.proxy_uri, codes "coap://x") ∷ []) []) ≡ Some refusal.Proxy
unfolding messages_on_literals
proxy_is_refused = refl

path_is_refused : refusal_of (request get (to_one (codes "foo")) []) ≡ Some refusal.Path
unfolding messages_on_literals
path_is_refused = refl

no_path_is_refused : refusal_of (request get [] []) ≡ Some refusal.Path
unfolding messages_on_literals
no_path_is_refused = refl

method_is_refused : refusal_of (request put (to_one (codes "rd")) []) ≡ Some refusal.Method
unfolding messages_on_literals
method_is_refused = refl

block_is_refused :
    refusal_of (request get (to_lookup ++ (table.block2, hex (codes "07")) ∷ []) [])
    ≡ Some refusal.Block
unfolding messages_on_literals
block_is_refused = refl

accept_is_refused :
    refusal_of (request get (to_lookup ++ (table.accept, hex (codes "32")) ∷ []) [])
    ≡ Some refusal.Accept
unfolding messages_on_literals
accept_is_refused = refl

format_is_refused :
    refusal_of (request post (to_one (codes "rd")
    ++ (table.content_format, hex (codes "32"))
    ∷ (table.uri_query, codes "ep=a")
    ∷ []) [])
    ≡ Some refusal.Format
unfolding messages_on_literals
format_is_refused = refl

-- what is refused only by its query, or by its payload, has none of these refusals
registration_is_accepted : refusal_of (request post (to_one (codes "rd")) []) ≡ None
unfolding messages_on_literals
registration_is_accepted = refl

update_is_accepted : refusal_of (request post (to_two (codes "rd") (codes "1")) (codes "x")) ≡ None
unfolding messages_on_literals
update_is_accepted = refl

-- a registration's block that more follow has the block size, and the last may be shorter
full_block_is_accepted :
    refusal_of (request post (to_one (codes "rd") ++ (table.block1, hex (codes "08")) ∷ [])
    (replicate 16 120))
    ≡ None
unfolding messages_on_literals
full_block_is_accepted = refl

short_block_is_refused :
    refusal_of (request post (to_one (codes "rd") ++ (table.block1, hex (codes "08")) ∷ [])
    (replicate 15 120))
    ≡ Some refusal.Block
unfolding messages_on_literals
short_block_is_refused = refl

last_block_is_accepted :
    refusal_of (request post (to_one (codes "rd") ++ (table.block1, hex (codes "10")) ∷ [])
    (replicate 15 120))
    ≡ None
unfolding messages_on_literals
last_block_is_accepted = refl

long_block_is_refused :
    refusal_of (request post (to_one (codes "rd") ++ (table.block1, hex (codes "10")) ∷ [])
    (replicate 17 120))
    ≡ Some refusal.Block
unfolding messages_on_literals
long_block_is_refused = refl

-- where no links come only the exponent of Block1 is looked at
other_block_is_accepted :
    refusal_of
    (request post (to_two (codes "rd") (codes "1") ++ (table.block1, hex (codes "08")) ∷ [])
    (codes "x"))
    ≡ None
unfolding messages_on_literals
other_block_is_accepted = refl

-- ---- a registration by its location: each method of it, and no other

method_of_location_is_refused :
    refusal_of (request 5 (to_two (codes "rd") (codes "1")) []) ≡ Some refusal.Method
unfolding messages_on_literals
method_of_location_is_refused = refl

read_is_accepted : refusal_of (request get (to_two (codes "rd") (codes "1")) []) ≡ None
unfolding messages_on_literals
read_is_accepted = refl

removal_is_accepted : refusal_of (request delete (to_two (codes "rd") (codes "1")) []) ≡ None
unfolding messages_on_literals
removal_is_accepted = refl

-- a read that accepts another format
accept_of_read_is_refused :
    refusal_of
    (request get (to_two (codes "rd") (codes "1") ++ (table.accept, hex (codes "32")) ∷ []) [])
    ≡ Some refusal.Accept
unfolding messages_on_literals
accept_of_read_is_refused = refl

-- a replacement names the format of its links as a registration does; an update is no document, and
-- what it names is skipped
format_of_replacement_is_refused :
    refusal_of
    (request put (to_two (codes "rd") (codes "1") ++ (table.content_format, hex (codes "32")) ∷ [])
    [])
    ≡ Some refusal.Format
unfolding messages_on_literals
format_of_replacement_is_refused = refl

format_of_update_is_passed_over :
    refusal_of
    (request post (to_two (codes "rd") (codes "1") ++ (table.content_format, hex (codes "32")) ∷ [])
    [])
    ≡ None
unfolding messages_on_literals
format_of_update_is_passed_over = refl

-- a replacement's block fits its Block1 as that of a registration does
full_block_of_replacement_is_accepted :
    refusal_of
    (request put (to_two (codes "rd") (codes "1") ++ (table.block1, hex (codes "08")) ∷ [])
    (replicate 16 120))
    ≡ None
unfolding messages_on_literals
full_block_of_replacement_is_accepted = refl

short_block_of_replacement_is_refused :
    refusal_of
    (request put (to_two (codes "rd") (codes "1") ++ (table.block1, hex (codes "08")) ∷ [])
    (replicate 15 120))
    ≡ Some refusal.Block
unfolding messages_on_literals
short_block_of_replacement_is_refused = refl

long_block_of_replacement_is_refused :
    refusal_of
    (request put (to_two (codes "rd") (codes "1") ++ (table.block1, hex (codes "10")) ∷ [])
    (replicate 17 120))
    ≡ Some refusal.Block
unfolding messages_on_literals
long_block_of_replacement_is_refused = refl

-- ---- what is said

-- the reply to the option of number 9
refusal_is_said :
    (refusal_code (refusal.BadOption 9) ∷ diagnostic_of (refusal.BadOption 9))
    ≡ hex (codes "826f7074696f6e")
refusal_is_said = refl

-- ---- the option table

-- If-Match and If-None-Match are critical, and not in the table
if_match_is_refused : first_bad_option ((1, []) ∷ []) ≡ Some 1
unfolding messages_on_literals
if_match_is_refused = refl

if_none_match_is_refused : first_bad_option ((5, []) ∷ []) ≡ Some 5
unfolding messages_on_literals
if_none_match_is_refused = refl

-- a first Observe of a bad length and a second that is a further occurrence: neither counts
neither_observe_counts :
    observe_in (request get ((table.observe, hex (codes "00000000")) ∷ (table.observe, []) ∷ []) [])
    ≡ None
unfolding messages_on_literals
neither_observe_counts = refl

observe_counts :
    observe_in (request get ((table.observe, []) ∷ (table.observe, hex (codes "01")) ∷ []) [])
    ≡ Some 0
unfolding messages_on_literals
observe_counts = refl

-- a second Uri-Host is critical and a further occurrence; a Uri-Host of no byte has a bad length
second_host_is_refused :
    first_bad_option ((table.uri_host, codes "a") ∷ (table.uri_host, codes "a") ∷ [])
    ≡ Some table.uri_host
unfolding messages_on_literals
second_host_is_refused = refl

empty_host_is_refused : first_bad_option ((table.uri_host, []) ∷ []) ≡ Some table.uri_host
unfolding messages_on_literals
empty_host_is_refused = refl

-- an entity tag of nine bytes is skipped, and the next one is the first
long_etag_is_passed_over :
    etags_in (request get ((table.etag, replicate 9 1) ∷ (table.etag, hex (codes "aa")) ∷ []) [])
    ≡ hex (codes "aa") ∷ []
unfolding messages_on_literals
long_etag_is_passed_over = refl

-- Echo has 1 to 40 bytes, and counts once; what does not count is skipped, for it is elective
shortest_echo_counts :
    echo_in (request post ((table.echo, hex (codes "00")) ∷ []) []) ≡ Some (hex (codes "00"))
unfolding messages_on_literals
shortest_echo_counts = refl

longest_echo_counts :
    echo_in (request post ((table.echo, replicate 40 7) ∷ []) []) ≡ Some (replicate 40 7)
unfolding messages_on_literals
longest_echo_counts = refl

empty_echo_is_passed_over : echo_in (request post ((table.echo, []) ∷ []) []) ≡ None
unfolding messages_on_literals
empty_echo_is_passed_over = refl

too_long_echo_is_passed_over :
    echo_in (request post ((table.echo, replicate 41 7) ∷ []) []) ≡ None
unfolding messages_on_literals
too_long_echo_is_passed_over = refl

too_long_echo_is_not_refused : first_bad_option ((table.echo, replicate 41 7) ∷ []) ≡ None
unfolding messages_on_literals
too_long_echo_is_not_refused = refl

first_echo_counts :
    echo_in
    (request post ((table.echo, hex (codes "01")) ∷ (table.echo, hex (codes "02")) ∷ []) [])
    ≡ Some (hex (codes "01"))
unfolding messages_on_literals
first_echo_counts = refl

-- the second is a further occurrence, also where the first has a bad length
neither_echo_counts :
    echo_in (request post ((table.echo, []) ∷ (table.echo, hex (codes "02")) ∷ []) []) ≡ None
unfolding messages_on_literals
neither_echo_counts = refl

-- leading zero bytes are read
zeros_are_read : accept_in (request get ((table.accept, hex (codes "0028")) ∷ []) []) ≡ Some 40
unfolding messages_on_literals
zeros_are_read = refl

-- ---- paths

core_is_found : path_of (codes ".well-known" ∷ codes "core" ∷ []) ≡ path.Core
unfolding messages_on_literals
core_is_found = refl

zero_is_a_location : path_of (codes "rd" ∷ codes "0" ∷ []) ≡ path.Location 0
unfolding messages_on_literals
zero_is_a_location = refl

fifteen_digits_are_a_location :
    path_of (codes "rd" ∷ codes "999999999999999" ∷ []) ≡ path.Location 999999999999999
unfolding messages_on_literals
fifteen_digits_are_a_location = refl

sixteen_digits_are_none : path_of (codes "rd" ∷ codes "1000000000000000" ∷ []) ≡ path.Other
unfolding messages_on_literals
sixteen_digits_are_none = refl

leading_zero_is_none : path_of (codes "rd" ∷ codes "01" ∷ []) ≡ path.Other
unfolding messages_on_literals
leading_zero_is_none = refl

empty_segment_is_none : path_of (codes "rd" ∷ [] ∷ []) ≡ path.Other
unfolding messages_on_literals
empty_segment_is_none = refl

-- ---- the key

key_is_made :
    key_in (request post (to_two (codes "rd") (codes "258") ++ (table.uri_query, codes "lt=1") ∷ [])
    [])
    ≡ hex (codes "02030000000000000102046c743d31")
unfolding messages_on_literals
key_is_made = refl

-- Echo is no part of it (RFC 9175 section 2.2.1)
key_without_echo :
    key_in
    (request post (to_one (codes "rd") ++ (table.echo, hex (codes "0102")) ∷ []) [])
    ≡ key_in (request post (to_one (codes "rd")) [])
unfolding messages_on_literals
key_without_echo = refl
