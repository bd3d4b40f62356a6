-- Which requests a share counts, and which lookups have too many query options, by the message
-- alone.
use Rattle.std.specs.Prelude.{ℕ, Bool, false, ◌&&◌, ◌||◌, List, [], ◌∷◌, Option, Some, None, ◌==◌}
use Rattle.std.specs.Prelude.{codes, bytes_eq, count_by, nat_le, nat_lt, if◌then◌else◌}
use Rattle.std.specs.List.{list_all, list_any}
use Rattle.message_model.specs.declared.messages.Role.{Role}
use Rattle.message_model.specs.declared.messages.Role.TheVariants as role
use Rattle.message_model.specs.Message.{Message, Opt, role_of}
use Rattle.message_model.specs.Codes.{get, post}
use Rattle.message_model.specs.OptionTable as table
use Rattle.hosting.specs.declared.askings.Class.{Class}
use Rattle.hosting.specs.declared.askings.Class.TheVariants as class

-- Returns whether one of the options is this segment of the path (RFC 7252 section 5.10.1).
abbrev pub has_segment : List ℕ → List Opt → Bool
has_segment segment options =
    list_any (λ option. option.0 == table.uri_path && bytes_eq option.1 segment) options

-- Returns whether the last octet of a Block option has number 0 and the flag for more blocks (RFC
-- 7959 section 2.2).
abbrev pub begins : ℕ → Bool
begins octet = nat_le 8 octet && nat_lt octet 16

-- Returns the same of the whole value, which may have leading zeros (RFC 7252 section 3.2).
abbrev pub is_first_of_more : List ℕ → Bool
is_first_of_more (a ∷ []) = begins a
is_first_of_more (a ∷ b ∷ []) = a == 0 && begins b
is_first_of_more (a ∷ b ∷ c ∷ []) = a == 0 && (b == 0 && begins c)
is_first_of_more _ = false

-- Returns whether options are those of the first of several blocks of an upload (RFC 7959 section
-- 2.5).
abbrev pub begins_upload : List Opt → Bool
begins_upload options =
    list_any (λ option. option.0 == table.block1 && is_first_of_more option.1) options

-- Returns whether options have Observe with the value 0, which requests an observation (RFC 7641
-- section 2).
abbrev pub observes : List Opt → Bool
observes options =
    list_any (λ option. option.0 == table.observe && list_all (λ octet. octet == 0) option.1)
    options

-- Returns whether a Block option has a number above 0 (RFC 7959 section 2.2).
abbrev pub is_later : List ℕ → Bool
is_later (a ∷ []) = nat_le 16 a
is_later (a ∷ b ∷ []) = nat_le 1 a || nat_le 16 b
is_later (a ∷ b ∷ c ∷ []) = nat_le 1 a || (nat_le 1 b || nat_le 16 c)
is_later _ = false

-- Returns whether options request a later block of a response (RFC 7959 section 2.4).
abbrev pub goes_on : List Opt → Bool
goes_on options =
    list_any (λ option. option.0 == table.block2 && is_later option.1) options

-- Counts the query options (RFC 7252 section 5.10.1).
abbrev pub query_count : List Opt → ℕ
query_count options = count_by (λ option. option.0 == table.uri_query) options

-- Returns whether options have neither Observe nor more query options than `most`.
abbrev pub are_brief : ℕ → List Opt → Bool
are_brief most options =
    if list_any (λ option. option.0 == table.observe) options then false
    else nat_le (query_count options) most

-- Returns the class of a request other than GET. Each is a write. A simple registration is a POST
-- below `.well-known` (RFC 9176 section 5.1). It and the first block of an upload begin something
-- that lasts.
abbrev pub write_class : ℕ → List Opt → Class
write_class code options =
    if begins_upload options then class.Begin
    else (if code == post && has_segment (codes ".well-known") options then class.Begin
    else class.Write)

-- Returns the class of a GET, if a share counts it. A lookup counts once, by its first block (RFC
-- 9176 section 6). No share counts any other GET.
abbrev pub get_class : List Opt → Option Class
get_class options =
    if observes options then Some class.Observation
    else (if goes_on options then None
    else (if has_segment (codes "rd-lookup") options then Some class.Lookup else None))

abbrev pub method_class : ℕ → List Opt → Option Class
method_class code options =
    if code == get then get_class options else Some (write_class code options)

abbrev pub class_by : Role → ℕ → List Opt → Option Class
class_by role.Request code options = method_class code options
class_by role.Ping code options = None
class_by role.Acknowledgement code options = None
class_by role.Reset code options = None
class_by role.Response code options = None
class_by role.Ignored code options = None

-- Returns the class under which a share counts a message, or none if it is no request that a share
-- counts.
abbrev pub class_of : Message → Option Class
class_of m = class_by (role_of m.kind m.code) m.code m.options

-- Returns whether a message is a lookup with more query options than the limit (RFC 9176 section
-- 6).
abbrev pub passes_by : Role → ℕ → ℕ → List Opt → Bool
passes_by role.Request most code options =
    code == get && (has_segment (codes "rd-lookup") options && nat_lt most (query_count options))
passes_by role.Ping most code options = false
passes_by role.Acknowledgement most code options = false
passes_by role.Reset most code options = false
passes_by role.Response most code options = false
passes_by role.Ignored most code options = false

abbrev pub passes_criteria : ℕ → Message → Bool
passes_criteria most m = passes_by (role_of m.kind m.code) most m.code m.options
