-- What a message that a server sends reports as done, by its type and its code.
use Rattle.std.specs.Prelude.{ℕ, ◌/◌, ◌%◌, ◌==◌, nat_le, if◌then◌else◌}
use Rattle.std.specs.Prelude.{List, ◌∷◌, Option, Some, None}
use Rattle.message_model.specs.declared.messages.Kind4.{Kind4}
use Rattle.message_model.specs.declared.messages.Kind4.TheVariants as kind
use Rattle.message_model.specs.Reading.{kind_of}
use Rattle.message_model.specs.Codes.{bad_request, changed, content, created, deleted, valid}
use Rattle.hosting.specs.declared.deeds.Deed.{Deed}
use Rattle.hosting.specs.declared.deeds.Deed.TheVariants as deed

-- Returns what 2.05 (Content) reports. In a confirmable message, it is a notification (RFC 7641
-- section 4.5).
abbrev pub found_by : Kind4 → Deed
found_by kind.Con = deed.Notified
found_by kind.Non = deed.Found
found_by kind.Ack = deed.Found
found_by kind.Rst = deed.Other

-- Returns what a message of this type and code reports (RFC 7252 section 12.1.2, RFC 9176 section
-- 5).
abbrev pub deed_by : Kind4 → ℕ → Deed
deed_by kind code =
    if code == created then deed.Registered
    else (if code == changed then deed.Updated
    else (if code == deleted then deed.Removed
    else (if code == valid then deed.Found
    else (if code == content then found_by kind
    else (if nat_le bad_request code then deed.Refused else deed.Other)))))

-- Returns what a message reports by its first two octets, which have its type and its code (RFC
-- 7252 section 3).
abbrev pub deed_in : List ℕ → Option Deed
deed_in (first ∷ code ∷ octets) = Some (deed_by (kind_of (first / 16 % 4)) code)
deed_in octets = None
