-- A request that is kept: what is read of the datagram that it spells.
use Rattle.std.proofs.Common.{◌≡◌, ℕ, true, List, Ok, ap, sym, subst, ◌∙◌}
use Rattle.message_model.specs.declared.messages.Role.{Role}
use Rattle.message_model.specs.Message.{Message}
use Rattle.message_model.specs.Reading.{reading}
use Rattle.message_model.specs.Spelling.{spelling}
use Rattle.journal_model.specs.Machine.{is_look_datagram}
use Rattle.rd_request.specs.declared.accepted.Request.{Request}
use Rattle.rd_request.specs.declared.incoming.Incoming.TheVariants as incoming
use Rattle.rd_request.specs.Accepted.{message_of}
use Rattle.rd_request.specs.Incoming.{IsFor, IsIncoming}
use Rattle.rd_request.specs.WriteRequests.{is_write_datagram, writes_to_registrations}
use Rattle.rd_request.proofs.IncomingLaws.{looks_is}
use Rattle.rd_request.proofs.WriteRequestLaws.{write_in}

-- the spelling of what a datagram is read as is read as it again
pub spelling_read : (r : Role) (datagram : List ℕ) (m : Message)
    → IsFor r datagram m
    → reading (spelling m) ≡ Ok m
spelling_read r datagram m is = ap reading is.spelled ∙ is.read

-- and it only looks, where the datagram does
pub spelling_looks : (datagram : List ℕ) (request : Request)
    → IsIncoming datagram (incoming.Look request)
    → is_look_datagram (spelling (message_of request)) ≡ true
spelling_looks datagram request is =
    ap is_look_datagram is.0.spelled ∙ looks_is datagram (incoming.Look request) is

-- the message that is lent is the one that is read of its spelling
pub read_kept : (kept own : Message)
    → own ≡ kept
    → reading (spelling kept) ≡ Ok kept
    → reading (spelling kept) ≡ Ok own
read_kept kept own same read =
    subst (λ (m : Message). reading (spelling kept) ≡ Ok m) (sym same) read

pub writes_kept : (kept own : Message)
    → own ≡ kept
    → reading (spelling kept) ≡ Ok kept
    → is_write_datagram (spelling kept) ≡ true
    → writes_to_registrations own ≡ true
writes_kept kept own same read writes =
    subst (λ (m : Message). writes_to_registrations m ≡ true) (sym same)
    (write_in (spelling kept) kept read writes).1
