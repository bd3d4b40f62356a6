-- What a datagram does and takes, by what its message is for.
use Rattle.std.proofs.Common.{◌≡◌, ℕ, Bool, false, List, Result, sym, ap, ◌∙◌}
use Rattle.std.specs.List.{list_any}
use Rattle.message_model.specs.declared.messages.Role.{Role}
use Rattle.message_model.specs.declared.messages.Unread.{Unread}
use Rattle.message_model.specs.Message.{Message}
use Rattle.message_model.specs.Reading.{reading}
use Rattle.event_model.specs.Repeats.{is_admitting}
use Rattle.journal_model.specs.declared.steps.Step.{Step}
use Rattle.journal_model.specs.declared.rows.Row.{Row}
use Rattle.journal_model.specs.Effects.{Effects}
use Rattle.journal_model.specs.Rows.{message_effects, heard, row_moment}
use Rattle.rd_request.specs.Incoming.{IsFor}
use Rattle.rd_desk.specs.calls.Admitting.{message_takes, takes_memory}

-- a message does what it is for
pub heard_for : (rows : List Row) (s : Step) (starved : Bool) (r : Role) (datagram : List ℕ)
    (m : Message)
    → IsFor r datagram m
    → message_effects r starved rows (row_moment rows s) s m
    ≡ heard starved rows (row_moment rows s) s (reading datagram)
heard_for rows s starved r datagram m is =
    ap (λ (x : Role). message_effects x starved rows (row_moment rows s) s m) (sym is.role_is)
    ∙ ap (λ (read : Result Message Unread). heard starved rows (row_moment rows s) s read)
    (sym is.read)

-- so it admits what it does
pub admits_for : (rows : List Row) (s : Step) (starved : Bool) (r : Role) (datagram : List ℕ)
    (m : Message)
    → IsFor r datagram m
    → list_any is_admitting (message_effects r starved rows (row_moment rows s) s m).notes ≡ false
    → list_any is_admitting (heard starved rows (row_moment rows s) s (reading datagram)).notes
    ≡ false
admits_for rows s starved r datagram m is none =
    ap (λ (e : Effects). list_any is_admitting e.notes)
    (sym (heard_for rows s starved r datagram m is))
    ∙ none

-- and takes the memory that it takes
pub takes_for : (rows : List Row) (s : Step) (r : Role) (datagram : List ℕ) (m : Message)
    → IsFor r datagram m
    → takes_memory rows (row_moment rows s) s (reading datagram) ≡ false
    → message_takes r rows (row_moment rows s) s m ≡ false
takes_for rows s r datagram m is silent =
    ap (λ (x : Role). message_takes x rows (row_moment rows s) s m) (sym is.role_is)
    ∙ (ap (λ (read : Result Message Unread). takes_memory rows (row_moment rows s) s read)
    (sym is.read)
    ∙ silent)
