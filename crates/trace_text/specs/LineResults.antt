-- The result of reading a line or a field, compared with what the text spells.
use Rattle.std.specs.Prelude.{◌≡◌, ℕ, ◌<◌, ◌≤◌, List, length, Option, Some, None, Result, Ok, Err}
use Rattle.line_model.specs.declared.lines.Line.{Line}
use Rattle.line_model.specs.declared.lines.Reason.{Reason}
use Rattle.line_model.specs.declared.lines.Reason.TheVariants as reason
use Rattle.line_model.specs.Lines.{max_line, IsLineText}
use Rattle.trace_text.specs.declared.faults.LineFault.{LineFault}
use Rattle.trace_text.specs.declared.faults.LineFault.TheVariants as fault
use Rattle.trace_text.specs.declared.faults.FieldFault.{FieldFault}
use Rattle.trace_text.specs.declared.faults.FieldFault.TheVariants as field

-- States that a field is read as what it spells, and that a fault of its form means that it spells
-- nothing. Nothing is claimed if memory ran out.
abbrev pub IsSaid : {A : Type 0} → Result A FieldFault → Option A → Type 0
IsSaid (Ok value) said = said ≡ Some value
IsSaid (Err field.Form) said = said ≡ None
IsSaid (Err field.Starved) said = Unit {0}

-- States that the result is the line that the text is, by the grammar of a line, or why it is none.
-- It is too long, or it is not and is no line's text. Nothing is claimed if memory ran out.
abbrev pub IsAnswered : List ℕ → Result Line LineFault → Type 0
IsAnswered text (Ok line) = IsLineText text line
IsAnswered text (Err fault.Long) = max_line < length text
IsAnswered text (Err fault.Form) =
    (length text ≤ max_line) × ((line : Line) → ¬ (IsLineText text line))
IsAnswered text (Err fault.Starved) = Unit {0}

-- States that a line is read as what it spells, and one that is bad is refused with its reason.
-- Nothing is claimed if memory ran out.
abbrev pub IsRead : Result Line LineFault → Result Line Reason → Type 0
IsRead (Ok line) read = read ≡ Ok line
IsRead (Err fault.Long) read = read ≡ Err reason.Long
IsRead (Err fault.Form) read = read ≡ Err reason.Form
IsRead (Err fault.Starved) read = Unit {0}
