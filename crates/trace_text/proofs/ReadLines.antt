-- What is read of a line is the line that the text is.
use Rattle.std.proofs.Common.{
  ◌≡◌,
  ℕ,
  ◌<◌,
  ◌≤◌,
  Bool,
  true,
  false,
  List,
  length,
  Option,
  Some,
  None,
  Result,
  Ok,
  Err,
  ok_or,
  nat_lt,
  refl,
}
use Rattle.std.specs.Prelude.{if◌then◌else◌, IfOk}
use Rattle.std.proofs.lemmas.Bool.{ltb-true, ltb-false}
use Rattle.line_model.specs.declared.lines.Line.{Line}
use Rattle.line_model.specs.declared.lines.Reason.{Reason}
use Rattle.line_model.specs.declared.lines.Reason.TheVariants as reason
use Rattle.line_model.specs.Lines.{max_line, fields, said_by, line_of, IsLine, IsLineText}
use Rattle.line_model.proofs.LineTexts.{line_of-IsLineText}
use Rattle.trace_text.specs.declared.faults.LineFault.{LineFault}
use Rattle.trace_text.specs.declared.faults.LineFault.TheVariants as fault
use Rattle.trace_text.specs.LineResults.{IsRead, IsAnswered}
use Rattle.trace_text.proofs.LineFields.{spelled_line}

-- what stands behind an answer, by whether the text is too long
long_first : (long : Bool) (said : Option Line)
    → (if long then Err reason.Long else ok_or said reason.Form) ≡ Err reason.Long
    → long ≡ true
long_first true said e = refl
long_first false (Some l) e = absurd cc
long_first false None e = absurd cc

form_first : (long : Bool) (said : Option Line)
    → (if long then Err reason.Long else ok_or said reason.Form) ≡ Err reason.Form
    → long ≡ false
form_first true said e = absurd cc
form_first false said e = refl

too_long : (text : List ℕ) → line_of text ≡ Err reason.Long → max_line < length text
unfolding line_of
too_long text e =
    ltb-true max_line (length text)
    (long_first (nat_lt max_line (length text)) (said_by (fields text)) e)

short_enough : (text : List ℕ) → line_of text ≡ Err reason.Form → length text ≤ max_line
unfolding line_of
short_enough text e =
    ltb-false max_line (length text)
    (form_first (nat_lt max_line (length text)) (said_by (fields text)) e)

-- a text that does not read as a line is none
no_line : (text : List ℕ) (why : Reason)
    → line_of text ≡ Err why
    → (l : Line)
    → IsLineText text l
    → ⊥
no_line text why e l h = let there = (line_of-IsLineText text l).1 h in cc

-- the answer is the line that the text is, or why it is none
pub answered : (text : List ℕ) (result : Result Line LineFault)
    → IsRead result (line_of text)
    → IsAnswered text result
answered text (Ok l) e = (line_of-IsLineText text l).0 e
answered text (Err fault.Long) e = too_long text e
answered text (Err fault.Form) e = (short_enough text e, no_line text reason.Form e)
answered text (Err fault.Starved) e = tt

-- and it is one that can be printed
pub answers_line : (text : List ℕ) (result : Result Line LineFault)
    → IsRead result (line_of text)
    → IfOk result IsLine
answers_line text (Ok l) e =
    let h = (line_of-IsLineText text l).0 e in spelled_line h.parts l h.said
answers_line text (Err bad) e = tt
