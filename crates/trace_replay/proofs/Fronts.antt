-- Fronts of texts, and how the text of a journal grows.
use Rattle.std.proofs.Common.{
  ℕ,
  ◌+◌,
  false,
  List,
  [],
  ◌∷◌,
  ◌++◌,
  take,
  drop,
  Option,
  Some,
  None,
  Result,
  Ok,
  Err,
  refl,
  sym,
  ap,
  ◌∙◌,
  subst,
  append_assoc,
  append-nil,
  take-append-drop,
}
use Rattle.line_model.specs.declared.lines.LineBad.{LineBad}
use Rattle.line_model.specs.declared.lines.Reason.{Reason}
use Rattle.line_model.specs.Lines.{line_of}
use Rattle.journal_model.specs.declared.rows.Row.{Row}
use Rattle.journal_model.specs.declared.steps.Step.{Step}
use Rattle.journal_model.specs.Rows.{row}
use Rattle.trace_model.specs.Output.{text, out_lines, last_line, written}
use Rattle.trace_model.specs.Steps.{step_of_line}
use Rattle.trace_replay.specs.Journal.{
  Journal,
  journal,
  goes_on,
  rows_after,
  after_line,
  whole_text,
}
use Rattle.trace_replay.specs.Endings.{IsFrontOf}

pub front_self : (xs : List ℕ) → IsFrontOf xs xs
front_self xs = ([], sym (append-nil xs))

pub front_trans : (a b c : List ℕ) → IsFrontOf a b → IsFrontOf b c → IsFrontOf a c
front_trans a b c p q =
    (p.0 ++ q.0, q.1 ∙ ap (λ (l : List ℕ). l ++ q.0) p.1 ∙ append_assoc a p.0 q.0)

pub front_take : (n : ℕ) (xs : List ℕ) → IsFrontOf (take n xs) xs
front_take n xs = (drop n xs, sym (take-append-drop n xs))

pub front_behind : (before a b : List ℕ) → IsFrontOf a b → IsFrontOf (before ++ a) (before ++ b)
front_behind before a b p =
    (p.0, ap (λ (l : List ℕ). before ++ l) p.1 ∙ sym (append_assoc before a p.0))

pub front_nothing : (before xs : List ℕ) → IsFrontOf before xs → IsFrontOf (before ++ []) xs
front_nothing before xs p = subst (λ (l : List ℕ). IsFrontOf l xs) (sym (append-nil before)) p

-- a row more has more text
more_front : (rows : List Row) (r : Row) → IsFrontOf (text rows) (text (r ∷ rows))
unfolding text
more_front rows r = (out_lines r, refl)

-- the rows after a line have the text of those before it
abbrev KeepsText : List Row → Result (List Row) Reason → Type 0
KeepsText rows (Ok more) = IsFrontOf (text rows) (text more)
KeepsText rows (Err why) = Unit {0}

after_keeps : (rows : List Row) (said : Result (Option Step) Reason)
    → KeepsText rows (rows_after rows said)
after_keeps rows (Err why) = tt
after_keeps rows (Ok None) = front_self (text rows)
after_keeps rows (Ok (Some s)) = more_front rows (row rows s false)

-- the text of the rows before stands at the front of a journal's text
goes_front : (r : Result (List Row) Reason) (rows : List Row) (number : ℕ)
    (rest : List Row → Journal)
    → KeepsText rows r
    → ((more : List Row) → IsFrontOf (text more) (text (rest more).rows))
    → IsFrontOf (text rows) (text (goes_on r rows number rest).rows)
goes_front (Ok more) rows number rest keeps h = front_trans _ _ _ keeps (h more)
goes_front (Err why) rows number rest keeps h = front_self (text rows)

pub journal_front : (workers : ℕ) (rows : List Row) (number : ℕ) (texts : List (List ℕ))
    → IsFrontOf (text rows) (text (journal workers rows number texts).rows)
journal_front workers rows number [] = front_self (text rows)
journal_front workers rows number (t ∷ ts) =
    goes_front (after_line workers rows t) rows number
    (λ more. journal workers more (number + 1) ts)
    (after_keeps rows (step_of_line workers rows (line_of t)))
    (λ more. journal_front workers more (number + 1) ts)

-- and at the front of all that is written of it
written_front : (rows : List Row) (bad : Option LineBad)
    → IsFrontOf (text rows) (written rows bad).text
written_front rows (Some bad) = front_self (text rows)
written_front rows None = (last_line rows, refl)

pub whole_front : (front : List ℕ) (j : Journal)
    → IsFrontOf front (text j.rows)
    → IsFrontOf front (whole_text j)
whole_front front j p = front_trans _ _ _ p (written_front j.rows j.bad)
