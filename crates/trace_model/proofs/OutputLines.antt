-- How traces and what is written of them are spelled out in examples.
use Rattle.std.specs.Prelude.{
  ℕ,
  Bool,
  List,
  [],
  ◌∷◌,
  ◌++◌,
  map,
  reverse,
  flat_map,
  replicate,
  Some,
  None,
}
use Rattle.line_model.specs.declared.lines.Reason.{Reason}
use Rattle.journal_model.specs.declared.rows.Row.{Row}
use Rattle.event_model.specs.Due.{Watching, observers_standing}
use Rattle.journal_model.specs.Journal.{events, transitions}
use Rattle.journal_model.specs.Ticks.{octets_sent}
use Rattle.trace_model.specs.Steps.{journal}
use Rattle.trace_model.specs.Output.{Output, ended, out_lines, last_line}

-- lines, each with its line feed
abbrev pub lines : List (List ℕ) → List ℕ
lines texts = flat_map ended texts

-- these lines are written, and no line is bad
abbrev pub writes : List (List ℕ) → Output
writes texts = record { text = lines texts; bad = None }

-- these lines are written before the first bad line
abbrev pub stops_at : ℕ → Reason → List (List ℕ) → Output
stops_at number why texts = record {
  text = lines texts;
  bad = Some (record { line = number; why = why });
}

-- digits many times
abbrev pub many : ℕ → List ℕ → List ℕ
many n digits = flat_map (λ d. d) (replicate n digits)

-- what each row of a journal writes, in the order of the rows, and after them the last line
abbrev pub row_by_row : List Row → List (List ℕ)
row_by_row rows = map out_lines (reverse rows) ++ last_line rows ∷ []

-- what each step of a trace writes, and after them the last line
abbrev pub step_by_step : ℕ → List (List ℕ) → List (List ℕ)
step_by_step workers trace = row_by_row (journal workers (lines trace))

-- the observers that stand after the rows of a journal
abbrev pub standing : List Row → List Watching
standing rows = observers_standing (octets_sent rows) (events rows) (transitions rows)

-- which of the observers are due after a trace of one worker
abbrev pub due_after : List (List ℕ) → List Bool
due_after trace = map (λ w. w.due) (standing (journal 1 (lines trace)))
