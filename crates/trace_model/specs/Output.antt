-- The output of a trace: a line for each datagram that is sent, and the last line.
use Rattle.std.specs.Prelude.{
  ℕ,
  List,
  [],
  ◌∷◌,
  ◌++◌,
  length,
  flat_map,
  codes,
  decimal,
  Option,
  Some,
  None,
}
use Rattle.line_model.specs.declared.lines.LineBad.{LineBad}
use Rattle.line_model.specs.Lines.{out_text}
use Rattle.line_model.specs.Texts.{line_feed}
use Rattle.history_model.specs.Live.{live}
use Rattle.history_model.specs.Replay.{counted}
use Rattle.event_model.specs.Observers.{observers}
use Rattle.journal_model.specs.declared.rows.Row.{Row}
use Rattle.journal_model.specs.Journal.{events, entries, latest}
use Rattle.trace_model.specs.Steps.{first_bad, journal}

-- Returns a line with its line feed.
abbrev pub ended : List ℕ → List ℕ
ended text = text ++ line_feed ∷ []

-- Returns the lines of the datagrams that a row sent, in order.
abbrev pub out_lines : Row → List ℕ
out_lines r = flat_map (λ d. ended (out_text r.step.worker d.0 d.1)) r.sent

-- Returns the lines of a journal, in the order of its rows.
unfoldable pub text : List Row → List ℕ
text [] = []
text (r ∷ before) = text before ++ out_lines r

-- Returns the last line. It has the count of accepted changes, the number of registrations that are
-- live at the greatest moment passed in, and the number of observers.
unfoldable pub last_line : List Row → List ℕ
last_line rows =
    ended (codes "end " ++ (decimal (counted 0 (entries rows)) ++ (codes " "
    ++ (decimal (length (live (entries rows) (latest rows)))
    ++ (codes " " ++ decimal (length (observers (events rows))))))))

-- The output of a trace, and its first bad line if there is one.
pub record Output : Type 0 where
  pub text : List ℕ
  pub bad : Option LineBad

-- Returns the lines of a journal, and its last line if no line of the trace is bad.
abbrev pub written : List Row → Option LineBad → Output
written rows (Some bad) = record { text = text rows; bad = Some bad }
written rows None = record { text = text rows ++ last_line rows; bad = None }

-- Returns the output of a trace for a number of workers.
unfoldable pub output : ℕ → List ℕ → Output
output workers bytes = written (journal workers bytes) (first_bad workers bytes)
