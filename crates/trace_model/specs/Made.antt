-- The output of a make run, which generates a trace and replays it, and counts what it makes and
-- sends.
use Rattle.std.specs.Prelude.{ℕ, List, ◌++◌, flat_map, map, length, sum, codes, decimal}
use Rattle.rd_base.specs.declared.peers.Peer.{Peer}
use Rattle.line_model.specs.Generator.{generated_lines, generated}
use Rattle.journal_model.specs.declared.rows.Row.{Row}
use Rattle.trace_model.specs.Steps.{journal}
use Rattle.trace_model.specs.Output.{ended, last_line}

-- Returns the datagrams that a journal sent.
abbrev pub datagrams : List Row → List (Peer × List ℕ)
datagrams rows = flat_map (λ r. r.sent) rows

-- Returns how many octets datagrams have together.
abbrev pub octets_sent : List (Peer × List ℕ) → ℕ
octets_sent sent = sum (map (λ d. length d.1) sent)

-- Returns the line that says how many lines were made.
abbrev pub made_line : ℕ → List ℕ
made_line lines = ended (codes "made " ++ decimal lines)

-- Returns the line that says how many datagrams were sent, and how many octets they have together.
abbrev pub sent_line : List (Peer × List ℕ) → List ℕ
sent_line sent =
    ended (codes "sent " ++ (decimal (length sent) ++ (codes " " ++ decimal (octets_sent sent))))

-- Returns the output of a make run for a number of devices and of workers. It has the number of
-- lines that were made, what was sent, and the last line.
unfoldable pub made_output : ℕ → ℕ → List ℕ
made_output devices workers =
    made_line (length (generated_lines devices workers))
    ++ (sent_line (datagrams (journal workers (generated devices workers)))
    ++ last_line (journal workers (generated devices workers)))
