-- What is written of a trace that is made.
use Rattle.std.proofs.Common.{◌≡◌, ℕ, ◌+◌, List, [], length, None, ap, ap₂, ◌∙◌, arith}
use Rattle.std.proofs.lemmas.List.{length-map}
use Rattle.line_model.specs.Generator.{generated, generated_lines}
use Rattle.line_model.specs.Lines.{line_text}
use Rattle.line_model.specs.Texts.{lines_of}
use Rattle.trace_model.specs.Made.{made_output}
use Rattle.trace_replay.specs.Journal.{journal}
use Rattle.trace_replay.specs.MadeRuns.{summary}
use Rattle.trace_replay.specs.Words.{AreDevices, IsWorkers}
use Rattle.trace_replay.proofs.GeneratedTexts.{generated_texts}
use Rattle.trace_replay.proofs.GeneratedTraces.{generated_good}
use Rattle.trace_replay.proofs.JournalRuns.{bad_is_first, rows_are}

-- how many lines there are
lines_made : (devices workers : ℕ)
    → IsWorkers workers
    → AreDevices devices
    → length (lines_of (generated devices workers)) ≡ length (generated_lines devices workers)
lines_made devices workers w d =
    ap length (generated_texts devices workers w.0 w.1 d.1)
    ∙ length-map (generated_lines devices workers) line_text

-- what is said of its lines and rows is what a make run writes
pub made_is : (devices workers : ℕ) (trace text : List ℕ)
    → IsWorkers workers
    → AreDevices devices
    → trace ≡ generated devices workers
    → text
    ≡ summary (0 + length (lines_of trace)) (journal workers [] (0 + 1) (lines_of trace)).rows
    → text ≡ made_output devices workers
unfolding made_output
made_is devices workers trace text w d e t =
    let none : 0 + length (lines_of trace) ≡ length (lines_of trace) = omega arith in
    t ∙ ap (λ (n : ℕ). summary n (journal workers [] 1 (lines_of trace)).rows) none
    ∙ ap (λ (bytes : List ℕ).
    summary (length (lines_of bytes)) (journal workers [] 1 (lines_of bytes)).rows) e
    ∙ ap₂ summary (lines_made devices workers w d) (rows_are workers (generated devices workers))

-- none of its lines is bad
pub none_bad : (devices workers : ℕ) (trace : List ℕ)
    → IsWorkers workers
    → AreDevices devices
    → trace ≡ generated devices workers
    → (journal workers [] (0 + 1) (lines_of trace)).bad ≡ None
none_bad devices workers trace w d e =
    ap (λ (bytes : List ℕ). (journal workers [] 1 (lines_of bytes)).bad) e
    ∙ (bad_is_first workers (generated devices workers)
    ∙ generated_good devices workers w.0 w.1 d.1)
