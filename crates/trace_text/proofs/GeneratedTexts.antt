-- The text of a generated trace, part after part.
use Rattle.std.proofs.Common.{◌≡◌, ℕ, ◌+◌, ◌*◌, List, [], ◌∷◌, ◌++◌, sym, ap, ◌∙◌, append-nil}
use Rattle.std.proofs.lemmas.Grind.{flat_map-append}
use Rattle.line_model.specs.declared.lines.Line.{Line}
use Rattle.line_model.specs.declared.lines.Line.TheVariants as line
use Rattle.line_model.specs.Lines.{line_text}
use Rattle.line_model.specs.Texts.{line_feed}
use Rattle.line_model.specs.Generator.{pace, lines_up_to, text_of, generated_lines, generated}

-- a line with its line feed
abbrev ended : Line → List ℕ
ended l = line_text l ++ line_feed ∷ []

-- the texts of lines, one after the other
joined_texts : (xs ys : List Line) → text_of (xs ++ ys) ≡ text_of xs ++ text_of ys
joined_texts xs ys = flat_map-append ended xs ys

-- the last tick
last_line : (devices workers : ℕ) (old : List ℕ) → old ≡ text_of (lines_up_to workers devices)
    → old ++ ended (line.Tick 0 (record { 0 = pace * devices + 10 }) 0) ≡ generated devices workers
unfolding generated generated_lines
last_line devices workers old e =
    let tick : Line = line.Tick 0 (record { 0 = pace * devices + 10 }) 0 in
    ap (λ (t : List ℕ). old ++ t) (sym (append-nil (ended tick)))
    ∙ ap (λ (t : List ℕ). t ++ text_of (tick ∷ [])) e
    ∙ sym (joined_texts (lines_up_to workers devices) (tick ∷ []))

-- the whole text, by what was written before the last tick
pub whole_text : (devices workers i at : ℕ) (before tick all : List ℕ)
    → before ≡ text_of (lines_up_to workers i)
    → i ≡ devices
    → tick ≡ line_text (line.Tick 0 (record { 0 = at }) 0)
    → at ≡ pace * devices + 10
    → all ≡ before ++ (tick ++ line_feed ∷ []) → all ≡ generated devices workers
whole_text devices workers i at before tick all so_far last printed moment appended =
    appended
    ∙ ap (λ (t : List ℕ). before ++ (t ++ line_feed ∷ [])) printed
    ∙ ap (λ (m : ℕ). before ++ ended (line.Tick 0 (record { 0 = m }) 0)) moment
    ∙ last_line devices workers before
    (so_far ∙ ap (λ (k : ℕ). text_of (lines_up_to workers k)) last)
