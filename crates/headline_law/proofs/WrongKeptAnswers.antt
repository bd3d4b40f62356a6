-- Journals in which a block is read of an answer that is not kept: none of them has the sentence on
-- kept answers. Beside each datagram its parts are shown: type, code, Message ID, token, options,
-- payload.
use Rattle.std.proofs.Common.{◌≡◌, ℕ, ◌+◌, ◌<◌, false, List, [], ◌∷◌, ◌++◌, map}
use Rattle.std.proofs.Common.{Some, None, refl, sym, ap, subst, ◌∙◌, arith}
use Rattle.std.specs.List.{range_with_len}
use Rattle.std.proofs.lemmas.Bool.{false≢true}
use Rattle.std.proofs.lemmas.Option.{same_Some}
use Rattle.message_model.specs.Message.{Message}
use Rattle.message_model.specs.RequestKey.{key_in}
use Rattle.message_model.specs.Spelling.{spelling}
use Rattle.message_model.proofs.OnLiterals.{messages_on_literals}
use Rattle.event_model.specs.declared.notes.Note.{Note}
use Rattle.event_model.specs.declared.notes.Note.TheVariants as note
use Rattle.event_model.proofs.ManyObservers.{peer}
use Rattle.journal_model.specs.declared.steps.StepKind.TheVariants as step
use Rattle.journal_model.specs.declared.rows.Row.{Row}
use Rattle.journal_model.specs.PlacedRows.{Placed, last_row}
use Rattle.journal_model.specs.Requests.{is_later_block}
use Rattle.journal_model.proofs.OnLiterals.{machine_on_literals}
use Rattle.journal_model.proofs.sends.BodyAnswers.{same_message}
use Rattle.headline_law.specs.KeptAnswers.{AsksFurther, CanBeRead, KeptAnswers}
use Rattle.headline_law.proofs.WrongRows.{row_of, lookup}
use Rattle.headline_law.proofs.WrongMoments.{timed_row}

-- the key of a request
abbrev key : List ℕ
key = 1 ∷ []

-- an answer of peer 1 is kept at the moment 0
abbrev keeping : List ℕ → List ℕ → Row
keeping body current = timed_row 0 0 step.Tick [] [] (note.Kept (peer 1) key body current ∷ [])

-- a row at a moment reads it for a datagram
abbrev reads_at : ℕ → List ℕ → Row
reads_at moment datagram =
    timed_row moment moment step.Admit datagram [] (note.Used (peer 1) key ∷ [])

-- what the sentence says of such a row
read_at : (moment : ℕ) (datagram : List ℕ) (before : List Row)
    → KeptAnswers (reads_at moment datagram ∷ before)
    → CanBeRead before moment (peer 1, key)
read_at moment datagram before h =
    h.lives before (reads_at moment datagram) (peer 1) key (record { later = []; whole = refl })
    (0, (omega arith, refl))

-- ---- a block is read at the moment 10^12 of an answer that was kept at 0, and not used since

-- An end theorem: nothing here cites it.
pub old_answer_falls : (datagram body current : List ℕ)
    → KeptAnswers (reads_at 1_000_000_000_000 datagram ∷ keeping body current ∷ []) → ⊥
unfolding machine_on_literals last_row
old_answer_falls datagram body current h =
    let it : CanBeRead (keeping body current ∷ []) 1_000_000_000_000 (peer 1, key) =
    read_at 1_000_000_000_000 datagram (keeping body current ∷ []) h in
    let here : record { row = keeping body current; before = [] } ≡ it.used =
    same_Some (record { row = keeping body current; before = [] }) it.used it.used_is in
    let young : 1_000_000_000_000 < 0 + 247_000 =
    subst (λ (p : Placed). 1_000_000_000_000 < p.row.moment.0 + 247_000) (sym here) it.young in
    absurd (omega (arith, young))

-- ---- a block is read of an answer that nothing kept

-- An end theorem: nothing here cites it.
pub never_kept_falls : (moment : ℕ) (datagram : List ℕ)
    → KeptAnswers (reads_at moment datagram ∷ []) → ⊥
unfolding last_row
never_kept_falls moment datagram h =
    let it : CanBeRead [] moment (peer 1, key) = read_at moment datagram [] h in
    absurd (let no : None ≡ Some it.kept = it.kept_is in cc)

-- ---- a block is read of an answer after 64 others were kept

-- 64 answers of peer 2, under a key each
abbrev others : List Note
others = map (λ n. note.Kept (peer 2) (n ∷ []) [] []) (range_with_len 0 64)

abbrev crowding : Row
crowding = timed_row 0 0 step.Tick [] [] others

-- An end theorem: nothing here cites it.
pub crowded_out_falls : (datagram body current : List ℕ)
    → KeptAnswers (reads_at 1 datagram ∷ crowding ∷ keeping body current ∷ []) → ⊥
unfolding machine_on_literals last_row
crowded_out_falls datagram body current h =
    let it : CanBeRead (crowding ∷ keeping body current ∷ []) 1 (peer 1, key) =
    read_at 1 datagram (crowding ∷ keeping body current ∷ []) h in
    false≢true it.among_last

-- ---- a tick reads a kept answer, and so makes it live on

-- An end theorem: nothing here cites it.
pub tick_reads_falls : (key : List ℕ) (later before : List Row)
    → KeptAnswers (later ++ row_of step.Tick [] false [] (note.Used (peer 1) key ∷ []) ∷ before)
    → ⊥
tick_reads_falls key later before h =
    let it : AsksFurther (row_of step.Tick [] false [] (note.Used (peer 1) key ∷ [])).step
    (peer 1, key) =
    h.asked before (row_of step.Tick [] false [] (note.Used (peer 1) key ∷ [])) (peer 1) key
    (record { later = later; whole = refl }) (0, (omega arith, refl)) in
    absurd (let no : step.Tick ≡ step.Admit = it.heard in cc)

-- ---- a first block is read of a kept answer, and not built anew: CON 0.01 m=0010 t=c1 [11
-- rd-lookup][11 ep][23 0/0/16]

abbrev first_read : Row
first_read = row_of step.Admit (spelling lookup) false [] (note.Used (peer 1) (key_in lookup) ∷ [])

-- An end theorem: nothing here cites it.
pub first_read_falls : (later before : List Row)
    → KeptAnswers (later ++ first_read ∷ before) → ⊥
unfolding messages_on_literals
first_read_falls later before h =
    let it : AsksFurther first_read.step (peer 1, key_in lookup) =
    h.asked before first_read (peer 1) (key_in lookup) (record { later = later; whole = refl })
    (0, (omega arith, refl)) in
    let same : it.message ≡ lookup =
    same_message it.message lookup (spelling lookup) it.read refl in
    false≢true (ap (λ (m : Message). is_later_block m) (sym same) ∙ it.further)
