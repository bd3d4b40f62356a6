-- How a trace ends.
use Rattle.std.proofs.Common.{
  ◌≡◌,
  ℕ,
  ◌+◌,
  List,
  [],
  ◌∷◌,
  ◌++◌,
  take,
  Option,
  Some,
  None,
  Result,
  refl,
  sym,
  ap,
  ◌∙◌,
  subst,
  append_assoc,
  append-nil,
}
use Rattle.std.specs.Io.KnownBytes.{Appends}
use Rattle.std.proofs.KnownBytes.{Appends-trans, Appends-nil}
use Rattle.trace_replay.specs.declared.sessions.Session.{Session}
use Rattle.line_model.specs.declared.lines.Reason.{Reason}
use Rattle.line_model.specs.declared.lines.LineBad.{LineBad}
use Rattle.trace_replay.specs.declared.endings.Stop.{Stop}
use Rattle.trace_replay.specs.declared.endings.Stop.TheVariants as stop
use Rattle.trace_replay.specs.Fields.{cut}
use Rattle.line_model.specs.Texts.{lines_of}
use Rattle.journal_model.specs.declared.rows.Row.{Row}
use Rattle.trace_model.specs.Output.{text, last_line}
use Rattle.trace_replay.specs.Journal.{Journal, journal, goes_on, after_line, whole_text}
use Rattle.trace_replay.specs.Machines.{IsMachineAt}
use Rattle.trace_replay.specs.Endings.{IsFrontOf}
use Rattle.trace_replay.specs.Sessions.{
  Point,
  IsAt,
  Halts,
  DoesLine,
  EndsLines,
  Finishes,
  Writes,
  WritesMore,
  journal_from,
}
use Rattle.trace_replay.proofs.LineFeeds.{lines_last, one_line}
use Rattle.trace_replay.proofs.Fronts.{front_take, front_behind, front_nothing, journal_front}
use Rattle.trace_replay.proofs.Journeys.{ok_and, err_and, unwritten_halts, starved_halts}

-- the journal when the trace has ended after a line that lacks its line feed
ends_after : (workers : ℕ) (point : Point)
    → cut 10 point.pending ≡ None
    → (point.pending ≡ [] → ⊥)
    →
    journal_from workers point []
    ≡ goes_on (after_line workers point.rows point.pending) point.rows point.number
    (λ more. record { rows = more; bad = None })
ends_after workers point o some =
    ap (λ (l : List ℕ). journal workers point.rows point.number (lines_of l))
    (append-nil point.pending)
    ∙ ap (journal workers point.rows point.number) (lines_last point.pending o)
    ∙ one point.pending some where
      one : (l : List ℕ)
          → (l ≡ [] → ⊥)
          → journal workers point.rows point.number (one_line l)
          ≡ goes_on (after_line workers point.rows l) point.rows point.number
          (λ more. record { rows = more; bad = None })
      one [] some = absurd (some refl)
      one (b ∷ bs) some = refl

abbrev ended : Point → Result (List Row) Reason → Journal
ended point r = goes_on r point.rows point.number (λ more. record { rows = more; bad = None })

last_at : (workers : ℕ) (point : Point) (session : Session) (old new : Option (List ℕ))
    (result : Option Stop)
    → cut 10 point.pending ≡ None
    → (point.pending ≡ [] → ⊥)
    →
    DoesLine workers point.rows point.number point.pending session old new result
    → EndsLines workers point session old new result
last_at workers point session old new None o some h =
    let p =
    ok_and (after_line workers point.rows point.pending)
    (λ (more : List Row).
    IsMachineAt workers more session.machine
    × (session.line ≡ point.number + 1)
    × WritesMore point.rows more old new None) h in
    (p.0, p.2.0, ends_after workers point o some ∙ ap (ended point) p.1, p.2.2)
last_at workers point session old new (Some (stop.Bad bad)) o some h =
    let p =
    err_and (after_line workers point.rows point.pending)
    (λ (why : Reason). bad ≡ record { line = point.number; why = why }) h.0 in
    let here : Halts
    (record { rows = point.rows; bad = Some (record { line = point.number; why = p.0 }) })
    (text point.rows) old new (stop.Bad bad) =
    (ap (λ (b : LineBad). Some b) (sym p.2), [], sym (append-nil (text point.rows)), h.1) in
    subst (λ (j : Journal). Halts j (text point.rows) old new (stop.Bad bad))
    (sym (ends_after workers point o some ∙ ap (ended point) p.1)) here
last_at workers point session old new (Some stop.Unwritten) o some h =
    let p =
    ok_and (after_line workers point.rows point.pending)
    (λ (more : List Row). WritesMore point.rows more old new (Some stop.Unwritten)) h in
    subst (λ (j : Journal). Halts j (text point.rows) old new stop.Unwritten)
    (sym (ends_after workers point o some ∙ ap (ended point) p.1))
    (unwritten_halts point.rows p.0 (record { rows = p.0; bad = None }) old new p.2
    ([], sym (append-nil (text p.0))))
last_at workers point session old new (Some stop.Starved) o some h =
    starved_halts point.rows (journal_from workers point []) old new h
    (journal_front workers point.rows point.number (lines_of (point.pending ++ [])))

-- the last line was done, without its line feed
pub last_done : (workers : ℕ) (point : Point) (line : List ℕ) (before session : Session)
    (old new : Option (List ℕ)) (result : Option Stop)
    → IsAt workers point before
    → (before.pending ≡ [] → ⊥)
    → line ≡ before.pending
    →
    DoesLine workers point.rows before.line line session old new result
    → EndsLines workers point session old new result
last_done workers point line before session old new result at some same h =
    last_at workers point session old new result at.«open» (λ e. some (at.pending ∙ e))
    (subst (λ (n : ℕ). DoesLine workers point.rows n point.pending session old new result)
    at.line
    (subst (λ (l : List ℕ). DoesLine workers point.rows before.line l session old new result)
    (same ∙ at.pending) h))

-- the journal has no bad line
abbrev whole : List Row → Journal
whole rows = record { rows = rows; bad = None }

finished_at : (rows more : List Row) (old mid new : Option (List ℕ)) (sent : List ℕ)
    (result : Option Stop)
    → text more ≡ text rows ++ sent
    → Appends old mid sent
    → Writes mid new (last_line more) result → Finishes (whole more) (text rows) old new result
finished_at rows more old mid new sent None e a h = (
  refl,
  sent ++ last_line more,
  ap (λ (l : List ℕ). l ++ last_line more) e
      ∙ append_assoc (text rows) sent (last_line more),
  Appends-trans old mid new sent
      (last_line more) a h,
)
finished_at rows more old mid new sent (Some (stop.Bad bad)) e a h = absurd h
finished_at rows more old mid new sent (Some stop.Unwritten) e a h =
    let part = take h.0 (last_line more) in (
      sent ++ part,
      subst (λ (l : List ℕ). IsFrontOf l (whole_text (whole more)))
          (ap (λ (l : List ℕ). l ++ part) e ∙ append_assoc (text rows) sent part)
          (front_behind (text more) part (last_line more) (front_take h.0 (last_line more))),
      Appends-trans old mid new sent part a h.1,
    )
finished_at rows more old mid new sent (Some stop.Starved) e a h = (
  sent ++ [],
  subst (λ (l : List ℕ). IsFrontOf l (whole_text (whole more)))
      (ap (λ (l : List ℕ). l ++ []) e ∙ append_assoc (text rows) sent [])
      (front_nothing (text more) (whole_text (whole more)) (last_line more, refl)),
  Appends-trans old mid new sent [] a h,
)

-- all lines were done, and the line that ends the output was written as far as it was
pub finished : (workers : ℕ) (point : Point) (session : Session) (old mid new : Option (List ℕ))
    (result : Option Stop)
    → EndsLines workers point session old mid None
    → ((rows : List Row)
    → IsMachineAt workers rows session.machine
    → Writes mid new (last_line rows) result)
    → Finishes (journal_from workers point []) (text point.rows) old new result
finished workers point session old mid new result h w =
    subst (λ (j : Journal). Finishes j (text point.rows) old new result) (sym h.2)
    (finished_at point.rows h.0 old mid new h.3.0 result h.3.1 h.3.2 (w h.0 h.1))

nothing_left : (workers : ℕ) (point : Point)
    → point.pending ≡ []
    → journal_from workers point [] ≡ record {
      rows = point.rows;
      bad = None;
    }
unfolding lines_of
nothing_left workers point e =
    ap (λ (l : List ℕ). journal workers point.rows point.number (lines_of (l ++ []))) e

-- no line has begun
pub none_begun : (workers : ℕ) (point : Point) (before : Session) (held : Option (List ℕ))
    → IsAt workers point before
    → before.pending ≡ []
    → EndsLines workers point before held held None
none_begun workers point before held at empty = (
  point.rows,
  at.machine,
  nothing_left workers point (sym at.pending ∙ empty),
  ([], sym (append-nil (text point.rows)), Appends-nil held),
)
