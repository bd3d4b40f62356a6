-- How pieces of a trace lead on.
use Rattle.std.proofs.Common.{
  ◌≡◌,
  ℕ,
  ◌+◌,
  ◌<◌,
  List,
  [],
  ◌∷◌,
  ◌++◌,
  length,
  take,
  Option,
  Some,
  None,
  Result,
  Ok,
  Err,
  refl,
  sym,
  ap,
  ◌∙◌,
  subst,
  append_assoc,
  append-nil,
  length-append,
  arith,
}
use Rattle.std.proofs.lemmas.Bool.{lt-ltb}
use Rattle.std.specs.Prelude.{IsOkAnd, IsErrAnd, if◌then◌else◌, ok_or}
use Rattle.std.specs.Io.KnownBytes.{Appends}
use Rattle.std.proofs.KnownBytes.{Appends-trans, Appends-nil}
use Rattle.trace_replay.specs.declared.sessions.Session.{Session}
use Rattle.line_model.specs.declared.lines.Reason.{Reason}
use Rattle.line_model.specs.declared.lines.Reason.TheVariants as reason
use Rattle.line_model.specs.declared.lines.LineBad.{LineBad}
use Rattle.trace_replay.specs.declared.endings.Stop.{Stop}
use Rattle.trace_replay.specs.declared.endings.Stop.TheVariants as stop
use Rattle.line_model.specs.declared.lines.Line.{Line}
use Rattle.trace_replay.specs.Fields.{cut}
use Rattle.line_model.specs.Lines.{line_of, max_line, said_by, fields}
use Rattle.line_model.specs.Texts.{lines_of}
use Rattle.journal_model.specs.declared.rows.Row.{Row}
use Rattle.trace_model.specs.Output.{text}
use Rattle.trace_model.specs.Steps.{step_of_line}
use Rattle.trace_replay.specs.Journal.{
  Journal,
  journal,
  goes_on,
  rows_after,
  after_line,
  whole_text,
}
use Rattle.trace_replay.specs.Machines.{IsMachineAt}
use Rattle.trace_replay.specs.Endings.{IsFrontOf}
use Rattle.trace_replay.specs.Sessions.{
  Point,
  IsAt,
  Leads,
  Halts,
  Goes,
  Feeds,
  DoesLine,
  WritesMore,
  CountsUnwritten,
  journal_from,
}
use Rattle.trace_replay.proofs.LineFeeds.{cut-append, lines_first, lines_begin}
use Rattle.trace_replay.proofs.Fronts.{
  front_take,
  front_behind,
  front_nothing,
  front_trans,
  journal_front,
  whole_front,
}

-- what stops after a point, seen from the point before it
pub halts_before : (j : Journal) (before after written : List ℕ) (old mid new : Option (List ℕ))
    (halt : Stop)
    → after ≡ before ++ written
    → Appends old mid written
    → Halts j after mid new halt → Halts j before old new halt
halts_before j before after written old mid new (stop.Bad bad) e a h = (
  h.0,
  written ++ h.1,
  h.2
      ∙ ap (λ (l : List ℕ). l ++ h.1) e
      ∙ append_assoc before written h.1,
  Appends-trans old mid new written h.1 a h.3,
)
halts_before j before after written old mid new stop.Unwritten e a h = (
  written
      ++ h.0,
  subst (λ (l : List ℕ). IsFrontOf l (whole_text j))
      (ap (λ (l : List ℕ). l ++ h.0) e ∙ append_assoc before written h.0) h.1,
  Appends-trans
      old mid new written h.0 a h.2,
)
halts_before j before after written old mid new stop.Starved e a h = (
  written
      ++ h.0,
  subst (λ (l : List ℕ). IsFrontOf l (whole_text j))
      (ap (λ (l : List ℕ). l ++ h.0) e ∙ append_assoc before written h.0) h.1,
  Appends-trans
      old mid new written h.0 a h.2,
)

-- octets, and then more of them
joined : (workers : ℕ) (point next : Point) (fed more written rest : List ℕ)
    → Leads workers point fed next written
    → journal_from workers point ((fed ++ more) ++ rest)
    ≡ journal_from workers next (more ++ rest)
joined workers point next fed more written rest leads =
    ap (journal_from workers point) (append_assoc fed more rest) ∙ leads.same (more ++ rest)

-- what was fed after a point was fed from the point before it
pub feeds_after : (workers : ℕ) (point next : Point) (fed more written : List ℕ)
    (session : Session)
    (old mid new : Option (List ℕ)) (result : Option Stop)
    →
    Leads workers point fed next written
    → Appends old mid written
    → Feeds workers next more session mid new result
    → Feeds workers point (fed ++ more) session old new result
feeds_after workers point next fed more written session old mid new None leads a h = record {
  next = h.next;
  at = h.at;
  written = written ++ h.written;
  leads = record {
    texts =
        h.leads.texts
        ∙ ap (λ (l : List ℕ). l ++ h.written) leads.texts
        ∙ append_assoc (text point.rows) written h.written;
    same = λ rest. joined workers point next fed more written rest leads ∙ h.leads.same rest;
  };
  appends = Appends-trans old mid new written h.written a h.appends;
}
feeds_after workers point next fed more written session old mid new (Some halt) leads a h = λ rest.
    subst (λ (j : Journal). Halts j (text point.rows) old new halt)
    (sym (joined workers point next fed more written rest leads))
    (halts_before (journal_from workers next (more ++ rest)) (text point.rows) (text next.rows)
    written old mid new halt leads.texts a (h rest))

-- the journal after a line feed
line_ends : (workers : ℕ) (point : Point) (line rest : List ℕ)
    → cut 10 point.pending ≡ None
    → cut 10 line ≡ None
    →
    journal_from workers point ((line ++ 10 ∷ []) ++ rest)
    ≡ goes_on (after_line workers point.rows (point.pending ++ line)) point.rows point.number
    (λ more. journal workers more (point.number + 1) (lines_of rest))
line_ends workers point line rest o e =
    ap (λ (l : List ℕ). journal workers point.rows point.number (lines_of (point.pending ++ l)))
    (append_assoc line (10 ∷ []) rest)
    ∙ ap (λ (l : List ℕ). journal workers point.rows point.number (lines_of l))
    (sym (append_assoc point.pending line (10 ∷ rest)))
    ∙ ap (journal workers point.rows point.number)
    (lines_first (point.pending ++ line) rest (cut-append 10 point.pending line o e))

pub ok_and : (r : Result (List Row) Reason) (P : List Row → Type 0)
    → IsOkAnd r P
    → (more : List Row) × (r ≡ Ok more) × P more
ok_and (Ok more) P h = (more, refl, h)
ok_and (Err why) P h = absurd h

pub err_and : (r : Result (List Row) Reason) (P : Reason → Type 0)
    → IsErrAnd r P
    → (why : Reason) × (r ≡ Err why) × P why
err_and (Ok more) P h = absurd h
err_and (Err why) P h = (why, refl, h)

-- a text that was written as far as the output took it, before more of a journal
pub unwritten_halts : (rows more : List Row) (j : Journal) (old new : Option (List ℕ))
    → WritesMore rows more old new (Some stop.Unwritten)
    → IsFrontOf (text more) (text j.rows)
    → Halts j (text rows) old new stop.Unwritten
unwritten_halts rows more j old new h p =
    let sent = h.0 in let n = h.2.0 in (
      take n sent,
      whole_front _ j (front_trans _ _ _
          (subst (λ (l : List ℕ). IsFrontOf (text rows ++ take n sent) l) (sym h.1)
          (front_behind (text rows) (take n sent) sent (front_take n sent))) p),
      h.2.1,
    )

-- nothing was written because memory ran out
pub starved_halts : (rows : List Row) (j : Journal) (old new : Option (List ℕ))
    → Appends old new []
    → IsFrontOf (text rows) (text j.rows)
    → Halts j (text rows) old new stop.Starved
starved_halts rows j old new a p = ([], front_nothing _ _ (whole_front _ j p), a)

-- a line and its line feed were fed
pub line_fed : (workers : ℕ) (point : Point) (line : List ℕ) (session : Session)
    (old new : Option (List ℕ)) (result : Option Stop)
    → cut 10 point.pending ≡ None
    → cut 10 line ≡ None
    →
    session.pending ≡ []
    → DoesLine workers point.rows point.number (point.pending ++ line) session old new result
    → Feeds workers point (line ++ 10 ∷ []) session old new result
line_fed workers point line session old new None o e empty h =
    let p = ok_and _ _ h in
    record {
      next = record { rows = p.0; number = point.number + 1; pending = [] };
      at = record { machine = p.2.0; line = p.2.1; pending = empty; «open» = refl };
      written = p.2.2.0;
      leads = record {
        texts = p.2.2.1;
        same =
            λ rest.
            line_ends workers point line rest o e
            ∙ ap (λ (r : Result (List Row) Reason).
            goes_on r point.rows point.number
            (λ more. journal workers more (point.number + 1) (lines_of rest))) p.1;
      };
      appends = p.2.2.2;
    }
line_fed workers point line session old new (Some (stop.Bad bad)) o e empty h = λ rest.
    let p = err_and _ _ h.0 in
    let eq =
    line_ends workers point line rest o e
    ∙ ap (λ (r : Result (List Row) Reason).
    goes_on r point.rows point.number
    (λ more. journal workers more (point.number + 1) (lines_of rest))) p.1 in
    let here : Halts
    (record { rows = point.rows; bad = Some (record { line = point.number; why = p.0 }) })
    (text point.rows) old new (stop.Bad bad) =
    (ap (λ (b : LineBad). Some b) (sym p.2), [], sym (append-nil (text point.rows)), h.1) in
    subst (λ (j : Journal). Halts j (text point.rows) old new (stop.Bad bad)) (sym eq) here
line_fed workers point line session old new (Some stop.Unwritten) o e empty h = λ rest.
    let p = ok_and _ _ h in
    let eq =
    line_ends workers point line rest o e
    ∙ ap (λ (r : Result (List Row) Reason).
    goes_on r point.rows point.number
    (λ more. journal workers more (point.number + 1) (lines_of rest))) p.1 in
    subst (λ (j : Journal). Halts j (text point.rows) old new stop.Unwritten) (sym eq)
    (unwritten_halts point.rows p.0 (journal workers p.0 (point.number + 1) (lines_of rest)) old
    new p.2 (journal_front workers p.0 (point.number + 1) (lines_of rest)))
line_fed workers point line session old new (Some stop.Starved) o e empty h = λ rest.
    starved_halts point.rows (journal_from workers point ((line ++ 10 ∷ []) ++ rest)) old new h
    (journal_front workers point.rows point.number
    (lines_of (point.pending ++ ((line ++ 10 ∷ []) ++ rest))))

-- what was kept of a line that has begun
pub kept : (workers : ℕ) (point : Point) (rest : List ℕ) (old : Session) (session : Session)
    (held : Option (List ℕ))
    → IsAt workers point old
    → cut 10 rest ≡ None
    → session.machine ≡ old.machine
    → session.line ≡ old.line
    → session.pending ≡ old.pending ++ rest → Feeds workers point rest session held held None
kept workers point rest old session held at e desk line pending = record {
  next = record { rows = point.rows; number = point.number; pending = point.pending ++ rest };
  at = record {
    machine = subst (IsMachineAt workers point.rows) (sym desk) at.machine;
    line = line ∙ at.line;
    pending = pending ∙ ap (λ (l : List ℕ). l ++ rest) at.pending;
    «open» = cut-append 10 point.pending rest at.«open» e;
  };
  written = [];
  leads = record {
    texts = sym (append-nil (text point.rows));
    same =
        λ more.
        ap (λ (l : List ℕ). journal workers point.rows point.number (lines_of l))
        (sym (append_assoc point.pending rest more));
  };
  appends = Appends-nil held;
}

-- a line that is longer than any is too long
long_is_long : (bytes : List ℕ) → max_line < length bytes → line_of bytes ≡ Err reason.Long
unfolding line_of
long_is_long bytes h =
    ap (λ t. if t then Err reason.Long else ok_or (said_by (fields bytes)) reason.Form)
    (lt-ltb max_line (length bytes) h)

-- a line that has begun and is too long is bad, whatever comes
pub too_long : (workers : ℕ) (point : Point) (rest : List ℕ) (held : Option (List ℕ))
    (session : Session)
    → cut 10 point.pending ≡ None
    → cut 10 rest ≡ None
    → max_line < length point.pending + length rest
    → Feeds workers point rest session held held
    (Some (stop.Bad (record { line = point.number; why = reason.Long })))
too_long workers point rest held session o e h = begun (point.pending ++ rest) refl where
  begun : (front : List ℕ)
      → point.pending ++ rest ≡ front
      → (more : List ℕ)
      → Halts (journal_from workers point (rest ++ more)) (text point.rows) held held
      (stop.Bad (record { line = point.number; why = reason.Long }))
  begun [] same more = absurd (omega (arith, length-append point.pending rest, ap length same))
  begun (b ∷ bs) same more =
      let whole : cut 10 (b ∷ bs) ≡ None =
      subst (λ (l : List ℕ). cut 10 l ≡ None) same (cut-append 10 point.pending rest o e) in
      let l = lines_begin b bs more whole in
      let bad : line_of ((b ∷ bs) ++ l.more) ≡ Err reason.Long =
      long_is_long _
      (omega (
        arith,
        length-append point.pending rest,
        ap length same,
        length-append (b ∷
            bs) l.more,
      )) in
      let eq :
      journal_from workers point (rest ++ more)
      ≡ record {
        rows = point.rows;
        bad = Some (record {
          line = point.number;
          why = reason.Long;
        });
      } =
      ap (λ (x : List ℕ). journal workers point.rows point.number (lines_of x))
      (sym (append_assoc point.pending rest more) ∙ ap (λ (x : List ℕ). x ++ more) same)
      ∙ ap (journal workers point.rows point.number) l.are
      ∙ ap (λ (o : Result Line Reason).
      goes_on (rows_after point.rows (step_of_line workers point.rows o)) point.rows
      point.number (λ rows. journal workers rows (point.number + 1) l.others)) bad in
      subst (λ (j : Journal).
      Halts j (text point.rows) held held
      (stop.Bad (record { line = point.number; why = reason.Long }))) (sym eq)
      (refl, [], sym (append-nil (text point.rows)), Appends-nil held)

-- memory runs out while a line is kept
pub unkept : (workers : ℕ) (point : Point) (rest : List ℕ) (held : Option (List ℕ))
    (session : Session)
    → Feeds workers point rest session held held (Some stop.Starved)
unkept workers point rest held session =
    λ more.
    starved_halts point.rows (journal_from workers point (rest ++ more)) held held
    (Appends-nil held) (journal_front workers point.rows point.number
    (lines_of (point.pending ++ (rest ++ more))))

-- a line and its line feed were fed to a session
pub line_fed_at : (workers : ℕ) (point : Point) (line whole : List ℕ) (before session : Session)
    (old new : Option (List ℕ)) (result : Option Stop)
    → IsAt workers point before
    → cut 10 line ≡ None
    →
    session.pending ≡ []
    → whole ≡ before.pending ++ line
    → DoesLine workers point.rows before.line whole session old new result
    → Feeds workers point (line ++ 10 ∷ []) session old new result
line_fed_at workers point line whole before session old new result at e empty same h =
    let text_is : whole ≡ point.pending ++ line =
    same ∙ ap (λ (l : List ℕ). l ++ line) at.pending in
    line_fed workers point line session old new result at.«open» e empty
    (subst (λ (n : ℕ).
    DoesLine workers point.rows n (point.pending ++ line) session old new result)
    at.line
    (subst (λ (l : List ℕ). DoesLine workers point.rows before.line l session old new result)
    text_is h))

-- a line that a session began is too long
pub too_long_at : (workers : ℕ) (point : Point) (rest : List ℕ) (held : Option (List ℕ))
    (before session : Session)
    → IsAt workers point before
    → cut 10 rest ≡ None
    → max_line < length before.pending + length rest
    → Feeds workers point rest session held held
    (Some (stop.Bad (record { line = before.line; why = reason.Long })))
too_long_at workers point rest held before session at e long =
    subst (λ (n : ℕ).
    Feeds workers point rest session held held
    (Some (stop.Bad (record { line = n; why = reason.Long })))) (sym at.line)
    (too_long workers point rest held session at.«open» e (omega (arith, ap length at.pending)))

-- what was fed after what had been fed
pub feeds_more : (workers : ℕ) (point : Point) (fed more whole : List ℕ)
    (before session : Session)
    (old mid new : Option (List ℕ)) (result : Option Stop)
    → (go : Goes workers point fed before old mid)
    → Feeds workers go.next more session mid new result
    → whole ≡ fed ++ more
    → Feeds workers point whole session old new result
feeds_more workers point fed more whole before session old mid new result go h same =
    subst (λ (l : List ℕ). Feeds workers point l session old new result) (sym same)
    (feeds_after workers point go.next fed more go.written session old mid new result go.leads
    go.appends h)

-- a stop stays a stop, whatever more was to be fed
pub stops_anyway : (workers : ℕ) (point : Point) (fed more whole : List ℕ) (session : Session)
    (old new : Option (List ℕ)) (halt : Stop)
    → Feeds workers point fed session old new (Some halt)
    → whole ≡ fed ++ more → Feeds workers point whole session old new (Some halt)
stops_anyway workers point fed more whole session old new halt h same = λ rest.
    subst (λ (l : List ℕ). Halts (journal_from workers point l) (text point.rows) old new halt)
    (sym (ap (λ (l : List ℕ). l ++ rest) same ∙ append_assoc fed more rest)) (h (more ++ rest))

-- a piece of which a line and its line feed were fed
pub piece_is : (piece fed rest line more : List ℕ)
    → piece ≡ fed ++ rest
    → rest ≡ line ++ 10 ∷ more
    → piece ≡ (fed ++ (line ++ 10 ∷ [])) ++ more
piece_is piece fed rest line more e f =
    e
    ∙ ap (λ (l : List ℕ). fed ++ l) (f ∙ sym (append_assoc line (10 ∷ []) more))
    ∙ sym (append_assoc fed (line ++ 10 ∷ []) more)

-- the count stood, and then stands
pub counts_still : (before now : ℕ) (result : Option Stop)
    → now ≡ before
    → ((n : ℕ) → CountsUnwritten n n result)
    → CountsUnwritten before now result
counts_still before now result e h = subst (λ (n : ℕ). CountsUnwritten n now result) e (h now)

-- nothing was fed yet
pub begins : (workers : ℕ) (point : Point) (session : Session) (held : Option (List ℕ))
    → IsAt workers point session
    → Goes workers point [] session held held
begins workers point session held at = record {
  next = point;
  at = at;
  written = [];
  leads = record { texts = sym (append-nil (text point.rows)); same = λ rest. refl };
  appends = Appends-nil held;
}
