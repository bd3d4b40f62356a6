-- Seats: what holds of every seat, and how its looks stand to the rows of a journal.
use Rattle.std.proofs.Common.{
  ◌≡◌,
  ℕ,
  ◌≤◌,
  ◌==◌,
  Bool,
  cond,
  max,
  List,
  [],
  ◌∷◌,
  ◌++◌,
  filter,
  Option,
  refl,
  sym,
  ap,
  subst,
  ◌∙◌,
  append-nil,
  append_assoc,
  arith,
  inl,
  inr,
  length,
}
use Rattle.rd_base.proofs.lemmas.Numbers.{eqb-refl}
use Rattle.std.specs.List.{All, AllByRecursion}
use Rattle.std.proofs.lemmas.List.Elements.{All-nil, All-from_recursion, recursion_from_All}
use Rattle.rd_base.specs.declared.peers.Peer.{Peer}
use Rattle.rd_base.proofs.lemmas.Each.{each_weaker}
use Rattle.message_model.specs.Reading.{reading}
use Rattle.history_model.specs.declared.entries.Entry.{Entry}
use Rattle.history_model.proofs.TagLaws.{same_front}
use Rattle.history_model.specs.Live.{IsFront, last_moment}
use Rattle.event_model.specs.KeptAnswers.{Answer}
use Rattle.journal_model.specs.declared.steps.Step.{Step}
use Rattle.journal_model.specs.declared.steps.StepKind.TheVariants as step
use Rattle.journal_model.specs.declared.rows.Row.{Row}
use Rattle.journal_model.specs.Journal.{entries, entries_of}
use Rattle.journal_model.specs.Looks.{looked, held_after}
use Rattle.journal_model.specs.Rows.{effects, row_moment, row}
use Rattle.journal_model.specs.Machine.{Job, keep_job, job_after}
use Rattle.journal_model.specs.Seats.{
  Seat,
  new_seat,
  Agree,
  rows_of,
  GoesOn,
  MakesRow,
  look_moment,
  LooksFrom,
  IsSeat,
}

-- ---- fronts

-- a history is a front of itself
pub IsFront-refl : (history : List Entry) → IsFront history history
IsFront-refl history = ([], append-nil history)

-- a front of a front is a front
pub IsFront-trans : (front middle history : List Entry)
    → IsFront front middle
    → IsFront middle history
    → IsFront front history
IsFront-trans front middle history begins goes = (
  begins.0 ++ goes.0,
  sym (append_assoc front begins.0 goes.0)
      ∙ (ap (λ (h : List Entry). h ++ goes.0) begins.1 ∙ goes.1),
)

-- the entries of a journal are a front of those of one that goes on from it
pub entries-GoesOn : (earlier later : List Row)
    → GoesOn earlier later
    → IsFront (entries earlier) (entries later)
unfolding entries
entries-GoesOn earlier later goes =
    subst (λ (rows : List Row). IsFront (entries earlier) (entries rows)) (sym goes.whole)
    (by goes.further)
  where
    by : (further : List Row) → IsFront (entries earlier) (entries (further ++ earlier))
    by [] = IsFront-refl (entries earlier)
    by (r ∷ further) =
        IsFront-trans (entries earlier) (entries (further ++ earlier))
        (entries (further ++ earlier) ++ entries_of r) (by further) (entries_of r, refl)

-- histories of which one is a front of the other are the same where they are as long
-- An end theorem: nothing here cites it.
pub Agree-same : (history other : List Entry)
    → Agree history other
    → length history ≡ length other
    → history ≡ other
Agree-same history other (inl begins) e =
    same_front other history other begins (IsFront-refl other) e
Agree-same history other (inr begins) e =
    same_front history history other (IsFront-refl history) begins e

-- ---- the moment of a look

-- it is not below that of the front's last entry, so the tag says how long the front is
pub look_moment-front : (seat : Seat) (s : Step) (front : List Entry)
    → last_moment front ≤ look_moment seat s front
look_moment-front seat s front = omega arith

-- nor below the last row and look of the seat
pub look_moment-last : (seat : Seat) (s : Step) (front : List Entry)
    → seat.last ≤ look_moment seat s front
look_moment-last seat s front = omega arith

-- ---- what holds of every seat

-- one that made no step
pub new_seat-IsSeat : (worker : ℕ) → IsSeat (new_seat worker)
unfolding rows_of
new_seat-IsSeat worker = record {
  mine = refl;
  moments = All-nil (λ (r : Row). r.moment.0 ≤ 0);
  shown = All-nil (λ (front : List Entry). IsFront front []);
}

-- rows that are not later than a moment are not later than a greater one
not_later : (mine : List Row) (last later : ℕ)
    → last ≤ later
    → All (λ (r : Row). r.moment.0 ≤ last) mine
    → AllByRecursion (λ (r : Row). r.moment.0 ≤ later) mine
not_later mine last later order all =
    each_weaker (λ (r : Row). r.moment.0 ≤ last) (λ (r : Row). r.moment.0 ≤ later)
    (λ r h. omega (arith, order, h)) mine
    (recursion_from_All (λ (r : Row). r.moment.0 ≤ last) mine all)

-- a row of a worker is one of its own
own_row : (r : Row) (worker : ℕ) (rows : List Row)
    → r.step.worker ≡ worker
    → rows_of worker (r ∷ rows) ≡ r ∷ rows_of worker rows
unfolding rows_of
own_row r worker rows e =
    ap (λ b.
    cond b (r ∷ filter (λ (x : Row). x.step.worker == worker) rows)
    (filter (λ (x : Row). x.step.worker == worker) rows))
    (ap (λ w. w == worker) e ∙ eqb-refl worker)

-- it holds after a row of the seat
pub makes_row-IsSeat : (before after : Seat) (s : Step) (starved : Bool)
    (sent : List (Peer × List ℕ))
    → IsSeat before
    → MakesRow before s starved sent after
    → IsSeat after
unfolding row
makes_row-IsSeat before after s starved sent was makes = subst IsSeat (sym makes.seat) (record {
  mine =
      ap (λ mine. row makes.found s starved ∷ mine) (was.mine ∙ sym makes.by_others)
      ∙ sym (own_row (row makes.found s starved) before.worker makes.found makes.own.worker);
  moments =
      All-from_recursion
      (λ (r : Row). r.moment.0 ≤ max before.last (row makes.found s starved).moment.0)
      (row makes.found s starved ∷ before.mine) (
        omega arith,
        not_later before.mine before.last
            (max before.last (row makes.found s starved).moment.0) (omega arith) was.moments,
      );
  shown = All-nil (λ (front : List Entry). IsFront front before.front);
})

-- and after a look
pub looks_from-IsSeat : (before after : Seat) (s : Step) (starved : Bool)
    (sent : List (Peer × List ℕ)) (held : Option Answer)
    → IsSeat before
    → LooksFrom before s starved sent held after
    → IsSeat after
looks_from-IsSeat before after s starved sent held was looks =
    subst IsSeat (sym looks.seat) (record {
      mine = was.mine;
      moments =
          All-from_recursion (λ (r : Row). r.moment.0 ≤ look_moment before s looks.front)
          before.mine
          (not_later before.mine before.last (look_moment before s looks.front)
          (look_moment-last before s looks.front) was.moments);
      shown =
          All-from_recursion (λ (front : List Entry). IsFront front looks.front)
          (looks.front ∷ before.shown) (
            IsFront-refl looks.front,
            each_weaker (λ (front : List Entry). IsFront front before.front)
                (λ (front : List Entry). IsFront front looks.front)
                (λ front begins. IsFront-trans front before.front looks.front begins
                looks.holds_shown)
                before.shown
                (recursion_from_All (λ (front : List Entry). IsFront front before.front)
                before.shown
                was.shown),
          );
    })

-- ---- what a seat has seen only grows

-- after a row: the journal that it found, and the row
pub makes_row-seen : (before after : Seat) (s : Step) (starved : Bool) (sent : List (Peer × List ℕ))
    → MakesRow before s starved sent after
    → GoesOn before.seen after.seen
makes_row-seen before after s starved sent makes = record {
  further = row makes.found s starved ∷ makes.goes_on.further;
  whole =
      ap (λ (seat : Seat). seat.seen) makes.seat
      ∙ ap (λ rows. row makes.found s starved ∷ rows) makes.goes_on.whole;
}

-- after a look: nothing more
pub looks_from-seen : (before after : Seat) (s : Step) (starved : Bool)
    (sent : List (Peer × List ℕ)) (held : Option Answer)
    → LooksFrom before s starved sent held after
    → after.seen ≡ before.seen
looks_from-seen before after s starved sent held looks = ap (λ (seat : Seat). seat.seen) looks.seat

-- ---- the fronts of looks

-- the front of the last look stays at a row
pub makes_row-front : (before after : Seat) (s : Step) (starved : Bool)
    (sent : List (Peer × List ℕ))
    → MakesRow before s starved sent after
    → after.front ≡ before.front
makes_row-front before after s starved sent makes = ap (λ (seat : Seat). seat.front) makes.seat

-- and grows with each look, so each later look's front begins with it
pub looks_from-front : (before after : Seat) (s : Step) (starved : Bool)
    (sent : List (Peer × List ℕ)) (held : Option Answer)
    → LooksFrom before s starved sent held after
    → IsFront before.front after.front
looks_from-front before after s starved sent held looks =
    subst (λ (seat : Seat). IsFront before.front seat.front) (sym looks.seat) looks.holds_shown

-- ---- looks of a journal

-- a row of a look is that of a seat whose front is the whole history
pub row-looked : (rows : List Row) (s : Step) (starved : Bool)
    → s.kind ≡ step.Look
    → (row rows s starved).sent
    ≡ (looked starved (entries rows) (row_moment rows s) s (reading s.datagram)).sent
unfolding row effects
row-looked rows s starved look =
    ap (λ kind. (effects kind starved rows (row_moment rows s) s).sent) look

-- and leaves the job that a seat holds
pub row-held : (rows : List Row) (s : Step) (starved : Bool) (held : Option Job)
    → job_after step.Look (row rows s starved) rows held
    ≡ keep_job (held_after starved (entries rows) (row_moment rows s) (reading s.datagram))
    (row rows s starved)
unfolding row
row-held rows s starved held = refl
