-- A beginning: what is ready of it, and the row that it makes.
use Rattle.std.proofs.Common.{
  ◌≡◌,
  ℕ,
  Bool,
  true,
  false,
  List,
  [],
  ◌∷◌,
  Option,
  None,
  refl,
  sym,
  ap,
  subst,
  ◌∙◌,
}
use Rattle.rd_base.specs.declared.moments.Moment.{Moment}
use Rattle.history_model.specs.declared.entries.Entry.{Entry}
use Rattle.history_model.specs.declared.refusals.Refusal.{Refusal}
use Rattle.history_model.specs.Versions.{Version, VersionStandsFor}
use Rattle.event_model.specs.declared.notes.Note.TheVariants as note
use Rattle.journal_model.specs.declared.steps.Step.{Step}
use Rattle.journal_model.specs.declared.steps.StepKind.{StepKind}
use Rattle.journal_model.specs.declared.steps.StepKind.TheVariants as step
use Rattle.journal_model.specs.declared.rows.Row.{Row}
use Rattle.journal_model.specs.Beginnings.{entered_alone, begin_entry, beginning}
use Rattle.journal_model.specs.Effects.{Effects, nothing, joined, noting}
use Rattle.journal_model.specs.Journal.{entries}
use Rattle.journal_model.specs.Rows.{row_moment, effects, row}
use Rattle.coap_answers.specs.declared.mids.Mids.{Mids}
use Rattle.rd_desk.specs.declared.write.outcomes.Entering.{Entering}
use Rattle.rd_desk.specs.calls.Desks.{Seen}
use Rattle.rd_desk.specs.calls.Steps.{IsCalled, Made}
use Rattle.rd_desk.specs.parts.Beginnings.{IsBegun}
use Rattle.rd_desk.specs.parts.Outcomes.{IsEntering}
use Rattle.rd_desk.specs.parts.UnderWay.{UnderWay}
use Rattle.rd_desk.proofs.parts.MakingLaws.{entries-making_nothing}
use Rattle.rd_desk.proofs.parts.WayLaws.{way_moment, only, ended}

-- what a beginning does is what its step does
begin_effects : (rows : List Row) (s : Step) (starved : Bool) (moment first : ℕ)
    → s.kind ≡ step.Begin first
    → beginning starved (entries rows) moment s first ≡ effects s.kind starved rows moment s
unfolding effects
begin_effects rows s starved moment first kind =
    sym (ap (λ (k : StepKind). effects k starved rows moment s) kind)

-- what was done of a step is its row, where a beginning does the same
begin_ended : (rows : List Row) (s : Step) (starved : Bool) (first : ℕ) (done : Effects)
    (now : Moment) (d e : Seen) (mids : Mids)
    → s.kind ≡ step.Begin first
    → IsCalled rows s now mids d
    → done ≡ beginning starved (entries rows) (row_moment rows s) s first
    → UnderWay rows s starved done e [] mids
    → Made rows (row rows s starved) e [] mids mids
begin_ended rows s starved first done now d e mids kind call is way =
    ended rows s starved done e [] mids mids way
    (is ∙ begin_effects rows s starved (row_moment rows s) first kind) call.worker call.drawn

-- out of memory nothing is done
pub starved_made : (rows : List Row) (s : Step) (first : ℕ) (now : Moment) (d e : Seen)
    (mids : Mids)
    → s.kind ≡ step.Begin first
    → IsCalled rows s now mids d
    → UnderWay rows s true nothing e [] mids
    → Made rows (row rows s true) e [] mids mids
starved_made rows s first now d e mids kind call way =
    begin_ended rows s true first nothing now d e mids kind call refl way

-- what is ready of the version of a desk, at its moment, is what comes after the journal, at the
-- moment of the row
pub ready_here : (rows : List Row) (s : Step) (starved : Bool) (first : ℕ) (d : Seen) (v : Version)
    (moment : ℕ) (mids : Mids) (ready : Option Entering)
    → v ≡ d.version
    → moment ≡ d.moment
    → ((history : List Entry)
    → VersionStandsFor 0 history v
    → IsBegun history v.swept (begin_entry moment s first) ready)
    → UnderWay rows s starved nothing d [] mids
    → IsBegun (entries rows) d.version.swept (begin_entry (row_moment rows s) s first) ready
ready_here rows s starved first d v moment mids ready same at goes way =
    let history : VersionStandsFor 0 (entries rows) d.version =
    subst (λ (es : List Entry). VersionStandsFor 0 es d.version)
    (entries-making_nothing rows s starved) way.stands.directory.history in
    subst
    (λ (w : Version). IsBegun (entries rows) w.swept (begin_entry (row_moment rows s) s first)
    ready) same
    (subst (λ (n : ℕ). IsBegun (entries rows) v.swept (begin_entry n s first) ready)
    (at ∙ way_moment rows s starved nothing d [] mids way)
    (goes (entries rows) (subst (VersionStandsFor 0 (entries rows)) (sym same) history)))

-- where it is refused nothing is done
pub refused_made : (rows : List Row) (s : Step) (first swept : ℕ) (now : Moment) (d e : Seen)
    (mids : Mids) (ready : Option Entering)
    → s.kind ≡ step.Begin first
    → IsCalled rows s now mids d
    → ready ≡ None
    → IsBegun (entries rows) swept (begin_entry (row_moment rows s) s first) ready
    → UnderWay rows s false nothing e [] mids
    → Made rows (row rows s false) e [] mids mids
refused_made rows s first swept now d e mids ready kind call none is way =
    let entry = begin_entry (row_moment rows s) s first in
    let refused : IsBegun (entries rows) swept entry None =
    subst (λ (r : Option Entering). IsBegun (entries rows) swept entry r) none is in
    begin_ended rows s false first nothing now d e mids kind call
    (sym (ap (λ (why : Option Refusal). entered_alone why entry) refused.1)) way

-- what is ready is made
pub begun_made : (rows : List Row) (s : Step) (first swept : ℕ) (now : Moment) (d e : Seen)
    (mids : Mids) (entering : Entering)
    → s.kind ≡ step.Begin first
    → IsCalled rows s now mids d
    → IsEntering (entries rows) swept (begin_entry (row_moment rows s) s first) entering
    → UnderWay rows s false
    (joined nothing (noting (note.Entered (begin_entry (row_moment rows s) s first) ∷ []))) e []
    mids
    → Made rows (row rows s false) e [] mids mids
begun_made rows s first swept now d e mids entering kind call has way =
    let entry = begin_entry (row_moment rows s) s first in
    begin_ended rows s false first (noting (note.Entered entry ∷ [])) now d e mids kind call
    (sym (ap (λ (why : Option Refusal). entered_alone why entry) has.accepted))
    (only rows s false (noting (note.Entered entry ∷ [])) e [] mids way)
