-- What a desk wants of a step, and of the journal with its row: a journal of the machine each of
-- whose rows was passed in as a desk wants it goes on as one of a desk.
use Rattle.std.proofs.Common.{◌≡◌, Bool, false, List, [], ◌∷◌, refl, sym, ap, subst, ◌∙◌}
use Rattle.journal_model.specs.declared.steps.Step.{Step}
use Rattle.journal_model.specs.declared.rows.Row.{Row}
use Rattle.journal_model.specs.Rows.{row}
use Rattle.journal_model.specs.Machine.{MayMake, IsJournal}
use Rattle.journal_model.specs.Machine as machine
use Rattle.journal_model.specs.DeskJournal.{IsHanded, MayFollow, IsDeskJournal, begun, made}
use Rattle.journal_model.proofs.EventRows.{AllRows}
use Rattle.journal_model.proofs.RowEquations.{row-step}
use Rattle.journal_model.proofs.desks.MachineJournals.{journal-IsDeskJournal}

-- each row of a journal of a desk was passed in as a desk wants it
handed_each : (rows : List Row)
    → IsDeskJournal rows
    → AllRows (λ before r. IsHanded before r.step) rows
handed_each [] begun = tt
handed_each (r ∷ before) (made {rows} s starved journal may) = (
  subst (IsHanded before) (sym (row-step before s starved)) may.handed,
  handed_each before
      journal,
)

-- the last row followed the others
followed : (whole : List Row)
    → IsDeskJournal whole
    → (rows : List Row) (s : Step) (starved : Bool)
    → whole ≡ row rows s starved ∷ rows
    → MayFollow rows s
followed [] begun rows s starved same =
    absurd (let no : ◌≡◌ {A = List Row} [] (row rows s starved ∷ rows) = same in cc)
followed (r ∷ before) (made {rows = own} t other journal may) rows s starved same =
    let both : ◌≡◌ {A = List Row} (row before t other ∷ before) (row rows s starved ∷ rows) =
    same in
    let last : row before t other ≡ row rows s starved = cc in
    let rest : before ≡ rows = cc in
    let one : t ≡ s =
    sym (row-step before t other) ∙ (ap (λ (x : Row). x.step) last ∙ row-step rows s starved) in
    subst (λ x. MayFollow rows x) one (subst (λ past. MayFollow past t) rest may)

-- the journal with the row of a step that the machine may make
pub row-IsDeskJournal : (rows : List Row) (s : Step) (starved : Bool)
    → IsJournal rows
    → IsDeskJournal rows
    → MayMake rows s
    → IsHanded rows s
    → IsDeskJournal (row rows s starved ∷ rows)
row-IsDeskJournal rows s starved journal desk may handed =
    journal-IsDeskJournal (row rows s starved ∷ rows) (machine.made starved journal may)
    (subst (IsHanded rows) (sym (row-step rows s starved)) handed, handed_each rows desk)

-- so a desk may make such a step
pub may_follow : (rows : List Row) (s : Step)
    → IsJournal rows
    → IsDeskJournal rows
    → MayMake rows s
    → IsHanded rows s
    → MayFollow rows s
may_follow rows s journal desk may handed =
    followed (row rows s false ∷ rows) (row-IsDeskJournal rows s false journal desk may handed) rows
    s false refl
