-- A row that admits hears a write that meets no refusal, sends nothing, and notes nothing else.
use Rattle.std.proofs.Common.{
  ◌≡◌,
  ℕ,
  Bool,
  true,
  false,
  List,
  [],
  ◌∷◌,
  Option,
  Some,
  None,
  Ok,
  refl,
  sym,
  ap,
  subst,
  ◌∙◌,
}
use Rattle.std.specs.List.{list_any, IsAmong, AllByRecursion}
use Rattle.std.proofs.lemmas.Bool.{false≢true}
use Rattle.rd_base.specs.declared.peers.Peer.{Peer}
use Rattle.rd_base.proofs.lemmas.Among.{among_all, all_at_index, any_among}
use Rattle.message_model.specs.declared.messages.Role.TheVariants as role
use Rattle.message_model.specs.Message.{Message, role_of}
use Rattle.message_model.specs.OptionTable.{first_bad_option}
use Rattle.message_model.specs.Reading.{reading}
use Rattle.message_model.specs.Request.{path_in}
use Rattle.event_model.specs.declared.notes.Note.{Note}
use Rattle.event_model.specs.declared.notes.Note.TheVariants as note
use Rattle.event_model.specs.Events.{Event}
use Rattle.event_model.specs.Repeats.{
  is_admitting,
  repeated,
  settled,
  is_full_of_exchanges,
}
use Rattle.journal_model.specs.declared.steps.Step.{Step}
use Rattle.journal_model.specs.declared.steps.StepKind.TheVariants as step
use Rattle.journal_model.specs.declared.rows.Row.{Row}
use Rattle.journal_model.specs.Journal.{events}
use Rattle.journal_model.specs.Effects.{Effects, Reply, answering}
use Rattle.journal_model.specs.Requests.{is_write, method_of, refusal_of_request}
use Rattle.journal_model.specs.Writes.{
  again_answered,
  is_unproved,
  admitted_unless,
  write_unless,
  write_effects,
}
use Rattle.journal_model.specs.Rows.{
  request_answered,
  message_effects,
  heard,
  effects,
  row_moment,
  row,
  AreRows,
}
use Rattle.journal_model.specs.PlacedRows.{Within}
use Rattle.journal_model.proofs.notes.SilentSteps.{refusal_notes}
use Rattle.journal_model.proofs.entries.JournalLaws.{RowMade, each_made}
use Rattle.journal_model.proofs.desks.TouchedExchanges.{
  Touches,
  aside,
  admits,
  ends,
  row-Touches,
}
use Rattle.headline_law.specs.AnsweredAlike.{AdmitsWrite}
use Rattle.headline_law.proofs.answers.CommitAnswers.{
  aside_admits_none,
  end_admits_none,
  effects_write,
  row_writes,
}

-- ---- notes

-- one of the notes passes a test
pub any_at_index : (test : Note → Bool) (notes : List Note) (n : Note)
    → IsAmong notes n
    → test n ≡ true
    → list_any test notes ≡ true
any_at_index test notes n among good =
    all_at_index (λ x. test x ≡ true → list_any test notes ≡ true) notes n among
    (among_all (λ x. test x ≡ true → list_any test notes ≡ true) notes
    (λ x there passes. any_among test x notes there passes))
    good

-- ---- steps

-- a write that is admitted sends nothing
quiet_write : (rows : List Row) (moment : ℕ) (s : Step) (m : Message)
    → list_any is_admitting (write_effects (events rows) moment s m).notes ≡ true
    → (write_effects (events rows) moment s m).sent ≡ []
unfolding write_effects answering
quiet_write rows moment s m some = by (repeated moment s.peer m.mid (events rows)) some
  where
    again : (kept : Option (List ℕ))
        → list_any is_admitting (again_answered s kept).notes ≡ true
        → (again_answered s kept).sent ≡ []
    again None h = refl
    again (Some octets) h = absurd (false≢true h)

    new : (full unproved : Bool)
        → list_any is_admitting (admitted_unless full unproved (events rows) s m).notes ≡ true
        → (admitted_unless full unproved (events rows) s m).sent ≡ []
    new true unproved h = absurd (false≢true h)
    new false true h = absurd (false≢true h)
    new false false h = refl

    by : (first : Option Event)
        → list_any is_admitting (write_unless first (events rows) moment s m).notes ≡ true
        → (write_unless first (events rows) moment s m).sent ≡ []
    by (Some first) h = again (settled first.place (events rows)) h
    by None h =
        new (is_full_of_exchanges moment (events rows)) (is_unproved (events rows) moment s m) h

-- no note admits
none_admits : (notes : List Note) → notes ≡ [] → list_any is_admitting notes ≡ true → ⊥
none_admits notes none some = false≢true (sym (ap (list_any is_admitting) none) ∙ some)

-- a request that is admitted meets no refusal, and memory suffices
served_well : (starved : Bool) (rows : List Row) (moment : ℕ) (s : Step) (m : Message)
    → reading s.datagram ≡ Ok m
    → role_of m.kind m.code ≡ role.Request
    → list_any is_admitting (effects step.Admit starved rows moment s).notes ≡ true
    → (starved ≡ false) × (refusal_of_request m ≡ None)
unfolding effects answering
served_well starved rows moment s m read asks some =
    by starved
    (subst (λ r. list_any is_admitting (message_effects r starved rows moment s m).notes ≡ true)
    asks (subst (λ x. list_any is_admitting (heard starved rows moment s x).notes ≡ true) read
    some))
  where
    unrefused : (refusal : Option Reply)
        → list_any is_admitting (request_answered refusal rows moment s m).notes ≡ true
        → refusal ≡ None
    unrefused None h = refl
    unrefused (Some refusal) h =
        absurd (none_admits _ (refusal_notes m.kind (first_bad_option m.options) s m refusal) h)

    by : (b : Bool)
        → list_any is_admitting (message_effects role.Request b rows moment s m).notes ≡ true
        → (b ≡ false) × (refusal_of_request m ≡ None)
    by true h = absurd (false≢true h)
    by false h = (refl, unrefused (refusal_of_request m) h)

-- ---- rows

-- the row of a step
row_admits : (rows : List Row) (s : Step) (starved : Bool) (peer : Peer) (mid : ℕ)
    → IsAmong (row rows s starved).notes (note.Admitted peer mid)
    → AdmitsWrite (row rows s starved) peer mid
unfolding row
row_admits rows s starved peer mid there = by (row-Touches rows s starved)
  where
    some : list_any is_admitting (row rows s starved).notes ≡ true
    some =
        any_at_index is_admitting (row rows s starved).notes (note.Admitted peer mid) there refl

    by : Touches s.kind rows (row rows s starved).moment.0 s (row rows s starved).notes
        → AdmitsWrite (row rows s starved) peer mid
    by (aside all) = absurd (aside_admits_none (row rows s starved).notes all some)
    by (ends place here all) =
        absurd (end_admits_none place (row rows s starved).notes all some)
    by (admits m here read asks is none) = whole well
      where
        as_heard : effects s.kind starved rows (row_moment rows s) s
            ≡ effects step.Admit starved rows (row_moment rows s) s
        as_heard = ap (λ k. effects k starved rows (row_moment rows s) s) here

        well : (starved ≡ false) × (refusal_of_request m ≡ None)
        well =
            served_well starved rows (row_moment rows s) s m read asks
            (subst (λ (e : Effects). list_any is_admitting e.notes ≡ true) as_heard some)

        writes : is_write (path_in m) (method_of m.code) ≡ true
        writes = row_writes rows s starved m some read

        same : note.Admitted peer mid ≡ note.Admitted s.peer m.mid
        same =
            all_at_index (λ n. n ≡ note.Admitted s.peer m.mid) (row rows s starved).notes
            (note.Admitted peer mid) there
            (subst (AllByRecursion (λ n. n ≡ note.Admitted s.peer m.mid)) (sym is) (refl, tt))

        peers : (p q : Peer) (a b : ℕ)
            → ◌≡◌ {A = Note} (note.Admitted p a) (note.Admitted q b)
            → (p ≡ q) × (a ≡ b)
        peers p q a b e = (cc, cc)

        whole : (starved ≡ false) × (refusal_of_request m ≡ None)
            → AdmitsWrite (row rows s starved) peer mid
        whole both =
            let written : effects s.kind starved rows (row_moment rows s) s
            ≡ write_effects (events rows) (row_moment rows s) s m =
            as_heard
            ∙ (ap (λ b. effects step.Admit b rows (row_moment rows s) s) both.0
            ∙ effects_write rows (row_moment rows s) s m read asks both.1 writes) in
            let named : (peer ≡ s.peer) × (mid ≡ m.mid) = peers peer s.peer mid m.mid same in
            record {
              request = m;
              hears = record {
                heard = here;
                read = read;
                asks = asks;
                unrefused = both.1;
                writes = writes;
                ample = both.0;
              };
              from = named.0;
              mid_is = named.1;
              silent =
                  ap (λ (e : Effects). e.sent) written
                  ∙ quiet_write rows (row_moment rows s) s m
                  (subst (λ (e : Effects). list_any is_admitting e.notes ≡ true) written some);
              alone = is ∙ ap (λ (n : Note). n ∷ []) (sym same);
            }

-- and each row of rows of steps
pub rows-AdmitsWrite : (rows before : List Row) (r : Row) (peer : Peer) (mid : ℕ)
    → AreRows rows
    → Within rows before r
    → IsAmong r.notes (note.Admitted peer mid)
    → AdmitsWrite r peer mid
rows-AdmitsWrite rows before r peer mid all within there =
    let made : RowMade before r = each_made rows before r all within in
    subst (λ (x : Row). AdmitsWrite x peer mid) (sym made.is)
    (row_admits before made.step made.starved peer mid
    (subst (λ (x : Row). IsAmong x.notes (note.Admitted peer mid)) made.is there))
