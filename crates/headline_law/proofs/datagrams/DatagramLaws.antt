-- Each datagram that a row sends can be read and fits, to who asked or observes; and what is noted
-- as built is sent (the sentence SendsToWhoAsked).
use Rattle.std.proofs.Common.{
  ◌≡◌,
  ℕ,
  ◌||◌,
  true,
  List,
  ◌∷◌,
  length,
  Option,
  Some,
  None,
  Ok,
  option_map,
  refl,
  sym,
  ap,
  subst,
  ◌∙◌,
}
use Rattle.std.proofs.lemmas.Bool.{and_from}
use Rattle.message_model.specs.declared.messages.Role.TheVariants as role
use Rattle.message_model.specs.Message.{Message, role_of}
use Rattle.message_model.specs.Reading.{reading}
use Rattle.event_model.specs.declared.notes.Observer.{Observer}
use Rattle.journal_model.specs.declared.steps.Step.{Step}
use Rattle.journal_model.specs.declared.steps.StepKind.{StepKind}
use Rattle.journal_model.specs.declared.steps.StepKind.TheVariants as step
use Rattle.journal_model.specs.declared.rows.Row.{Row}
use Rattle.journal_model.specs.Journal.{entries}
use Rattle.journal_model.specs.Machine.{IsJournal}
use Rattle.journal_model.specs.DeskJournal.{IsDeskJournal}
use Rattle.journal_model.specs.BodyFormers.{is_formed_in_rows}
use Rattle.journal_model.specs.SentDatagrams.{is_response, IsAnswer, IsNotification, IsAddressed}
use Rattle.journal_model.specs.SentDatagrams.{SendsToWhoAsked, IsForRequest, AreForRequests}
use Rattle.journal_model.specs.AdmittedWrites.{AdmittedAt}
use Rattle.journal_model.specs.AskedListings.{
  observer_named,
  Asked,
  asked_by_observer,
  asked_at,
  answers_with_links,
}
use Rattle.journal_model.specs.CarriedBlocks.{is_content, is_tagged, FormedAs, Sent, shows_links}
use Rattle.journal_model.proofs.RowEquations.{row-step}
use Rattle.journal_model.proofs.entries.JournalLaws.{Made, each_row, journal-AreRows}
use Rattle.journal_model.proofs.entries.CommitPlaces.{journal-place}
use Rattle.headline_law.proofs.rows.KeepRows.{KeepOf, keep_of}
use Rattle.headline_law.proofs.sends.ValidLaw.{LooksAt, a_look_reads, looked_a_look}
use Rattle.headline_law.proofs.rows.AnswersAsFormed.{answer_formed, desk_answer_formed}
use Rattle.journal_model.proofs.sends.BodyAnswers.{tag-length, same_message}
use Rattle.journal_model.proofs.observers.ObserversKnow.{IsNoTick}
use Rattle.journal_model.proofs.datagrams.SentRows.{AllSent, rows_sent, IsSentBy}
use Rattle.journal_model.proofs.datagrams.DatagramRows.{
  sent-fitting,
  sent-formed,
  sent-answer,
  sent_by,
}
use Rattle.journal_model.proofs.datagrams.DatagramRows.{sent-content, desk_sent}

-- what a look held has a tag of eight octets
tag_short : (rows : List Row) (worker : ℕ) (m : Message) (body current : List ℕ)
    → KeepOf rows worker m body current
    → length current ≡ 8
tag_short rows worker m body current kept =
    ap length kept.is_kept.tag_is
    ∙ tag-length (entries (kept.look.row ∷ kept.look.before)) kept.look.row.moment.0

-- each look, commit and keep is made for a request, and each keep has a tag of eight octets
pub journal_requests : (rows : List Row) → IsJournal rows → AreForRequests rows
journal_requests rows journal before r m within read = by r.step.kind refl
  where
    it : Made before r
    it = each_row rows before r journal within

    same : r.step ≡ it.step
    same = ap (λ (x : Row). x.step) it.is ∙ row-step before it.step it.starved

    reads : reading it.step.datagram ≡ Ok m
    reads = ap (λ (s : Step). reading s.datagram) (sym same) ∙ read

    kind : (k : StepKind) → r.step.kind ≡ k → it.step.kind ≡ k
    kind k is = ap (λ (s : Step). s.kind) (sym same) ∙ is

    looked : LooksAt (reading it.step.datagram) → role_of m.kind m.code ≡ role.Request
    looked look =
        subst (λ (x : Message). role_of x.kind x.code ≡ role.Request)
        (same_message look.message m it.step.datagram look.read_is reads) look.asks

    committed : (place : ℕ) → AdmittedAt before place r.step → role_of m.kind m.code ≡ role.Request
    committed place at =
        subst (λ (x : Message). role_of x.kind x.code ≡ role.Request)
        (same_message at.message m at.row.step.datagram at.read (ap reading at.datagram ∙ read))
        at.asks

    kept : (body current : List ℕ)
        → KeepOf before it.step.worker m body current
        → (role_of m.kind m.code ≡ role.Request) × (length current ≡ 8)
    kept body current keeps = (keeps.asks, tag_short before it.step.worker m body current keeps)

    by : (k : StepKind) → r.step.kind ≡ k → IsForRequest k m
    by step.Admit is = tt
    by step.Look is =
        looked (a_look_reads (reading it.step.datagram)
        (looked_a_look before it.step it.may (kind step.Look is)))
    by (step.Commit place) is =
        committed place (journal-place rows before r place journal within is)
    by (step.Keep body current) is =
        kept body current (keep_of before it.step m body current it.journal it.may.begin
        (kind (step.Keep body current) is) reads)
    by step.Tick is = tt
    by (step.Begin first) is = tt

pub journal_sent : (rows : List Row) → IsJournal rows → AllSent rows
journal_sent rows journal =
    rows_sent rows (journal-AreRows rows journal)
    (λ before r place within commits. journal-place rows before r place journal within commits)
    (journal_requests rows journal)

-- an observer is named
named_of : (o : Option Observer) (asked : Asked)
    → option_map (λ x. asked_by_observer x) o ≡ Some asked
    → (x : Observer) × (o ≡ Some x)
named_of None asked h = absurd (let no : None ≡ Some asked = h in cc)
named_of (Some x) asked h = (x, refl)

-- each response is addressed, where each datagram is known and each notification was built as the
-- headline says
addressed : (rows : List Row) → AllSent rows → (sent : Sent rows)
    → (sent.here.row.step.kind ≡ step.Tick → shows_links sent ≡ true
    → FormedAs sent.here sent.peer sent.message)
    → is_response sent.message ≡ true
    → IsAddressed sent.here.row.step.kind sent.here sent.peer sent.message
addressed rows all sent formed responds = by sent.here.row.step.kind refl
  where
    answers : IsNoTick sent.here.row.step.kind → IsAnswer sent.here sent.peer sent.message
    answers no_tick = sent-answer rows all sent no_tick responds

    notifies : sent.here.row.step.kind ≡ step.Tick
        → is_content sent.message ≡ true
        → IsNotification sent.here sent.peer sent.message
    notifies tick content =
        let f : FormedAs sent.here sent.peer sent.message =
        formed tick
        (and_from (is_content sent.message)
        (answers_with_links sent.here.row.step.kind (reading sent.here.row.step.datagram)
        || is_tagged sent.message) content
        (ap (λ k.
        answers_with_links k (reading sent.here.row.step.datagram) || is_tagged sent.message)
        tick)) in
        let o =
        named_of (observer_named (sent.peer, sent.message.token) sent.here.before) f.asked
        (ap (λ k. asked_at k (sent.peer, sent.message.token) sent.here) (sym tick) ∙ f.asks)
        in
        record { content = content; observer = o.0; named = o.1 }

    by : (k : StepKind)
        → sent.here.row.step.kind ≡ k
        → IsAddressed k sent.here sent.peer sent.message
    by step.Admit is = answers (subst IsNoTick (sym is) tt)
    by step.Look is = answers (subst IsNoTick (sym is) tt)
    by (step.Commit place) is = answers (subst IsNoTick (sym is) tt)
    by (step.Keep body current) is = answers (subst IsNoTick (sym is) tt)
    by step.Tick is = notifies is (sent-content rows all sent is responds)
    by (step.Begin first) is =
        subst (λ k. IsSentBy k sent.here.before sent.here.row.step (sent.peer, sent.octets)) is
        (sent_by rows sent.here.before sent.here.row (sent.peer, sent.octets) all sent.within
        sent.among)

-- so it is of rows of which each datagram is known
rows-SendsToWhoAsked : (rows : List Row) → AllSent rows
    → ((sent : Sent rows) → sent.here.row.step.kind ≡ step.Tick → shows_links sent ≡ true
    → FormedAs sent.here sent.peer sent.message) → SendsToWhoAsked rows
rows-SendsToWhoAsked rows all formed_so = record {
  fitting = λ datagram. sent-fitting rows all datagram;
  addressed = λ sent responds. addressed rows all sent (formed_so sent) responds;
  formed = λ before r peer token body mid within among. sent-formed rows all before r peer token
      body mid within among;
}

-- so it is in each journal of the machine
pub journal-SendsToWhoAsked : (rows : List Row) → IsJournal rows → SendsToWhoAsked rows
journal-SendsToWhoAsked rows journal =
    rows-SendsToWhoAsked rows (journal_sent rows journal)
    (λ sent tick listed. answer_formed rows journal sent listed)

-- and in each of a desk, where each look, commit and keep is made for a request, and each keep has
-- a tag of eight octets
pub desk-SendsToWhoAsked : (rows : List Row) → IsDeskJournal rows → AreForRequests rows
    → SendsToWhoAsked rows
desk-SendsToWhoAsked rows journal requests =
    rows-SendsToWhoAsked rows (desk_sent rows journal requests)
    (λ sent tick listed. desk_answer_formed rows journal sent listed
    (ap (λ k. is_formed_in_rows k sent.here) tick))
