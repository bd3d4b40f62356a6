-- What a whole replay writes, by what was read.
use Rattle.std.proofs.Common.{
  ◌≡◌,
  ℕ,
  List,
  [],
  ◌++◌,
  Option,
  Some,
  None,
  sym,
  ap,
  ◌∙◌,
  subst,
  append-nil,
}
use Rattle.std.specs.Prelude.{IfSome}
use Rattle.std.specs.Io.KnownBytes.{Appends, Consumes, IsAtEnd}
use Rattle.std.proofs.KnownBytes.{Appends-trans, Consumes-trans}
use Rattle.line_model.specs.declared.lines.LineBad.{LineBad}
use Rattle.trace_replay.specs.declared.endings.Stop.{Stop}
use Rattle.trace_replay.specs.declared.endings.Stop.TheVariants as stop
use Rattle.trace_replay.specs.declared.endings.Status.TheVariants as status
use Rattle.trace_replay.specs.declared.sessions.Session.{Session}
use Rattle.trace_model.specs.Output.{Output, text, written, output}
use Rattle.trace_replay.specs.Journal.{Journal, whole_output, whole_text}
use Rattle.line_model.specs.Texts.{lines_of}
use Rattle.trace_replay.specs.Endings.{IsWritten, IsFrontOf, status_of}
use Rattle.trace_replay.specs.Sessions.{Goes, Feeds, Halts, Finishes, start, journal_from}
use Rattle.trace_replay.proofs.Fronts.{journal_front, whole_front}
use Rattle.trace_replay.proofs.Journeys.{halts_before}
use Rattle.trace_replay.proofs.JournalRuns.{output_is}

-- the bad line of what is written is that of the journal
bad_of : (j : Journal) (bad : Option LineBad) → j.bad ≡ bad → (whole_output j).bad ≡ bad
bad_of j bad e = by j.bad e
  where
    by : (found : Option LineBad) → found ≡ bad → (written j.rows found).bad ≡ bad
    by None e = e
    by (Some first) e = e

-- a journal with a bad line has no last line
bad_is : (j : Journal) (bad : LineBad) → j.bad ≡ Some bad → (whole_output j).bad ≡ Some bad
bad_is j bad e = bad_of j (Some bad) e

bad_whole : (j : Journal) (bad : LineBad) → j.bad ≡ Some bad → whole_text j ≡ text j.rows
bad_whole j bad e = ap (λ (b : Option LineBad). (written j.rows b).text) e

-- what stopped a replay from its beginning on
halted : (j : Journal) (old new : Option (List ℕ)) (halt : Stop)
    → Halts j [] old new halt
    → IsWritten (whole_output j) old new (status_of halt)
halted j old new (stop.Bad bad) h =
    (bad_is j bad h.0, subst (Appends old new) (sym h.2 ∙ sym (bad_whole j bad h.0)) h.3)
halted j old new stop.Unwritten h = h
halted j old new stop.Starved h = h

-- the octets that were taken, and those that are left
split : (left now : Option (List ℕ)) (taken : List ℕ) (P : List ℕ → Type 0)
    → Consumes left now taken
    → ((rest : List ℕ) → P (taken ++ rest))
    → IfSome left P
split None now taken P c h = tt
split (Some bytes) None taken P c h = absurd c
split (Some bytes) (Some rest) taken P c h = subst P (sym c) (h rest)

-- all octets were taken
split_end : (left now : Option (List ℕ)) (taken : List ℕ) (P : List ℕ → Type 0)
    → Consumes left now taken
    → IsAtEnd now
    → P (taken ++ [])
    → IfSome left P
split_end None now taken P c e h = tt
split_end (Some bytes) None taken P c e h = absurd c
split_end (Some bytes) (Some rest) taken P c e h =
    subst P (sym (c ∙ ap (λ (l : List ℕ). taken ++ l) e)) h

pub stopped : (workers : ℕ) (left now : Option (List ℕ)) (taken : List ℕ) (session : Session)
    (old new : Option (List ℕ)) (halt : Stop)
    → Consumes left now taken
    → Feeds workers start taken session old new (Some halt)
    → IfSome left (λ bytes. IsWritten (output workers bytes) old new (status_of halt))
unfolding text
stopped workers left now taken session old new halt c h =
    split left now taken (λ bytes. IsWritten (output workers bytes) old new (status_of halt)) c
    (λ rest.
    subst (λ (o : Output). IsWritten o old new (status_of halt))
    (output_is workers (taken ++ rest))
    (halted (journal_from workers start (taken ++ rest)) old new halt (h rest)))

pub failed : (workers : ℕ) (left now : Option (List ℕ)) (taken : List ℕ) (session : Session)
    (old new : Option (List ℕ))
    → Consumes left now taken
    → Goes workers start taken session old new
    → IfSome left (λ bytes. IsWritten (output workers bytes) old new status.ReadFault)
unfolding text
failed workers left now taken session old new c go =
    split left now taken (λ bytes. IsWritten (output workers bytes) old new status.ReadFault) c
    (λ rest.
    let front : IsFrontOf go.written (text (journal_from workers go.next rest).rows) =
    subst (λ (l : List ℕ). IsFrontOf l (text (journal_from workers go.next rest).rows))
    go.leads.texts
    (journal_front workers go.next.rows go.next.number (lines_of (go.next.pending ++ rest))) in
    subst (λ (o : Output). IsWritten o old new status.ReadFault)
    (ap whole_output (sym (go.leads.same rest)) ∙ output_is workers (taken ++ rest))
    (go.written, whole_front go.written (journal_from workers go.next rest) front, go.appends))

pub done : (workers : ℕ) (left now : Option (List ℕ)) (taken : List ℕ) (session : Session)
    (old mid new : Option (List ℕ))
    → Consumes left now taken
    → IsAtEnd now
    → (go : Goes workers start taken session old mid)
    → Finishes (journal_from workers go.next []) (text go.next.rows) mid new None
    → IfSome left (λ bytes. IsWritten (output workers bytes) old new status.Done)
unfolding text
done workers left now taken session old mid new c e go h =
    split_end left now taken (λ bytes. IsWritten (output workers bytes) old new status.Done) c e
    (subst (λ (o : Output). IsWritten o old new status.Done)
    (ap whole_output (sym (go.leads.same [])) ∙ output_is workers (taken ++ [])) (
      bad_of (journal_from workers go.next []) None h.0,
      subst (Appends old new) (ap (λ (l : List ℕ). l ++ h.1) (sym go.leads.texts) ∙ sym h.2)
          (Appends-trans old mid new go.written h.1 go.appends h.3),
    ))

pub unfinished : (workers : ℕ) (left now : Option (List ℕ)) (taken : List ℕ) (session : Session)
    (old mid new : Option (List ℕ)) (halt : Stop)
    → Consumes left now taken
    → IsAtEnd now
    → (go : Goes workers start taken session old mid)
    → Finishes (journal_from workers go.next []) (text go.next.rows) mid new (Some halt)
    → IfSome left (λ bytes. IsWritten (output workers bytes) old new (status_of halt))
unfolding text
unfinished workers left now taken session old mid new halt c e go h =
    split_end left now taken (λ bytes. IsWritten (output workers bytes) old new (status_of halt)) c
    e
    (subst (λ (o : Output). IsWritten o old new (status_of halt))
    (ap whole_output (sym (go.leads.same [])) ∙ output_is workers (taken ++ []))
    (halted (journal_from workers go.next []) old new halt
    (halts_before (journal_from workers go.next []) [] (text go.next.rows) go.written old mid
    new halt go.leads.texts go.appends h)))

-- a piece of no octets takes nothing
pub nothing_taken : (left mid now : Option (List ℕ)) (taken piece : List ℕ)
    → Consumes left mid taken
    → Consumes mid now piece
    → piece ≡ []
    → Consumes left now taken
nothing_taken left mid now taken piece before more none =
    subst (Consumes left now) (ap (λ (l : List ℕ). taken ++ l) none ∙ append-nil taken)
    (Consumes-trans left mid now taken piece before more)
