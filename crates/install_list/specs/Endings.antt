-- How an installation ends: its status, what is reported of it, and which count rose.
use Rattle.std.specs.Prelude.{
  ◌≡◌,
  ◌⊎◌,
  ℕ,
  ◌≤◌,
  List,
  [],
  ◌∷◌,
  ◌++◌,
  map,
  codes,
  decimal,
  Bool,
  true,
  false,
  Option,
  Some,
  None,
  Result,
  Ok,
  Err,
  ⊤,
}
use Rattle.std.specs.Io.KnownBytes.{Appends}
use Rattle.rd_base.specs.Outside.{Rose}
use Rattle.registrant.specs.declared.turns.TellFault.{TellFault}
use Rattle.registrant.specs.declared.turns.TellFault.TheVariants as tell
use Rattle.install_list.specs.declared.lines.LineBad.{LineBad}
use Rattle.install_list.specs.declared.lines.LineBad.TheVariants as bad
use Rattle.install_list.specs.declared.listing.ListFault.{ListFault}
use Rattle.install_list.specs.declared.listing.ListFault.TheVariants as stop
use Rattle.install_list.specs.declared.fronts.PutFault.{PutFault}
use Rattle.install_list.specs.declared.fronts.PutFault.TheVariants as put
use Rattle.install_list.specs.declared.statuses.InstallStatus.{InstallStatus}
use Rattle.install_list.specs.declared.statuses.InstallStatus.TheVariants as status
use Rattle.install_list.specs.declared.entries.Entry.{Entry}
use Rattle.install_list.specs.declared.words.Verb.{Verb}
use Rattle.install_list.specs.declared.words.Verb.TheVariants as verb
use Rattle.install_list.specs.Lists.{FirstBad}
use Rattle.install_list.specs.Printing.{IsFrontOf, Puts, Cuts}

-- Returns the exit status of the program.
abbrev pub code_of : InstallStatus → ℕ
code_of status.Done = 0
code_of status.Undone = 1
code_of status.Write = 2
code_of status.Usage = 3
code_of status.Unread = 4
code_of (status.Line n why) = 4
code_of status.Memory = 5
code_of status.Link = 6

-- Returns the name of a reason.
abbrev pub reason_text : LineBad → List ℕ
reason_text bad.Many = codes "many"
reason_text bad.Form = codes "form"
reason_text bad.Ask = codes "ask"
reason_text bad.Zone = codes "zone"
reason_text bad.Family = codes "family"
reason_text bad.Base = codes "base"

-- Returns what is reported of a bad line.
abbrev pub line_text : ℕ → LineBad → List ℕ
line_text n why =
    codes "line " ++ (decimal n ++ (codes ": " ++ (reason_text why ++ codes "\n")))

-- Returns what is reported of a status on the error sink.
abbrev pub status_text : InstallStatus → List ℕ
status_text status.Done = []
status_text status.Undone = []
status_text status.Write = codes "standard output: it cannot be written\n"
status_text status.Usage = codes "usage: rd_install\n"
status_text status.Unread = codes "standard input: it cannot be read\n"
status_text (status.Line n why) = line_text n why
status_text status.Memory = codes "memory: it ran out\n"
status_text status.Link = codes "socket: receives fail\n"

-- A text that was reported whole, or a prefix of it that was if a fault was counted.
pub record Says
    (before now : Option (List ℕ))
    (counted counts : ℕ)
    (text : List ℕ)
    : Type 0 where
  pub said : List ℕ
  pub front : IsFrontOf said text
  pub stands : Appends before now said
  pub whole : (said ≡ text) ⊎ Rose counted counts

-- States that the text of a status is on the error sink, or a prefix of it if a fault was counted.
abbrev pub IsReported : Option (List ℕ)
    → Option (List ℕ)
    → ℕ
    → ℕ
    → InstallStatus
    → Type 0
IsReported before now counted counts s = Says before now counted counts (status_text s)

-- States that a count rose.
abbrev pub IsCounted : ℕ → ℕ → Type 0
IsCounted before now = (before ≤ now) × Rose before now

-- States that the count of the source rose if the reading failed, and did not change otherwise.
abbrev pub CountsReads : ℕ → ℕ → InstallStatus → Type 0
CountsReads before now status.Unread = IsCounted before now
CountsReads before now _ = now ≡ before

-- States that the count of the output rose if the writing failed, and did not change otherwise.
abbrev pub CountsWrites : ℕ → ℕ → InstallStatus → Type 0
CountsWrites before now status.Write = IsCounted before now
CountsWrites before now _ = now ≡ before

-- States that the count of failed receives rose if the status says that one failed, and did not
-- change otherwise.
abbrev pub CountsReceives : ℕ → ℕ → InstallStatus → Type 0
CountsReceives before now status.Link = IsCounted before now
CountsReceives before now _ = now ≡ before

-- ---- the results of the code

-- Returns the status of a list that was not read.
abbrev pub list_status : ListFault → InstallStatus
list_status stop.Unread = status.Unread
list_status (stop.Bad n why) = status.Line n why
list_status stop.Starved = status.Memory

-- States that the count of the source rose if reading it failed, and did not change otherwise.
abbrev pub CountsList : {A : Type 0} → ℕ → ℕ → Result A ListFault → Type 0
CountsList before now (Err stop.Unread) = IsCounted before now
CountsList before now (Err stop.Starved) = now ≡ before
CountsList before now (Err (stop.Bad n why)) = now ≡ before
CountsList before now (Ok x) = now ≡ before

-- Returns the status of a list of which a poll failed.
abbrev pub tell_status : TellFault → InstallStatus
tell_status tell.Link = status.Link
tell_status tell.Starved = status.Memory

-- Returns the status of a list of which a line was not written.
abbrev pub put_status : PutFault → InstallStatus
put_status put.Unwritten = status.Write
put_status put.Starved = status.Memory

-- States that the count of failed receives rose if a receive failed, and did not change otherwise.
abbrev pub CountsTaken : {A : Type 0} → ℕ → ℕ → Result A TellFault → Type 0
CountsTaken before now (Err tell.Link) = IsCounted before now
CountsTaken before now (Err tell.Starved) = now ≡ before
CountsTaken before now (Ok x) = now ≡ before

-- States that the count of the output rose if a write failed, and did not change otherwise.
abbrev pub CountsPut : {A : Type 0} → ℕ → ℕ → Result A PutFault → Type 0
CountsPut before now (Err put.Unwritten) = IsCounted before now
CountsPut before now (Err put.Starved) = now ≡ before
CountsPut before now (Ok x) = now ≡ before

-- States `CountsReceives` of an iteration, or that the count did not change if it returned no
-- status.
abbrev pub CountsTurn : ℕ → ℕ → Option InstallStatus → Type 0
CountsTurn before now None = now ≡ before
CountsTurn before now (Some s) = CountsReceives before now s

-- States `CountsWrites` of an iteration, or that the count did not change if it returned no status.
abbrev pub WritesTurn : ℕ → ℕ → Option InstallStatus → Type 0
WritesTurn before now None = now ≡ before
WritesTurn before now (Some s) = CountsWrites before now s

-- States that the status is one with which a list that was read and is not bad can end.
abbrev pub IsMaking : InstallStatus → Type 0
IsMaking status.Done = ⊤
IsMaking status.Undone = ⊤
IsMaking status.Link = ⊤
IsMaking status.Write = ⊤
IsMaking status.Memory = ⊤
IsMaking status.Usage = ⊥
IsMaking status.Unread = ⊥
IsMaking (status.Line n why) = ⊥

-- States that a poll returned no status, or one of a poll that failed.
abbrev pub IsPolled : Option InstallStatus → Type 0
IsPolled None = ⊤
IsPolled (Some status.Link) = ⊤
IsPolled (Some status.Memory) = ⊤
IsPolled (Some status.Write) = ⊥
IsPolled (Some status.Done) = ⊥
IsPolled (Some status.Undone) = ⊥
IsPolled (Some status.Usage) = ⊥
IsPolled (Some status.Unread) = ⊥
IsPolled (Some (status.Line n why)) = ⊥

-- Returns the status of a list of which all lines were written.
abbrev pub whole_status : Bool → InstallStatus
whole_status false = status.Done
whole_status true = status.Undone

-- States the result of an iteration that wrote no line. `left` are the numbers of the lines that
-- are still to be written, and `is` says whether a request did not succeed.
abbrev pub IsRest : Option InstallStatus → List ℕ → Bool → Type 0
IsRest None left is = ⊤
IsRest (Some status.Done) left is = (left ≡ []) × (is ≡ false)
IsRest (Some status.Undone) left is = (left ≡ []) × (is ≡ true)
IsRest (Some status.Link) left is = ⊤
IsRest (Some status.Memory) left is = ⊤
IsRest (Some status.Write) left is = ⊥
IsRest (Some status.Usage) left is = ⊥
IsRest (Some status.Unread) left is = ⊥
IsRest (Some (status.Line n why)) left is = ⊥

-- ---- what was written

-- States that the line of a request was written, or a prefix of it if that failed.
abbrev pub IsPut : {A : Type 0}
    → Result A PutFault
    → List ℕ
    → Option (List ℕ)
    → Option (List ℕ)
    → Type 0
IsPut (Ok x) line holds now = Appends holds now line
IsPut (Err f) line holds now = (text : List ℕ) × IsFrontOf text line × Appends holds now text

-- States that the lines of the next requests were written, or a prefix of them if that failed.
abbrev pub IsNext : {A : Type 0}
    → Result A PutFault
    → Verb
    → List ℕ
    → List ℕ
    → Bool
    → Bool
    → Option (List ℕ)
    → Option (List ℕ)
    → Type 0
IsNext (Ok x) v left more was is holds now = Puts v left more was is holds now
IsNext (Err f) v left more was is holds now = Cuts v left holds now

-- States what was written of the requests that were left. With `Done` and `Undone`, each has its
-- line, in the order of the list. With `Done`, each succeeded; with `Undone`, one did not.
-- Otherwise a prefix of the lines was written.
abbrev pub Ends : Verb
    → InstallStatus
    → List ℕ
    → Bool
    → Option (List ℕ)
    → Option (List ℕ)
    → Type 0
Ends v status.Done left was holds now = Puts v left [] was false holds now
Ends v status.Undone left was holds now = Puts v left [] was true holds now
Ends v status.Link left was holds now = Cuts v left holds now
Ends v status.Write left was holds now = Cuts v left holds now
Ends v status.Memory left was holds now = Cuts v left holds now
Ends v status.Usage left was holds now = ⊥
Ends v status.Unread left was holds now = ⊥
Ends v (status.Line n why) left was holds now = ⊥

-- States what an iteration wrote.
abbrev pub IsTurned : Verb
    → Option InstallStatus
    → List ℕ
    → List ℕ
    → Bool
    → Bool
    → Option (List ℕ)
    → Option (List ℕ)
    → Type 0
IsTurned v None left more was is holds now = Puts v left more was is holds now
IsTurned v (Some s) left more was is holds now = Ends v s left was holds now

-- States that the status is one of `keep`, which ends only by a fault.
abbrev pub IsHalted : InstallStatus → Type 0
IsHalted status.Link = ⊤
IsHalted status.Memory = ⊤
IsHalted status.Write = ⊤
IsHalted status.Done = ⊥
IsHalted status.Undone = ⊥
IsHalted status.Usage = ⊥
IsHalted status.Unread = ⊥
IsHalted (status.Line n why) = ⊥

-- States that an iteration of `keep` returned no status, or one of `keep`.
abbrev pub IsKept : Option InstallStatus → Type 0
IsKept None = ⊤
IsKept (Some s) = IsHalted s

-- States what `keep` wrote of the requests of lines with these numbers, if there are none, and that
-- it ended by a fault otherwise.
abbrev pub KeepsOn : List ℕ → InstallStatus → Option (List ℕ) → Option (List ℕ) → Type 0
KeepsOn [] s holds now = Ends verb.Keep s [] false holds now
KeepsOn (n ∷ numbers) s holds now = IsHalted s

-- States what was written of the requests of lines with these numbers.
abbrev pub Writes : Verb
    → List ℕ
    → InstallStatus
    → Option (List ℕ)
    → Option (List ℕ)
    → Type 0
Writes verb.Register numbers s holds now = Ends verb.Register s numbers false holds now
Writes verb.Refresh numbers s holds now = Ends verb.Refresh s numbers false holds now
Writes verb.Remove numbers s holds now = Ends verb.Remove s numbers false holds now
Writes verb.Keep numbers s holds now = KeepsOn numbers s holds now

-- Returns the numbers of the lines that have a request.
abbrev pub numbered : List Entry → List ℕ
numbered entries = map (λ entry. entry.number) entries

-- States what was written of a list that was read, and that nothing was if it was not read or is
-- bad.
abbrev pub IsWritten : Verb
    → Result (List Entry) FirstBad
    → InstallStatus
    → Option (List ℕ)
    → Option (List ℕ)
    → Type 0
IsWritten v (Err first) s holds now = now ≡ holds
IsWritten v (Ok entries) status.Unread holds now = now ≡ holds
IsWritten v (Ok entries) s holds now = Writes v (numbered entries) s holds now

-- States which line is named. If a line is bad, no other line is named and the list is not made. If
-- none is bad, none is named.
abbrev pub EndsBy : Result (List Entry) FirstBad → InstallStatus → Type 0
EndsBy (Err first) (status.Line n why) = first ≡ record { line = n; why = why }
EndsBy (Err first) status.Done = ⊥
EndsBy (Err first) status.Undone = ⊥
EndsBy (Err first) status.Link = ⊥
EndsBy (Err first) status.Write = ⊥
EndsBy (Err first) status.Usage = ⊥
EndsBy (Err first) status.Unread = ⊤
EndsBy (Err first) status.Memory = ⊤
EndsBy (Ok entries) (status.Line n why) = ⊥
EndsBy (Ok entries) s = ⊤

-- States that nothing was sent, if the status says that the list was not read or is bad.
abbrev pub IsUnsent : InstallStatus → Type 0 → Type 0
IsUnsent status.Unread untouched = untouched
IsUnsent (status.Line n why) untouched = untouched
IsUnsent s untouched = ⊤

-- States that the source is at its end, if the status is `Done`, `Undone`, `Link` or `Write`.
abbrev pub IsAllRead : InstallStatus → Type 0 → Type 0
IsAllRead status.Done ended = ended
IsAllRead status.Undone ended = ended
IsAllRead status.Link ended = ended
IsAllRead status.Write ended = ended
IsAllRead s ended = ⊤
