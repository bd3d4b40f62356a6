-- Rows with a wrong answer to a read of a registration, or with a wrong change by a replacement of
-- its links: none of them has the headline. Beside each datagram its parts are shown: type, code,
-- Message ID, token, options, payload.
use Rattle.std.proofs.Common.{◌≡◌, ℕ, true, false, List, [], ◌∷◌, Option, Some, None, Result, Ok}
use Rattle.std.proofs.Common.{codes, refl, sym, ap, subst, ◌∙◌, arith}
use Rattle.std.proofs.lemmas.Bool.{false≢true}
use Rattle.std.proofs.lemmas.Option.{same_Some}
use Rattle.rd_base.specs.declared.submitted_links.SubmittedLink.{SubmittedLink}
use Rattle.message_model.specs.declared.messages.Kind4.TheVariants.{Con}
use Rattle.message_model.specs.declared.messages.Unread.{Unread}
use Rattle.message_model.specs.declared.requests.Path.TheVariants as path
use Rattle.message_model.specs.Codes as codes_of
use Rattle.message_model.specs.Message.{Message, Opt}
use Rattle.message_model.specs.OptionTable as table
use Rattle.message_model.specs.Reading.{reading}
use Rattle.message_model.specs.Request.{path_in}
use Rattle.message_model.specs.Spelling.{spelling}
use Rattle.message_model.proofs.OnLiterals.{messages_on_literals}
use Rattle.history_model.specs.declared.entries.Change.{Change}
use Rattle.history_model.specs.declared.entries.Change.TheVariants as change
use Rattle.history_model.specs.declared.entries.Entry.{Entry}
use Rattle.history_model.specs.Listing.{tag}
use Rattle.history_model.specs.Sources.{source}
use Rattle.history_model.proofs.HistoryLiterals.{history_on_literals}
use Rattle.event_model.specs.declared.notes.Note.TheVariants as note
use Rattle.event_model.proofs.ManyObservers.{peer}
use Rattle.journal_model.specs.declared.steps.StepKind.TheVariants as step
use Rattle.journal_model.specs.declared.rows.Row.{Row}
use Rattle.journal_model.specs.Journal.{entries}
use Rattle.journal_model.specs.Sought.{Sought, source_of}
use Rattle.journal_model.specs.Sought as seeking
use Rattle.journal_model.specs.PlacedRows.{Placed}
use Rattle.journal_model.specs.Headline.{Headline}
use Rattle.journal_model.specs.AskedChanges.{AsksChange, CommitAsks, IsEntryOf}
use Rattle.journal_model.specs.AskedListings.{Asked}
use Rattle.journal_model.specs.CarriedBlocks.{FormedAs, Validates}
use Rattle.journal_model.proofs.OnLiterals.{machine_on_literals}
use Rattle.headline_law.proofs.WrongRows.{row_of, answer, sent_first}

-- a request on the registration of number 1: CON m=0010 t=c1 [11 rd][11 1]
abbrev on_registration : ℕ → List Opt → List ℕ → Message
on_registration code options payload = record {
  kind = Con;
  code = code;
  mid = 16;
  token = 193 ∷ [];
  options = (table.uri_path, codes "rd") ∷ (table.uri_path, codes "1") ∷ options;
  payload = payload;
}

-- what is read from the same octets is one message
same_read : (m n : Message) → ◌≡◌ {A = Result Message Unread} (Ok m) (Ok n) → m ≡ n
same_read m n e = cc

-- ---- wrong changes

-- PUT: CON 0.03 m=0010 t=c1 [11 rd][11 1] </a>
abbrev replacement : Message
replacement = on_registration codes_of.put [] (codes "</a>")

-- PUT with a first block, after which more follow: [27 0/1/16] </aaaaaaaaaaaaa>
abbrev first_block : Message
first_block = on_registration codes_of.put ((table.block1, 8 ∷ []) ∷ []) (codes "</aaaaaaaaaaaaa>")

-- GET: CON 0.01 m=0010 t=c1 [11 rd][11 1]
abbrev read_request : Message
read_request = on_registration codes_of.get [] []

-- a change of these rows
abbrev entered : Change → Entry
entered what = record { moment = record { 0 = 0 }; worker = 0; peer = peer 1; change = what }

-- a commit of a request that enters it
abbrev committed : Message → Change → Row
committed m what =
    row_of (step.Commit 0) (spelling m) false [] (note.Entered (entered what) ∷ [])

-- so the request asks for it
asked_change : (m : Message) (what : Change) (before : List Row)
    → reading (spelling m) ≡ Ok m
    → Headline (committed m what ∷ before)
    → AsksChange (path_in m) before 0 (committed m what).step m what
asked_change m what before read h =
    subst (λ (x : Message). AsksChange (path_in x) before 0 (committed m what).step x what)
    (sym (same_read m asks.message (sym read ∙ asks.read))) asks.asks
  where
    it : IsEntryOf before 0 (committed m what).step (entered what)
    it = h.changes.entry before (committed m what) (entered what)
        (record { later = []; whole = refl }) refl

    asks : CommitAsks before 0 (committed m what).step what
    asks = it.asked

-- a replacement removes the registration
-- An end theorem: nothing here cites it.
pub replacement_removes_falls : (before : List Row)
    → Headline (committed replacement (change.Remove 1) ∷ before)
    → ⊥
unfolding messages_on_literals
replacement_removes_falls before h =
    let it : AsksChange (path.Location 1) before 0 (committed replacement (change.Remove 1)).step
    replacement (change.Remove 1) =
    asked_change replacement (change.Remove 1) before refl h in
    let code : ◌≡◌ {A = ℕ} codes_of.put codes_of.delete = it.0 in
    absurd (omega (arith, code))

-- a replacement of the links of another registration
-- An end theorem: nothing here cites it.
pub replacement_of_another_falls : (links : List SubmittedLink) (before : List Row)
    → Headline (committed replacement (change.Replace 2 links) ∷ before)
    → ⊥
unfolding messages_on_literals
replacement_of_another_falls links before h =
    let it : AsksChange (path.Location 1) before 0
    (committed replacement (change.Replace 2 links)).step replacement (change.Replace 2 links) =
    asked_change replacement (change.Replace 2 links) before refl h in
    let number : ◌≡◌ {A = ℕ} 2 1 = it.1 in
    absurd (omega (arith, number))

-- a first block, after which more follow, replaces the links at once
-- An end theorem: nothing here cites it.
pub first_block_replaces_falls : (links : List SubmittedLink) (before : List Row)
    → Headline (committed first_block (change.Replace 1 links) ∷ before)
    → ⊥
unfolding messages_on_literals
first_block_replaces_falls links before h =
    let it : AsksChange (path.Location 1) before 0
    (committed first_block (change.Replace 1 links)).step first_block (change.Replace 1 links) =
    asked_change first_block (change.Replace 1 links) before refl h in
    let last : true ≡ false = it.2.last in
    false≢true (sym last)

-- a read replaces the links
-- An end theorem: nothing here cites it.
pub read_replaces_falls : (links : List SubmittedLink) (before : List Row)
    → Headline (committed read_request (change.Replace 1 links) ∷ before)
    → ⊥
unfolding messages_on_literals
read_replaces_falls links before h =
    let it : AsksChange (path.Location 1) before 0
    (committed read_request (change.Replace 1 links)).step read_request
    (change.Replace 1 links) =
    asked_change read_request (change.Replace 1 links) before refl h in
    let code : ◌≡◌ {A = ℕ} codes_of.get codes_of.put = it.0 in
    absurd (omega (arith, code))

-- ACK 2.04 m=0010 t=c1
abbrev changed : Message
changed = answer codes_of.changed (193 ∷ []) [] []

-- a replacement is answered 2.04, and nothing is entered
abbrev changes_nothing : Row
changes_nothing =
    row_of (step.Commit 0) (spelling replacement) false ((peer 1, spelling changed) ∷ []) []

-- An end theorem: nothing here cites it.
pub changes_nothing_falls : (before : List Row) → Headline (changes_nothing ∷ before) → ⊥
unfolding messages_on_literals
changes_nothing_falls before h =
    let one : ◌≡◌ {A = ℕ} 0 1 =
    h.changes.answered before changes_nothing 0 (record { later = []; whole = refl }) refl refl in
    absurd (omega (arith, one))

-- ---- wrong answers to a read

-- a look at the registration that sends such an answer
abbrev looks_with : Message → Row
looks_with m = row_of step.Look (spelling read_request) false ((peer 1, spelling m) ∷ []) []

-- a 2.05 without a tag: ACK 2.05 m=0010 t=c1
abbrev untagged : Message
untagged = answer codes_of.content (193 ∷ []) [] []

-- An end theorem: nothing here cites it.
pub untagged_source_falls : Headline (looks_with untagged ∷ []) → ⊥
unfolding messages_on_literals
untagged_source_falls h =
    let f : FormedAs (record { row = looks_with untagged; before = [] }) (peer 1) untagged =
    h.answers.carried
    (sent_first (looks_with untagged) (peer 1) (spelling untagged) untagged [] refl refl) refl in
    let none : [] ≡ tag _ _ ∷ [] = f.carries.tag in
    absurd cc

-- the tag of a directory without entries
abbrev no_entries : List ℕ
no_entries = 0 ∷ 0 ∷ 0 ∷ 0 ∷ 0 ∷ 0 ∷ 0 ∷ 0 ∷ []

-- a 2.05 to a read of what is not live: ACK 2.05 m=0010 t=c1 [4 0000000000000000]
abbrev of_nothing : Message
of_nothing = answer codes_of.content (193 ∷ []) ((table.etag, no_entries) ∷ []) []

-- An end theorem: nothing here cites it.
pub source_of_nothing_falls : Headline (looks_with of_nothing ∷ []) → ⊥
unfolding messages_on_literals machine_on_literals history_on_literals
source_of_nothing_falls h =
    absurd (let no : ◌≡◌ {A = Option (List ℕ)} None (Some f.carries.whole) = found in cc)
  where
    here : Placed
    here = record { row = looks_with of_nothing; before = [] }

    f : FormedAs here (peer 1) of_nothing
    f = h.answers.carried
        (sent_first (looks_with of_nothing) (peer 1) (spelling of_nothing) of_nothing [] refl refl)
        refl

    former : here ≡ f.former
    former = same_Some here f.former f.formed

    asked : Asked
    asked = record { sought = source_of 1; number = 0; szx = 6 }

    sought : source_of 1 ≡ f.asked.sought
    sought = ap (λ (a : Asked). a.sought) (same_Some asked f.asked f.asks)

    found : source 1 (entries (looks_with of_nothing ∷ [])) 0 ≡ Some f.carries.whole
    found =
        subst (λ (p : Placed).
        source 1 (entries (p.row ∷ p.before)) p.row.moment.0 ≡ Some f.carries.whole) (sym former)
        (subst (λ (x : Sought).
        seeking.body x (entries (f.former.row ∷ f.former.before)) f.former.row.moment.0
        ≡ Some f.carries.whole) (sym sought) f.carries.found)

-- a 2.03 to a read of what is not live, which names the tag: CON 0.01 m=0010 t=c1 [4
-- 0000000000000000][11 rd][11 1], ACK 2.03 m=0010 t=c1 [4 0000000000000000]
abbrev tagged_request : Message
tagged_request = record {
  kind = Con;
  code = codes_of.get;
  mid = 16;
  token = 193 ∷ [];
  options = (table.etag, no_entries) ∷ (table.uri_path, codes "rd") ∷ (table.uri_path, codes "1")
      ∷ [];
  payload = [];
}

abbrev valid : Message
valid = answer codes_of.valid (193 ∷ []) ((table.etag, no_entries) ∷ []) []

abbrev validates_nothing : Row
validates_nothing =
    row_of step.Look (spelling tagged_request) false ((peer 1, spelling valid) ∷ []) []

-- An end theorem: nothing here cites it.
pub validates_nothing_falls : Headline (validates_nothing ∷ []) → ⊥
unfolding messages_on_literals machine_on_literals history_on_literals
validates_nothing_falls h =
    let v : Validates (record { row = validates_nothing; before = [] }) (peer 1) valid =
    h.answers.validated
    (sent_first validates_nothing (peer 1) (spelling valid) valid [] refl refl) refl in
    let no : false ≡ true = v.named in
    false≢true no
