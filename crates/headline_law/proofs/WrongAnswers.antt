-- Rows with wrong answers to writes: each falls by the sentence AnsweredAlike. Beside each datagram
-- its parts are shown: type, code, Message ID, token, options, payload.
use Rattle.std.proofs.Common.{
  ◌≡◌,
  inl,
  inr,
  ℕ,
  ◌≤◌,
  false,
  List,
  [],
  ◌∷◌,
  length,
  None,
  Result,
  Ok,
  codes,
  decimal,
  refl,
  sym,
  ap,
  ◌∙◌,
  arith,
}
use Rattle.std.specs.List.{IsAmong}
use Rattle.rd_base.specs.declared.peers.Peer.{Peer}
use Rattle.rd_base.specs.declared.records.Name.{Name}
use Rattle.rd_base.proofs.lemmas.Among.{all_at_index}
use Rattle.message_model.specs.declared.messages.Kind4.TheVariants.{Con, Ack}
use Rattle.message_model.specs.declared.messages.Unread.{Unread}
use Rattle.message_model.specs.Codes as codes_of
use Rattle.message_model.specs.Message.{Message}
use Rattle.message_model.specs.OptionTable as table
use Rattle.message_model.specs.Reading.{reading}
use Rattle.message_model.specs.Request.{queries_in}
use Rattle.message_model.specs.Spelling.{spelling}
use Rattle.record_model.specs.Parameters.{registration_values}
use Rattle.history_model.specs.declared.entries.Change.{Change}
use Rattle.history_model.specs.declared.entries.Change.TheVariants as change
use Rattle.history_model.specs.declared.entries.Entry.{Entry}
use Rattle.history_model.proofs.HistoryLiterals.{history_on_literals}
use Rattle.event_model.specs.declared.notes.Note.{Note}
use Rattle.event_model.specs.declared.notes.Note.TheVariants as note
use Rattle.event_model.specs.Events.{Event}
use Rattle.event_model.proofs.ManyObservers.{peer}
use Rattle.journal_model.proofs.OnLiterals.{machine_on_literals}
use Rattle.journal_model.specs.declared.steps.StepKind.TheVariants as step
use Rattle.journal_model.specs.declared.rows.Row.{Row}
use Rattle.journal_model.specs.Journal.{entries}
use Rattle.journal_model.specs.Changes.{number_after}
use Rattle.journal_model.specs.PlacedRows.{Within, Commits}
use Rattle.journal_model.specs.CarriedBlocks.{Sent}
use Rattle.headline_law.specs.AnsweredAlike.{AnswersOnce, HearsWrite, NamesEntry, AnsweredAlike}
use Rattle.headline_law.proofs.WrongRows.{row_of, lookup, answer}

-- CON 0.02 m=0010 t=c1 [11 rd][15 ep=n] | </a>: a device registers
abbrev registering : Message
registering = record {
  kind = Con;
  code = codes_of.post;
  mid = 16;
  token = 193 ∷ [];
  options = (table.uri_path, codes "rd") ∷ (table.uri_query, codes "ep=n") ∷ [];
  payload = codes "</a>";
}

-- its admission
abbrev admitted : Row
admitted = row_of step.Admit (spelling registering) false [] (note.Admitted (peer 1) 16 ∷ [])

-- and the commit, with what it sends and notes
abbrev committing : List (Peer × List ℕ) → List Note → Row
committing sent notes = row_of (step.Commit 0) (spelling registering) false sent notes

-- what it enters
abbrev entry : Entry
entry = record {
  moment = record { 0 = 0 };
  worker = 0;
  peer = peer 1;
  change = change.Register (registration_values (queries_in registering))
      (record { target_ref = codes "/a"; anchor_ref = None; raw = []; pairs = [] } ∷ []);
}

-- ACK 2.01 m=0010 t=c1 [8 rd][8 a number]
abbrev created_at : List ℕ → Message
created_at number =
    answer codes_of.created (193 ∷ [])
    ((table.location_path, codes "rd") ∷ (table.location_path, number) ∷ []) []

-- ACK 4.04 m=0010 t=c1
abbrev not_found : Message
not_found = answer codes_of.not_found (193 ∷ []) [] []

-- the newest of some rows
abbrev newest : (before : List Row) (r : Row) → Within (r ∷ before) before r
newest before r = record { later = []; whole = refl }

-- what the newest row sends first
abbrev first_sent : (before : List Row) (r : Row) (octets : List ℕ) (m : Message)
    (more : List (Peer × List ℕ))
    → r.sent ≡ (peer 1, octets) ∷ more
    → reading octets ≡ Ok m
    → Sent (r ∷ before)
first_sent before r octets m more is read = record {
  here = record { row = r; before = before };
  within = record { later = []; whole = refl };
  peer = peer 1;
  octets = octets;
  among = rw is (0, (omega arith, refl));
  message = m;
  read = read;
}

-- what is read of octets is one message
same_message : (m n : Message) → ◌≡◌ {A = Result Message Unread} (Ok m) (Ok n) → m ≡ n
same_message m n e = cc

-- ---- how many answers

-- a commit answers 4.04, and then 2.01
abbrev answers_twice : Row
answers_twice =
    committing
    ((peer 1, spelling not_found) ∷ (peer 1, spelling (created_at (codes "1"))) ∷ [])
    (note.Entered entry ∷ [])

-- An end theorem: nothing here cites it.
pub answers_twice_falls : AnsweredAlike (answers_twice ∷ admitted ∷ []) → ⊥
unfolding machine_on_literals
answers_twice_falls h =
    let it : AnswersOnce answers_twice 0 registering =
    h.once (admitted ∷ []) answers_twice 0 registering (newest (admitted ∷ []) answers_twice) refl
    refl in
    let one : ◌≡◌ {A = ℕ} 2 1 = ap (λ (ms : List Message). length ms) it.one in
    absurd (omega (arith, one))

-- a commit answers nothing
abbrev answers_nothing : Row
answers_nothing = committing [] (note.Entered entry ∷ [])

-- An end theorem: nothing here cites it.
pub answers_nothing_falls : AnsweredAlike (answers_nothing ∷ admitted ∷ []) → ⊥
unfolding machine_on_literals
answers_nothing_falls h =
    let it : AnswersOnce answers_nothing 0 registering =
    h.once (admitted ∷ []) answers_nothing 0 registering
    (newest (admitted ∷ []) answers_nothing) refl refl in
    let one : ◌≡◌ {A = ℕ} 0 1 = ap (λ (ms : List Message). length ms) it.one in
    absurd (omega (arith, one))

-- ACK 2.01 m=0011 t=c1 [8 rd][8 1]: a commit answers under another Message ID
abbrev under_another : Message
under_another = record {
  kind = Ack;
  code = codes_of.created;
  mid = 17;
  token = 193 ∷ [];
  options = (table.location_path, codes "rd") ∷ (table.location_path, codes "1") ∷ [];
  payload = [];
}

abbrev answers_another : Row
answers_another =
    committing ((peer 1, spelling under_another) ∷ []) (note.Entered entry ∷ [])

-- An end theorem: nothing here cites it.
pub answers_another_falls : AnsweredAlike (answers_another ∷ admitted ∷ []) → ⊥
unfolding machine_on_literals
answers_another_falls h =
    let it : AnswersOnce answers_another 0 registering =
    h.once (admitted ∷ []) answers_another 0 registering
    (newest (admitted ∷ []) answers_another) refl refl in
    let one : ◌≡◌ {A = ℕ} 17 it.answer.mid = ap first_mid it.one in
    let mid : it.answer.mid ≡ 16 = it.like.type.1 in
    absurd (omega (arith, one, mid))
  where
    first_mid : List Message → ℕ
    first_mid [] = 0
    first_mid (m ∷ ms) = m.mid

-- what a commit sent is not what its exchange keeps: nothing is noted of it
abbrev keeps_nothing : Row
keeps_nothing =
    committing ((peer 1, spelling (created_at (codes "1"))) ∷ []) (note.Entered entry ∷ [])

-- An end theorem: nothing here cites it.
pub keeps_nothing_falls : AnsweredAlike (keeps_nothing ∷ admitted ∷ []) → ⊥
unfolding machine_on_literals
keeps_nothing_falls h =
    let it : AnswersOnce keeps_nothing 0 registering =
    h.once (admitted ∷ []) keeps_nothing 0 registering (newest (admitted ∷ []) keeps_nothing) refl
    refl in
    all_at_index (λ (n : Note). n ≡ note.Settled 0 it.octets → ⊥) keeps_nothing.notes
    (note.Settled 0 it.octets) (it.keeps refl)
    ((λ is. (let no : note.Entered entry ≡ note.Settled 0 it.octets = is in absurd cc)), tt) refl

-- an exchange keeps what was not sent
abbrev keeps_unsent : Row
keeps_unsent = committing [] (note.Settled 0 (spelling not_found) ∷ [])

-- An end theorem: nothing here cites it.
pub keeps_unsent_falls : AnsweredAlike (keeps_unsent ∷ admitted ∷ []) → ⊥
unfolding machine_on_literals
keeps_unsent_falls h =
    let it : Commits keeps_unsent 0 × IsAmong keeps_unsent.sent (peer 1, spelling not_found) =
    h.kept (admitted ∷ []) keeps_unsent 0 (spelling not_found)
    (newest (admitted ∷ []) keeps_unsent) (0, (omega arith, refl)) in
    let low = it.1.1.0 in
    absurd (omega (arith, low))

-- a look answers twice: 4.04 m=0010, and again
abbrev looks_twice : Row
looks_twice =
    row_of step.Look (spelling lookup) false
    ((peer 1, spelling not_found) ∷ (peer 1, spelling not_found) ∷ []) []

-- An end theorem: nothing here cites it.
pub looks_twice_falls : AnsweredAlike (looks_twice ∷ []) → ⊥
unfolding machine_on_literals
looks_twice_falls h =
    let few : 2 ≤ 1 = h.single [] looks_twice lookup (newest [] looks_twice) tt refl refl in
    absurd (omega (arith, few))

-- ---- locations

-- a commit names another location than that of what it entered
abbrev names_another : Row
names_another =
    committing ((peer 1, spelling (created_at (codes "7"))) ∷ []) (note.Entered entry ∷ [])

-- the first octet of the second of two
second_octet : List (List ℕ) → ℕ
second_octet (a ∷ (c ∷ cs) ∷ others) = c
second_octet _ = 0

-- An end theorem: nothing here cites it.
pub names_another_falls : AnsweredAlike (names_another ∷ admitted ∷ []) → ⊥
unfolding machine_on_literals history_on_literals second_octet
names_another_falls h =
    elim (h.located
    (first_sent (admitted ∷ []) names_another (spelling (created_at (codes "7")))
    (created_at (codes "7")) [] refl refl) tt refl) [
      | inl names ↦ by names
      | inr again ↦ absurd (let no : step.Commit 0 ≡ step.Admit = again.heard in cc)
    ]
  where
    different : ◌≡◌ {A = ℕ} 55 49 → ⊥
    different e = absurd (omega (arith, e))

    name_of : Change → Name
    name_of (change.Register params links) = params.name
    name_of _ = record { ep = []; sector = None }

    head : List Entry → Entry
    head [] = entry
    head (e ∷ es) = e

    by : NamesEntry (record { row = names_another; before = admitted ∷ [] })
        (created_at (codes "7"))
        → ⊥
    by it =
        let name : (registration_values (queries_in registering)).name ≡ it.params.name =
        ap (λ (e : Entry). name_of e.change) (ap head it.entered) ∙ ap name_of it.registers in
        let located : codes "rd" ∷ codes "7" ∷ []
        ≡ codes "rd"
        ∷ decimal (number_after (registration_values (queries_in registering)).name 0
        (entries (names_another ∷ admitted ∷ [])))
        ∷ [] =
        it.located
        ∙ ap (λ (n : Name).
        codes "rd"
        ∷ decimal (number_after n 0 (entries (names_another ∷ admitted ∷ [])))
        ∷ []) (sym name) in
        different (ap second_octet located)

-- a look answers 2.01
abbrev looks_created : Row
looks_created =
    row_of step.Look (spelling registering) false
    ((peer 1, spelling (created_at (codes "1"))) ∷ []) []

-- An end theorem: nothing here cites it.
pub looks_created_falls : AnsweredAlike (looks_created ∷ []) → ⊥
unfolding machine_on_literals
looks_created_falls h =
    elim (h.located
    (first_sent [] looks_created (spelling (created_at (codes "1"))) (created_at (codes "1")) []
    refl refl) tt refl) [
      | inl names ↦ absurd (let none : ◌≡◌ {A = List Entry} [] (names.entry ∷ []) = names.entered
          in cc)
      | inr again ↦ absurd (let no : step.Look ≡ step.Admit = again.heard in cc)
    ]

-- ---- writes that come again

-- a registration that is answered, and whose exchange keeps the answer
abbrev committed : Row
committed =
    committing ((peer 1, spelling (created_at (codes "1"))) ∷ [])
    (note.Entered entry ∷ note.Settled 0 (spelling (created_at (codes "1"))) ∷ [])

-- ACK 2.01 m=004d t=c1 [8 rd][8 99]: the same datagram again is answered with an invented location,
-- under another Message ID
abbrev invented : Message
invented = record {
  kind = Ack;
  code = codes_of.created;
  mid = 77;
  token = 193 ∷ [];
  options = (table.location_path, codes "rd") ∷ (table.location_path, codes "99") ∷ [];
  payload = [];
}

abbrev again_with : List (Peer × List ℕ) → Row
again_with sent = row_of step.Admit (spelling registering) false sent []

-- it is heard as a write that meets no refusal
hears : (sent : List (Peer × List ℕ)) → HearsWrite (again_with sent) registering
unfolding machine_on_literals
hears sent = record {
  heard = refl;
  read = refl;
  asks = refl;
  unrefused = refl;
  writes = refl;
  ample = refl;
}

-- the admission that it repeats
abbrev first : Event
first = record { place = 0; moment = 0; word = 0; note = note.Admitted (peer 1) 16 }

-- the octets that are sent first, and the fourth of some
first_octets : List (Peer × List ℕ) → List ℕ
first_octets [] = []
first_octets (d ∷ ds) = d.1

fourth : List ℕ → ℕ
fourth (a ∷ b ∷ c ∷ d ∷ others) = d
fourth _ = 0

-- An end theorem: nothing here cites it.
pub invented_falls :
    AnsweredAlike (again_with ((peer 1, spelling invented) ∷ []) ∷ committed ∷ admitted ∷ []) → ⊥
unfolding machine_on_literals first_octets fourth
invented_falls h =
    let it =
    h.again (committed ∷ admitted ∷ []) (again_with ((peer 1, spelling invented) ∷ [])) registering
    first (newest (committed ∷ admitted ∷ []) (again_with ((peer 1, spelling invented) ∷ [])))
    (hears ((peer 1, spelling invented) ∷ [])) refl in
    let same :
    ◌≡◌ {A = List (Peer × List ℕ)} ((peer 1, spelling invented) ∷ [])
    ((peer 1, spelling (created_at (codes "1"))) ∷ []) =
    it.0 in
    let mids : ◌≡◌ {A = ℕ} 77 16 = ap (λ ds. fourth (first_octets ds)) same in
    absurd (omega (arith, mids))

-- the same datagram again is answered twice
abbrev twice : List (Peer × List ℕ)
twice =
    (peer 1, spelling (created_at (codes "1")))
    ∷ (peer 1, spelling (created_at (codes "1")))
    ∷ []

-- An end theorem: nothing here cites it.
pub again_twice_falls : AnsweredAlike (again_with twice ∷ committed ∷ admitted ∷ []) → ⊥
unfolding machine_on_literals
again_twice_falls h =
    let it =
    h.again (committed ∷ admitted ∷ []) (again_with twice) registering first
    (newest (committed ∷ admitted ∷ []) (again_with twice)) (hears twice) refl in
    let same :
    ◌≡◌ {A = List (Peer × List ℕ)} twice ((peer 1, spelling (created_at (codes "1"))) ∷ []) =
    it.0 in
    let lengths : ◌≡◌ {A = ℕ} 2 1 = ap (λ (ds : List (Peer × List ℕ)). length ds) same in
    absurd (omega (arith, lengths))

-- the same datagram again is answered while the first is in flight
-- An end theorem: nothing here cites it.
pub again_early_falls :
    AnsweredAlike (again_with ((peer 1, spelling (created_at (codes "1"))) ∷ []) ∷ admitted ∷ [])
    → ⊥
unfolding machine_on_literals
again_early_falls h =
    let it =
    h.again (admitted ∷ []) (again_with ((peer 1, spelling (created_at (codes "1"))) ∷ []))
    registering first
    (newest (admitted ∷ []) (again_with ((peer 1, spelling (created_at (codes "1"))) ∷ [])))
    (hears ((peer 1, spelling (created_at (codes "1"))) ∷ [])) refl in
    let same :
    ◌≡◌ {A = List (Peer × List ℕ)} ((peer 1, spelling (created_at (codes "1"))) ∷ []) [] =
    it.0 in
    let lengths : ◌≡◌ {A = ℕ} 1 0 = ap (λ (ds : List (Peer × List ℕ)). length ds) same in
    absurd (omega (arith, lengths))
