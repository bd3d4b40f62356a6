-- Rows with a wrong answer: none of them has the headline. Beside each datagram its parts are
-- shown: type, code, Message ID, token, options, payload.
use Rattle.std.proofs.Common.{
  ◌≡◌,
  inl,
  inr,
  ℕ,
  Bool,
  true,
  false,
  List,
  [],
  ◌∷◌,
  Option,
  Some,
  None,
  Result,
  Ok,
  codes,
  refl,
  sym,
  ap,
  subst,
  ◌∙◌,
  arith,
}
use Rattle.rd_base.specs.declared.peers.Peer.{Peer}
use Rattle.message_model.specs.declared.messages.Kind4.TheVariants.{Con, Ack, Rst}
use Rattle.message_model.specs.declared.messages.Role.TheVariants as role
use Rattle.message_model.specs.declared.messages.Unread.{Unread}
use Rattle.message_model.specs.Codes as codes_of
use Rattle.message_model.specs.Message.{Message, Opt, role_of}
use Rattle.message_model.specs.OptionTable as table
use Rattle.message_model.specs.Reading.{reading}
use Rattle.message_model.specs.Spelling.{spelling}
use Rattle.message_model.proofs.OnLiterals.{messages_on_literals}
use Rattle.history_model.specs.declared.entries.Change.TheVariants as change
use Rattle.history_model.specs.declared.entries.Entry.{Entry}
use Rattle.history_model.specs.Listing.{listing, tag}
use Rattle.history_model.proofs.HistoryLiterals.{history_on_literals}
use Rattle.journal_model.specs.AdmittedWrites.{EndedWithoutMemory, AdmittedAt}
use Rattle.journal_model.specs.AskedChanges.{IsEntryOf}
use Rattle.journal_model.specs.AskedListings.{Asked, asked_at}
use Rattle.journal_model.specs.CarriedBlocks.{IsBlockOf, Sent, FormedAs, Validates}
use Rattle.journal_model.proofs.OnLiterals.{machine_on_literals}
use Rattle.std.proofs.lemmas.Option.{same_Some}
use Rattle.std.proofs.lemmas.Bool.{false≢true}
use Rattle.journal_model.specs.Effects.{empty_message}
use Rattle.event_model.specs.declared.notes.Note.{Note}
use Rattle.event_model.specs.declared.notes.Note.TheVariants as note
use Rattle.event_model.proofs.ManyObservers.{peer}
use Rattle.journal_model.specs.declared.steps.StepKind.{StepKind}
use Rattle.journal_model.specs.declared.steps.StepKind.TheVariants as step
use Rattle.journal_model.specs.declared.rows.Row.{Row}
use Rattle.journal_model.specs.Journal.{entries}
use Rattle.journal_model.specs.Requests.{query_of, asked_block}
use Rattle.journal_model.specs.PlacedRows.{Placed}
use Rattle.journal_model.specs.Sought.{Sought, listing_of}
use Rattle.journal_model.specs.Sought as seeking
use Rattle.journal_model.specs.BlocksOfOne.{AreBlocksOfOne}
use Rattle.journal_model.specs.Headline.{Headline}
use Rattle.headline_law.proofs.entries.FailedLaws.{within_cases, nothing_within}

-- ---- what the rows have

-- the row of a step with the datagram of a peer
abbrev pub row_of : StepKind → List ℕ → Bool → List (Peer × List ℕ) → List Note → Row
row_of kind datagram starved sent notes = record {
  step = record {
    kind = kind;
    worker = 0;
    handed = record { 0 = 0 };
    word = 0;
    peer = peer 1;
    datagram = datagram;
    drawn = 0;
  };
  moment = record { 0 = 0 };
  starved = starved;
  sent = sent;
  notes = notes;
  drew = 0;
}

-- a lookup of the endpoints, in blocks of 16 octets: CON 0.01 m=0010 t=c1 [11 rd-lookup][11 ep][23
-- 0/0/0]
abbrev pub lookup : Message
lookup = record {
  kind = Con;
  code = codes_of.get;
  mid = 16;
  token = 193 ∷ [];
  options =
      (table.uri_path, codes "rd-lookup")
      ∷ (table.uri_path, codes "ep")
      ∷ (table.block2, 0 ∷ [])
      ∷ [];
  payload = [];
}

-- an answer to it: ACK m=0010
abbrev pub answer : ℕ → List ℕ → List Opt → List ℕ → Message
answer code token options payload = record {
  kind = Ack;
  code = code;
  mid = 16;
  token = token;
  options = options;
  payload = payload;
}

-- a look that sends such an answer to a peer
abbrev pub look_with : Peer → Message → Row
look_with to m = row_of step.Look (spelling lookup) false ((to, spelling m) ∷ []) []

-- a message that the one row of a journal sends first
abbrev pub sent_first : (r : Row) (to : Peer) (octets : List ℕ) (m : Message)
    (others : List (Peer × List ℕ))
    → r.sent ≡ (to, octets) ∷ others
    → reading octets ≡ Ok m
    → Sent (r ∷ [])
sent_first r to octets m others is read = record {
  here = record { row = r; before = [] };
  within = record { later = []; whole = refl };
  peer = to;
  octets = octets;
  among = rw is (0, (omega arith, refl));
  message = m;
  read = read;
}

-- ---- 2.05

-- without a tag: ACK 2.05 t=c1
abbrev untagged : Message
untagged = answer codes_of.content (193 ∷ []) [] []

-- An end theorem: nothing here cites it.
pub untagged_falls : Headline (look_with (peer 1) untagged ∷ []) → ⊥
unfolding messages_on_literals
untagged_falls h =
    let f : FormedAs (record { row = look_with (peer 1) untagged; before = [] }) (peer 1) untagged =
    h.answers.carried
    (sent_first (look_with (peer 1) untagged) (peer 1) (spelling untagged) untagged [] refl
    refl) refl in
    let none : [] ≡ tag _ _ ∷ [] = f.carries.tag in
    absurd cc

-- the tag of eight octets that is written here
abbrev eight : List ℕ
eight = 0 ∷ 0 ∷ 0 ∷ 0 ∷ 0 ∷ 0 ∷ 0 ∷ 0 ∷ []

-- to another peer: ACK 2.05 t=c1 [4 0000000000000000]
abbrev tagged : List ℕ → Message
tagged token = answer codes_of.content token ((table.etag, eight) ∷ []) []

-- An end theorem: nothing here cites it.
pub other_peer_falls : Headline (look_with (peer 2) (tagged (193 ∷ [])) ∷ []) → ⊥
unfolding messages_on_literals
other_peer_falls h =
    let f : FormedAs (record { row = look_with (peer 2) (tagged (193 ∷ [])); before = [] }) (peer 2)
    (tagged (193 ∷ [])) =
    h.answers.carried
    (sent_first (look_with (peer 2) (tagged (193 ∷ []))) (peer 2) (spelling (tagged (193 ∷ [])))
    (tagged (193 ∷ [])) [] refl refl) refl in
    let none : None ≡ Some f.asked = f.asks in
    absurd cc

-- to another token: ACK 2.05 t=c2 [4 0000000000000000]
-- An end theorem: nothing here cites it.
pub other_token_falls : Headline (look_with (peer 1) (tagged (194 ∷ [])) ∷ []) → ⊥
unfolding messages_on_literals
other_token_falls h =
    let f : FormedAs (record { row = look_with (peer 1) (tagged (194 ∷ [])); before = [] }) (peer 1)
    (tagged (194 ∷ [])) =
    h.answers.carried
    (sent_first (look_with (peer 1) (tagged (194 ∷ []))) (peer 1) (spelling (tagged (194 ∷ [])))
    (tagged (194 ∷ [])) [] refl refl) refl in
    let none : None ≡ Some f.asked = f.asks in
    absurd cc

-- a block of another size than that which is asked for: ACK 2.05 t=c1 [4 0000000000000000][23
-- 0/0/1024]
abbrev larger : Message
larger = answer codes_of.content (193 ∷ []) ((table.etag, eight) ∷ (table.block2, 6 ∷ []) ∷ []) []

-- An end theorem: nothing here cites it.
pub other_size_falls : Headline (look_with (peer 1) larger ∷ []) → ⊥
unfolding messages_on_literals
other_size_falls h =
    let f : FormedAs (record { row = look_with (peer 1) larger; before = [] }) (peer 1) larger =
    h.answers.carried
    (sent_first (look_with (peer 1) larger) (peer 1) (spelling larger) larger [] refl refl)
    refl in
    let asks : Some 0 ≡ Some f.asked.szx = ap (szx_of_asked) f.asks in
    let named : 6 ≡ f.asked.szx = f.carries.block.asked.1 in
    let small : 0 ≡ f.asked.szx = cc in
    absurd (omega (arith, named, small))
  where
    szx_of_asked : Option Asked → Option ℕ
    szx_of_asked None = None
    szx_of_asked (Some a) = Some a.szx

-- what a message of a look with nothing before it must carry: the block that it names of the
-- listing of no entries
abbrev CarriesNothing : Message → Type 0
CarriesNothing m =
    IsBlockOf (asked_block m) (listing (query_of lookup) (entries (look_with (peer 1) m ∷ [])) 0)
    m.payload

carried_nothing : (m : Message)
    → reading (spelling m) ≡ Ok m
    → m.code ≡ codes_of.content
    → m.token ≡ 193 ∷ []
    → Headline (look_with (peer 1) m ∷ [])
    → CarriesNothing m
unfolding messages_on_literals
carried_nothing m read content token h =
    subst (λ (body : List ℕ). IsBlockOf (asked_block m) body m.payload) (sym whole_is)
    f.carries.block.block
  where
    here : Placed
    here = record { row = look_with (peer 1) m; before = [] }

    f : FormedAs here (peer 1) m
    f =
        h.answers.carried (sent_first (look_with (peer 1) m) (peer 1) (spelling m) m [] refl read)
        (rw content refl)

    former : here ≡ f.former
    former = same_Some here f.former f.formed

    asked : Asked
    asked = record { sought = listing_of (query_of lookup); number = 0; szx = 0 }

    sought : listing_of (query_of lookup) ≡ f.asked.sought
    sought =
        ap (λ (a : Asked). a.sought) (same_Some asked f.asked
        (subst (λ t. asked_at step.Look (peer 1, t) here ≡ Some f.asked) token f.asks))

    whole_is : listing (query_of lookup) (entries (look_with (peer 1) m ∷ [])) 0 ≡ f.carries.whole
    whole_is =
        same_Some (listing (query_of lookup) (entries (look_with (peer 1) m ∷ [])) 0)
        f.carries.whole
        (subst (λ (p : Placed).
        seeking.body (listing_of (query_of lookup)) (entries (p.row ∷ p.before)) p.row.moment.0
        ≡ Some f.carries.whole) (sym former)
        (subst (λ (x : Sought).
        seeking.body x (entries (f.former.row ∷ f.former.before)) f.former.row.moment.0
        ≡ Some f.carries.whole) (sym sought) f.carries.found))

-- more is said to follow where nothing does: ACK 2.05 t=c1 [4 0000000000000000][23 0/1/16]
abbrev more_claimed : Message
more_claimed =
    answer codes_of.content (193 ∷ []) ((table.etag, eight) ∷ (table.block2, 8 ∷ []) ∷ []) []

-- An end theorem: nothing here cites it.
pub more_claimed_falls : Headline (look_with (peer 1) more_claimed ∷ []) → ⊥
unfolding machine_on_literals history_on_literals
more_claimed_falls h =
    let it : CarriesNothing more_claimed = carried_nothing more_claimed refl refl refl h in
    false≢true (ap more (same_Some ([], false) ([], true) it))
  where
    more : List ℕ × Bool → Bool
    more part = part.1

-- another body than the listing: ACK 2.05 t=c1 [4 0000000000000000][23 0/0/16] a
abbrev other_body : Message
other_body =
    answer codes_of.content (193 ∷ []) ((table.etag, eight) ∷ (table.block2, []) ∷ []) (97 ∷ [])

-- An end theorem: nothing here cites it.
pub other_body_falls : Headline (look_with (peer 1) other_body ∷ []) → ⊥
unfolding machine_on_literals history_on_literals
other_body_falls h =
    let it : CarriesNothing other_body = carried_nothing other_body refl refl refl h in
    let empty : ◌≡◌ {A = List ℕ} [] (97 ∷ []) =
    ap (λ (part : List ℕ × Bool). part.0) (same_Some ([], false) (97 ∷ [], false) it) in
    absurd cc

-- ---- 2.03

-- by a step that is no look, where memory ran out: ACK 2.03 t=c1 [4 0000000000000000]
abbrev valid : List Opt → Message
valid options = answer codes_of.valid (193 ∷ []) options []

abbrev starved_valid : Row
starved_valid =
    row_of step.Admit (spelling lookup) true
    ((peer 1, spelling (valid ((table.etag, eight) ∷ []))) ∷ []) []

-- An end theorem: nothing here cites it.
pub starved_valid_falls : Headline (starved_valid ∷ []) → ⊥
unfolding messages_on_literals
starved_valid_falls h =
    let v : Validates (record { row = starved_valid; before = [] }) (peer 1)
    (valid ((table.etag, eight) ∷ [])) =
    h.answers.validated
    (sent_first starved_valid (peer 1) (spelling (valid ((table.etag, eight) ∷ [])))
    (valid ((table.etag, eight) ∷ [])) [] refl refl) refl in
    let no : false ≡ true = v.looks in
    absurd cc

-- without a tag: ACK 2.03 t=c1
-- An end theorem: nothing here cites it.
pub bare_valid_falls : Headline (look_with (peer 1) (valid []) ∷ []) → ⊥
unfolding messages_on_literals
bare_valid_falls h =
    let v : Validates (record { row = look_with (peer 1) (valid []); before = [] }) (peer 1)
    (valid []) =
    h.answers.validated
    (sent_first (look_with (peer 1) (valid [])) (peer 1) (spelling (valid [])) (valid []) []
    refl refl) refl in
    let none : ◌≡◌ {A = List Opt} [] ((table.etag, tag (entries []) 0) ∷ []) = v.options in
    absurd cc

-- ---- tags

-- two bodies under one tag: ACK 2.05 t=c1 [4 0000000000000000] a, and b
abbrev body_of : ℕ → Message
body_of c = answer codes_of.content (193 ∷ []) ((table.etag, eight) ∷ []) (c ∷ [])

abbrev two_bodies : Row
two_bodies =
    row_of step.Look (spelling lookup) false
    ((peer 1, spelling (body_of 97)) ∷ (peer 1, spelling (body_of 98)) ∷ []) []

-- An end theorem: nothing here cites it.
pub two_bodies_fall : Headline (two_bodies ∷ []) → ⊥
unfolding messages_on_literals
two_bodies_fall h =
    let one : Sent (two_bodies ∷ []) =
    sent_first two_bodies (peer 1) (spelling (body_of 97)) (body_of 97)
    ((peer 1, spelling (body_of 98)) ∷ []) refl refl in
    let other : Sent (two_bodies ∷ []) = record {
      here = record { row = two_bodies; before = [] };
      within = record { later = []; whole = refl };
      peer = peer 1;
      octets = spelling (body_of 98);
      among = (1, (omega arith, refl));
      message = body_of 98;
      read = refl;
    } in
    let both :
    AreBlocksOfOne (two_bodies ∷ []) (listing_of (query_of lookup)) (body_of 97) (body_of 98) =
    h.tags.answers one other (listing_of (query_of lookup)) refl refl refl refl refl in
    let first : 97 ∷ [] ≡ both.whole = both.first in
    let second : 98 ∷ [] ≡ both.whole = both.second in
    different (ap head (first ∙ sym second))
  where
    head : List ℕ → ℕ
    head [] = 0
    head (c ∷ others) = c

    different : ◌≡◌ {A = ℕ} 97 98 → ⊥
    different same = absurd (omega (arith, same))

-- ---- writes

-- the admission of a write of the peer, with the Message ID 16
abbrev admission : Row
admission = row_of step.Admit [] false [] (note.Admitted (peer 1) 16 ∷ [])

-- the write is admitted again, and the first did not end
-- An end theorem: nothing here cites it.
pub twice_admitted_falls : Headline (admission ∷ admission ∷ []) → ⊥
twice_admitted_falls h =
    let ended : EndedWithoutMemory (admission ∷ []) 0 =
    h.changes.failed (admission ∷ []) [] admission admission (peer 1) 16
    (record { later = []; whole = refl }) (record { later = []; whole = refl }) refl refl
    (omega arith) in
    elim (within_cases admission [] ended.before ended.row ended.within) [
      | inl here ↦ let no : step.Admit ≡ step.Commit 0 =
          ap (λ (r : Row). r.step.kind) here.0 ∙ ended.commits in absurd cc
      | inr further ↦ absurd (nothing_within ended.before ended.row further)
    ]

-- a change by a datagram that is no response: RST 0.00, of a peer with no fetch
abbrev removed : Entry
removed = record { moment = record { 0 = 0 }; worker = 0; peer = peer 1; change = change.Remove 1 }

abbrev reset_entry : Row
reset_entry =
    row_of step.Admit (spelling (empty_message Rst 16)) false []
    (note.Entered removed ∷ note.Ceased (peer 1) ∷ [])

-- An end theorem: nothing here cites it.
pub reset_entry_falls : Headline (reset_entry ∷ []) → ⊥
unfolding messages_on_literals
reset_entry_falls h =
    elim (h.changes.origin [] reset_entry (record { later = []; whole = refl }) (omega arith)) [
      | inl commit ↦ let no : step.Admit ≡ step.Commit commit.0 = commit.1 in absurd cc
      | inr (inl completion) ↦ different completion.answers.message
          (same (empty_message Rst 16) completion.answers.message
          (let it :
          reading (spelling (empty_message Rst 16)) ≡ Ok completion.answers.message =
          completion.answers.read in it)) completion.answers.response
      | inr (inr begin) ↦ let no : step.Admit ≡ step.Begin begin.0 = begin.1 in absurd cc
    ]
  where
    same : (m n : Message) → ◌≡◌ {A = Result Message Unread} (Ok m) (Ok n) → m ≡ n
    same m n e = cc

    different : (m : Message) → empty_message Rst 16 ≡ m → role_of m.kind m.code ≡ role.Response → ⊥
    different m is responds =
        let no : role.Reset ≡ role.Response =
        ap (λ (n : Message). role_of n.kind n.code) is ∙ responds in
        absurd cc

-- an entry of another worker than that of its row
abbrev strange_entry : Row
strange_entry =
    row_of step.Admit [] false [] (note.Entered (record
    { moment = record { 0 = 0 }; worker = 1; peer = peer 1; change = change.Remove 1 })
    ∷ [])

-- An end theorem: nothing here cites it.
pub strange_entry_falls : Headline (strange_entry ∷ []) → ⊥
strange_entry_falls h =
    let it : IsEntryOf [] 0 strange_entry.step
    (record { moment = record { 0 = 0 }; worker = 1; peer = peer 1; change = change.Remove 1 })
    =
    h.changes.entry [] strange_entry _ (record { later = []; whole = refl }) refl in
    let one : ◌≡◌ {A = ℕ} 1 0 = ap (λ (e : Entry). e.worker) it.stamped in
    absurd (omega (arith, one))

-- a commit of a place where nothing was admitted
abbrev stray_commit : Row
stray_commit = row_of (step.Commit 0) [] false [] []

-- An end theorem: nothing here cites it.
pub stray_commit_falls : Headline (stray_commit ∷ []) → ⊥
stray_commit_falls h =
    let at : AdmittedAt [] 0 stray_commit.step =
    h.changes.place [] stray_commit 0 (record { later = []; whole = refl }) refl in
    nothing_within at.before at.row at.within
