-- Rows that send what they should not, to whom they should not, or not what they note; and a commit
-- of what was not its own: none of them has the headline. Beside each datagram its parts are shown:
-- type, code, Message ID, token, options, payload.
use Rattle.std.proofs.Common.{
  ◌≡◌,
  inl,
  inr,
  ℕ,
  true,
  false,
  List,
  [],
  ◌∷◌,
  Some,
  None,
  Result,
  Ok,
  Err,
  codes,
  refl,
  sym,
  ap,
  subst,
  ◌∙◌,
  arith,
}
use Rattle.std.specs.List.{range_with_len, list_any}
use Rattle.std.proofs.lemmas.Bool.{false≢true}
use Rattle.std.proofs.lemmas.List.FromFn.{length-range_with_len}
use Rattle.rd_base.specs.declared.peers.Host.{Host}
use Rattle.rd_base.specs.declared.peers.Host.TheVariants as host
use Rattle.rd_base.specs.declared.peers.Peer.{Peer}
use Rattle.rd_base.proofs.lemmas.Among.{all_at_index}
use Rattle.message_model.specs.declared.messages.Unread.{Unread}
use Rattle.message_model.specs.declared.messages.Unread.TheVariants as unread
use Rattle.message_model.specs.Codes as codes_of
use Rattle.message_model.specs.declared.messages.Kind4.TheVariants.{Ack}
use Rattle.message_model.specs.declared.messages.Role.TheVariants as role
use Rattle.message_model.specs.Message.{Message, role_of}
use Rattle.message_model.specs.Reading.{reading}
use Rattle.message_model.specs.Spelling.{spelling}
use Rattle.message_model.proofs.OnLiterals.{messages_on_literals}
use Rattle.event_model.specs.declared.notes.Note.TheVariants as note
use Rattle.event_model.specs.Observers.{observers}
use Rattle.event_model.specs.Repeats.{is_admission_of}
use Rattle.event_model.proofs.ManyObservers.{peer}
use Rattle.journal_model.specs.declared.steps.StepKind.TheVariants as step
use Rattle.journal_model.specs.declared.rows.Row.{Row}
use Rattle.journal_model.specs.Journal.{events}
use Rattle.journal_model.specs.Effects.{empty_message}
use Rattle.journal_model.specs.Requests.{asked_block}
use Rattle.journal_model.specs.SentDatagrams.{
  Datagram,
  IsFitting,
  IsAnswer,
  IsNotification,
  SendsFirst,
}
use Rattle.journal_model.specs.Headline.{Headline}
use Rattle.journal_model.specs.AdmittedWrites.{AdmittedAt}
use Rattle.journal_model.specs.CarriedBlocks.{IsBlockOf}
use Rattle.journal_model.proofs.MessageSizeLaws.{message_size-spelling}
use Rattle.headline_law.proofs.entries.FailedLaws.{within_cases, nothing_within}
use Rattle.headline_law.proofs.WrongRows.{row_of, lookup, answer, sent_first}

-- the datagram that the one row of a journal sends
abbrev datagram_of : (r : Row) (to : Peer) (octets : List ℕ)
    → r.sent ≡ (to, octets) ∷ []
    → Datagram (r ∷ [])
datagram_of r to octets is = record {
  here = record { row = r; before = [] };
  within = record { later = []; whole = refl };
  peer = to;
  octets = octets;
  among = rw is (0, (omega arith, refl));
}

-- ---- what cannot be read, or does not fit

-- nothing at all is sent
abbrev blank : Row
blank = row_of step.Look (spelling lookup) false ((peer 1, []) ∷ []) []

-- An end theorem: nothing here cites it.
pub blank_falls : Headline (blank ∷ []) → ⊥
unfolding messages_on_literals
blank_falls h =
    let it : IsFitting [] = h.sends.fitting (datagram_of blank (peer 1) [] refl) in
    let no : ◌≡◌ {A = Result Message Unread} (Err unread.Short) (Ok it.message) = it.read in
    absurd cc

-- a payload of 1,300 octets: ACK 4.04 m=0010 t=c1
abbrev long : Message
long = answer codes_of.not_found (193 ∷ []) [] (range_with_len 0 1_300)

abbrev too_long : Row
too_long = row_of step.Look (spelling lookup) false ((peer 1, spelling long) ∷ []) []

-- An end theorem: nothing here cites it.
pub too_long_falls : Headline (too_long ∷ []) → ⊥
too_long_falls h =
    let it : IsFitting (spelling long) =
    h.sends.fitting (datagram_of too_long (peer 1) (spelling long) refl) in
    let size = message_size-spelling long in
    let octets = length-range_with_len 1 1_299 in
    let short = it.short in
    absurd (omega (arith, size, octets, short))

-- ---- who gets it

-- ACK 4.04 m=0010 path
abbrev refusal : List ℕ → Message
refusal token = answer codes_of.not_found token [] (codes "path")

-- another peer gets the answer
abbrev to_another : Row
to_another =
    row_of step.Admit (spelling lookup) false ((peer 2, spelling (refusal (193 ∷ []))) ∷ []) []

-- the last octet of an address
last_octet : Peer → ℕ
last_octet p = of p.host
  where
    of : Host → ℕ
    of (host.V4 (a ∷ b ∷ c ∷ d ∷ octets)) = d
    of _ = 0

-- An end theorem: nothing here cites it.
pub to_another_falls : Headline (to_another ∷ []) → ⊥
unfolding messages_on_literals last_octet
to_another_falls h =
    let it : IsAnswer (record { row = to_another; before = [] }) (peer 2) (refusal (193 ∷ [])) =
    h.sends.addressed
    (sent_first to_another (peer 2) (spelling (refusal (193 ∷ []))) (refusal (193 ∷ [])) [] refl
    refl) refl in
    different (ap last_octet it.to)
  where
    different : ◌≡◌ {A = ℕ} 2 1 → ⊥
    different same = absurd (omega (arith, same))

-- the answer has another token
abbrev under_another : Row
under_another =
    row_of step.Admit (spelling lookup) false ((peer 1, spelling (refusal (194 ∷ []))) ∷ []) []

-- An end theorem: nothing here cites it.
pub under_another_falls : Headline (under_another ∷ []) → ⊥
unfolding messages_on_literals
under_another_falls h =
    let it : IsAnswer (record { row = under_another; before = [] }) (peer 1) (refusal (194 ∷ [])) =
    h.sends.addressed
    (sent_first under_another (peer 1) (spelling (refusal (194 ∷ []))) (refusal (194 ∷ [])) []
    refl refl) refl in
    elim it.answers [
      | inl request ↦ other request.request (same lookup request.request
          (let read : reading (spelling lookup) ≡ Ok request.request = request.read in read))
          request.token
      | inr repeat ↦ nothing_within repeat.first.before repeat.first.row repeat.within
    ]
  where
    same : (m n : Message) → ◌≡◌ {A = Result Message Unread} (Ok m) (Ok n) → m ≡ n
    same m n e = cc

    head : List ℕ → ℕ
    head [] = 0
    head (c ∷ others) = c

    different : ◌≡◌ {A = ℕ} 194 193 → ⊥
    different e = absurd (omega (arith, e))

    other : (m : Message) → lookup ≡ m → 194 ∷ [] ≡ m.token → ⊥
    other m is e = different (ap head (e ∙ sym (ap (λ (x : Message). x.token) is)))

-- a response to what is no request: an acknowledgement is answered
abbrev unasked : Row
unasked =
    row_of step.Admit (spelling (empty_message Ack 16)) false ((peer 1, spelling (refusal [])) ∷ [])
    []

-- An end theorem: nothing here cites it.
pub unasked_falls : Headline (unasked ∷ []) → ⊥
unfolding messages_on_literals
unasked_falls h =
    let it : IsAnswer (record { row = unasked; before = [] }) (peer 1) (refusal []) =
    h.sends.addressed
    (sent_first unasked (peer 1) (spelling (refusal [])) (refusal []) [] refl refl) refl in
    elim it.answers [
      | inl request ↦ other request.request (same (empty_message Ack 16) request.request (let read :
          reading (spelling (empty_message Ack 16)) ≡ Ok request.request =
          request.read in read)) request.asks
      | inr repeat ↦ nothing_within repeat.first.before repeat.first.row repeat.within
    ]
  where
    same : (m n : Message) → ◌≡◌ {A = Result Message Unread} (Ok m) (Ok n) → m ≡ n
    same m n e = cc

    other : (m : Message) → empty_message Ack 16 ≡ m → role_of m.kind m.code ≡ role.Request → ⊥
    other m is asks =
        let no : role.Acknowledgement ≡ role.Request =
        ap (λ (x : Message). role_of x.kind x.code) is ∙ asks in
        absurd cc

-- a tick sends what is no 2.05
abbrev tick_refuses : Row
tick_refuses = row_of step.Tick [] false ((peer 1, spelling (refusal (193 ∷ []))) ∷ []) []

-- An end theorem: nothing here cites it.
pub tick_refuses_falls : Headline (tick_refuses ∷ []) → ⊥
unfolding messages_on_literals
tick_refuses_falls h =
    let it : IsNotification (record { row = tick_refuses; before = [] }) (peer 1)
    (refusal (193 ∷ [])) =
    h.sends.addressed
    (sent_first tick_refuses (peer 1) (spelling (refusal (193 ∷ []))) (refusal (193 ∷ [])) []
    refl refl) refl in
    absurd (false≢true it.content)

-- ACK 2.05 m=0010 t=c1, with one octet
abbrev with_body : ℕ → Message
with_body c = answer codes_of.content (193 ∷ []) [] (c ∷ [])

-- a tick sends a 2.05 to a peer that observes nothing
abbrev stray_notification : Row
stray_notification = row_of step.Tick [] false ((peer 1, spelling (with_body 97)) ∷ []) []

-- An end theorem: nothing here cites it.
pub stray_notification_falls : Headline (stray_notification ∷ []) → ⊥
unfolding messages_on_literals observers events
stray_notification_falls h =
    let it : IsNotification (record { row = stray_notification; before = [] }) (peer 1)
    (with_body 97) =
    h.sends.addressed
    (sent_first stray_notification (peer 1) (spelling (with_body 97)) (with_body 97) [] refl refl)
    refl in
    let no : None ≡ Some it.observer = it.named in
    absurd cc

-- ---- what is noted

-- a body is noted as built, and is not sent
abbrev unsent : Row
unsent = row_of step.Tick [] false [] (note.Formed (peer 1) (193 ∷ []) [] (Some 0) ∷ [])

-- An end theorem: nothing here cites it.
pub unsent_falls : Headline (unsent ∷ []) → ⊥
unsent_falls h =
    let it : SendsFirst unsent (peer 1) (193 ∷ []) [] =
    h.sends.formed [] unsent (peer 1) (193 ∷ []) [] (Some 0)
    (record { later = []; whole = refl }) (0, (omega arith, refl)) in
    let low = it.among.1.0 in
    absurd (omega (arith, low))

-- a body is noted as built, and another is sent
abbrev other_first : Row
other_first =
    row_of step.Tick [] false ((peer 1, spelling (with_body 98)) ∷ [])
    (note.Formed (peer 1) (193 ∷ []) (97 ∷ []) (Some 16) ∷ [])

-- An end theorem: nothing here cites it.
pub other_first_falls : Headline (other_first ∷ []) → ⊥
unfolding messages_on_literals
other_first_falls h =
    let it : SendsFirst other_first (peer 1) (193 ∷ []) (97 ∷ []) =
    h.sends.formed [] other_first (peer 1) (193 ∷ []) (97 ∷ []) (Some 16)
    (record { later = []; whole = refl }) (0, (omega arith, refl)) in
    let is : with_body 98 ≡ it.message =
    all_at_index (λ (d : Peer × List ℕ). (m : Message) → reading d.1 ≡ Ok m → with_body 98 ≡ m)
    other_first.sent (peer 1, it.octets) it.among ((λ m read. same (with_body 98) m read), tt)
    it.message it.read in
    let block : 98 ∷ [] ≡ 97 ∷ [] =
    subst (λ (m : Message). IsBlockOf (asked_block m) (97 ∷ []) m.payload) (sym is)
    it.carries.block in
    different (ap head block)
  where
    same : (m n : Message) → ◌≡◌ {A = Result Message Unread} (Ok m) (Ok n) → m ≡ n
    same m n e = cc

    head : List ℕ → ℕ
    head [] = 0
    head (c ∷ others) = c

    different : ◌≡◌ {A = ℕ} 98 97 → ⊥
    different e = absurd (omega (arith, e))

-- a row admits a write under another Message ID than that of its message, and it is committed
abbrev strange_admission : Row
strange_admission = row_of step.Admit (spelling lookup) false [] (note.Admitted (peer 1) 17 ∷ [])

abbrev its_commit : Row
its_commit = row_of (step.Commit 0) (spelling lookup) false [] []

-- An end theorem: nothing here cites it.
pub strange_admission_falls : Headline (its_commit ∷ strange_admission ∷ []) → ⊥
unfolding messages_on_literals
strange_admission_falls h =
    let at : AdmittedAt (strange_admission ∷ []) 0 its_commit.step =
    h.changes.place (strange_admission ∷ []) its_commit 0 (record { later = []; whole = refl })
    refl in
    elim (within_cases strange_admission [] at.before at.row at.within) [
      | inl here ↦ of_row at.row here.0 at.message at.read at.admitted
      | inr further ↦ absurd (nothing_within at.before at.row further)
    ]
  where
    same : (m n : Message) → ◌≡◌ {A = Result Message Unread} (Ok m) (Ok n) → m ≡ n
    same m n e = cc

    of_row : (r : Row)
        → strange_admission ≡ r
        → (m : Message)
        → reading r.step.datagram ≡ Ok m
        → list_any (is_admission_of r.step.peer m.mid) r.notes ≡ true
        → ⊥
    of_row r is m read admitted =
        let here : reading (spelling lookup) ≡ Ok m =
        subst (λ (x : Row). reading x.step.datagram ≡ Ok m) (sym is) read in
        let mine :
        list_any (is_admission_of (peer 1) m.mid) (note.Admitted (peer 1) 17 ∷ []) ≡ true =
        subst (λ (x : Row). list_any (is_admission_of x.step.peer m.mid) x.notes ≡ true)
        (sym is) admitted in
        let none :
        list_any (is_admission_of (peer 1) lookup.mid) (note.Admitted (peer 1) 17 ∷ []) ≡ true =
        subst (λ (x : Message).
        list_any (is_admission_of (peer 1) x.mid) (note.Admitted (peer 1) 17 ∷ [])
        ≡ true) (sym (same lookup m here)) mine in
        absurd (false≢true none)
