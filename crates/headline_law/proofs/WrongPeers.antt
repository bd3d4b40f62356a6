-- Rows that write to whom they should not: each falls by the sentence SentToWhom. Beside each
-- datagram its parts are shown: type, code, Message ID, token, options, payload.
use Rattle.std.proofs.Common.{
  ◌≡◌,
  ◌⊎◌,
  inl,
  inr,
  ℕ,
  true,
  false,
  [],
  ◌∷◌,
  Option,
  None,
  codes,
  refl,
  ap,
  arith,
}
use Rattle.std.specs.List.{list_any}
use Rattle.std.proofs.lemmas.Bool.{false≢true}
use Rattle.rd_base.specs.declared.peers.Host.{Host}
use Rattle.rd_base.specs.declared.peers.Host.TheVariants as host
use Rattle.rd_base.specs.declared.peers.Peer.{Peer}
use Rattle.rd_base.specs.declared.parameters.RegParams.{RegParams}
use Rattle.message_model.specs.declared.blocks.Block.{Block}
use Rattle.message_model.specs.declared.messages.Kind4.TheVariants.{Con, Ack, Rst}
use Rattle.message_model.specs.Codes as codes_of
use Rattle.message_model.specs.Message.{Message}
use Rattle.message_model.specs.Spelling.{spelling}
use Rattle.message_model.specs.FetchRequests.{fetch_request}
use Rattle.event_model.specs.declared.notes.Note.TheVariants as note
use Rattle.event_model.proofs.ManyObservers.{peer}
use Rattle.journal_model.proofs.OnLiterals.{machine_on_literals}
use Rattle.journal_model.specs.declared.steps.StepKind.TheVariants as step
use Rattle.journal_model.specs.declared.rows.Row.{Row}
use Rattle.journal_model.specs.Effects.{empty_message}
use Rattle.journal_model.specs.Requests.{number_of}
use Rattle.journal_model.specs.PlacedRows.{Placed}
use Rattle.headline_law.specs.SentToWhom.{
  is_asking,
  AsksOfFetch,
  AsksAgain,
  Rejects,
  Acknowledges,
  SentToWhom,
}
use Rattle.headline_law.proofs.WrongRows.{row_of, lookup, sent_first}

-- the one row of a journal
abbrev alone : Row → Placed
alone r = record { row = r; before = [] }

-- ---- requests

-- CON 0.01 m=0007 t=01 [11 .well-known][11 core]
abbrev asking : Message
asking = fetch_request 7 (1 ∷ []) None

-- a GET to a peer of whom no fetch runs, and none is noted
abbrev asks_stranger : Row
asks_stranger = row_of step.Tick [] false ((peer 1, spelling asking) ∷ []) []

-- An end theorem: nothing here cites it.
pub asks_stranger_falls : SentToWhom (asks_stranger ∷ []) → ⊥
unfolding machine_on_literals
asks_stranger_falls h =
    let it :
    AsksOfFetch (alone asks_stranger) (peer 1) asking
    ⊎ AsksAgain (alone asks_stranger) (peer 1) (spelling asking) =
    h.goes (sent_first asks_stranger (peer 1) (spelling asking) asking [] refl refl) in
    elim it [
      | inl asks ↦ absurd (false≢true asks.noted)
      | inr again ↦ absurd (false≢true again.runs)
    ]

-- what a registration says
abbrev params : RegParams
params = record {
  name = record { ep = codes "n"; sector = None };
  lt = 90_000;
  base = None;
  attrs = [];
}

-- a GET under another token than that which is noted
abbrev asks_under_another : Row
asks_under_another =
    row_of step.Admit [] false ((peer 1, spelling asking) ∷ [])
    (note.Asked (peer 1) (2 ∷ []) 7 params 0 ∷ [])

-- An end theorem: nothing here cites it.
pub asks_under_another_falls : SentToWhom (asks_under_another ∷ []) → ⊥
unfolding machine_on_literals
asks_under_another_falls h =
    let it :
    AsksOfFetch (alone asks_under_another) (peer 1) asking
    ⊎ AsksAgain (alone asks_under_another) (peer 1) (spelling asking) =
    h.goes (sent_first asks_under_another (peer 1) (spelling asking) asking [] refl refl) in
    elim it [
      | inl asks ↦ other asks.block asks.noted
      | inr again ↦ absurd (false≢true again.runs)
    ]
  where
    other : (b : Option Block)
        → list_any (is_asking (peer 1) asking (number_of b)) asks_under_another.notes ≡ true
        → ⊥
    other b h = absurd (false≢true h)

-- CON 0.04 m=0007 t=01: a fetch that runs asks its peer to remove something
abbrev removing : Message
removing = record {
  kind = Con;
  code = codes_of.delete;
  mid = 7;
  token = 1 ∷ [];
  options = [];
  payload = [];
}

abbrev asks_to_remove : Row
asks_to_remove =
    row_of step.Admit [] false ((peer 1, spelling removing) ∷ [])
    (note.Asked (peer 1) (1 ∷ []) 7 params 0 ∷ [])

-- An end theorem: nothing here cites it.
pub asks_to_remove_falls : SentToWhom (asks_to_remove ∷ []) → ⊥
unfolding machine_on_literals
asks_to_remove_falls h =
    let it :
    AsksOfFetch (alone asks_to_remove) (peer 1) removing
    ⊎ AsksAgain (alone asks_to_remove) (peer 1) (spelling removing) =
    h.goes (sent_first asks_to_remove (peer 1) (spelling removing) removing [] refl refl) in
    elim it [
      | inl asks ↦ different (ap (λ (m : Message). m.code) asks.request)
      | inr again ↦ absurd (false≢true again.runs)
    ]
  where
    different : ◌≡◌ {A = ℕ} 4 1 → ⊥
    different e = absurd (omega (arith, e))

-- ---- Resets and acknowledgements

-- CON 0.00 m=0010: a ping
abbrev ping : Message
ping = empty_message Con 16

-- RST m=0010 to a peer that sent nothing, for a ping of another
abbrev resets_stranger : Row
resets_stranger =
    row_of step.Admit (spelling ping) false ((peer 2, spelling (empty_message Rst 16)) ∷ []) []

-- the last octet of an address
last_octet : Peer → ℕ
last_octet p = of p.host
  where
    of : Host → ℕ
    of (host.V4 (a ∷ b ∷ c ∷ d ∷ octets)) = d
    of _ = 0

-- An end theorem: nothing here cites it.
pub resets_stranger_falls : SentToWhom (resets_stranger ∷ []) → ⊥
unfolding machine_on_literals last_octet
resets_stranger_falls h =
    let it : Rejects (alone resets_stranger) (peer 2) (empty_message Rst 16) =
    h.goes
    (sent_first resets_stranger (peer 2) (spelling (empty_message Rst 16)) (empty_message Rst 16)
    [] refl refl) in
    different (ap last_octet it.to)
  where
    different : ◌≡◌ {A = ℕ} 2 1 → ⊥
    different e = absurd (omega (arith, e))

-- RST m=0011, for a ping under another Message ID
abbrev resets_another : Row
resets_another =
    row_of step.Admit (spelling ping) false ((peer 1, spelling (empty_message Rst 17)) ∷ []) []

-- An end theorem: nothing here cites it.
pub resets_another_falls : SentToWhom (resets_another ∷ []) → ⊥
unfolding machine_on_literals
resets_another_falls h =
    let it : Rejects (alone resets_another) (peer 1) (empty_message Rst 17) =
    h.goes
    (sent_first resets_another (peer 1) (spelling (empty_message Rst 17)) (empty_message Rst 17)
    [] refl refl) in
    absurd (false≢true it.rejected)

-- RST m=0010, for a lookup that could be read: a tick sends it
abbrev resets_unheard : Row
resets_unheard =
    row_of step.Tick (spelling ping) false ((peer 1, spelling (empty_message Rst 16)) ∷ []) []

-- An end theorem: nothing here cites it.
pub resets_unheard_falls : SentToWhom (resets_unheard ∷ []) → ⊥
unfolding machine_on_literals
resets_unheard_falls h =
    let it : Rejects (alone resets_unheard) (peer 1) (empty_message Rst 16) =
    h.goes
    (sent_first resets_unheard (peer 1) (spelling (empty_message Rst 16)) (empty_message Rst 16)
    [] refl refl) in
    absurd (let no : step.Tick ≡ step.Admit = it.heard in cc)

-- ACK 0.00 m=0010, for a lookup: its answer would come apart
abbrev acknowledges_lookup : Row
acknowledges_lookup =
    row_of step.Admit (spelling lookup) false ((peer 1, spelling (empty_message Ack 16)) ∷ []) []

-- An end theorem: nothing here cites it.
pub acknowledges_lookup_falls : SentToWhom (acknowledges_lookup ∷ []) → ⊥
unfolding machine_on_literals
acknowledges_lookup_falls h =
    let it : Acknowledges (alone acknowledges_lookup) (peer 1) (empty_message Ack 16) =
    h.goes
    (sent_first acknowledges_lookup (peer 1) (spelling (empty_message Ack 16))
    (empty_message Ack 16) [] refl refl) in
    absurd (false≢true it.acknowledged)

-- CON 0.00 m=0010: the directory pings
abbrev pings : Row
pings = row_of step.Tick [] false ((peer 1, spelling ping) ∷ []) []

-- An end theorem: nothing here cites it.
pub pings_falls : SentToWhom (pings ∷ []) → ⊥
unfolding machine_on_literals
pings_falls h =
    let none : ⊥ = h.goes (sent_first pings (peer 1) (spelling ping) ping [] refl refl) in none
