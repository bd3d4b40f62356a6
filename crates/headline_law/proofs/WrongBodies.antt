-- Rows that send a body of another state than the one that they should: none of them has the
-- headline; and wrong answers of a desk, none of which has what holds of its journals. Beside each
-- datagram its parts are shown: type, code, Message ID, token, options, payload.
use Rattle.std.proofs.Common.{◌≡◌, ◌⊎◌, inl, inr, ℕ, Bool, true, false, List, [], ◌∷◌, Option, Some}
use Rattle.std.proofs.Common.{Result, Ok, codes, refl, sym, ap, subst, ◌∙◌, arith}
use Rattle.std.proofs.lemmas.Option.{same_Some}
use Rattle.message_model.specs.declared.messages.Kind4.TheVariants.{Con}
use Rattle.message_model.specs.declared.messages.Unread.{Unread}
use Rattle.message_model.specs.Codes as codes_of
use Rattle.message_model.specs.Message.{Message}
use Rattle.message_model.specs.OptionTable as table
use Rattle.message_model.specs.Reading.{reading}
use Rattle.message_model.specs.RequestKey.{key_in}
use Rattle.message_model.specs.Spelling.{spelling}
use Rattle.message_model.proofs.OnLiterals.{messages_on_literals}
use Rattle.history_model.specs.declared.entries.Change.TheVariants as change
use Rattle.history_model.specs.Listing.{listing, tag}
use Rattle.history_model.proofs.HistoryLiterals.{history_on_literals}
use Rattle.event_model.specs.declared.notes.Note.TheVariants as note
use Rattle.event_model.proofs.ManyObservers.{peer}
use Rattle.journal_model.specs.declared.steps.StepKind.TheVariants as step
use Rattle.journal_model.specs.declared.rows.Row.{Row}
use Rattle.journal_model.specs.Journal.{entries}
use Rattle.journal_model.specs.Requests.{query_of, asked_block}
use Rattle.journal_model.specs.PlacedRows.{Within, Placed}
use Rattle.journal_model.specs.Sought.{Sought, listing_of}
use Rattle.journal_model.specs.Sought as seeking
use Rattle.journal_model.specs.BlocksOfOne.{AreBlocksOfOne}
use Rattle.journal_model.specs.TagsDecideStates.{TagsDecideStates}
use Rattle.journal_model.specs.SentDatagrams.{IsAnswer, IsForRequest, AreForRequests}
use Rattle.journal_model.specs.Headline.{Headline, DeskHeadline}
use Rattle.journal_model.specs.AskedListings.{Asked}
use Rattle.journal_model.specs.CarriedBlocks.{IsBlockOf, FormedAs, Sent}
use Rattle.journal_model.proofs.OnLiterals.{machine_on_literals}
use Rattle.headline_law.proofs.entries.FailedLaws.{within_cases, nothing_within}
use Rattle.headline_law.proofs.WrongRows.{row_of, lookup, answer, sent_first}

-- the tag of a directory without entries
abbrev no_entries : List ℕ
no_entries = 0 ∷ 0 ∷ 0 ∷ 0 ∷ 0 ∷ 0 ∷ 0 ∷ 0 ∷ []

-- ---- the listing of before a change is sent after it, under its tag, as if it were read from the
-- kept answer of another peer

-- ACK 2.05 m=0010 t=c1 [4 0000000000000000]
abbrev old_listing : Message
old_listing = answer codes_of.content (193 ∷ []) ((table.etag, no_entries) ∷ []) []

-- peer 2 had the listing of before the change kept
abbrev kept_for_another : Row
kept_for_another = row_of (step.Keep [] no_entries) [] false []
    (note.Kept (peer 2) (key_in lookup) [] no_entries ∷ [])

-- the change
abbrev changed : Row
changed = row_of (step.Commit 0) [] false []
    (note.Entered (record {
      moment = record { 0 = 0 };
      worker = 0;
      peer = peer 2;
      change = change.Remove 1;
    }) ∷ [])

-- peer 1 looks
abbrev looked_after : Row
looked_after = row_of step.Look (spelling lookup) false ((peer 1, spelling old_listing) ∷ [])
    (note.Used (peer 2) (key_in lookup) ∷ [])

-- An end theorem: nothing here cites it.
pub old_listing_falls : Headline (looked_after ∷ changed ∷ kept_for_another ∷ []) → ⊥
unfolding messages_on_literals machine_on_literals
old_listing_falls h =
    absurd (let one : ◌≡◌ {A = ℕ} 0 1 = ap sixth (f.carries.tag
    ∙ ap (λ (p : Placed). tag (entries (p.row ∷ p.before)) p.row.moment.0 ∷ []) (sym former)) in
    omega (arith, one))
  where
    here : Placed
    here = record { row = looked_after; before = changed ∷ kept_for_another ∷ [] }

    sent : Sent (looked_after ∷ changed ∷ kept_for_another ∷ [])
    sent = record {
      here = here;
      within = record { later = []; whole = refl };
      peer = peer 1;
      octets = spelling old_listing;
      among = (0, (omega arith, refl));
      message = old_listing;
      read = refl;
    }

    f : FormedAs here (peer 1) old_listing
    f = h.answers.carried sent refl

    former : here ≡ f.former
    former = same_Some here f.former f.formed

    -- the low octet of the number of entries in the first tag
    sixth : List (List ℕ) → ℕ
    sixth ((a ∷ b ∷ c ∷ d ∷ e ∷ f ∷ g) ∷ others) = f
    sixth _ = 0

-- ---- blocks of two states under one tag

-- ACK 2.05 m=0010 t=c1 [4 0000000000000000][23 0/1/16] aaaaaaaaaaaaaaaa, and the same with [23
-- 1/0/16] b
abbrev first_part : Message
first_part = answer codes_of.content (193 ∷ [])
    ((table.etag, no_entries) ∷ (table.block2, 8 ∷ []) ∷ []) (codes "aaaaaaaaaaaaaaaa")

abbrev second_part : Message
second_part = answer codes_of.content (193 ∷ [])
    ((table.etag, no_entries) ∷ (table.block2, 16 ∷ []) ∷ []) (codes "b")

-- one is sent before a change and the other after it; what the tag says is of neither
abbrev first_sent : Row
first_sent = row_of step.Look (spelling lookup) false ((peer 1, spelling first_part) ∷ []) []

abbrev second_sent : Row
second_sent = row_of step.Look (spelling lookup) false ((peer 1, spelling second_part) ∷ []) []

abbrev two_states : List Row
two_states = second_sent ∷ changed ∷ first_sent ∷ []

-- the third sentence alone refuses them: at no row of the journal is the listing one of which both
-- are blocks
-- An end theorem: nothing here cites it.
pub two_states_fall : TagsDecideStates two_states → ⊥
unfolding messages_on_literals machine_on_literals history_on_literals
two_states_fall h =
    by (within_cases second_sent (changed ∷ first_sent ∷ []) both.before both.row both.within)
  where
    one : Sent two_states
    one = record {
      here = record { row = first_sent; before = [] };
      within = record { later = second_sent ∷ changed ∷ []; whole = refl };
      peer = peer 1;
      octets = spelling first_part;
      among = (0, (omega arith, refl));
      message = first_part;
      read = refl;
    }

    other : Sent two_states
    other = record {
      here = record { row = second_sent; before = changed ∷ first_sent ∷ [] };
      within = record { later = []; whole = refl };
      peer = peer 1;
      octets = spelling second_part;
      among = (0, (omega arith, refl));
      message = second_part;
      read = refl;
    }

    both : AreBlocksOfOne two_states (listing_of (query_of lookup)) first_part second_part
    both = h.answers one other (listing_of (query_of lookup)) refl refl refl refl refl

    -- nothing is listed at any of the rows, so what is listed has no such block
    empty_block : ◌≡◌ {A = Option (List ℕ × Bool)} (Some ([], false))
        (Some (codes "aaaaaaaaaaaaaaaa", true)) → ⊥
    empty_block same = absurd (let no : false ≡ true =
        ap (λ (part : List ℕ × Bool). part.1)
        (same_Some ([], false) (codes "aaaaaaaaaaaaaaaa", true) same) in cc)

    -- the listing at a row, which has the first block
    Shows : Row → List Row → Type 0
    Shows r before = IsBlockOf (asked_block first_part)
        (listing (query_of lookup) (entries (r ∷ before)) r.moment.0) first_part.payload

    at : (r : Row) (before : List Row) → r ≡ both.row → before ≡ both.before → Shows r before
    at r before same_row same_before =
        subst (λ (x : Row). Shows x before) (sym same_row)
        (subst (λ (rows : List Row). Shows both.row rows) (sym same_before)
        (subst (λ (body : List ℕ). IsBlockOf (asked_block first_part) body first_part.payload)
        (sym (same_Some
        (listing (query_of lookup) (entries (both.row ∷ both.before)) both.row.moment.0) both.whole
        both.found)) both.first))

    by : ((second_sent ≡ both.row) × (changed ∷ first_sent ∷ [] ≡ both.before))
        ⊎ Within (changed ∷ first_sent ∷ []) both.before both.row → ⊥
    by (inl here) = empty_block (at second_sent (changed ∷ first_sent ∷ []) here.0 here.1)
    by (inr further) = elim (within_cases changed (first_sent ∷ []) both.before both.row further) [
      | inl here ↦ empty_block (at changed (first_sent ∷ []) here.0 here.1)
      | inr last ↦ elim (within_cases first_sent [] both.before both.row last) [
        | inl here ↦ empty_block (at first_sent [] here.0 here.1)
        | inr none ↦ nothing_within both.before both.row none
      ]
    ]

-- ---- answers of a desk

-- a lookup that observes: CON 0.01 m=0010 t=c1 [6 x][11 rd-lookup][11 ep]
abbrev observing : Message
observing = record {
  kind = Con;
  code = codes_of.get;
  mid = 16;
  token = 193 ∷ [];
  options = (table.observe, []) ∷ (table.uri_path, codes "rd-lookup") ∷ (table.uri_path, codes "ep")
      ∷ [];
  payload = [];
}

-- it is answered with another body than the listing: ACK 2.05 m=0010 t=c1 [4 0000000000000000] a
abbrev strange_body : Message
strange_body = answer codes_of.content (193 ∷ []) ((table.etag, no_entries) ∷ []) (codes "a")

abbrev observed_strangely : Row
observed_strangely =
    row_of step.Admit (spelling observing) false ((peer 1, spelling strange_body) ∷ []) []

-- An end theorem: nothing here cites it.
pub observed_strangely_falls : DeskHeadline (observed_strangely ∷ []) → ⊥
unfolding messages_on_literals machine_on_literals history_on_literals
observed_strangely_falls h = empty_body carried
  where
    here : Placed
    here = record { row = observed_strangely; before = [] }

    f : FormedAs here (peer 1) strange_body
    f = h.answers.carried
        (sent_first observed_strangely (peer 1) (spelling strange_body) strange_body [] refl refl)
        refl refl

    former : here ≡ f.former
    former = same_Some here f.former f.formed

    asked : Asked
    asked = record { sought = listing_of (query_of observing); number = 0; szx = 6 }

    sought : listing_of (query_of observing) ≡ f.asked.sought
    sought = ap (λ (a : Asked). a.sought) (same_Some asked f.asked f.asks)

    whole_is :
        listing (query_of observing) (entries (observed_strangely ∷ [])) 0 ≡ f.carries.whole
    whole_is =
        same_Some (listing (query_of observing) (entries (observed_strangely ∷ [])) 0)
        f.carries.whole
        (subst (λ (p : Placed).
        seeking.body (listing_of (query_of observing)) (entries (p.row ∷ p.before)) p.row.moment.0
        ≡ Some f.carries.whole) (sym former)
        (subst (λ (x : Sought).
        seeking.body x (entries (f.former.row ∷ f.former.before)) f.former.row.moment.0
        ≡ Some f.carries.whole) (sym sought) f.carries.found))

    carried : IsBlockOf (asked_block strange_body)
        (listing (query_of observing) (entries (observed_strangely ∷ [])) 0) strange_body.payload
    carried =
        subst (λ (body : List ℕ). IsBlockOf (asked_block strange_body) body strange_body.payload)
        (sym whole_is) f.carries.block.block

    empty_body : ◌≡◌ {A = List ℕ} (codes "a") [] → ⊥
    empty_body same = absurd cc

-- a refusal of a desk under another token than that of its request: ACK 4.04 m=0010 t=c2 path
abbrev misdirected : Message
misdirected = answer codes_of.not_found (194 ∷ []) [] (codes "path")

abbrev answered_another : Row
answered_another = row_of step.Admit (spelling lookup) false
    ((peer 1, spelling misdirected) ∷ []) []

-- An end theorem: nothing here cites it.
pub answered_another_falls : DeskHeadline (answered_another ∷ []) → ⊥
unfolding messages_on_literals
answered_another_falls h =
    elim it.answers [
      | inl request ↦ other request.request
          (same lookup request.request
          (let read : reading (spelling lookup) ≡ Ok request.request = request.read in
          read)) request.token
      | inr repeat ↦ nothing_within repeat.first.before repeat.first.row repeat.within
    ]
  where
    requests : AreForRequests (answered_another ∷ [])
    requests before r m within read = by (within_cases answered_another [] before r within)
      where
        by : ((answered_another ≡ r) × ([] ≡ before)) ⊎ Within [] before r
            → IsForRequest r.step.kind m
        by (inl here) = subst (λ (x : Row). IsForRequest x.step.kind m) here.0 tt
        by (inr none) = absurd (nothing_within before r none)

    it : IsAnswer (record { row = answered_another; before = [] }) (peer 1) misdirected
    it = (h.sends requests).addressed
        (sent_first answered_another (peer 1) (spelling misdirected) misdirected [] refl refl) refl

    same : (m n : Message) → ◌≡◌ {A = Result Message Unread} (Ok m) (Ok n) → m ≡ n
    same m n e = cc

    head : List ℕ → ℕ
    head [] = 0
    head (c ∷ others) = c

    other : (m : Message) → lookup ≡ m → 194 ∷ [] ≡ m.token → ⊥
    other m is e = absurd
        (let different : ◌≡◌ {A = ℕ} 194 193 = ap head (e
        ∙ sym (ap (λ (x : Message). x.token) is)) in omega (arith, different))
