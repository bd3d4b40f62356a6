-- Equal tags that are read in two answers of one thing sought mean blocks of one listing, or of one
-- source.
use Rattle.std.proofs.Common.{◌≡◌, ℕ, Bool, true, false, cond, List, [], ◌∷◌, ◌++◌, Option, Some}
use Rattle.std.proofs.Common.{None, option_map, option_and_then, Result, Ok, Err, refl, sym, ap}
use Rattle.std.proofs.Common.{subst, ◌∙◌, append_assoc}
use Rattle.std.specs.Prelude.{is_some}
use Rattle.std.specs.List.{list_any}
use Rattle.std.proofs.lemmas.Option.{same_Some}
use Rattle.rd_base.specs.declared.peers.Peer.{Peer}
use Rattle.message_model.specs.declared.messages.Unread.{Unread}
use Rattle.message_model.specs.Message.{Message}
use Rattle.message_model.specs.Reading.{reading}
use Rattle.message_model.specs.Request.{etags_in}
use Rattle.message_model.specs.RequestKey.{key_in}
use Rattle.history_model.specs.declared.entries.Entry.{Entry}
use Rattle.history_model.specs.Listing.{tag}
use Rattle.history_model.specs.Live.{live}
use Rattle.history_model.proofs.TagLaws.{listing-live, source-live}
use Rattle.event_model.specs.Same.{RequestName}
use Rattle.event_model.specs.KeptAnswers.{answer_kept}
use Rattle.journal_model.specs.declared.steps.StepKind.{StepKind}
use Rattle.journal_model.specs.declared.steps.StepKind.TheVariants as step
use Rattle.journal_model.specs.declared.rows.Row.{Row}
use Rattle.journal_model.specs.Journal.{entries}
use Rattle.journal_model.specs.Rows.{AreRows}
use Rattle.journal_model.specs.Machine.{IsJournal}
use Rattle.journal_model.specs.DeskJournal.{IsDeskJournal}
use Rattle.journal_model.specs.Requests.{asked_block}
use Rattle.journal_model.specs.PlacedRows.{Within, Placed, last_row}
use Rattle.journal_model.specs.BodyFormers.{former_of_body, former_of_kept, former_of_notification}
use Rattle.journal_model.specs.BodyFormers.{reads_further_block, sends_again, former_of_further}
use Rattle.journal_model.specs.BodyFormers.{former_at}
use Rattle.journal_model.specs.BlocksOfOne.{sought_of_sent, AreBlocksOfOne}
use Rattle.journal_model.specs.Sought.{Sought, listing_of, source_of, own_links}
use Rattle.journal_model.specs.Sought as seeking
use Rattle.journal_model.specs.TagsDecideStates.{TagsDecideStates, FormedTagsDecideStates}
use Rattle.journal_model.specs.CarriedBlocks.{FormedAs, IsBlockOf, Sent}
use Rattle.journal_model.specs.AskedListings.{Asked}
use Rattle.journal_model.proofs.entries.JournalLaws.{journal-AreRows, desk-AreRows}
use Rattle.headline_law.proofs.entries.TagStates.{tags_tell}
use Rattle.headline_law.proofs.rows.AnswersAsFormed.{answer_formed}

-- ---- the row that built a body stands in the journal

-- a row stands among rows
abbrev Stands : List Row → Placed → Type 0
Stands rows p = Within rows p.before p.row

-- the newest row stands among them
stands_newest : (p : Placed) → Stands (p.row ∷ p.before) p
stands_newest p = record { later = []; whole = refl }

-- what stands among the rows before stands among them
stands_more : (x : Row) (rows : List Row) (p : Placed) → Stands rows p → Stands (x ∷ rows) p
stands_more x rows p h = record {
  later = x ∷ h.later;
  whole = ap (λ (all : List Row). x ∷ all) h.whole;
}

-- what stands among the rows up to one that stands among others
stands_through : (rows : List Row) (here p : Placed)
    → Stands rows here
    → Stands (here.row ∷ here.before) p
    → Stands rows p
stands_through rows here p outer inner = record {
  later = outer.later ++ inner.later;
  whole =
      outer.whole
      ∙ (ap (λ (all : List Row). outer.later ++ all) inner.whole
      ∙ sym (append_assoc outer.later inner.later (p.row ∷ p.before)));
}

-- the last row of a kind does
stands_last : (test : Row → Bool) (rows : List Row) (p : Placed)
    → last_row test rows ≡ Some p
    → Stands rows p
unfolding last_row
stands_last test [] p e = absurd (let no : None ≡ Some p = e in cc)
stands_last test (r ∷ before) p e = by (test r) e (λ h. stands_last test before p h)
  where
    by : (b : Bool)
        → cond b (Some (record { row = r; before = before })) (last_row test before) ≡ Some p
        → (last_row test before ≡ Some p → Stands before p)
        → Stands (r ∷ before) p
    by true h more =
        subst (λ (x : Placed). Stands (r ∷ before) x)
        (same_Some (record { row = r; before = before }) p h)
        (record { later = []; whole = refl })
    by false h more = stands_more r before p (more h)

-- the row that built what a row kept
stands_body : (k : StepKind) (here p : Placed)
    → former_of_body k here ≡ Some p
    → Stands (here.row ∷ here.before) p
stands_body (step.Keep body tag) here p e =
    stands_more here.row here.before p (stands_last _ here.before p e)
stands_body step.Admit here p e =
    subst (λ (x : Placed). Stands (here.row ∷ here.before) x) (same_Some here p e)
    (stands_newest here)
stands_body step.Look here p e =
    subst (λ (x : Placed). Stands (here.row ∷ here.before) x) (same_Some here p e)
    (stands_newest here)
stands_body (step.Commit place) here p e =
    subst (λ (x : Placed). Stands (here.row ∷ here.before) x) (same_Some here p e)
    (stands_newest here)
stands_body step.Tick here p e =
    subst (λ (x : Placed). Stands (here.row ∷ here.before) x) (same_Some here p e)
    (stands_newest here)
stands_body (step.Begin first) here p e =
    subst (λ (x : Placed). Stands (here.row ∷ here.before) x) (same_Some here p e)
    (stands_newest here)

-- the row that built a kept answer
stands_kept : (name : RequestName) (rows : List Row) (p : Placed)
    → former_of_kept name rows ≡ Some p
    → Stands rows p
stands_kept name rows p e =
    by (last_row (λ r. list_any (λ n. is_some (answer_kept name n)) r.notes) rows) refl e
  where
    by : (o : Option Placed)
        → last_row (λ r. list_any (λ n. is_some (answer_kept name n)) r.notes) rows ≡ o
        → option_and_then (λ (q : Placed). former_of_body q.row.step.kind q) o ≡ Some p
        → Stands rows p
    by None found h = absurd (let no : None ≡ Some p = h in cc)
    by (Some q) found h =
        stands_through rows q p (stands_last _ rows q found) (stands_body q.row.step.kind q p h)

-- the row that built what a row sends
stands_former : (k : StepKind) (peer : Peer) (mid : ℕ) (here p : Placed)
    → former_at k peer mid here ≡ Some p → Stands (here.row ∷ here.before) p
stands_former k peer mid here p e = by k e
  where
    own : (b : Bool) (earlier : Option Placed) → cond b earlier (Some here) ≡ Some p
        → (earlier ≡ Some p → Stands (here.row ∷ here.before) p) → Stands (here.row ∷ here.before) p
    own true earlier h more = more h
    own false earlier h more =
        subst (λ (x : Placed). Stands (here.row ∷ here.before) x) (same_Some here p h)
        (stands_newest here)

    further : (read : Result Message Unread) → former_of_further read here ≡ Some p
        → Stands (here.row ∷ here.before) p
    further (Err fault) h =
        subst (λ (x : Placed). Stands (here.row ∷ here.before) x) (same_Some here p h)
        (stands_newest here)
    further (Ok m) h = stands_more here.row here.before p
        (stands_kept (here.row.step.peer, key_in m) here.before p h)

    heard : cond (reads_further_block (reading here.row.step.datagram) here)
        (former_of_further (reading here.row.step.datagram) here) (Some here) ≡ Some p
        → Stands (here.row ∷ here.before) p
    heard h = own (reads_further_block (reading here.row.step.datagram) here)
        (former_of_further (reading here.row.step.datagram) here) h
        (further (reading here.row.step.datagram))

    by : (kind : StepKind) → former_at kind peer mid here ≡ Some p
        → Stands (here.row ∷ here.before) p
    by (step.Keep body tag) h = stands_more here.row here.before p (stands_last _ here.before p h)
    by step.Tick h = own (sends_again peer mid here) (former_of_notification peer mid here.before) h
        (λ again. stands_more here.row here.before p (stands_last _ here.before p again))
    by step.Admit h = heard h
    by step.Look h = heard h
    by (step.Commit place) h = heard h
    by (step.Begin first) h = heard h

-- ---- the law

-- what is sought is found alike where the live registrations are equal
body-live : (sought : Sought) (history other : List Entry) (moment late : ℕ)
    → live history moment ≡ live other late
    → seeking.body sought history moment ≡ seeking.body sought other late
body-live (listing_of query) history other moment late same =
    ap Some (listing-live query history other moment late same)
body-live (source_of number) history other moment late same =
    source-live number history other moment late same
body-live (own_links query) history other moment late same = refl

-- two answers that were built in rows, with equal tags, of one thing sought
formed_share : (rows : List Row) → AreRows rows → (one other : Sent rows) (sought : Sought)
    → FormedAs one.here one.peer one.message → FormedAs other.here other.peer other.message
    → etags_in one.message ≡ etags_in other.message → sought_of_sent one ≡ Some sought
    → sought_of_sent other ≡ Some sought → AreBlocksOfOne rows sought one.message other.message
formed_share rows all one other sought f g same_tags asks_one asks_other = record {
  before = f.former.before;
  row = f.former.row;
  within = here;
  whole = f.carries.whole;
  found = found_first;
  first_tag = f.carries.tag;
  second_tag = sym same_tags ∙ f.carries.tag;
  first = f.carries.block.block;
  second =
      subst (λ body. IsBlockOf (asked_block other.message) body other.message.payload)
      (sym same_bodies) g.carries.block.block;
}
  where
    here : Stands rows f.former
    here =
        stands_through rows one.here f.former one.within
        (stands_former one.here.row.step.kind one.peer one.message.mid one.here f.former
        f.formed)

    there : Stands rows g.former
    there =
        stands_through rows other.here g.former other.within
        (stands_former other.here.row.step.kind other.peer other.message.mid other.here g.former
        g.formed)

    first_of : List (List ℕ) → List ℕ
    first_of [] = []
    first_of (t ∷ tags) = t

    same_tag :
        tag (entries (f.former.row ∷ f.former.before)) f.former.row.moment.0
        ≡ tag (entries (g.former.row ∷ g.former.before)) g.former.row.moment.0
    same_tag = ap first_of (sym f.carries.tag ∙ (same_tags ∙ g.carries.tag))

    first_sought : f.asked.sought ≡ sought
    first_sought = same_Some f.asked.sought sought
        (sym (ap (option_map (λ (a : Asked). a.sought)) f.asks) ∙ asks_one)

    second_sought : g.asked.sought ≡ sought
    second_sought = same_Some g.asked.sought sought
        (sym (ap (option_map (λ (a : Asked). a.sought)) g.asks) ∙ asks_other)

    found_first : seeking.body sought
        (entries (f.former.row ∷ f.former.before)) f.former.row.moment.0 ≡ Some f.carries.whole
    found_first =
        subst (λ (x : Sought).
        seeking.body x (entries (f.former.row ∷ f.former.before)) f.former.row.moment.0
        ≡ Some f.carries.whole) first_sought f.carries.found

    found_second : seeking.body sought
        (entries (g.former.row ∷ g.former.before)) g.former.row.moment.0 ≡ Some g.carries.whole
    found_second =
        subst (λ (x : Sought).
        seeking.body x (entries (g.former.row ∷ g.former.before)) g.former.row.moment.0
        ≡ Some g.carries.whole) second_sought g.carries.found

    same_bodies : f.carries.whole ≡ g.carries.whole
    same_bodies =
        same_Some f.carries.whole g.carries.whole
        (sym found_first
        ∙ (body-live sought (entries (f.former.row ∷ f.former.before))
        (entries (g.former.row ∷ g.former.before)) f.former.row.moment.0 g.former.row.moment.0
        (tags_tell rows f.former.before g.former.before f.former.row g.former.row all here there
        same_tag).1
        ∙ found_second))

-- equally tagged answers come from one state, and carry blocks of one listing or of one source
pub journal-TagsDecideStates : (rows : List Row) → IsJournal rows → TagsDecideStates rows
journal-TagsDecideStates rows journal = record {
  histories =
      λ before other_before r other here there same.
      (tags_tell rows before other_before r other (journal-AreRows rows journal) here there
      same).0;
  records =
      λ before other_before r other here there same.
      (tags_tell rows before other_before r other (journal-AreRows rows journal) here there
      same).1;
  answers = λ one other sought listed also same_tags asks_one asks_other.
      formed_share rows (journal-AreRows rows journal) one other sought
      (answer_formed rows journal one listed)
      (answer_formed rows journal other also) same_tags asks_one asks_other;
}

-- of a journal of a desk, so do answers that were built in rows
pub desk-FormedTagsDecideStates : (rows : List Row)
    → IsDeskJournal rows
    → FormedTagsDecideStates rows
desk-FormedTagsDecideStates rows journal = record {
  histories =
      λ before other_before r other here there same.
      (tags_tell rows before other_before r other (desk-AreRows rows journal) here there
      same).0;
  records =
      λ before other_before r other here there same.
      (tags_tell rows before other_before r other (desk-AreRows rows journal) here there
      same).1;
  answers = λ one other sought formed also same_tags asks_one asks_other.
      formed_share rows (desk-AreRows rows journal) one other sought formed also same_tags asks_one
      asks_other;
}
