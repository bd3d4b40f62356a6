-- What a tick sends carries the listing of the row that built it, and what is in flight after it
-- is known.
use Rattle.std.proofs.Common.{◌≡◌, ℕ, ◌||◌, Bool, true, false, cond, List, ◌∷◌, Option, Some}
use Rattle.std.proofs.Common.{option_map, Ok, refl, sym, ap, ap₂, subst, ◌∙◌}
use Rattle.std.proofs.lemmas.Bool.{false≢true}
use Rattle.std.proofs.lemmas.Option.{same_Some}
use Rattle.rd_base.specs.declared.peers.Peer.{Peer}
use Rattle.message_model.specs.Message.{Message}
use Rattle.message_model.specs.Reading.{reading}
use Rattle.history_model.specs.Live.{IsFront}
use Rattle.history_model.specs.Listing.{listing, tag}
use Rattle.event_model.specs.declared.notes.Observer.{Observer}
use Rattle.event_model.specs.Same.{RequestName, is_same_request}
use Rattle.event_model.specs.Observers.{name_of, observers}
use Rattle.event_model.proofs.SameLaws.{is_same_request-refl}
use Rattle.event_model.proofs.ObserverLaws.{observers-apart, Only, apart_only}
use Rattle.journal_model.specs.declared.steps.StepKind.{StepKind}
use Rattle.journal_model.specs.declared.steps.StepKind.TheVariants as step
use Rattle.journal_model.specs.declared.rows.Row.{Row}
use Rattle.journal_model.specs.Journal.{events, entries}
use Rattle.journal_model.specs.PlacedRows.{Placed}
use Rattle.journal_model.specs.BodyFormers.{reads_further_block, sends_again, repeats_body}
use Rattle.journal_model.specs.BodyFormers.{former_at, asker_at}
use Rattle.journal_model.specs.CarriedBlocks.{seen, is_content, is_tagged, FormedAs}
use Rattle.journal_model.specs.AskedListings.{
  answers_with_links,
  asked_by_observer,
  observer_named,
  asked_at,
}
use Rattle.journal_model.proofs.entries.JournalLaws.{entries-IsPrefix-row}
use Rattle.journal_model.specs.Sought.{listing_of}
use Rattle.journal_model.proofs.sends.BodyAnswers.{wanted_by_observer, Bears, bears_carries}
use Rattle.rd_base.proofs.lemmas.Among.{Among, all_among, among_all, find_only}
use Rattle.journal_model.proofs.flights.NotificationsAgain.{events_after_again, stood}

-- whatever listing a datagram of a row is read to have was built as the headline says
abbrev pub Carried : Placed → Peer × List ℕ → Type 0
Carried here d =
    (m : Message)
    → reading d.1 ≡ Ok m
    → is_content m ≡ true
    → (answers_with_links here.row.step.kind (reading here.row.step.datagram) || is_tagged m) ≡ true
    → FormedAs here d.0 m

-- ---- what the worker had seen

-- unless a body is repeated, the history at the row that built it holds all that the worker had
-- seen when it was asked
pub former_holds_seen : (k : StepKind) (peer : Peer) (mid : ℕ) (here former : Placed)
    → former_at k peer mid here ≡ Some former → repeats_body k peer mid here ≡ false
    → (asker : Placed) → asker_at k here ≡ Some asker
    → IsFront (seen asker) (entries (former.row ∷ former.before))
former_holds_seen k peer mid here former formed new asker asks = by k formed new asks
  where
    one : (p : Placed) → p ≡ former → p ≡ asker
        → IsFront (seen asker) (entries (former.row ∷ former.before))
    one p first second =
        subst (λ (x : Placed). IsFront (seen x) (entries (former.row ∷ former.before))) (sym first
        ∙ second) (entries-IsPrefix-row former.before former.row)

    own : (b : Bool) (earlier : Option Placed) → cond b earlier (Some here) ≡ Some former
        → b ≡ false → Some here ≡ Some asker
        → IsFront (seen asker) (entries (former.row ∷ former.before))
    own true earlier f n a = absurd (false≢true (sym n))
    own false earlier f n a = one here (same_Some here former f) (same_Some here asker a)

    by : (kind : StepKind) → former_at kind peer mid here ≡ Some former
        → repeats_body kind peer mid here ≡ false → asker_at kind here ≡ Some asker
        → IsFront (seen asker) (entries (former.row ∷ former.before))
    by (step.Keep body tag) f n a = one former refl (same_Some former asker (sym f ∙ a))
    by step.Tick f n a = own (sends_again peer mid here) _ f n a
    by step.Admit f n a = own (reads_further_block (reading here.row.step.datagram) here) _ f n a
    by step.Look f n a = own (reads_further_block (reading here.row.step.datagram) here) _ f n a
    by (step.Commit place) f n a =
        own (reads_further_block (reading here.row.step.datagram) here) _ f n a
    by (step.Begin first) f n a =
        own (reads_further_block (reading here.row.step.datagram) here) _ f n a

-- ---- observers

-- so an observer that stands stood before
pub stood_before : (rows : List Row) (moment word : ℕ) (o : Observer)
    → Among o (observers (events_after_again rows moment word))
    → Among o (observers (events rows))
stood_before rows moment word o stands =
    all_among (λ x. Among x (observers (events rows))) o
    (observers (events_after_again rows moment word))
    (stood rows moment word (λ x. Among x (observers (events rows)))
    (among_all (λ x. Among x (observers (events rows))) (observers (events rows)) (λ x h. h)))
    stands

-- an observer that stands is the one of its name
pub observer_named-Some : (rows : List Row) (o : Observer)
    → Among o (observers (events rows))
    → observer_named (name_of o) rows ≡ Some o
observer_named-Some rows o stands =
    find_only (λ x. is_same_request (name_of x) (name_of o)) o (observers (events rows)) stands
    (is_same_request-refl (name_of o))
    (all_among (λ x. Only x (observers (events rows))) o (observers (events rows))
    (apart_only (observers (events rows)) (observers-apart (events rows))) stands)

-- ---- a message of a tick

-- a message that an observer is sent, as the headline has it
pub observer_formed : (here former : Placed) (o : Observer) (d : Peer × List ℕ) (m : Message)
    → here.row.step.kind ≡ step.Tick
    → Among o (observers (events here.before))
    → d.0 ≡ o.peer
    → Bears (wanted_by_observer o)
    (listing o.query (entries (former.row ∷ former.before)) former.row.moment.0)
    (tag (entries (former.row ∷ former.before)) former.row.moment.0) m
    → former_at step.Tick d.0 m.mid here ≡ Some former → FormedAs here d.0 m
observer_formed here former o d m tick stands same bears formed = record {
  former = former;
  formed = at_kind;
  asked = asked_by_observer o;
  asks = subst (λ k. asked_at k (d.0, m.token) here ≡ Some (asked_by_observer o)) (sym tick)
      (ap (λ (name : RequestName).
      option_map (λ (x : Observer). asked_by_observer x) (observer_named name here.before))
      (ap₂ (λ p t. (p, t)) same bears.token_is)
      ∙ ap (λ found. option_map (λ (x : Observer). asked_by_observer x) found)
      (observer_named-Some here.before o stands));
  carries =
      bears_carries (wanted_by_observer o) (listing_of o.query)
      (entries (former.row ∷ former.before)) former.row.moment.0
      (listing o.query (entries (former.row ∷ former.before)) former.row.moment.0) m refl bears;
  holds_seen = former_holds_seen here.row.step.kind d.0 m.mid here former at_kind;
}
  where
    at_kind : former_at here.row.step.kind d.0 m.mid here ≡ Some former
    at_kind = subst (λ k. former_at k d.0 m.mid here ≡ Some former) (sym tick) formed
