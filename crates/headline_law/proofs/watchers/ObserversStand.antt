-- Who observes (the sentence ObserversStand).
use Rattle.std.proofs.Common.{
  ◌≡◌,
  ◌⊎◌,
  inl,
  inr,
  ℕ,
  ◌||◌,
  Bool,
  true,
  false,
  not,
  cond,
  List,
  [],
  ◌∷◌,
  ◌++◌,
  length,
  find,
  filter,
  Some,
  Ok,
  refl,
  sym,
  ap,
  subst,
  ◌∙◌,
  leb-true,
}
use Rattle.std.specs.List.{list_any, IsAmong, AllByRecursion}
use Rattle.std.proofs.lemmas.Bool.{false≢true, leb-false}
use Rattle.rd_base.specs.declared.peers.Peer.{Peer}
use Rattle.rd_base.proofs.lemmas.Among.{Among, all_among, among_all, all_at_index, any_among}
use Rattle.message_model.specs.declared.messages.Kind4.TheVariants.{Rst, Ack}
use Rattle.message_model.specs.declared.messages.Role.TheVariants as role
use Rattle.message_model.specs.Message.{Message, role_of}
use Rattle.message_model.specs.OptionTable as table
use Rattle.message_model.specs.OptionTable.{stands_in}
use Rattle.message_model.specs.Reading.{reading}
use Rattle.message_model.specs.Spelling.{spelling}
use Rattle.message_model.specs.FetchRequests.{fetch_request}
use Rattle.event_model.specs.declared.notes.Note.{Note}
use Rattle.event_model.specs.declared.notes.Note.TheVariants as note
use Rattle.event_model.specs.declared.notes.Observer.{Observer}
use Rattle.event_model.specs.Same.{is_same_request}
use Rattle.event_model.specs.Events.{Event, noted}
use Rattle.event_model.specs.Observers.{name_of, is_end_of, observer_added, observers}
use Rattle.event_model.specs.Flights.{max_again, deadline, flight}
use Rattle.event_model.proofs.EventEquations.{observers-event}
use Rattle.event_model.proofs.NotedLaws.{event_at, noted-append, is_watching}
use Rattle.event_model.proofs.ObserverEvents.{
  changes_observers,
  without_named,
  observers-Watched,
  observers-quiet_noted,
}
use Rattle.event_model.proofs.ObserverLaws.{Only, apart-sym, apart_only, observers-apart}
use Rattle.event_model.proofs.SameLaws.{is_same_request-Decides, is_same_request-refl}
use Rattle.journal_model.specs.declared.steps.Step.{Step}
use Rattle.journal_model.specs.declared.steps.StepKind.{StepKind}
use Rattle.journal_model.specs.declared.steps.StepKind.TheVariants as step
use Rattle.journal_model.specs.declared.rows.Row.{Row}
use Rattle.journal_model.specs.Journal.{events}
use Rattle.journal_model.specs.Effects.{answer, empty_message, answering}
use Rattle.journal_model.specs.Requests.{is_heeded}
use Rattle.journal_model.specs.Lookups.{observer_of}
use Rattle.journal_model.specs.Machine.{IsJournal}
use Rattle.journal_model.specs.DeskJournal.{IsDeskJournal}
use Rattle.journal_model.specs.PlacedRows.{Within}
use Rattle.journal_model.specs.Rows.{row, row_moment, AreRows, effects, heard, message_effects}
use Rattle.journal_model.specs.SentDatagrams.{is_response, AreForRequests}
use Rattle.journal_model.specs.CarriedBlocks.{Sent}
use Rattle.journal_model.specs.AskedListings.{observer_named}
use Rattle.journal_model.proofs.EventRows.{AllRows, row_within}
use Rattle.journal_model.proofs.RowEquations.{events-row}
use Rattle.journal_model.proofs.entries.JournalLaws.{
  RowMade,
  each_made,
  journal-AreRows,
  desk-AreRows,
}
use Rattle.journal_model.proofs.flights.WaitedPeers.{stands_on}
use Rattle.journal_model.proofs.sends.BodyAnswers.{same_message}
use Rattle.headline_law.specs.ObserversStand.{
  carries_observe,
  MakesObserver,
  ObservesSo,
  AsksAnew,
  EndsObserving,
  asks_anew,
  rejects_notification,
  never_acknowledges,
  AsksToBe,
  ObserversStand,
}
use Rattle.headline_law.proofs.whom.RunningFetches.{empty_read, request_read}
use Rattle.headline_law.proofs.whom.Dispatches.{
  AddsObserver,
  IsDispatch,
  answers,
  repeats,
  rejects,
  acknowledges,
  fetches_block,
}
use Rattle.headline_law.proofs.whom.GoesRows.{GoesBy, RowGoes, answer_read}
use Rattle.headline_law.proofs.whom.WhomLaws.{
  among_index,
  SettledIn,
  settled_in,
  journal_goes,
  desk_goes,
}
use Rattle.headline_law.proofs.answers.AnsweredAlike.{Does, does}
use Rattle.headline_law.proofs.answers.CommitAnswers.{good_read}
use Rattle.headline_law.proofs.watchers.ToldObservers.{Told, admit_told}
use Rattle.headline_law.proofs.watchers.ObserversEnd.{
  rejected_gone,
  given_up_gone,
  cancelled_none,
}
use Rattle.headline_law.proofs.watchers.ObserverNotes.{
  Asked,
  Added,
  Ended,
  by_asking,
  by_rejecting,
  by_waiting,
  Landed,
  SentAgain,
  WatchFact,
  WatchFacts,
  effects_watch,
}

-- ---- elements of lists

-- what is at an index of a list is one of it
among_of : {X : Type 0} (x : X) (xs : List X) → IsAmong xs x → Among x xs
among_of x xs there =
    all_at_index (λ y. Among y xs) xs x there (among_all (λ y. Among y xs) xs (λ y h. h))

-- one of two lists
among_parts : {X : Type 0} (x : X) (xs ys : List X)
    → Among x (xs ++ ys)
    → Among x xs ⊎ Among x ys
among_parts x [] ys h = inr h
among_parts x (y ∷ xs) ys (inl same) = inl (inl same)
among_parts x (y ∷ xs) ys (inr further) = elim (among_parts x xs ys further) [
  | inl h ↦ inl (inr h)
  | inr h ↦ inr h
]

-- one of those that pass is one of all
among_filtered : {X : Type 0} (test : X → Bool) (x : X) (xs : List X)
    → Among x (filter test xs)
    → Among x xs
among_filtered test x [] h = h
among_filtered {X} test x (y ∷ xs) h = by (test y) h (λ g. among_filtered test x xs g)
  where
    by : (b : Bool)
        → Among x (cond b (y ∷ filter test xs) (filter test xs))
        → (Among x (filter test xs) → Among x xs)
        → Among x (y ∷ xs)
    by true (inl same) more = inl same
    by true (inr further) more = inr (more further)
    by false further more = inr (more further)

-- where one passes a test, what holds of each holds of one that passes it
record Passing (test : Note → Bool) (P : Note → Type 0) : Type 0 where
  one : Note
  passes : test one ≡ true
  holds : P one

passing : (test : Note → Bool) (P : Note → Type 0) (notes : List Note)
    → AllByRecursion P notes
    → list_any test notes ≡ true
    → Passing test P
passing test P [] all some = absurd (false≢true some)
passing test P (n ∷ notes) all some =
    by (test n) refl some (λ h. passing test P notes all.1 h)
  where
    by : (b : Bool)
        → test n ≡ b
        → (b || list_any test notes) ≡ true
        → (list_any test notes ≡ true → Passing test P)
        → Passing test P
    by true good h more = record { one = n; passes = good; holds = all.0 }
    by false bad h more = more h

-- ---- what rows note

-- of each row
abbrev RowWatches : List Row → Row → Type 0
RowWatches before r = WatchFacts before r.moment.0 r.step.kind r.step r.notes

row_watches : (rows before : List Row) (r : Row)
    → AreRows rows
    → Within rows before r
    → RowWatches before r
unfolding row
row_watches rows before r all within =
    let it : RowMade before r = each_made rows before r all within in
    subst (RowWatches before) (sym it.is)
    (effects_watch it.step.kind it.starved before (row_moment before it.step) it.step)

-- ---- how one ends

-- memory did not run out in a row that hears a request and notes something
abbrev Ample : Row → Type 0
Ample r =
    (m : Message)
    → r.step.kind ≡ step.Admit
    → reading r.step.datagram ≡ Ok m
    → role_of m.kind m.code ≡ role.Request
    → r.starved ≡ false

-- where memory runs out, a request is answered, and nothing is noted
starved_silent : (rows : List Row) (moment : ℕ) (s : Step) (m : Message)
    → reading s.datagram ≡ Ok m
    → role_of m.kind m.code ≡ role.Request
    → (effects step.Admit true rows moment s).notes ≡ []
unfolding effects answering
starved_silent rows moment s m read asks =
    ap (λ x. (heard true rows moment s x).notes) read
    ∙ ap (λ r. (message_effects r true rows moment s m).notes) asks

ample_row : (before : List Row) (r : Row) (test : Note → Bool)
    → Does before r
    → list_any test r.notes ≡ true
    → Ample r
ample_row before r test done some m hears read asks = by r.starved refl
  where
    by : (b : Bool) → r.starved ≡ b → r.starved ≡ false
    by false is = is
    by true is =
        absurd (false≢true
        (sym (ap (list_any test)
        (done.1
        ∙ (ap (λ k. (effects k r.starved before r.moment.0 r.step).notes) hears
        ∙ (ap (λ b. (effects step.Admit b before r.moment.0 r.step).notes) is
        ∙ starved_silent before r.moment.0 r.step m read asks)))) ∙ some))

-- a request of its peer under its token
asked_anew : (r : Row) (o : Observer) (peer : Peer) (token : List ℕ)
    → Ample r
    → (peer, token) ≡ name_of o
    → Asked r.step.kind r.step peer token
    → AsksAnew r o
asked_anew r o peer token ample named it = record {
  request = it.message;
  asks = record {
    heard = it.heard;
    read = it.read;
    asks = it.asks;
    lookup = it.lookup;
    first = it.first;
    heeded = it.heeded;
    unrefused = it.unrefused;
  };
  ample = ample it.message it.heard it.read it.asks;
  peer = ap (λ (n : Peer × List ℕ). n.0) (sym named) ∙ it.peer_is;
  token = ap (λ (n : Peer × List ℕ). n.1) (sym named) ∙ it.token_is;
}

-- the one of its name is it
its_own : (before : List Row) (o x : Observer)
    → Among o (observers (events before))
    → Among x (observers (events before))
    → name_of x ≡ name_of o
    → x ≡ o
its_own before o x stands other same =
    all_among (λ y. is_same_request (name_of y) (name_of o) ≡ true → y ≡ o) x
    (observers (events before))
    (all_among (λ y. Only y (observers (events before))) o (observers (events before))
    (apart_only (observers (events before)) (observers-apart (events before))) stands) other
    ((is_same_request-Decides (name_of x) (name_of o)).1 same)

-- a note that ends it has a reason
ended_so : (before : List Row) (r : Row) (o : Observer) (n : Note)
    → Among o (observers (events before))
    → Ample r
    → WatchFact before r.moment.0 r.step.kind r.step n
    → is_end_of n (name_of o) ≡ true
    → EndsObserving before r o
ended_so before r o (note.Watched x) stands ample fact ends =
    asks_anew (asked_anew r o x.peer x.token ample
    ((is_same_request-Decides (name_of x) (name_of o)).0 ends) fact.asked)
ended_so before r o (note.Unwatched peer token) stands ample fact ends = by fact
  where
    named : (peer, token) ≡ name_of o
    named = (is_same_request-Decides (peer, token) (name_of o)).0 ends

    by : Ended before r.moment.0 r.step.kind r.step peer token → EndsObserving before r o
    by (by_asking it) = asks_anew (asked_anew r o peer token ample named it)
    by (by_rejecting it) =
        let same : it.observer ≡ o =
        its_own before o it.observer stands it.stands (it.named ∙ named) in
        rejects_notification (record {
          heard = it.heard;
          message = it.message;
          read = it.read;
          resets = it.resets;
          peer = ap (λ (x : Observer). x.peer) (sym same) ∙ it.peer_is;
          notification = it.notification;
          flies = subst (λ x. flight x (events before) ≡ Some it.notification) same it.flies;
          mid = sym it.mid;
        })
    by (by_waiting it) =
        let same : it.observer ≡ o =
        its_own before o it.observer stands it.stands (it.named ∙ named) in
        never_acknowledges (record {
          ticks = it.ticks;
          notification = it.notification;
          flies = subst (λ x. flight x (events before) ≡ Some it.notification) same it.flies;
          sent = leb-true max_again (length it.notification.again) it.last;
          waited = leb-true (deadline it.notification.formed it.notification.again) r.moment.0
              it.over;
        })
ended_so before r o _ stands ample fact ends = absurd (false≢true ends)

stands_or_ends : (before : List Row) (r : Row) (o : Observer)
    → RowWatches before r
    → Does before r
    → Among o (observers (events before))
    → Among o (observers (events (r ∷ before))) ⊎ EndsObserving before r o
stands_or_ends before r o facts done stands =
    by (list_any (λ n. is_end_of n (name_of o)) r.notes) refl
  where
    by : (b : Bool)
        → list_any (λ n. is_end_of n (name_of o)) r.notes ≡ b
        → Among o (observers (events (r ∷ before))) ⊎ EndsObserving before r o
    by false none =
        inl (subst (λ past. Among o (observers past)) (sym (events-row before r))
        (stands_on o (length before) r.moment.0 r.step.word r.notes (events before) none stands))
    by true some =
        let it : Passing (λ n. is_end_of n (name_of o))
        (WatchFact before r.moment.0 r.step.kind r.step) =
        passing (λ n. is_end_of n (name_of o)) (WatchFact before r.moment.0 r.step.kind r.step)
        r.notes facts some in
        inr (ended_so before r o it.one stands
        (ample_row before r (λ n. is_end_of n (name_of o)) done some) it.holds it.passes)

-- ---- how one begins

-- it stood before, or one of the notes adds it
stood_or_added : (o : Observer) (place moment word : ℕ) (notes : List Note) (past : List Event)
    → Among o (observers (noted place moment word notes past))
    → Among o (observers past) ⊎ Among (note.Watched o) notes
stood_or_added o place moment word [] past there = inl there
stood_or_added o place moment word (n ∷ notes) past there =
    elim (stood_or_added o place moment word notes (event_at place moment word n ∷ past) there) [
      | inl before ↦ of_event (subst (Among o)
          (observers-event (event_at place moment word n) past) before)
      | inr later ↦ inr (inr later)
    ]
  where
    of_note : (x : Note) → Among o (observer_added x) → x ≡ note.Watched o
    of_note (note.Watched y) (inl same) = ap (λ z. note.Watched z) same
    of_note (note.Watched y) (inr none) = absurd none
    of_note (note.Admitted p m) none = absurd none
    of_note (note.Settled p reply) none = absurd none
    of_note (note.Failed p) none = absurd none
    of_note (note.Entered entry) none = absurd none
    of_note (note.Piece p key number octets) none = absurd none
    of_note (note.Finished p key) none = absurd none
    of_note (note.Kept p key body tag) none = absurd none
    of_note (note.Used p key) none = absurd none
    of_note (note.Unwatched p token) none = absurd none
    of_note (note.Formed p token body mid) none = absurd none
    of_note (note.Unchanged p token) none = absurd none
    of_note (note.Again p mid) none = absurd none
    of_note (note.Landed p mid) none = absurd none
    of_note (note.Asked p token mid params number) none = absurd none
    of_note (note.Gathered p octets tag) none = absurd none
    of_note (note.Resent p) none = absurd none
    of_note (note.Waiting p) none = absurd none
    of_note (note.Ceased p) none = absurd none
    of_note (note.Challenged p value) none = absurd none

    of_event : Among o (filter (λ x. not (is_end_of n (name_of x))) (observers past)
        ++ observer_added n)
        → Among o (observers past) ⊎ Among (note.Watched o) (n ∷ notes)
    of_event h =
        elim (among_parts o (filter (λ x. not (is_end_of n (name_of x))) (observers past))
        (observer_added n) h) [
          | inl stood ↦ inl (among_filtered (λ x. not (is_end_of n (name_of x))) o
              (observers past) stood)
          | inr added ↦ inr (inl (of_note n added))
        ]

stood_or_asked : (before : List Row) (r : Row) (o : Observer)
    → RowWatches before r
    → Does before r
    → Among o (observers (events (r ∷ before)))
    → Among o (observers (events before)) ⊎ AsksToBe r o
stood_or_asked before r o facts done there =
    elim (stood_or_added o (length before) r.moment.0 r.step.word r.notes (events before)
    (subst (λ past. Among o (observers past)) (events-row before r) there)) [
      | inl stood ↦ inl stood
      | inr added ↦ inr (asked (all_among (WatchFact before r.moment.0 r.step.kind r.step)
          (note.Watched o) r.notes facts added)
          (any_among is_watching (note.Watched o) r.notes added refl))
    ]
  where
    told : (it : Added r.step.kind r.step o)
        → list_any is_watching r.notes ≡ true
        → Told r.step it.asked.message r.sent
    told it some =
        subst (Told r.step it.asked.message)
        (sym (done.0
        ∙ ap (λ k. (effects k r.starved before r.moment.0 r.step).sent) it.asked.heard))
        (admit_told r.starved before r.moment.0 r.step it.asked.message it.asked.read
        it.asked.asks it.asked.lookup
        (ap (list_any is_watching)
        (sym (done.1
        ∙ ap (λ k. (effects k r.starved before r.moment.0 r.step).notes) it.asked.heard)) ∙ some))

    asked : Added r.step.kind r.step o → list_any is_watching r.notes ≡ true → AsksToBe r o
    asked it some =
        let t : Told r.step it.asked.message r.sent = told it some in
        record {
          request = it.asked.message;
          asks = record {
            heard = it.asked.heard;
            read = it.asked.read;
            asks = it.asked.asks;
            lookup = it.asked.lookup;
            first = it.asked.first;
            heeded = it.asked.heeded;
            unrefused = it.asked.unrefused;
          };
          registers = it.registers;
          is = it.is;
          octets = spelling (answer r.step it.asked.message t.reply);
          told =
              subst (λ p. IsAmong r.sent (p, spelling (answer r.step it.asked.message t.reply)))
              (sym it.asked.peer_is)
              (among_index (r.step.peer, spelling (answer r.step it.asked.message t.reply)) r.sent
              t.among);
          answer = answer r.step it.asked.message t.reply;
          answer_read = good_read r.step it.asked.message t.reply it.asked.read t.good;
          token = sym it.asked.token_is;
          carries = t.observed;
        }

-- ---- answers that carry Observe

-- who was added last is found by its name
found_last : (o : Observer) (standing : List Observer)
    → find (λ x. is_same_request (name_of x) (name_of o))
    (without_named (name_of o) standing ++ o ∷ [])
    ≡ Some o
found_last o [] = rw (is_same_request-refl (name_of o)) refl
found_last o (x ∷ standing) =
    by (is_same_request (name_of o) (name_of x)) refl (found_last o standing)
  where
    by : (b : Bool)
        → is_same_request (name_of o) (name_of x) ≡ b
        → find (λ y. is_same_request (name_of y) (name_of o))
        (without_named (name_of o) standing ++ o ∷ [])
        ≡ Some o
        → find (λ y. is_same_request (name_of y) (name_of o))
        (cond (not b) (x ∷ without_named (name_of o) standing)
        (without_named (name_of o) standing) ++ o ∷ [])
        ≡ Some o
    by true same more = more
    by false other more = rw (apart-sym (name_of o) (name_of x) other) more

-- so a row that adds one, after all else, has it
added_named : (before : List Row) (r : Row) (o : Observer) (front back : List Note)
    → r.notes ≡ front ++ note.Watched o ∷ back
    → list_any changes_observers back ≡ false
    → observer_named (name_of o) (r ∷ before) ≡ Some o
added_named before r o front back adds quiet =
    ap (find (λ x. is_same_request (name_of x) (name_of o)))
    (ap observers (events-row before r
    ∙ (ap (λ ns. noted (length before) r.moment.0 r.step.word ns (events before)) adds
    ∙ noted-append (length before) r.moment.0 r.step.word front (note.Watched o ∷ back)
    (events before)))
    ∙ (observers-quiet_noted (length before) r.moment.0 r.step.word back
    (event_at (length before) r.moment.0 r.step.word (note.Watched o)
    ∷ noted (length before) r.moment.0 r.step.word front (events before)) quiet
    ∙ observers-Watched (length before) r.moment.0 r.step.word o
    (noted (length before) r.moment.0 r.step.word front (events before))))
    ∙ found_last o (observers (noted (length before) r.moment.0 r.step.word front (events before)))

-- a datagram of a step that is no tick
dispatch_observes : (before : List Row) (r : Row) (kind : StepKind) (peer : Peer)
    (octets : List ℕ) (m : Message)
    → r.step.kind ≡ kind
    → AllRows RowGoes before
    → reading octets ≡ Ok m
    → is_response m ≡ true
    → carries_observe m ≡ true
    → IsDispatch before r.moment.0 kind r.step r.notes (peer, octets)
    → MakesObserver (record { row = r; before = before }) peer m
dispatch_observes before r kind peer octets m of_kind all e responds carries
    (answers n reply read asks h is) =
    let same : answer r.step n reply ≡ m =
    answer_read r.step n reply m read h.good
    (ap (λ (x : Peer × List ℕ). reading x.1) (sym is) ∙ e) in
    let adds : AddsObserver kind r.step n r.notes =
    h.observed (ap (λ (x : Message). stands_in table.observe x.options) same ∙ carries) in
    record {
      request = n;
      asks = record {
        heard = of_kind ∙ adds.heard;
        read = read;
        asks = asks;
        lookup = adds.lookup;
        first = adds.first;
        heeded = ap is_heeded adds.registers;
        unrefused = adds.unrefused;
      };
      registers = adds.registers;
      stands =
          ap (λ (name : Peer × List ℕ). observer_named name (r ∷ before))
          (ap (λ (p : Peer). (p, m.token)) (ap (λ (x : Peer × List ℕ). x.0) is)
          ∙ ap (λ (t : List ℕ). (r.step.peer, t)) (ap (λ (x : Message). x.token) (sym same)))
          ∙ added_named before r (observer_of r.step n) adds.front adds.back adds.adds adds.quiet;
    }
dispatch_observes before r kind peer octets m of_kind all e responds carries
    (repeats n first kept here read asks rep stl is) =
    let it : SettledIn before first.place kept = settled_in before all first.place kept stl in
    let same : answer it.placed.row.step it.by_it.message it.by_it.reply ≡ m =
    answer_read it.placed.row.step it.by_it.message it.by_it.reply m it.by_it.read it.by_it.good
    (ap reading (sym it.by_it.octets_are)
    ∙ (ap (λ (x : Peer × List ℕ). reading x.1) (sym is) ∙ e)) in
    absurd (false≢true
    (sym it.by_it.unobserved
    ∙ (ap (λ (x : Message). stands_in table.observe x.options) same ∙ carries)))
dispatch_observes before r kind peer octets m of_kind all e responds carries
    (rejects mid here so is) =
    let same : empty_message Rst mid ≡ m =
    same_message (empty_message Rst mid) m (spelling (empty_message Rst mid))
    (empty_read Rst mid) (ap (λ (x : Peer × List ℕ). reading x.1) (sym is) ∙ e) in
    absurd (false≢true (ap is_response same ∙ responds))
dispatch_observes before r kind peer octets m of_kind all e responds carries
    (acknowledges mid here so is) =
    let same : empty_message Ack mid ≡ m =
    same_message (empty_message Ack mid) m (spelling (empty_message Ack mid))
    (empty_read Ack mid) (ap (λ (x : Peer × List ℕ). reading x.1) (sym is) ∙ e) in
    absurd (false≢true (ap is_response same ∙ responds))
dispatch_observes before r kind peer octets m of_kind all e responds carries
    (fetches_block mid token b small asked runs is) =
    let same : fetch_request mid token b ≡ m =
    same_message (fetch_request mid token b) m (spelling (fetch_request mid token b))
    (request_read mid token b small)
    (ap (λ (x : Peer × List ℕ). reading x.1) (sym is) ∙ e) in
    absurd (false≢true (ap is_response same ∙ responds))

-- ---- the sentence

-- rows before one of them
pub goes_before : (rows before : List Row) (r : Row)
    → Within rows before r
    → AllRows RowGoes rows
    → AllRows RowGoes before
goes_before rows before r within all =
    after within.later (subst (AllRows RowGoes) within.whole all)
  where
    after : (later : List Row) → AllRows RowGoes (later ++ r ∷ before) → AllRows RowGoes before
    after [] h = h.1
    after (x ∷ later) h = after later h.1

rows-ObserversStand : (rows : List Row)
    → AreRows rows
    → AllRows RowGoes rows
    → ObserversStand rows
rows-ObserversStand rows made all = record {
  observed = λ sent responds carries. by sent sent.here.row.step.kind refl responds carries;
  begins = λ before r o within there.
      elim (stood_or_asked before r o (row_watches rows before r made within)
      (does rows before r made within)
      (among_of o (observers (events (r ∷ before))) there)) [
        | inl stood ↦ inl (among_index o (observers (events before)) stood)
        | inr asks ↦ inr asks
      ];
  ends = λ before r o within there.
      elim (stands_or_ends before r o (row_watches rows before r made within)
      (does rows before r made within)
      (among_of o (observers (events before)) there)) [
        | inl stands ↦ inl (among_index o (observers (events (r ∷ before))) stands)
        | inr ends ↦ inr ends
      ];
  leaves = λ before r o within why stands there. elim why [
    | inl it ↦ rejected_gone rows before r o made within it
        (among_of o (observers (events before)) stands)
        (among_of o (observers (events (r ∷ before))) there)
    | inr it ↦ given_up_gone rows before r o made within it
        (among_of o (observers (events before)) stands)
        (among_of o (observers (events (r ∷ before))) there)
  ];
  cancels = λ before r request within it. cancelled_none rows before r request made within it;
  landed = λ before r peer mid within there.
      let it : Landed r.step.kind r.step peer mid =
      all_at_index (WatchFact before r.moment.0 r.step.kind r.step) r.notes
      (note.Landed peer mid) there (row_watches rows before r made within) in
      record {
        heard = it.heard;
        message = it.message;
        read = it.read;
        acknowledges = it.acknowledges;
        from = it.from;
        mid_is = it.mid_is;
      };
  again = λ before r peer mid within there.
      let it : SentAgain before r.moment.0 r.step.kind peer mid =
      all_at_index (WatchFact before r.moment.0 r.step.kind r.step) r.notes
      (note.Again peer mid) there (row_watches rows before r made within) in
      record {
        ticks = it.ticks;
        observer = it.observer;
        stands = among_index it.observer (observers (events before)) it.stands;
        peer_is = it.peer_is;
        notification = it.notification;
        flies = it.flies;
        mid_is = it.mid_is;
        sent = leb-false max_again (length it.notification.again) it.further;
        waited = leb-true (deadline it.notification.formed it.notification.again) r.moment.0
            it.over;
      };
}
  where
    own : (sent : Sent rows) (kind : StepKind)
        → sent.here.row.step.kind ≡ kind
        → is_response sent.message ≡ true
        → carries_observe sent.message ≡ true
        → AllByRecursion
        (IsDispatch sent.here.before sent.here.row.moment.0 kind sent.here.row.step
        sent.here.row.notes) sent.here.row.sent
        → MakesObserver sent.here sent.peer sent.message
    own sent kind is responds carries h =
        dispatch_observes sent.here.before sent.here.row kind sent.peer sent.octets sent.message is
        (goes_before rows sent.here.before sent.here.row sent.within all) sent.read responds carries
        (all_at_index
        (IsDispatch sent.here.before sent.here.row.moment.0 kind sent.here.row.step
        sent.here.row.notes) sent.here.row.sent (sent.peer, sent.octets) sent.among h)

    kinds : (sent : Sent rows) (kind : StepKind)
        → sent.here.row.step.kind ≡ kind
        → is_response sent.message ≡ true
        → carries_observe sent.message ≡ true
        → GoesBy kind sent.here.before sent.here.row
        → ObservesSo kind sent.here sent.peer sent.message
    kinds sent step.Admit is responds carries h = own sent step.Admit is responds carries h
    kinds sent step.Look is responds carries h = own sent step.Look is responds carries h
    kinds sent (step.Commit place) is responds carries h =
        own sent (step.Commit place) is responds carries h
    kinds sent (step.Keep body current) is responds carries h =
        own sent (step.Keep body current) is responds carries h
    kinds sent step.Tick is responds carries h = tt
    kinds sent (step.Begin first) is responds carries h =
        own sent (step.Begin first) is responds carries h

    by : (sent : Sent rows) (kind : StepKind)
        → sent.here.row.step.kind ≡ kind
        → is_response sent.message ≡ true
        → carries_observe sent.message ≡ true
        → ObservesSo sent.here.row.step.kind sent.here sent.peer sent.message
    by sent kind is responds carries =
        subst (λ k. ObservesSo k sent.here sent.peer sent.message) (sym is)
        (kinds sent kind is responds carries
        (subst (λ k. GoesBy k sent.here.before sent.here.row) is
        (row_within RowGoes rows sent.here.before sent.here.row all sent.within).goes))

-- in each journal of the machine
pub journal-ObserversStand : (rows : List Row) → IsJournal rows → ObserversStand rows
journal-ObserversStand rows journal =
    rows-ObserversStand rows (journal-AreRows rows journal) (journal_goes rows journal)

-- and in each of a desk, where each look, commit and keep is made for a request, and each keep has
-- a tag of eight octets
pub desk-ObserversStand : (rows : List Row) → IsDeskJournal rows → AreForRequests rows
    → ObserversStand rows
desk-ObserversStand rows journal requests =
    rows-ObserversStand rows (desk-AreRows rows journal) (desk_goes rows journal requests)
