-- The watched queries and their observers while a row is made, with one more note about observers:
-- one is gone, one is added, or what waits for one changes.
use Rattle.std.proofs.Common.{
  ◌≡◌,
  ℕ,
  ◌+◌,
  ◌≤◌,
  ◌&&◌,
  ◌||◌,
  Bool,
  true,
  false,
  cond,
  List,
  [],
  ◌∷◌,
  ◌++◌,
  length,
  map,
  find,
  slice_get,
  Option,
  Some,
  None,
  is_some,
  option_map,
  unwrap_or,
  refl,
  sym,
  ap,
  ap₂,
  subst,
  ◌∙◌,
  append-nil,
  append_assoc,
  arith,
}
use Rattle.std.specs.List.{AllByRecursion, list_any, remove}
use Rattle.std.specs.Option.{option_or}
use Rattle.std.proofs.lemmas.Bool.{false≢true}
use Rattle.std.proofs.lemmas.List.Folds.{find-append}
use Rattle.rd_base.specs.declared.peers.Peer.{Peer}
use Rattle.rd_base.specs.declared.queries.Query.{Query}
use Rattle.rd_base.specs.Firsts.{changed_first, without_first}
use Rattle.rd_base.proofs.lemmas.Firsts.{without_first-unfound}
use Rattle.rd_base.proofs.lemmas.Options.{some_same}
use Rattle.event_model.specs.declared.notes.Note.{Note}
use Rattle.event_model.specs.declared.notes.Note.TheVariants as note
use Rattle.event_model.specs.declared.notes.Observer.{Observer}
use Rattle.event_model.specs.Same.{is_same_peer}
use Rattle.event_model.specs.Events.{Event, noted}
use Rattle.event_model.specs.Observers.{observers, is_observer}
use Rattle.event_model.specs.Flights.{Sent, OctetsSent}
use Rattle.event_model.specs.Due.{Transition}
use Rattle.event_model.proofs.NotedLaws.{event_at}
use Rattle.event_model.proofs.SameLaws.{is_same_peer-refl}
use Rattle.journal_model.specs.declared.steps.Step.{Step}
use Rattle.journal_model.specs.declared.rows.Row.{Row}
use Rattle.journal_model.specs.Effects.{Effects, joined, noting}
use Rattle.journal_model.specs.EmptyMessages.{waited_for}
use Rattle.journal_model.specs.Journal.{
  is_desk_row,
  transition_of,
  events,
  entries,
  now,
  transitions,
}
use Rattle.journal_model.specs.Lookups.{removal, addition}
use Rattle.journal_model.specs.Rows.{row_with, row_moment}
use Rattle.journal_model.specs.Ticks.{is_confirmable_with, octets_sent}
use Rattle.journal_model.specs.UnfinishedRow.{making}
use Rattle.journal_model.proofs.EntriesNoted.{entries_in}
use Rattle.journal_model.proofs.RowEquations.{transitions-row}
use Rattle.journal_model.proofs.UnfinishedRowLaws.{events-making_joined}
use Rattle.journal_model.proofs.observers.DueRows.{transitions_below}
use Rattle.journal_model.proofs.observers.SentOctets.{octets_sent-own}
use Rattle.exchange_core.specs.declared.resends.Again.TheVariants as again
use Rattle.exchange_core.specs.Retransmissions.{Resends, kept_due}
use Rattle.watch_table.specs.WatchedQueries.{one_more, one_fewer, without, IsSlotFor}
use Rattle.observers.specs.Standing.{
  Standing,
  is_named,
  has_notification,
  is_awaited,
  notified,
  seen,
  landed,
  kept_of,
  timed,
  changed_at,
}
use Rattle.observers.specs.ObserverEvents.{observer_of, ObserversStandFor}
use Rattle.observers.proofs.StandLaws.{
  observers-StandsFor,
  dropped-StandsFor,
  reset-StandsFor,
  removed-StandsFor,
  unchanged-StandsFor,
  formed-StandsFor,
  landed-StandsFor,
  again-StandsFor,
  added-StandsFor,
}
use Rattle.observation.specs.Notifications.{forming, sending_again}
use Rattle.observation.specs.Watching.{Watching, IsConfirmable, WatchingStandsFor}
use Rattle.observation.proofs.FoundObservers.{
  Cut,
  cut_first,
  cut_at,
  changed_first-unfound,
  each_changed_first,
  each_changed_at,
  map-changed_first,
  map-changed_at,
  in_list,
  waited_for-StandsFor,
  is_observer-found,
}
use Rattle.observation.proofs.WatchedLaws.{without_notification, with_query, with_own, with_same}
use Rattle.observation.proofs.StandingParts.{
  notified_stands,
  gone_stands,
  other_queries,
  added_stands,
}
use Rattle.observation.proofs.WatchingLaws.{from_parts, stands_before, WatchingStandsFor-aside}
use Rattle.observation.proofs.WatchingParts.{StandsOver}

-- ---- one thing more

-- with the notes of what is done next they stand for the journal with it
stands_after : (rows : List Row) (s : Step) (starved : Bool) (done more : Effects) (w : Watching)
    → StandsOver (octets_sent (making rows s starved (joined done more)))
    (noted (length rows) (row_moment rows s) s.word more.notes
    (events (making rows s starved done)))
    (transitions (making rows s starved (joined done more)))
    (entries (making rows s starved (joined done more)))
    (now (making rows s starved (joined done more))) w
    → WatchingStandsFor (making rows s starved (joined done more)) w
stands_after rows s starved done more w h =
    from_parts (making rows s starved (joined done more)) w
    (subst (λ past.
    StandsOver (octets_sent (making rows s starved (joined done more))) past
    (transitions (making rows s starved (joined done more)))
    (entries (making rows s starved (joined done more)))
    (now (making rows s starved (joined done more))) w)
    (sym (events-making_joined rows s starved done more)) h)

-- nothing is noted
none_noted : (rows : List Row) (s : Step) (starved : Bool) (done : Effects) (w : Watching)
    → WatchingStandsFor (making rows s starved done) w
    → WatchingStandsFor (making rows s starved (joined done (noting []))) w
none_noted rows s starved done w h =
    WatchingStandsFor-aside rows s starved done (noting []) w refl refl h

-- no transition of the row that is being made is later than it
none_later : (rows : List Row) (r : Row)
    → AllByRecursion (λ t. t.place ≤ length rows) (transitions (r ∷ rows))
none_later rows r =
    subst (AllByRecursion (λ t. t.place ≤ length rows)) (sym (transitions-row rows r))
    (by (is_desk_row r) (transitions_below rows))
  where
    by : (b : Bool) → AllByRecursion (λ (t : Transition). t.place ≤ length rows) (transitions rows)
        → AllByRecursion (λ (t : Transition). t.place ≤ length rows)
        (cond b (transition_of r rows ∷ transitions rows) (transitions rows))
    by true low = (omega arith, low)
    by false low = low

-- one more thing is noted after others of the row
pub joined_noting : (done : Effects) (notes more : List Note)
    → joined (joined done (noting notes)) (noting more) ≡ joined done (noting (notes ++ more))
joined_noting done notes more =
    by (done.sent ++ []) ((done.sent ++ []) ++ []) (done.drew + 0) ((done.drew + 0) + 0)
    (append-nil (done.sent ++ [])) (omega arith)
  where
    by : (sent sent' : List (Peer × List ℕ)) (drew drew' : ℕ) → sent' ≡ sent → drew' ≡ drew
        → ◌≡◌ {A = Effects}
        (record { sent = sent'; notes = (done.notes ++ notes) ++ more; drew = drew' })
        (record { sent = sent; notes = done.notes ++ (notes ++ more); drew = drew })
    by sent sent' drew drew' e f =
        ap₂ (λ (x : List (Peer × List ℕ)) (n : ℕ).
        record { sent = x; notes = (done.notes ++ notes) ++ more; drew = n }) e f
        ∙ ap (λ (ns : List Note). record { sent = sent; notes = ns; drew = drew })
        (append_assoc done.notes notes more)

-- ---- acknowledgements

-- An acknowledgement ends the flight of the notification that it is of.
pub WatchingStandsFor-acked : (rows : List Row) (s : Step) (starved : Bool) (done : Effects)
    (peer : Peer) (mid : ℕ) (w : Watching)
    → WatchingStandsFor (making rows s starved done) w
    → WatchingStandsFor (making rows s starved (joined done (noting (map (λ o. note.Landed peer mid)
    (waited_for peer mid (events (making rows s starved done)))))))
    (record {
      watches = w.watches;
      observers = changed_first (has_notification peer mid) landed w.observers;
    })
WatchingStandsFor-acked rows s starved done peer mid w h =
    subst (λ (os : List Observer).
    WatchingStandsFor
    (making rows s starved (joined done (noting (map (λ o. note.Landed peer mid) os))))
    (record {
      watches = w.watches;
      observers = changed_first (has_notification peer mid) landed
          w.observers;
    }))
    (sym (waited_for-StandsFor h.queries (octets_sent (making rows s starved done))
    (events (making rows s starved done)) (transitions (making rows s starved done))
    w.observers peer mid h.observers))
    (by (find (has_notification peer mid) w.observers) refl)
  where
    now_landed : List Standing
    now_landed = changed_first (has_notification peer mid) landed w.observers

    by : (o : Option Standing) → find (has_notification peer mid) w.observers ≡ o
        → WatchingStandsFor (making rows s starved
        (joined done (noting (map (λ (x : Observer). note.Landed peer mid)
        (map (observer_of h.queries) (in_list o))))))
        (record { watches = w.watches; observers = now_landed })
    by None none =
        subst (λ ws.
        WatchingStandsFor (making rows s starved (joined done (noting [])))
        (record { watches = w.watches; observers = ws }))
        (sym (changed_first-unfound (has_notification peer mid) landed w.observers none))
        (none_noted rows s starved done w h)
    by (Some x) found =
        let more = noting (note.Landed peer mid ∷ []) in
        let before = stands_before rows s starved done more w refl h in
        let later = making rows s starved (joined done more) in
        let past = events (making rows s starved done) in
        stands_after rows s starved done more
        (record { watches = w.watches; observers = now_landed })
        (notified_stands (octets_sent later) past
        (event_at (length rows) (row_moment rows s) s.word (note.Landed peer mid) ∷ past)
        (transitions later) (entries later) (now later) w now_landed
        (map-changed_first without_notification (has_notification peer mid) landed (λ y. refl)
        w.observers)
        (each_changed_first IsConfirmable (has_notification peer mid) landed
        (λ y fits s flies. absurd (let no : None ≡ Some s = flies in cc)) w.observers
        h.confirmable) before
        (landed-StandsFor before.queries (octets_sent later) past (transitions later)
        (event_at (length rows) (row_moment rows s) s.word (note.Landed peer mid)) peer mid
        w.observers refl before.observers))

-- ---- one is gone

-- what is left of the table without the one that a note removes
gone_one : (rows : List Row) (s : Step) (starved : Bool) (done : Effects) (peer : Peer)
    (token : List ℕ) (w : Watching) (left : List Standing) (x : Standing)
    → Cut w.observers left x
    → ((queries : ℕ → Query) (octets : OctetsSent) (past : List Event) (seen : List Transition)
    (e : Event)
    → e.note ≡ note.Unwatched peer token
    → ObserversStandFor queries octets past seen w.observers
    → ObserversStandFor queries octets (e ∷ past) seen left)
    → WatchingStandsFor (making rows s starved done) w
    → WatchingStandsFor
    (making rows s starved (joined done (noting (note.Unwatched peer token ∷ []))))
    (record { watches = one_fewer x.slot w.watches; observers = left })
gone_one rows s starved done peer token w left x cut gone h =
    subst (λ ws.
    WatchingStandsFor later
    (record { watches = one_fewer x.slot w.watches; observers = ws })) (sym cut.rest)
    (stands_after rows s starved done more
    (record { watches = one_fewer x.slot w.watches; observers = cut.front ++ cut.back })
    (gone_stands (octets_sent later) past (e ∷ past) (transitions later) (entries later) (now later)
    w cut.front cut.back x cut.whole before
    (subst (ObserversStandFor before.queries (octets_sent later) (e ∷ past) (transitions later))
    cut.rest (gone before.queries (octets_sent later) past (transitions later) e refl
    before.observers))))
  where
    more : Effects
    more = noting (note.Unwatched peer token ∷ [])

    later : List Row
    later = making rows s starved (joined done more)

    past : List Event
    past = events (making rows s starved done)

    e : Event
    e = event_at (length rows) (row_moment rows s) s.word (note.Unwatched peer token)

    before : StandsOver (octets_sent later) past (transitions later) (entries later) (now later) w
    before = stands_before rows s starved done more w refl h

-- A Reset removes the observer whose notification it is of.
pub WatchingStandsFor-reset : (rows : List Row) (s : Step) (starved : Bool) (done : Effects)
    (peer : Peer) (mid : ℕ) (w : Watching)
    → WatchingStandsFor (making rows s starved done) w
    → WatchingStandsFor
    (making rows s starved (joined done (noting (map (λ o. note.Unwatched o.peer o.token)
    (waited_for peer mid (events (making rows s starved done)))))))
    (record {
      watches = without (option_map (λ x. x.slot) (find (has_notification peer mid) w.observers))
          w.watches;
      observers = without_first (has_notification peer mid) w.observers;
    })
WatchingStandsFor-reset rows s starved done peer mid w h =
    subst (λ (os : List Observer).
    WatchingStandsFor (making rows s starved (joined done
    (noting (map (λ (o : Observer). note.Unwatched o.peer o.token) os))))
    (w' (find (has_notification peer mid) w.observers)))
    (sym (waited_for-StandsFor h.queries (octets_sent (making rows s starved done))
    (events (making rows s starved done)) (transitions (making rows s starved done))
    w.observers peer mid h.observers))
    (by (find (has_notification peer mid) w.observers) refl)
  where
    w' : Option Standing → Watching
    w' found = record {
      watches = without (option_map (λ (x : Standing). x.slot) found) w.watches;
      observers = without_first (has_notification peer mid) w.observers;
    }

    by : (o : Option Standing) → find (has_notification peer mid) w.observers ≡ o
        → WatchingStandsFor (making rows s starved
        (joined done (noting (map (λ (y : Observer). note.Unwatched y.peer y.token)
        (map (observer_of h.queries) (in_list o)))))) (w' o)
    by None none =
        subst (λ ws.
        WatchingStandsFor (making rows s starved (joined done (noting [])))
        (record { watches = w.watches; observers = ws }))
        (sym (without_first-unfound (has_notification peer mid) w.observers none))
        (none_noted rows s starved done w h)
    by (Some x) found =
        gone_one rows s starved done x.peer x.token w
        (without_first (has_notification peer mid) w.observers) x
        (cut_first (has_notification peer mid) w.observers x found)
        (λ queries octets past seen e is stands.
        reset-StandsFor queries octets past seen e peer mid w.observers x found is stands) h

-- The observer of a peer and a token is taken out, where there is one.
pub WatchingStandsFor-left : (rows : List Row) (s : Step) (starved : Bool) (done : Effects)
    (peer : Peer) (token : List ℕ) (w : Watching)
    → WatchingStandsFor (making rows s starved done) w
    → WatchingStandsFor (making rows s starved (joined done
    (noting (removal (peer, token) (observers (events (making rows s starved done)))))))
    (record {
      watches = without (option_map (λ x. x.slot) (find (is_named peer token) w.observers))
          w.watches;
      observers = without_first (is_named peer token) w.observers;
    })
WatchingStandsFor-left rows s starved done peer token w h =
    subst (λ (b : Bool).
    WatchingStandsFor (making rows s starved
    (joined done (noting (cond b (note.Unwatched peer token ∷ []) []))))
    (w' (find (is_named peer token) w.observers)))
    (sym (ap (is_observer (peer, token))
    (observers-StandsFor h.queries (octets_sent (making rows s starved done))
    (events (making rows s starved done)) (transitions (making rows s starved done))
    w.observers h.observers)
    ∙ is_observer-found h.queries peer token w.observers))
    (by (find (is_named peer token) w.observers) refl)
  where
    w' : Option Standing → Watching
    w' found = record {
      watches = without (option_map (λ (x : Standing). x.slot) found) w.watches;
      observers = without_first (is_named peer token) w.observers;
    }

    by : (o : Option Standing)
        → find (is_named peer token) w.observers ≡ o
        → WatchingStandsFor (making rows s starved
        (joined done (noting (cond (is_some o) (note.Unwatched peer token ∷ []) []))))
        (w' o)
    by None none =
        subst (λ ws.
        WatchingStandsFor (making rows s starved (joined done (noting [])))
        (record { watches = w.watches; observers = ws }))
        (sym (without_first-unfound (is_named peer token) w.observers none))
        (none_noted rows s starved done w h)
    by (Some x) found =
        gone_one rows s starved done peer token w (without_first (is_named peer token) w.observers)
        x (cut_first (is_named peer token) w.observers x found)
        (λ queries octets past seen e is stands.
        dropped-StandsFor queries octets past seen e peer token w.observers is stands) h

-- An observer is taken out whose notification is given up.
pub WatchingStandsFor-timed_out : (rows : List Row) (s : Step) (starved : Bool) (done : Effects)
    (i : ℕ) (x : Standing) (w : Watching)
    → slice_get w.observers i ≡ Some x
    → WatchingStandsFor (making rows s starved done) w
    → WatchingStandsFor
    (making rows s starved (joined done (noting (note.Unwatched x.peer x.token ∷ []))))
    (record { watches = one_fewer x.slot w.watches; observers = remove w.observers i })
WatchingStandsFor-timed_out rows s starved done i x w there h =
    gone_one rows s starved done x.peer x.token w (remove w.observers i) x
    (cut_at w.observers i x there)
    (λ queries octets past seen e is stands.
    removed-StandsFor queries octets past seen e w.observers i x there is stands) h

-- ---- one is added

-- the observer that the table keeps, by its query
abbrev observer_with : Query → Standing → Observer
observer_with query x = record {
  peer = x.peer;
  token = x.token;
  query = query;
  key = x.key;
  szx = x.szx;
}

-- An observer is added, for which a body was formed, in the slot of its query.
pub WatchingStandsFor-added : (rows : List Row) (s : Step) (starved : Bool) (done : Effects)
    (query : Query) (x : Standing) (w : Watching)
    → list_any (is_named x.peer x.token) w.observers ≡ false
    → x.flight ≡ None
    → x.due ≡ false
    → IsSlotFor query x.slot w.watches → WatchingStandsFor (making rows s starved done) w
    → WatchingStandsFor
    (making rows s starved (joined done (noting (addition (observer_with query x) x.last))))
    (record { watches = one_more x.slot query w.watches; observers = w.observers ++ x ∷ [] })
WatchingStandsFor-added rows s starved done query x w new quiet calm for h =
    stands_after rows s starved done more
    (record { watches = one_more x.slot query w.watches; observers = w.observers ++ x ∷ [] })
    (added_stands (octets_sent later) past (formed ∷ watched ∷ past) (transitions later)
    (entries later) (now later) w x query for quiet before
    (added-StandsFor (with_query x.slot query before.queries) (octets_sent later) past
    (transitions later) watched formed w.observers x new quiet calm
    (ap (λ q.
    note.Watched
    (record { peer = x.peer; token = x.token; query = q; key = x.key; szx = x.szx }))
    (sym (with_own x.slot query before.queries))) refl
    (none_later rows (row_with s (row_moment rows s) starved (joined done more)))
    (other_queries before.queries (with_query x.slot query before.queries) (octets_sent later) past
    (transitions later) w.observers
    (with_same x.slot query before.queries w.watches w.observers before.watches.apart for
    before.in_slots) before.observers)))
  where
    more : Effects
    more = noting (addition (observer_with query x) x.last)

    later : List Row
    later = making rows s starved (joined done more)

    past : List Event
    past = events (making rows s starved done)

    watched : Event
    watched =
        event_at (length rows) (row_moment rows s) s.word (note.Watched (observer_with query x))

    formed : Event
    formed =
        event_at (length rows) (row_moment rows s) s.word (note.Formed x.peer x.token x.last None)

    before : StandsOver (octets_sent later) past (transitions later) (entries later) (now later) w
    before = stands_before rows s starved done more w refl h

-- ---- what waits for one, and whether it is due

-- one more note about the notification of an observer
notified_one : (rows : List Row) (s : Step) (starved : Bool) (done more : Effects) (n : Note)
    (ws : List Standing) (w : Watching)
    → more.notes ≡ n ∷ []
    → entries_in (n ∷ []) ≡ []
    → map without_notification ws ≡ map without_notification w.observers
    → AllByRecursion IsConfirmable ws
    → ((queries : ℕ → Query)
    → ObserversStandFor queries (octets_sent (making rows s starved (joined done more)))
    (events (making rows s starved done))
    (transitions (making rows s starved (joined done more))) w.observers
    → ObserversStandFor queries (octets_sent (making rows s starved (joined done more)))
    (event_at (length rows) (row_moment rows s) s.word n ∷ events (making rows s starved done))
    (transitions (making rows s starved (joined done more))) ws)
    → WatchingStandsFor (making rows s starved done) w
    → WatchingStandsFor (making rows s starved (joined done more))
    (record { watches = w.watches; observers = ws })
notified_one rows s starved done more n ws w one none same confirmable step h =
    stands_after rows s starved done more (record { watches = w.watches; observers = ws })
    (subst (λ notes.
    StandsOver (octets_sent later)
    (noted (length rows) (row_moment rows s) s.word notes past) (transitions later)
    (entries later) (now later) (record { watches = w.watches; observers = ws }))
    (sym one)
    (notified_stands (octets_sent later) past
    (event_at (length rows) (row_moment rows s) s.word n ∷ past) (transitions later)
    (entries later) (now later) w ws same confirmable before
    (step before.queries before.observers)))
  where
    later : List Row
    later = making rows s starved (joined done more)

    past : List Event
    past = events (making rows s starved done)

    before : StandsOver (octets_sent later) past (transitions later) (entries later) (now later) w
    before = stands_before rows s starved done more w (ap entries_in one ∙ none) h

-- The listing of an observer was found unchanged.
pub WatchingStandsFor-unchanged : (rows : List Row) (s : Step) (starved : Bool) (done : Effects)
    (i : ℕ) (x : Standing) (w : Watching)
    → slice_get w.observers i ≡ Some x
    → WatchingStandsFor (making rows s starved done) w
    → WatchingStandsFor
    (making rows s starved (joined done (noting (note.Unchanged x.peer x.token ∷ []))))
    (record { watches = w.watches; observers = changed_at seen i w.observers })
WatchingStandsFor-unchanged rows s starved done i x w there h =
    notified_one rows s starved done (noting (note.Unchanged x.peer x.token ∷ []))
    (note.Unchanged x.peer x.token) (changed_at seen i w.observers) w refl refl
    (map-changed_at without_notification seen (λ y. refl) i w.observers)
    (each_changed_at IsConfirmable seen (λ y fits. fits) i w.observers h.confirmable)
    (λ queries stands.
    unchanged-StandsFor queries (octets_sent later) (events (making rows s starved done))
    (transitions later)
    (event_at (length rows) (row_moment rows s) s.word (note.Unchanged x.peer x.token))
    w.observers i x there refl
    (none_later rows (row_with s (row_moment rows s) starved
    (joined done (noting (note.Unchanged x.peer x.token ∷ []))))) stands) h
  where
    later : List Row
    later = making rows s starved (joined done (noting (note.Unchanged x.peer x.token ∷ [])))

-- where a row sent no such message before, its last one is found
last_sent : (rows : List Row) (s : Step) (starved : Bool) (done more : Effects) (peer : Peer)
    (mid : ℕ) (octets : List ℕ)
    → more.sent ≡ (peer, octets) ∷ []
    → list_any (λ d. is_same_peer d.0 peer && is_confirmable_with mid d.1) done.sent ≡ false
    → is_confirmable_with mid octets ≡ true
    → octets ≡ octets_sent (making rows s starved (joined done more)) (length rows) peer mid
last_sent rows s starved done more peer mid octets is none fits =
    sym (octets_sent-own rows (row_with s (row_moment rows s) starved (joined done more)) peer mid
    ∙ (ap (λ (d : Option (Peer × List ℕ)). unwrap_or (option_map (λ (x : Peer × List ℕ). x.1) d) [])
    found))
  where
    test : Peer × List ℕ → Bool
    test = λ d. is_same_peer d.0 peer && is_confirmable_with mid d.1

    unfound : (ds : List (Peer × List ℕ)) → list_any test ds ≡ false → find test ds ≡ None
    unfound [] h = refl
    unfound (d ∷ ds) h = by (test d) h (unfound ds)
      where
        by : (b : Bool)
            → (b || list_any test ds) ≡ false
            → (list_any test ds ≡ false → find test ds ≡ None)
            → cond b (Some d) (find test ds) ≡ None
        by true g more = absurd (false≢true (sym g))
        by false g more = more g

    own : test (peer, octets) ≡ true
    own = rw (is_same_peer-refl peer, fits) refl

    found : find test (done.sent ++ more.sent) ≡ Some (peer, octets)
    found =
        find-append test done.sent more.sent
        ∙ (ap₂ (λ (a b : Option (Peer × List ℕ)). option_or a b) (unfound done.sent none)
        (ap (find test) is ∙ ap (λ b. cond b (Some (peer, octets)) None) own))

-- A notification was formed for an observer, to whose peer none is in flight.
pub WatchingStandsFor-formed : (rows : List Row) (s : Step) (starved : Bool) (done : Effects)
    (i : ℕ) (x : Standing) (body : List ℕ) (sent : Sent) (w : Watching)
    → slice_get w.observers i ≡ Some x
    → is_awaited x.peer w.observers ≡ false
    → list_any (λ d. is_same_peer d.0 x.peer && is_confirmable_with sent.mid d.1) done.sent ≡ false
    → is_confirmable_with sent.mid sent.octets ≡ true
    → ((first : Event)
    → first.moment ≡ row_moment rows s
    → first.word ≡ s.word
    → Resends first [] sent.resend)
    → WatchingStandsFor (making rows s starved done) w
    → WatchingStandsFor (making rows s starved (joined done (forming x body sent)))
    (record { watches = w.watches; observers = changed_at (notified sent body) i w.observers })
WatchingStandsFor-formed rows s starved done i x body sent w there free unsent fits resends h =
    notified_one rows s starved done (forming x body sent)
    (note.Formed x.peer x.token body (Some sent.mid))
    (changed_at (notified sent body) i w.observers) w refl refl
    (map-changed_at without_notification (notified sent body) (λ y. refl) i w.observers)
    (each_changed_at IsConfirmable (notified sent body) (λ y before t flies. let same :
    sent ≡ t =
    cc in subst (λ (z : Sent). is_confirmable_with z.mid z.octets ≡ true) same fits) i
    w.observers h.confirmable)
    (λ queries stands.
    formed-StandsFor queries (octets_sent later) (events (making rows s starved done))
    (transitions later) e w.observers i x sent body there free refl
    (last_sent rows s starved done (forming x body sent) x.peer sent.mid sent.octets refl unsent
    fits) (resends e refl refl)
    (none_later rows (row_with s (row_moment rows s) starved (joined done (forming x body sent))))
    stands) h
  where
    later : List Row
    later = making rows s starved (joined done (forming x body sent))

    e : Event
    e =
        event_at (length rows) (row_moment rows s) s.word
        (note.Formed x.peer x.token body (Some sent.mid))

-- The notification in flight to an observer was sent again.
pub WatchingStandsFor-again : (rows : List Row) (s : Step) (starved : Bool) (done : Effects)
    (moment i : ℕ) (x : Standing) (sent : Sent) (w : Watching)
    → slice_get w.observers i ≡ Some x
    → x.flight ≡ Some sent
    → kept_due moment sent.resend ≡ again.Send
    → moment ≡ row_moment rows s
    → WatchingStandsFor (making rows s starved done) w
    → WatchingStandsFor (making rows s starved (joined done (sending_again x sent)))
    (record { watches = w.watches; observers = changed_at (timed moment) i w.observers })
WatchingStandsFor-again rows s starved done moment i x sent w there flies sends at h =
    notified_one rows s starved done (sending_again x sent) (note.Again x.peer sent.mid)
    (changed_at (timed moment) i w.observers) w refl refl
    (map-changed_at without_notification (timed moment) (λ y. refl) i w.observers)
    (each_changed_at IsConfirmable (timed moment) (λ y fits t kept. still y.flight t fits kept) i
    w.observers h.confirmable)
    (λ queries stands.
    again-StandsFor queries (octets_sent later) (events (making rows s starved done))
    (transitions later)
    (event_at (length rows) (row_moment rows s) s.word (note.Again x.peer sent.mid)) moment
    w.observers i x sent there flies sends refl
    (sym at) stands) h
  where
    later : List Row
    later = making rows s starved (joined done (sending_again x sent))

    still : (f : Option Sent) (t : Sent)
        → ((y : Sent) → f ≡ Some y → is_confirmable_with y.mid y.octets ≡ true)
        → kept_of moment f ≡ Some t
        → is_confirmable_with t.mid t.octets ≡ true
    still None t fits kept = absurd cc
    still (Some y) t fits kept =
        subst (λ (z : Sent). is_confirmable_with z.mid z.octets ≡ true) (some_same kept)
        (fits y refl)
