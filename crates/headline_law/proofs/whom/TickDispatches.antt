-- What ticks send: responses, and requests of running fetches that are retransmitted.
use Rattle.std.proofs.Common.{
  ◌≡◌,
  ◌⊎◌,
  inl,
  inr,
  ℕ,
  ◌+◌,
  ◌*◌,
  ◌/◌,
  ◌%◌,
  ◌<◌,
  ◌≤◌,
  ◌==◌,
  ◌&&◌,
  ◌||◌,
  Bool,
  true,
  false,
  cond,
  List,
  [],
  ◌∷◌,
  ◌++◌,
  length,
  find,
  fold,
  Option,
  Some,
  None,
  nat_le,
  Ok,
  refl,
  sym,
  ap,
  subst,
  ◌∙◌,
  eqb-true,
  arith,
}
use Rattle.std.specs.List.{AllByRecursion, list_any}
use Rattle.std.proofs.lemmas.Bool.{
  false≢true,
  and_parts,
  and_from,
  or_left,
  or_right,
}
use Rattle.std.proofs.lemmas.List.Folds.{list_any-append}
use Rattle.std.proofs.lemmas.Option.{same_Some}
use Rattle.rd_base.specs.declared.peers.Peer.{Peer}
use Rattle.rd_base.proofs.lemmas.Among.{any_among, among_all}
use Rattle.rd_base.proofs.lemmas.Numbers.{eqb-refl}
use Rattle.rd_base.proofs.lemmas.Each.{each_append, each_weaker}
use Rattle.message_model.specs.declared.messages.Kind4.{Kind4}
use Rattle.message_model.specs.declared.messages.Kind4.TheVariants.{Con}
use Rattle.message_model.specs.declared.messages.Role.TheVariants as role
use Rattle.message_model.specs.Codes as codes_of
use Rattle.message_model.specs.Message.{Message, response_role, role_of, longest_token}
use Rattle.message_model.specs.Blocks.{reserved_szx, block_of}
use Rattle.message_model.specs.Reading.{reading}
use Rattle.message_model.specs.Spelling.{header_spelling, spelling}
use Rattle.history_model.specs.Listing.{listing, tag}
use Rattle.event_model.specs.declared.notes.Note.{Note}
use Rattle.event_model.specs.declared.notes.Note.TheVariants as note
use Rattle.event_model.specs.declared.notes.Observer.{Observer}
use Rattle.event_model.specs.Same.{is_same_peer}
use Rattle.event_model.specs.Events.{Event}
use Rattle.event_model.specs.Observers.{name_of, observers, observe_value, last_body_formed}
use Rattle.event_model.specs.Flights.{max_again}
use Rattle.event_model.specs.Fetches.{
  Request,
  fetches,
  is_fetching,
  last_request,
  request_noted,
  is_waiting,
  resendings,
  fetch_deadline,
}
use Rattle.event_model.proofs.SameLaws.{is_same_peer-refl}
use Rattle.journal_model.specs.declared.steps.Step.{Step}
use Rattle.journal_model.specs.declared.rows.Row.{Row}
use Rattle.journal_model.specs.Journal.{events, entries, row_at}
use Rattle.journal_model.specs.Effects.{Effects, mid_of}
use Rattle.journal_model.specs.Requests.{szx_of, number_of}
use Rattle.journal_model.specs.Bodies.{is_long, part_reply, body_reply}
use Rattle.journal_model.specs.BodyFormers.{forms_notification}
use Rattle.journal_model.specs.Ticks.{
  is_confirmable_with,
  confirmable_sent,
  Ticking,
  ticking,
  events_with,
  first_block,
  block_shown,
  is_unchanged,
  notified_unless,
  listing_for,
  notified_if,
  is_looked_at,
  notification_next,
  notifications_again,
  notifications,
  request_again,
  fetch_again,
  requests_again,
  tick_effects,
  due_by,
}
use Rattle.journal_model.proofs.NoteKinds.{of_resent, none_of}
use Rattle.journal_model.proofs.StepNotes.{requests_again-notes}
use Rattle.journal_model.proofs.notes.LookupNotes.{IsAsking}
use Rattle.journal_model.proofs.flights.NotificationsAgain.{
  AgainSent,
  again_sends,
  again_none,
  events_after_again,
}
use Rattle.journal_model.proofs.sends.BodyAnswers.{same_message, tag-length, with_reply}
use Rattle.journal_model.proofs.sends.TickSends.{each_of_sent, again_sent}
use Rattle.journal_model.proofs.datagrams.FittingReplies.{reply_read, good_body_reply}

-- ---- responses

-- octets that are read as a response, where they are read
abbrev pub Responds : List ℕ → Type 0
Responds octets = (m : Message) → reading octets ≡ Ok m → role_of m.kind m.code ≡ role.Response

-- a message of any type but a Reset, with a code of responses, is one
pub role_of_response : (kind : Kind4) (code : ℕ)
    → codes_of.is_response_code code ≡ true
    → response_role kind ≡ role.Response
    → role_of kind code ≡ role.Response
role_of_response kind code class fits =
    by (code == codes_of.empty) (codes_of.is_request_code code) refl refl
  where
    low : codes_of.class_of code ≡ 0 → ⊥
    low zero =
        false≢true
        (subst (λ n. (nat_le 2 n && nat_le n 5) ≡ true) zero class)

    by : (a b : Bool)
        → (code == codes_of.empty) ≡ a
        → codes_of.is_request_code code ≡ b
        → role_of kind code ≡ role.Response
    by true b is asks =
        absurd (low (ap codes_of.class_of (eqb-true code codes_of.empty is)))
    by false true is asks =
        absurd (low (eqb-true (codes_of.class_of code) 0
        (and_parts _ (codes_of.class_of code == 0) asks).1))
    by false false is asks = rw (is, asks, class) fits

-- the message that a row sent to a peer, which is confirmable and has this Message ID
abbrev pub is_one : Peer → ℕ → Peer × List ℕ → Bool
is_one peer mid d = is_same_peer d.0 peer && is_confirmable_with mid d.1

-- the first of two lists that passes a test is of the first list, where one of that passes it
found_front : (P : Peer × List ℕ → Type 0) (test : Peer × List ℕ → Bool)
    (xs ys : List (Peer × List ℕ)) (d : Peer × List ℕ)
    → AllByRecursion P xs
    → list_any test xs ≡ true
    → find test (xs ++ ys) ≡ Some d
    → P d
found_front P test [] ys d all some found = absurd (false≢true some)
found_front P test (x ∷ xs) ys d all some found =
    by (test x) refl some found (λ h g. found_front P test xs ys d all.1 h g)
  where
    by : (b : Bool)
        → test x ≡ b
        → (b || list_any test xs) ≡ true
        → cond b (Some x) (find test (xs ++ ys)) ≡ Some d
        → (list_any test xs ≡ true → find test (xs ++ ys) ≡ Some d → P d)
        → P d
    by true good h g more = subst P (same_Some x d g) all.0
    by false bad h g more = more h g

-- ---- new notifications

-- what a tick did so far: it sent responses; and each notification that it noted is there
record NotificationsSent (done : Effects) : Type 0 where
  responds : AllByRecursion (λ (d : Peer × List ℕ). Responds d.1) done.sent
  there : (peer : Peer) (mid : ℕ)
      → list_any (forms_notification peer mid) done.notes ≡ true
      → list_any (is_one peer mid) done.sent ≡ true

-- with more of that
more_sent : (done e : Effects) (drew : ℕ)
    → NotificationsSent e
    → NotificationsSent done
    → NotificationsSent
    (record { sent = done.sent ++ e.sent; notes = done.notes ++ e.notes; drew = drew })
more_sent done e drew it so_far = record {
  responds =
      each_append (λ (d : Peer × List ℕ). Responds d.1) done.sent e.sent so_far.responds
      it.responds;
  there = λ peer mid h.
      list_any-append (is_one peer mid) done.sent e.sent
      ∙ by (list_any (forms_notification peer mid) done.notes) peer mid refl
      (sym (list_any-append (forms_notification peer mid) done.notes e.notes) ∙ h);
}
  where
    by : (b : Bool) (peer : Peer) (mid : ℕ)
        → list_any (forms_notification peer mid) done.notes ≡ b
        → (list_any (forms_notification peer mid) done.notes
        || list_any (forms_notification peer mid) e.notes)
        ≡ true
        → (list_any (is_one peer mid) done.sent || list_any (is_one peer mid) e.sent) ≡ true
    by true peer mid is h =
        or_left (list_any (is_one peer mid) done.sent) (list_any (is_one peer mid) e.sent)
        (so_far.there peer mid is)
    by false peer mid is h =
        or_right (list_any (is_one peer mid) done.sent) (list_any (is_one peer mid) e.sent)
        (it.there peer mid
        (subst (λ b. (b || list_any (forms_notification peer mid) e.notes) ≡ true) is h))

-- the size of a block that a notification names
shown_usable : (o : Observer) (body : List ℕ)
    → o.szx < reserved_szx
    → szx_of (block_shown o body) < 7
shown_usable o body low = by (is_long (first_block o) body)
  where
    by : (b : Bool) → szx_of (cond b (first_block o) None) < 7
    by true = low
    by false = omega arith

-- a notification is a response
notification_class : (current : List ℕ) (observe : Option ℕ) (o : Observer) (body : List ℕ)
    → codes_of.is_response_code
    (body_reply (Some current) observe (block_shown o body) body).code
    ≡ true
unfolding body_reply block_of
notification_class current observe o body = by (is_long (first_block o) body)
  where
    by : (b : Bool)
        → codes_of.is_response_code (part_reply (Some current) observe (cond b (first_block o) None)
        (block_of body (number_of (cond b (first_block o) None))
        (szx_of (cond b (first_block o) None)))).code
        ≡ true
    by true = refl
    by false = refl

notification_responds : (mid : ℕ) (current : List ℕ) (observe : Option ℕ) (o : Observer)
    (body : List ℕ)
    → IsAsking o
    → length current ≡ 8
    → Responds (spelling (with_reply Con mid o.token
    (body_reply (Some current) observe (block_shown o body) body)))
notification_responds mid current observe o body asking short m e =
    subst (λ (x : Message). role_of x.kind x.code ≡ role.Response)
    (same_message (with_reply Con mid o.token
    (body_reply (Some current) observe (block_shown o body) body)) m
    (spelling (with_reply Con mid o.token
    (body_reply (Some current) observe (block_shown o body) body)))
    (reply_read Con mid o.token (body_reply (Some current) observe (block_shown o body) body)
    asking.token (good_body_reply (Some current) observe (block_shown o body) body short
    (shown_usable o body asking.szx))) e)
    (role_of_response Con
    (body_reply (Some current) observe (block_shown o body) body).code
    (notification_class current observe o body) refl)

-- it is confirmable, and has its Message ID
notification_one : (m : Message)
    → m.kind ≡ Con
    → length m.token ≤ longest_token
    → is_confirmable_with m.mid (spelling m) ≡ true
unfolding spelling header_spelling
notification_one m con small =
    rw con
    (and_from _ (m.mid / 256 * 256 + m.mid % 256 == m.mid)
    (eqb-of (((1 * 64 + 0 * 16 + length m.token)) / 16) 4 (omega (arith, small)))
    (eqb-of (m.mid / 256 * 256 + m.mid % 256) m.mid (omega arith)))
  where
    eqb-of : (a b : ℕ) → a ≡ b → (a == b) ≡ true
    eqb-of a b same = subst (λ n. (a == n) ≡ true) same (eqb-refl a)

-- one observer more
one_more : (rows : List Row) (moment : ℕ) (s : Step) (done : Effects) (o : Observer)
    → IsAsking o
    → NotificationsSent done
    → NotificationsSent (notification_next (ticking rows moment s) done o)
one_more rows moment s done o asking so_far = looked (is_looked_at (ticking rows moment s) done o)
  where
    t : Ticking
    t = ticking rows moment s

    short : length (tag (entries rows) moment) ≡ 8
    short = tag-length (entries rows) moment

    kept_none : (b : Bool) (body : List ℕ) (peer : Peer) (mid : ℕ)
        → list_any (forms_notification peer mid)
        (cond b (note.Kept o.peer o.key body (tag (entries rows) moment) ∷ []) [])
        ≡ false
    kept_none true body peer mid = refl
    kept_none false body peer mid = refl

    unless : (b : Bool)
        → NotificationsSent (notified_unless b (ticking rows moment s) done o
        (listing_for (ticking rows moment s) o))
    unless true = record { responds = tt; there = λ peer mid h. absurd (false≢true h) }
    unless false = record {
      responds = (
        notification_responds (mid_of s.worker (s.drawn + done.drew)) (tag (entries rows) moment)
            (Some (observe_value (events_with (ticking rows moment s) done))) o
            (listing o.query (entries rows) moment) asking short,
        tt,
      );
      there = λ peer mid h. here peer mid (sym
          (ap (λ b. is_same_peer o.peer peer && mid_of s.worker (s.drawn + done.drew) == mid || b)
          (kept_none (is_long (first_block o) (listing o.query (entries rows) moment))
          (listing o.query (entries rows) moment) peer mid)) ∙ h);
    }
      where
        plain : (a : Bool) → (a || false) ≡ true → a ≡ true
        plain true h = refl
        plain false h = h

        is_it : is_confirmable_with (mid_of s.worker (s.drawn + done.drew))
            (spelling (with_reply Con (mid_of s.worker (s.drawn + done.drew)) o.token
            (body_reply (Some (tag (entries rows) moment))
            (Some (observe_value (events_with (ticking rows moment s) done)))
            (block_shown o (listing o.query (entries rows) moment))
            (listing o.query (entries rows) moment))))
            ≡ true
        is_it =
            notification_one (with_reply Con (mid_of s.worker (s.drawn + done.drew)) o.token
            (body_reply (Some (tag (entries rows) moment))
            (Some (observe_value (events_with (ticking rows moment s) done)))
            (block_shown o (listing o.query (entries rows) moment))
            (listing o.query (entries rows) moment))) refl asking.token

        here : (peer : Peer) (mid : ℕ)
            → (is_same_peer o.peer peer && mid_of s.worker (s.drawn + done.drew) == mid || false)
            ≡ true
            → list_any (is_one peer mid)
            (notified_unless false (ticking rows moment s) done o
            (listing_for (ticking rows moment s) o)).sent
            ≡ true
        here peer mid h =
            let both =
            and_parts (is_same_peer o.peer peer)
            (mid_of s.worker (s.drawn + done.drew) == mid)
            (plain (is_same_peer o.peer peer && mid_of s.worker (s.drawn + done.drew) == mid) h)
            in
            or_left (is_one peer mid (
              o.peer,
              spelling (with_reply Con (mid_of s.worker (s.drawn + done.drew)) o.token
                  (body_reply (Some (tag (entries rows) moment))
                  (Some (observe_value (events_with (ticking rows moment s) done)))
                  (block_shown o (listing o.query (entries rows) moment))
                  (listing o.query (entries rows) moment))),
            )) false
            (and_from (is_same_peer o.peer peer) _ both.0
            (subst (λ n. is_confirmable_with n
            (spelling (with_reply Con (mid_of s.worker (s.drawn + done.drew)) o.token
            (body_reply (Some (tag (entries rows) moment))
            (Some (observe_value (events_with (ticking rows moment s) done)))
            (block_shown o (listing o.query (entries rows) moment))
            (listing o.query (entries rows) moment))))
            ≡ true)
            (eqb-true (mid_of s.worker (s.drawn + done.drew)) mid both.1) is_it))

    looked : (b : Bool) → NotificationsSent (record {
      sent = done.sent ++ (notified_if b (ticking rows moment s) done o).sent;
      notes = done.notes ++ (notified_if b (ticking rows moment s) done o).notes;
      drew = done.drew + (notified_if b (ticking rows moment s) done o).drew;
    })
    looked false =
        more_sent done (notified_if false (ticking rows moment s) done o) _
        (record { responds = tt; there = λ peer mid h. absurd (false≢true h) }) so_far
    looked true =
        more_sent done (notified_if true (ticking rows moment s) done o) _
        (unless
        (is_unchanged (last_body_formed (name_of o) (events_with (ticking rows moment s) done))
        (listing_for (ticking rows moment s) o).body)) so_far

-- all of them
all_more : (rows : List Row) (moment : ℕ) (s : Step) (left : List Observer) (done : Effects)
    → AllByRecursion IsAsking left
    → NotificationsSent done
    → NotificationsSent (fold (notification_next (ticking rows moment s)) done left)
all_more rows moment s [] done asking it = it
all_more rows moment s (o ∷ left) done asking it =
    all_more rows moment s left (notification_next (ticking rows moment s) done o) asking.1
    (one_more rows moment s done o asking.0 it)

-- ---- what is retransmitted

-- the notification in flight to an observer, as its row sent it, is a response
abbrev pub FlightsRespond : List Row → Type 0
FlightsRespond rows =
    (moment : ℕ) (d : Peer × List ℕ) → AgainSent rows moment d → Responds d.1

-- a request of a running fetch, as its row sent it
pub record AgainAsked (rows : List Row) (d : Peer × List ℕ) : Type 0 where
  pub peer : Peer
  pub event : Event
  pub request : Request
  pub runs : is_fetching peer (events rows) ≡ true
  pub last : last_request peer (events rows) ≡ Some event
  pub found : confirmable_sent (row_at event.place rows) peer request.mid ≡ Some d

-- the third part of a tick sends such requests
asked_again : (rows : List Row) (moment : ℕ)
    → AllByRecursion (AgainAsked rows) (requests_again rows moment).sent
unfolding requests_again
asked_again rows moment =
    each_of_sent (AgainAsked rows)
    (λ peer. fetch_again rows moment peer (last_request peer (events rows)))
    (fetches (events rows))
    (among_all (λ peer. AllByRecursion (AgainAsked rows)
    (fetch_again rows moment peer (last_request peer (events rows))).sent)
    (fetches (events rows))
    (λ peer among. running peer
    (any_among (is_same_peer peer) peer (fetches (events rows)) among (is_same_peer-refl peer))
    (last_request peer (events rows)) refl))
  where
    again : (b c : Bool) (peer : Peer) (e : Event) (request : Option Request)
        → is_fetching peer (events rows) ≡ true
        → last_request peer (events rows) ≡ Some e
        → AllByRecursion (AgainAsked rows) (request_again (due_by b c) rows peer e request).sent
    again b c peer e None runs last = tt
    again false c peer e (Some request) runs last = tt
    again true true peer e (Some request) runs last = tt
    again true false peer e (Some request) runs last =
        again_sent (AgainAsked rows)
        (confirmable_sent (row_at e.place rows) peer request.mid) (note.Resent peer)
        (λ d found. record {
          peer = peer;
          event = e;
          request = request;
          runs = runs;
          last = last;
          found = found;
        })

    running : (peer : Peer)
        → is_fetching peer (events rows) ≡ true
        → (e : Option Event)
        → last_request peer (events rows) ≡ e
        → AllByRecursion (AgainAsked rows) (fetch_again rows moment peer e).sent
    running peer runs None last = tt
    running peer runs (Some e) last =
        again (nat_le (fetch_deadline peer e (events rows)) moment)
        (is_waiting peer (events rows)
        || nat_le max_again (length (resendings peer (events rows)))) peer e
        (request_noted e.note) runs last

-- ---- a tick

-- what a tick sends: responses, and such requests; and where it notes that it built a
-- notification, what is found of it is a response
pub record TickGoes (rows : List Row) (e : Effects) : Type 0 where
  pub sent : AllByRecursion (λ (d : Peer × List ℕ). Responds d.1 ⊎ AgainAsked rows d) e.sent
  pub finds : (peer : Peer) (mid : ℕ) (d : Peer × List ℕ)
      → list_any (forms_notification peer mid) e.notes ≡ true
      → find (is_one peer mid) e.sent ≡ Some d
      → Responds d.1

begins_sent : (rows : List Row) (moment : ℕ)
    → FlightsRespond rows
    → NotificationsSent (notifications_again rows moment)
begins_sent rows moment flights = record {
  responds =
      each_weaker (AgainSent rows moment) (λ (d : Peer × List ℕ). Responds d.1)
      (λ d a. flights moment d a) (notifications_again rows moment).sent (again_sends rows moment);
  there = λ peer mid h.
      absurd (false≢true
      (sym (again_none (forms_notification peer mid) (λ p t. refl) (λ p m. refl) rows moment) ∙ h));
}

ends_sent : (rows : List Row) (moment : ℕ) (done : Effects) (drew : ℕ)
    → NotificationsSent done
    → TickGoes rows (record {
      sent = done.sent ++ (requests_again rows moment).sent;
      notes = done.notes ++ (requests_again rows moment).notes;
      drew = drew;
    })
ends_sent rows moment done drew it = record {
  sent =
      each_append (λ (d : Peer × List ℕ). Responds d.1 ⊎ AgainAsked rows d) done.sent
      (requests_again rows moment).sent
      (each_weaker (λ (d : Peer × List ℕ). Responds d.1)
      (λ (d : Peer × List ℕ). Responds d.1 ⊎ AgainAsked rows d) (λ d h. inl h) done.sent
      it.responds)
      (each_weaker (AgainAsked rows) (λ (d : Peer × List ℕ). Responds d.1 ⊎ AgainAsked rows d)
      (λ d h. inr h) (requests_again rows moment).sent (asked_again rows moment));
  finds = λ peer mid d h found.
      found_front (λ (x : Peer × List ℕ). Responds x.1) (is_one peer mid) done.sent
      (requests_again rows moment).sent d it.responds
      (it.there peer mid (noted_before peer mid (list_any (forms_notification peer mid) done.notes)
      refl
      (sym (list_any-append (forms_notification peer mid) done.notes
      (requests_again rows moment).notes) ∙ h))) found;
}
  where
    never : (peer : Peer) (mid : ℕ) (n : Note)
        → of_resent n ≡ true
        → forms_notification peer mid n ≡ false
    never peer mid (note.Resent p) h = refl
    never peer mid (note.Ceased p) h = refl
    never peer mid _ h = absurd (false≢true h)

    none : (peer : Peer) (mid : ℕ)
        → list_any (forms_notification peer mid) (requests_again rows moment).notes ≡ false
    none peer mid =
        none_of of_resent (forms_notification peer mid) (never peer mid)
        (requests_again rows moment).notes (requests_again-notes rows moment)

    neither : (peer : Peer) (mid : ℕ)
        → list_any (forms_notification peer mid) done.notes ≡ false
        → (list_any (forms_notification peer mid) done.notes
        || list_any (forms_notification peer mid) (requests_again rows moment).notes)
        ≡ false
    neither peer mid is = rw (is, none peer mid) refl

    noted_before : (peer : Peer) (mid : ℕ) (b : Bool)
        → list_any (forms_notification peer mid) done.notes ≡ b
        → (list_any (forms_notification peer mid) done.notes
        || list_any (forms_notification peer mid) (requests_again rows moment).notes)
        ≡ true
        → list_any (forms_notification peer mid) done.notes ≡ true
    noted_before peer mid true is h = is
    noted_before peer mid false is h =
        absurd (false≢true (sym (neither peer mid is) ∙ h))

pub tick_goes : (starved : Bool) (rows : List Row) (moment : ℕ) (s : Step)
    → FlightsRespond rows
    → AllByRecursion IsAsking (observers (events_after_again rows moment s.word))
    → TickGoes rows (tick_effects starved rows moment s)
unfolding tick_effects notifications
tick_goes true rows moment s flights asking =
    ends_sent rows moment (notifications_again rows moment) _ (begins_sent rows moment flights)
tick_goes false rows moment s flights asking =
    ends_sent rows moment (notifications (ticking rows moment s) (notifications_again rows moment))
    _
    (all_more rows moment s (observers (events_after_again rows moment s.word))
    (notifications_again rows moment) asking (begins_sent rows moment flights))
