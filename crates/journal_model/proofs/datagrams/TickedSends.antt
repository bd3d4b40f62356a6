-- What a tick sends: datagrams that can be read and fit; each response among them is a 2.05; and
-- each body that it notes as built is sent.
use Rattle.std.proofs.Common.{
  ◌≡◌,
  ℕ,
  ◌+◌,
  ◌<◌,
  ◌==◌,
  ◌||◌,
  Bool,
  true,
  false,
  cond,
  List,
  [],
  ◌∷◌,
  ◌++◌,
  length,
  fold,
  Option,
  Some,
  None,
  nat_le,
  Ok,
  refl,
  subst,
  arith,
}
use Rattle.std.specs.List.{AllByRecursion}
use Rattle.std.proofs.lemmas.Bool.{false≢true}
use Rattle.rd_base.specs.declared.peers.Peer.{Peer}
use Rattle.rd_base.proofs.lemmas.Each.{each_append}
use Rattle.message_model.specs.declared.messages.Kind4.TheVariants.{Con}
use Rattle.message_model.specs.Codes as codes_of
use Rattle.message_model.specs.Message.{Message}
use Rattle.message_model.specs.Blocks.{reserved_szx, block_of}
use Rattle.message_model.specs.Reading.{reading}
use Rattle.message_model.specs.Spelling.{spelling}
use Rattle.history_model.specs.Listing.{listing, tag}
use Rattle.event_model.specs.declared.notes.Note.{Note}
use Rattle.event_model.specs.declared.notes.Note.TheVariants as note
use Rattle.event_model.specs.declared.notes.Observer.{Observer}
use Rattle.event_model.specs.Events.{Event}
use Rattle.event_model.specs.Observers.{name_of, observers, observe_value, last_body_formed}
use Rattle.event_model.specs.Flights.{Flight, max_again, deadline, flight}
use Rattle.event_model.specs.Fetches.{
  Request,
  fetches,
  last_request,
  request_noted,
  is_waiting,
  resendings,
  fetch_deadline,
}
use Rattle.journal_model.specs.declared.steps.Step.{Step}
use Rattle.journal_model.specs.declared.steps.StepKind.TheVariants as step
use Rattle.journal_model.specs.declared.rows.Row.{Row}
use Rattle.journal_model.specs.Journal.{events, entries, row_at}
use Rattle.journal_model.specs.Effects.{Effects, mid_of}
use Rattle.journal_model.specs.Requests.{szx_of, number_of}
use Rattle.journal_model.specs.Bodies.{is_long, part_reply, body_reply}
use Rattle.journal_model.specs.Ticks.{
  confirmable_sent,
  sent_again,
  notification_again,
  flight_again,
  notifications_again,
  Ticking,
  ticking,
  events_with,
  first_block,
  block_shown,
  is_unchanged,
  notified_unless,
  listing_for,
  notified_if,
  is_looked_at,
  notification_next,
  notifications,
  request_again,
  fetch_again,
  requests_again,
  tick_effects,
  due_by,
}
use Rattle.journal_model.specs.SentDatagrams.{IsFitting, is_response}
use Rattle.journal_model.specs.CarriedBlocks.{is_content}
use Rattle.journal_model.proofs.NoteKinds.{of_again, of_resent}
use Rattle.journal_model.proofs.StepNotes.{notifications_again-notes, requests_again-notes}
use Rattle.journal_model.proofs.notes.LookupNotes.{IsAsking}
use Rattle.journal_model.proofs.flights.NotificationsAgain.{events_after_again}
use Rattle.journal_model.proofs.sends.BodyAnswers.{
  wanted_by_observer,
  same_message,
  tag-length,
  notification_bears,
  with_reply,
}
use Rattle.journal_model.proofs.sends.ValidSends.{is_confirmable}
use Rattle.journal_model.proofs.sends.TickSends.{
  sent_by-FoundSent,
  confirmable_of,
  each_of_sent,
  again_sent,
}
use Rattle.journal_model.proofs.datagrams.FittingReplies.{reply_read, reply_fits, good_body_reply}
use Rattle.journal_model.proofs.datagrams.NotedSends.{
  FirstSent,
  NoteFact,
  NoteFacts,
  facts_before,
  facts_after,
  is_telling,
  quiet_facts,
  first_from,
}

-- a datagram of a tick
pub record IsTicked (d : Peer × List ℕ) : Type 0 where
  pub fits : IsFitting d.1
  pub content : (m : Message) → reading d.1 ≡ Ok m → is_response m ≡ true → is_content m ≡ true

-- all that is sent is so
abbrev pub AreTicked : List (Peer × List ℕ) → Type 0
AreTicked sent = AllByRecursion IsTicked sent

-- what an earlier row sent can be retransmitted by a tick, where it is confirmable
abbrev pub IsResendable : Peer × List ℕ → Type 0
IsResendable d = is_confirmable d.1 ≡ true → IsTicked d

-- so it is of each row at a place
abbrev pub Resendable : List Row → Type 0
Resendable rows =
    (place : ℕ) (r : Row) → row_at place rows ≡ Some r → AllByRecursion IsResendable r.sent

-- ---- what is retransmitted

again_one : (rows : List Row) (place : ℕ) (peer : Peer) (mid : ℕ) (n : Note)
    → Resendable rows
    → AreTicked (sent_again (confirmable_sent (row_at place rows) peer mid) n).sent
again_one rows place peer mid n all =
    again_sent IsTicked (confirmable_sent (row_at place rows) peer mid) n
    (λ d found. let it = sent_by-FoundSent IsResendable (row_at place rows) peer mid d
    (λ r at. all place r at) found in it.holds (confirmable_of mid d.1 it.confirmable))

notifications_ticked : (rows : List Row) (moment : ℕ)
    → Resendable rows
    → AreTicked (notifications_again rows moment).sent
unfolding notifications_again
notifications_ticked rows moment all =
    each_of_sent IsTicked (λ o. flight_again rows moment o (flight o (events rows)))
    (observers (events rows)) (each (observers (events rows)))
  where
    again : (b c : Bool) (o : Observer) (f : Flight)
        → AreTicked (notification_again (due_by b c) rows o f).sent
    again false c o f = tt
    again true true o f = tt
    again true false o f = again_one rows f.formed.place o.peer f.mid (note.Again o.peer f.mid) all

    flying : (o : Observer) (f : Option Flight) → AreTicked (flight_again rows moment o f).sent
    flying o None = tt
    flying o (Some f) =
        again (nat_le (deadline f.formed f.again) moment) (nat_le max_again (length f.again)) o f

    each : (standing : List Observer)
        → AllByRecursion (λ o. AreTicked (flight_again rows moment o (flight o (events rows))).sent)
        standing
    each [] = tt
    each (o ∷ standing) = (flying o (flight o (events rows)), each standing)

requests_ticked : (rows : List Row) (moment : ℕ)
    → Resendable rows
    → AreTicked (requests_again rows moment).sent
unfolding requests_again
requests_ticked rows moment all =
    each_of_sent IsTicked (λ peer. fetch_again rows moment peer (last_request peer (events rows)))
    (fetches (events rows)) (each (fetches (events rows)))
  where
    again : (b c : Bool) (peer : Peer) (e : Event) (request : Option Request)
        → AreTicked (request_again (due_by b c) rows peer e request).sent
    again b c peer e None = tt
    again false c peer e (Some request) = tt
    again true true peer e (Some request) = tt
    again true false peer e (Some request) =
        again_one rows e.place peer request.mid (note.Resent peer) all

    running : (peer : Peer) (e : Option Event) → AreTicked (fetch_again rows moment peer e).sent
    running peer None = tt
    running peer (Some e) =
        again (nat_le (fetch_deadline peer e (events rows)) moment)
        (is_waiting peer (events rows)
        || nat_le max_again (length (resendings peer (events rows)))) peer e
        (request_noted e.note)

    each : (peers : List Peer)
        → AllByRecursion (λ peer.
        AreTicked (fetch_again rows moment peer (last_request peer (events rows))).sent)
        peers
    each [] = tt
    each (peer ∷ peers) = (running peer (last_request peer (events rows)), each peers)

-- what they note says nothing
again_tells : (n : Note) → of_again n ≡ true → is_telling n ≡ false
again_tells (note.Settled place octets) h = absurd (false≢true h)
again_tells (note.Kept peer key body current) h = absurd (false≢true h)
again_tells (note.Watched o) h = absurd (false≢true h)
again_tells (note.Formed peer token body mid) h = absurd (false≢true h)
again_tells _ h = refl

resent_tells : (n : Note) → of_resent n ≡ true → is_telling n ≡ false
resent_tells (note.Settled place octets) h = absurd (false≢true h)
resent_tells (note.Kept peer key body current) h = absurd (false≢true h)
resent_tells (note.Watched o) h = absurd (false≢true h)
resent_tells (note.Formed peer token body mid) h = absurd (false≢true h)
resent_tells _ h = refl

-- ---- new notifications

-- the size of a block that a notification names
shown_usable : (o : Observer) (body : List ℕ)
    → o.szx < reserved_szx
    → szx_of (block_shown o body) < 7
shown_usable o body low = by (is_long (first_block o) body)
  where
    by : (b : Bool) → szx_of (cond b (first_block o) None) < 7
    by true = low
    by false = omega arith

-- a notification is a 2.05
notification_content : (current : List ℕ) (observe : Option ℕ) (o : Observer) (body : List ℕ)
    → ((body_reply (Some current) observe (block_shown o body) body).code == codes_of.content)
    ≡ true
unfolding body_reply block_of
notification_content current observe o body = by (is_long (first_block o) body)
  where
    by : (b : Bool)
        → ((part_reply (Some current) observe (cond b (first_block o) None)
        (block_of body (number_of (cond b (first_block o) None))
        (szx_of (cond b (first_block o) None)))).code
        == codes_of.content)
        ≡ true
    by true = refl
    by false = refl

-- a notification, as a message
abbrev notification_message : ℕ → List ℕ → Option ℕ → Observer → List ℕ → Message
notification_message mid current observe o body =
    with_reply Con mid o.token (body_reply (Some current) observe (block_shown o body) body)

notification_read : (mid : ℕ) (current : List ℕ) (observe : Option ℕ) (o : Observer) (body : List ℕ)
    → IsAsking o
    → length current ≡ 8
    → reading (spelling (notification_message mid current observe o body))
    ≡ Ok (notification_message mid current observe o body)
notification_read mid current observe o body asking short =
    reply_read Con mid o.token (body_reply (Some current) observe (block_shown o body) body)
    asking.token (good_body_reply (Some current) observe (block_shown o body) body short
    (shown_usable o body asking.szx))

notification_ticked : (mid : ℕ) (current : List ℕ) (observe : Option ℕ) (o : Observer)
    (body : List ℕ)
    → IsAsking o
    → length current ≡ 8
    → IsTicked (o.peer, spelling (notification_message mid current observe o body))
notification_ticked mid current observe o body asking short = record {
  fits =
      reply_fits Con mid o.token (body_reply (Some current) observe (block_shown o body) body)
      asking.token (good_body_reply (Some current) observe (block_shown o body) body short
      (shown_usable o body asking.szx));
  content = λ n e responds. subst (λ (x : Message). is_content x ≡ true)
      (same_message (notification_message mid current observe o body) n
      (spelling (notification_message mid current observe o body))
      (notification_read mid current observe o body asking short) e)
      (notification_content current observe o body);
}

notification_first : (mid : ℕ) (current : List ℕ) (observe : Option ℕ) (o : Observer)
    (body : List ℕ)
    → IsAsking o
    → length current ≡ 8
    → FirstSent ((o.peer, spelling (notification_message mid current observe o body)) ∷ []) o.peer
    o.token
    body
notification_first mid current observe o body asking short =
    first_from o.peer (wanted_by_observer o) body current
    (notification_message mid current observe o body)
    (notification_read mid current observe o body asking short)
    (notification_content current observe o body) refl
    (notification_bears mid current observe o body asking.token short asking.szx)

-- what a tick did so far
record Ticked (s : Step) (done : Effects) : Type 0 where
  sent : AreTicked done.sent
  facts : NoteFacts step.Tick s done.sent done.notes

-- one observer more
one_more : (rows : List Row) (moment : ℕ) (s : Step) (done : Effects) (o : Observer)
    → IsAsking o
    → Ticked s done
    → Ticked s (notification_next (ticking rows moment s) done o)
one_more rows moment s done o asking it = looked (is_looked_at (ticking rows moment s) done o)
  where
    t : Ticking
    t = ticking rows moment s

    short : length (tag (entries rows) moment) ≡ 8
    short = tag-length (entries rows) moment

    more : (e : Effects)
        → AreTicked e.sent
        → NoteFacts step.Tick s e.sent e.notes
        → Ticked s (record {
          sent = done.sent
              ++ e.sent;
          notes = done.notes
              ++ e.notes;
          drew = done.drew + e.drew;
        })
    more e sent facts = record {
      sent = each_append IsTicked done.sent e.sent it.sent sent;
      facts =
          each_append (NoteFact step.Tick s (done.sent ++ e.sent)) done.notes e.notes
          (facts_before step.Tick s done.sent e.sent done.notes it.facts)
          (facts_after step.Tick s done.sent e.sent e.notes facts);
    }

    keeps : (sent : List (Peer × List ℕ)) (b : Bool)
        → NoteFacts step.Tick s sent
        (cond b (note.Kept o.peer o.key (listing o.query (entries rows) moment)
        (tag (entries rows) moment)
        ∷ []) [])
    keeps sent true = (short, tt)
    keeps sent false = tt

    unless : (b : Bool) → Ticked s (record {
      sent =
          done.sent
          ++ (notified_unless b (ticking rows moment s) done o
          (listing_for (ticking rows moment s) o)).sent;
      notes =
          done.notes
          ++ (notified_unless b (ticking rows moment s) done o
          (listing_for (ticking rows moment s) o)).notes;
      drew =
          done.drew
          + (notified_unless b (ticking rows moment s) done o
          (listing_for (ticking rows moment s) o)).drew;
    })
    unless true =
        more (notified_unless true (ticking rows moment s) done o
        (listing_for (ticking rows moment s) o)) tt (tt, tt)
    unless false =
        let e : Effects =
        notified_unless false (ticking rows moment s) done o
        (listing_for (ticking rows moment s) o) in
        more e (
          notification_ticked (mid_of s.worker (s.drawn + done.drew)) (tag (entries rows) moment)
              (Some (observe_value (events_with (ticking rows moment s) done))) o
              (listing o.query (entries rows) moment) asking short,
          tt,
        ) (
          notification_first (mid_of s.worker (s.drawn + done.drew)) (tag (entries rows) moment)
              (Some (observe_value (events_with (ticking rows moment s) done))) o
              (listing o.query (entries rows) moment) asking short,
          keeps e.sent (is_long (first_block o) (listing o.query (entries rows) moment)),
        )

    looked : (b : Bool) → Ticked s (record {
      sent = done.sent ++ (notified_if b (ticking rows moment s) done o).sent;
      notes = done.notes ++ (notified_if b (ticking rows moment s) done o).notes;
      drew = done.drew + (notified_if b (ticking rows moment s) done o).drew;
    })
    looked false = more (notified_if false (ticking rows moment s) done o) tt tt
    looked true =
        unless
        (is_unchanged (last_body_formed (name_of o) (events_with (ticking rows moment s) done))
        (listing_for (ticking rows moment s) o).body)

-- all of them
all_more : (rows : List Row) (moment : ℕ) (s : Step) (left : List Observer) (done : Effects)
    → AllByRecursion IsAsking left
    → Ticked s done
    → Ticked s (fold (notification_next (ticking rows moment s)) done left)
all_more rows moment s [] done asking it = it
all_more rows moment s (o ∷ left) done asking it =
    all_more rows moment s left (notification_next (ticking rows moment s) done o) asking.1
    (one_more rows moment s done o asking.0 it)

-- the first part of a tick
begins : (rows : List Row) (moment : ℕ) (s : Step)
    → Resendable rows
    → Ticked s (notifications_again rows moment)
begins rows moment s all = record {
  sent = notifications_ticked rows moment all;
  facts =
      quiet_facts of_again again_tells step.Tick s (notifications_again rows moment).sent
      (notifications_again rows moment).notes (notifications_again-notes rows moment);
}

-- with its notifications
notified : (rows : List Row) (moment : ℕ) (s : Step)
    → Resendable rows
    → AllByRecursion IsAsking (observers (events_after_again rows moment s.word))
    → Ticked s (notifications (ticking rows moment s) (notifications_again rows moment))
unfolding notifications
notified rows moment s all asking =
    all_more rows moment s (observers (events_after_again rows moment s.word))
    (notifications_again rows moment) asking (begins rows moment s all)

-- and with requests of fetches
ends : (rows : List Row) (moment : ℕ) (s : Step) (done : Effects) → Resendable rows → Ticked s done
    → Ticked s (record {
      sent = done.sent
          ++ (requests_again rows moment).sent;
      notes = done.notes
          ++ (requests_again rows moment).notes;
      drew =
          done.drew + (requests_again rows moment).drew;
    })
ends rows moment s done all it = record {
  sent =
      each_append IsTicked done.sent (requests_again rows moment).sent it.sent
      (requests_ticked rows moment all);
  facts =
      each_append (NoteFact step.Tick s (done.sent ++ (requests_again rows moment).sent)) done.notes
      (requests_again rows moment).notes
      (facts_before step.Tick s done.sent (requests_again rows moment).sent done.notes it.facts)
      (quiet_facts of_resent resent_tells step.Tick s
      (done.sent ++ (requests_again rows moment).sent) (requests_again rows moment).notes
      (requests_again-notes rows moment));
}

-- what a tick sends, and what it notes of that
pub record TickSends (s : Step) (e : Effects) : Type 0 where
  pub sent : AreTicked e.sent
  pub facts : NoteFacts step.Tick s e.sent e.notes

pub tick_sends : (starved : Bool) (rows : List Row) (moment : ℕ) (s : Step)
    → Resendable rows
    → AllByRecursion IsAsking (observers (events_after_again rows moment s.word))
    → TickSends s (tick_effects starved rows moment s)
unfolding tick_effects
tick_sends true rows moment s all asking =
    let it = ends rows moment s (notifications_again rows moment) all (begins rows moment s all) in
    record {
      sent = it.sent;
      facts = it.facts;
    }
tick_sends false rows moment s all asking =
    let it =
    ends rows moment s (notifications (ticking rows moment s) (notifications_again rows moment)) all
    (notified rows moment s all asking) in
    record { sent = it.sent; facts = it.facts }
