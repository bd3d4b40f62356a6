-- What a tick retransmits: requests of fetches, and confirmable messages of earlier rows; so no
-- tick sends 2.03.
use Rattle.std.proofs.Common.{
  ◌≡◌,
  ℕ,
  ◌+◌,
  ◌*◌,
  ◌/◌,
  ◌==◌,
  ◌||◌,
  ◌&&◌,
  Bool,
  true,
  false,
  List,
  [],
  ◌∷◌,
  length,
  fold,
  Option,
  Some,
  None,
  refl,
  subst,
  ◌∙◌,
  nat_le,
  eqb-true,
}
use Rattle.std.specs.List.{AllByRecursion}
use Rattle.std.specs.Prelude.{Ok}
use Rattle.std.proofs.lemmas.Bool.{false≢true, and_parts}
use Rattle.rd_base.specs.declared.peers.Peer.{Peer}
use Rattle.message_model.specs.Message.{Message}
use Rattle.message_model.specs.Reading.{reading}
use Rattle.message_model.specs.Spelling.{header_spelling, spelling}
use Rattle.event_model.specs.declared.notes.Note.{Note}
use Rattle.event_model.specs.declared.notes.Note.TheVariants as note
use Rattle.event_model.specs.declared.notes.Observer.{Observer}
use Rattle.event_model.specs.Same.{is_same_peer}
use Rattle.event_model.specs.Events.{Event}
use Rattle.event_model.specs.KeptAnswers.{Answer}
use Rattle.event_model.specs.Observers.{name_of, observers, observe_value, last_body_formed}
use Rattle.event_model.specs.Flights.{Flight, max_again, deadline, flight}
use Rattle.event_model.specs.Fetches.{
  Request,
  fetches,
  last_request,
  request_noted,
  is_waiting,
  resendings,
  fetch_deadline,
}
use Rattle.journal_model.specs.declared.steps.Step.{Step}
use Rattle.journal_model.specs.declared.rows.Row.{Row}
use Rattle.journal_model.specs.Journal.{events, row_at}
use Rattle.journal_model.specs.Effects.{Effects}
use Rattle.journal_model.specs.Ticks.{
  is_confirmable_with,
  confirmable_sent,
  sent_again,
  each_of,
  notification_again,
  flight_again,
  notifications_again,
  Ticking,
  ticking,
  events_with,
  block_shown,
  notified_unless,
  listing_for,
  is_unchanged,
  notified_if,
  is_looked_at,
  notification_next,
  notifications,
  request_again,
  fetch_again,
  requests_again,
  tick_effects,
  due_by,
}
use Rattle.message_model.proofs.ReadingLaws.{header_read}
use Rattle.journal_model.proofs.sends.PlainSteps.{IsPlain, ArePlain}
use Rattle.journal_model.proofs.sends.ValidSends.{
  NotValid,
  NoneValid,
  is_confirmable,
  NoConfirmableValid,
  body_code,
}
use Rattle.rd_base.proofs.lemmas.Each.{each_append}
use Rattle.rd_base.proofs.lemmas.Among.{find_passes}

-- what is found to be retransmitted
pub record FoundSent (P : Peer × List ℕ → Type 0) (peer : Peer) (mid : ℕ) (d : Peer × List ℕ) : Type
    0 where
  pub holds : P d
  pub to_peer : is_same_peer d.0 peer ≡ true
  pub confirmable : is_confirmable_with mid d.1 ≡ true

-- so it is of whatever is found
pub sent_by-FoundSent : (P : Peer × List ℕ → Type 0) (at : Option Row) (peer : Peer) (mid : ℕ)
    (d : Peer × List ℕ)
    → ((r : Row) → at ≡ Some r → AllByRecursion P r.sent)
    → confirmable_sent at peer mid ≡ Some d → FoundSent P peer mid d
sent_by-FoundSent P None peer mid d all found = absurd (let no : None ≡ Some d = found in cc)
sent_by-FoundSent P (Some r) peer mid d all found =
    let it =
    find_passes P (λ x. is_same_peer x.0 peer && is_confirmable_with mid x.1) r.sent d
    (all r refl) found in
    let both = and_parts (is_same_peer d.0 peer) (is_confirmable_with mid d.1) it.1 in
    record { holds = it.0; to_peer = both.0; confirmable = both.1 }

-- it is confirmable, and has this Message ID
pub confirmable_of : (mid : ℕ) (octets : List ℕ)
    → is_confirmable_with mid octets ≡ true
    → is_confirmable octets ≡ true
confirmable_of mid [] h = absurd (false≢true h)
confirmable_of mid (a ∷ []) h = absurd (false≢true h)
confirmable_of mid (a ∷ b ∷ []) h = absurd (false≢true h)
confirmable_of mid (a ∷ b ∷ c ∷ []) h = absurd (false≢true h)
confirmable_of mid (a ∷ b ∷ c ∷ d ∷ rest) h = (and_parts (a / 16 == 4) (c * 256 + d == mid) h).0

-- and so is it read
pub mid_of_confirmable : (mid : ℕ) (octets : List ℕ) (m : Message)
    → is_confirmable_with mid octets ≡ true
    → reading octets ≡ Ok m
    → m.mid ≡ mid
mid_of_confirmable mid octets m h e =
    let it = header_read octets m e in
    let there : is_confirmable_with mid (it.first ∷ m.code ∷ it.high ∷ it.low ∷ it.rest) ≡ true =
    subst (λ (os : List ℕ). is_confirmable_with mid os ≡ true) it.octets_are h in
    it.mid_is
    ∙ eqb-true (it.high * 256 + it.low) mid
    (and_parts (it.first / 16 == 4) (it.high * 256 + it.low == mid) there).1

-- what is sent one after the other
pub each_of_sent : {A : Type 0} (P : Peer × List ℕ → Type 0) (does : A → Effects) (xs : List A)
    → AllByRecursion (λ x. AllByRecursion P (does x).sent) xs
    → AllByRecursion P (each_of does xs).sent
each_of_sent P does [] all = tt
each_of_sent P does (x ∷ xs) all =
    each_append P (does x).sent (each_of does xs).sent all.0 (each_of_sent P does xs all.1)

-- whatever is found is sent
pub again_sent : (P : Peer × List ℕ → Type 0) (d : Option (Peer × List ℕ)) (n : Note)
    → ((x : Peer × List ℕ) → d ≡ Some x → P x)
    → AllByRecursion P (sent_again d n).sent
again_sent P None n h = tt
again_sent P (Some d) n h = (h d refl, tt)

-- ---- requests of fetches

-- the rows with the last requests of fetches
abbrev pub AskedPlain : List Row → Type 0
AskedPlain rows =
    (peer : Peer) (e : Event) (request : Request) (r : Row)
    → last_request peer (events rows) ≡ Some e
    → request_noted e.note ≡ Some request
    → row_at e.place rows ≡ Some r
    → ArePlain r.sent

-- so what is retransmitted of them is neither 2.05 nor 2.03
pub requests_plain : (rows : List Row) (moment : ℕ)
    → AskedPlain rows
    → ArePlain (requests_again rows moment).sent
unfolding requests_again
requests_plain rows moment asked =
    each_of_sent (λ (d : Peer × List ℕ). IsPlain d.1)
    (λ peer. fetch_again rows moment peer (last_request peer (events rows)))
    (fetches (events rows)) (each (fetches (events rows)))
  where
    again : (b c : Bool) (peer : Peer) (e : Event) (request : Option Request)
        → last_request peer (events rows) ≡ Some e
        → request_noted e.note ≡ request
        → ArePlain (request_again (due_by b c) rows peer e request).sent
    again b c peer e None last noted = tt
    again false c peer e (Some request) last noted = tt
    again true true peer e (Some request) last noted = tt
    again true false peer e (Some request) last noted =
        again_sent (λ (d : Peer × List ℕ). IsPlain d.1)
        (confirmable_sent (row_at e.place rows) peer request.mid) (note.Resent peer)
        (λ d found.
        (sent_by-FoundSent (λ (x : Peer × List ℕ). IsPlain x.1) (row_at e.place rows) peer
        request.mid d (λ r at. asked peer e request r last noted at) found).holds)

    running : (peer : Peer) (e : Option Event)
        → last_request peer (events rows) ≡ e
        → ArePlain (fetch_again rows moment peer e).sent
    running peer None last = tt
    running peer (Some e) last =
        again (nat_le (fetch_deadline peer e (events rows)) moment)
        (is_waiting peer (events rows)
        || nat_le max_again (length (resendings peer (events rows)))) peer e
        (request_noted e.note) last refl

    each : (peers : List Peer)
        → AllByRecursion
        (λ peer. ArePlain (fetch_again rows moment peer (last_request peer (events rows))).sent)
        peers
    each [] = tt
    each (peer ∷ peers) = (running peer (last_request peer (events rows)) refl, each peers)

-- ---- 2.03

-- no row sends a confirmable 2.03
abbrev pub NoConfirmableValidAt : List Row → Type 0
NoConfirmableValidAt rows =
    (place : ℕ) (r : Row) → row_at place rows ≡ Some r → NoConfirmableValid r.sent

-- so no notification that is retransmitted has this code
again_not_valid : (rows : List Row) (moment : ℕ)
    → NoConfirmableValidAt rows
    → NoneValid (notifications_again rows moment).sent
unfolding notifications_again
again_not_valid rows moment confirmables =
    each_of_sent (λ (d : Peer × List ℕ). NotValid d.1)
    (λ o. flight_again rows moment o (flight o (events rows))) (observers (events rows))
    (each (observers (events rows)))
  where
    again : (b c : Bool) (o : Observer) (f : Flight)
        → NoneValid (notification_again (due_by b c) rows o f).sent
    again false c o f = tt
    again true true o f = tt
    again true false o f =
        again_sent (λ (d : Peer × List ℕ). NotValid d.1)
        (confirmable_sent (row_at f.formed.place rows) o.peer f.mid) (note.Again o.peer f.mid)
        (λ d found. let it = sent_by-FoundSent
        (λ (x : Peer × List ℕ). is_confirmable x.1 ≡ true → NotValid x.1)
        (row_at f.formed.place rows) o.peer f.mid d (λ r at. confirmables f.formed.place r at)
        found in
        it.holds (confirmable_of f.mid d.1 it.confirmable))

    flying : (o : Observer) (f : Option Flight) → NoneValid (flight_again rows moment o f).sent
    flying o None = tt
    flying o (Some f) =
        again (nat_le (deadline f.formed f.again) moment) (nat_le max_again (length f.again)) o f

    each : (standing : List Observer)
        → AllByRecursion (λ o. NoneValid (flight_again rows moment o (flight o (events rows))).sent)
        standing
    each [] = tt
    each (o ∷ standing) = (flying o (flight o (events rows)), each standing)

-- nor has a new one
notifications_not_valid : (t : Ticking) (done : Effects)
    → NoneValid done.sent
    → NoneValid (notifications t done).sent
unfolding notifications spelling header_spelling
notifications_not_valid t done h = folded (observers (events_with t done)) done h
  where
    unless : (b : Bool) (so_far : Effects) (o : Observer) (a : Answer)
        → NoneValid (notified_unless b t so_far o a).sent
    unless true so_far o a = tt
    unless false so_far o a = (
      body_code (Some a.tag) (Some (observe_value (events_with t so_far))) (block_shown o a.body)
          a.body,
      tt,
    )

    looked : (b : Bool) (so_far : Effects) (o : Observer)
        → NoneValid (notified_if b t so_far o).sent
    looked false so_far o = tt
    looked true so_far o =
        unless (is_unchanged (last_body_formed (name_of o) (events_with t so_far))
        (listing_for t o).body) so_far o (listing_for t o)

    folded : (standing : List Observer) (so_far : Effects)
        → NoneValid so_far.sent
        → NoneValid (fold (notification_next t) so_far standing).sent
    folded [] so_far k = k
    folded (o ∷ standing) so_far k =
        folded standing (notification_next t so_far o)
        (each_append (λ (d : Peer × List ℕ). NotValid d.1) so_far.sent
        (notified_if (is_looked_at t so_far o) t so_far o).sent k
        (looked (is_looked_at t so_far o) so_far o))

-- nor has what is neither 2.05 nor 2.03
pub plain_not_valid : (sent : List (Peer × List ℕ)) → ArePlain sent → NoneValid sent
plain_not_valid [] h = tt
plain_not_valid (d ∷ sent) h = (h.0.no_valid, plain_not_valid sent h.1)

-- no tick sends 2.03
pub tick_not_valid : (starved : Bool) (rows : List Row) (moment : ℕ) (s : Step)
    → NoConfirmableValidAt rows
    → AskedPlain rows
    → NoneValid (tick_effects starved rows moment s).sent
unfolding tick_effects
tick_not_valid true rows moment s confirmables asked =
    each_append (λ (d : Peer × List ℕ). NotValid d.1) (notifications_again rows moment).sent
    (requests_again rows moment).sent (again_not_valid rows moment confirmables)
    (plain_not_valid (requests_again rows moment).sent (requests_plain rows moment asked))
tick_not_valid false rows moment s confirmables asked =
    each_append (λ (d : Peer × List ℕ). NotValid d.1)
    (notifications (ticking rows moment s) (notifications_again rows moment)).sent
    (requests_again rows moment).sent
    (notifications_not_valid (ticking rows moment s) (notifications_again rows moment)
    (again_not_valid rows moment confirmables))
    (plain_not_valid (requests_again rows moment).sent (requests_plain rows moment asked))
