-- What a turn takes and sends, and what a registrant gives by it.
use Rattle.std.proofs.Common.{
  ◌≡◌,
  ℕ,
  Bool,
  true,
  false,
  nat_le,
  nat_lt,
  inl,
  inr,
  List,
  [],
  ◌∷◌,
  length,
  take,
  Option,
  Some,
  None,
  Result,
  Ok,
  Err,
  refl,
  sym,
  ap,
  subst,
  ◌∙◌,
  arith,
  if◌then◌else◌,
}
use Rattle.rd_base.specs.declared.moments.Moment.{Moment}
use Rattle.rd_base.specs.declared.peers.Peer.{Peer}
use Rattle.udp_link.specs.declared.links.Came.TheVariants as came
use Rattle.udp_link.specs.declared.links.Went.{Went}
use Rattle.udp_link.specs.Told.{WhereTold, Stays}
use Rattle.udp_link.specs.Links.{Datagram, TakesFirst, AddsLast, CountsSent}
use Rattle.event_model.specs.Flights.{max_again}
use Rattle.client_model.specs.declared.events.Event.{Event}
use Rattle.client_model.specs.declared.events.Event.TheVariants as event
use Rattle.client_model.specs.declared.outcomes.Outcome.{Outcome}
use Rattle.client_model.specs.Requests.{Asked}
use Rattle.client_model.specs.Verdicts.{
  decides,
  verdict,
  is_quiet,
  is_sent_again,
  sent_again,
  tick_decides,
  datagram_decides,
  readable,
}
use Rattle.message_model.specs.Reading.{reading}
use Rattle.client_model.specs.Sending.{sent_for, to_peer, acknowledgement_in}
use Rattle.registrant.specs.declared.turns.TellFault.{TellFault}
use Rattle.registrant.specs.declared.turns.TellFault.TheVariants as fault
use Rattle.registrant.specs.declared.turns.Turn.{Turn}
use Rattle.registrant.specs.declared.turns.Turn.TheVariants as turn
use Rattle.registrant.specs.Talking.{Talking, StandsFor}
use Rattle.registrant.specs.Turns.{
  Outside,
  IsTurned,
  IsTaken,
  IsTimed,
  IsNoLink,
  CountsEnd,
  CountsTurn,
  TakesEvent,
  Sends,
  moment_at,
}
use Rattle.registrant.specs.Giving.{Begins, HappensAll, IsGiven}

-- ---- the verdict

-- the first event that decides gives the verdict
pub verdict_next : (a : Asked) (past : List Event) (e : Event) (o : Outcome)
    → verdict a past ≡ None
    → decides a past e ≡ Some o
    → verdict a (e ∷ past) ≡ Some o
unfolding verdict
verdict_next a past e o none said = rw (none, said) refl

-- where nothing is decided after an event, it decides nothing
pub decides_none : (a : Asked) (past : List Event) (e : Event)
    → verdict a past ≡ None
    → verdict a (e ∷ past) ≡ None
    → decides a past e ≡ None
unfolding verdict
decides_none a past e none later = rw none at later

-- a tick that decides sends nothing
pub tick_silent : (a : Asked) (past : List Event) (now : Moment) (o : Outcome)
    → decides a past (event.Tick now) ≡ Some o
    → is_sent_again a (is_quiet a past) now.0 (sent_again a past) ≡ false
tick_silent a past now o said =
    by (is_quiet a past) (nat_lt (length (sent_again a past)) max_again) refl said
  where
    few : (n : ℕ) → nat_lt n max_again ≡ true → nat_le max_again n ≡ false
    few n e = grind arith

    by : (quiet few_sent : Bool)
        → nat_lt (length (sent_again a past)) max_again ≡ few_sent
        → tick_decides a quiet now.0 (sent_again a past) ≡ Some o
        → is_sent_again a quiet now.0 (sent_again a past) ≡ false
    by true f e s = refl
    by false false e s = rw e refl
    by false true e s =
        let none = rw (few (length (sent_again a past)) e) at s in
        absurd cc

-- ---- what is told

-- what is told before a list stays is told after it
pub told_stays : {A : Type 0} (R : List A → List A → Type 0) (x y z : Option (List A))
    → WhereTold R x y
    → Stays y z
    → WhereTold R x z
told_stays R None y z h s = tt
told_stays R (Some x) None z h s = absurd h
told_stays R (Some x) (Some y) None h s = absurd s
told_stays R (Some x) (Some y) (Some z) h s = subst (λ (l : List _). R x l) (sym s) h

-- what is told after a list stays is told before it
pub stays_told : {A : Type 0} (R : List A → List A → Type 0) (x y z : Option (List A))
    → Stays x y
    → WhereTold R y z
    → WhereTold R x z
stays_told R None y z s h = tt
stays_told R (Some x) None z s h = absurd s
stays_told R (Some x) (Some y) None s h = absurd h
stays_told R (Some x) (Some y) (Some z) s h = subst (λ (l : List _). R l z) s h

pub stays_same : {A : Type 0} (x : Option (List A)) → Stays x x
stays_same None = tt
stays_same (Some x) = refl

told_as : {A : Type 0} (R S : List A → List A → Type 0) (x y : Option (List A))
    → ((k l : List A) → R k l → S k l)
    → WhereTold R x y
    → WhereTold S x y
told_as R S None y f h = tt
told_as R S (Some x) None f h = absurd h
told_as R S (Some x) (Some y) f h = f x y h

-- a datagram that was received is an event
pub told_datagram : (now : Moment) (peer : Peer) (n : ℕ) (room octets : List ℕ)
    (x y z : Option (List Datagram))
    → octets ≡ take n room
    → WhereTold (TakesFirst (came.Datagram peer n) room) x y
    → Stays y z
    → WhereTold (TakesEvent (event.Came now peer octets)) x z
told_datagram now peer n room octets x y z e h s =
    subst (λ (o : List ℕ). WhereTold (TakesEvent (event.Came now peer o)) x z) (sym e)
    (told_as
    (TakesFirst (came.Datagram peer n) room)
    (TakesEvent (event.Came now peer (take n room)))
    x
    z
    (λ k l r. r)
    (told_stays (TakesFirst (came.Datagram peer n) room) x y z h s))

-- one that is too long is a tick
pub told_long : (now : Moment) (room : List ℕ) (x y z : Option (List Datagram))
    → WhereTold (TakesFirst came.TooLong room) x y
    → Stays y z
    → WhereTold (TakesEvent (event.Tick now)) x z
told_long now room x y z h s =
    told_as (TakesFirst came.TooLong room) (TakesEvent (event.Tick now)) x z (λ k l r. inr r)
    (told_stays (TakesFirst came.TooLong room) x y z h s)

-- none is a tick
pub told_nothing : (now : Moment) (room : List ℕ) (x y z : Option (List Datagram))
    → WhereTold (TakesFirst came.Nothing room) x y
    → Stays y z
    → WhereTold (TakesEvent (event.Tick now)) x z
told_nothing now room x y z h s =
    told_as (TakesFirst came.Nothing room) (TakesEvent (event.Tick now)) x z (λ k l r. inl r)
    (told_stays (TakesFirst came.Nothing room) x y z h s)

-- a receive that failed takes nothing
pub told_failed : (room : List ℕ) (x y : Option (List Datagram))
    → WhereTold (TakesFirst came.Failed room) x y
    → Stays x y
told_failed room x y h =
    told_as (TakesFirst came.Failed room) (λ old new. new ≡ old) x y (λ k l r. r) h

-- ---- what is sent

-- nothing, where the link was not asked
pub sends_none : (x : Option (List Datagram)) (n : ℕ) → Sends [] x n x n
sends_none x n = (stays_same x, refl)

-- one datagram
pub sends_one : (went : Went) (d : Datagram) (x y : Option (List Datagram)) (n m : ℕ)
    → WhereTold (AddsLast went d) x y
    → CountsSent n m went
    → Sends (d ∷ []) x n y m
sends_one went d x y n m adds counts = (
  y,
  m,
  record { went = went; adds = adds; counts = counts },
  sends_none y m,
)

-- what is sent after the link's receive, by which nothing was sent
pub sends_after : (ds : List Datagram) (x y z : Option (List Datagram)) (n m k : ℕ)
    → Stays x y
    → m ≡ n
    → Sends ds y m z k
    → Sends ds x n z k
sends_after [] x y z n m k s e h =
    (stays_told (λ old new. new ≡ old) x y z s h.0, h.1 ∙ e)
sends_after (d ∷ ds) x y z n m k s e h = (
  h.0,
  h.1,
  record {
    went = h.2.went;
    adds = stays_told (AddsLast h.2.went d) x y h.0 s h.2.adds;
    counts = subst (λ (c : ℕ). CountsSent c h.1 h.2.went) e h.2.counts;
  },
  h.3,
)

-- what is sent is what is to be sent
pub sends_by : (ds es : List Datagram) (x y : Option (List Datagram)) (n m : ℕ)
    → es ≡ ds
    → Sends ds x n y m
    → Sends es x n y m
sends_by ds es x y n m e h = subst (λ (l : List Datagram). Sends l x n y m) (sym e) h

-- a datagram that decides nothing makes nothing go, and one that decides what acknowledges it
sent_for_none : (a : Asked) (octets : List ℕ) (past : List Event) (now : Moment) (peer : Peer)
    (datagram : List ℕ)
    → datagram_decides a.request peer datagram ≡ None
    → sent_for a octets past (event.Came now peer datagram) ≡ []
sent_for_none a octets past now peer datagram none = rw none refl

sent_for_over : (a : Asked) (octets : List ℕ) (past : List Event) (now : Moment) (peer : Peer)
    (datagram : List ℕ) (o : Outcome)
    → datagram_decides a.request peer datagram ≡ Some o
    → sent_for a octets past (event.Came now peer datagram)
    ≡ to_peer peer (acknowledgement_in (readable (reading datagram)))
sent_for_over a octets past now peer datagram o said = rw said refl

-- a tick makes the request go, or nothing
sent_for_tick : (a : Asked) (octets : List ℕ) (past : List Event) (now : Moment) (again : Bool)
    → is_sent_again a (is_quiet a past) now.0 (sent_again a past) ≡ again
    → sent_for a octets past (event.Tick now)
    ≡ (if again then (a.request.to, octets) ∷ [] else [])
sent_for_tick a octets past now again e = rw e refl

-- ---- what a talk came to

-- by a datagram that decides nothing
pub turned_unsaid : (a : Asked) (octets : List ℕ) (past : List Event) (now : Moment) (peer : Peer)
    (datagram : List ℕ) (talk : Talking) (x : Option (List Datagram)) (n : ℕ)
    → verdict a past ≡ None
    → StandsFor a octets (event.Came now peer datagram ∷ past) talk
    → IsTurned a octets past (event.Came now peer datagram) turn.Going talk x n x n
turned_unsaid a octets past now peer datagram talk x n none stands =
    let unsaid = decides_none a past (event.Came now peer datagram) none stands.undecided in (
      stands,
      sends_by [] (sent_for a octets past (event.Came now peer datagram)) x x n n
          (sent_for_none a octets past now peer datagram unsaid)
          (sends_none x n),
    )

-- by one that decides
pub turned_said : (a : Asked) (octets : List ℕ) (past : List Event) (now : Moment) (peer : Peer)
    (datagram : List ℕ) (o : Outcome) (ack : Option (List ℕ)) (talk : Talking)
    (x y : Option (List Datagram)) (n m : ℕ)
    → verdict a past ≡ None
    → decides a past (event.Came now peer datagram) ≡ Some o
    → ack ≡ acknowledgement_in (readable (reading datagram))
    → Sends (to_peer peer ack) x n y m
    → IsTurned a octets past (event.Came now peer datagram) (turn.Over (Ok o)) talk x n y m
turned_said a octets past now peer datagram o ack talk x y n m none said acks sends = (
  verdict_next a past (event.Came now peer datagram) o none said,
  sends_by (to_peer peer ack) (sent_for a octets past (event.Came now peer datagram)) x y n m
      (sent_for_over a octets past now peer datagram o said ∙ ap (to_peer peer) (sym acks))
      sends,
)

-- by a tick at which nothing is due
pub turned_waits : (a : Asked) (octets : List ℕ) (past : List Event) (now : Moment)
    (talk : Talking) (x : Option (List Datagram)) (n : ℕ)
    → is_sent_again a (is_quiet a past) now.0 (sent_again a past) ≡ false
    → StandsFor a octets (event.Tick now ∷ past) talk
    → IsTurned a octets past (event.Tick now) turn.Going talk x n x n
turned_waits a octets past now talk x n e stands = (
  stands,
  sends_by [] (sent_for a octets past (event.Tick now)) x x n n
      (sent_for_tick a octets past now false e)
      (sends_none x n),
)

-- by one at which the request is retransmitted
pub turned_sends : (a : Asked) (octets : List ℕ) (past : List Event) (now : Moment)
    (talk : Talking) (to : Peer) (bytes : List ℕ) (x y : Option (List Datagram)) (n m : ℕ)
    → is_sent_again a (is_quiet a past) now.0 (sent_again a past) ≡ true
    → StandsFor a octets (event.Tick now ∷ past) talk
    → to ≡ talk.request.to
    → bytes ≡ talk.octets
    → Sends ((to, bytes) ∷ []) x n y m
    → IsTurned a octets past (event.Tick now) turn.Going talk x n y m
turned_sends a octets past now talk to bytes x y n m e stands whom what sends =
    let to_is : to ≡ a.request.to = whom ∙ ap (λ (t : Talking). t.request.to) stands.kept in
    let bytes_is : bytes ≡ octets = what ∙ ap (λ (t : Talking). t.octets) stands.kept in (
      stands,
      sends_by ((to, bytes) ∷ []) (sent_for a octets past (event.Tick now)) x y n m
          (sent_for_tick a octets past now true e ∙ rw (to_is, bytes_is) refl)
          sends,
    )

-- by one that decides
pub turned_ends : (a : Asked) (octets : List ℕ) (past : List Event) (now : Moment) (o : Outcome)
    (talk : Talking) (x : Option (List Datagram)) (n : ℕ)
    → verdict a past ≡ None
    → decides a past (event.Tick now) ≡ Some o
    → IsTurned a octets past (event.Tick now) (turn.Over (Ok o)) talk x n x n
turned_ends a octets past now o talk x n none said = (
  verdict_next a past (event.Tick now) o none said,
  sends_by [] (sent_for a octets past (event.Tick now)) x x n n
      (sent_for_tick a octets past now false (tick_silent a past now o said))
      (sends_none x n),
)

-- ---- a turn

-- a talk that came to something by an event that was taken; the link's receive sent nothing
pub turned_taken : (a : Asked) (octets : List ℕ) (past : List Event) (e : Event) (r : Turn)
    (before after : Outside) (sent : Option (List Datagram)) (faults : ℕ) (talk : Talking)
    → WhereTold (TakesEvent e) before.coming after.coming
    → IsTimed (moment_at e) before.times after.times
    → Stays before.words after.words
    → after.recv_faults ≡ before.recv_faults
    → Stays before.gone sent
    → faults ≡ before.send_faults
    → IsTurned a octets past e r talk sent faults after.gone after.send_faults
    → IsTaken a octets past r before after talk
turned_taken a octets past e turn.Going before after sent faults talk takes timed words receives
    stays same turned = (
      e,
      record {
        takes = takes;
        timed = timed;
        sends =
            sends_after (sent_for a octets past e) before.gone sent after.gone before.send_faults
            faults after.send_faults stays same turned.1;
        words = words;
        receives = receives;
      },
      turned.0,
    )
turned_taken a octets past e (turn.Over (Ok o)) before after sent faults talk takes timed words
    receives stays same turned = (
      e,
      record {
        takes = takes;
        timed = timed;
        sends =
            sends_after (sent_for a octets past e) before.gone sent after.gone before.send_faults
            faults after.send_faults stays same turned.1;
        words = words;
        receives = receives;
      },
      turned.0,
    )
turned_taken a octets past e (turn.Over (Err fault.Link)) before after sent faults talk takes timed
    words receives stays same turned =
    absurd turned
turned_taken a octets past (event.Tick now) (turn.Over (Err fault.Starved)) before after sent faults
    talk takes timed words receives stays same turned =
    absurd turned
turned_taken a octets past (event.Came now peer datagram) (turn.Over (Err fault.Starved)) before
    after sent faults talk takes timed words receives stays same turned =
    let sends =
    sends_after [] before.gone sent after.gone before.send_faults faults after.send_faults stays
    same turned in
    record {
      lost = (peer, datagram);
      coming = takes;
      now = now;
      timed = timed;
      gone = sends.0;
      sends = sends.1;
      words = words;
      receives = receives;
    }

-- what is made of an event leaves the count of failed receives
pub counts_by : (r : Turn) (before now : ℕ) → IsNoLink r → now ≡ before
    → CountsTurn before now r
counts_by turn.Going before now none same = same
counts_by (turn.Over (Ok o)) before now none same = same
counts_by (turn.Over (Err fault.Link)) before now none same = absurd none
counts_by (turn.Over (Err fault.Starved)) before now none same = same

-- ---- a registrant

-- what is counted later is counted from before on
counts_later : (r : Result Outcome TellFault) (before between now : ℕ)
    → between ≡ before
    → CountsEnd between now r
    → CountsEnd before now r
counts_later r before between now same counts = subst (λ (n : ℕ). CountsEnd n now r) same counts

-- what it gives by the turn that ends it
gives_now : (r : Result Outcome TellFault) (sent : Bool) (old new : Talking)
    (before begun after : Outside)
    → ((a : Asked) (octets : List ℕ) (past : List Event)
    → StandsFor a octets past old
    → Begins a octets sent before begun)
    → ((a : Asked) (octets : List ℕ) (past : List Event)
    → StandsFor a octets past old
    → IsTaken a octets past (turn.Over r) begun after new)
    → IsGiven old sent r before after
gives_now (Ok o) sent old new before begun after begins taken = λ a octets past stands.
    let t = taken a octets past stands in
    record {
      begun = begun;
      begins = begins a octets past stands;
      more = t.0 ∷ [];
      last = after;
      happens = (after, t.1, refl);
      ends = (t.2, refl);
    }
gives_now (Err fault.Link) sent old new before begun after begins taken = λ a octets past stands.
    record {
      begun = begun;
      begins = begins a octets past stands;
      more = [];
      last = begun;
      happens = refl;
      ends = (stands.undecided, taken a octets past stands);
    }
gives_now (Err fault.Starved) sent old new before begun after begins taken =
    λ a octets past stands.
    record {
      begun = begun;
      begins = begins a octets past stands;
      more = [];
      last = begun;
      happens = refl;
      ends = (stands.undecided, taken a octets past stands);
    }

-- what it gives later it gives from before a turn on
gives_later : (r : Result Outcome TellFault) (sent : Bool) (old new : Talking)
    (before begun between after : Outside)
    → ((a : Asked) (octets : List ℕ) (past : List Event)
    → StandsFor a octets past old
    → Begins a octets sent before begun)
    → ((a : Asked) (octets : List ℕ) (past : List Event)
    → StandsFor a octets past old
    → IsTaken a octets past turn.Going begun between new)
    → IsGiven new true r between after
    → IsGiven old sent r before after
gives_later r sent old new before begun between after begins taken given =
    λ a octets past stands.
    let t = taken a octets past stands in
    let g = given a octets (t.0 ∷ past) t.2 in
    record {
      begun = begun;
      begins = begins a octets past stands;
      more = t.0 ∷ g.more;
      last = g.last;
      happens = (
        between,
        t.1,
        subst (λ (o : Outside). HappensAll a octets (t.0 ∷ past) g.more o g.last) g.begins
            g.happens,
      );
      ends = g.ends;
    }

-- both of these, and what was counted
pub told_now : (r : Result Outcome TellFault) (sent : Bool) (old new : Talking)
    (before begun after : Outside)
    → ((a : Asked) (octets : List ℕ) (past : List Event)
    → StandsFor a octets past old
    → Begins a octets sent before begun)
    → begun.recv_faults ≡ before.recv_faults
    → ((a : Asked) (octets : List ℕ) (past : List Event)
    → StandsFor a octets past old
    → IsTaken a octets past (turn.Over r) begun after new)
    → CountsEnd begun.recv_faults after.recv_faults r
    → IsGiven old sent r before after × CountsEnd before.recv_faults after.recv_faults r
told_now r sent old new before begun after begins same taken counts = (
  gives_now r sent old new before begun after begins taken,
  counts_later r before.recv_faults begun.recv_faults after.recv_faults same counts,
)

pub told_later : (r : Result Outcome TellFault) (sent : Bool) (old new : Talking)
    (before begun between after : Outside)
    → ((a : Asked) (octets : List ℕ) (past : List Event)
    → StandsFor a octets past old
    → Begins a octets sent before begun)
    → begun.recv_faults ≡ before.recv_faults
    → ((a : Asked) (octets : List ℕ) (past : List Event)
    → StandsFor a octets past old
    → IsTaken a octets past turn.Going begun between new)
    → between.recv_faults ≡ begun.recv_faults
    → IsGiven new true r between after × CountsEnd between.recv_faults after.recv_faults r
    → IsGiven old sent r before after × CountsEnd before.recv_faults after.recv_faults r
told_later r sent old new before begun between after begins same taken stands given = (
  gives_later r sent old new before begun between after begins taken given.0,
  counts_later r before.recv_faults between.recv_faults after.recv_faults (stands ∙ same)
      given.1,
)
