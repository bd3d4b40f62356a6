-- Connections, one after the other.
use Rattle.std.proofs.Common.{
  ◌≡◌,
  ℕ,
  ◌+◌,
  ◌<◌,
  ◌≤◌,
  List,
  [],
  ◌∷◌,
  ◌++◌,
  length,
  take,
}
use Rattle.std.proofs.Common.{Option, Some, None, Result, Ok, Err}
use Rattle.std.proofs.Common.{refl, sym, ap, subst, ◌∙◌, append_assoc, arith}
use Rattle.std.proofs.lemmas.List.{length-append, take_at}
use Rattle.rd_base.specs.declared.peers.Peer.{Peer}
use Rattle.rd_base.specs.Outside.{Rose}
use Rattle.udp_link.specs.Links.{Datagram}
use Rattle.udp_link.specs.Told.{WhereTold}
use Rattle.rd_seat.specs.Chains.{Chain}
use Rattle.rd_seat.specs.Callers.{CallerSeen}
use Rattle.rd_seat.specs.Seats.{HallSeen, SeatSeen, IsOfHall}
use Rattle.rd_seat.proofs.ToldLaws.{told_then, told_as, told_same}
use Rattle.rd_seat.proofs.CallLaws.{Chain-then}
use Rattle.rd_seat.proofs.SeatRuns.{hall_after}
use Rattle.coap_stream.specs.declared.talked.TalkFault.{TalkFault}
use Rattle.coap_stream.specs.declared.talked.TalkFault.TheVariants as fault
use Rattle.coap_stream.specs.declared.talked.Talked.{Talked}
use Rattle.coap_stream.specs.declared.serving.StreamsFault.{StreamsFault}
use Rattle.coap_stream.specs.declared.serving.StreamsFault.TheVariants as streams_fault
use Rattle.coap_stream.specs.Asked.{asked_in, asked_in_all}
use Rattle.coap_stream.specs.Calls.{as_they_came}
use Rattle.coap_stream.specs.Manners.{plain_line}
use Rattle.coap_stream.specs.Talks.{calls_of}
use Rattle.coap_stream.specs.Endings.{TalkSeen, Talks}
use Rattle.coap_stream.specs.Serving.{
  Connection,
  WasServed,
  WasOpened,
  asked_of,
  asked_of_all,
  IsFed,
  AreFed,
  IsUnfailed,
  AreUnfailed,
  Serves,
  asked_unless,
  Served,
  ServesOne,
  ServesAll,
  ServedSo,
  CountsStreams,
}
use Rattle.coap_stream.proofs.AskedLaws.{talk_counts, talk_most}

-- ---- one connection

-- A conversation whose ends never fail.
pub talk_unfailed : (peer : Peer) (before after : TalkSeen) (r : Result Talked TalkFault)
    → Talks peer before after r
    → before.source.faults ≡ 0 → after.source.faults ≡ 0
    → before.write_faults ≡ 0 → after.write_faults ≡ 0
    → IsUnfailed r
talk_unfailed peer before after (Ok t) talks a b c d = tt
talk_unfailed peer before after (Err fault.Starved) talks a b c d = tt
talk_unfailed peer before after (Err fault.Read) talks a b c d =
    let rose : Rose before.source.faults after.source.faults = talks.concludes.3 in
    let more : before.source.faults < after.source.faults = rose (omega (arith, a)) in
    omega (arith, a, b, more)
talk_unfailed peer before after (Err fault.Write) talks a b c d =
    let rose : Rose before.write_faults after.write_faults = talks.concludes.2 in
    let more : before.write_faults < after.write_faults = rose (omega (arith, c)) in
    omega (arith, c, d, more)

-- It was served.
pub one_served : (sure : Type 0) (peer : Peer) (before after : TalkSeen)
    (r : Result Talked TalkFault) (coming now : Option (List Datagram)) (faults faults_then : ℕ)
    (result : Result ℕ StreamsFault)
    → WhereTold (λ old new. (octets : List ℕ) × (old ≡ (peer, octets) ∷ new)
    × (before.source.left ≡ Some octets)) coming now
    → faults_then ≡ faults
    → Talks peer before after r
    → (sure → IsUnfailed r)
    → result ≡ asked_unless r
    → ServesOne sure before.caller after.caller coming now faults faults_then result
one_served sure peer before after r coming now faults faults_then result opens stands talks
    unfailed is = by result is
  where
    connection : Connection
    connection = record { peer = peer; before = before; after = after; result = r }

    served : (x : Result ℕ StreamsFault) → x ≡ asked_unless r
        → Served sure before.caller after.caller coming now faults faults_then x
    served x same = record {
      connection = connection;
      serves = record {
        served = (before.caller, refl, record { begins = refl; ends = refl; talks = talks });
        opened = told_as
            (λ old new h. (old, refl, record { octets = h.0; first = h.1; told = h.2 }))
            coming now opens;
      };
      is = same;
      stands = stands;
      unfailed = unfailed;
    }

    no_link : (q : Result Talked TalkFault) → Err streams_fault.Link ≡ asked_unless q → ⊥
    no_link (Ok t) same = cc
    no_link (Err fault.Read) same = cc
    no_link (Err fault.Write) same = cc
    no_link (Err fault.Starved) same = cc

    by : (x : Result ℕ StreamsFault) → x ≡ asked_unless r
        → ServesOne sure before.caller after.caller coming now faults faults_then x
    by (Ok n) same = served (Ok n) same
    by (Err streams_fault.Memory) same = served (Err streams_fault.Memory) same
    by (Err streams_fault.Link) same = absurd (no_link r same)

-- No more requests than there are numbers.
pub one_few : (peer : Peer) (before after : TalkSeen) (r : Result Talked TalkFault)
    → Talks peer before after r → (n : ℕ) → Ok n ≡ asked_unless r → n ≤ 65536
one_few peer before after (Ok t) talks n is =
    let same : n ≡ t.asked = cc in
    let most = talk_most (plain_line peer) before after t talks in
    omega (arith, same, most)
one_few peer before after (Err fault.Read) talks n is =
    let same : n ≡ 0 = cc in omega (arith, same)
one_few peer before after (Err fault.Write) talks n is =
    let same : n ≡ 0 = cc in omega (arith, same)
one_few peer before after (Err fault.Starved) talks n is = absurd cc

-- ---- one after the other

pub served_none : (sure : Type 0) (before : CallerSeen) (coming : Option (List Datagram))
    (faults : ℕ) → ServedSo sure 0 0 before before coming coming faults faults
served_none sure before coming faults = record {
  connections = [];
  serves = record {
    served = refl;
    opened = told_same (λ old new. new ≡ old) (λ x. refl) coming;
  };
  fed = tt;
  count = refl;
  sum = refl;
  stands = refl;
  unfailed = λ s. tt;
}

-- What a conversation that counts so many was.
record IsCounted (r : Result Talked TalkFault) (n : ℕ) : Type 0 where
  pub fed : IsFed r
  pub asked : n ≡ asked_of r

is_counted : (r : Result Talked TalkFault) (n : ℕ) → Ok n ≡ asked_unless r → IsCounted r n
is_counted (Ok t) n is = record { fed = tt; asked = cc }
is_counted (Err fault.Read) n is = record { fed = tt; asked = cc }
is_counted (Err fault.Write) n is = record { fed = tt; asked = cc }
is_counted (Err fault.Starved) n is = absurd cc

starved_as : (r : Result Talked TalkFault) → Err streams_fault.Memory ≡ asked_unless r
    → r ≡ Err fault.Starved
starved_as (Ok t) is = absurd cc
starved_as (Err fault.Read) is = absurd cc
starved_as (Err fault.Write) is = absurd cc
starved_as (Err fault.Starved) is = refl

Serves-then : (c : Connection) (cs : List Connection) (a b d : CallerSeen)
    (x y z : Option (List Datagram))
    → Serves cs a b x y → Serves (c ∷ []) b d y z → Serves (c ∷ cs) a d x z
Serves-then c cs a b d x y z r s = record {
  served = Chain-then WasServed a b d cs (c ∷ []) r.served s.served;
  opened = told_then (λ p q t f e. Chain-then WasOpened p q t cs (c ∷ []) f e) x y z
      r.opened s.opened;
}

-- One more was served.
pub served_more : (sure : Type 0) (done asked n : ℕ) (before now after : CallerSeen)
    (coming left later : Option (List Datagram)) (faults f g : ℕ)
    → ServedSo sure done asked before now coming left faults f
    → Served sure now after left later f g (Ok n)
    → ServedSo sure (done + 1) (asked + n) before after coming later faults g
served_more sure done asked n before now after coming left later faults f g r s =
    let c = s.connection in
    let counted : IsCounted c.result n = is_counted c.result n s.is in
    record {
      connections = c ∷ r.connections;
      serves = Serves-then c r.connections before now after coming left later r.serves s.serves;
      fed = (r.fed, counted.fed);
      count = omega (arith, r.count);
      sum = omega (arith, r.sum, counted.asked);
      stands = s.stands ∙ r.stands;
      unfailed = λ is. (r.unfailed is, s.unfailed is);
    }

-- The next could not be opened.
pub served_link : (sure : Type 0) (done asked count : ℕ) (before now after : CallerSeen)
    (coming left later : Option (List Datagram)) (faults f g : ℕ)
    → ServedSo sure done asked before now coming left faults f
    → done < count
    → ServesOne sure now after left later f g (Err streams_fault.Link)
    → ServesAll sure count before after coming later faults g (Err streams_fault.Link)
served_link sure done asked count before now after coming left later faults f g r few s = record {
  connections = r.connections;
  serves = record {
    served = subst (λ (x : CallerSeen). Chain WasServed before r.connections x) (sym s.0)
        r.serves.served;
    opened = told_then
        (λ p q t h e. subst (λ (l : List Datagram). Chain WasOpened p r.connections l) (sym e) h)
        coming left later r.serves.opened s.1;
  };
  ends = (
    omega (arith, r.count, few),
    r.fed,
    subst (λ (n : ℕ). n ≤ g) r.stands s.2,
    subst (λ (n : ℕ). Rose n g) r.stands s.3,
  );
  unfailed = r.unfailed;
}

-- Memory ran out in the next.
pub served_starved : (sure : Type 0) (done asked count : ℕ) (before now after : CallerSeen)
    (coming left later : Option (List Datagram)) (faults f g : ℕ)
    → ServedSo sure done asked before now coming left faults f
    → done < count
    → ServesOne sure now after left later f g (Err streams_fault.Memory)
    → ServesAll sure count before after coming later faults g (Err streams_fault.Memory)
served_starved sure done asked count before now after coming left later faults f g r few s =
    let c = s.connection in
    record {
      connections = c ∷ r.connections;
      serves = Serves-then c r.connections before now after coming left later r.serves s.serves;
      ends = (
        omega (arith, r.count, few),
        (starved_as c.result s.is, r.fed),
        s.stands ∙ r.stands,
      );
      unfailed = λ is. (r.unfailed is, s.unfailed is);
    }

-- The serving of all came to this.
pub served_fails : (sure : Type 0) (done asked count : ℕ) (before now after : CallerSeen)
    (coming left later : Option (List Datagram)) (faults f g : ℕ) (why : StreamsFault)
    → ServedSo sure done asked before now coming left faults f
    → done < count
    → ServesOne sure now after left later f g (Err why)
    → ServesAll sure count before after coming later faults g (Err why)
served_fails sure done asked count before now after coming left later faults f g
    streams_fault.Link r few s =
    served_link sure done asked count before now after coming left later faults f g r few s
served_fails sure done asked count before now after coming left later faults f g
    streams_fault.Memory r few s =
    served_starved sure done asked count before now after coming left later faults f g r few s

pub served_all : (sure : Type 0) (done asked : ℕ) (before now : CallerSeen)
    (coming left : Option (List Datagram)) (faults f : ℕ)
    → ServedSo sure done asked before now coming left faults f
    → ServesAll sure done before now coming left faults f (Ok asked)
served_all sure done asked before now coming left faults f r = record {
  connections = r.connections;
  serves = r.serves;
  ends = (r.count, r.fed, r.sum, r.stands);
  unfailed = r.unfailed;
}

-- ---- its hall

talk_hall : (hall : HallSeen) (c : Connection) (a b : CallerSeen) → IsOfHall hall a.seat
    → WasServed a c b → IsOfHall hall b.seat
talk_hall hall c a b before it =
    let began : IsOfHall hall c.before.caller.seat =
    subst (λ (x : CallerSeen). IsOfHall hall x.seat) (sym it.begins) before in
    subst (λ (x : CallerSeen). IsOfHall hall x.seat) it.ends
    (hall_after as_they_came hall (calls_of it.talks.exchanges) c.before.caller.seat
    c.after.caller.seat it.talks.made.seat began)

-- The seat is of its hall still.
pub served_hall : (hall : HallSeen) (cs : List Connection) (a b : CallerSeen)
    → Chain WasServed a cs b → IsOfHall hall a.seat → IsOfHall hall b.seat
served_hall hall [] a b chain before =
    subst (λ (x : CallerSeen). IsOfHall hall x.seat) (sym chain) before
served_hall hall (c ∷ cs) a b chain before =
    talk_hall hall c chain.0 b (served_hall hall cs a chain.0 chain.1 before) chain.2

-- ---- what is counted

asked_behind : (taken : List Datagram) (d : Datagram)
    → asked_in_all (taken ++ d ∷ []) ≡ asked_in_all taken + asked_in d.1
asked_behind [] d = omega arith
asked_behind (t ∷ taken) d = omega (arith, asked_behind taken d)

connection_counts : (peer : Peer) (before after : TalkSeen) (r : Result Talked TalkFault)
    (octets : List ℕ)
    → Talks peer before after r
    → IsFed r
    → IsUnfailed r
    → before.source.left ≡ Some octets
    → asked_of r ≡ asked_in octets
connection_counts peer before after (Ok t) octets talks fed unfailed told =
    talk_counts (plain_line peer) before after t octets talks told
connection_counts peer before after (Err fault.Read) octets talks fed unfailed told =
    absurd unfailed
connection_counts peer before after (Err fault.Write) octets talks fed unfailed told =
    absurd unfailed
connection_counts peer before after (Err fault.Starved) octets talks fed unfailed told =
    absurd fed

-- The streams that were opened, and what they hand to the seat.
record AreCounted (cs : List Connection) (old new : List Datagram) : Type 0 where
  pub taken : List Datagram
  pub first : old ≡ taken ++ new
  pub count : length taken ≡ length cs
  pub sum : asked_of_all cs ≡ asked_in_all taken

are_counted : (cs : List Connection) (a b : CallerSeen) (old new : List Datagram)
    → Chain WasServed a cs b
    → Chain WasOpened old cs new
    → AreFed cs
    → AreUnfailed cs
    → AreCounted cs old new
are_counted [] a b old new served opened fed unfailed =
    record { taken = []; first = sym opened; count = refl; sum = refl }
are_counted (c ∷ cs) a b old new served opened fed unfailed =
    let r : AreCounted cs old opened.0 =
    are_counted cs a served.0 old opened.0 served.1 opened.1 fed.0 unfailed.0 in
    let s = opened.2 in
    let d : Datagram = (c.peer, s.octets) in
    let one = connection_counts c.peer c.before c.after c.result s.octets served.2.talks
    fed.1 unfailed.1 s.told in
    let whole = length-append r.taken (d ∷ []) in
    let more = asked_behind r.taken d in
    record {
      taken = r.taken ++ d ∷ [];
      first = r.first
          ∙ ap (λ (l : List Datagram). r.taken ++ l) s.first
          ∙ sym (append_assoc r.taken (d ∷ []) new);
      count = omega (arith, whole, r.count);
      sum = omega (arith, more, r.sum, one);
    }

pub all_counted : (sure : Type 0) (count : ℕ) (before after : CallerSeen)
    (coming now : Option (List Datagram)) (faults faults_then : ℕ)
    (outcome : Result ℕ StreamsFault)
    → ServesAll sure count before after coming now faults faults_then outcome
    → sure
    → CountsStreams count coming outcome
all_counted sure count before after None now faults faults_then outcome r is = tt
all_counted sure count before after (Some streams) now faults faults_then (Err why) r is = tt
all_counted sure count before after (Some streams) None faults faults_then (Ok asked) r is =
    absurd r.serves.opened
all_counted sure count before after (Some streams) (Some left) faults faults_then (Ok asked) r is =
    let c : AreCounted r.connections streams left =
    are_counted r.connections before after streams left r.serves.served r.serves.opened
    r.ends.1 (r.unfailed is) in
    let number : length c.taken ≡ count = c.count ∙ r.ends.0 in
    let whole = ap (λ (l : List Datagram). length l) c.first ∙ length-append c.taken left in (
      omega (arith, number, whole),
      r.ends.2
          ∙ c.sum
          ∙ ap asked_in_all (sym (ap (take count) c.first ∙ take_at c.taken left count number)),
    )

-- ---- the one seat

pub first_seat : (s t : SeatSeen) (ss ts : List SeatSeen) → s ∷ ss ≡ t ∷ ts → s ≡ t
first_seat s t ss ts e = ap (λ (l : List SeatSeen). first_of s l) e
  where
    first_of : SeatSeen → List SeatSeen → SeatSeen
    first_of x [] = x
    first_of x (y ∷ ys) = y
