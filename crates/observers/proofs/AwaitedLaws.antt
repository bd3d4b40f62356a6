-- The peers that notifications are in flight to, as the table keeps them apart.
use Rattle.std.proofs.Common.{
  ◌≡◌,
  ℕ,
  ◌+◌,
  ◌<◌,
  ◌≤◌,
  zero,
  suc,
  Bool,
  true,
  false,
  not,
  ◌&&◌,
  ◌||◌,
  cond,
  List,
  [],
  ◌∷◌,
  ◌++◌,
  map,
  drop,
  length,
  get_or,
  slice_get,
  append_assoc,
  append-nil,
  Some,
  None,
  Option,
  is_some,
  if◌then◌else◌,
  refl,
  sym,
  ap,
  ap₂,
  subst,
  ◌∙◌,
  arith,
}
use Rattle.std.specs.List.{AllByRecursion, list_any}
use Rattle.std.proofs.lemmas.Bool.{false≢true, and_from}
use Rattle.rd_base.specs.declared.peers.Peer.{Peer}
use Rattle.event_model.specs.Same.{is_same_peer}
use Rattle.event_model.specs.Flights.{Sent}
use Rattle.event_model.proofs.SameLaws.{is_same_peer-refl}
use Rattle.observers.specs.Standing.{
  Standing,
  is_awaited,
  is_ready,
  marked,
  notified,
  seen,
  timed,
  kept_of,
  changed_at,
}
use Rattle.observers.specs.AwaitedPeers.{awaited_of, flights_of, Tells, AreAwaited}

-- ---- a change that starts and ends no flight

pub record LeavesFlights (change : Standing → Standing) : Type 0 where
  pub peer : (w : Standing) → (change w).peer ≡ w.peer
  pub flight : (w : Standing) → is_some (change w).flight ≡ is_some w.flight

awaits : Peer → Standing → Bool
awaits peer w = is_same_peer w.peer peer && is_some w.flight

same_here : (change : Standing → Standing)
    → LeavesFlights change
    → (peer : Peer) (w : Standing)
    → (is_same_peer (change w).peer peer && is_some (change w).flight)
    ≡ (is_same_peer w.peer peer && is_some w.flight)
same_here change leaves peer w =
    ap₂ (λ p b. is_same_peer p peer && b) (leaves.peer w) (leaves.flight w)

awaited_map : (change : Standing → Standing)
    → LeavesFlights change
    → (peer : Peer) (ws : List Standing)
    → is_awaited peer (map change ws) ≡ is_awaited peer ws
awaited_map change leaves peer [] = refl
awaited_map change leaves peer (w ∷ ws) =
    ap₂ (λ a b. a || b) (same_here change leaves peer w) (awaited_map change leaves peer ws)

flights_map : (change : Standing → Standing)
    → LeavesFlights change
    → (ws : List Standing)
    → flights_of (map change ws) ≡ flights_of ws
flights_map change leaves [] = refl
flights_map change leaves (w ∷ ws) =
    ap₂ (λ b n. if b then suc n else n) (leaves.flight w) (flights_map change leaves ws)

awaited_at : (change : Standing → Standing)
    → LeavesFlights change
    → (peer : Peer) (i : ℕ) (ws : List Standing)
    → is_awaited peer (changed_at change i ws) ≡ is_awaited peer ws
awaited_at change leaves peer i [] = refl
awaited_at change leaves peer zero (w ∷ ws) =
    ap (λ a. a || is_awaited peer ws) (same_here change leaves peer w)
awaited_at change leaves peer (suc i) (w ∷ ws) =
    ap (λ b. (is_same_peer w.peer peer && is_some w.flight) || b)
    (awaited_at change leaves peer i ws)

flights_at : (change : Standing → Standing)
    → LeavesFlights change
    → (i : ℕ) (ws : List Standing)
    → flights_of (changed_at change i ws) ≡ flights_of ws
flights_at change leaves i [] = refl
flights_at change leaves zero (w ∷ ws) =
    ap (λ b. if b then suc (flights_of ws) else flights_of ws) (leaves.flight w)
flights_at change leaves (suc i) (w ∷ ws) =
    ap (λ n. if is_some w.flight then suc n else n) (flights_at change leaves i ws)

pub map-AreAwaited : (change : Standing → Standing)
    → LeavesFlights change
    → (ws : List Standing) (peers : List Peer)
    → AreAwaited ws peers
    → AreAwaited (map change ws) peers
map-AreAwaited change leaves ws peers h = record {
  tells = λ peer. h.tells peer ∙ sym (awaited_map change leaves peer ws);
  few = subst (λ n. length peers ≤ n) (sym (flights_map change leaves ws)) h.few;
}

pub at-AreAwaited : (change : Standing → Standing)
    → LeavesFlights change
    → (i : ℕ) (ws : List Standing) (peers : List Peer)
    → AreAwaited ws peers
    → AreAwaited (changed_at change i ws) peers
at-AreAwaited change leaves i ws peers h = record {
  tells = λ peer. h.tells peer ∙ sym (awaited_at change leaves peer i ws);
  few = subst (λ n. length peers ≤ n) (sym (flights_at change leaves i ws)) h.few;
}

pub marked-LeavesFlights : (slot : ℕ) → LeavesFlights (marked slot)
marked-LeavesFlights slot = record { peer = λ w. refl; flight = λ w. refl }

pub seen-LeavesFlights : LeavesFlights seen
seen-LeavesFlights = record { peer = λ w. refl; flight = λ w. refl }

pub timed-LeavesFlights : (now : ℕ) → LeavesFlights (timed now)
timed-LeavesFlights now = record { peer = λ w. refl; flight = λ w. by w.flight }
  where
    by : (o : Option Sent) → is_some (kept_of now o) ≡ is_some o
    by None = refl
    by (Some s) = refl

-- ---- one without a flight is added

or_false : (a : Bool) → (a || false) ≡ a
or_false true = refl
or_false false = refl

and_false : (a : Bool) → (a && false) ≡ false
and_false true = refl
and_false false = refl

awaited_pushed : (peer : Peer) (ws : List Standing) (w : Standing)
    → w.flight ≡ None
    → is_awaited peer (ws ++ w ∷ []) ≡ is_awaited peer ws
awaited_pushed peer [] w quiet =
    or_false (is_same_peer w.peer peer && is_some w.flight)
    ∙ (ap (λ (o : Option Sent). is_same_peer w.peer peer && is_some o) quiet
    ∙ and_false (is_same_peer w.peer peer))
awaited_pushed peer (x ∷ ws) w quiet =
    ap (λ b. (is_same_peer x.peer peer && is_some x.flight) || b) (awaited_pushed peer ws w quiet)

flights_pushed : (ws : List Standing) (w : Standing)
    → w.flight ≡ None
    → flights_of (ws ++ w ∷ []) ≡ flights_of ws
flights_pushed [] w quiet = ap (λ (o : Option Sent). if is_some o then suc zero else zero) quiet
flights_pushed (x ∷ ws) w quiet =
    ap (λ n. if is_some x.flight then suc n else n) (flights_pushed ws w quiet)

pub pushed-AreAwaited : (ws : List Standing) (peers : List Peer) (w : Standing)
    → w.flight ≡ None
    → AreAwaited ws peers
    → AreAwaited (ws ++ w ∷ []) peers
pushed-AreAwaited ws peers w quiet h = record {
  tells = λ peer. h.tells peer ∙ sym (awaited_pushed peer ws w quiet);
  few = subst (λ n. length peers ≤ n) (sym (flights_pushed ws w quiet)) h.few;
}

-- ---- a notification is built

-- an observer of a peer that is not awaited awaits nothing
quiet_at : (ws : List Standing) (i : ℕ) (w : Standing)
    → slice_get ws i ≡ Some w
    → is_awaited w.peer ws ≡ false
    → is_some w.flight ≡ false
quiet_at [] i w there free = absurd cc
quiet_at (x ∷ ws) zero w there free = by (is_some w.flight) refl
  where
    same : x ≡ w
    same = cc

    by : (b : Bool) → is_some w.flight ≡ b → b ≡ false
    by false e = refl
    by true e =
        let here : (is_same_peer x.peer w.peer && is_some x.flight) ≡ true =
        and_from (is_same_peer x.peer w.peer) (is_some x.flight)
        (subst (λ y. is_same_peer y.peer w.peer ≡ true) (sym same) (is_same_peer-refl w.peer))
        (subst (λ y. is_some y.flight ≡ true) (sym same) e) in
        absurd (false≢true (sym free ∙ ap (λ a. a || is_awaited w.peer ws) here))
quiet_at (x ∷ ws) (suc i) w there free =
    quiet_at ws i w there (rest (is_same_peer x.peer w.peer && is_some x.flight) free)
  where
    rest : (a : Bool) → (a || is_awaited w.peer ws) ≡ false → is_awaited w.peer ws ≡ false
    rest true h = absurd (false≢true (sym h))
    rest false h = h

awaited_notified : (s : Sent) (body : List ℕ) (peer : Peer) (ws : List Standing) (i : ℕ)
    (w : Standing)
    → slice_get ws i ≡ Some w
    → is_some w.flight ≡ false
    → is_awaited peer (changed_at (notified s body) i ws)
    ≡ (is_awaited peer ws || is_same_peer w.peer peer)
awaited_notified s body peer [] i w there quiet = absurd cc
awaited_notified s body peer (x ∷ ws) zero w there quiet =
    let same : x ≡ w = cc in
    let here : (is_same_peer x.peer peer && is_some x.flight) ≡ false =
    ap (λ y. is_same_peer y.peer peer && is_some y.flight) same
    ∙ (ap (λ b. is_same_peer w.peer peer && b) quiet ∙ and_false (is_same_peer w.peer peer)) in
    ap (λ (y : Standing). (is_same_peer y.peer peer && true) || is_awaited peer ws) same
    ∙ (turned (is_same_peer w.peer peer) (is_awaited peer ws)
    ∙ ap (λ a. (a || is_awaited peer ws) || is_same_peer w.peer peer) (sym here))
  where
    turned : (a b : Bool) → ((a && true) || b) ≡ ((false || b) || a)
    turned true true = refl
    turned true false = refl
    turned false true = refl
    turned false false = refl
awaited_notified s body peer (x ∷ ws) (suc i) w there quiet =
    ap (λ b. (is_same_peer x.peer peer && is_some x.flight) || b)
    (awaited_notified s body peer ws i w there quiet)
    ∙ moved (is_same_peer x.peer peer && is_some x.flight) (is_awaited peer ws)
    (is_same_peer w.peer peer)
  where
    moved : (a b c : Bool) → (a || (b || c)) ≡ ((a || b) || c)
    moved true b c = refl
    moved false b c = refl

flights_notified : (s : Sent) (body : List ℕ) (ws : List Standing) (i : ℕ) (w : Standing)
    → slice_get ws i ≡ Some w
    → is_some w.flight ≡ false
    → flights_of (changed_at (notified s body) i ws) ≡ suc (flights_of ws)
flights_notified s body [] i w there quiet = absurd cc
flights_notified s body (x ∷ ws) zero w there quiet =
    let same : x ≡ w = cc in
    let here : is_some x.flight ≡ false = ap (λ (y : Standing). is_some y.flight) same
    ∙ quiet in
    ap (λ b. suc (if b then suc (flights_of ws) else flights_of ws)) (sym here)
flights_notified s body (x ∷ ws) (suc i) w there quiet =
    ap (λ n. if is_some x.flight then suc n else n) (flights_notified s body ws i w there quiet)
    ∙ by (is_some x.flight)
  where
    by : (b : Bool)
        → (if b then suc (suc (flights_of ws)) else suc (flights_of ws))
        ≡ suc (if b then suc (flights_of ws) else flights_of ws)
    by true = refl
    by false = refl

any_pushed : (peer p : Peer) (peers : List Peer)
    → list_any (λ q. is_same_peer q peer) (peers ++ p ∷ [])
    ≡ (list_any (λ q. is_same_peer q peer) peers || is_same_peer p peer)
any_pushed peer p [] = or_false (is_same_peer p peer)
any_pushed peer p (x ∷ peers) =
    ap (λ b. is_same_peer x peer || b) (any_pushed peer p peers)
    ∙ moved (is_same_peer x peer) (list_any (λ q. is_same_peer q peer) peers) (is_same_peer p peer)
  where
    moved : (a b c : Bool) → (a || (b || c)) ≡ ((a || b) || c)
    moved true b c = refl
    moved false b c = refl

length_pushed : (peers : List Peer) (p : Peer) → length (peers ++ p ∷ []) ≡ suc (length peers)
length_pushed [] p = refl
length_pushed (x ∷ peers) p = ap suc (length_pushed peers p)

pub notified-AreAwaited : (s : Sent) (body : List ℕ) (ws : List Standing) (peers : List Peer)
    (i : ℕ)
    (w : Standing)
    → slice_get ws i ≡ Some w
    → is_awaited w.peer ws ≡ false
    → AreAwaited ws peers
    → AreAwaited (changed_at (notified s body) i ws) (peers ++ w.peer ∷ [])
notified-AreAwaited s body ws peers i w there free h =
    let quiet = quiet_at ws i w there free in
    let more = flights_notified s body ws i w there quiet in
    let longer = length_pushed peers w.peer in
    let few = h.few in
    record {
      tells =
          λ peer.
          any_pushed peer w.peer peers
          ∙ (ap (λ b. b || is_same_peer w.peer peer) (h.tells peer)
          ∙ sym (awaited_notified s body peer ws i w there quiet));
      few = omega (arith, more, longer, few);
    }

-- fewer notifications are in flight than there are observers, where one of them awaits nothing
flights_few : (ws : List Standing) → flights_of ws ≤ length ws
flights_few [] = omega arith
flights_few (w ∷ ws) = by (is_some w.flight) (flights_few ws)
  where
    by : (b : Bool)
        → flights_of ws ≤ length ws
        → (if b then suc (flights_of ws) else flights_of ws) ≤ length (w ∷ ws)
    by true few = omega (arith, few)
    by false few = omega (arith, few)

fewer_flights : (ws : List Standing) (i : ℕ) (w : Standing)
    → slice_get ws i ≡ Some w
    → is_some w.flight ≡ false
    → flights_of ws < length ws
fewer_flights [] i w there quiet = absurd cc
fewer_flights (x ∷ ws) zero w there quiet =
    let same : x ≡ w = cc in
    let here : is_some x.flight ≡ false = ap (λ (y : Standing). is_some y.flight) same
    ∙ quiet in
    let few = flights_few ws in
    let none : flights_of (x ∷ ws) ≡ flights_of ws =
    ap (λ b. if b then suc (flights_of ws) else flights_of ws) here in
    omega (arith, few, none)
fewer_flights (x ∷ ws) (suc i) w there quiet =
    by (is_some x.flight) (fewer_flights ws i w there quiet)
  where
    by : (b : Bool)
        → flights_of ws < length ws
        → (if b then suc (flights_of ws) else flights_of ws) < length (x ∷ ws)
    by true few = omega (arith, few)
    by false few = omega (arith, few)

pub room-AreAwaited : (ws : List Standing) (peers : List Peer) (i : ℕ) (w : Standing)
    → slice_get ws i ≡ Some w
    → is_awaited w.peer ws ≡ false
    → AreAwaited ws peers
    → length peers < length ws
room-AreAwaited ws peers i w there free h =
    let fewer = fewer_flights ws i w there (quiet_at ws i w there free) in
    let few = h.few in omega (arith, fewer, few)

-- ---- gathered anew

tells_of : (peer : Peer) (ws : List Standing)
    → list_any (λ q. is_same_peer q peer) (awaited_of ws) ≡ is_awaited peer ws
tells_of peer [] = refl
tells_of peer (w ∷ ws) = by (is_some w.flight) (tells_of peer ws)
  where
    by : (b : Bool)
        → list_any (λ q. is_same_peer q peer) (awaited_of ws) ≡ is_awaited peer ws
        → list_any (λ q. is_same_peer q peer) (if b then w.peer ∷ awaited_of ws else awaited_of ws)
        ≡ ((is_same_peer w.peer peer && b) || is_awaited peer ws)
    by true more = ap₂ (λ a b. a || b) (whole (is_same_peer w.peer peer)) more
      where
        whole : (a : Bool) → a ≡ (a && true)
        whole true = refl
        whole false = refl
    by false more =
        more ∙ ap (λ a. a || is_awaited peer ws) (sym (and_false (is_same_peer w.peer peer)))

length_of : (ws : List Standing) → length (awaited_of ws) ≡ flights_of ws
length_of [] = refl
length_of (w ∷ ws) = by (is_some w.flight) (length_of ws)
  where
    by : (b : Bool)
        → length (awaited_of ws) ≡ flights_of ws
        → length (if b then w.peer ∷ awaited_of ws else awaited_of ws)
        ≡ (if b then suc (flights_of ws) else flights_of ws)
    by true more = ap suc more
    by false more = more

pub of-AreAwaited : (ws : List Standing) → AreAwaited ws (awaited_of ws)
of-AreAwaited ws = record {
  tells = λ peer. tells_of peer ws;
  few = let same = length_of ws in omega (arith, same);
}

pub empty-AreAwaited : AreAwaited [] []
empty-AreAwaited = record { tells = λ peer. refl; few = omega arith }

-- from one observer on
pub gathered-none : (ws : List Standing) → awaited_of (drop 0 ws) ≡ awaited_of ws
gathered-none [] = refl
gathered-none (w ∷ ws) = refl

from_index : (xs : List Standing) (i : ℕ) (w : Standing)
    → w ≡ get_or xs i w
    → i < length xs
    → drop i xs ≡ w ∷ drop (suc i) xs
from_index [] i w is inside = absurd (omega (arith, inside))
from_index (x ∷ xs) zero w is inside = ap (λ y. y ∷ xs) (sym is)
from_index (x ∷ xs) (suc i) w is inside = from_index xs i w is (omega (arith, inside))

-- the peer of one more is gathered, or it awaits nothing
pub gathered-more : (ws : List Standing) (i : ℕ) (w : Standing) (peers : List Peer)
    → w ≡ get_or ws i w
    → i < length ws
    → is_some w.flight ≡ true
    → peers ++ awaited_of (drop i ws) ≡ awaited_of ws
    → (peers ++ w.peer ∷ []) ++ awaited_of (drop (i + 1) ws) ≡ awaited_of ws
gathered-more ws i w peers is inside flies h =
    let more : i + 1 ≡ suc i = omega arith in
    append_assoc peers (w.peer ∷ []) (awaited_of (drop (i + 1) ws))
    ∙ (ap (λ n. peers ++ w.peer ∷ awaited_of (drop n ws)) more
    ∙ (ap (λ xs. peers ++ xs)
    (sym (ap awaited_of (from_index ws i w is inside) ∙ (rw flies refl)))
    ∙ h))

pub gathered-other : (ws : List Standing) (i : ℕ) (w : Standing) (peers : List Peer)
    → w ≡ get_or ws i w
    → i < length ws
    → is_some w.flight ≡ false
    → peers ++ awaited_of (drop i ws) ≡ awaited_of ws
    → peers ++ awaited_of (drop (i + 1) ws) ≡ awaited_of ws
gathered-other ws i w peers is inside quiet h =
    let more : i + 1 ≡ suc i = omega arith in
    ap (λ n. peers ++ awaited_of (drop n ws)) more
    ∙ (ap (λ xs. peers ++ xs) (sym (ap awaited_of (from_index ws i w is inside) ∙ (rw quiet refl)))
    ∙ h)

drop_past : (xs : List Standing) (i : ℕ) → length xs ≤ i → drop i xs ≡ []
drop_past [] zero over = refl
drop_past [] (suc i) over = refl
drop_past (x ∷ xs) zero over = absurd (omega arith)
drop_past (x ∷ xs) (suc i) over = drop_past xs i (omega arith)

pub gathered-all : (ws : List Standing) (i : ℕ) (peers : List Peer)
    → length ws ≤ i
    → peers ++ awaited_of (drop i ws) ≡ awaited_of ws
    → peers ≡ awaited_of ws
gathered-all ws i peers over h =
    sym (append-nil peers) ∙ (ap (λ xs. peers ++ awaited_of xs) (sym (drop_past ws i over)) ∙ h)

-- ---- a notification is built, as the table does it

got : (ws : List Standing) (i : ℕ) → i < length ws
    → (w : Standing) × (slice_get ws i ≡ Some w)
got [] i inside = absurd (omega (arith, inside))
got (x ∷ ws) zero inside = (x, refl)
got (x ∷ ws) (suc i) inside = got ws i (omega (arith, inside))

-- no notification is in flight to the peer of the one with an index
abbrev pub IsFreeAt : ℕ → List Standing → Type 0
IsFreeAt i ws = (w : Standing) → slice_get ws i ≡ Some w → is_awaited w.peer ws ≡ false

pub formed-room : (ws now : List Standing) (peers : List Peer) (i : ℕ)
    → ws ≡ now
    → i < length now
    → IsFreeAt i now
    → AreAwaited ws peers
    → length ws ≤ 1_024
    → length peers < 1_024
formed-room ws now peers i same inside free h few =
    let one = got now i inside in
    let room =
    room-AreAwaited now peers i one.0 one.1 (free one.0 one.1)
    (subst (λ xs. AreAwaited xs peers) same h) in
    let as_long : length ws ≡ length now = ap length same in
    omega (arith, room, as_long, few)

pub formed-AreAwaited : (s : Sent) (body : List ℕ) (ws now after : List Standing)
    (peers more : List Peer) (i : ℕ) (p : Peer)
    → ws ≡ now
    → i < length now
    → IsFreeAt i now
    → AreAwaited ws peers
    → after ≡ changed_at (notified s body) i ws
    → ((w : Standing) → slice_get ws i ≡ Some w → p ≡ w.peer)
    → more ≡ peers ++ p ∷ []
    → AreAwaited after more
formed-AreAwaited s body ws now after peers more i p same inside free h is at pushed =
    let one = got now i inside in
    let here : slice_get ws i ≡ Some one.0 = ap (λ xs. slice_get xs i) same ∙ one.1 in
    let alone : is_awaited one.0.peer ws ≡ false =
    ap (is_awaited one.0.peer) same ∙ free one.0 one.1 in
    subst (AreAwaited after) (sym (pushed ∙ ap (λ q. peers ++ q ∷ []) (at one.0 here)))
    (subst (λ xs. AreAwaited xs (peers ++ one.0.peer ∷ [])) (sym is)
    (notified-AreAwaited s body ws peers i one.0 here alone h))

-- whether one is due and free, by the peers that are kept apart
pub free-ready : (ws : List Standing) (peers : List Peer) (w : Standing) (peer : Peer) (b : Bool)
    → Tells ws peers
    → true ≡ w.due
    → peer ≡ w.peer
    → b ≡ list_any (λ q. is_same_peer q peer) peers
    → not b ≡ is_ready ws w
free-ready ws peers w peer b tells due same is =
    let among : b ≡ is_awaited w.peer ws = is ∙ (tells peer ∙ ap (λ p. is_awaited p ws) same) in
    ap not among ∙ ap (λ d. d && not (is_awaited w.peer ws)) due
