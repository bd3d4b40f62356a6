-- The fetches that run, as a list: whose they are, which is found, and what an event changes of the
-- list.
use Rattle.std.proofs.Common.{
  ◌≡◌,
  ℕ,
  zero,
  suc,
  set,
  ◌||◌,
  Bool,
  true,
  false,
  not,
  cond,
  List,
  [],
  ◌∷◌,
  map,
  filter,
  find,
  Option,
  Some,
  None,
  option_map,
  option_and_then,
  refl,
  sym,
  ap,
  subst,
  ◌∙◌,
}
use Rattle.std.specs.Prelude.{is_some}
use Rattle.std.specs.List.{cons_option, filter_map, list_any, AllByRecursion, slice_get}
use Rattle.std.proofs.lemmas.Bool.{false≢true}
use Rattle.rd_base.specs.declared.peers.Peer.{Peer}
use Rattle.rd_base.proofs.lemmas.Filters.{filter_all}
use Rattle.event_model.specs.Same.{is_same_peer}
use Rattle.event_model.specs.Events.{Event}
use Rattle.event_model.specs.Flights.{OctetsSent}
use Rattle.event_model.specs.Fetches.{
  fetches,
  is_fetching,
  Request,
  request_noted,
  last_request,
  Fetch,
  fetch_asked,
  fetch_of,
  fetches_running,
}
use Rattle.event_model.proofs.SameLaws.{is_same_peer-Decides, is_same_peer-refl}
use Rattle.rd_base.specs.Firsts.{changed_first, without_first}
use Rattle.simple_registration.specs.Table.{is_of}
use Rattle.simple_registration.proofs.PeerLaws.{
  AreApart,
  fetches-apart,
  requested,
  request_made,
  other_peer-symmetric,
}

-- ---- the fetch of a peer is its own

pub fetch_of-peer : (octets : OctetsSent) (events : List Event) (q : Peer) (f : Fetch)
    → fetch_of octets events q ≡ Some f
    → f.peer ≡ q
fetch_of-peer octets events q f is = by (last_request q events) is
  where
    shown : (e : Event) (r : Option Request)
        → option_map (fetch_asked octets events q e) r ≡ Some f
        → f.peer ≡ q
    shown e None is = absurd cc
    shown e (Some r) is =
        let same : fetch_asked octets events q e r ≡ f = cc in sym (ap (λ (g : Fetch). g.peer) same)

    by : (o : Option Event)
        → option_and_then (λ e. option_map (fetch_asked octets events q e) (request_noted e.note)) o
        ≡ Some f
        → f.peer ≡ q
    by None is = absurd cc
    by (Some e) is = shown e (request_noted e.note) is

-- each that runs is there
pub fetches-there : (octets : OctetsSent) (events : List Event)
    → AllByRecursion (λ q. is_some (fetch_of octets events q) ≡ true) (fetches events)
fetches-there octets events = go (fetches events) (requested events)
  where
    made : (e : Event) (q : Peer) (r : Option Request)
        → is_some r ≡ true
        → is_some (option_map (fetch_asked octets events q e) r) ≡ true
    made e q None h = absurd (false≢true h)
    made e q (Some r) h = refl

    there : (q : Peer) (o : Option Event)
        → last_request q events ≡ o
        → is_some o ≡ true
        → is_some (option_and_then
        (λ e. option_map (fetch_asked octets events q e) (request_noted e.note)) o)
        ≡ true
    there q None is h = absurd (false≢true h)
    there q (Some e) is h = made e q (request_noted e.note) (request_made q events e is)

    go : (peers : List Peer)
        → AllByRecursion (λ q. is_some (last_request q events) ≡ true) peers
        → AllByRecursion (λ q. is_some (fetch_of octets events q) ≡ true) peers
    go [] h = tt
    go (q ∷ peers) h = (there q (last_request q events) refl h.0, go peers h.1)

-- ---- lists of fetches by their peers

-- what a function gives for a peer is of that peer
abbrev pub IsNamed : (Peer → Option Fetch) → Type 0
IsNamed f = (q : Peer) (x : Fetch) → f q ≡ Some x → x.peer ≡ q

-- a value that is there
pub present : (o : Option Fetch) → is_some o ≡ true → (x : Fetch) × (o ≡ Some x)
present None h = absurd (false≢true h)
present (Some x) h = (x, refl)

-- whose they are
pub peers_of : (f : Peer → Option Fetch)
    → IsNamed f
    → (peers : List Peer)
    → AllByRecursion (λ q. is_some (f q) ≡ true) peers
    → map (λ x. x.peer) (filter_map f peers) ≡ peers
peers_of f named [] all = refl
peers_of f named (q ∷ peers) all =
    let x = present (f q) all.0 in
    rw x.1 (rw (named q x.0 x.1) (ap (λ rest. q ∷ rest) (peers_of f named peers all.1)))

-- none is of a peer that is none of theirs
none_of : (p : Peer) (q : Peer) (peers : List Peer)
    → AllByRecursion (λ x. is_same_peer q x ≡ false) peers
    → is_same_peer p q ≡ true
    → AllByRecursion (λ x. is_same_peer p x ≡ false) peers
none_of p q peers others same =
    let is : p ≡ q = (is_same_peer-Decides p q).0 same in
    subst (λ (r : Peer). AllByRecursion (λ x. is_same_peer r x ≡ false) peers) (sym is) others

-- two functions that give the same for each of some peers find the same
pub same_for : (f g : Peer → Option Fetch) (p : Peer)
    → ((q : Peer) → is_same_peer p q ≡ false → f q ≡ g q)
    → (peers : List Peer)
    → AllByRecursion (λ x. is_same_peer p x ≡ false) peers
    → filter_map f peers ≡ filter_map g peers
same_for f g p same [] others = refl
same_for f g p same (q ∷ peers) others =
    rw (same q others.0) (ap (λ xs. cons_option (g q) xs) (same_for f g p same peers others.1))

-- the fetch of one peer changes
pub filter_map-changed : (before after : Peer → Option Fetch) (p : Peer) (change : Fetch → Fetch)
    (x : Fetch)
    → IsNamed before
    → ((q : Peer) → is_same_peer p q ≡ false → after q ≡ before q)
    → before p ≡ Some x
    → after p ≡ Some (change x)
    → (peers : List Peer)
    → AreApart peers
    → filter_map after peers ≡ changed_first (is_of p) change (filter_map before peers)
unfolding changed_first
filter_map-changed before after p change x named same was is [] apart = refl
filter_map-changed before after p change x named same was is (q ∷ peers) apart =
    by (is_same_peer p q) refl
    (filter_map-changed before after p change x named same was is peers apart.1)
  where
    Goal : Type 0
    Goal =
        cons_option (after q) (filter_map after peers)
        ≡ changed_first (is_of p) change (cons_option (before q) (filter_map before peers))

    -- its own
    mine : is_same_peer p q ≡ true → Goal
    mine e =
        let at : q ≡ p = sym ((is_same_peer-Decides p q).0 e) in
        let own : is_same_peer x.peer p ≡ true =
        subst (λ (r : Peer). is_same_peer r p ≡ true) (sym (named p x was))
        (is_same_peer-refl p) in
        rw (ap after at ∙ is, ap before at ∙ was) (rw own (ap (λ rest. change x ∷ rest)
        (same_for after before p same peers (none_of p q peers apart.0 e))))

    -- another's
    other : (o : Option Fetch)
        → before q ≡ o
        → is_same_peer p q ≡ false
        → filter_map after peers ≡ changed_first (is_of p) change (filter_map before peers)
        → cons_option o (filter_map after peers)
        ≡ changed_first (is_of p) change (cons_option o (filter_map before peers))
    other None was e more = more
    other (Some y) was e more =
        let no : is_same_peer y.peer p ≡ false =
        subst (λ (r : Peer). is_same_peer r p ≡ false) (sym (named q y was))
        (other_peer-symmetric p q e) in
        rw no (ap (λ rest. y ∷ rest) more)

    by : (b : Bool)
        → is_same_peer p q ≡ b
        → filter_map after peers ≡ changed_first (is_of p) change (filter_map before peers)
        → Goal
    by true e more = mine e
    by false e more = rw (same q e) (other (before q) refl e more)

-- the fetch of one peer ends
pub filter_map-dropped : (f : Peer → Option Fetch) (p : Peer)
    → IsNamed f
    → (peers : List Peer)
    → AreApart peers
    → AllByRecursion (λ q. is_some (f q) ≡ true) peers
    → filter_map f (filter (λ q. not (is_same_peer p q)) peers)
    ≡ without_first (is_of p) (filter_map f peers)
unfolding without_first
filter_map-dropped f p named [] apart all = refl
filter_map-dropped f p named (q ∷ peers) apart all =
    by (is_same_peer p q) refl (present (f q) all.0)
    (filter_map-dropped f p named peers apart.1 all.1)
  where
    Goal : Type 0
    Goal =
        filter_map f (filter (λ x. not (is_same_peer p x)) (q ∷ peers))
        ≡ without_first (is_of p) (cons_option (f q) (filter_map f peers))

    rest : AllByRecursion (λ x. is_same_peer p x ≡ false) peers
        → filter (λ x. not (is_same_peer p x)) peers ≡ peers
    rest others = filter_all (λ x. not (is_same_peer p x)) peers (go peers others)
      where
        go : (ps : List Peer)
            → AllByRecursion (λ x. is_same_peer p x ≡ false) ps
            → AllByRecursion (λ x. not (is_same_peer p x) ≡ true) ps
        go [] h = tt
        go (x ∷ ps) h = let no = h.0 in (rw no refl, go ps h.1)

    by : (b : Bool)
        → is_same_peer p q ≡ b
        → (x : Fetch) × (f q ≡ Some x)
        → filter_map f (filter (λ y. not (is_same_peer p y)) peers)
        ≡ without_first (is_of p) (filter_map f peers)
        → Goal
    by true e x more =
        let own : is_same_peer x.0.peer p ≡ true =
        subst (λ (r : Peer). is_same_peer r p ≡ true)
        (sym (named q x.0 x.1 ∙ sym ((is_same_peer-Decides p q).0 e)))
        (is_same_peer-refl p) in
        rw e (rw x.1 (rw own (ap (filter_map f) (rest (none_of p q peers apart.0 e)))))
    by false e x more =
        let no : is_same_peer x.0.peer p ≡ false =
        subst (λ (r : Peer). is_same_peer r p ≡ false) (sym (named q x.0 x.1))
        (other_peer-symmetric p q e) in
        rw e (rw x.1 (rw no (ap (λ ys. x.0 ∷ ys) more)))

-- the fetch of a peer is found where it is one of them
pub filter_map-found : (f : Peer → Option Fetch) (p : Peer)
    → IsNamed f
    → (peers : List Peer)
    → AllByRecursion (λ q. is_some (f q) ≡ true) peers
    → find (is_of p) (filter_map f peers) ≡ cond (list_any (is_same_peer p) peers) (f p) None
filter_map-found f p named [] all = refl
filter_map-found f p named (q ∷ peers) all =
    by (is_same_peer p q) refl (present (f q) all.0) (filter_map-found f p named peers all.1)
  where
    by : (b : Bool)
        → is_same_peer p q ≡ b
        → (x : Fetch) × (f q ≡ Some x)
        → find (is_of p) (filter_map f peers) ≡ cond (list_any (is_same_peer p) peers) (f p) None
        → find (is_of p) (cons_option (f q) (filter_map f peers))
        ≡ cond (is_same_peer p q || list_any (is_same_peer p) peers) (f p) None
    by true e x more =
        let at : p ≡ q = (is_same_peer-Decides p q).0 e in
        let own : is_same_peer x.0.peer p ≡ true =
        subst (λ (r : Peer). is_same_peer r p ≡ true) (sym (named q x.0 x.1 ∙ sym at))
        (is_same_peer-refl p) in
        rw e (rw x.1 (rw own (sym x.1 ∙ ap f (sym at))))
    by false e x more =
        let no : is_same_peer x.0.peer p ≡ false =
        subst (λ (r : Peer). is_same_peer r p ≡ false) (sym (named q x.0 x.1))
        (other_peer-symmetric p q e) in
        rw e (rw x.1 (rw no more))

-- a peer that is one of them has one
pub any_there : (f : Peer → Option Fetch) (p : Peer) (peers : List Peer)
    → AllByRecursion (λ q. is_some (f q) ≡ true) peers
    → list_any (is_same_peer p) peers ≡ true
    → is_some (f p) ≡ true
any_there f p [] all h = absurd (false≢true h)
any_there f p (q ∷ peers) all h = by (is_same_peer p q) refl h (any_there f p peers all.1)
  where
    by : (b : Bool)
        → is_same_peer p q ≡ b
        → (b || list_any (is_same_peer p) peers) ≡ true
        → (list_any (is_same_peer p) peers ≡ true → is_some (f p) ≡ true)
        → is_some (f p) ≡ true
    by true e h more = ap (λ r. is_some (f r)) ((is_same_peer-Decides p q).0 e) ∙ all.0
    by false e h more = more h

-- the fetch at an index is that of the peer there
pub filter_map-at : (f : Peer → Option Fetch) (p : Peer) (peers : List Peer) (i : ℕ)
    → AllByRecursion (λ q. is_some (f q) ≡ true) peers
    → slice_get peers i ≡ Some p
    → slice_get (filter_map f peers) i ≡ f p
filter_map-at f p [] i all at = absurd cc
filter_map-at f p (q ∷ peers) zero all at =
    let x = present (f q) all.0 in
    let same : q ≡ p = cc in
    rw x.1 (sym x.1 ∙ ap f same)
filter_map-at f p (q ∷ peers) (suc i) all at =
    let x = present (f q) all.0 in rw x.1 (filter_map-at f p peers i all.1 at)

-- what stands at an index is none of theirs from whom all are apart
apart_at : (q p : Peer) (peers : List Peer) (i : ℕ)
    → AllByRecursion (λ x. is_same_peer q x ≡ false) peers
    → slice_get peers i ≡ Some p
    → is_same_peer q p ≡ false
apart_at q p [] i apart at = absurd cc
apart_at q p (x ∷ peers) zero apart at =
    let same : x ≡ p = cc in subst (λ (r : Peer). is_same_peer q r ≡ false) same apart.0
apart_at q p (x ∷ peers) (suc i) apart at = apart_at q p peers i apart.1 at

-- one that changes at an index is the first of its peer
pub filter_map-set : (f : Peer → Option Fetch) (p : Peer) (y : Fetch)
    → IsNamed f
    → (peers : List Peer) (i : ℕ)
    → AreApart peers
    → AllByRecursion (λ q. is_some (f q) ≡ true) peers
    → slice_get peers i ≡ Some p
    → set (filter_map f peers) i y ≡ changed_first (is_of p) (λ x. y) (filter_map f peers)
unfolding changed_first
filter_map-set f p y named [] i apart all at = absurd cc
filter_map-set f p y named (q ∷ peers) zero apart all at =
    let x = present (f q) all.0 in
    let same : q ≡ p = cc in
    let own : is_same_peer x.0.peer p ≡ true =
    subst (λ (r : Peer). is_same_peer r p ≡ true) (sym (named q x.0 x.1 ∙ same))
    (is_same_peer-refl p) in
    rw x.1 (rw own refl)
filter_map-set f p y named (q ∷ peers) (suc i) apart all at =
    let x = present (f q) all.0 in
    let no : is_same_peer x.0.peer p ≡ false =
    subst (λ (r : Peer). is_same_peer r p ≡ false) (sym (named q x.0 x.1))
    (apart_at q p peers i apart.0 at) in
    rw x.1 (rw no (ap (λ rest. x.0 ∷ rest) (filter_map-set f p y named peers i apart.1 all.1 at)))

-- two changes one after the other
pub changed_twice : (test : Fetch → Bool) (y z : Fetch)
    → test y ≡ true
    → (xs : List Fetch)
    → changed_first test (λ x. z) (changed_first test (λ x. y) xs) ≡ changed_first test (λ x. z) xs
unfolding changed_first
changed_twice test y z own [] = refl
changed_twice test y z own (x ∷ xs) = by (test x) refl (changed_twice test y z own xs)
  where
    by : (b : Bool)
        → test x ≡ b
        → changed_first test (λ w. z) (changed_first test (λ w. y) xs)
        ≡ changed_first test (λ w. z) xs
        → changed_first test (λ w. z) (cond b (y ∷ xs) (x ∷ changed_first test (λ w. y) xs))
        ≡ cond b (z ∷ xs) (x ∷ changed_first test (λ w. z) xs)
    by true e more = rw own refl
    by false e more = rw e (ap (λ rest. x ∷ rest) more)

-- ---- the fetches that run

pub running-peers : (octets : OctetsSent) (events : List Event)
    → map (λ f. f.peer) (fetches_running octets events) ≡ fetches events
unfolding fetches_running
running-peers octets events =
    peers_of (fetch_of octets events) (fetch_of-peer octets events) (fetches events)
    (fetches-there octets events)

pub running-found : (octets : OctetsSent) (events : List Event) (p : Peer)
    → find (is_of p) (fetches_running octets events)
    ≡ cond (is_fetching p events) (fetch_of octets events p) None
unfolding fetches_running
running-found octets events p =
    filter_map-found (fetch_of octets events) p (fetch_of-peer octets events) (fetches events)
    (fetches-there octets events)

pub running-there : (octets : OctetsSent) (events : List Event) (p : Peer)
    → is_fetching p events ≡ true
    → is_some (fetch_of octets events p) ≡ true
running-there octets events p is =
    any_there (fetch_of octets events) p (fetches events) (fetches-there octets events) is

pub running-at : (octets : OctetsSent) (events : List Event) (p : Peer) (i : ℕ)
    → slice_get (fetches events) i ≡ Some p
    → slice_get (fetches_running octets events) i ≡ fetch_of octets events p
unfolding fetches_running
running-at octets events p i at =
    filter_map-at (fetch_of octets events) p (fetches events) i (fetches-there octets events) at

pub running-set : (octets : OctetsSent) (events : List Event) (p : Peer) (y : Fetch) (i : ℕ)
    → slice_get (fetches events) i ≡ Some p
    → set (fetches_running octets events) i y
    ≡ changed_first (is_of p) (λ x. y) (fetches_running octets events)
unfolding fetches_running
running-set octets events p y i at =
    filter_map-set (fetch_of octets events) p y (fetch_of-peer octets events) (fetches events) i
    (fetches-apart events) (fetches-there octets events) at

-- an event that changes the fetch of one peer alone
pub running-changed : (octets : OctetsSent) (p : Peer) (change : Fetch → Fetch) (x : Fetch)
    (e : Event) (events : List Event)
    → fetches (e ∷ events) ≡ fetches events
    → ((q : Peer)
    → is_same_peer p q ≡ false
    → fetch_of octets (e ∷ events) q ≡ fetch_of octets events q)
    → fetch_of octets events p ≡ Some x
    → fetch_of octets (e ∷ events) p ≡ Some (change x)
    → fetches_running octets (e ∷ events)
    ≡ changed_first (is_of p) change (fetches_running octets events)
unfolding fetches_running
running-changed octets p change x e events as_before others was is =
    ap (filter_map (fetch_of octets (e ∷ events))) as_before
    ∙ filter_map-changed (fetch_of octets events) (fetch_of octets (e ∷ events)) p change x
    (fetch_of-peer octets events) others was is (fetches events) (fetches-apart events)

-- one that ends it
pub running-dropped : (octets : OctetsSent) (p : Peer) (e : Event) (events : List Event)
    → fetches (e ∷ events) ≡ filter (λ q. not (is_same_peer p q)) (fetches events)
    → ((q : Peer) → fetch_of octets (e ∷ events) q ≡ fetch_of octets events q)
    → fetches_running octets (e ∷ events) ≡ without_first (is_of p) (fetches_running octets events)
unfolding fetches_running
running-dropped octets p e events fewer same =
    ap (filter_map (fetch_of octets (e ∷ events))) fewer
    ∙ (same_found (filter (λ q. not (is_same_peer p q)) (fetches events))
    ∙ filter_map-dropped (fetch_of octets events) p (fetch_of-peer octets events) (fetches events)
    (fetches-apart events) (fetches-there octets events))
  where
    same_found : (peers : List Peer)
        → filter_map (fetch_of octets (e ∷ events)) peers
        ≡ filter_map (fetch_of octets events) peers
    same_found [] = refl
    same_found (q ∷ peers) =
        rw (same q) (ap (λ xs. cons_option (fetch_of octets events q) xs) (same_found peers))
