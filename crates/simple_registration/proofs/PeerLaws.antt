-- Who is fetched from: no peer twice, and each made a request.
use Rattle.std.proofs.Common.{
  ◌≡◌,
  ℕ,
  ◌==◌,
  ◌||◌,
  ◌&&◌,
  Bool,
  true,
  false,
  not,
  cond,
  List,
  [],
  ◌∷◌,
  ◌++◌,
  filter,
  find,
  Option,
  Some,
  None,
  refl,
  sym,
  ap,
  subst,
  ◌∙◌,
  append-nil,
  arith,
}
use Rattle.std.specs.Prelude.{is_some, IsSome}
use Rattle.std.specs.List.{list_any, AllByRecursion}
use Rattle.std.proofs.lemmas.Bool.{false≢true, and_parts}
use Rattle.rd_base.specs.declared.peers.Peer.{Peer}
use Rattle.rd_base.specs.declared.parameters.RegParams.{RegParams}
use Rattle.rd_base.proofs.lemmas.Filters.{filter_all}
use Rattle.rd_base.proofs.lemmas.Each.{each_one, each_filter, each_weaker, each_append, each_passes}
use Rattle.rd_base.proofs.lemmas.Pairs.{PairsByRecursion, pairs_filter, pairs_push}
use Rattle.event_model.specs.declared.notes.Note.{Note}
use Rattle.event_model.specs.declared.notes.Note.TheVariants as note
use Rattle.event_model.specs.Same.{is_same_peer}
use Rattle.event_model.specs.Events.{Event, last_event}
use Rattle.event_model.specs.Fetches.{
  starts_or_ends_fetch,
  started_by,
  fetches,
  is_fetching,
  is_request_to,
  Request,
  request_noted,
  last_request,
}
use Rattle.event_model.proofs.SameLaws.{is_same_peer-Decides, is_same_peer-refl}

-- ---- two peers

pub same_peer-symmetric : (p q : Peer) → is_same_peer p q ≡ true → is_same_peer q p ≡ true
same_peer-symmetric p q same =
    (is_same_peer-Decides q p).1 (sym ((is_same_peer-Decides p q).0 same))

pub other_peer-symmetric : (p q : Peer) → is_same_peer p q ≡ false → is_same_peer q p ≡ false
other_peer-symmetric p q other = by (is_same_peer q p) refl
  where
    by : (b : Bool) → is_same_peer q p ≡ b → is_same_peer q p ≡ false
    by true e = absurd (false≢true (sym other ∙ same_peer-symmetric q p e))
    by false e = e

-- no two of them are the same
abbrev pub AreApart : List Peer → Type 0
AreApart peers = PairsByRecursion (λ p q. is_same_peer p q ≡ false) peers

-- ---- who is fetched from

-- a note that starts and ends no fetch leaves them
pub fetches-aside : (e : Event) (events : List Event)
    → ((q : Peer) → starts_or_ends_fetch e.note q ≡ false)
    → started_by e.note ≡ []
    → fetches (e ∷ events) ≡ fetches events
unfolding fetches
fetches-aside e events aside none =
    rw none
    (append-nil (filter (λ q. not (starts_or_ends_fetch e.note q)) (fetches events))
    ∙ filter_all (λ q. not (starts_or_ends_fetch e.note q)) (fetches events)
    (each_one (λ q. not (starts_or_ends_fetch e.note q) ≡ true) (λ q. rw (aside q) refl)
    (fetches events)))

-- the end of one
pub fetches-Ceased : (p : Peer) (e : Event) (events : List Event)
    → e.note ≡ note.Ceased p
    → fetches (e ∷ events) ≡ filter (λ q. not (is_same_peer p q)) (fetches events)
unfolding fetches
fetches-Ceased p e events is =
    rw is (append-nil (filter (λ q. not (is_same_peer p q)) (fetches events)))

-- the start of one, where none runs
pub fetches-start : (p : Peer) (token : List ℕ) (mid : ℕ) (params : RegParams) (e : Event)
    (events : List Event)
    → e.note ≡ note.Asked p token mid params 0
    → is_fetching p events ≡ false
    → fetches (e ∷ events) ≡ fetches events ++ p ∷ []
unfolding fetches
fetches-start p token mid params e events is none =
    rw is (ap (λ front. front ++ p ∷ []) (filter_all (λ q. not (is_same_peer p q)) (fetches events)
    (others (fetches events) none)))
  where
    others : (peers : List Peer)
        → list_any (is_same_peer p) peers ≡ false
        → AllByRecursion (λ q. not (is_same_peer p q) ≡ true) peers
    others [] h = tt
    others (q ∷ peers) h = by (is_same_peer p q) refl h (others peers)
      where
        by : (b : Bool)
            → is_same_peer p q ≡ b
            → (b || list_any (is_same_peer p) peers) ≡ false
            → (list_any (is_same_peer p) peers ≡ false
            → AllByRecursion (λ x. not (is_same_peer p x) ≡ true) peers)
            → AllByRecursion (λ x. not (is_same_peer p x) ≡ true) (q ∷ peers)
        by true e h more = absurd (false≢true (sym h))
        by false e h more = (rw e refl, more h)

-- no peer twice
pub fetches-apart : (events : List Event) → AreApart (fetches events)
unfolding fetches
fetches-apart [] = tt
fetches-apart (e ∷ before) =
    by e.note
    (pairs_filter (λ p q. is_same_peer p q ≡ false) (λ q. not (starts_or_ends_fetch e.note q))
    (fetches before) (fetches-apart before))
  where
    left : Note → List Peer
    left n = filter (λ q. not (starts_or_ends_fetch n q)) (fetches before)

    at_end : (peers : List Peer) → AreApart peers → AreApart (peers ++ [])
    at_end peers h = subst (λ (ps : List Peer). AreApart ps) (sym (append-nil peers)) h

    by : (n : Note) → AreApart (left n) → AreApart (left n ++ started_by n)
    by (note.Asked p token mid params number) h = start (number == 0) refl
      where
        others : (number == 0) ≡ true
            → (q : Peer)
            → not (starts_or_ends_fetch (note.Asked p token mid params number) q) ≡ true
            → is_same_peer q p ≡ false
        others zero q keep = other_peer-symmetric p q (no (is_same_peer p q) (rw zero at keep))
          where
            no : (b : Bool) → not b ≡ true → b ≡ false
            no true h = absurd (false≢true h)
            no false h = refl

        start : (b : Bool)
            → (number == 0) ≡ b
            → AreApart (left (note.Asked p token mid params number) ++ cond b (p ∷ []) [])
        start true zero =
            pairs_push (λ x y. is_same_peer x y ≡ false)
            (left (note.Asked p token mid params number)) p h
            (each_weaker
            (λ q. not (starts_or_ends_fetch (note.Asked p token mid params number) q) ≡ true)
            (λ q. is_same_peer q p ≡ false) (others zero)
            (left (note.Asked p token mid params number))
            (each_passes (λ q. not (starts_or_ends_fetch (note.Asked p token mid params number) q))
            (fetches before)))
        start false later = at_end (left (note.Asked p token mid params number)) h
    by n h = at_end (left n) h

-- ---- each made a request

-- an event of a request makes one
pub request_made : (q : Peer) (events : List Event) (e : Event)
    → last_request q events ≡ Some e
    → IsSome (request_noted e.note)
request_made q [] e last = absurd cc
request_made q (x ∷ before) e last =
    by (is_request_to q x.note) refl last (λ found. request_made q before e found)
  where
    is_one : (n : Note) → is_request_to q n ≡ true → IsSome (request_noted n)
    is_one (note.Asked p token mid params number) it = refl
    is_one _ it = absurd (false≢true it)

    by : (b : Bool)
        → is_request_to q x.note ≡ b
        → cond b (Some x) (last_request q before) ≡ Some e
        → (last_request q before ≡ Some e → IsSome (request_noted e.note))
        → IsSome (request_noted e.note)
    by true it found more =
        let same : x ≡ e = cc in
        subst (λ (y : Event). IsSome (request_noted y.note)) same (is_one x.note it)
    by false it found more = more found

-- the peer of each fetch that runs made one
pub requested : (events : List Event)
    → AllByRecursion (λ q. is_some (last_request q events) ≡ true) (fetches events)
unfolding fetches
requested [] = tt
requested (e ∷ before) =
    each_append (λ q. is_some (last_request q (e ∷ before)) ≡ true)
    (filter (λ q. not (starts_or_ends_fetch e.note q)) (fetches before)) (started_by e.note)
    (each_filter (λ q. is_some (last_request q (e ∷ before)) ≡ true)
    (λ q. not (starts_or_ends_fetch e.note q)) (fetches before)
    (each_weaker (λ q. is_some (last_request q before) ≡ true)
    (λ q. is_some (last_request q (e ∷ before)) ≡ true)
    (λ q h. still q (is_request_to q e.note) h) (fetches before) (requested before)))
    (by e.note)
  where
    still : (q : Peer) (b : Bool)
        → is_some (last_request q before) ≡ true
        → is_some (cond b (Some e) (last_request q before)) ≡ true
    still q true h = refl
    still q false h = h

    by : (n : Note)
        → AllByRecursion
        (λ q. is_some (cond (is_request_to q n) (Some e) (last_request q before)) ≡ true)
        (started_by n)
    by (note.Asked p token mid params number) = started (number == 0)
      where
        started : (b : Bool)
            → AllByRecursion (λ q.
            is_some (cond (is_request_to q (note.Asked p token mid params number)) (Some e)
            (last_request q before))
            ≡ true) (cond b (p ∷ []) [])
        started true = (rw (is_same_peer-refl p) refl, tt)
        started false = tt
    by _ = tt
