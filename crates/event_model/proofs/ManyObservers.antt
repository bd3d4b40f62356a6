-- Many observers, each under a token of its own, for examples at the limits. Those that are added
-- one after the other all stand.
use Rattle.std.proofs.Common.{
  ◌≡◌,
  ℕ,
  ◌+◌,
  ◌*◌,
  ◌/◌,
  ◌%◌,
  ◌<◌,
  zero,
  suc,
  Bool,
  true,
  false,
  List,
  [],
  ◌∷◌,
  map,
  flat_map,
  get_or,
  Some,
  None,
  refl,
  sym,
  ◌∙◌,
  ap,
  ap₂,
  subst,
  arith,
}
use Rattle.std.specs.List.{AllByRecursion, range_with_len}
use Rattle.std.proofs.Math.Nat.{div-add-mod}
use Rattle.rd_base.specs.declared.peers.Host.TheVariants as host
use Rattle.rd_base.specs.declared.peers.Peer.{Peer}
use Rattle.rd_base.specs.declared.queries.Kind.TheVariants as kind
use Rattle.rd_base.specs.declared.queries.Query.{Query}
use Rattle.rd_base.proofs.lemmas.Each.{each_one}
use Rattle.rd_base.proofs.lemmas.Pairs.{pairs_map, PairsByRecursion}
use Rattle.event_model.specs.declared.notes.Note.{Note}
use Rattle.event_model.specs.declared.notes.Note.TheVariants as note
use Rattle.event_model.specs.declared.notes.Observer.{Observer}
use Rattle.event_model.specs.Same.{is_same_request}
use Rattle.event_model.specs.Events.{noted}
use Rattle.event_model.specs.Observers.{name_of, observer_added, observers}
use Rattle.event_model.proofs.SameLaws.{is_same_request-Decides}
use Rattle.event_model.proofs.ObserverLaws.{Apart}
use Rattle.event_model.proofs.AddedObservers.{is_removal, observers_noted}

-- the peer 192.0.3.k
abbrev pub peer : ℕ → Peer
peer k = record { host = host.V4 (192 ∷ 0 ∷ 3 ∷ k ∷ []); port = 5683 }

-- a lookup of one page of the endpoints, known by its page
abbrev pub page_query : ℕ → Query
page_query k = record { kind = kind.Endpoint; criteria = []; page = Some k; count = Some 1 }

-- an observer of a query, with the token k
abbrev pub observer : Query → ℕ → Observer
observer q k = record {
  peer = peer 1;
  token = k / 256 ∷ k % 256 ∷ [];
  query = q;
  key = [];
  szx = 6;
}

-- so many observers, the one with the token k of the query of k
abbrev pub observers_of_queries : (ℕ → Query) → ℕ → List Observer
observers_of_queries query n = map (λ k. observer (query k) k) (range_with_len 0 n)

-- what is noted where an observer is added, whose listing is empty
abbrev pub adding : Observer → List Note
adding o = note.Watched o ∷ note.Formed o.peer o.token [] None ∷ []

-- a range ascends
ascends : (from n k : ℕ) → k < from → AllByRecursion (λ x. k < x) (range_with_len from n)
ascends from zero k below = tt
ascends from (suc n) k below = (below, ascends (from + 1) n k (omega arith))

range-ascends : (from n : ℕ) → PairsByRecursion (λ x y. x < y) (range_with_len from n)
range-ascends from zero = tt
range-ascends from (suc n) = (ascends (from + 1) n from (omega arith), range-ascends (from + 1) n)

-- tokens of two numbers differ
tokens_apart : (p q : Query) (x y : ℕ) → x < y → Apart (observer p x) (observer q y)
tokens_apart p q x y below =
    by (is_same_request (name_of (observer p x)) (name_of (observer q y))) refl
  where
    by : (b : Bool)
        → is_same_request (name_of (observer p x)) (name_of (observer q y)) ≡ b
        → Apart (observer p x) (observer q y)
    by false e = e
    by true e =
        let tokens : x / 256 ∷ x % 256 ∷ [] ≡ y / 256 ∷ y % 256 ∷ [] =
        ap (λ n. n.1)
        ((is_same_request-Decides (name_of (observer p x)) (name_of (observer q y))).0 e) in
        let high : x / 256 ≡ y / 256 = ap (λ octets. get_or octets 0 0) tokens in
        let low : x % 256 ≡ y % 256 = ap (λ octets. get_or octets 1 0) tokens in
        let same : x ≡ y =
        sym (div-add-mod x 256) ∙ (ap₂ (λ h l. 256 * h + l) high low ∙ div-add-mod y 256) in
        absurd (omega (same, below, arith))

-- what is noted removes none, and adds these
none_removed : (added : List Observer)
    → AllByRecursion (λ n. is_removal n ≡ false) (flat_map adding added)
none_removed [] = tt
none_removed (o ∷ added) = (refl, (refl, none_removed added))

these_added : (added : List Observer) → flat_map observer_added (flat_map adding added) ≡ added
these_added [] = refl
these_added (o ∷ added) = ap (λ rest. o ∷ rest) (these_added added)

-- all that are added stand
pub all_stand : (query : ℕ → Query) (n : ℕ)
    → observers (noted 0 0 0 (flat_map adding (observers_of_queries query n)) [])
    ≡ observers_of_queries query n
unfolding observers
all_stand query n =
    observers_noted 0 0 0 (flat_map adding (observers_of_queries query n)) []
    (none_removed (observers_of_queries query n))
    (subst (PairsByRecursion Apart) (sym (these_added (observers_of_queries query n))) apart)
    ∙ these_added (observers_of_queries query n)
  where
    apart : PairsByRecursion Apart (observers_of_queries query n)
    apart =
        pairs_map (λ x. Unit {0}) (λ x y. x < y) Apart (λ k. observer (query k) k)
        (λ x y known also below. tokens_apart (query x) (query y) x y below)
        (range_with_len 0 n) (each_one (λ x. Unit {0}) (λ x. tt) (range_with_len 0 n))
        (range-ascends 0 n)
