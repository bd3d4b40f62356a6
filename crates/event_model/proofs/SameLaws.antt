-- The tests of peers, requests and queries decide whether they are equal.
use Rattle.std.proofs.Common.{
  ◌≡◌,
  ℕ,
  true,
  ◌&&◌,
  ◌==◌,
  List,
  [],
  ◌∷◌,
  Option,
  Some,
  None,
  Decides,
  bytes_eq,
  refl,
  ap,
  ap₂,
  eqb-true,
  ◌∙◌,
  subst,
}
use Rattle.std.proofs.lemmas.Bool.{false≢true, and_parts, and_from}
use Rattle.std.proofs.lemmas.Slice.Eq.{bytes_eq-Decides}
use Rattle.rd_base.specs.declared.peers.Host.{Host}
use Rattle.rd_base.specs.declared.peers.Host.TheVariants as host
use Rattle.rd_base.specs.declared.peers.Peer.{Peer}
use Rattle.rd_base.specs.declared.queries.Kind.{Kind}
use Rattle.rd_base.specs.declared.queries.Kind.TheVariants as kind
use Rattle.rd_base.specs.declared.queries.Criterion.{Criterion}
use Rattle.rd_base.specs.declared.queries.Query.{Query}
use Rattle.event_model.specs.Same.{
  is_same_host,
  is_same_peer,
  RequestName,
  is_same_request,
  is_same_kind,
  are_same_criteria,
  is_same_number,
  is_same_query,
}
use Rattle.rd_base.proofs.lemmas.Numbers.{eqb-refl}

-- addresses
pub is_same_host-Decides : (a b : Host) → Decides (is_same_host a b) (a ≡ b)
is_same_host-Decides (host.V4 a) (host.V4 b) = (
  λ e. ap host.V4 ((bytes_eq-Decides a b).0 e),
  λ e. (bytes_eq-Decides a b).1 (let same : a ≡ b = cc in same),
)
is_same_host-Decides (host.V4 a) (host.V6 b) = (λ e. absurd (false≢true e), λ e. absurd cc)
is_same_host-Decides (host.V6 a) (host.V4 b) = (λ e. absurd (false≢true e), λ e. absurd cc)
is_same_host-Decides (host.V6 a) (host.V6 b) = (
  λ e. ap host.V6 ((bytes_eq-Decides a b).0 e),
  λ e. (bytes_eq-Decides a b).1 (let same : a ≡ b = cc in same),
)

-- peers
pub is_same_peer-Decides : (a b : Peer) → Decides (is_same_peer a b) (a ≡ b)
is_same_peer-Decides a b = (
  λ e. let both = and_parts (is_same_host a.host b.host) (a.port == b.port) e in
      ap₂ peer ((is_same_host-Decides a.host b.host).0 both.0) (eqb-true a.port b.port both.1),
  λ e.
      and_from (is_same_host a.host b.host) (a.port == b.port)
      ((is_same_host-Decides a.host b.host).1 (ap (λ (p : Peer). p.host) e))
      (subst (λ n. (a.port == n) ≡ true) (ap (λ (p : Peer). p.port) e) (eqb-refl a.port)),
)
  where
    peer : Host → ℕ → Peer
    peer h port = record { host = h; port = port }

-- a peer is itself
pub is_same_peer-refl : (peer : Peer) → is_same_peer peer peer ≡ true
is_same_peer-refl peer = (is_same_peer-Decides peer peer).1 refl

-- requests: a peer and a key, or a peer and a token
pub is_same_request-Decides : (a b : RequestName) → Decides (is_same_request a b) (a ≡ b)
is_same_request-Decides a b = (
  λ e. let both = and_parts (is_same_peer a.0 b.0) (bytes_eq a.1 b.1) e in
      ap₂ name ((is_same_peer-Decides a.0 b.0).0 both.0) ((bytes_eq-Decides a.1 b.1).0 both.1),
  λ e.
      and_from (is_same_peer a.0 b.0) (bytes_eq a.1 b.1)
      ((is_same_peer-Decides a.0 b.0).1 (ap (λ (n : RequestName). n.0) e))
      ((bytes_eq-Decides a.1 b.1).1 (ap (λ (n : RequestName). n.1) e)),
)
  where
    name : Peer → List ℕ → RequestName
    name p octets = (p, octets)

-- a request is itself
pub is_same_request-refl : (name : RequestName) → is_same_request name name ≡ true
is_same_request-refl name = (is_same_request-Decides name name).1 refl

-- kinds
is_same_kind-Decides : (a b : Kind) → Decides (is_same_kind a b) (a ≡ b)
is_same_kind-Decides kind.Resource kind.Resource = (λ e. refl, λ e. refl)
is_same_kind-Decides kind.Resource kind.Endpoint = (λ e. absurd (false≢true e), λ e. absurd cc)
is_same_kind-Decides kind.Resource kind.Discovery = (λ e. absurd (false≢true e), λ e. absurd cc)
is_same_kind-Decides kind.Endpoint kind.Resource = (λ e. absurd (false≢true e), λ e. absurd cc)
is_same_kind-Decides kind.Endpoint kind.Endpoint = (λ e. refl, λ e. refl)
is_same_kind-Decides kind.Endpoint kind.Discovery = (λ e. absurd (false≢true e), λ e. absurd cc)
is_same_kind-Decides kind.Discovery kind.Resource = (λ e. absurd (false≢true e), λ e. absurd cc)
is_same_kind-Decides kind.Discovery kind.Endpoint = (λ e. absurd (false≢true e), λ e. absurd cc)
is_same_kind-Decides kind.Discovery kind.Discovery = (λ e. refl, λ e. refl)

-- numbers that may be missing
is_same_number-Decides : (a b : Option ℕ) → Decides (is_same_number a b) (a ≡ b)
is_same_number-Decides None None = (λ e. refl, λ e. refl)
is_same_number-Decides None (Some b) = (λ e. absurd (false≢true e), λ e. absurd cc)
is_same_number-Decides (Some a) None = (λ e. absurd (false≢true e), λ e. absurd cc)
is_same_number-Decides (Some a) (Some b) = (
  λ e. ap (λ n. Some n) (eqb-true a b e),
  λ e. let same :
      a ≡ b = cc in subst (λ n. (a == n) ≡ true) same (eqb-refl a),
)

-- criteria
criterion_of : List ℕ → List ℕ → Criterion
criterion_of name pattern = record { name = name; pattern = pattern }

are_same_criteria-Decides : (a b : List Criterion) → Decides (are_same_criteria a b) (a ≡ b)
unfolding criterion_of
are_same_criteria-Decides [] [] = (λ e. refl, λ e. refl)
are_same_criteria-Decides [] (b ∷ bs) = (λ e. absurd (false≢true e), λ e. absurd cc)
are_same_criteria-Decides (a ∷ as_) [] = (λ e. absurd (false≢true e), λ e. absurd cc)
are_same_criteria-Decides (a ∷ more) (b ∷ others) =
    (forth (are_same_criteria-Decides more others), back (are_same_criteria-Decides more others))
  where
    forth : Decides (are_same_criteria more others) (more ≡ others)
        → are_same_criteria (a ∷ more) (b ∷ others) ≡ true
        → a ∷ more ≡ b ∷ others
    forth tail e =
        let front =
        and_parts (bytes_eq a.name b.name && bytes_eq a.pattern b.pattern)
        (are_same_criteria more others) e in
        let both = and_parts (bytes_eq a.name b.name) (bytes_eq a.pattern b.pattern) front.0 in
        let first : a ≡ b =
        ap₂ criterion_of ((bytes_eq-Decides a.name b.name).0 both.0)
        ((bytes_eq-Decides a.pattern b.pattern).0 both.1) in
        ap₂ (λ c cs. c ∷ cs) first (tail.0 front.1)

    back : Decides (are_same_criteria more others) (more ≡ others)
        → a ∷ more ≡ b ∷ others
        → are_same_criteria (a ∷ more) (b ∷ others) ≡ true
    back tail e =
        let first : a ≡ b = cc in
        let rest : more ≡ others = cc in
        and_from (bytes_eq a.name b.name && bytes_eq a.pattern b.pattern)
        (are_same_criteria more others)
        (and_from (bytes_eq a.name b.name) (bytes_eq a.pattern b.pattern)
        ((bytes_eq-Decides a.name b.name).1 (ap (λ (c : Criterion). c.name) first))
        ((bytes_eq-Decides a.pattern b.pattern).1 (ap (λ (c : Criterion). c.pattern) first)))
        (tail.1 rest)

-- queries
query_of : Kind → List Criterion → Option ℕ → Option ℕ → Query
query_of k criteria page count = record {
  kind = k;
  criteria = criteria;
  page = page;
  count = count;
}

-- An end theorem: nothing here cites it.
pub is_same_query-Decides : (a b : Query) → Decides (is_same_query a b) (a ≡ b)
unfolding query_of
is_same_query-Decides a b = (forth, back)
  where
    forth : is_same_query a b ≡ true → a ≡ b
    forth e =
        let one =
        and_parts (is_same_kind a.kind b.kind
        && are_same_criteria a.criteria b.criteria
        && is_same_number a.page b.page) (is_same_number a.count b.count) e in
        let two =
        and_parts (is_same_kind a.kind b.kind && are_same_criteria a.criteria b.criteria)
        (is_same_number a.page b.page) one.0 in
        let three =
        and_parts (is_same_kind a.kind b.kind) (are_same_criteria a.criteria b.criteria)
        two.0 in
        let first :
        query_of a.kind a.criteria a.page a.count ≡ query_of b.kind b.criteria a.page a.count =
        ap₂ (λ k cs. query_of k cs a.page a.count) ((is_same_kind-Decides a.kind b.kind).0 three.0)
        ((are_same_criteria-Decides a.criteria b.criteria).0 three.1) in
        first
        ∙ ap₂ (λ page count. query_of b.kind b.criteria page count)
        ((is_same_number-Decides a.page b.page).0 two.1)
        ((is_same_number-Decides a.count b.count).0 one.1)

    back : a ≡ b → is_same_query a b ≡ true
    back e =
        and_from (is_same_kind a.kind b.kind
        && are_same_criteria a.criteria b.criteria
        && is_same_number a.page b.page) (is_same_number a.count b.count)
        (and_from (is_same_kind a.kind b.kind && are_same_criteria a.criteria b.criteria)
        (is_same_number a.page b.page)
        (and_from (is_same_kind a.kind b.kind) (are_same_criteria a.criteria b.criteria)
        ((is_same_kind-Decides a.kind b.kind).1 (ap (λ (q : Query). q.kind) e))
        ((are_same_criteria-Decides a.criteria b.criteria).1
        (ap (λ (q : Query). q.criteria) e)))
        ((is_same_number-Decides a.page b.page).1 (ap (λ (q : Query). q.page) e)))
        ((is_same_number-Decides a.count b.count).1 (ap (λ (q : Query). q.count) e))
