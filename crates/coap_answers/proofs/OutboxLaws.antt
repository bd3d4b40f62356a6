-- One datagram more.
use Rattle.std.proofs.Common.{
  ◌≡◌,
  ℕ,
  ◌+◌,
  ◌-◌,
  List,
  [],
  ◌∷◌,
  ◌++◌,
  length,
  map,
  take,
  drop,
  refl,
  sym,
  ap,
  ◌∙◌,
  arith,
  take_all,
  Option,
  Some,
  None,
  get_or,
}
use Rattle.std.specs.List.{AllByRecursion, slice_get}
use Rattle.std.proofs.Math.Seq.{get_or-append_seam}
use Rattle.std.proofs.lemmas.Option.{slice_get-get_or}
use Rattle.std.proofs.lemmas.List.{
  take-append-le,
  drop-append-le,
  drop_at,
  length-drop,
  length-append,
}
use Rattle.rd_base.specs.declared.peers.Peer.{Peer}
use Rattle.coap_answers.specs.declared.outbox.Span.{Span}
use Rattle.coap_answers.specs.Outboxes.{datagram_at, LiesWithin}

-- datagrams stay where they are
as_before : (octets more : List ℕ) (spans : List Span)
    → AllByRecursion (LiesWithin (length octets)) spans
    → map (datagram_at (octets ++ more)) spans ≡ map (datagram_at octets) spans
as_before octets more [] within = refl
as_before octets more (s ∷ spans) within =
    let low = within.0.0 in
    let high = within.0.1 in
    let start : drop s.start (octets ++ more) ≡ drop s.start octets ++ more =
    drop-append-le s.start octets more (omega (arith, low, high)) in
    let same :
    take (s.end - s.start) (drop s.start (octets ++ more))
    ≡ take (s.end - s.start) (drop s.start octets) =
    ap (take (s.end - s.start)) start
    ∙ take-append-le (s.end - s.start) (drop s.start octets) more
    (omega (arith, length-drop s.start octets, low, high)) in
    ap (λ (d : List ℕ). (s.peer, d) ∷ map (datagram_at (octets ++ more)) spans) same
    ∙ ap (λ (ds : List (Peer × List ℕ)). datagram_at octets s ∷ ds)
    (as_before octets more spans within.1)

pub shown-push : (octets more : List ℕ) (spans : List Span) (peer : Peer) (start end : ℕ)
    → start ≡ length octets
    → end ≡ length octets + length more
    → AllByRecursion (LiesWithin (length octets)) spans
    → map (datagram_at (octets ++ more))
    (spans ++ record { peer = peer; start = start; end = end } ∷ [])
    ≡ map (datagram_at octets) spans ++ (peer, more) ∷ []
shown-push octets more [] peer start end s e within =
    let start_at : drop start (octets ++ more) ≡ more = drop_at octets more start (sym s) in
    let all : take (end - start) (drop start (octets ++ more)) ≡ more =
    ap (take (end - start)) start_at ∙ take_all (end - start) more (omega (arith, s, e)) in
    ap (λ (d : List ℕ). (peer, d) ∷ []) all
shown-push octets more (x ∷ spans) peer start end s e within =
    let first : datagram_at (octets ++ more) x ∷ [] ≡ datagram_at octets x ∷ [] =
    as_before octets more (x ∷ []) (within.0, tt) in
    ap (λ (ds : List (Peer × List ℕ)).
    ds
    ++ map (datagram_at (octets ++ more))
    (spans ++ record { peer = peer; start = start; end = end } ∷ [])) first
    ∙ ap (λ (ds : List (Peer × List ℕ)). datagram_at octets x ∷ ds)
    (shown-push octets more spans peer start end s e within.1)

pub pushed : (octets octets_now more : List ℕ) (spans spans_now : List Span) (peer : Peer)
    (start end : ℕ) (before : List (Peer × List ℕ))
    → octets_now ≡ octets ++ more
    → spans_now ≡ spans ++ record { peer = peer; start = start; end = end } ∷ []
    → map (datagram_at octets) spans ≡ before
    → start ≡ length octets
    → end ≡ length octets_now
    → AllByRecursion (LiesWithin (length octets)) spans
    → map (datagram_at octets_now) spans_now ≡ before ++ (peer, more) ∷ []
pushed octets octets_now more spans spans_now peer start end before o p q s e within =
    ap (λ (x : List ℕ). map (datagram_at x) spans_now) o
    ∙ (ap (λ (x : List Span). map (datagram_at (octets ++ more)) x) p
    ∙ (shown-push octets more spans peer start end s (e ∙ (ap length o ∙ length-append octets more))
    within
    ∙ ap (λ (ds : List (Peer × List ℕ)). ds ++ (peer, more) ∷ []) q))

-- what is found at the last index
at_last : {X : Type 0} (xs front : List X) (x : X) (i : ℕ)
    → xs ≡ front ++ x ∷ []
    → i + 1 ≡ length xs
    → slice_get xs i ≡ Some x
at_last xs front x i is at =
    let size = ap length is ∙ length-append front (x ∷ []) in
    let there : i ≡ length front = omega (arith, size, at) in
    slice_get-get_or xs i x (omega (arith, at))
    ∙ ap Some (ap (λ ys. get_or ys i x) is
    ∙ (ap (λ (k : ℕ). get_or (front ++ x ∷ []) k x) there ∙ get_or-append_seam front x [] x))

-- Returns the octets that were found, or none.
abbrev pub octets_or_none : Option (Peer × List ℕ) → List ℕ
octets_or_none None = []
octets_or_none (Some d) = d.1

-- what is found at the last index of an outbox are the octets of its last datagram
pub last_found : (found : Option (Peer × List ℕ)) (ds front : List (Peer × List ℕ)) (peer : Peer)
    (octets : List ℕ) (i : ℕ)
    → found ≡ slice_get ds i
    → i + 1 ≡ length ds
    → ds ≡ front ++ (peer, octets) ∷ []
    → octets_or_none found ≡ octets
last_found found ds front peer octets i e at is =
    ap octets_or_none (e ∙ at_last ds front (peer, octets) i is at)
