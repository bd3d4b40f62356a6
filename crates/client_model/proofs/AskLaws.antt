-- An ask that is made has options that can be written one after the other.
use Rattle.std.proofs.Common.{
  ◌≡◌,
  ℕ,
  ◌≤◌,
  true,
  nat_le,
  List,
  [],
  ◌∷◌,
  ◌++◌,
  length,
  refl,
  subst,
  append-nil,
  arith,
}
use Rattle.std.specs.Str.{is_utf8}
use Rattle.std.proofs.lemmas.Bool.{and_from, and_parts, leb-true}
use Rattle.rd_base.specs.declared.peers.Peer.{Peer}
use Rattle.message_model.specs.declared.formats.TheConstants.{LINK_FORMAT}
use Rattle.message_model.specs.Message.{Opt, last_number}
use Rattle.message_model.specs.OptionTable as table
use Rattle.client_model.specs.declared.asks.TheConstants.{MAX_PART}
use Rattle.client_model.specs.Requests.{CanFollow}
use Rattle.client_model.specs.Asks.{is_part, are_parts, are_segments, options_with, registering}

pub parts_are_segments : (values : List (List ℕ))
    → are_parts values ≡ true
    → are_segments values ≡ true
parts_are_segments [] e = refl
parts_are_segments (v ∷ values) e =
    let all = and_parts (is_part v) (are_parts values) e in
    let one = and_parts (is_utf8 v) (nat_le (length v) MAX_PART) all.0 in
    and_from
    (nat_le (length v) MAX_PART)
    (are_segments values)
    one.1
    (parts_are_segments values all.1)

-- what can follow an option can follow one of a lower number
follow_earlier : (before number : ℕ) (options : List Opt)
    → before ≤ number
    → CanFollow number options
    → CanFollow before options
follow_earlier before number [] low follow = tt
follow_earlier before number (o ∷ options) low follow =
    let ascends : number ≤ o.0 = follow.0 in
    (omega (arith, low, ascends), follow.1, follow.2, follow.3)

-- options of one number can follow one that is not above it
pub follow_with : (before number : ℕ) (values : List (List ℕ)) (rest : List Opt)
    → before ≤ number
    → number ≤ last_number
    → are_segments values ≡ true
    → CanFollow number rest
    → CanFollow before (options_with number values ++ rest)
follow_with before number [] rest low most short follow =
    follow_earlier before number rest low follow
follow_with before number (v ∷ values) rest low most short follow =
    let all = and_parts (nat_le (length v) MAX_PART) (are_segments values) short in
    let fits : length v ≤ MAX_PART = leb-true (length v) MAX_PART all.0 in (
      low,
      most,
      omega (arith, fits),
      follow_with number number values rest (omega arith) most all.1 follow,
    )

-- those of a location
pub located_follows : (path : List (List ℕ))
    → are_segments path ≡ true
    → CanFollow 0 (options_with table.uri_path path)
located_follows path short =
    subst
    (λ (options : List Opt). CanFollow 0 options)
    (append-nil (options_with table.uri_path path))
    (follow_with 0 table.uri_path path [] (omega arith) (omega arith) short tt)

-- those of a registration
pub registering_follows : (to : Peer) (path query : List (List ℕ)) (links : List ℕ)
    → are_parts path ≡ true
    → are_parts query ≡ true
    → CanFollow 0 (registering to path query links).options
registering_follows to path query links segments parts =
    let queries =
    subst
    (λ (options : List Opt). CanFollow table.content_format options)
    (append-nil (options_with table.uri_query query))
    (follow_with table.content_format table.uri_query query [] (omega arith) (omega arith)
    (parts_are_segments query parts) tt) in
    follow_with 0 table.uri_path path
    ((table.content_format, LINK_FORMAT ∷ []) ∷ options_with table.uri_query query)
    (omega arith)
    (omega arith)
    (parts_are_segments path segments)
    (omega arith, omega arith, omega arith, queries)
