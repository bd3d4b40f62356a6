-- The refusals that a request alone decides, one after the other, and what follows where nothing is
-- refused.
use Rattle.std.proofs.Common.{
  ◌≡◌,
  Bool,
  true,
  false,
  Option,
  Some,
  None,
  is_none,
  codes,
  refl,
}
use Rattle.message_model.specs.Codes as codes_of
use Rattle.message_model.specs.declared.requests.Refusal.{Refusal}
use Rattle.message_model.specs.Message.{Message}
use Rattle.message_model.specs.Refusals.{refusal_of}
use Rattle.journal_model.specs.Effects.{diagnostic}
use Rattle.journal_model.specs.Requests.{
  refusal_of_request,
  refusal_or_next,
  has_bad_query,
  has_bad_payload,
}

-- none before the query, and the query is refused
pub query_refused : (m : Message)
    → refusal_of m ≡ None
    → has_bad_query m ≡ true
    → refusal_of_request m ≡ Some (diagnostic codes_of.bad_request (codes "query"))
unfolding refusal_of_request
query_refused m none bad = rw none (rw bad refl)

-- none before the payload, and the payload is refused
pub payload_refused : (m : Message)
    → refusal_of m ≡ None
    → has_bad_query m ≡ false
    → has_bad_payload m ≡ true
    → refusal_of_request m ≡ Some (diagnostic codes_of.bad_request (codes "payload"))
unfolding refusal_of_request
payload_refused m none good bad = rw none (rw good (rw bad refl))

-- none at all
pub none_refused : (m : Message)
    → refusal_of m ≡ None
    → has_bad_query m ≡ false
    → has_bad_payload m ≡ false
    → refusal_of_request m ≡ None
unfolding refusal_of_request
none_refused m none good fine = rw none (rw good (rw fine refl))

-- where nothing is refused, the query options are not
pub good_request : (m : Message) → refusal_of_request m ≡ None → has_bad_query m ≡ false
unfolding refusal_of_request
good_request m none = by (refusal_of m) (has_bad_query m) refl none where
  by : (o : Option Refusal) (bad : Bool)
      → has_bad_query m ≡ bad
      → refusal_or_next o m ≡ None
      → has_bad_query m ≡ false
  by (Some refusal) bad e h = cc
  by None false e h = e
  by None true e h = let refused = rw e at h in cc

-- nothing is there
pub none_there : {A : Type 0} (o : Option A) → is_none o ≡ true → o ≡ None
none_there None e = refl
none_there (Some x) e = cc
