-- What lookups ask for, by the query options of requests that nothing refuses.
use Rattle.std.proofs.Common.{
  ◌≡◌,
  ℕ,
  true,
  false,
  List,
  Option,
  Some,
  None,
  option_and_then,
  is_some,
  refl,
  ap,
  ◌∙◌,
}
use Rattle.rd_base.specs.declared.queries.Kind.{Kind}
use Rattle.message_model.specs.declared.requests.Path.{Path}
use Rattle.message_model.specs.declared.requests.Path.TheVariants as path
use Rattle.message_model.specs.Message.{Message}
use Rattle.message_model.specs.Request.{path_in, queries_in}
use Rattle.record_model.specs.declared.readings.Reading.TheVariants as reading
use Rattle.record_model.specs.Faults.{Fault}
use Rattle.record_model.specs.Criteria.{lookup_fault, lookup_values, fault_of}
use Rattle.journal_model.specs.Requests.{reading_of, has_bad_query, kind_of, query_of}
use Rattle.rd_request.specs.Asking.{seeks_links}

-- no fault is found
no_fault : (fault : Option Fault) → is_some fault ≡ false → fault ≡ None
no_fault None e = refl
no_fault (Some fault) e = cc

-- where query options are not refused, and the path is that of a discovery or of a lookup, they
-- have no fault of a lookup
good_at : (p : Path) (m : Message)
    → seeks_links p ≡ true
    → is_some (option_and_then (λ as_what. fault_of as_what (queries_in m)) (reading_of p m.code))
    ≡ false
    → lookup_fault (queries_in m) ≡ None
unfolding fault_of
good_at path.Core m seeks good = no_fault (lookup_fault (queries_in m)) good
good_at path.SimpleRd m seeks good = cc
good_at path.Rd m seeks good = cc
good_at (path.Location number) m seeks good = cc
good_at path.Res m seeks good = no_fault (lookup_fault (queries_in m)) good
good_at path.Ep m seeks good = no_fault (lookup_fault (queries_in m)) good
good_at path.Other m seeks good = cc

good_query : (m : Message)
    → seeks_links (path_in m) ≡ true
    → has_bad_query m ≡ false
    → lookup_fault (queries_in m) ≡ None
good_query m seeks good = good_at (path_in m) m seeks good

-- so they are read as those of a lookup without a fault
pub no_fault_said : (m : Message) (left : List (List ℕ))
    → left ≡ queries_in m
    → seeks_links (path_in m) ≡ true
    → has_bad_query m ≡ false
    → fault_of reading.Lookup left ≡ None
unfolding fault_of
no_fault_said m left all seeks good = ap lookup_fault all ∙ good_query m seeks good

-- and they say what the request asks for
pub query_said : (m : Message) (kind : Kind) (left : List (List ℕ))
    → kind ≡ kind_of (path_in m)
    → left ≡ queries_in m
    → lookup_values kind left ≡ query_of m
query_said m kind left by all =
    ap (λ (k : Kind). lookup_values k left) by
    ∙ ap (lookup_values (kind_of (path_in m))) all
