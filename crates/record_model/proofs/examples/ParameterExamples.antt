-- Parameters and criteria, computed.
use Rattle.std.proofs.Common.{◌≡◌, [], ◌∷◌, ◌++◌, codes, replicate, Some, None, Ok, refl}
use Rattle.rd_base.specs.declared.queries.Kind.TheVariants as kind
use Rattle.record_model.specs.declared.readings.Reading.TheVariants as reading
use Rattle.record_model.specs.declared.readings.Why.TheVariants as why
use Rattle.record_model.specs.Parameters.{registration_parameters, update_parameters}
use Rattle.record_model.specs.Criteria.{lookup_query, fault_of}
use Rattle.record_model.proofs.RecordLiterals.{record_on_literals}

-- an update names no endpoint
update_of_ep : fault_of reading.Update (codes "ep=x" ∷ []) ≡ Some (0, why.NotHere)
unfolding record_on_literals
update_of_ep = refl

-- and no sector
update_of_sector : fault_of reading.Update (codes "lt=1" ∷ codes "d=x" ∷ []) ≡ Some (1, why.NotHere)
unfolding record_on_literals
update_of_sector = refl

-- a simple registration gives no base
simple_base : fault_of reading.Simple (codes "ep=a" ∷ codes "base=x" ∷ []) ≡ Some (1, why.NotHere)
unfolding record_on_literals
simple_base = refl

-- a lifetime is not 0
lifetime_0 : fault_of reading.Register (codes "lt=0" ∷ []) ≡ Some (0, why.Lt)
unfolding record_on_literals
lifetime_0 = refl

-- a lifetime has at most ten digits
lifetime_long : fault_of reading.Register (codes "lt=00000000001" ∷ []) ≡ Some (0, why.Lt)
unfolding record_on_literals
lifetime_long = refl

-- and 32 bits
lifetime_great : fault_of reading.Register (codes "lt=4294967296" ∷ []) ≡ Some (0, why.Lt)
unfolding record_on_literals
lifetime_great = refl

-- zeros may lead it
lifetime_zeros : fault_of reading.Register (codes "ep=a" ∷ codes "lt=0000000001" ∷ []) ≡ None
unfolding record_on_literals
lifetime_zeros = refl

-- U+0085 in two octets is a control character
control_85 :
    fault_of reading.Register ((codes "ep=" ++ 0xC2 ∷ 0x85 ∷ []) ∷ []) ≡ Some (0, why.Control)
unfolding record_on_literals
control_85 = refl

-- and it comes before the length
control_before_length :
    fault_of reading.Register ((codes "ep=" ++ (replicate 64 97 ++ 1 ∷ [])) ∷ [])
    ≡ Some (0, why.Control)
unfolding record_on_literals
control_before_length = refl

-- octets that are no UTF-8 come before all
utf8_first : fault_of reading.Update ((codes "ep=" ++ 1 ∷ 0xFF ∷ []) ∷ []) ≡ Some (0, why.Utf8)
unfolding record_on_literals
utf8_first = refl

-- a control character comes before a name that does not belong
control_before_place :
    fault_of reading.Update ((codes "ep=" ++ 1 ∷ []) ∷ []) ≡ Some (0, why.Control)
unfolding record_on_literals
control_before_place = refl

-- a link-local base
link_local :
    fault_of reading.Register (codes "base=coap://[fe80::1]" ∷ codes "ep=a" ∷ [])
    ≡ Some (0, why.LinkLocal)
unfolding record_on_literals
link_local = refl

-- one group is enough
link_local_alone :
    fault_of reading.Register (codes "base=coap://[fe80]" ∷ codes "ep=a" ∷ [])
    ≡ Some (0, why.LinkLocal)
unfolding record_on_literals
link_local_alone = refl

-- in either case
link_local_upper :
    fault_of reading.Register (codes "base=coap://[FEBf::1]:5" ∷ codes "ep=a" ∷ [])
    ≡ Some (0, why.LinkLocal)
unfolding record_on_literals
link_local_upper = refl

-- a full stop is no digit
link_local_dot : fault_of reading.Register (codes "base=coap://[fe80.1]" ∷ codes "ep=a" ∷ []) ≡ None
unfolding record_on_literals
link_local_dot = refl

-- nor inside the group
link_local_dot_inside :
    fault_of reading.Register (codes "base=coap://[fe8.::1]" ∷ codes "ep=a" ∷ []) ≡ None
unfolding record_on_literals
link_local_dot_inside = refl

-- three digits are not four
link_local_three :
    fault_of reading.Register (codes "base=coap://[fe8::1]" ∷ codes "ep=a" ∷ []) ≡ None
unfolding record_on_literals
link_local_three = refl

-- another prefix
site_local : fault_of reading.Register (codes "base=coap://[fec0::1]" ∷ codes "ep=a" ∷ []) ≡ None
unfolding record_on_literals
site_local = refl

-- a base with a query comes first
base_before_link_local :
    fault_of reading.Register (codes "base=coap://[fe80::1]/?q" ∷ codes "ep=a" ∷ [])
    ≡ Some (0, why.Base)
unfolding record_on_literals
base_before_link_local = refl

-- a base has a host
base_without_host :
    fault_of reading.Register (codes "base=coap:///x" ∷ codes "ep=a" ∷ []) ≡ Some (0, why.Base)
unfolding record_on_literals
base_without_host = refl

-- and a scheme
base_without_scheme :
    fault_of reading.Register (codes "base=//h/x" ∷ codes "ep=a" ∷ []) ≡ Some (0, why.Base)
unfolding record_on_literals
base_without_scheme = refl

-- an empty base
base_empty : fault_of reading.Register (codes "base" ∷ codes "ep=a" ∷ []) ≡ Some (0, why.Base)
unfolding record_on_literals
base_empty = refl

-- an endpoint is named
no_ep : fault_of reading.Register (codes "lt=5" ∷ codes "x=y" ∷ []) ≡ Some (2, why.NoEp)
unfolding record_on_literals
no_ep = refl

-- also where nothing is given
no_parameter : fault_of reading.Simple ([]) ≡ Some (0, why.NoEp)
unfolding record_on_literals
no_parameter = refl

-- an update may give nothing
update_of_nothing : fault_of reading.Update ([]) ≡ None
unfolding record_on_literals
update_of_nothing = refl

-- its name is not empty
ep_empty : fault_of reading.Register (codes "ep=" ∷ []) ≡ Some (0, why.Empty)
unfolding record_on_literals
ep_empty = refl

-- it has at most 63 octets
ep_long : fault_of reading.Register ((codes "ep=" ++ replicate 64 97) ∷ []) ≡ Some (0, why.TooLong)
unfolding record_on_literals
ep_long = refl

-- and may have 63
ep_63 : fault_of reading.Register ((codes "ep=" ++ replicate 63 97) ∷ []) ≡ None
unfolding record_on_literals
ep_63 = refl

-- a parameter stands once, and this comes before the rules of its value
repeated :
    fault_of reading.Register (codes "ep=a" ∷ codes "lt=5" ∷ codes "lt=0" ∷ [])
    ≡ Some (2, why.Repeated)
unfolding record_on_literals
repeated = refl

-- an attribute may repeat
extra_repeated : fault_of reading.Register (codes "ep=a" ∷ codes "x=1" ∷ codes "x=2" ∷ []) ≡ None
unfolding record_on_literals
extra_repeated = refl

-- some names mean something else
extra_kept : fault_of reading.Register (codes "ep=a" ∷ codes "count=2" ∷ []) ≡ Some (1, why.Name)
unfolding record_on_literals
extra_kept = refl

-- a name is not empty
extra_empty : fault_of reading.Register (codes "ep=a" ∷ codes "=2" ∷ []) ≡ Some (1, why.Name)
unfolding record_on_literals
extra_empty = refl

-- and has only some characters
extra_space : fault_of reading.Register (codes "ep=a" ∷ codes "a b=2" ∷ []) ≡ Some (1, why.Name)
unfolding record_on_literals
extra_space = refl

-- the parameters of a registration
registration :
    registration_parameters reading.Register (codes "et=a=b"
    ∷ codes "ep=n"
    ∷ codes "obs"
    ∷ codes "lt=060"
    ∷ codes "d=s"
    ∷ codes "base=coap://h"
    ∷ [])
    ≡ Ok (record {
      name = record { ep = codes "n"; sector = Some (codes "s") };
      lt = 60;
      base = Some
          (codes "coap://h");
      attrs = record { name = codes "et"; value = codes "a=b" }
          ∷ record { name = codes "obs"; value = [] }
          ∷ [];
    })
unfolding record_on_literals
registration = refl

-- the lifetime where none is given
registration_default :
    registration_parameters reading.Simple (codes "ep=n" ∷ [])
    ≡ Ok (record {
      name = record { ep = codes "n"; sector = None };
      lt = 90_000;
      base = None;
      attrs =
          [];
    })
unfolding record_on_literals
registration_default = refl

-- the parameters of an update
update :
    update_parameters (codes "floor=4" ∷ codes "lt=60" ∷ [])
    ≡ Ok (record {
      lt = Some 60;
      base = None;
      attrs = record
          { name = codes "floor"; value = codes "4" }
          ∷ [];
    })
unfolding record_on_literals
update = refl

-- a page stands beside a count
page_alone : fault_of reading.Lookup (codes "page=1" ∷ []) ≡ Some (1, why.PageAlone)
unfolding record_on_literals
page_alone = refl

-- which is a number
page_number : fault_of reading.Lookup (codes "page=1" ∷ codes "count=" ∷ []) ≡ Some (1, why.Number)
unfolding record_on_literals
page_number = refl

-- and stands once
count_repeated :
    fault_of reading.Lookup (codes "count=1" ∷ codes "count=x" ∷ []) ≡ Some (1, why.Repeated)
unfolding record_on_literals
count_repeated = refl

-- a criterion has a name
criterion_empty : fault_of reading.Lookup (codes "=x" ∷ []) ≡ Some (0, why.Name)
unfolding record_on_literals
criterion_empty = refl

-- in UTF-8
criterion_utf8 : fault_of reading.Lookup ((codes "a=" ++ 0xFF ∷ []) ∷ []) ≡ Some (0, why.Utf8)
unfolding record_on_literals
criterion_utf8 = refl

-- control characters are not refused here
criterion_control : fault_of reading.Lookup ((codes "a=" ++ 1 ∷ []) ∷ []) ≡ None
unfolding record_on_literals
criterion_control = refl

-- zeros may lead a count
count_zeros :
    lookup_query kind.Resource (codes "count=01" ∷ [])
    ≡ Ok (record { kind = kind.Resource; criteria = []; page = None; count = Some 1 })
unfolding record_on_literals
count_zeros = refl

-- criteria in their order
criteria :
    lookup_query kind.Endpoint
    (codes "rt=a=b*" ∷ codes "page=2" ∷ codes "obs" ∷ codes "count=1" ∷ [])
    ≡ Ok (record {
      kind = kind.Endpoint;
      criteria = record
          { name = codes "rt"; pattern = codes "a=b*" }
          ∷ record { name = codes "obs"; pattern = [] }
          ∷ [];
      page = Some 2;
      count = Some 1;
    })
unfolding record_on_literals
criteria = refl
