-- Listings and tags of histories, computed.
use Rattle.std.proofs.Common.{◌≡◌, [], ◌∷◌, ◌++◌, codes, refl}
use Rattle.rd_base.specs.declared.queries.Kind.TheVariants as kind
use Rattle.record_model.specs.Criteria.{lookup_values}
use Rattle.history_model.specs.declared.entries.Entry.{Entry}
use Rattle.history_model.specs.Listing.{all_lines, tag, tag_from}
use Rattle.history_model.proofs.HistoryLiterals.{history_on_literals}
use Rattle.history_model.proofs.Samples.{
  device,
  registers,
  removes,
  registers_two,
  resources,
  endpoints,
  by_lux,
  temp,
  lux,
}

-- one link by its type
by_type : resources by_lux (registers_two 1005 ∷ []) 1010 ≡ lux
unfolding history_on_literals
by_type = refl

tag_of_one : tag (registers_two 1005 ∷ []) 1010 ≡ 0 ∷ 0 ∷ 0 ∷ 0 ∷ 0 ∷ 1 ∷ 0 ∷ 0 ∷ []
unfolding history_on_literals
tag_of_one = refl

-- each link by the name of its endpoint
by_endpoint :
    resources (codes "ep=node1" ∷ []) (registers_two 1005 ∷ []) 1010 ≡ temp ++ codes "," ++ lux
unfolding history_on_literals
by_endpoint = refl

-- without any registration
of_none : resources by_lux [] 1010 ≡ []
unfolding history_on_literals
of_none = refl

tag_of_none : tag [] 1010 ≡ 0 ∷ 0 ∷ 0 ∷ 0 ∷ 0 ∷ 0 ∷ 0 ∷ 0 ∷ []
unfolding history_on_literals
tag_of_none = refl

-- a tag where entries were counted before
tag_from_many :
    tag_from 0x123456789AB (registers_two 1005 ∷ []) 1010
    ≡ 0x01 ∷ 0x23 ∷ 0x45 ∷ 0x67 ∷ 0x89 ∷ 0xAC ∷ 0 ∷ 0 ∷ []
unfolding history_on_literals
tag_from_many = refl

-- references against a base
abbrev referring : Entry
referring =
    registers 1000 device (codes "ep=n" ∷ codes "base=coap://h/c/d" ∷ [])
    (codes "</a/../b>,<x>;anchor=\"\",<http://e.org/./z>,<//k/y>")

resolved_links :
    resources [] (referring ∷ []) 1000
    ≡ codes
    "<coap://h/b>,<coap://h/c/x>;anchor=\"coap://h/c/d\",<http://e.org/./z>,<coap://k/y>"
unfolding history_on_literals
resolved_links = refl

-- a link of two types
abbrev typed_twice : Entry
typed_twice = registers 1000 device (codes "ep=node1" ∷ []) (codes "</s>;rt=\"b abc\"")

by_wildcard :
    resources (codes "rt=a*" ∷ codes "ep=node1" ∷ []) (typed_twice ∷ []) 1000
    ≡ codes "<coap://192.0.2.10/s>;rt=\"b abc\""
unfolding history_on_literals
by_wildcard = refl

by_part :
    resources (codes "rt=b" ∷ []) (typed_twice ∷ []) 1000
    ≡ codes "<coap://192.0.2.10/s>;rt=\"b abc\""
unfolding history_on_literals
by_part = refl

by_whole : resources (codes "rt=b abc" ∷ []) (typed_twice ∷ []) 1000 ≡ []
unfolding history_on_literals
by_whole = refl

-- two criteria of an endpoint may be met by two links, and those of a link may not
endpoint_by_two :
    endpoints (codes "rt=temperature" ∷ codes "if=sensor" ∷ []) (registers_two 1005 ∷ []) 1010
    ≡ codes "</rd/1>;base=\"coap://192.0.2.10\";ep=\"node1\";rt=\"core.rd-ep\""
unfolding history_on_literals
endpoint_by_two = refl

link_by_two :
    resources (codes "rt=temperature" ∷ codes "if=sensor" ∷ []) (registers_two 1005 ∷ []) 1010 ≡ []
unfolding history_on_literals
link_by_two = refl

-- three links
abbrev three_links : Entry
three_links = registers 1000 device (codes "ep=n" ∷ []) (codes "</a>,</b>,</c>")

second_page :
    resources (codes "count=2" ∷ codes "page=1" ∷ []) (three_links ∷ []) 1000
    ≡ codes "<coap://192.0.2.10/c>"
unfolding history_on_literals
second_page = refl

no_lines : resources (codes "count=0" ∷ []) (three_links ∷ []) 1000 ≡ []
unfolding history_on_literals
no_lines = refl

-- lines stand in ascending number, and in the order of each body
of_two_records : all_lines (lookup_values kind.Resource (codes "count=1" ∷ []))
    (three_links ∷ registers 1000 device (codes "ep=m" ∷ []) (codes "</d>") ∷ []) 1000
    ≡ (1, codes "<coap://192.0.2.10/a>")
    ∷ (1, codes "<coap://192.0.2.10/b>")
    ∷ (1, codes "<coap://192.0.2.10/c>")
    ∷ (2, codes "<coap://192.0.2.10/d>")
    ∷ []
unfolding history_on_literals
of_two_records = refl

-- a removal
of_removed : endpoints [] (three_links ∷ removes 2000 1 ∷ []) 2000 ≡ []
unfolding history_on_literals
of_removed = refl

tag_of_removed : tag (three_links ∷ removes 2000 1 ∷ []) 2000 ≡ 0 ∷ 0 ∷ 0 ∷ 0 ∷ 0 ∷ 2 ∷ 0 ∷ 0 ∷ []
unfolding history_on_literals
tag_of_removed = refl
