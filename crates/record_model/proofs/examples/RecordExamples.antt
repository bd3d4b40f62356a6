-- Records, their lines and their matches, computed.
use Rattle.std.proofs.Common.{◌≡◌, ℕ, true, false, List, [], ◌∷◌, ◌++◌, codes, refl, unwrap_or}
use Rattle.rd_base.specs.declared.moments.Moment.{Moment}
use Rattle.rd_base.specs.declared.peers.Host.TheVariants as host
use Rattle.rd_base.specs.declared.peers.Peer.{Peer}
use Rattle.rd_base.specs.declared.queries.Kind.{Kind}
use Rattle.rd_base.specs.declared.queries.Kind.TheVariants as kind
use Rattle.rd_base.specs.declared.records.Record.{Record}
use Rattle.record_model.specs.Bodies.{linked_references}
use Rattle.record_model.specs.Parameters.{registration_values, update_values}
use Rattle.record_model.specs.Criteria.{lookup_values}
use Rattle.rd_base.specs.Bases.{base_of}
use Rattle.record_model.specs.Matching.{matches_value, matches_named}
use Rattle.record_model.specs.ListingLines.{endpoint_line, part, weight, shown}
use Rattle.record_model.specs.Records.{registered, updated}
use Rattle.record_model.specs.Refusals.{is_refused_as_links, is_refused_as_limited}
use Rattle.record_model.specs.Discovery.{discovery}
use Rattle.record_model.proofs.RecordLiterals.{record_on_literals}

-- a device
abbrev device : Peer
device = record { host = host.V4 (192 ∷ 0 ∷ 2 ∷ 10 ∷ []); port = 5683 }

-- the device at another port
abbrev moved : Peer
moved = record { host = host.V4 (192 ∷ 0 ∷ 2 ∷ 10 ∷ []); port = 61616 }

-- a moment
abbrev at : ℕ → Moment
at ms = record { 0 = ms }

-- what the device registers with these parameters and this body
abbrev registered_by : List (List ℕ) → List ℕ → Record
registered_by queries body =
    registered 1 (at 1000) device (registration_values queries)
    (unwrap_or (linked_references body) [])

-- the listing that a record gives to a query
abbrev listed : Kind → List (List ℕ) → Record → List ℕ
listed k queries r = shown (lookup_values k queries) (part (lookup_values k queries) r)

-- a registration of two links
abbrev two_links : Record
two_links =
    registered_by (codes "ep=node1" ∷ codes "lt=600" ∷ [])
    (codes "</temp>;rt=\"temperature\";ct=0,</light>;rt=\"light-lux\";if=\"sensor\"")

-- the line of its second link
abbrev lux : List ℕ
lux = codes "<coap://192.0.2.10/light>;rt=\"light-lux\";if=\"sensor\""

-- and of its first
abbrev temp : List ℕ
temp = codes "<coap://192.0.2.10/temp>;rt=\"temperature\";ct=0"

-- what it weighs
weighed : weight two_links ≡ 160
unfolding record_on_literals
weighed = refl

-- its endpoint line
endpoint_of_two :
    endpoint_line two_links
    ≡ codes "</rd/1>;base=\"coap://192.0.2.10\";ep=\"node1\";rt=\"core.rd-ep\""
unfolding record_on_literals
endpoint_of_two = refl

-- one link by its type
by_type : listed kind.Resource (codes "rt=light-lux" ∷ []) two_links ≡ lux
unfolding record_on_literals
by_type = refl

-- each link by the name of its endpoint
by_endpoint : listed kind.Resource (codes "ep=node1" ∷ []) two_links ≡ temp ++ codes "," ++ lux
unfolding record_on_literals
by_endpoint = refl

-- each link by the location of its endpoint
by_location : listed kind.Resource (codes "href=/rd/1" ∷ []) two_links ≡ temp ++ codes "," ++ lux
unfolding record_on_literals
by_location = refl

-- no link has an anchor
by_anchor : listed kind.Resource (codes "anchor=*" ∷ []) two_links ≡ []
unfolding record_on_literals
by_anchor = refl

-- two criteria of an endpoint may be met by two links
endpoint_by_two :
    listed kind.Endpoint (codes "rt=temperature" ∷ codes "if=sensor" ∷ []) two_links
    ≡ endpoint_line two_links
unfolding record_on_literals
endpoint_by_two = refl

-- a sibling does not count for a link
link_by_two : listed kind.Resource (codes "rt=temperature" ∷ codes "if=sensor" ∷ []) two_links ≡ []
unfolding record_on_literals
link_by_two = refl

-- each link is one of an endpoint that has a type
any_type : listed kind.Resource (codes "rt=*" ∷ []) two_links ≡ temp ++ codes "," ++ lux
unfolding record_on_literals
any_type = refl

-- as here
endpoint_type_of_links :
    listed kind.Resource (codes "rt=core.rd-ep" ∷ []) two_links ≡ temp ++ codes "," ++ lux
unfolding record_on_literals
endpoint_type_of_links = refl

-- a registration with two types
abbrev parts : Record
parts = registered_by (codes "ep=node1" ∷ []) (codes "</s>;rt=\"b abc\"")

-- its line
abbrev line_of_parts : List ℕ
line_of_parts = codes "<coap://192.0.2.10/s>;rt=\"b abc\""

-- one part begins so
part_wildcard : listed kind.Resource (codes "rt=a*" ∷ codes "ep=node1" ∷ []) parts ≡ line_of_parts
unfolding record_on_literals
part_wildcard = refl

-- one part is equal
part_equal : listed kind.Resource (codes "rt=b" ∷ []) parts ≡ line_of_parts
unfolding record_on_literals
part_equal = refl

-- no part has a space
part_whole : listed kind.Resource (codes "rt=b abc" ∷ []) parts ≡ []
unfolding record_on_literals
part_whole = refl

-- a value without a part matches no pattern
no_part : matches_named (codes "rt") (codes "*") [] ≡ false
unfolding record_on_literals
no_part = refl

-- nor one of spaces
no_part_spaces : matches_named (codes "if") (codes "*") (codes "  ") ≡ false
unfolding record_on_literals
no_part_spaces = refl

-- an empty value of another name begins with nothing
empty_value : matches_named (codes "title") (codes "*") [] ≡ true
unfolding record_on_literals
empty_value = refl

-- a value of another name is not split
whole_value : matches_named (codes "title") (codes "b") (codes "b abc") ≡ false
unfolding record_on_literals
whole_value = refl

-- an asterisk inside is a character
inner_asterisk : matches_value (codes "a*b") (codes "axb") ≡ false
unfolding record_on_literals
inner_asterisk = refl

-- which matches itself
inner_asterisk_equal : matches_value (codes "a*b*") (codes "a*bc") ≡ true
unfolding record_on_literals
inner_asterisk_equal = refl

-- a registration of three links
abbrev three : Record
three = registered_by (codes "ep=n" ∷ []) (codes "</a>,</b>,</c>")

-- a second page
second_page :
    listed kind.Resource (codes "count=2" ∷ codes "page=1" ∷ []) three
    ≡ codes "<coap://192.0.2.10/c>"
unfolding record_on_literals
second_page = refl

-- a page of nothing
no_page : listed kind.Resource (codes "count=0" ∷ []) three ≡ []
unfolding record_on_literals
no_page = refl

-- without a page it is the first
first_page :
    listed kind.Resource (codes "count=2" ∷ []) three
    ≡ codes "<coap://192.0.2.10/a>,<coap://192.0.2.10/b>"
unfolding record_on_literals
first_page = refl

-- links that are resolved against a given base
abbrev references : Record
references =
    registered_by (codes "ep=n" ∷ codes "base=coap://h/c/d" ∷ [])
    (codes "</a/../b>,<x>;anchor=\"\",<http://e.org/./z>,<//k/y>")

-- a reference with a scheme keeps its dot segments
resolved_links :
    listed kind.Resource [] references
    ≡ codes
    "<coap://h/b>,<coap://h/c/x>;anchor=\"coap://h/c/d\",<http://e.org/./z>,<coap://k/y>"
unfolding record_on_literals
resolved_links = refl

-- the same without a base
abbrev without_base : Record
without_base = registered_by (codes "ep=n" ∷ []) (codes "</a/../b>,<x>;anchor=\"\"")

-- it is that of the peer
resolved_by_peer :
    listed kind.Resource (codes "ep=n" ∷ []) without_base
    ≡ codes "<coap://192.0.2.10/b>,<coap://192.0.2.10/x>;anchor=\"coap://192.0.2.10\""
unfolding record_on_literals
resolved_by_peer = refl

-- a criterion sees the resolved anchor
by_resolved_anchor :
    listed kind.Resource (codes "anchor=coap://192.0.2.10" ∷ []) without_base
    ≡ codes "<coap://192.0.2.10/x>;anchor=\"coap://192.0.2.10\""
unfolding record_on_literals
by_resolved_anchor = refl

-- and the resolved target
by_resolved_target :
    listed kind.Resource (codes "href=coap://192.0.2.10/b" ∷ []) without_base
    ≡ codes "<coap://192.0.2.10/b>"
unfolding record_on_literals
by_resolved_target = refl

-- a target without a scheme beside an anchor with one
limited : is_refused_as_limited (codes "<t>;anchor=\"coap://e/\"") ≡ true
unfolding record_on_literals
limited = refl

-- which is a document
limited_no_links : is_refused_as_links (codes "<t>;anchor=\"coap://e/\"") ≡ false
unfolding record_on_literals
limited_no_links = refl

-- this is none
no_document : is_refused_as_links (codes "<t>;") ≡ true
unfolding record_on_literals
no_document = refl

-- and comes before
links_first : is_refused_as_limited (codes "<t>;anchor=\"coap://e/\",<t>;") ≡ false
unfolding record_on_literals
links_first = refl

-- the empty text is a document
empty_document : is_refused_as_links [] ≡ false
unfolding record_on_literals
empty_document = refl

-- an update from another port
updated_port :
    part (lookup_values kind.Resource (codes "rt=light-lux" ∷ []))
    (updated (at 2000) moved (update_values []) two_links)
    ≡ codes "<coap://192.0.2.10:61616/light>;rt=\"light-lux\";if=\"sensor\"" ∷ []
unfolding record_on_literals
updated_port = refl

-- a registration with a base
abbrev sensor : Record
sensor =
    registered_by (codes "ep=node1" ∷ codes "base=coap://sensor.example" ∷ [])
    (codes "</temp>;rt=\"temperature\";ct=0,</light>;rt=\"light-lux\";if=\"sensor\"")

-- which an update keeps
updated_with_base :
    part (lookup_values kind.Resource (codes "rt=light-lux" ∷ []))
    (updated (at 2000) moved (update_values []) sensor)
    ≡ codes "<coap://sensor.example/light>;rt=\"light-lux\";if=\"sensor\"" ∷ []
unfolding record_on_literals
updated_with_base = refl

-- unless it gives one
updated_new_base :
    part (lookup_values kind.Resource (codes "rt=light-lux" ∷ []))
    (updated (at 2000) moved (update_values (codes "base=coap://other" ∷ [])) sensor)
    ≡ codes "<coap://other/light>;rt=\"light-lux\";if=\"sensor\"" ∷ []
unfolding record_on_literals
updated_new_base = refl

-- a registration with attributes
abbrev floor : Record
floor = registered_by (codes "ep=n" ∷ codes "floor=3" ∷ codes "wing=w" ∷ codes "floor=5" ∷ []) []

-- an update gives one of them anew, and a lifetime
abbrev floor_later : Record
floor_later = updated (at 2000) device (update_values (codes "floor=4" ∷ codes "lt=60" ∷ [])) floor

-- all of that name are dropped, and its own appended
updated_attributes_of_floor :
    floor_later.attrs
    ≡ record { name = codes "wing"; value = codes "w" }
    ∷ record { name = codes "floor"; value = codes "4" }
    ∷ []
unfolding record_on_literals
updated_attributes_of_floor = refl

-- its lifetime
updated_lifetime : floor_later.lt ≡ 60
unfolding record_on_literals
updated_lifetime = refl

-- its moment
updated_granted : floor_later.granted ≡ at 2000
unfolding record_on_literals
updated_granted = refl

-- a lifetime that is not given stays
kept_lifetime : (updated (at 2000) device (update_values []) two_links).lt ≡ 600
unfolding record_on_literals
kept_lifetime = refl

-- a record with a sector and attributes to be quoted
abbrev all_attributes : Record
all_attributes =
    registered 12 (at 0) moved
    (registration_values (codes "ep=a\"b" ∷ codes "d=s" ∷ codes "et=x\\y" ∷ codes "obs" ∷ []))
    []

-- its line
quoted_line :
    endpoint_line all_attributes
    ≡ codes
    "</rd/12>;base=\"coap://192.0.2.10:61616\";ep=\"a\\\"b\";d=\"s\";rt=\"core.rd-ep\";et=\"x\\\\y\";obs"
unfolding record_on_literals
quoted_line = refl

-- a record without links weighs its line and one
weighed_alone : weight floor ≡ 85
unfolding record_on_literals
weighed_alone = refl

-- the base of an IPv6 peer
base_ipv6 :
    base_of (record { host = host.V6 (0x2001 ∷ 0xdb8 ∷ 0 ∷ 0 ∷ 0 ∷ 0 ∷ 0 ∷ 1 ∷ []); port = 5683 })
    ≡ codes "coap://[2001:db8::1]"
unfolding record_on_literals
base_ipv6 = refl

-- and at another port
base_ipv6_port :
    base_of (record { host = host.V6 (0 ∷ 0 ∷ 0 ∷ 0 ∷ 0 ∷ 0 ∷ 0 ∷ 1 ∷ []); port = 5684 })
    ≡ codes "coap://[::1]:5684"
unfolding record_on_literals
base_ipv6_port = refl

-- without criteria
discovered_all :
    discovery (lookup_values kind.Discovery [])
    ≡ codes
    "</rd>;rt=\"core.rd\";ct=40,</rd-lookup/ep>;rt=\"core.rd-lookup-ep\";ct=40;obs,</rd-lookup/res>;rt=\"core.rd-lookup-res\";ct=40;obs"
unfolding record_on_literals
discovered_all = refl

-- each link matches
discovered_wildcard :
    discovery (lookup_values kind.Discovery (codes "rt=core.rd*" ∷ []))
    ≡ codes
    "</rd>;rt=\"core.rd\";ct=40,</rd-lookup/ep>;rt=\"core.rd-lookup-ep\";ct=40;obs,</rd-lookup/res>;rt=\"core.rd-lookup-res\";ct=40;obs"
unfolding record_on_literals
discovered_wildcard = refl

-- one matches
discovered_registration :
    discovery (lookup_values kind.Discovery (codes "rt=core.rd" ∷ []))
    ≡ codes "</rd>;rt=\"core.rd\";ct=40"
unfolding record_on_literals
discovered_registration = refl

-- two match
discovered_obs :
    discovery (lookup_values kind.Discovery (codes "obs" ∷ []))
    ≡ codes
    "</rd-lookup/ep>;rt=\"core.rd-lookup-ep\";ct=40;obs,</rd-lookup/res>;rt=\"core.rd-lookup-res\";ct=40;obs"
unfolding record_on_literals
discovered_obs = refl

-- by the target as it is printed
discovered_target :
    discovery (lookup_values kind.Discovery (codes "href=/rd" ∷ []))
    ≡ codes "</rd>;rt=\"core.rd\";ct=40"
unfolding record_on_literals
discovered_target = refl

-- cut by page and count
discovered_page :
    discovery (lookup_values kind.Discovery (codes "count=1" ∷ codes "page=2" ∷ []))
    ≡ codes "</rd-lookup/res>;rt=\"core.rd-lookup-res\";ct=40;obs"
unfolding record_on_literals
discovered_page = refl

-- none matches
discovered_none :
    discovery (lookup_values kind.Discovery (codes "rt=core.rd" ∷ codes "obs" ∷ [])) ≡ []
unfolding record_on_literals
discovered_none = refl
