-- Entries and lookups that the examples speak of.
use Rattle.std.proofs.Common.{ℕ, List, [], ◌∷◌, map, codes, unwrap_or}
use Rattle.rd_base.specs.declared.peers.Host.TheVariants as host
use Rattle.rd_base.specs.declared.peers.Peer.{Peer}
use Rattle.rd_base.specs.declared.queries.Kind.TheVariants as kind
use Rattle.record_model.specs.Bodies.{linked_references}
use Rattle.record_model.specs.Parameters.{registration_values, update_values}
use Rattle.record_model.specs.Criteria.{lookup_values}
use Rattle.history_model.specs.declared.entries.Change.TheVariants as change
use Rattle.history_model.specs.declared.entries.Entry.{Entry}
use Rattle.history_model.specs.Live.{live}
use Rattle.history_model.specs.Listing.{listing}

-- a device
abbrev pub device : Peer
device = record { host = host.V4 (192 ∷ 0 ∷ 2 ∷ 10 ∷ []); port = 5683 }

-- the device at another port
abbrev pub moved : Peer
moved = record { host = host.V4 (192 ∷ 0 ∷ 2 ∷ 10 ∷ []); port = 61616 }

-- a peer registers at a moment, with these query options and this body
abbrev pub registers : ℕ → Peer → List (List ℕ) → List ℕ → Entry
registers ms peer queries body = record {
  moment = record { 0 = ms };
  worker = 0;
  peer = peer;
  change = change.Register (registration_values queries) (unwrap_or (linked_references body) []);
}

-- a peer updates the registration of a number at a moment, with these query options
abbrev pub updates : ℕ → Peer → ℕ → List (List ℕ) → Entry
updates ms peer number queries = record {
  moment = record { 0 = ms };
  worker = 0;
  peer = peer;
  change = change.Update number (update_values queries);
}

-- a peer gives the registration of a number other links at a moment, those of this body
abbrev pub replaces : ℕ → Peer → ℕ → List ℕ → Entry
replaces ms peer number body = record {
  moment = record { 0 = ms };
  worker = 0;
  peer = peer;
  change = change.Replace number (unwrap_or (linked_references body) []);
}

-- the device removes the registration of a number at a moment
abbrev pub removes : ℕ → ℕ → Entry
removes ms number = record {
  moment = record { 0 = ms };
  worker = 0;
  peer = device;
  change = change.Remove number;
}

-- the query options of a registration for ten minutes
abbrev pub for_ten_minutes : List (List ℕ)
for_ten_minutes = codes "ep=node1" ∷ codes "lt=600" ∷ []

-- the body of a registration of two links
abbrev pub two_links : List ℕ
two_links = codes "</temp>;rt=\"temperature\";ct=0,</light>;rt=\"light-lux\";if=\"sensor\""

-- the device registers its two links for ten minutes
abbrev pub registers_two : ℕ → Entry
registers_two ms = registers ms device for_ten_minutes two_links

-- the listing of a resource lookup with these query options
abbrev pub resources : List (List ℕ) → List Entry → ℕ → List ℕ
resources queries history ms = listing (lookup_values kind.Resource queries) history ms

-- the listing of an endpoint lookup with these query options
abbrev pub endpoints : List (List ℕ) → List Entry → ℕ → List ℕ
endpoints queries history ms = listing (lookup_values kind.Endpoint queries) history ms

-- the query options of a lookup by one type
abbrev pub by_lux : List (List ℕ)
by_lux = codes "rt=light-lux" ∷ []

-- the lines of the two links
abbrev pub temp : List ℕ
temp = codes "<coap://192.0.2.10/temp>;rt=\"temperature\";ct=0"

abbrev pub lux : List ℕ
lux = codes "<coap://192.0.2.10/light>;rt=\"light-lux\";if=\"sensor\""

-- the numbers of the live records
abbrev pub live_numbers : List Entry → ℕ → List ℕ
live_numbers history ms = map (λ r. r.number) (live history ms)
