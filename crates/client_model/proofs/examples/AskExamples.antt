-- Asks of a few URIs, computed.
use Rattle.std.proofs.Common.{◌≡◌, refl, [], ◌∷◌, Some, None, Ok, Err, codes}
use Rattle.std.specs.Str.{is_utf8, chars}
use lib.Utf8.{encode}
use Rattle.percent_encoding.proofs.OnLiterals.{percent_encoding_on_literals}
use Rattle.rd_base.specs.declared.peers.Host.TheVariants as host
use Rattle.rd_base.specs.declared.peers.Peer.{Peer}
use Rattle.message_model.proofs.OnLiterals.{messages_on_literals}
use Rattle.reference_model.proofs.OnLiterals.{reference_on_literals}
use Rattle.client_model.specs.declared.asks.AskBad.TheVariants as bad
use Rattle.client_model.specs.Asks.{segments_of, query_parts, peer_at, registration, removal}
use Rattle.client_model.proofs.OnLiterals.{asks_on_literals}

directory : Peer
directory = record { host = host.V4 (192 ∷ 0 ∷ 2 ∷ 1 ∷ []); port = 5683 }

-- an empty path and a lone slash have no segments, and a final slash is followed by an empty one
no_path : segments_of [] ≡ []
no_path = refl

lone_slash : segments_of (codes "/") ≡ []
lone_slash = refl

final_slash : segments_of (codes "/rd/") ≡ codes "rd" ∷ [] ∷ []
final_slash = refl

two_slashes : segments_of (codes "//") ≡ [] ∷ [] ∷ []
two_slashes = refl

-- a lone question mark is followed by one empty part
no_query : query_parts None ≡ []
no_query = refl

empty_query : query_parts (Some []) ≡ [] ∷ []
empty_query = refl

two_parts : query_parts (Some (codes "ep=n&lt=60")) ≡ codes "ep=n" ∷ codes "lt=60" ∷ []
two_parts = refl

-- a port that is absent or empty is that of CoAP
no_port : peer_at (codes "192.0.2.1") ≡ Some directory
unfolding asks_on_literals reference_on_literals directory
no_port = refl

empty_port : peer_at (codes "192.0.2.1:") ≡ Some directory
unfolding asks_on_literals reference_on_literals directory
empty_port = refl

-- neither a leading zero nor user information
leading_zero : peer_at (codes "192.0.2.1:05683") ≡ None
unfolding asks_on_literals reference_on_literals
leading_zero = refl

userinfo : peer_at (codes "me@192.0.2.1") ≡ None
unfolding asks_on_literals reference_on_literals
userinfo = refl

-- an IPv6 address in brackets
far : peer_at (codes "[2001:db8::1]")
    ≡ Some (record {
      host = host.V6 (0x2001 ∷ 0xdb8 ∷ 0 ∷ 0 ∷ 0 ∷ 0 ∷ 0 ∷ 1 ∷ []);
      port = 5683;
    })
unfolding asks_on_literals reference_on_literals
far = refl

-- a registration, each part decoded after it was cut off
registered :
    registration (codes "coap://192.0.2.1/r%20d/x?a=b%26c") (codes "</a>")
    ≡ Ok (record {
      to = directory;
      code = 2;
      options =
          (11, codes "r d")
          ∷ (11, codes "x")
          ∷ (12, 40 ∷ [])
          ∷ (15, codes "a=b&c")
          ∷ [];
      payload = codes "</a>";
    })
unfolding asks_on_literals reference_on_literals messages_on_literals percent_encoding_on_literals
    directory is_utf8 chars encode
registered = refl

-- the first reason why there is none
relative : registration (codes "/rd") [] ≡ Err bad.Uri
unfolding asks_on_literals reference_on_literals
relative = refl

fragment : registration (codes "coap://192.0.2.1/rd#a") [] ≡ Err bad.Uri
unfolding asks_on_literals reference_on_literals
fragment = refl

other_scheme : registration (codes "http://192.0.2.1/") [] ≡ Err bad.Scheme
unfolding asks_on_literals reference_on_literals
other_scheme = refl

no_address : registration (codes "coap://host/rd") [] ≡ Err bad.Host
unfolding asks_on_literals reference_on_literals
no_address = refl

no_text : registration (codes "coap://192.0.2.1/%ff") [] ≡ Err bad.Part
unfolding asks_on_literals reference_on_literals percent_encoding_on_literals is_utf8 chars encode
no_text = refl

-- the removal of what stands at a location
removed :
    removal (record { to = directory; path = codes "rd" ∷ codes "1" ∷ [] })
    ≡ Ok (record {
      to = directory;
      code = 4;
      options = (11, codes "rd") ∷ (11, codes "1") ∷ [];
      payload = [];
    })
unfolding asks_on_literals messages_on_literals directory
removed = refl
