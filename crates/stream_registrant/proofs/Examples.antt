-- What is written and what ends a request, computed (RFC 8323 sections 3.2, 5.3 to 5.6).
use Rattle.std.specs.Prelude.{◌≡◌, ℕ, false, List, [], ◌∷◌, ◌++◌, Some, None, Ok, Err, codes, refl}
use Rattle.std.specs.Str.{is_utf8, chars}
use lib.Utf8.{encode}
use Rattle.rd_base.specs.declared.peers.Host.TheVariants as host
use Rattle.rd_base.specs.declared.peers.Peer.{Peer}
use Rattle.message_model.proofs.Notation.{hex}
use Rattle.message_model.proofs.OnLiterals.{messages_on_literals}
use Rattle.stream_model.specs.Judging.{extension_size}
use Rattle.stream_model.specs.Messages as stream_messages
use Rattle.stream_reader.specs.Shown.{shown_in}
use Rattle.client_model.specs.declared.asks.Purpose.TheVariants as purpose
use Rattle.client_model.specs.declared.outcomes.Outcome.TheVariants as outcome
use Rattle.client_model.specs.Asks.{registering}
use Rattle.client_model.specs.Requests.{Request}
use Rattle.stream_registrant.specs.declared.answers.Unanswered.TheVariants as unanswered
use Rattle.stream_registrant.specs.Answers.{verdict}
use Rattle.stream_registrant.specs.Saying.{abort, opening, request_octets, said_of}

directory : Peer
directory = record { host = host.V4 (192 ∷ 0 ∷ 2 ∷ 1 ∷ []); port = 5683 }

token : List ℕ
token = hex (codes "0102030405060708")

asked_for : Request
asked_for = record { to = directory; purpose = purpose.Register; mid = 0; token = token }

-- ---- what is written

opened : opening false ≡ hex (codes "00e1")
unfolding messages_on_literals stream_messages.lengths_spelling stream_messages.nibble_of
    stream_messages.extension_of
opened = refl

aborted : abort ≡ hex (codes "00e5")
unfolding messages_on_literals stream_messages.lengths_spelling stream_messages.nibble_of
    stream_messages.extension_of
aborted = refl

-- A registration of </t> as n at the path rd.
registers :
    request_octets
    (registering directory (codes "rd" ∷ []) (codes "ep=n" ∷ []) (codes "</t>")) token
    ≡ hex (codes "d802020102030405060708b272641128") ++ hex (codes "3465703d6eff3c2f743e")
unfolding messages_on_literals stream_messages.lengths_spelling stream_messages.nibble_of
    stream_messages.extension_of token directory
registers = refl

-- A Ping is answered by a Pong with its token, and a CSM by nothing.
ponged : said_of (hex (codes "01e27f") ∷ hex (codes "00e1") ∷ []) ≡ hex (codes "01e37f")
unfolding messages_on_literals stream_messages.lengths_spelling stream_messages.nibble_of
    stream_messages.extension_of shown_in extension_size said_of
ponged = refl

-- ---- what ends a request

-- The answer with the token has the path of the location: rd, 1.
located :
    verdict asked_for
    (hex (codes "584101020304050607088272640131") ∷ hex (codes "00e1") ∷ [])
    ≡ Some (Ok (record {
      outcome = outcome.Located (record {
        to = directory;
        path = codes "rd" ∷ codes "1" ∷ [];
      });
      echo = None;
    }))
unfolding messages_on_literals shown_in extension_size verdict asked_for token directory is_utf8
    chars encode
located = refl

-- An answer with another token ends nothing.
other_token :
    verdict asked_for
    (hex (codes "584101020304050607098272640131") ∷ hex (codes "00e1") ∷ [])
    ≡ None
unfolding messages_on_literals shown_in extension_size verdict asked_for token directory
other_token = refl

-- The first that ends it decides: here a Release before the answer.
released :
    verdict asked_for
    (hex (codes "584101020304050607088272640131") ∷ hex (codes "00e4") ∷ hex (codes "00e1") ∷ [])
    ≡ Some (Err unanswered.Released)
unfolding messages_on_literals shown_in extension_size verdict asked_for token directory
released = refl

-- A challenge has the value of its Echo: aa, bb.
challenged :
    verdict asked_for (hex (codes "48810102030405060708d2efaabb") ∷ hex (codes "00e1") ∷ [])
    ≡ Some (Ok (record {
      outcome = outcome.Refused 0x81;
      echo = Some (hex (codes "aabb"));
    }))
unfolding messages_on_literals shown_in extension_size verdict asked_for token directory
challenged = refl

-- A signal is no answer, whatever its token.
pong_is_none : verdict asked_for (hex (codes "08e30102030405060708") ∷ []) ≡ None
unfolding messages_on_literals shown_in extension_size verdict asked_for token directory
pong_is_none = refl
