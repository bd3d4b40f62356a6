-- Verdicts of a few events, computed.
use Rattle.std.proofs.Common.{◌≡◌, refl, List, ℕ, [], ◌∷◌, Some, None}
use Rattle.std.specs.Str.{is_utf8, chars}
use lib.Utf8.{encode}
use Rattle.rd_base.specs.declared.peers.Host.TheVariants as host
use Rattle.rd_base.specs.declared.peers.Peer.{Peer}
use Rattle.message_model.proofs.OnLiterals.{messages_on_literals}
use Rattle.client_model.specs.declared.asks.Purpose.{Purpose}
use Rattle.client_model.specs.declared.asks.Purpose.TheVariants as purpose
use Rattle.client_model.specs.declared.events.Event.{Event}
use Rattle.client_model.specs.declared.events.Event.TheVariants as event
use Rattle.client_model.specs.declared.outcomes.Outcome.TheVariants as outcome
use Rattle.client_model.specs.Requests.{Asked}
use Rattle.client_model.specs.Verdicts.{sent_again, verdict}
use Rattle.client_model.specs.Sending.{sent_for}
use Rattle.client_model.proofs.OnLiterals.{verdicts_on_literals}

directory : Peer
directory = record { host = host.V4 (192 ∷ 0 ∷ 2 ∷ 1 ∷ []); port = 5683 }

-- the same address at another port
stranger : Peer
stranger = record { host = host.V4 (192 ∷ 0 ∷ 2 ∷ 1 ∷ []); port = 5684 }

-- a request with Message ID 0 and a token that ends with 1, made at 0 with the word 0
asked_for : Purpose → Asked
asked_for for = record {
  request = record {
    to = directory;
    purpose = for;
    mid = 0;
    token = 0 ∷ 0 ∷ 0 ∷ 0 ∷ 0 ∷ 0 ∷ 0 ∷ 1 ∷ [];
  };
  at = 0;
  word = 0;
}

tick : ℕ → Event
tick now = event.Tick (record { 0 = now })

came : ℕ → Peer → List ℕ → Event
came now peer octets = event.Came (record { 0 = now }) peer octets

-- the octets after the token of an answer with the path rd, 1
rd_1 : List ℕ
rd_1 = 0x82 ∷ 0x72 ∷ 0x64 ∷ 0x01 ∷ 0x31 ∷ []

-- seven octets of a token, and then these
token : List ℕ → List ℕ
token rest = 0 ∷ 0 ∷ 0 ∷ 0 ∷ 0 ∷ 0 ∷ 0 ∷ rest

-- without any answer a request is retransmitted at 2000, 6000, 14000 and 30000
at_deadlines :
    sent_again
    (asked_for purpose.Register)
    (tick 61999
    ∷ tick 30000
    ∷ tick 29999
    ∷ tick 14000
    ∷ tick 13999
    ∷ tick 6000
    ∷ tick 5999
    ∷ tick 2000
    ∷ tick 1999
    ∷ [])
    ≡ 30000 ∷ 14000 ∷ 6000 ∷ 2000 ∷ []
unfolding verdicts_on_literals asked_for tick
at_deadlines = refl

-- each time the same octets go to the directory
sends :
    sent_for (asked_for purpose.Register) (64 ∷ []) (tick 1999 ∷ []) (tick 2000)
    ≡ (directory, 64 ∷ []) ∷ []
unfolding verdicts_on_literals asked_for tick directory
sends = refl

-- before a deadline nothing goes
sends_nothing : sent_for (asked_for purpose.Register) (64 ∷ []) [] (tick 1999) ≡ []
unfolding verdicts_on_literals asked_for tick
sends_nothing = refl

-- nothing is decided at 61999
not_yet :
    verdict
    (asked_for purpose.Register)
    (tick 61999 ∷ tick 30000 ∷ tick 14000 ∷ tick 6000 ∷ tick 2000 ∷ [])
    ≡ None
unfolding verdicts_on_literals asked_for tick
not_yet = refl

-- it is given up at 62000
given_up :
    verdict
    (asked_for purpose.Register)
    (tick 62000 ∷ tick 30000 ∷ tick 14000 ∷ tick 6000 ∷ tick 2000 ∷ [])
    ≡ Some outcome.GaveUp
unfolding verdicts_on_literals asked_for tick
given_up = refl

-- a late tick sends once, and its wait counts from there
late :
    sent_again (asked_for purpose.Register) (tick 103999 ∷ tick 100000 ∷ []) ≡ 100000 ∷ []
unfolding verdicts_on_literals asked_for tick
late = refl

-- an acknowledgement ends retransmission: nothing is decided at 92999, and it is silent at 93000
quiet :
    verdict (asked_for purpose.Register)
    (tick 92999 ∷ tick 62000 ∷ came 5 directory (0x60 ∷ 0 ∷ 0 ∷ 0 ∷ []) ∷ [])
    ≡ None
unfolding messages_on_literals verdicts_on_literals asked_for tick came directory
quiet = refl

silent :
    verdict (asked_for purpose.Register)
    (tick 93000 ∷ came 5 directory (0x60 ∷ 0 ∷ 0 ∷ 0 ∷ []) ∷ [])
    ≡ Some outcome.Silent
unfolding messages_on_literals verdicts_on_literals asked_for tick came directory
silent = refl

-- a Reset
reset :
    verdict (asked_for purpose.Register) (came 5 directory (0x70 ∷ 0 ∷ 0 ∷ 0 ∷ []) ∷ [])
    ≡ Some outcome.Reset
unfolding messages_on_literals verdicts_on_literals asked_for came directory
reset = refl

-- one of another message
other_reset :
    verdict (asked_for purpose.Register) (came 5 directory (0x70 ∷ 0 ∷ 0 ∷ 1 ∷ []) ∷ [])
    ≡ None
unfolding messages_on_literals verdicts_on_literals asked_for came directory
other_reset = refl

-- an answer 2.01 with its token and the path rd, 1
located :
    verdict (asked_for purpose.Register)
    (came 5 directory (0x68 ∷ 0x41 ∷ 0 ∷ 0 ∷ token (1 ∷ rd_1)) ∷ [])
    ≡ Some (outcome.Located
    (record { to = directory; path = (0x72 ∷ 0x64 ∷ []) ∷ (0x31 ∷ []) ∷ [] }))
unfolding messages_on_literals verdicts_on_literals asked_for came directory token rd_1 is_utf8
    chars encode
located = refl

-- with another token it decides nothing
other_token :
    verdict (asked_for purpose.Register)
    (came 5 directory (0x68 ∷ 0x41 ∷ 0 ∷ 0 ∷ token (2 ∷ rd_1)) ∷ [])
    ≡ None
unfolding messages_on_literals verdicts_on_literals asked_for came directory token rd_1
other_token = refl

-- nor does an acknowledgement with another Message ID
other_mid :
    verdict (asked_for purpose.Register)
    (came 5 directory (0x68 ∷ 0x41 ∷ 0 ∷ 1 ∷ token (1 ∷ rd_1)) ∷ [])
    ≡ None
unfolding messages_on_literals verdicts_on_literals asked_for came directory token rd_1
other_mid = refl

-- nor does the answer of another peer
of_a_stranger :
    verdict (asked_for purpose.Register)
    (came 5 stranger (0x68 ∷ 0x41 ∷ 0 ∷ 0 ∷ token (1 ∷ rd_1)) ∷ [])
    ≡ None
unfolding messages_on_literals verdicts_on_literals asked_for came directory stranger token rd_1
of_a_stranger = refl

-- a confirmable answer may have any Message ID, and is acknowledged
confirmed :
    sent_for (asked_for purpose.Remove) (64 ∷ []) []
    (came 5 directory (0x48 ∷ 0x42 ∷ 1 ∷ 2 ∷ token (1 ∷ [])))
    ≡ (directory, 0x60 ∷ 0 ∷ 1 ∷ 2 ∷ []) ∷ []
unfolding messages_on_literals verdicts_on_literals asked_for came directory token
confirmed = refl

removed :
    verdict (asked_for purpose.Remove)
    (came 5 directory (0x48 ∷ 0x42 ∷ 1 ∷ 2 ∷ token (1 ∷ [])) ∷ [])
    ≡ Some outcome.Done
unfolding messages_on_literals verdicts_on_literals asked_for came directory token
removed = refl

-- 2.02 is no answer that a refresh wants, and 2.01 without a path is none that a registration wants
refused :
    verdict (asked_for purpose.Refresh)
    (came 5 directory (0x68 ∷ 0x42 ∷ 0 ∷ 0 ∷ token (1 ∷ [])) ∷ [])
    ≡ Some (outcome.Refused 0x42)
unfolding messages_on_literals verdicts_on_literals asked_for came directory token
refused = refl

nowhere :
    verdict (asked_for purpose.Register)
    (came 5 directory (0x68 ∷ 0x41 ∷ 0 ∷ 0 ∷ token (1 ∷ [])) ∷ [])
    ≡ Some (outcome.Refused 0x41)
unfolding messages_on_literals verdicts_on_literals asked_for came directory token
nowhere = refl

-- what comes after the first event that decides changes nothing
first_decides :
    verdict (asked_for purpose.Register)
    (came 6 directory (0x70 ∷ 0 ∷ 0 ∷ 0 ∷ [])
    ∷ came 5 directory (0x68 ∷ 0x84 ∷ 0 ∷ 0 ∷ token (1 ∷ []))
    ∷ [])
    ≡ Some (outcome.Refused 0x84)
unfolding messages_on_literals verdicts_on_literals asked_for came directory token
first_decides = refl
