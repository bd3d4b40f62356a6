-- What a table of fetches answers, computed at the edges: who may start, what is due when, and what
-- a response says.
use Rattle.std.proofs.Common.{
  ◌≡◌,
  ℕ,
  ◌+◌,
  true,
  false,
  List,
  [],
  ◌∷◌,
  ◌++◌,
  map,
  codes,
  Option,
  Some,
  None,
  refl,
}
use Rattle.std.specs.List.{range_with_len}
use Rattle.rd_base.specs.declared.peers.Host.TheVariants as host
use Rattle.rd_base.specs.declared.peers.Peer.{Peer}
use Rattle.rd_base.specs.declared.parameters.RegParams.{RegParams}
use Rattle.message_model.specs.declared.messages.Kind4.TheVariants.{Con, Ack}
use Rattle.message_model.specs.Message.{Message, Opt}
use Rattle.message_model.proofs.OnLiterals.{messages_on_literals}
use Rattle.event_model.specs.declared.notes.Note.{Note}
use Rattle.event_model.specs.declared.notes.Note.TheVariants as note
use Rattle.event_model.specs.Events.{Event}
use Rattle.event_model.specs.Fetches.{Request}
use Rattle.event_model.proofs.OnLiterals.{events_on_literals}
use Rattle.exchange_core.specs.declared.resends.Again.TheVariants as again
use Rattle.simple_registration.specs.declared.hearing.Heard.{Heard}
use Rattle.simple_registration.specs.declared.hearing.Heard.TheVariants as heard
use Rattle.simple_registration.specs.declared.starts.StartFault.TheVariants as fault
use Rattle.simple_registration.specs.Responses.{request_after}
use Rattle.simple_registration.specs.FetchEvents.{
  start_refusal,
  belongs_after,
  heard_after,
  fetch_due,
}

-- a device by the last octet of its address
abbrev device : ℕ → Peer
device n = record { host = host.V4 (192 ∷ 0 ∷ 2 ∷ n ∷ []); port = 5683 }

abbrev params : RegParams
params = record {
  name = record { ep = codes "s1"; sector = None };
  lt = 600;
  base = None;
  attrs = [];
}

-- an event at a moment, in a row with the word 0
abbrev at : ℕ → Note → Event
at moment n = record { place = 0; moment = moment; word = 0; note = n }

-- a fetch of a device asks for a block, under the Message ID 7
abbrev asks : ℕ → ℕ → ℕ → Event
asks moment n number = at moment (note.Asked (device n) (1 ∷ []) 7 params number)

-- ---- who may start

-- as many fetches of other devices
abbrev others : ℕ → List Event
others n = map (λ k. asks 0 (k + 100) 0) (range_with_len 0 n)

idle : start_refusal (device 10) [] ≡ None
unfolding messages_on_literals events_on_literals
idle = refl

runs : start_refusal (device 10) (asks 0 10 0 ∷ []) ≡ Some (fault.Fetching (device 10))
unfolding messages_on_literals events_on_literals
runs = refl

other_port :
    start_refusal (record { host = host.V4 (192 ∷ 0 ∷ 2 ∷ 10 ∷ []); port = 5684 })
    (asks 0 10 0 ∷ [])
    ≡ None
unfolding messages_on_literals events_on_literals
other_port = refl

ended : start_refusal (device 10) (at 1 (note.Ceased (device 10)) ∷ asks 0 10 0 ∷ []) ≡ None
unfolding messages_on_literals events_on_literals
ended = refl

room_for_one : start_refusal (device 10) (others 63) ≡ None
unfolding messages_on_literals events_on_literals
room_for_one = refl

full : start_refusal (device 10) (others 64) ≡ Some fault.FullFetches
unfolding messages_on_literals events_on_literals
full = refl

-- ---- what is due

-- a fetch that asked at 1,000, and the retransmissions of its request
abbrev first : Event
first = asks 1_000 10 0

abbrev resent : List Event
resent =
    at 31_000 (note.Resent (device 10))
    ∷ at 15_000 (note.Resent (device 10))
    ∷ at 7_000 (note.Resent (device 10))
    ∷ at 3_000 (note.Resent (device 10))
    ∷ []

before_first : fetch_due 2_999 (device 10) first (first ∷ []) ≡ again.Wait
unfolding messages_on_literals events_on_literals fetch_due
before_first = refl

at_first : fetch_due 3_000 (device 10) first (first ∷ []) ≡ again.Send
unfolding messages_on_literals events_on_literals fetch_due
at_first = refl

before_last : fetch_due 62_999 (device 10) first (resent ++ first ∷ []) ≡ again.Wait
unfolding messages_on_literals events_on_literals fetch_due
before_last = refl

at_last : fetch_due 63_000 (device 10) first (resent ++ first ∷ []) ≡ again.GaveUp
unfolding messages_on_literals events_on_literals fetch_due
at_last = refl

-- acknowledged after a retransmission: the wait counts from the first sending
abbrev awaited : List Event
awaited = at 3_500 (note.Waiting (device 10)) ∷ at 3_000 (note.Resent (device 10)) ∷ first ∷ []

awaited_before : fetch_due 93_999 (device 10) first awaited ≡ again.Wait
unfolding messages_on_literals events_on_literals fetch_due
awaited_before = refl

awaited_at : fetch_due 94_000 (device 10) first awaited ≡ again.GaveUp
unfolding messages_on_literals events_on_literals fetch_due
awaited_at = refl

-- ---- what a response says

-- the request of that fetch
abbrev request : Request
request = record { token = 1 ∷ []; mid = 7; params = params; number = 0 }

-- a response under a token, with a value of Block2 and an entity tag
abbrev response : List ℕ → List Opt → List ℕ → List ℕ → Message
response token tags block payload = record {
  kind = Con;
  code = 69;
  mid = 9;
  token = token;
  options = tags ++ (12, 40 ∷ []) ∷ (23, block) ∷ [];
  payload = payload;
}

sixteen : List ℕ
sixteen = codes "</a>;rt=\"0123456"

belongs_to : belongs_after (device 10) (response (1 ∷ []) [] [] []) (first ∷ []) ≡ true
unfolding messages_on_literals events_on_literals
belongs_to = refl

other_token : belongs_after (device 10) (response (2 ∷ []) [] [] []) (first ∷ []) ≡ false
unfolding messages_on_literals events_on_literals
other_token = refl

other_device : belongs_after (device 20) (response (1 ∷ []) [] [] []) (first ∷ []) ≡ false
unfolding messages_on_literals events_on_literals
other_device = refl

-- the first block, and more follow
next : heard_after 8 (device 10) (response (1 ∷ []) ((4, 170 ∷ []) ∷ []) (8 ∷ []) sixteen) request
    (first ∷ [])
    ≡ heard.Next (record {
      peer = device 10;
      bytes = request_after 8 (1 ∷ [])
          (record { num = 0; more = true; szx = 0 });
    })
unfolding messages_on_literals events_on_literals sixteen
next = refl

-- after it, under its tag
abbrev second : List Event
second =
    asks 1_200 10 1
    ∷ at 1_200 (note.Gathered (device 10) (codes "0123456789abcdef") (Some (170 ∷ [])))
    ∷ first
    ∷ []

whole :
    heard_after 8 (device 10) (response (1 ∷ []) ((4, 170 ∷ []) ∷ []) (16 ∷ []) (codes "x")) request
    second
    ≡ heard.Whole params (codes "0123456789abcdefx")
unfolding messages_on_literals events_on_literals
whole = refl

other_tag :
    heard_after 8 (device 10) (response (1 ∷ []) ((4, 187 ∷ []) ∷ []) (16 ∷ []) (codes "x")) request
    second
    ≡ heard.Ended
unfolding messages_on_literals events_on_literals
other_tag = refl

no_tag :
    heard_after 8 (device 10) (response (1 ∷ []) [] (16 ∷ []) (codes "x")) request second
    ≡ heard.Ended
unfolding messages_on_literals events_on_literals
no_tag = refl

gap :
    heard_after 8 (device 10) (response (1 ∷ []) ((4, 170 ∷ []) ∷ []) (32 ∷ []) (codes "x")) request
    second
    ≡ heard.Passed
unfolding messages_on_literals events_on_literals
gap = refl

repeated :
    heard_after 8 (device 10) (response (1 ∷ []) ((4, 170 ∷ []) ∷ []) (8 ∷ []) sixteen) request
    second
    ≡ heard.Passed
unfolding messages_on_literals events_on_literals sixteen
repeated = refl

reserved :
    heard_after 8 (device 10) (response (1 ∷ []) ((4, 170 ∷ []) ∷ []) (23 ∷ []) (codes "x")) request
    second
    ≡ heard.Ended
unfolding messages_on_literals events_on_literals
reserved = refl

short :
    heard_after 8 (device 10) (response (1 ∷ []) ((4, 170 ∷ []) ∷ []) (24 ∷ []) (codes "x")) request
    second
    ≡ heard.Ended
unfolding messages_on_literals events_on_literals
short = refl
