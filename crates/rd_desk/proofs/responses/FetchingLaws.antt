-- What comes of a response to a fetch: which fetch it is to, the request for the next block, and
-- the parameters of a whole body.
use Rattle.std.proofs.Common.{
  ◌≡◌,
  ℕ,
  ◌&&◌,
  Bool,
  true,
  false,
  cond,
  List,
  ◌++◌,
  length,
  Option,
  Some,
  None,
  refl,
  ap₂,
  subst,
  ◌∙◌,
}
use Rattle.std.specs.Prelude.{is_none}
use Rattle.rd_base.specs.declared.parameters.RegParams.{RegParams}
use Rattle.rd_base.specs.declared.peers.Peer.{Peer}
use Rattle.message_model.specs.declared.blocks.Block.{Block}
use Rattle.message_model.specs.Message.{Message}
use Rattle.message_model.specs.OptionTable.{first_bad_option}
use Rattle.event_model.specs.Events.{Event}
use Rattle.event_model.specs.Fetches.{Request, last_request, gathered, collected}
use Rattle.journal_model.specs.declared.steps.Step.{Step}
use Rattle.journal_model.specs.Responses.{ends_fetch}
use Rattle.event_model.specs.Fetches.{request_of}
use Rattle.message_model.specs.Responses.{block_in, is_elsewhere}
use Rattle.journal_model.specs.Responses as responses
use Rattle.simple_registration.specs.declared.asks.Ask.{Ask}
use Rattle.simple_registration.specs.declared.hearing.Heard.TheVariants as heard
use Rattle.simple_registration.specs.Responses.{request_after, heard_part, heard_block, heard_by}
use Rattle.simple_registration.specs.FetchEvents.{belongs_after, heard_after}
use Rattle.rd_desk.proofs.responses.FetchStepLaws.{fetch_of-belongs}

-- one that belongs to the fetch of its peer, and has no unrecognized critical option, is to its
-- last request
pub answered-fetch_of : (s : Step) (m : Message) (past : List Event) (sender : Peer)
    → s.peer ≡ sender
    → belongs_after sender m past ≡ true
    → first_bad_option m.options ≡ None
    → responses.fetch_of s m past ≡ request_of (last_request sender past)
answered-fetch_of s m past sender of belongs good =
    subst (λ (p : Peer).
    belongs_after p m past ≡ true
    → responses.fetch_of s m past ≡ request_of (last_request p past)) of
    (λ h.
    fetch_of-belongs s m past
    ∙ ap₂
    (λ b (o : Option ℕ). cond (b && is_none o) (request_of (last_request s.peer past)) None)
    h good) belongs

-- the next request, where one is made
pub record Next (mid : ℕ) (peer : Peer) (m : Message) (request : Request) (ask : Ask) : Type 0 where
  pub block : Block
  pub is : block_in m ≡ Some block
  pub ask_is : ask ≡ record { peer = peer; bytes = request_after mid request.token block }

pub next_of : (mid : ℕ) (peer : Peer) (m : Message) (request : Request) (past : List Event)
    (ask : Ask)
    → heard.Next ask ≡ heard_after mid peer m request past
    → Next mid peer m request ask
next_of mid peer m request past ask said =
    by (is_elsewhere (block_in m) (length (collected peer past)))
    (ends_fetch m (gathered peer past) (length (collected peer past))) (block_in m) refl said
  where
    body : List ℕ
    body = collected peer past ++ m.payload

    part : (more : Bool) (b : Block)
        → block_in m ≡ Some b
        → heard.Next ask ≡ heard_part more b mid peer request.token request.params body
        → Next mid peer m request ask
    part true b is h = record {
      block = b;
      is = is;
      ask_is =
          (let same :
          ask ≡ record { peer = peer; bytes = request_after mid request.token b } = cc in same);
    }
    part false b is h = absurd cc

    by : (elsewhere ends : Bool) (o : Option Block)
        → block_in m ≡ o
        → heard.Next ask
        ≡ heard_by elsewhere ends (heard_block o mid peer request.token request.params body)
        → Next mid peer m request ask
    by true ends o is h = absurd cc
    by false true o is h = absurd cc
    by false false None is h = absurd cc
    by false false (Some b) is h = part b.more b is h

-- the parameters of a whole body are those of the request
pub whole_of : (mid : ℕ) (peer : Peer) (m : Message) (request : Request) (past : List Event)
    (params : RegParams) (octets : List ℕ)
    → heard.Whole params octets ≡ heard_after mid peer m request past
    → params ≡ request.params
whole_of mid peer m request past params octets said =
    by (is_elsewhere (block_in m) (length (collected peer past)))
    (ends_fetch m (gathered peer past) (length (collected peer past))) (block_in m) said
  where
    body : List ℕ
    body = collected peer past ++ m.payload

    part : (more : Bool) (b : Block)
        → heard.Whole params octets ≡ heard_part more b mid peer request.token request.params body
        → params ≡ request.params
    part true b h = absurd cc
    part false b h = cc

    by : (elsewhere ends : Bool) (o : Option Block)
        → heard.Whole params octets
        ≡ heard_by elsewhere ends (heard_block o mid peer request.token request.params body)
        → params ≡ request.params
    by true ends o h = absurd cc
    by false true o h = absurd cc
    by false false None h = cc
    by false false (Some b) h = part b.more b h
