-- The request that a job stores.
use Rattle.std.specs.Prelude.{
  ◌≡◌,
  ◌≤◌,
  ℕ,
  Bool,
  true,
  List,
  length,
  take,
  drop,
  Option,
  is_none,
}
use Rattle.std.specs.Option.{ForSome}
use Rattle.message_model.specs.declared.blocks.Block.{Block}
use Rattle.message_model.specs.declared.messages.Kind4.{Kind4}
use Rattle.message_model.specs.declared.requests.Path.{Path}
use Rattle.message_model.specs.Blocks.{IsBlock}
use Rattle.message_model.specs.Message.{Message}
use Rattle.message_model.specs.Request as request
use Rattle.coap_message.specs.OptionsAt.{options_at}
use Rattle.journal_model.specs.Requests as requests_of
use Rattle.rd_request.specs.declared.resources.Resource.{Resource}
use Rattle.rd_request.specs.Resources.{is_at}

-- Returns the message with this header and token, whose encoded options are the first `options`
-- octets, and whose payload is the rest.
abbrev pub kept_message : Kind4 → ℕ → ℕ → List ℕ → List ℕ → ℕ → Message
kept_message kind code mid token octets options = record {
  kind = kind;
  code = code;
  mid = mid;
  token = token;
  options = options_at 0 (take options octets);
  payload = drop options octets;
}

-- A request that is not refused by its content alone, with what was read of it. That is the meaning
-- of its options, its resource, and the blocks that it names (RFC 7252 section 5.10).
pub record IsReadAs (m : Message) (path : Path) (observe accept format : Option ℕ)
    (block1 block2 : Option (List ℕ)) (proxy : Bool) (echo : Option (List ℕ)) (resource : Resource)
    (asked sent : Option Block) : Type 0 where
  pub accepted : is_none (requests_of.refusal_of_request m) ≡ true
  pub path_said : path ≡ request.path_in m
  pub observe_said : observe ≡ request.observe_in m
  pub accept_said : accept ≡ request.accept_in m
  pub format_said : format ≡ request.format_in m
  pub block1_said : block1 ≡ request.block1_in m
  pub block2_said : block2 ≡ request.block2_in m
  pub proxy_said : proxy ≡ request.has_proxy m
  pub echo_said : echo ≡ request.echo_in m
  pub block1_short : ForSome block1 (λ v. length v ≤ 3)
  pub block2_short : ForSome block2 (λ v. length v ≤ 3)
  pub echo_short : ForSome echo (λ v. length v ≤ 40)
  pub here : is_at resource path ≡ true
  pub asked_said : asked ≡ requests_of.asked_block m
  pub sent_said : sent ≡ requests_of.sent_block m
  pub asked_sound : ForSome asked IsBlock
  pub sent_sound : ForSome sent IsBlock
