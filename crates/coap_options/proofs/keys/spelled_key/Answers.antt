use Rattle.std.proofs.Common.{ap, ◌∙◌}
use Rattle.coap_message.specs.OptionsLeft.{options_left}
use Rattle.coap_message.specs.Views.{message_in}
use Rattle.message_model.specs.Request.{queries_in}
use Rattle.coap_options.specs.ValuesLeft.{queries_left}
use Rattle.coap_options.proofs.KeyLemmas.{key_begun, query_short}
use Rattle.coap_options.proofs.keys.spelled_key.Goals as goal

pub queries-init : goal.queries-init
queries-init c = (
  tt,
  tt,
  key_begun c.new-octets.result.items c.push.new.self.items c.push_path.new.octets.items
      c.args.meaning.now.view.code c.args.meaning.now.path
      (queries_in (message_in c.args.meaning.now.view))
      (queries_left c.into_iter-query-iterator.result) c.new-octets.ensures.items
      c.in_ok-push.ensures.items c.in_ok-push_path.ensures
      (ap queries_left c.into_iter-query-iterator.ensures.into_iter_gives
      ∙ c.queries-query-items.ensures),
)

pub push_query-requires : goal.push_query-requires
push_query-requires c =
    query_short (options_left c.queries.query-iterator.options) c.in-Some.query.now
    (queries_left c.next.new.self) c.in-Some.ensures.steps
