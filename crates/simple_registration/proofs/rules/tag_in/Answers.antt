use Rattle.coap_message.specs.OptionsAt.{options_at}
use Rattle.simple_registration.proofs.RuleLaws.{tag_short}
use Rattle.simple_registration.proofs.rules.tag_in.Goals as goal

pub returns-clause-short : goal.returns-clause-short
returns-clause-short c =
    tag_short (options_at 0 c.args.meaning.now.view.options.now) c.first_etag.result
    c.first_etag.ensures
