-- The key says what the parts of its request are.
use Rattle.coap_options.proofs.KeysApart.{key_says}
use Rattle.coap_options.proofs.keys.request_key.Goals as goal

pub returns-clause-once : goal.returns-clause-once
returns-clause-once c =
    λ m other means.
    key_says c.args.meaning.now c.spelled_key.result c.spelled_key.ensures m other means
