use Rattle.std.proofs.Common.{◌≡◌, ◌++◌}
use Rattle.std.specs.Prelude.{flat_map}
use Rattle.message_model.specs.RequestKey as keys
use Rattle.message_model.specs.Request as request
use Rattle.coap_message.specs.Views.{message_in}
use Rattle.coap_options.specs.ValuesLeft.{queries_left}
use Rattle.coap_options.proofs.keys.spelled_key.Given as goal

-- the octets that are written and those of the queries that are left are the key
abbrev pub invariant-queries : goal.invariant-queries
invariant-queries l =
    (goal.iterator-queries).can_next l.query-iterator
    × (goal.iterator-queries).is_finite l.query-iterator
    × (l.octets.items ++ flat_map keys.query_bytes (queries_left l.query-iterator)
    ≡ keys.key_of l.meaning.view.code l.meaning.path
    (request.queries_in (message_in l.meaning.view)))
