use Rattle.std.proofs.Common.{◌≡◌, IfOk, refl, ap, subst, ◌∙◌}
use Rattle.coap_options.specs.ValuesLeft.{queries_left}
use Rattle.coap_message.specs.Views.{message_in}
use Rattle.rd_base.specs.declared.queries.Query.{Query}
use Rattle.journal_model.specs.Requests.{kind_of, refusal_of_request}
use Rattle.rd_request.proofs.QueryLaws.{no_fault_said, query_said}
use Rattle.rd_request.proofs.AskedLaws.{good_request, none_there}
use Rattle.rd_request.proofs.ResourceLaws.{kind_there}
use Rattle.rd_request.proofs.lookup_queries.query_of.Goals as goal

pub faultless_lookup_query-requires : goal.faultless_lookup_query-requires
faultless_lookup_query-requires c k =
    let m = message_in c.args.request.now.meaning.view in (
      (refl, tt),
      no_fault_said m (queries_left c.queries.result) c.queries.ensures c.requires.seeks
          (good_request m (none_there (refusal_of_request m) c.args.request.now.accepted)),
    )

pub returns : goal.returns
returns c =
    let m = message_in c.args.request.now.meaning.view in
    subst (λ (said : Query). IfOk c.faultless_lookup_query.result (λ query. query ≡ said))
    (query_said m c.kind_at.result (queries_left c.queries.result)
    (c.kind_at.ensures
    ∙ (kind_there c.args.request.now.resource c.args.request.now.meaning.path
    c.args.request.now.here
    ∙ ap kind_of c.args.request.now.meaning.path_said)) c.queries.ensures)
    c.faultless_lookup_query.ensures
