use Rattle.std.proofs.Common.{◌≡◌, true, Some, ◌⊎◌, inl, inr, sym, ap, ◌∙◌}
use Rattle.std.proofs.lemmas.Result.{IfOk-weaker}
use Rattle.rd_base.specs.declared.queries.Query.{Query}
use Rattle.message_model.specs.Request.{path_in}
use Rattle.coap_message.specs.Views.{message_in}
use Rattle.history_model.specs.Listing.{listing, tag}
use Rattle.history_model.specs.Sources.{source}
use Rattle.record_model.specs.Discovery.{discovery}
use Rattle.journal_model.specs.Requests.{only_looks}
use Rattle.journal_model.specs.Looks.{Look, found_under, found_or_not, look}
use Rattle.rd_request.specs.declared.accepted.Request.{Request}
use Rattle.rd_request.specs.declared.resources.Resource.TheVariants as resource
use Rattle.rd_request.specs.Accepted.{message_of}
use Rattle.rd_request.specs.Asking.{seeks_links}
use Rattle.rd_request.proofs.ResourceLaws.{
  core_path,
  lookup_path,
  location_path,
  registration_path,
  simple_path,
}
use Rattle.rd_look.specs.declared.looks.Found.{Found}
use Rattle.rd_look.specs.Looking.{look_found}
use Rattle.rd_look.proofs.LookLaws.{
  discovered,
  looked_up,
  read_at,
  no_look_at_rd,
  no_look_at_simple,
  lookup_seeks_links,
}
use Rattle.rd_look.proofs.looks.find.Goals as goal

pub query_of-requires : goal.query_of-requires
query_of-requires c = record {
  seeks = ap seeks_links (core_path c.args.request.now c.in-Core.is);
}

pub query_of-requires-in-Lookup : goal.query_of-requires-in-Lookup
query_of-requires-in-Lookup c = record {
  seeks = lookup_seeks_links (path_in (message_of c.args.request.now))
      (lookup_path c.args.request.now c.in-Lookup.field-0 c.in-Lookup.is);
}

pub returns-in_ok-octets-in-Core : goal.returns-in_ok-octets-in-Core
returns-in_ok-octets-in-Core c history stands =
    discovered history c.args.now.0 (message_in c.args.request.now.meaning.view)
    c.in_ok-octets-in-Core.octets (core_path c.args.request.now c.in-Core.is)
    (c.in_ok-octets-in-Core.ensures ∙ ap discovery c.in_ok-query-in-Core.ensures)

pub returns-in_ok-query-in-Lookup : goal.returns-in_ok-query-in-Lookup
returns-in_ok-query-in-Lookup c history stands =
    let m = message_in c.args.request.now.meaning.view in
    let at = c.args.now.0 in
    let sought =
    looked_up history at m (lookup_path c.args.request.now c.in-Lookup.field-0 c.in-Lookup.is) in
    IfOk-weaker c.find_listing.result (λ (f : Found).
    found_under (Some (tag history at)) m (listing c.in_ok-query-in-Lookup.query history at)
    ≡ look_found m f) (λ (f : Found). look history at m ≡ Some (look_found m f))
    (λ f e. sought
    ∙ ap (λ (given : Look). Some given)
    (ap (λ (query : Query). found_under (Some (tag history at)) m (listing query history at))
    (sym c.in_ok-query-in-Lookup.ensures)
    ∙ e))
    (c.find_listing.ensures history stands)

pub returns-in-Location : goal.returns-in-Location
returns-in-Location c history stands =
    let m = message_in c.args.request.now.meaning.view in
    let at = c.args.now.0 in
    let number = c.in-Location.number in
    let sought =
    read_at history at m number c.requires.looks
    (location_path c.args.request.now number c.in-Location.is) in
    IfOk-weaker c.find_source.result (λ (f : Found).
    found_or_not (Some (tag history at)) m (source number history at) ≡ look_found m f)
    (λ (f : Found). look history at m ≡ Some (look_found m f))
    (λ f e. sought ∙ ap (λ (given : Look). Some given) e)
    (c.find_source.ensures history stands)

-- what makes a registration is no look
written : (request : Request)
    → only_looks (message_of request) ≡ true
    → (request.resource ≡ resource.SimpleRegistration)
    ⊎ (request.resource ≡ resource.Registration)
    → ⊥
written request looks (inl simple) =
    no_look_at_simple (message_of request) looks (simple_path request simple)
written request looks (inr made) =
    no_look_at_rd (message_of request) looks (registration_path request made)

pub unreachable-requires : goal.unreachable-requires
unreachable-requires c =
    written c.args.request.now c.requires.looks c.in-SimpleRegistration.is
