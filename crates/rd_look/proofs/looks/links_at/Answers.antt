use Rattle.std.proofs.Common.{
  ◌≡◌,
  ℕ,
  true,
  List,
  Option,
  Some,
  IfOk,
  option_and_then,
  ◌⊎◌,
  inl,
  inr,
  sym,
  ap,
  subst,
  ◌∙◌,
}
use Rattle.rd_base.specs.declared.queries.Query.{Query}
use Rattle.message_model.specs.Request.{path_in}
use Rattle.coap_message.specs.Views.{message_in}
use Rattle.history_model.specs.Listing.{listing}
use Rattle.journal_model.specs.Sought.{Sought, body, has_tag, sought_in}
use Rattle.journal_model.proofs.notes.LookupNotes.{lookup_seeks}
use Rattle.rd_request.specs.declared.accepted.Request.{Request}
use Rattle.rd_request.specs.declared.resources.Resource.TheVariants as resource
use Rattle.rd_request.specs.Accepted.{message_of}
use Rattle.rd_request.proofs.ResourceLaws.{
  core_path,
  lookup_path,
  location_path,
  registration_path,
  simple_path,
}
use Rattle.rd_look.proofs.LookLaws.{
  seeks_source,
  no_tag_at_core,
  no_tag_at_rd,
  no_tag_at_simple,
  lookup_seeks_links,
}
use Rattle.rd_look.proofs.looks.links_at.Goals as goal

pub returns-in-Location : goal.returns-in-Location
returns-in-Location c history stands =
    let m = message_in c.args.request.now.meaning.view in
    let number = c.in-Location.number in
    subst (λ (o : Option Sought).
    IfOk c.source.result
    (λ found. found ≡ option_and_then (λ sought. body sought history c.args.now.0) o))
    (sym (seeks_source m number (location_path c.args.request.now number c.in-Location.is)
    c.requires.seeks))
    (c.source.ensures 0 history stands)

pub query_of-requires : goal.query_of-requires
query_of-requires c = record {
  seeks = lookup_seeks_links (path_in (message_of c.args.request.now))
      (lookup_path c.args.request.now c.in-Lookup.field-0 c.in-Lookup.is);
}

pub returns-in_ok-octets-in-Lookup : goal.returns-in_ok-octets-in-Lookup
returns-in_ok-octets-in-Lookup c history stands =
    let m = message_in c.args.request.now.meaning.view in
    let at = c.args.now.0 in
    ap (λ (octets : List ℕ). Some octets)
    (c.in_ok-octets-in-Lookup.ensures history stands
    ∙ ap (λ (query : Query). listing query history at) c.in_ok-query-in-Lookup.ensures)
    ∙ sym (ap (λ (o : Option Sought). option_and_then (λ sought. body sought history at) o)
    (lookup_seeks m (lookup_path c.args.request.now c.in-Lookup.field-0 c.in-Lookup.is)))

-- under a tag stands nothing of these
untagged : (request : Request)
    → has_tag (sought_in (message_of request)) ≡ true
    → (request.resource ≡ resource.Core)
    ⊎ ((request.resource ≡ resource.SimpleRegistration)
    ⊎ (request.resource ≡ resource.Registration))
    → ⊥
untagged request tagged (inl core) =
    no_tag_at_core (message_of request) tagged (core_path request core)
untagged request tagged (inr (inl simple)) =
    no_tag_at_simple (message_of request) tagged (simple_path request simple)
untagged request tagged (inr (inr made)) =
    no_tag_at_rd (message_of request) tagged (registration_path request made)

pub unreachable-requires : goal.unreachable-requires
unreachable-requires c = untagged c.args.request.now c.requires.seeks c.in-Core.is
