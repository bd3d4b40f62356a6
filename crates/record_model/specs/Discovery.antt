-- The links of the directory itself (RFC 9176 section 4.1, RFC 6690 section 4).
use Rattle.std.specs.Prelude.{ℕ, Bool, List, [], map, filter, codes, unwrap_or}
use Rattle.std.specs.List.{list_all}
use Rattle.rd_base.specs.declared.queries.Query.{Query}
use Rattle.rd_base.specs.declared.records.Item.{Item}
use Rattle.rd_base.specs.declared.submitted_links.SubmittedLink.{SubmittedLink}
use Rattle.link_model.specs.Quoting.{submitted_links}
use Rattle.record_model.specs.Matching.{link_matches}
use Rattle.record_model.specs.ListingLines.{link_line, shown}

-- The document of the directory's own resources.
abbrev pub own_document : List ℕ
own_document =
    codes
    "</rd>;rt=\"core.rd\";ct=40,</rd-lookup/ep>;rt=\"core.rd-lookup-ep\";ct=40;obs,</rd-lookup/res>;rt=\"core.rd-lookup-res\";ct=40;obs"

-- Returns a link as it is printed, with its target and anchor unresolved.
abbrev pub as_printed : SubmittedLink → Item
as_printed link = record {
  target_ref = link.target_ref;
  anchor_ref = link.anchor_ref;
  target = link.target_ref;
  anchor = link.anchor_ref;
  raw = link.raw;
  pairs = link.pairs;
}

-- The links of that document.
unfoldable pub own_items : List Item
own_items = map as_printed (unwrap_or (submitted_links own_document) [])

-- Returns whether each criterion matches the link by itself.
unfoldable pub own_link_listed : Query → Item → Bool
own_link_listed query item = list_all (λ criterion. link_matches criterion item) query.criteria

-- Returns the answer to discovery: the links that all criteria match, cut by page and count.
unfoldable pub discovery : Query → List ℕ
discovery query = shown query (map link_line (filter (own_link_listed query) own_items))
