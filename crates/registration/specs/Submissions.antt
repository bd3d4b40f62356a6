-- Links as they were submitted (RFC 6690 section 2), taken from links against a base.
use Rattle.std.specs.Prelude.{◌≡◌, ℕ, false, List, map, Some}
use Rattle.rd_base.specs.declared.records.Item.{Item}
use Rattle.rd_base.specs.declared.records.Record.{Record}
use Rattle.rd_base.specs.declared.submitted_links.SubmittedLink.{SubmittedLink}
use Rattle.record_model.specs.Bodies.{linked_references}
use Rattle.record_model.specs.Records.{rebased}
use Rattle.record_model.specs.Refusals.{is_refused_as_limited}

-- Returns the link as it was submitted.
abbrev pub submitted_of : Item → SubmittedLink
submitted_of item = record {
  target_ref = item.target_ref;
  anchor_ref = item.anchor_ref;
  raw = item.raw;
  pairs = item.pairs;
}

-- Returns the links as they were submitted.
abbrev pub all_submitted : List Item → List SubmittedLink
all_submitted items = map submitted_of items

-- States that these are the links of a body that is not refused, against any base.
pub record AreOfBody (items : List Item) : Type 0 where
  pub body : List ℕ
  pub read : linked_references body ≡ Some (all_submitted items)
  pub limited : is_refused_as_limited body ≡ false

-- States that the links of a record are those of a body that is not refused, against its base.
pub record IsOfBody (r : Record) : Type 0 where
  pub against : map (rebased r.base) r.items ≡ r.items
  pub links : AreOfBody r.items
