-- The record that a registration makes, and what an update makes of it (RFC 9176 sections 5 and
-- 5.3.1).
use Rattle.std.specs.Prelude.{
  ℕ,
  Bool,
  not,
  List,
  ◌++◌,
  map,
  filter,
  is_some,
  option_map,
  unwrap_or,
  if◌then◌else◌,
  bytes_eq,
}
use Rattle.std.specs.List.{list_any}
use Rattle.rd_base.specs.declared.attributes.Pair.{Pair}
use Rattle.rd_base.specs.declared.moments.Moment.{Moment}
use Rattle.rd_base.specs.declared.parameters.RegParams.{RegParams}
use Rattle.rd_base.specs.declared.parameters.UpdateParams.{UpdateParams}
use Rattle.rd_base.specs.declared.peers.Peer.{Peer}
use Rattle.rd_base.specs.declared.records.Item.{Item}
use Rattle.rd_base.specs.declared.records.Record.{Record}
use Rattle.rd_base.specs.declared.submitted_links.SubmittedLink.{SubmittedLink}
use Rattle.record_model.specs.Bodies.{is_uri}
use Rattle.reference_model.specs.Resolution.{resolved}
use Rattle.record_model.specs.Bases.{registered_base, updated_base, updated_base_given}

-- Returns a target or an anchor against a base: unchanged if it has a scheme, and otherwise
-- resolved (RFC 3986 section 5.2).
unfoldable pub based : List ℕ → List ℕ → List ℕ
based base text = if is_uri text then text else resolved base text

-- Returns a submitted link as an item of a record with this base.
unfoldable pub item_of : List ℕ → SubmittedLink → Item
item_of base link = record {
  target_ref = link.target_ref;
  anchor_ref = link.anchor_ref;
  target = based base link.target_ref;
  anchor = option_map (based base) link.anchor_ref;
  raw = link.raw;
  pairs = link.pairs;
}

-- Returns the items of a record with this base, in the order of the body.
abbrev pub items_of : List ℕ → List SubmittedLink → List Item
items_of base links = map (item_of base) links

-- Returns an item with its target and anchor against another base.
unfoldable pub rebased : List ℕ → Item → Item
rebased base item = record item {
  target = based base item.target_ref;
  anchor = option_map (based base) item.anchor_ref;
}

-- Returns whether the attribute is replaced: an update gives one with its name.
abbrev pub is_replaced : List Pair → Pair → Bool
is_replaced given pair = list_any (λ other. bytes_eq pair.name other.name) given

-- Returns the extra attributes after an update. Those with a name that the update gives are
-- removed, and its own are appended.
unfoldable pub updated_attributes : List Pair → List Pair → List Pair
updated_attributes given attrs = filter (λ pair. not (is_replaced given pair)) attrs ++ given

-- Returns the record of a registration with this number at this moment.
unfoldable pub registered : ℕ → Moment → Peer → RegParams → List SubmittedLink → Record
registered number now peer params links = record {
  number = number;
  name = params.name;
  lt = params.lt;
  granted = now;
  base = registered_base params.base peer;
  base_given = is_some params.base;
  attrs = params.attrs;
  items = items_of (registered_base params.base peer) links;
}

-- Returns the record after an update. Its lease starts anew, and its items are resolved against its
-- new base.
unfoldable pub updated : Moment → Peer → UpdateParams → Record → Record
updated now peer change r =
    let base = updated_base change.base r.base_given r.base peer in
    record r {
      lt = unwrap_or change.lt r.lt;
      granted = now;
      base = base;
      base_given = updated_base_given change.base r.base_given;
      attrs = updated_attributes change.attrs r.attrs;
      items = map (rebased base) r.items;
    }
