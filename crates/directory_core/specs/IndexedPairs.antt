-- The attributes of links.
use Rattle.std.specs.Prelude.{List}
use Rattle.std.specs.List.{flat_map}
use Rattle.rd_base.specs.declared.attributes.Pair.{Pair}
use Rattle.rd_base.specs.declared.records.Item.{Item}

-- Returns the attributes of links, one link after another.
abbrev pub item_pairs : List Item → List Pair
item_pairs items = flat_map (λ item. item.pairs) items
