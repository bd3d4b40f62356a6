-- The directory's own links, as they are stored.
use Rattle.std.specs.Prelude.{ℕ, Bool, List, [], ◌∷◌, ◌++◌, codes, None, if◌then◌else◌}
use Rattle.rd_base.specs.declared.attributes.Pair.{Pair}
use Rattle.rd_base.specs.declared.records.Item.{Item}

-- Returns the attribute `obs` if the resource is observable (RFC 7641 section 6), or nothing.
abbrev pub observable_pairs : Bool → List Pair
observable_pairs observable =
    if observable then record { name = codes "obs"; value = [] } ∷ [] else []

-- Returns attributes as they were written, followed by `obs` if the resource is observable.
abbrev pub observed_text : Bool → List ℕ → List ℕ
observed_text observable raw = if observable then raw ++ codes ";obs" else raw

-- Returns a link of the directory itself. Its attributes are its type as it is written, the content
-- format of link documents, and `obs` if it can be observed.
abbrev pub own_item : List ℕ → List ℕ → List ℕ → Bool → Item
own_item target typed type observable = record {
  target_ref = target;
  anchor_ref = None;
  target = target;
  anchor = None;
  raw = observed_text observable (typed ++ codes ";ct=40");
  pairs =
      record { name = codes "rt"; value = type }
      ∷ record { name = codes "ct"; value = codes "40" }
      ∷ observable_pairs observable;
}
