-- Links that are resolved against a base (RFC 9176 section 5), and what a change did to them.
use Rattle.std.specs.Prelude.{◌≡◌, ⊤, ℕ, List, map}
use Rattle.rd_base.specs.declared.records.Item.{Item}
use Rattle.record_model.specs.Records.{rebased}
use Rattle.directory_core.specs.declared.links_after.LinksAfter.{LinksAfter}
use Rattle.directory_core.specs.declared.links_after.LinksAfter.TheVariants as after

-- States that the links do not change if each is resolved against this base again.
abbrev pub AreAgainst : List ℕ → List Item → Type 0
AreAgainst base items = map (rebased base) items ≡ items

-- States what a change did to the old links: if they were kept, the new ones are the same.
abbrev pub AreAfter : LinksAfter → List Item → List Item → Type 0
AreAfter after.Kept old new = new ≡ old
AreAfter after.Replaced old new = ⊤
