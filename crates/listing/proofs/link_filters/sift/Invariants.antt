use Rattle.std.proofs.Common.{◌≡◌, Some, length}
use Rattle.rd_base.specs.declared.records.Item.{Item}
use Rattle.rd_base.specs.declared.records.Record.{Record}
use Rattle.listing.specs.JudgedEndpoints.{AreJudged}
use Rattle.listing.specs.LinkFilters.{meets}
use Rattle.listing.proofs.link_filters.sift.Given as goal

abbrev pub invariant-criteria : goal.invariant-criteria
invariant-criteria l = record {
  judged : (r : Record) → AreJudged r l.judged l.criteria → AreJudged r l.left l.rest;
  listed : (r : Record)
      → AreJudged r l.judged l.criteria
      → (item : Item)
      → meets (Some r) l.rest item ≡ meets (Some r) l.criteria item;
}

abbrev pub decreases-criteria : goal.decreases-criteria
decreases-criteria l = length l.rest
