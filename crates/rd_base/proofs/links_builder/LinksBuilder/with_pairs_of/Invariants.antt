-- The attributes that were taken and those that are left are all.
use Rattle.std.proofs.Common.{◌≡◌, ◌++◌, length}
use Rattle.rd_base.proofs.links_builder.LinksBuilder.with_pairs_of.Given as goal

abbrev pub invariant-pairs : goal.invariant-pairs
invariant-pairs l = record {
  links : l.builder.links ≡ l.fn.self.links;
  raw : l.builder.raw ≡ l.fn.self.raw ++ l.link.raw;
  pairs : l.builder.pairs ++ l.left ≡ l.fn.self.pairs ++ l.link.pairs;
}

abbrev pub decreases-pairs : goal.decreases-pairs
decreases-pairs l = length l.left
