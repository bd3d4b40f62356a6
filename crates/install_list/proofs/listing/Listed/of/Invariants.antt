use Rattle.std.proofs.Common.{◌≡◌, ◌++◌, length}
use Rattle.std.specs.List.{All}
use Rattle.install_list.specs.Lists.{CanEntry}
use Rattle.install_list.specs.Endings.{numbered}
use Rattle.install_list.proofs.listing.Listed.of.Given as goal

-- the numbers so far, followed by those of the remaining entries, are the numbers of all entries
abbrev pub invariant-entries : goal.invariant-entries
invariant-entries l = record {
  sent : All CanEntry l.left;
  numbers : numbered l.fn.entries ≡ l.listed.numbers.items ++ numbered l.left;
}

abbrev pub decreases-entries : goal.decreases-entries
decreases-entries l = length l.left
