use Rattle.std.proofs.Common.{◌≡◌, ◌++◌, true, length}
use Rattle.install_list.specs.Lists.{path_of, are_texts}
use Rattle.install_list.proofs.lines.path_read.Given as goal

-- the segments so far, followed by those of the remaining options, are the path
abbrev pub invariant-options : goal.invariant-options
invariant-options l = record {
  front : path_of l.options ≡ l.path ++ path_of l.left;
  texts : are_texts l.path ≡ true;
}

abbrev pub decreases-options : goal.decreases-options
decreases-options l = length l.left
