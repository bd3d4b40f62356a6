use Rattle.std.proofs.Common.{◌≡◌, ◌≤◌, length}
use Rattle.install_list.specs.Lists.{last_word}
use Rattle.install_list.proofs.lines.last_word.Given as goal

-- the rest of the line has the same text after its last space
abbrev pub invariant-words : goal.invariant-words
invariant-words l = record {
  same : last_word l.line ≡ last_word l.left;
  shorter : length l.left ≤ length l.line;
}

abbrev pub decreases-words : goal.decreases-words
decreases-words l = length l.left
