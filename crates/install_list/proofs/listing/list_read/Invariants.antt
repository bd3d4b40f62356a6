use Rattle.std.proofs.Common.{◌≡◌, length}
use Rattle.std.specs.List.{All}
use Rattle.line_model.specs.Texts.{lines_of}
use Rattle.install_list.specs.Lists.{CanEntry, entries_from, listed}
use Rattle.install_list.proofs.ListLaws.{in_front}
use Rattle.install_list.proofs.listing.list_read.Given as goal

-- the entries so far, followed by those of the remaining lines, are the entries of the text
abbrev pub invariant-lines : goal.invariant-lines
invariant-lines l = record {
  judged :
      listed l.order l.fn.text
      ≡ in_front l.entries (entries_from l.order l.number (lines_of l.left));
  sent : All CanEntry l.entries;
}

abbrev pub decreases-lines : goal.decreases-lines
decreases-lines l = length l.left
