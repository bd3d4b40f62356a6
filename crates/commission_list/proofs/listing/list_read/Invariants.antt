use Rattle.std.proofs.Common.{◌≡◌, ◌≤◌, ◌+◌, length}
use Rattle.std.specs.List.{All}
use Rattle.line_model.specs.Texts.{lines_of}
use Rattle.client_model.specs.Requests.{CanBeSent}
use Rattle.commission_list.specs.Lists.{asks_from, listed}
use Rattle.commission_list.proofs.ListLaws.{in_front}
use Rattle.commission_list.proofs.listing.list_read.Given as goal

abbrev pub invariant-lines : goal.invariant-lines
invariant-lines l = record {
  judged : listed l.fn.text ≡ in_front l.asks (asks_from l.number (lines_of l.left));
  sent : All CanBeSent l.asks;
  counted : length l.asks + 1 ≡ l.number;
  few : length l.asks ≤ 1024;
}

abbrev pub decreases-lines : goal.decreases-lines
decreases-lines l = length l.left
