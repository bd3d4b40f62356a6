use Rattle.std.proofs.Common.{◌≡◌, ◌++◌, take}
use Rattle.listing.specs.Pieces.{octets_of_pieces}
use Rattle.listing.proofs.appended_lines.append_pieces.Given as goal

abbrev pub invariant-pieces : goal.invariant-pieces
invariant-pieces l = l.into ≡ l.initial.into ++ octets_of_pieces (take l.piece-index l.pieces)
