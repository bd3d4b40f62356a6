-- A published version, as plain data.
use Rattle.std.specs.Arc.{arc_value}
use Rattle.version_board.specs.declared.published.Published.{Published}
use Rattle.version_board.specs.declared.published.Content.{Content}
use Rattle.version_board.specs.Names.{name_of}

-- Returns a published version as plain data: the name of the board, the version, and the entries
-- that it stands for.
abbrev pub content_of : Published → Content
content_of p = record {
  name = name_of p.front.book;
  version = arc_value p.version;
  entries = p.front.log;
}
