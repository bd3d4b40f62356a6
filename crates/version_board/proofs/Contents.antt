-- Two copies with the same version and the same entries have the same content.
use Rattle.std.proofs.Common.{◌≡◌}
use Rattle.std.specs.Arc.{arc_value}
use Rattle.version_board.specs.Contents.{content_of}
use Rattle.version_board.specs.Names.{name_of}
use Rattle.version_board.specs.declared.published.Published.{Published}

-- the same version and the same front
pub content_same : (x y : Published)
    → arc_value x.version ≡ arc_value y.version
    → x.front ≡ y.front
    → content_of x ≡ content_of y
content_same x y version front i = record {
  name = name_of (front i).book;
  version = version i;
  entries = (front i).log;
}
