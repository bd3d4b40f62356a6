use Rattle.std.proofs.Common.{length}
use Rattle.capture_file.proofs.link_layers.tagged.Given as goal

-- each tag takes four octets
abbrev pub decreases-tags : goal.decreases-tags
decreases-tags l = length l.rest
