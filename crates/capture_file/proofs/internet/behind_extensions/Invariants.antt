use Rattle.std.proofs.Common.{length}
use Rattle.capture_file.proofs.internet.behind_extensions.Given as goal

-- each header takes eight octets or more
abbrev pub decreases-headers : goal.decreases-headers
decreases-headers l = length l.rest
