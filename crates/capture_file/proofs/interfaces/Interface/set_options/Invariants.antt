use Rattle.std.proofs.Common.{length}
use Rattle.capture_file.proofs.interfaces.Interface.set_options.Given as goal

-- each option takes four octets or more
abbrev pub decreases-options : goal.decreases-options
decreases-options l = length l.rest
