use Rattle.std.proofs.Common.{refl, sym, append-nil}
use Rattle.registrant.proofs.options.push_path.Goals as goal

pub returns-in-None : goal.returns-in-None
returns-in-None c = rw c.in-None.ensures (refl, sym (append-nil c.args.options.now))
