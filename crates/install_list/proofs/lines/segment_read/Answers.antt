use Rattle.std.proofs.Common.{◌≡◌, rules}
use Rattle.install_list.proofs.LineLaws.{segment_other, segment_text}
use Rattle.install_list.proofs.lines.segment_read.Goals as goal

pub returns-in_default : goal.returns-in_default
returns-in_default c = segment_other c.args.octets.now c.in_default.ensures.cases.0

pub returns-in-Ok-copy_of : goal.returns-in-Ok-copy_of
returns-in-Ok-copy_of c =
    let same : c.in-Ok-copy_of.segment ≡ c.args.octets.now = search rules in
    (same, segment_text c.args.octets.now c.in-Ok.ensures.cases.1)
