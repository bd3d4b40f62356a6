use Rattle.std.proofs.Common.{◌≡◌, ◌+◌, ◌*◌, length}
use Rattle.capture_file.proofs.writers.append_groups.Given as goal

-- each group has two octets
abbrev pub invariant-groups : goal.invariant-groups
invariant-groups l = length l.octets ≡ length l.fn.octets + 2 * l.group-index
