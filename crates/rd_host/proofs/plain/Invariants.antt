use Rattle.std.proofs.Common.{◌≡◌, ◌+◌, ◌≤◌, length, vec_len, vec_capacity}
use Rattle.std.specs.Vec.Iter.{into_iter_items}
use Rattle.rd_host.proofs.plain.Given as goal

-- those that are left and the ends that were made are all, and there is room for all
abbrev pub invariant-contexts : goal.invariant-contexts
invariant-contexts g l = record {
  all : length (into_iter_items l.context-iterator) + vec_len l.ends ≡ vec_len l.fn.contexts;
  room : vec_len l.fn.contexts ≤ vec_capacity l.ends;
}
