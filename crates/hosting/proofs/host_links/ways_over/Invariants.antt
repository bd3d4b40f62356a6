use Rattle.std.proofs.Common.{◌≡◌, ◌≤◌, length}
use Rattle.std.specs.Vec.{vec_capacity}
use Rattle.hosting.proofs.host_links.ways_over.Given as goal

-- a way for each listener so far, and there is room for all
abbrev pub invariant-ways : goal.invariant-ways
invariant-ways l = record {
  made : length l.ways.items ≡ l.listener-index;
  within : l.listener-index ≤ l.listener-index-end;
  all : l.listener-index-end ≡ length l.listeners;
  same : length l.listeners ≡ length l.fn.listeners;
  room : length l.fn.listeners ≤ vec_capacity l.ways;
}
