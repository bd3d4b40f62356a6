use Rattle.std.proofs.Common.{◌≡◌, ◌≤◌, length, vec_len}
use Rattle.rd_host.proofs.listeners_at.Given as goal

-- Each socket so far has an address, and there is at most one for each address so far.
abbrev pub invariant-addresses : goal.invariant-addresses
invariant-addresses l = record {
  each : length l.listen ≡ vec_len l.listeners;
  few : length l.listen ≤ l.address-index;
  within : l.address-index ≤ l.address-index-end;
  all : l.address-index-end ≡ length l.addresses;
}
